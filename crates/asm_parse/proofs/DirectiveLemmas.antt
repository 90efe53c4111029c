-- The statements of lines that are an entry address, data or a window.
use Rattle.asm_parse.proofs.Common.{◌≡◌, ℕ, pos, Bool, true, false, if◌then◌else◌, [], ◌∷◌, codes, Some, None, Ok, refl, statement_of, Word, Number, Comma, Data, Window, Entry}
use Rattle.romp_table.specs.Names.{mnemonic, op_named}
use Rattle.asm_parse.specs.declared.statement.Expr.TheVariants as expr

-- `.entry N`, `.word N` and `.byte N`
pub entry_stated : (number entry : ℕ) → statement_of number (Word (codes ".entry") ∷ Number entry ∷ []) ≡ Ok (Some (record { line = number; label = None; body = Entry (expr.Number (pos entry)) }))
unfolding op_named mnemonic
entry_stated number entry = refl

pub word_stated : (number word : ℕ) → statement_of number (Word (codes ".word") ∷ Number word ∷ []) ≡ Ok (Some (record { line = number; label = None; body = Data 4 (expr.Number (pos word)) }))
unfolding op_named mnemonic
word_stated number word = refl

pub byte_stated : (number byte : ℕ) → statement_of number (Word (codes ".byte") ∷ Number byte ∷ []) ≡ Ok (Some (record { line = number; label = None; body = Data 1 (expr.Number (pos byte)) }))
unfolding op_named mnemonic
byte_stated number byte = refl

-- `.window I, S, r` or `rw`
pub window_stated : (number register segment : ℕ) (write : Bool) → statement_of number (Word (codes ".window") ∷ Number register ∷ Comma ∷ Number segment ∷ Comma ∷ Word (if write then codes "rw" else codes "r") ∷ []) ≡ Ok (Some (record { line = number; label = None; body = Window register segment write }))
unfolding op_named mnemonic
window_stated number register segment true = refl
window_stated number register segment false = refl
