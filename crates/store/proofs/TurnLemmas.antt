-- Lines that are placed anew.
use Rattle.store.proofs.Common.{◌≡◌, ℕ, zero, suc, ◌+◌, ◌*◌, List, [], ◌∷◌, length, take, drop, refl, ◌∙◌, ap, arith, replicate, option_map, All-replicate, big_number, overlaid, PageSize, Which, line_bytes, entry_bytes, in_order, RecordLine, lines_from, wrong_line, Standing, laid, one_more, Inside, buffered, kept_of, BankView, bank_place, AreNewestWithin, placed, bank_turned, Option, None, IfSome, ◌%◌, ◌^◌, ◌≤◌, nat_tests}
use Rattle.store.proofs.NoteLemmas.{first_in_order, low_of}

-- the same bytes read from another offset are the lines placed there
pub lines_placed : (page : PageSize) (count at from : ℕ) (bytes : List ℕ) → lines_from page count at bytes ≡ placed page at (lines_from page count from bytes)
lines_placed page zero at from bytes = refl
lines_placed page (suc count) at from bytes = ap (λ (these : List RecordLine). record { line = big_number 4 bytes; at = at; bytes = take (line_bytes page) (drop 4 bytes) } ∷ these) (lines_placed page count (at + entry_bytes page) (from + entry_bytes page) (drop (entry_bytes page) bytes))

-- they are in order where they were
pub placed_order : (page : PageSize) (bound least at : ℕ) (lines : List RecordLine) → wrong_line bound least lines ≡ None → wrong_line bound least (placed page at lines) ≡ None
placed_order page bound least at [] none = refl
placed_order page bound least at (line ∷ lines) none =
    let first = first_in_order bound least line lines none in
    let rest = placed_order page bound (line.line + 1) (at + entry_bytes page) lines first.rest in
    rw (in_order bound least line.line (low_of bound least line lines none) first.below) rest

-- they are laid over a store as they were
laid_placed : (page size : PageSize) (at : ℕ) (lines : List RecordLine) (bytes : List ℕ) → laid size bytes (placed page at lines) ≡ laid size bytes lines
laid_placed page size at [] bytes = refl
laid_placed page size at (line ∷ lines) bytes = laid_placed page size (at + entry_bytes page) lines (overlaid bytes (line.line * line_bytes size) line.bytes)

pub one_more_placed : (page : PageSize) (at : ℕ) (lines : List RecordLine) (standing : Standing) → one_more (placed page at lines) standing ≡ one_more lines standing
one_more_placed page at lines standing = grind (arith, nat_tests, laid_placed)

-- no place lies behind an end
pub none_within : (page : PageSize) (end count : ℕ) → AreNewestWithin page end (replicate count None)
none_within page end count = All-replicate (λ (place : Option ℕ). IfSome place (λ at. at + line_bytes page ≤ end)) count None tt

-- the begun lines behind another gate
begun_placed : (begun : Option ℕ) (bank : Inside) (at : ℕ) → option_map (λ count. lines_from bank.page count (at + 8 + 11) (drop 10 bank.body)) begun ≡ option_map (placed bank.page (at + 19)) (option_map (buffered bank) begun)
begun_placed begun bank at = grind (arith, nat_tests, lines_placed)

-- the fields of a bank that was turned to
abbrev pub turned_fields : Which → Inside → (base at : ℕ) → List (Option ℕ) → Inside
turned_fields which bank base at newest = record { which = which; page = bank.page; bank_bytes = bank.bank_bytes; base = base; count = 0; gate = at + 8; newest = newest; begun = bank.begun; spoiled = bank.spoiled; body = bank.body }

pub turned_is : (which : Which) (bank : Inside) (kept : BankView) (base at : ℕ) (newest : List (Option ℕ)) → kept_of bank ≡ kept → base ≡ (bank.base + bank.count) % 2 ^ 64 → at ≡ bank_place which bank.bank_bytes → newest ≡ replicate (length bank.newest) None
    → kept_of (turned_fields which bank base at newest) ≡ bank_turned which kept
turned_is which bank kept base at newest is base_is at_is newest_is =
    rw (base_is, at_is, newest_is)
    (ap (λ (lines : Option (List RecordLine)). record (bank_turned which (kept_of bank)) { begun = lines })
    (begun_placed bank.begun bank (bank_place which bank.bank_bytes)) ∙ ap (bank_turned which) is)
