-- A bank that is turned to: the other one, without records.
pub use Rattle.store_format.specs.Asked.{head_bytes}
use Rattle.std.specs.Prelude.{ℕ, ◌+◌, List, [], ◌∷◌, length, replicate, None, Result}
use Rattle.store.specs.Below.{entry_bytes, Failed, Ghosts, option_map, PageSize, RecordLine, Which}
use Rattle.store.specs.Held.{WritesOnce}
use Rattle.store.specs.Kept.{BankView, bank_place, bank_number}

-- these lines one behind another, from an offset on
abbrev pub placed : PageSize → ℕ → List RecordLine → List RecordLine
placed page at [] = []
placed page at (line ∷ lines) = record line { at = at } ∷ placed page (at + entry_bytes page) lines

-- the bank at this place with the number as its base, no record, and the begun record behind its gate
abbrev pub bank_turned : Which → BankView → BankView
bank_turned which bank = record bank {
  which = which;
  base = bank_number bank;
  count = 0;
  gate = bank_place which bank.bank_bytes + 8;
  newest = replicate (length bank.newest) None;
  begun = option_map (placed bank.page (bank_place which bank.bank_bytes + 19)) bank.begun;
}

-- the head of the bank at a place is written, with the number as its base
abbrev pub WritesHead : {W : Type 0} → Ghosts W → {T : Type 0} → BankView → Which → W → W → Result T Failed → Type 0
WritesHead G bank which old new result = WritesOnce G (bank_place which bank.bank_bytes) (head_bytes (bank_number bank)) old new result
