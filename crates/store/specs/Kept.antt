-- The newest place of each line, and a bank as it is kept.
pub use Rattle.store_format.specs.Bank.{place_in, newest_place}
use Rattle.std.specs.Prelude.{◌≡◌, ℕ, ◌+◌, ◌*◌, ◌%◌, ◌^◌, Bool, true, List, [], ◌∷◌, ◌++◌, length, Option, None, Some, unwrap_or, ◌≢◌, ◌<◌, ◌≤◌, fold, slice_index_or, All, IfSome}
use Rattle.store.specs.Below.{A, B, entry_bytes, line_bytes, PageSize, RecordLine, Which, overlaid, bytes_at}

-- these are the newest places of the lines in records
abbrev pub AreNewest : List (Option ℕ) → List (List RecordLine) → Type 0
AreNewest newest records = (line : ℕ) → line < length newest → slice_index_or newest line None ≡ newest_place line records

-- no record has the line
abbrev pub IsNowhere : ℕ → List (List RecordLine) → Type 0
IsNowhere line records = All (λ lines. All (λ one. one.line ≢ line) lines) records

-- the newest place of each line, where the lines of a record are newer
abbrev pub noted : List (Option ℕ) → List RecordLine → List (Option ℕ)
noted newest lines = fold (λ newest line. overlaid newest line.line (Some (line.at + 4) ∷ [])) newest lines

-- each line's newest bytes lie in front of an end
abbrev pub AreNewestWithin : PageSize → ℕ → List (Option ℕ) → Type 0
AreNewestWithin page end newest = All (λ place. IfSome place (λ at. at + line_bytes page ≤ end)) newest

-- those that lie in front of an end, or of a later one, stay so
abbrev pub StaysWithin : PageSize → ℕ → (old new : List (Option ℕ)) → Type 0
StaysWithin page upto old new = (end : ℕ) → upto ≤ end → AreNewestWithin page end old → AreNewestWithin page end new

-- the page with so many bytes at the line's newest place over a part of it, where there is such a place
abbrev pub newest_over : ℕ → List ℕ → Option ℕ → List ℕ → ℕ → List ℕ
newest_over bytes held None page at = page
newest_over bytes held (Some place) page at = overlaid page at (bytes_at held place bytes)

-- Which bank it is, the size of the store's pages, the bytes of its record area, its base number, how many records it has, where its closed gate is,
-- the newest place of each line of the store, the lines of the record that is begun, where one is, as they will lie behind the gate, and whether it has
-- to be reopened before it reads or writes.
pub record BankView : Type 0 where
  pub which : Which
  pub page : PageSize
  pub bank_bytes : ℕ
  pub base : ℕ
  pub count : ℕ
  pub gate : ℕ
  pub newest : List (Option ℕ)
  pub begun : Option (List RecordLine)
  pub spoiled : Bool

-- the bytes of a line of the store
abbrev pub line_bytes_of : BankView → ℕ
line_bytes_of bank = line_bytes bank.page

-- the bytes of a record with so many lines
abbrev pub record_bytes_of : BankView → ℕ → ℕ
record_bytes_of bank count = 11 + entry_bytes bank.page * count

-- where a bank with so many bytes lies, and where its area ends
abbrev pub bank_place : Which → ℕ → ℕ
bank_place A bank_bytes = 256
bank_place B bank_bytes = 264 + bank_bytes

abbrev pub end_of : Which → ℕ → ℕ
end_of A bank_bytes = 264 + bank_bytes
end_of B bank_bytes = 272 + 2 * bank_bytes

-- where the area ends
abbrev pub area_end : BankView → ℕ
area_end bank = end_of bank.which bank.bank_bytes

-- the number that the bank's records lead to
abbrev pub bank_number : BankView → ℕ
bank_number bank = (bank.base + bank.count) % 2 ^ 64

-- the lines of the record that is begun
abbrev pub begun_of : BankView → List RecordLine
begun_of bank = unwrap_or bank.begun []

-- where a record with so many lines would end, and the begun record ends, with the gate behind it
abbrev pub end_with : BankView → (lines : ℕ) → ℕ
end_with bank lines = bank.gate + record_bytes_of bank lines + 1

abbrev pub needed_end : BankView → ℕ
needed_end bank = end_with bank (length (begun_of bank))

-- the bank with one line more in its begun record
abbrev pub with_line : BankView → ℕ → List ℕ → BankView
with_line bank line bytes =
    record bank { begun = Some (begun_of bank ++ record { line = line; at = bank.gate + record_bytes_of bank (length (begun_of bank)); bytes = bytes } ∷ []) }

-- the bank after a write or a reopening that failed: it has no begun record and is to be reopened
abbrev pub spoilt : BankView → BankView
spoilt bank = record bank { begun = None; spoiled = true }

-- the bank with the begun record as one record more
abbrev pub with_record : BankView → BankView
with_record bank = record bank {
  count = bank.count + 1;
  gate = bank.gate + record_bytes_of bank (length (begun_of bank));
  newest = noted bank.newest (begun_of bank);
  begun = None;
}

-- a bank of the same size, of a store with pages of the same size and as many lines
pub record SameShape (old new : BankView) : Type 0 where
  pub page : new.page ≡ old.page
  pub bank_bytes : new.bank_bytes ≡ old.bank_bytes
  pub lines : length new.newest ≡ length old.newest
