-- Where the records of a bank lie in its area, and what is read of one.
use Rattle.std.specs.Prelude.{◌≡◌, ◌⊎◌, ℕ, ◌+◌, ◌*◌, ◌<◌, List, [], ◌∷◌, ◌++◌, length, take, drop, slice_get, Some, Result, IfOk}
use Rattle.store.specs.Below.{AsksFor, big_number, entry_bytes, Failed, FailsOnlyCounted, Ghosts, line_bytes, number_at, OnlyAsks, PageSize, ReadsTold, record_bytes, RecordLine}
use Rattle.store.specs.declared.find.Record.{Record}
use Rattle.store.specs.Kept.{BankView}
use Rattle.store.specs.Opened.{IsRead}

-- the bytes of an area that these records take, in a store with pages of a size
abbrev pub area_bytes : PageSize → List (List RecordLine) → ℕ
area_bytes page [] = 0
area_bytes page (lines ∷ records) = record_bytes page (length lines) + area_bytes page records

-- The kept bank is what these bytes hold, and at this place of its area lies a record: behind these, with these lines, in front of those.
pub record IsRecordAt (held : List ℕ) (bank : BankView) (place : ℕ) : Type 0 where
  pub read : IsRead held bank
  pub before : List (List RecordLine)
  pub lines : List RecordLine
  pub after : List (List RecordLine)
  pub are : read.records ≡ before ++ lines ∷ after
  pub place_is : place ≡ area_bytes bank.page before

-- the record that is told lies there, and with a gate behind it fits an area of so many bytes; or it is told without lines, and with nothing behind it
pub record IsFound (page : PageSize) (bank_bytes place : ℕ) (found : Record) : Type 0 where
  pub place_is : found.place ≡ place
  pub fits : ((found.count ≡ 0) × (found.next ≡ 0)) ⊎ ((found.next ≡ place + record_bytes page found.count) × (found.next < bank_bytes))

-- the record has as many lines as that which lies there, and the next one lies behind these
pub record IsCounted (page : PageSize) (place : ℕ) (lines : List RecordLine) (found : Record) : Type 0 where
  pub count : found.count ≡ length lines
  pub next : found.next ≡ place + record_bytes page (length lines)

-- the record is counted as these bytes count what lies at a place of an area, where that with a gate behind it fits so many bytes
abbrev pub IsCountedAt : PageSize → (area bank_bytes place : ℕ) → List ℕ → Record → Type 0
IsCountedAt page area bank_bytes place held found =
    place + 11 + entry_bytes page * number_at held (area + place + 1) 2 < bank_bytes
    → (found.count ≡ number_at held (area + place + 1) 2) × (found.next ≡ place + 11 + entry_bytes page * found.count)

-- a line of a record lies in these bytes at an offset: its number, and its bytes
pub record BeginsWithLine (page : PageSize) (at : ℕ) (into held : List ℕ) (line : ℕ) : Type 0 where
  pub number : line ≡ big_number 4 (drop at held)
  pub bytes_are : into ≡ take (line_bytes page) (drop 4 (drop at held))

-- these are the number and the bytes of that line of a record
pub record IsLineOf (lines : List RecordLine) (index line : ℕ) (into : List ℕ) : Type 0 where
  pub one : RecordLine
  pub there : slice_get lines index ≡ Some one
  pub number : line ≡ one.line
  pub bytes_are : into ≡ one.bytes

-- What is answered where the record is read that lies at a place of the kept bank, in a store with these sizes: the disk is only asked, and fails only where
-- its count rose; a record that is told is found there, and where the told bytes are the bank's it is counted as the one that lies there.
pub record ReadsRecord {W : Type 0} (G : Ghosts W) (page : PageSize) (bank_bytes : ℕ) (bank : BankView) (place : ℕ) (before after : W) (result : Result Record Failed) : Type 0 where
  pub asks : OnlyAsks G before after
  pub found : IfOk result (IsFound page bank_bytes place)
  pub read : ReadsTold G before (λ held found. (at : IsRecordAt held bank place) → IsCounted page place at.lines found) result
  pub cause : FailsOnlyCounted (G.disk_faults before) (G.disk_faults after) result

-- The same of a line of such a record: where the told bytes are the bank's, and the record has as many lines as was found, these are its number and its bytes.
abbrev pub ReadsLine : {W : Type 0} → Ghosts W → BankView → (of : Record) → (index : ℕ) → (into : List ℕ) → W → W → Result ℕ Failed → Type 0
ReadsLine G bank of index into before after result =
    AsksFor G (λ held line. (at : IsRecordAt held bank of.place) → length at.lines ≡ of.count → IsLineOf at.lines index line into) before after result
