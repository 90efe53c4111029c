-- What a bank is that was read from the disk.
use Rattle.std.specs.Prelude.{◌≡◌, ◌↔◌, ◌<◌, ℕ, List, length, slice_get, Some, None, IsSome, Result, IfErr, is_err}
use Rattle.store.specs.Below.{Stays, AsksUnless, BankContent, bank_held, bank_of, Faulty, Ghosts, Header, held_of, Holds, IfTold, line_count, number_at, PageSize, RecordLine, Rose, Which}
use Rattle.store.specs.declared.open_fault.OpenFault.{OpenFault}
use Rattle.store.specs.declared.open_fault.ReopenFault.{ReopenFault}
use Rattle.store.specs.declared.open_fault.OpenFault.TheVariants as opening
use Rattle.store.specs.declared.open_fault.ReopenFault.TheVariants as reopening
use Rattle.store.specs.Kept.{BankView, SameShape, bank_place, AreNewest, IsNowhere}

-- what these bytes hold where such a bank of a store with pages of a size and so many lines lies
abbrev pub bank_in : List ℕ → PageSize → Which → (bank_bytes bound : ℕ) → BankContent
bank_in held page which bank_bytes bound = bank_held held page bound (bank_place which bank_bytes) bank_bytes

-- The bank is what these bytes hold where it lies: base, closed gate, number of records and newest places.
pub record IsRead (held : List ℕ) (bank : BankView) : Type 0 where
  pub records : List (List RecordLine)
  pub base : number_at held (bank_place bank.which bank.bank_bytes) 8 ≡ bank.base
  pub holds : bank_in held bank.page bank.which bank.bank_bytes (length bank.newest) ≡ Holds bank.gate records
  pub count : length records ≡ bank.count
  pub newest : AreNewest bank.newest records

-- a line of a bank that was read has no newest place exactly where no record of the bank has the line
abbrev pub NewestLaw : Type 0
NewestLaw = (held : List ℕ) (bank : BankView) (read : IsRead held bank) (line : ℕ) → line < length bank.newest → (slice_get bank.newest line ≡ Some None) ↔ IsNowhere line read.records

-- the bank is this one of a store with such a header, and has no record begun
pub record IsBankOf (header : Header) (which : Which) (bank : BankView) : Type 0 where
  pub page : header.directory.page ≡ bank.page
  pub bank_bytes : header.bank_bytes ≡ bank.bank_bytes
  pub bound : line_count header.directory ≡ length bank.newest
  pub which_is : bank.which ≡ which
  pub begun : bank.begun ≡ None

-- a disk's fault is counted; damage is a fault of the bank in the bytes that are told
abbrev pub IsBankReopenFault : {W : Type 0} → Ghosts W → W → W → Which → BankView → ReopenFault → Type 0
IsBankReopenFault G old new which bank (reopening.Damaged offset) = IsSome (G.held old) → bank_in (held_of G old) bank.page which bank.bank_bytes (length bank.newest) ≡ Faulty offset
IsBankReopenFault G old new which bank reopening.DiskFault = Rose (G.disk_faults old) (G.disk_faults new)

-- the same for a bank that is opened: it is no other store, and memory is free
abbrev pub IsBankOpenFault : {W : Type 0} → Ghosts W → W → W → Header → Which → OpenFault → Type 0
IsBankOpenFault G old new header which (opening.NotAStore offset) = ⊥
IsBankOpenFault G old new header which (opening.Damaged offset) = IsSome (G.held old) → bank_of (held_of G old) header which ≡ Faulty offset
IsBankOpenFault G old new header which opening.DiskFault = Rose (G.disk_faults old) (G.disk_faults new)
IsBankOpenFault G old new header which opening.Memory = Unit {0}

-- an opening of a bank only asks the disk
abbrev pub AsksOfBank : {W T : Type 0} → Ghosts W → Header → Which → W → W → Result T OpenFault → Type 0
AsksOfBank G header which old new result = AsksUnless G Stays opening.DiskFault (IsBankOpenFault G old new header which) old new result

-- and so does one that is read again
abbrev pub AsksBankAgain : {W T : Type 0} → Ghosts W → Which → BankView → W → W → Result T ReopenFault → Type 0
AsksBankAgain G which bank old new result = AsksUnless G Stays reopening.DiskFault (IsBankReopenFault G old new which bank) old new result

-- The sizes of a bank that is read again stay, no record is begun, and where that failed it is to be reopened.
pub record IsStartedAgain {T : Type 0} (old new : BankView) (result : Result T ReopenFault) : Type 0 where
  pub shape : SameShape old new
  pub begun : new.begun ≡ None
  pub spoiled : new.spoiled ≡ is_err result

-- where the bytes that are told are such, nothing but the disk's own fault is answered
abbrev pub FailsByDisk : {W T : Type 0} → Ghosts W → (List ℕ → Type 0) → W → Result T ReopenFault → Type 0
FailsByDisk G P before result = IfErr result (λ fault. IfTold G before (λ held. P held → fault ≡ reopening.DiskFault))
