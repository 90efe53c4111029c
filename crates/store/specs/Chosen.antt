-- The bank that the selector chooses.
pub use Rattle.store_format.specs.Asked.{other, selector_of}
use Rattle.std.specs.Prelude.{◌≡◌, ℕ, List, length, Result}
use Rattle.store.specs.Below.{chosen, Ghosts, Header, held_of, IsStore, line_count, RecordLine, Which}
use Rattle.store.specs.declared.open_fault.OpenFault.{OpenFault}
use Rattle.store.specs.declared.open_fault.ReopenFault.{ReopenFault}
use Rattle.store.specs.Kept.{BankView}
use Rattle.store.specs.Opened.{AsksBankAgain, AsksOfBank, IsRead}

-- The kept bank is the one that these bytes choose, and what they hold there.
pub record IsChosen (held : List ℕ) (bank : BankView) : Type 0 where
  pub chosen_is : chosen held ≡ bank.which
  pub read : IsRead held bank

-- These bytes are those of a store whose banks are like the kept one.
pub record IsStoreLike (held : List ℕ) (bank : BankView) : Type 0 where
  pub header : Header
  pub which : Which
  pub base : ℕ
  pub gate : ℕ
  pub records : List (List RecordLine)
  pub store : IsStore held header which base gate records
  pub page : header.directory.page ≡ bank.page
  pub bank_bytes : header.bank_bytes ≡ bank.bank_bytes
  pub bound : line_count header.directory ≡ length bank.newest

-- an opening of banks only asks the disk
abbrev pub AsksOfBanks : {W T : Type 0} → Ghosts W → Header → W → W → Result T OpenFault → Type 0
AsksOfBanks G header old new result = AsksOfBank G header (chosen (held_of G old)) old new result

-- and so do those that are read again
abbrev pub AsksBanksAgain : {W T : Type 0} → Ghosts W → BankView → W → W → Result T ReopenFault → Type 0
AsksBanksAgain G bank old new result = AsksBankAgain G (chosen (held_of G old)) bank old new result
