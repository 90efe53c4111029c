-- A store as it is kept in memory: its header, and the chosen bank.
use Rattle.std.specs.Prelude.{◌≡◌, ℕ, List, Some, length}
use Rattle.store.specs.Below.{Header, line_count, RecordLine}
use Rattle.store.specs.Kept.{BankView}
use Rattle.store.specs.Kept as bank

pub record StoreView : Type 0 where
  pub header : Header
  pub bank : BankView

-- the bank has the sizes that the header says, of pages and of its area, and a newest place for each of its lines
pub record Fits (header : Header) (bank : BankView) : Type 0 where
  pub page : header.directory.page ≡ bank.page
  pub bank_bytes : header.bank_bytes ≡ bank.bank_bytes
  pub lines : line_count header.directory ≡ length bank.newest

-- the number of the store
abbrev pub store_number : StoreView → ℕ
store_number store = bank.bank_number store.bank

-- the store with a record of these lines begun
abbrev pub with_begun : StoreView → List RecordLine → StoreView
with_begun store lines = record store { bank = record store.bank { begun = Some lines } }
