-- What showing bytes of a store and shipping its records left of a file and a screen.
use Rattle.std.specs.Prelude.{◌≡◌, ℕ, ◌≤◌, ◌<◌, ◌⊎◌, List, []}
use Rattle.file_runs.specs.Below.{behind, Deed, FlatStore, IsContent, IsFaultAt, StoreView, store_number, printed_of, Shows, Stands, stands, Status, ship_text}
use Rattle.standby.specs.Shipped.{shipped}
use Rattle.call_status.specs.declared.status.Status.TheVariants as status
use Rattle.store_calls.specs.Show.{IsInside, rows_of}
use Rattle.store_calls.specs.declared.show.Range.{Range}
use Rattle.file_runs.specs.FileRun.{Hands, KeepsFile}

-- The bytes stand for a store that has the range, and the rows of the range were handed to the screen.
pub record HandsRows (range : Range) (first : List ℕ) (puts : List Deed) (end : Status) : Type 0 where
  pub number : ℕ
  pub store : FlatStore
  pub stood : stands first ≡ Stands number store
  pub inside : IsInside store.directory range
  pub handed : Hands puts (rows_of store range) end

-- the bytes stand for a store that hasn't the range
abbrev pub HasNoSuch : Range → List ℕ → Type 0
HasNoSuch range first = (number : ℕ) × (store : FlatStore) × (stands first ≡ Stands number store) × (¬ (IsInside store.directory range))

-- what `show` handed to the screen, by its end; other ends don't come
abbrev pub ShowsBy : Range → (first : List ℕ) (puts : List Deed) (end : Status) → Type 0
ShowsBy range first puts status.Done = HandsRows range first puts status.Done
ShowsBy range first puts status.PutFault = HandsRows range first puts status.PutFault
ShowsBy range first puts status.DiskFault = (printed_of puts ≡ []) ⊎ HandsRows range first puts status.DiskFault
ShowsBy range first puts status.NoRange = (puts ≡ []) × HasNoSuch range first
ShowsBy range first puts (status.Store offset) = (puts ≡ []) × IsFaultAt first offset
ShowsBy range first puts status.NoMemory = puts ≡ []
ShowsBy range first puts _ = ⊥

-- `show` on a file that gave these bytes, which it keeps.
pub record ShownOnFile (range : Range) (first : List ℕ) (deeds puts : List Deed) (end : Status) : Type 0 where
  pub keeps : KeepsFile first deeds
  pub shows : ShowsBy range first puts end

-- The bytes show a store that keeps all records behind the number, and the ship text of these was handed to the screen.
pub record HandsRecords (from : ℕ) (first : List ℕ) (puts : List Deed) (end : Status) : Type 0 where
  pub store : StoreView
  pub shows : Shows first store
  pub kept : behind store.bank.base from ≤ store.bank.count
  pub handed : Hands puts (ship_text (shipped store shows.read.records from)) end
  pub content : end ≡ status.Done → IsContent (shipped store shows.read.records from)

-- The bytes show a store with this number that keeps the records behind this base, and not all behind the number asked for.
pub record KeepsTooFew (from : ℕ) (first : List ℕ) (base number : ℕ) : Type 0 where
  pub store : StoreView
  pub shows : Shows first store
  pub base_is : base ≡ store.bank.base
  pub number_is : number ≡ store_number store
  pub few : store.bank.count < behind store.bank.base from

-- what `ship` handed to the screen, by its end; other ends don't come
abbrev pub FileShipsBy : (from : ℕ) (first : List ℕ) (puts : List Deed) (end : Status) → Type 0
FileShipsBy from first puts status.Done = HandsRecords from first puts status.Done
FileShipsBy from first puts status.PutFault = HandsRecords from first puts status.PutFault
FileShipsBy from first puts status.DiskFault = (printed_of puts ≡ []) ⊎ HandsRecords from first puts status.DiskFault
FileShipsBy from first puts (status.NotKept base number) = (puts ≡ []) × KeepsTooFew from first base number
FileShipsBy from first puts (status.Store offset) = (puts ≡ []) × IsFaultAt first offset
FileShipsBy from first puts status.NoMemory = puts ≡ []
FileShipsBy from first puts _ = ⊥

-- `ship` on a file that gave these bytes, which it keeps.
pub record ShippedOnFile (from : ℕ) (first : List ℕ) (deeds puts : List Deed) (end : Status) : Type 0 where
  pub keeps : KeepsFile first deeds
  pub ships : FileShipsBy from first puts end
