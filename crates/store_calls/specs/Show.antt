-- What printing bytes of a store did.
use Rattle.std.specs.Prelude.{◌≡◌, ◌≢◌, ◌⊎◌, ℕ, ◌+◌, ◌^◌, ◌≤◌, List, [], length, Some, IsSome, IsTrue, Result, Ok, Err, OnOk, IfErr}
use Rattle.std.specs.Int.{div_ceil}
use Rattle.store_calls.specs.Below.{AreTold, AsksAndPuts, byte_count, bytes_at, Called, Damaged, Failed, FailsOnlyCounted, FlatStore, Ghosts, held_of, IsFaultAt, IsOfOpening, IsShown, IsUsable, Layout, Leaves, length_of, NotAStore, OnlyAsks, OnlyOpens, OpensAndPuts, Prints, PrintsBy, Rose, Standing, Stands, stands, start_of, Status, total}
use Rattle.store.specs.KeptStore.{StoreView}
use Rattle.listing.specs.Listing.{row_lines}
use Rattle.call_status.specs.declared.status.Status.TheVariants as status
use Rattle.store_calls.specs.declared.show.Range.{Range}

-- the range lies in a segment of the directory
abbrev pub IsInside : Layout → Range → Type 0
IsInside directory range = (bytes : ℕ) × (length_of directory range.segment ≡ Some bytes) × (range.from + range.count ≤ bytes)

-- so many bytes of what stands, from a place on
abbrev pub bytes_standing : Standing → ℕ → ℕ → List ℕ
bytes_standing (Stands number store) at count = bytes_at store.bytes at count
bytes_standing (NotAStore offset) at count = []
bytes_standing (Damaged offset) at count = []

-- the rows of a range of a store: each begins with the offset in the segment of its first byte
abbrev pub rows_of : FlatStore → Range → List ℕ
rows_of store range = row_lines range.from (bytes_at store.bytes (start_of store.directory range.segment + range.from) range.count)

-- So many bytes from a place on may be read: the bank needn't be reopened, the disk holds the store, and they lie in it.
pub record CanRead {W : Type 0} (G : Ghosts W) (durable : StoreView) (at count : ℕ) (outside : W) : Type 0 where
  pub store : IsUsable G (total durable.header) durable.bank outside
  pub within : at + count ≤ byte_count durable.header.directory
  pub small : at + count ≤ 2 ^ 22

-- Bytes from a place on are read, as many as before: of a store that told bytes show, these are the bytes; the disk is only asked, and its count tells of a failure.
pub record ReadsPart {W : Type 0} (G : Ghosts W) (store : StoreView) (at : ℕ) (before now : List ℕ) (old new : W) (result : Result (Unit {0}) Failed) : Type 0 where
  pub asks : OnlyAsks G old new
  pub read : OnOk result (IsShown G store old → now ≡ bytes_standing (stands (held_of G old)) at (length before))
  pub cause : FailsOnlyCounted (G.disk_faults old) (G.disk_faults new) result

-- how puts of these bytes went, by the result: all are printed, or a prefix of them
abbrev pub PutsDone : {W : Type 0} → Ghosts W → List ℕ → W → W → Result (Unit {0}) Status → Type 0
PutsDone G bytes old new (Ok done) = Prints {T = Unit {0}} (G.printed old) (G.printed new) bytes (Ok tt)
PutsDone G bytes old new (Err status) = Prints {T = Unit {0}} (G.printed old) (G.printed new) bytes (Err (record {}))

-- why it stopped: the disk's count rose, or the screen's and not the disk's
abbrev pub StopsBy : {W : Type 0} → Ghosts W → W → W → Status → Type 0
StopsBy G old new status.DiskFault = Rose (G.disk_faults old) (G.disk_faults new)
StopsBy G old new status.PutFault = Rose (G.put_faults old) (G.put_faults new) × (G.disk_faults new ≡ G.disk_faults old)
StopsBy G old new _ = ⊥

-- What printing so many bytes of a kept store from a place on did, in rows that begin with this offset: of a store that told bytes show the
-- rows of its bytes are printed, each by one put, or a prefix of them.
pub record PutsBytes {W : Type 0} (G : Ghosts W) (store : StoreView) (at offset count : ℕ) (old new : W) (result : Result (Unit {0}) Status) : Type 0 where
  pub only : AsksAndPuts G old new
  pub printed : IsShown G store old → PutsDone G (row_lines offset (bytes_standing (stands (held_of G old)) at count)) old new result
  pub times : OnOk result (IsSome (G.printed old) → (G.moment new).puts ≡ (G.moment old).puts + div_ceil count 16)
  pub unfailed : OnOk result (G.put_faults new ≡ G.put_faults old)
  pub asked : OnOk result (G.disk_faults new ≡ G.disk_faults old)
  pub stops : IfErr result (StopsBy G old new)

-- so many bytes were read
abbrev pub AreBytesRead : {W : Type 0} → Ghosts W → StoreView → ℕ → ℕ → W → Type 0
AreBytesRead G store at count old = IsShown G store old → length (bytes_standing (stands (held_of G old)) at count) ≡ count

-- and they were put, or nothing was
abbrev pub HasShown : {W : Type 0} → Ghosts W → StoreView → ℕ → ℕ → W → W → Result (Unit {0}) Status → Type 0
HasShown G store at count old new (Ok done) = AreBytesRead G store at count old
HasShown G store at count old new (Err status) = (G.printed new ≡ G.printed old) ⊎ AreBytesRead G store at count old

-- the told bytes stand for a store that has the range
abbrev pub HasRange : {W : Type 0} → Ghosts W → Range → W → Type 0
HasRange G range before = IsSome (G.held before) → (number : ℕ) × (store : FlatStore) × (stands (held_of G before) ≡ Stands number store) × IsInside store.directory range

-- and for one that hasn't
abbrev pub HasNoRange : {W : Type 0} → Ghosts W → Range → W → Type 0
HasNoRange G range before = IsSome (G.held before) → (number : ℕ) × (store : FlatStore) × (stands (held_of G before) ≡ Stands number store) × (¬ (IsInside store.directory range))

-- where the told bytes stand for a store: its rows are printed, or a prefix of them
abbrev pub PrintsRows : {W : Type 0} → Ghosts W → Range → W → W → Status → Type 0
PrintsRows G range before after status =
    IsSome (G.held before) → (number : ℕ) (store : FlatStore) → stands (held_of G before) ≡ Stands number store → PrintsBy (G.printed before) (G.printed after) (rows_of store range) status

-- each row by one put
abbrev pub PutsRows : {W : Type 0} → Ghosts W → Range → W → W → Type 0
PutsRows G range before after = IsSome (G.printed before) → (G.moment after).puts ≡ (G.moment before).puts + div_ceil range.count 16

-- what it did, by the status, and where the disk failed, nothing was put or the range is there; other statuses don't come
abbrev pub ShownBy : {W : Type 0} → Ghosts W → Range → W → W → Status → Type 0
ShownBy G range before after status.Done = HasRange G range before × PrintsRows G range before after status.Done × PutsRows G range before after
ShownBy G range before after status.PutFault = HasRange G range before × PrintsRows G range before after status.PutFault
ShownBy G range before after status.DiskFault = PrintsRows G range before after status.DiskFault × ((G.printed after ≡ G.printed before) ⊎ HasRange G range before)
ShownBy G range before after status.NoRange = OnlyOpens G before after × HasNoRange G range before
ShownBy G range before after (status.Store offset) = OnlyOpens G before after × (IsSome (G.held before) → IsFaultAt (held_of G before) offset)
ShownBy G range before after status.NoMemory = OnlyOpens G before after
ShownBy G range before after _ = ⊥

-- What it did; it writes nothing and syncs once at most, each image that a crash may leave since is one of the start, and there is no order. Where the disk is honest and
-- tells its bytes, each that is left once something is printed is just these. The disk's count of faults rises with DiskFault alone.
pub record RangeShown {W : Type 0} (G : Ghosts W) (range : Range) (call : Called W) : Type 0 where
  pub no_order : call.order ≡ []
  pub only : OpensAndPuts G call.before call.after
  pub sure : IsTrue (G.is_honest call.before) → IsSome (G.held call.before) → Leaves G (λ image seen. AreTold (G.printed call.before) seen ⊎ (image ≡ held_of G call.before)) call.before call.after
  pub calm : call.status ≢ status.DiskFault → G.disk_faults call.after ≡ G.disk_faults call.before
  pub by_status : ShownBy G range call.before call.after call.status

-- a status of printing bytes of a store
abbrev pub IsOfShow : Status → Type 0
IsOfShow status.Done = Unit {0}
IsOfShow status.PutFault = Unit {0}
IsOfShow status.NoRange = Unit {0}
IsOfShow other = IsOfOpening other
