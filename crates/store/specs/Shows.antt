-- What a store that is kept says of the bytes on the disk, and what its opening, a commit and a checkpoint do.
use Rattle.store.specs.Below.{Carries, chosen, Damaged, Failed, FailsOnlyCounted, Ghosts, HasHeader, Header, held_of, IsStore, IsSure, Leaves, NotAStore, one_more, page_bytes, RecordLine, Standing, Stands, stands, total, Which}
use Rattle.store.specs.Exact.{checkpoint_deeds, CommitsDeeds}
use Rattle.std.specs.Prelude.{◌≡◌, ℕ, ◌*◌, ◌+◌, ◌≤◌, List, [], take, drop, false, None, IsSome, IsTrue, Result, OnOk}
use Rattle.lines.specs.FlatStore.{FlatStore}
use Rattle.store.specs.declared.keep.Kept.{Kept}
use Rattle.store.specs.declared.keep.Kept.TheVariants.{Done}
use Rattle.store.specs.Appended.{CountsKept, FailedLeaves}
use Rattle.store.specs.Committed.{IsKeptAfter, IsSame, LeavesCommitted, bank_checkpointed, number_by_answer, roomy}
use Rattle.store.specs.Held.{HoldsAtLeast, IsMoreBy, OnlyWrites}
use Rattle.store.specs.Kept.{begun_of}
use Rattle.store.specs.Opened.{IsRead}
use Rattle.store.specs.Tracks.{HoldsRecords, IsEither}
use Rattle.store.specs.Chosen.{other}
use Rattle.store.specs.KeptStore.{StoreView, Fits, store_number}

-- Header, chosen bank, its base, number of records, closed gate and newest places are those of these bytes.
pub record Shows (held : List ℕ) (store : StoreView) : Type 0 where
  pub header : HasHeader held store.header
  pub chosen_is : chosen held ≡ store.bank.which
  pub read : IsRead held store.bank
  pub fits : Fits store.header store.bank

-- The kept bank is what these bytes hold where the selector chooses, whatever their header is.
pub record IsFoundAgain (held : List ℕ) (store : StoreView) : Type 0 where
  pub chosen_is : chosen held ≡ store.bank.which
  pub read : IsRead held store.bank
  pub fits : Fits store.header store.bank

-- These bytes are a store with this header.
pub record IsStoreWith (header : Header) (held : List ℕ) : Type 0 where
  pub which : Which
  pub base : ℕ
  pub gate : ℕ
  pub records : List (List RecordLine)
  pub store : IsStore held header which base gate records

-- The outside tells its bytes, and the store is what they show.
pub record IsShown {W : Type 0} (G : Ghosts W) (store : StoreView) (outside : W) : Type 0 where
  pub told : IsSome (G.held outside)
  pub shows : Shows (held_of G outside) store

-- The outside is honest and tells its bytes, a crash leaves them, and the store is what they show.
pub record TracksStore {W : Type 0} (G : Ghosts W) (store : StoreView) (outside : W) : Type 0 where
  pub sure : IsSure G outside
  pub shows : Shows (held_of G outside) store

-- bytes that a store shows stand for its number and some bytes
abbrev pub ShownStands : Type 0
ShownStands = (held : List ℕ) (store : StoreView) → Shows held store → (flat : FlatStore) × (stands held ≡ Stands (store_number store) flat)

-- the page of what stands
abbrev pub page_in : Standing → ℕ → List ℕ
page_in (Stands number store) page = take (page_bytes store.directory.page) (drop (page * page_bytes store.directory.page) store.bytes)
page_in (NotAStore offset) page = []
page_in (Damaged offset) page = []

-- bytes are that page of a store, where it is shown
abbrev pub IsPageShown : {W : Type 0} → Ghosts W → StoreView → W → ℕ → List ℕ → Type 0
IsPageShown G store outside page bytes = IsShown G store outside → bytes ≡ page_in (stands (held_of G outside)) page

-- the begun record was added, and the store is tracked
pub record IsCommitted {W : Type 0} (G : Ghosts W) (old_store store : StoreView) (old new : W) : Type 0 where
  pub tracks : TracksStore G store new
  pub stood : stands (held_of G new) ≡ one_more (begun_of old_store.bank) (stands (held_of G old))

-- the bank turned to is empty, and the store is tracked and stands for what stood
pub record IsEmptied {W : Type 0} (G : Ghosts W) (old_store store : StoreView) (old new : W) : Type 0 where
  pub tracks : TracksStore G store new
  pub stood : stands (held_of G new) ≡ stands (held_of G old)
  pub emptied : Leaves G (λ image seen. HoldsRecords store.header (other old_store.bank.which) (store_number old_store) [] image) new new

-- A store that was opened: the disk has room for it, no record is begun, and it may be used; it is what told bytes show, and tracked of an honest outside.
pub record IsOpened {W : Type 0} (G : Ghosts W) (before after : W) (store : StoreView) : Type 0 where
  pub room : HoldsAtLeast G (total store.header) after
  pub shows : IsSome (G.held before) → Shows (held_of G before) store
  pub tracks : IsTrue (G.is_honest before) → IsSome (G.held before) → TracksStore G store after
  pub begun : store.bank.begun ≡ None
  pub usable : store.bank.spoiled ≡ false

-- A store that was read again is what told bytes say of their chosen bank; where they have the kept header they show it, and of an honest outside it is tracked.
pub record IsReadAgain {W : Type 0} (G : Ghosts W) (store : StoreView) (before after : W) : Type 0 where
  pub read : IsSome (G.held before) → IsFoundAgain (held_of G before) store
  pub shows : HasHeader (held_of G before) store.header → IsSome (G.held before) → Shows (held_of G before) store
  pub tracks : HasHeader (held_of G before) store.header → IsTrue (G.is_honest before) → IsSome (G.held before) → TracksStore G store after

-- What a commit of the begun record does, where it is answered so, as `Commits`. Of a store that is tracked: whenever a crash comes, it leaves what stood, or that with the record.
pub record CommitsStore {W : Type 0} (G : Ghosts W) (old new : StoreView) (before after : W) (answer : Kept) : Type 0 where
  pub only : OnlyWrites G before after
  pub header : new.header ≡ old.header
  pub usable : answer ≡ Done → new.bank.spoiled ≡ false
  pub kept : IsKeptAfter answer (roomy old.bank) old.bank new.bank
  pub number : store_number new ≡ number_by_answer answer (store_number old)
  pub count : new.bank.count ≤ old.bank.count + 1
  pub counted : CountsKept G before after answer
  pub writes : answer ≡ Done → IsMoreBy 2 (G.writes before) (G.writes after)
  pub deeds : TracksStore G old before → CommitsDeeds (G.deeds before) (G.deeds after) (roomy old.bank) old.bank (held_of G before) answer
  pub crash : TracksStore G old before → Leaves G (IsEither (begun_of old.bank) (held_of G before)) before after
  pub left : TracksStore G old before → FailedLeaves G old.bank (roomy old.bank) before after answer
  pub records : (tracks : TracksStore G old before) → LeavesCommitted G old.header (roomy old.bank) old.bank tracks.shows.read.records before after
  pub intact : TracksStore G old before → IsStoreWith old.header (held_of G after)
  pub done : answer ≡ Done → TracksStore G old before → IsCommitted G old new before after

-- What a checkpoint does: it only asks and writes, and header and number stay. Of a store that is tracked: whenever a crash comes, it leaves what stood.
pub record CheckpointsStore {W : Type 0} (G : Ghosts W) (old new : StoreView) (before after : W) (result : Result (Unit {0}) Failed) : Type 0 where
  pub only : OnlyWrites G before after
  pub header : new.header ≡ old.header
  pub kept : new.bank ≡ bank_checkpointed result old.bank
  pub number : store_number new ≡ store_number old
  pub count : OnOk result (new.bank.count ≡ 0)
  pub deeds : TracksStore G old before → Carries (G.deeds before) (G.deeds after) (checkpoint_deeds old.bank (held_of G before)) result
  pub cause : FailsOnlyCounted (G.disk_faults before) (G.disk_faults after) result
  pub crash : (tracks : TracksStore G old before) → Leaves G (λ image seen. IsSame old.header old.bank tracks.shows.read.records (held_of G before) image) before after
  pub held : (tracks : TracksStore G old before) → IsSame old.header old.bank tracks.shows.read.records (held_of G before) (held_of G after)
  pub intact : TracksStore G old before → IsStoreWith old.header (held_of G after)
  pub done : OnOk result (TracksStore G old before → IsEmptied G old new before after)
