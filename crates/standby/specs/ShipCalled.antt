-- What shipping the records of a store did.
use Rattle.std.specs.Prelude.{◌≡◌, ◌≢◌, ◌⊎◌, ◌<◌, ◌≤◌, ℕ, [], IsSome, IsTrue}
use Rattle.standby.specs.Below.{AreTold, OpensAndPuts, Called, Ghosts, held_of, IsFaultAt, IsOfOpening, StoreView, Leaves, store_number, OnlyOpens, PrintsBy, Shows, Status}
use Rattle.standby.specs.TextPut.{CountsPuts}
use Rattle.standby.specs.Read.{feeds}
use Rattle.standby.specs.Shipped.{shipped}
use Rattle.standby.specs.State.{behind}
use Rattle.standby.specs.Text.{IsContent, ship_text}
use Rattle.call_status.specs.declared.status.Status.TheVariants as status

-- The bytes show a store whose bank keeps all records behind the number, and their text was put: all of it, each line by one put, or a first part. At
-- Done they are in the ranges of a ship text.
pub record PutsText {W : Type 0} (G : Ghosts W) (from : ℕ) (before after : W) (now : Status) : Type 0 where
  pub store : StoreView
  pub shows : Shows (held_of G before) store
  pub kept : behind store.bank.base from ≤ store.bank.count
  pub printed : PrintsBy (G.printed before) (G.printed after) (ship_text (shipped store shows.read.records from)) now
  pub times : now ≡ Status.Done → CountsPuts G (feeds (ship_text (shipped store shows.read.records from))) before after
  pub content : now ≡ Status.Done → IsContent (shipped store shows.read.records from)

-- The bytes show a store whose bank has this base, and which has this number, and the bank doesn't keep all records behind the number asked for.
pub record IsNotKept {W : Type 0} (G : Ghosts W) (from : ℕ) (before : W) (base number : ℕ) : Type 0 where
  pub store : StoreView
  pub shows : Shows (held_of G before) store
  pub base_is : base ≡ store.bank.base
  pub number_is : number ≡ store_number store
  pub behind_all : store.bank.count < behind store.bank.base from

-- what it did, by the status, where the disk tells its bytes; other statuses don't come
abbrev pub ShippedBy : {W : Type 0} → Ghosts W → ℕ → W → W → Status → Type 0
ShippedBy G from before after status.Done = IsSome (G.held before) → PutsText G from before after status.Done
ShippedBy G from before after status.PutFault = IsSome (G.held before) → PutsText G from before after status.PutFault
ShippedBy G from before after status.DiskFault = (G.printed after ≡ G.printed before) ⊎ (IsSome (G.held before) → PutsText G from before after status.DiskFault)
ShippedBy G from before after (status.NotKept base number) = OnlyOpens G before after × (IsSome (G.held before) → IsNotKept G from before base number)
ShippedBy G from before after (status.Store offset) = OnlyOpens G before after × (IsSome (G.held before) → IsFaultAt (held_of G before) offset)
ShippedBy G from before after status.NoMemory = OnlyOpens G before after
ShippedBy G from before after _ = ⊥

-- What it did; it writes nothing, each image that a crash may leave since is one of the start, and there is no order. Where the disk is honest and
-- tells its bytes, each that is left once something is printed is just these. The disk's count of faults rises with DiskFault alone.
pub record ShippedFrom {W : Type 0} (G : Ghosts W) (from : ℕ) (call : Called W) : Type 0 where
  pub no_order : call.order ≡ []
  pub only : OpensAndPuts G call.before call.after
  pub sure : IsTrue (G.is_honest call.before) → IsSome (G.held call.before) → Leaves G (λ image seen. AreTold (G.printed call.before) seen ⊎ (image ≡ held_of G call.before)) call.before call.after
  pub calm : call.status ≢ status.DiskFault → G.disk_faults call.after ≡ G.disk_faults call.before
  pub by_status : ShippedBy G from call.before call.after call.status

-- a status of shipping
abbrev pub IsOfShip : Status → Type 0
IsOfShip status.Done = Unit {0}
IsOfShip status.PutFault = Unit {0}
IsOfShip (status.NotKept base number) = Unit {0}
IsOfShip other = IsOfOpening other
