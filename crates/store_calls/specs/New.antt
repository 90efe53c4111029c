-- What making a store did.
use Rattle.std.specs.Prelude.{◌≡◌, ◌≢◌, ◌⊎◌, ℕ, ◌+◌, ◌<◌, ◌≤◌, List, [], ◌++◌, codes, decimal, length, take, drop, replicate, OnOk, Some, IsSome, IsTrue, Result}
use Rattle.store_calls.specs.Below.{Called, CallsDisk, Carries, Deed, Did, DidSome, Failed, FailsOnlyCounted, FaultsBy, fresh, Ghosts, Header, held_of, IsSure, Leaves, NotAStore, OnlyAsks, option_map, PrintsBy, PrintsBytes, PutsOnce, PutsTimes, Rose, stands, Status, sure_deeds, Torn, total, written}
use Rattle.outside.specs.Moments.{Elapses}
use Rattle.call_status.specs.declared.status.Status.TheVariants as status

-- the line of a new store: how many bytes it has
abbrev pub new_line : Header → List ℕ
new_line header = codes "new " ++ decimal (total header) ++ codes "\n"

-- an image behind the place of its name, and then its name; and in front of both zeros in that place: each write made sure before the next
abbrev pub fill_deeds : (image : List ℕ) → List Deed
fill_deeds image = sure_deeds 8 (drop 8 image) ++ sure_deeds 0 (take 8 image)

abbrev pub image_deeds : (image : List ℕ) → List Deed
image_deeds image = sure_deeds 0 (replicate 8 0) ++ fill_deeds image

-- bytes are put by so many puts, or where one failed a prefix of them
pub record PutsIn {W : Type 0} (G : Ghosts W) (bytes : List ℕ) (count : ℕ) (old new : W) (result : Result (Unit {0}) Failed) : Type 0 where
  pub puts : PrintsBytes G bytes old new result
  pub times : PutsTimes G count old new result

-- a status is one of a call, and tells of the faults in it
pub record EndsAs {W : Type 0} (G : Ghosts W) (IsOne : Status → Type 0) (before after : W) (status : Status) : Type 0 where
  pub only : IsOne status
  pub faults : FaultsBy G before after status

-- The disk was empty, where it tells its bytes, and holds these now, which are sure where it is honest too; three writes succeeded.
pub record IsWrittenWhole {W : Type 0} (G : Ghosts W) (bytes : List ℕ) (old new : W) : Type 0 where
  pub held : IsSome (G.held old) → held_of G old ≡ [] → G.held new ≡ Some bytes
  pub sure : IsTrue (G.is_honest old) → IsSome (G.held old) → IsSure G new
  pub writes : G.writes new ≡ option_map (λ count. count + 3) (G.writes old)

-- The bytes are this image, where they are told, and sure where the disk is honest too; its three writes and three syncs succeeded on an empty disk, and nothing else was asked.
pub record IsStored {W : Type 0} (G : Ghosts W) (image : List ℕ) (before after : W) : Type 0 where
  pub empty : IsSome (G.held before) → held_of G before ≡ []
  pub held : IsSome (G.held before) → G.held after ≡ Some image
  pub sure : IsTrue (G.is_honest before) → IsSome (G.held before) → IsSure G after
  pub writes : G.writes after ≡ option_map (λ count. count + 3) (G.writes before)
  pub deeds : Did (G.deeds before) (G.deeds after) (image_deeds image)

-- a disk that tells its bytes holds others now at most among so many from an offset on, or from the front
abbrev pub IsTornAt : {W : Type 0} → Ghosts W → (at count : ℕ) → W → W → Type 0
IsTornAt G at count old new = IsSome (G.held old) → IsSome (G.held new) × Torn at count (held_of G old) (held_of G new)

abbrev pub IsTornBy : {W : Type 0} → Ghosts W → ℕ → W → W → Type 0
IsTornBy G count old new = IsTornAt G 0 count old new

-- whenever a crash comes, it leaves what one may have left at the start, or that with any bytes among so many from an offset on, or from the front
abbrev pub LeavesTornAt : {W : Type 0} → Ghosts W → (at count : ℕ) → W → W → Type 0
LeavesTornAt G at count before after =
    IsTrue (G.is_honest before) → IsSome (G.held before)
    → Leaves G (λ image seen. (start : List ℕ) × (begun : List ℕ) × G.left_since before (G.moment before) start begun × Torn at count start image) before after

abbrev pub ImagesTorn : {W : Type 0} → Ghosts W → ℕ → W → W → Type 0
ImagesTorn G count before after = LeavesTornAt G 0 count before after

-- these bytes were written at an offset and are sure where the disk is honest and tells its bytes; one write succeeded
pub record IsPutDown {W : Type 0} (G : Ghosts W) (at : ℕ) (bytes : List ℕ) (old new : W) : Type 0 where
  pub held : IsSome (G.held old) → G.held new ≡ Some (written (held_of G old) at bytes)
  pub sure : IsTrue (G.is_honest old) → IsSome (G.held old) → IsSure G new
  pub writes : G.writes new ≡ option_map (λ count. count + 1) (G.writes old)

-- an image was filled in behind the place of its name, and named; two writes succeeded
pub record IsImageFilled {W : Type 0} (G : Ghosts W) (image : List ℕ) (old new : W) : Type 0 where
  pub held : IsSome (G.held old) → G.held new ≡ Some image
  pub sure : IsTrue (G.is_honest old) → IsSome (G.held old) → IsSure G new
  pub writes : G.writes new ≡ option_map (λ count. count + 2) (G.writes old)

-- an image is no store
abbrev pub IsNoStore : List ℕ → Type 0
IsNoStore image = (offset : ℕ) × (stands image ≡ NotAStore offset)

-- an image that is being written: no longer than it will be, and no store or the whole one
pub record IsOnTheWay (image left : List ℕ) : Type 0 where
  pub few : length left ≤ length image
  pub which : IsNoStore left ⊎ (left ≡ image)

-- where a crash at the start leaves an empty disk, one at any moment since leaves no store, or the whole image
abbrev pub LeavesWhole : {W : Type 0} → Ghosts W → List ℕ → W → W → Type 0
LeavesWhole G image before after =
    IsTrue (G.is_honest before) → IsSome (G.held before) → Leaves G (λ left seen. left ≡ []) before before
    → Leaves G (λ left seen. IsNoStore left ⊎ (left ≡ image)) before after

-- the image begins with a store's name, and the disk is empty where it tells its bytes
pub record CanWrite {W : Type 0} (G : Ghosts W) (image : List ℕ) (outside : W) : Type 0 where
  pub named : take 8 image ≡ codes "801STORE"
  pub empty : IsSome (G.held outside) → held_of G outside ≡ []

-- What writing an image on an empty disk did: only the disk was called, its count tells of a failure, and whenever a crash comes it leaves no store or the whole one.
pub record WritesImage {W : Type 0} (G : Ghosts W) (image : List ℕ) (before after : W) (result : Result (Unit {0}) Failed) : Type 0 where
  pub calls : CallsDisk G before after
  pub cause : FailsOnlyCounted (G.disk_faults before) (G.disk_faults after) result
  pub done : OnOk result (IsWrittenWhole G image before after)
  pub deeds : Carries (G.deeds before) (G.deeds after) (image_deeds image) result
  pub torn : IsTornBy G (length image) before after
  pub crash : ImagesTorn G (length image) before after
  pub whole : LeavesWhole G image before after

-- What filling it in behind the place of its name and naming it did: a crash leaves an image that is on the way, of a disk that was sure of its bytes.
pub record FillsImage {W : Type 0} (G : Ghosts W) (image : List ℕ) (before after : W) (result : Result (Unit {0}) Failed) : Type 0 where
  pub calls : CallsDisk G before after
  pub cause : FailsOnlyCounted (G.disk_faults before) (G.disk_faults after) result
  pub done : OnOk result (IsImageFilled G image before after)
  pub deeds : Carries (G.deeds before) (G.deeds after) (fill_deeds image) result
  pub told : IsSome (G.held before) → IsSome (G.held after) × (length (held_of G after) ≤ length image)
  pub left : IsSure G before → Leaves G (λ left seen. IsOnTheWay image left) before after

-- What writing bytes at an offset and making them sure did: a crash leaves what one left at the start, or that with any bytes in their place.
pub record WritesNew {W : Type 0} (G : Ghosts W) (at : ℕ) (bytes : List ℕ) (before after : W) (result : Result (Unit {0}) Failed) : Type 0 where
  pub calls : CallsDisk G before after
  pub cause : FailsOnlyCounted (G.disk_faults before) (G.disk_faults after) result
  pub done : OnOk result (IsPutDown G at bytes before after)
  pub deeds : Carries (G.deeds before) (G.deeds after) (sure_deeds at bytes) result
  pub untold : IsSome (G.held after) → IsSome (G.held before)
  pub torn : IsTornAt G at (length bytes) before after
  pub crash : LeavesTornAt G at (length bytes) before after

-- what writing an image and then a line did, by the status; other statuses don't come
abbrev pub WrittenBy : {W : Type 0} → Ghosts W → (image line : List ℕ) → W → W → Status → Type 0
WrittenBy G image line before after status.Done = IsStored G image before after × PrintsBy (G.printed before) (G.printed after) line status.Done × PutsOnce G before after
WrittenBy G image line before after status.PutFault = IsStored G image before after × PrintsBy (G.printed before) (G.printed after) line status.PutFault
WrittenBy G image line before after status.DiskFault = (G.printed after ≡ G.printed before) × IsTornBy G (length image) before after × DidSome (G.deeds before) (G.deeds after) (image_deeds image)
WrittenBy G image line before after status.Exists = OnlyAsks G before after × (IsSome (G.held before) → 0 < length (held_of G before))
WrittenBy G image line before after status.NoMemory = OnlyAsks G before after
WrittenBy G image line before after _ = ⊥

-- why nothing is written: the disk can't be asked, and its count rose, or it isn't empty, and its count stays
abbrev pub IsNoEmpty : {W : Type 0} → Ghosts W → W → W → Status → Type 0
IsNoEmpty G before after status.DiskFault = Rose (G.disk_faults before) (G.disk_faults after)
IsNoEmpty G before after status.Exists = (IsSome (G.held before) → 0 < length (held_of G before)) × (G.disk_faults after ≡ G.disk_faults before)
IsNoEmpty G before after _ = ⊥

-- a status of writing an image
abbrev pub IsOfWriting : Status → Type 0
IsOfWriting status.Done = Unit {0}
IsOfWriting status.PutFault = Unit {0}
IsOfWriting status.DiskFault = Unit {0}
IsOfWriting _ = ⊥

-- what it did; there is no order, and the disk's count of faults rises with DiskFault alone
pub record Written {W : Type 0} (G : Ghosts W) (image line : List ℕ) (call : Called W) : Type 0 where
  pub no_order : call.order ≡ []
  pub honest : G.is_honest call.after ≡ G.is_honest call.before
  pub time : Elapses G.moment G.left_since call.before call.after
  pub crash : ImagesTorn G (length image) call.before call.after
  pub whole : LeavesWhole G image call.before call.after
  pub calm : call.status ≢ status.DiskFault → G.disk_faults call.after ≡ G.disk_faults call.before
  -- a disk that holds bytes is only asked
  pub full : IsSome (G.held call.before) → 0 < length (held_of G call.before) → OnlyAsks G call.before call.after
  pub by_status : WrittenBy G image line call.before call.after call.status

-- what making a store did: its image has nothing in it but the header
abbrev pub Made : {W : Type 0} → Ghosts W → Header → Called W → Type 0
Made G header call = Written G (fresh header) (new_line header) call

-- a status of making a store
abbrev pub IsOfNew : Status → Type 0
IsOfNew status.Done = Unit {0}
IsOfNew status.PutFault = Unit {0}
IsOfNew status.DiskFault = Unit {0}
IsOfNew status.Exists = Unit {0}
IsOfNew status.NoMemory = Unit {0}
IsOfNew _ = ⊥
