-- What following a ship text did.
use Rattle.std.specs.Prelude.{◌≡◌, ◌≢◌, ◌⊎◌, ℕ, ◌+◌, ◌≤◌, ◌<◌, List, [], length, IsSome, Result, MatchResult, OnOk, IfErr}
use Rattle.standby.specs.Below.{Called, call, Elapses, FaultsBy, FlatStore, Ghosts, Given, held_of, IsFaultAt, IsOfOpening, IsOfStart, StoreView, Leaves, store_number, OnlyOpens, PrintsBy, RoomReads, Rose, Shows, Stands, stands, Status, TellsStore}
use Rattle.outside.specs.Durable.{IsSure}
use Rattle.outside.specs.declared.source.Source as source
use Rattle.standby.specs.State.{bank_behind, AllFit, IsTextNumber, IsTooLong, due, state}
use Rattle.standby.specs.FollowAsked.{OpenedFor, RecordsAsked, RecordsStopped}
use Rattle.standby.specs.Followed.{IsAlike, IsAtNumber, StopsAt, followed_text}
use Rattle.standby.specs.TextPut.{CountsPuts}
use Rattle.standby.specs.Read.{IsFirstBad}
use Rattle.standby.specs.Text.{ShipContent, ShipLine, IsContent, IsTextOf, later, ship_text}
use Rattle.standby.specs.declared.text.Ship.{Ship}
use Rattle.call_status.specs.SourceText.{HasRead, IsWholeText}
use Rattle.call_status.specs.declared.status.Status.TheVariants as status

-- The bytes of the start show a store, and those of the end the same with the bank that commits of these records make, one after another.
pub record KeepsBank {W : Type 0} (G : Ghosts W) (records : List (List ShipLine)) (before after : W) : Type 0 where
  pub store : StoreView
  pub was : Shows (held_of G before) store
  pub now : Shows (held_of G after) (record store { bank = bank_behind store.bank records })

-- How it ended, by the status. Done: each line was put, by one put, the bytes are sure and stand for the text's last number, and the bank is that of
-- the commits. PutFault: the bytes are sure and stand for the number of the start or one of the text's behind it. DiskFault: the whole lines of some of
-- the records are printed, fewer than all, and each image of the end stands for the last of these numbers, or for the one behind it; or the disk was
-- only asked. One sync opened the store, and the disk was asked to commit the records up to that number, or the one behind it too, and nothing else.
abbrev pub EndsOn : {W : Type 0} → Ghosts W → ShipContent → ℕ → FlatStore → W → W → Status → Type 0
EndsOn G content number store before after status.Done =
    CountsPuts G (length (due content number) + 1) before after × IsSure G after
    × (stands (held_of G after) ≡ Stands (later number (length (due content number))) (state content number store (length (due content number))))
    × (later number (length (due content number)) ≡ later content.start (length content.records)) × KeepsBank G (due content number) before after × OpenedFor G (RecordsAsked G (length (due content number))) before after
EndsOn G content number store before after status.PutFault =
    (count : ℕ) × (count ≤ length (due content number)) × IsSure G after × (stands (held_of G after) ≡ Stands (later number count) (state content number store count)) × OpenedFor G (RecordsAsked G count) before after
EndsOn G content number store before after status.DiskFault =
    ((at : StopsAt G content.line_bytes number store (due content number) before after) × (at.count < length (due content number)) × OpenedFor G (RecordsStopped G at.count) before after) ⊎ OnlyOpens G before after
EndsOn G content number store before after _ = Unit {0}

-- Where the bytes stand for a number and a store: each image that a crash leaves since is one of the start with nothing printed since, or stands for
-- the store at that number or at one of the text's behind it, and where the bytes printed are told, not before a number whose whole `kept` line was
-- seen, and at most one behind the last such; the lines are printed, or a first part of them.
pub record HasFollowed {W : Type 0} (G : Ghosts W) (content : ShipContent) (number : ℕ) (store : FlatStore) (call : Called W) : Type 0 where
  pub crash : Leaves G (λ image seen. IsOfStart G call.before image seen ⊎ IsAtNumber content.line_bytes number store (due content number) (G.printed call.before) image seen) call.before call.after
  pub printed : PrintsBy (G.printed call.before) (G.printed call.after) (followed_text number (length (due content number))) call.status
  pub ends : EndsOn G content number store call.before call.after call.status

-- what following did from a text with this content, on a store that stood
abbrev pub FollowsOn : {W : Type 0} → Ghosts W → ShipContent → W → W → Status → Type 0
FollowsOn G content before after now = (number : ℕ) (store : FlatStore) → TellsStore G before number store → HasFollowed G content number store (call before after [] now)

-- The store isn't alike; or its number isn't among the text's; or a record behind it, the first such, is too long; or the text is followed.
abbrev pub IsDueOn : StoreView → ShipContent → Status → Type 0
IsDueOn store content (status.Stream place kind) =
    ((kind ≡ 2) × (place ≡ 1) × (¬ (IsAlike store.header content)))
    ⊎ ((kind ≡ 3) × IsAlike store.header content × IsTextNumber content (store_number store) × IsTooLong store.header content (store_number store) place)
IsDueOn store content (status.NotKept first last) =
    (first ≡ content.start) × (last ≡ later content.start (length content.records)) × IsAlike store.header content × (¬ (IsTextNumber content (store_number store)))
IsDueOn store content _ = IsAlike store.header content × IsTextNumber content (store_number store) × AllFit store.header content (store_number store)

-- the bytes show a store for which the status is due
pub record IsDue {W : Type 0} (G : Ghosts W) (content : ShipContent) (before : W) (now : Status) : Type 0 where
  pub store : StoreView
  pub shows : Shows (held_of G before) store
  pub due_on : IsDueOn store content now

-- what following a text with this content did, by the status; a disk that fails in the opening was only asked
abbrev pub OnStore : {W : Type 0} → Ghosts W → ShipContent → W → W → Status → Type 0
OnStore G content before after status.NoMemory = Unit {0}
OnStore G content before after (status.Store offset) = IsSome (G.held before) → IsFaultAt (held_of G before) offset
OnStore G content before after (status.Stream place kind) = ((kind ≡ 2) ⊎ (kind ≡ 3)) × (IsSome (G.held before) → IsDue G content before (status.Stream place kind))
OnStore G content before after (status.NotKept first last) = IsSome (G.held before) → IsDue G content before (status.NotKept first last)
OnStore G content before after status.Done = (IsSome (G.held before) → IsDue G content before status.Done) × FollowsOn G content before after status.Done
OnStore G content before after status.PutFault = (IsSome (G.held before) → IsDue G content before status.PutFault) × FollowsOn G content before after status.PutFault
OnStore G content before after status.DiskFault = (OnlyOpens G before after ⊎ (IsSome (G.held before) → IsDue G content before status.DiskFault)) × FollowsOn G content before after status.DiskFault
OnStore G content before after _ = ⊥

-- The source gave a ship text, whole, that holds this.
pub record HasText (given : Given) (content : ShipContent) : Type 0 where
  pub text : List ℕ
  pub whole : IsWholeText given.left given.left_now text
  pub is_content : IsContent content
  pub means : text ≡ ship_text content

-- the source gave a text, whole, that holds what the value does
abbrev pub IsShipFrom : Given → Ship → Type 0
IsShipFrom given ship = (text : List ℕ) × IsWholeText given.left given.left_now text × IsTextOf text ship

-- why there is no ship text from a source
abbrev pub IsNoText : Given → Status → Type 0
IsNoText given status.SourceFault = Rose given.faults given.faults_now
IsNoText given status.TooBig = HasRead given.left given.left_now 1048577
IsNoText given status.NoMemory = Unit {0}
IsNoText given (status.Stream place kind) = (kind ≡ 1) × ((text : List ℕ) × IsWholeText given.left given.left_now text × IsFirstBad text place)
IsNoText given _ = ⊥

-- a source gave a ship text, or why there is none; its count of faults rises with SourceFault alone
pub record GivesShip (given : Given) (result : Result Ship Status) : Type 0 where
  pub text : MatchResult result (IsShipFrom given) (IsNoText given)
  pub unfailed : OnOk result (given.faults_now ≡ given.faults)
  pub calm : IfErr result (λ now. now ≢ status.SourceFault → given.faults_now ≡ given.faults)

-- there is no ship text, and all that is outside is left; or one was followed so
abbrev pub FollowedBy : {W : Type 0} → Ghosts W → Given → W → W → Status → Type 0
FollowedBy G given before after now = ((after ≡ before) × IsNoText given now) ⊎ ((content : ShipContent) × HasText given content × OnStore G content before after now)

-- nothing was committed
abbrev pub IsUncommitted : Status → Type 0
IsUncommitted status.Done = ⊥
IsUncommitted status.PutFault = ⊥
IsUncommitted status.DiskFault = ⊥
IsUncommitted _ = Unit {0}

-- a status of following a ship text
abbrev pub IsOfText : Status → Type 0
IsOfText status.Done = Unit {0}
IsOfText status.PutFault = Unit {0}
IsOfText (status.NotKept first last) = Unit {0}
IsOfText (status.Stream place kind) = Unit {0}
IsOfText other = IsOfOpening other

-- A status of following a text, and what stays by it: the disk is as honest as it was, bytes that were told are told, and each count rises with its own fault alone.
pub record EndsFollowing {W : Type 0} (G : Ghosts W) (before after : W) (now : Status) : Type 0 where
  pub only : IsOfText now
  pub honest : G.is_honest after ≡ G.is_honest before
  pub told : IsSome (G.held before) → IsSome (G.held after)
  pub calm : now ≢ status.DiskFault → G.disk_faults after ≡ G.disk_faults before
  pub unfailed : now ≢ status.PutFault → G.put_faults after ≡ G.put_faults before
  pub faults : FaultsBy G before after now

-- What it did; there is no order. The disk is as honest as it was and time elapsed, bytes that were told are told, the disk's count of faults rises with
-- DiskFault alone, the screen's with PutFault, and the source's with SourceFault. A refusal only asked the disk.
pub record FollowedFrom {W : Type 0} (G : Ghosts W) (given : Given) (call : Called W) : Type 0 where
  pub no_order : call.order ≡ []
  pub honest : G.is_honest call.after ≡ G.is_honest call.before
  pub time : Elapses G.moment G.left_since call.before call.after
  pub told : IsSome (G.held call.before) → IsSome (G.held call.after)
  pub calm : call.status ≢ status.DiskFault → G.disk_faults call.after ≡ G.disk_faults call.before
  pub put : call.status ≢ status.PutFault → G.put_faults call.after ≡ G.put_faults call.before
  pub read : call.status ≢ status.SourceFault → given.faults_now ≡ given.faults
  pub refused : IsUncommitted call.status → OnlyOpens G call.before call.after
  pub by_status : FollowedBy G given call.before call.after call.status

-- a status of following
abbrev pub IsOfFollow : Status → Type 0
IsOfFollow status.SourceFault = Unit {0}
IsOfFollow status.TooBig = Unit {0}
IsOfFollow other = IsOfText other

-- what following the ship text of a source did
abbrev pub FollowsFrom : {S W : Type 0} → source.Ghosts S → Ghosts W → (old new : S) → (before after : W) → Status → Type 0
FollowsFrom F G old new before after status = RoomReads F G (FollowedFrom G) IsOfFollow old new before after status
