-- What following a ship text left of a file and a screen.
use Rattle.std.specs.Prelude.{◌≡◌, ◌⊎◌, ℕ, zero, suc, ◌+◌, ◌≤◌, List, [], ◌∷◌, ◌++◌, length, Some}
use Rattle.file_runs.specs.Below.{ShipContent, Deed, due, FlatStore, Given, IsFaultAt, StoreView, later, printed_of, Shows, Stands, stands, state, Status, Synced}
use Rattle.outside.specs.Deeds.{IsCut}
use Rattle.real_files.specs.Deeds.{file_after}
use Rattle.standby.specs.FollowAsked.{FailedAsks, RecordAsks}
use Rattle.standby.specs.Followed.{IsAtNumber, followed_text, kept_text}
use Rattle.standby.specs.FollowCalled.{HasText, IsDueOn, IsNoText}
use Rattle.call_status.specs.declared.status.Status.TheVariants as status
use Rattle.file_runs.specs.FileRun.{Hands, LeavesAt, LeavesLast, NothingAsked, OnlyAsked, FromAnyStore}

-- an image stands for the store that lies so many of the text's records behind this number
abbrev pub IsAfter : ShipContent → (number : ℕ) → FlatStore → (count : ℕ) → (image : List ℕ) → Type 0
IsAfter content number store count image = stands image ≡ Stands (later number count) (state content number store count)

-- One sync opened the file that gave these bytes, and behind it so many records were committed, one after another: each asked by the bytes that the deeds
-- before it left, and nothing else was asked.
abbrev pub FileRecords : (first : List ℕ) (count : ℕ) (deeds : List Deed) → Type 0
FileRecords first zero deeds = deeds ≡ Synced ∷ []
FileRecords first (suc count) deeds =
    (earlier here : List Deed) × (deeds ≡ earlier ++ here) × FileRecords first count earlier × RecordAsks (file_after first earlier) here

-- So many were, and the commit of the next failed; or the opening's sync failed, or a read before any was.
abbrev pub FileStopped : (first : List ℕ) (count : ℕ) (deeds : List Deed) → Type 0
FileStopped first count deeds =
    ((earlier here : List Deed) × (deeds ≡ earlier ++ here) × FileRecords first count earlier × FailedAsks (file_after first earlier) here)
    ⊎ ((count ≡ 0) × IsCut (Synced ∷ []) deeds)

-- What all deeds were and leave, by the end. Done: all records that are due were committed, and the store at the text's last number is left. PutFault: some
-- were, and that at the last of their numbers. DiskFault: the whole lines of some records were handed to the screen, and the next commit failed; the store
-- behind these is left, or that behind one more.
abbrev pub EndsAt : ShipContent → (number : ℕ) → FlatStore → (first : List ℕ) (deeds puts : List Deed) (end : Status) → Type 0
EndsAt content number store first deeds puts status.Done =
    FileRecords first (length (due content number)) deeds × LeavesLast first deeds (IsAfter content number store (length (due content number))) × (later number (length (due content number)) ≡ later content.start (length content.records))
EndsAt content number store first deeds puts status.PutFault = (count : ℕ) × (count ≤ length (due content number)) × FileRecords first count deeds × LeavesLast first deeds (IsAfter content number store count)
EndsAt content number store first deeds puts status.DiskFault =
    (count : ℕ) × (printed_of puts ≡ kept_text number count) × FileStopped first count deeds × LeavesLast first deeds (λ image. (k : ℕ) × (count ≤ k) × (k ≤ count + 1) × IsAfter content number store k image)
EndsAt content number store first deeds puts _ = Unit {0}

-- A text was followed on a file that gave these bytes, which stood for this number and this store.
pub record FollowedText (content : ShipContent) (number : ℕ) (store : FlatStore) (first : List ℕ) (deeds puts : List Deed) (end : Status) : Type 0 where
  -- whenever the machine stops, the store at a number of the text is left: not before one whose whole line was seen, and at most one behind the last such
  pub crash : LeavesAt first deeds puts (IsAtNumber content.line_bytes number store (due content number) (Some []))
  pub handed : Hands puts (followed_text number (length (due content number))) end
  pub ends : EndsAt content number store first deeds puts end

-- the bytes show a store for which this end is due
pub record IsDueAt (content : ShipContent) (first : List ℕ) (end : Status) : Type 0 where
  pub store : StoreView
  pub shows : Shows first store
  pub due_on : IsDueOn store content end

-- what following a text did, by its end: it was followed from whatever the bytes stand for, or the file was only asked; other ends don't come
abbrev pub FollowsBy : ShipContent → (first : List ℕ) (deeds puts : List Deed) (end : Status) → Type 0
FollowsBy content first deeds puts status.Done = IsDueAt content first status.Done × FromAnyStore first (λ number store. FollowedText content number store first deeds puts status.Done)
FollowsBy content first deeds puts status.PutFault = IsDueAt content first status.PutFault × FromAnyStore first (λ number store. FollowedText content number store first deeds puts status.PutFault)
FollowsBy content first deeds puts status.DiskFault =
    (OnlyAsked first deeds puts ⊎ IsDueAt content first status.DiskFault) × FromAnyStore first (λ number store. FollowedText content number store first deeds puts status.DiskFault)
FollowsBy content first deeds puts (status.Stream place kind) = OnlyAsked first deeds puts × ((kind ≡ 2) ⊎ (kind ≡ 3)) × IsDueAt content first (status.Stream place kind)
FollowsBy content first deeds puts (status.NotKept start last) = OnlyAsked first deeds puts × IsDueAt content first (status.NotKept start last)
FollowsBy content first deeds puts (status.Store offset) = OnlyAsked first deeds puts × IsFaultAt first offset
FollowsBy content first deeds puts status.NoMemory = OnlyAsked first deeds puts
FollowsBy content first deeds puts _ = ⊥

-- `follow` on a file that gave these bytes: the source had no ship text, and nothing was asked; or it had one.
abbrev pub FollowedOnFile : Given → (first : List ℕ) (deeds puts : List Deed) (end : Status) → Type 0
FollowedOnFile given first deeds puts end =
    (NothingAsked deeds puts × IsNoText given end) ⊎ ((content : ShipContent) × HasText given content × FollowsBy content first deeds puts end)
