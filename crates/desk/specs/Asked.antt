-- What an event asks of the disk that holds the store, by what happened at it.
use Rattle.std.specs.Prelude.{◌≡◌, List, [], ◌∷◌, ℕ, take}
use Rattle.desk.specs.Below.{Header, header_of}
use Rattle.desk.specs.Instruction.{Committed, CommitDoubted, CommitUnwritten}
use Rattle.desk.specs.Run.{CheckpointFailed, CheckpointMade, Crashed, CrashFailed, Happening, Turned}
use Rattle.outside.specs.Deeds.{Deed, IsCut, Synced}
use Rattle.store_format.specs.Asked.{checkpoint_asks, CommitDeeds, DoubtedDeeds, UnwrittenDeeds}

-- the header that these bytes begin with
abbrev pub own_header : List ℕ → Header
own_header held = header_of (take 128 held)

-- What is asked at an event, of a disk that holds these bytes: a commit asks its record, behind a checkpoint where it has no room; a checkpoint the newest
-- lines and the other bank; a crash one sync; one that failed a first part of that; and nothing else asks anything.
abbrev pub EventAsks : (held : List ℕ) → Happening → List Deed → Type 0
EventAsks held (Turned activation counts (Committed steps printed)) deeds = CommitDeeds (own_header held) held deeds
EventAsks held (Turned activation counts CommitUnwritten) deeds = UnwrittenDeeds (own_header held) held deeds
EventAsks held (Turned activation counts CommitDoubted) deeds = DoubtedDeeds (own_header held) held deeds
EventAsks held CheckpointMade deeds = deeds ≡ checkpoint_asks (own_header held) held
EventAsks held CheckpointFailed deeds = IsCut (checkpoint_asks (own_header held) held) deeds
EventAsks held (Crashed lost) deeds = deeds ≡ Synced ∷ []
EventAsks held (CrashFailed lost) deeds = IsCut (Synced ∷ []) deeds
EventAsks held _ deeds = deeds ≡ []
