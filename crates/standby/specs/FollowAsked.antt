-- What following a text asks of the disk.
use Rattle.std.specs.Prelude.{◌≡◌, ◌⊎◌, ℕ, zero, suc, List, take, Result, Ok, Err}
use Rattle.outside.specs.Deeds.{Deed, Since, SyncedOnce}
use Rattle.outside.specs.Moments.{IsNotAfter}
use Rattle.standby.specs.Below.{Ghosts, held_of}
use Rattle.standby.specs.declared.following.Followed.{Followed}
use Rattle.standby.specs.declared.following.Followed.TheVariants.{DiskFault}
use Rattle.store_format.specs.Asked.{CommitDeeds, DoubtedDeeds, UnwrittenDeeds}
use Rattle.store_format.specs.Header.{header_of}

-- the commit of a record that was kept, by the bytes that the disk held; and one that failed, up to its gate or at it
abbrev pub RecordAsks : (held : List ℕ) (deeds : List Deed) → Type 0
RecordAsks held deeds = CommitDeeds (header_of (take 128 held)) held deeds

abbrev pub FailedAsks : (held : List ℕ) (deeds : List Deed) → Type 0
FailedAsks held deeds = UnwrittenDeeds (header_of (take 128 held)) held deeds ⊎ DoubtedDeeds (header_of (take 128 held)) held deeds

-- what a record asks that ended so: where the disk failed a commit that failed, and else a commit
abbrev pub StepAsks : (held : List ℕ) → Result (Unit {0}) Followed → List Deed → Type 0
StepAsks held (Ok done) = RecordAsks held
StepAsks held (Err DiskFault) = FailedAsks held
StepAsks held (Err why) = RecordAsks held

-- So many records were committed, one after another, each by the bytes that stood when its commit began, and nothing was asked between them or behind them.
abbrev pub RecordsAsked : {W : Type 0} → Ghosts W → (count : ℕ) → (before after : W) → Type 0
RecordsAsked G zero before after = (G.deeds after ≡ G.deeds before) × (G.held after ≡ G.held before) × IsNotAfter (G.moment before) (G.moment after)
RecordsAsked {W} G (suc count) before after =
    (mid : W) × RecordsAsked G count before mid × IsNotAfter (G.moment mid) (G.moment after) × Since (G.deeds mid) (G.deeds after) (RecordAsks (held_of G mid))

-- so many were, and the commit of the next failed
abbrev pub RecordsStopped : {W : Type 0} → Ghosts W → (count : ℕ) → (before after : W) → Type 0
RecordsStopped {W} G count before after =
    (mid : W) × RecordsAsked G count before mid × IsNotAfter (G.moment mid) (G.moment after) × Since (G.deeds mid) (G.deeds after) (FailedAsks (held_of G mid))

-- one sync opened the store, and behind it this was asked
abbrev pub OpenedFor : {W : Type 0} → Ghosts W → (Asked : W → W → Type 0) → (before after : W) → Type 0
OpenedFor {W} G Asked before after =
    (start : W) × IsNotAfter (G.moment before) (G.moment start) × SyncedOnce (G.deeds before) (G.deeds start) × (G.held start ≡ G.held before) × Asked start after
