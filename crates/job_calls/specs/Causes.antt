-- How a call that runs events ends, and what the bytes of its disk tell of that.
use Rattle.std.specs.Prelude.{◌≡◌, ◌≢◌, ℕ, Option, None, IsSome, IsTrue}
use Rattle.job_calls.specs.Below.{Ghosts, held_of, IsFaultAt, IsFaultSince, IsOfOpening, IsStanding, Replayed, SessionState, Status, WentThrough}
use Rattle.schedule_replay.specs.declared.events.Replayed.TheVariants as replayed
use Rattle.call_status.specs.declared.status.Status.TheVariants as status

-- the status of a replay
abbrev pub status_of_replay : Replayed → Status
status_of_replay replayed.Ended = Status.Done
status_of_replay replayed.Closed = Status.DiskFault
status_of_replay (replayed.Damaged offset) = Status.Store offset
status_of_replay replayed.PutFault = Status.PutFault

-- What the bytes of a disk tell of the status with which a job ran on it, and of the session, where one was opened. No store without one: the bytes of
-- the start have that fault, so the opening found it. No store with one: those of now do, if they are told, under the header of the start, so a crash
-- event found it. Events that ran to their end: the bytes of the start stand for a store. An honest disk whose bytes stand is never told otherwise.
pub record OpensBy {W : Type 0} (G : Ghosts W) (before now : W) (status : Status) (session : Option SessionState) : Type 0 where
  pub at_opening : session ≡ None → (offset : ℕ) → status ≡ Status.Store offset → IsSome (G.held before) → IsFaultAt (held_of G before) offset
  pub at_crash : IsSome session → (offset : ℕ) → status ≡ Status.Store offset → IsSome (G.held before) → IsSome (G.held now) → IsFaultSince (held_of G before) (held_of G now) offset
  pub store : WentThrough status → IsSome (G.held before) → IsStanding (held_of G before)
  pub never : IsTrue (G.is_honest before) → IsSome (G.held before) → IsStanding (held_of G before) → (offset : ℕ) → status ≢ Status.Store offset

-- a status of events that run on a disk's store
abbrev pub IsOfEvents : Status → Type 0
IsOfEvents status.Done = Unit {0}
IsOfEvents status.PutFault = Unit {0}
IsOfEvents other = IsOfOpening other

-- a status of a command that runs a job
abbrev pub IsOfRun : Status → Type 0
IsOfRun (status.Job line kind) = Unit {0}
IsOfRun status.SourceFault = Unit {0}
IsOfRun status.TooBig = Unit {0}
IsOfRun other = IsOfEvents other
