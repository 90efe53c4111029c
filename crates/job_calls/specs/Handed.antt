-- The session that a call hands on.
use Rattle.std.specs.Prelude.{◌≡◌, ◌≤◌, ℕ, List, Bool, true, false, Option, None, Some}
use Rattle.job_calls.specs.Below.{Ghosts, HoldsStore, SessionState, Status, WentThrough}
use Rattle.flat_machine.specs.declared.machine.Program.{Program}
use Rattle.session.specs.Session.{activity, order_of, session_told, header_of_session}
use Rattle.call_status.specs.declared.status.Status.TheVariants as status

-- whether a session whose events ended with this status is closed; other statuses come with none
abbrev pub IsClosedAt : Status → Bool → Type 0
IsClosedAt status.Done closed = closed ≡ false
IsClosedAt status.PutFault closed = Unit {0}
IsClosedAt status.DiskFault closed = closed ≡ true
IsClosedAt (status.Store offset) closed = closed ≡ true
IsClosedAt _ closed = ⊥

-- a session is handed on with its order, closed as the status says; without one the events were not run to their end
abbrev pub HandsOn : List (ℕ × ℕ) → Option SessionState → Status → Type 0
HandsOn order (Some session) status = (order_of session ≡ order) × IsClosedAt status (session_told session).closed
HandsOn order None status = ¬ (WentThrough status)

-- A session fits an outside: the bytes that are told are enough for its store, and at most 10,000 turns were asked of it. So each of
-- its calls may be asked of it with this outside, but for a begin behind the last for which it has room.
pub record SessionFits {W : Type 0} (G : Ghosts W) (outside : W) (s : SessionState) : Type 0 where
  pub bytes : HoldsStore G (header_of_session s) outside
  pub turns : (session_told s).turns ≤ 10000

-- the session that is handed on, if one is, fits the outside
abbrev pub HandedFits : {W : Type 0} → Ghosts W → W → Option SessionState → Type 0
HandedFits G outside None = Unit {0}
HandedFits G outside (Some session) = SessionFits G outside session

-- and runs these programs
abbrev pub HandedRuns : List Program → Option SessionState → Type 0
HandedRuns programs None = Unit {0}
HandedRuns programs (Some session) = (activity session).programs ≡ programs
