-- What a load of transfers did: one run of the desk over its events, with one line in place of a report.
use Rattle.std.specs.Prelude.{◌≡◌, ◌≢◌, ℕ, true, false, List, [], ◌∷◌, codes, decimal, count_by, Option, None, Some}
use Rattle.std.specs.List.{fold}
use Rattle.job_calls.specs.Below.{begun, Called, Elapses, FlatStore, Ghosts, is_commit, IsBigJob, Job, ReportLine, printed, PrintsBytes, PutsTimes, serial_lines, SessionState, spaced, Status, StillTold, TellsStore, WentThrough}
use Rattle.schedule_replay.specs.declared.quietly.Quiet.{Quiet}
use Rattle.schedule_replay.specs.declared.quietly.Quiet.TheVariants as quiet
use Rattle.schedule_replay.specs.Quiet.{is_rollback, out_after}
use Rattle.call_status.specs.declared.status.Status.TheVariants as status
use Rattle.job_calls.specs.Causes.{OpensBy}
use Rattle.job_calls.specs.Handed.{HandedRuns}
use Rattle.job_calls.specs.Headline.{ByOpening, ended_call, EndsEvents, FoundNoStore, Refused, RunsFrom, Untouched}
use Rattle.job_calls.specs.declared.ended.Ended.{Ended}
use Rattle.call_status.specs.Printed.{put_of, PutsOnce, PrintsBy}

-- the line of a load: its transfers, how many commits and rollbacks its run had, and what the last commit printed
abbrev pub big_line : (transfers commits rollbacks : ℕ) (out : List ℕ) → List ℕ
big_line transfers commits rollbacks out =
    spaced (codes "big" ∷ decimal transfers ∷ codes "commits" ∷ decimal commits ∷ codes "rollbacks" ∷ decimal rollbacks ∷ codes "out" ∷ printed out ∷ [])

-- what the last of these commits printed, or nothing
abbrev pub last_out : List ReportLine → List ℕ
last_out lines = fold out_after [] lines

-- the line that tells of the lines that a report would have
abbrev pub line_for : (transfers : ℕ) → List ReportLine → List ℕ
line_for transfers lines = big_line transfers (count_by is_commit lines) (count_by is_rollback lines) (last_out lines)

-- The job of a load was run from the store that the disk stood for, with a line in place of the report. At Done and at PutFault all events were run, and its
-- line was put, or a prefix of it; what it tells of the last commit is what the last commit prints where the programs run one after another.
pub record HasBigRun {W : Type 0} (G : Ghosts W) (transfers : ℕ) (job : Job) (number : ℕ) (store : FlatStore) (call : Called W) (session : Option SessionState) : Type 0 where
  pub ran : RunsFrom G job number store call
  pub answered : session ≡ Some ran.session
  pub all : WentThrough call.status → ran.rest ≡ []
  pub still_open : WentThrough call.status → ran.end.closed ≡ false
  pub shut : call.status ≡ Status.DiskFault → ran.end.closed ≡ true
  pub told : WentThrough call.status → PrintsBy (G.printed call.before) (G.printed call.after) (line_for transfers ran.lines) call.status
  pub last : WentThrough call.status → last_out ran.lines ≡ last_out (serial_lines (begun job.programs.items job.events.items) number call.order store)

-- what was put of a run of a load, by how it ended: its line, or a prefix of it, or nothing where the desk was closed
abbrev pub IsToldBy : {W : Type 0} → Ghosts W → ℕ → Quiet → (last : List ℕ) → Called W → Type 0
IsToldBy G transfers (quiet.Ended commits rollbacks) last call =
    WentThrough call.status × PrintsBytes G (big_line transfers commits rollbacks last) call.before call.after (put_of call.status) × PutsTimes G 1 call.before call.after (put_of call.status)
IsToldBy G transfers quiet.Closed last call = (call.status ≡ Status.DiskFault) × (call.after ≡ call.before)

-- the events of the load were run, from whatever number and store the disk stood for; the session runs its programs
pub record RanBig {W : Type 0} (G : Ghosts W) (transfers : ℕ) (call : Called W) (session : Option SessionState) : Type 0 where
  pub job : Job
  pub is_load : IsBigJob transfers job
  pub has_run : (number : ℕ) (store : FlatStore) → TellsStore G call.before number store → HasBigRun G transfers job number store call session
  pub runs : HandedRuns job.programs.items session

-- what a load did, by its status; a disk fault comes in the opening or in an event, damage in the opening alone, and other statuses don't come
abbrev pub LoadedBy : {W : Type 0} → Ghosts W → ℕ → Called W → Option SessionState → Status → Type 0
LoadedBy G transfers call session status.Done = RanBig G transfers call session × PutsOnce G call.before call.after
LoadedBy G transfers call session status.PutFault = RanBig G transfers call session
LoadedBy G transfers call session status.DiskFault = ByOpening session (RanBig G transfers call session) (Untouched G call) × (G.printed call.after ≡ G.printed call.before)
LoadedBy G transfers call session (status.Store offset) = (session ≡ None) × FoundNoStore G call offset
LoadedBy G transfers call session status.NoMemory = Refused G call
LoadedBy G transfers call session _ = ⊥

-- what a load did, whatever stands on the disk: it is as honest as it was and time elapsed, bytes that were told are told, the screen's
-- count of faults rises with PutFault alone, and what the bytes tell of its status
pub record Loaded {W : Type 0} (G : Ghosts W) (transfers : ℕ) (call : Called W) (session : Option SessionState) : Type 0 where
  pub honest : G.is_honest call.after ≡ G.is_honest call.before
  pub time : Elapses G.moment G.left_since call.before call.after
  pub told : StillTold G call.before call.after
  pub put : call.status ≢ Status.PutFault → G.put_faults call.after ≡ G.put_faults call.before
  pub opens : OpensBy G call.before call.after call.status session
  pub by_status : LoadedBy G transfers call session call.status

-- a call did that and ended as a run of events does
pub record EndsLoad {W : Type 0} (G : Ghosts W) (transfers : ℕ) (before after : W) (ended : Ended) : Type 0 where
  pub loaded : Loaded G transfers (ended_call before after ended) ended.session
  pub ends : EndsEvents G before after ended
