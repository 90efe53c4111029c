-- What a call of the console did: the run of the desk that its report tells of and what a crash leaves of it, or nothing.
use Rattle.std.specs.Prelude.{◌≡◌, ◌≢◌, ◌⊎◌, ℕ, ◌+◌, ◌%◌, ◌^◌, true, false, List, [], ◌++◌, length, map, take, slice_set, Option, None, Some, IsSome, Result, Ok, Err}
use Rattle.job_calls.specs.Below.{begun, Called, call, Elapses, FlatStore, Ghosts, Given, given, held_of, IsFaultAt, IsOfStart, IsSerial, Job, Leaves, ReportLine, line_text, OnlyOpens, Open, order_told, Replayed, SessionState, Status, StillTold, TellsStore, FaultsBy, ReadFaultsBy}
use Rattle.outside.specs.declared.failed.Failed.{Failed}
use Rattle.outside.specs.declared.source.Source as source
use Rattle.outside.specs.Bytes.{Prints}
use Rattle.outside.specs.Causes.{Rose}
use Rattle.flat_machine.specs.Serial.{serial}
use Rattle.store_format.specs.Header.{header_of, most_lines}
use Rattle.store_format.specs.Stands.{Stands, stands}
use Rattle.desk.specs.declared.event.Event.{Event}
use Rattle.desk.specs.Desk.{Desk, opened}
use Rattle.desk.specs.Instruction.{DiskWord}
use Rattle.desk.specs.Run.{run, faulted, IsRunOf}
use Rattle.desk_law.specs.Headline.{IsFirst, IsPrefix}
use Rattle.schedule_replay.specs.LinesPut.{PutsTimes, shown_on}
use Rattle.schedule_replay.specs.Ran.{IfInDoubt, PrintsEarlier, run_text}
use Rattle.schedule_replay.specs.RanTo.{RanTo}
use Rattle.schedule_replay.specs.RunAsks.{happened, OpenedAsks}
use Rattle.schedule_replay.specs.Runs.{Opening, lines_of, opening, report_lines_of, report_of, span}
use Rattle.schedule_replay.specs.Told.{TellsBy}
use Rattle.session.specs.contracts.calls.SessionSupervisor.TheImpl.{ghosts}
use Rattle.job_text.specs.Grammar.{job_of, content_of}
use Rattle.call_status.specs.declared.status.Status.TheVariants as status
use Rattle.call_status.specs.Reading.{ReadsBy}
use Rattle.call_status.specs.SourceText.{IsWholeText}
use Rattle.job_calls.specs.Causes.{status_of_replay, IsOfEvents, IsOfRun, OpensBy}
use Rattle.job_calls.specs.Handed.{HandedRuns, HandsOn, HandedFits}
use Rattle.job_calls.specs.declared.ended.Ended.{Ended}

-- a call that ended so
abbrev pub ended_call : {W : Type 0} → W → W → Ended → Called W
ended_call before after ended = call before after (order_told ended.order.items) ended.status

-- How a call that runs events ends: its session is handed on with its order, and fits the outside; its status is one of such a call, and counts
-- of faults rose by it.
pub record EndsEvents {W : Type 0} (G : Ghosts W) (before now : W) (ended : Ended) : Type 0 where
  pub handed : HandsOn (order_told ended.order.items) ended.session ended.status
  pub fits : HandedFits G now ended.session
  pub faults : FaultsBy G before now ended.status
  pub only : IsOfEvents ended.status

-- the names of a job's programs
abbrev pub names_of : Job → List (List ℕ)
names_of job = map (λ name. name.items) job.names.items

-- The desk that opens for a job on the bytes of a disk, which stand for this store: sixteen activations may be active at once, and a
-- record may have the lines that the bytes' header has room for.
abbrev pub job_desk : Job → List ℕ → FlatStore → Desk
job_desk job held store = opened job.frames 16 (most_lines (header_of (take 128 held))) store

-- what a run of a job begins with there, with these names for its programs
abbrev pub job_opening : List (List ℕ) → Job → ℕ → List ℕ → FlatStore → Opening
job_opening names job number held store = opening names job.programs.items number (job_desk job held store)

-- how the report was put, by the status
abbrev pub put_by : Status → Result ℕ Failed → Type 0
put_by status.PutFault put = (failed : Failed) × (put ≡ Err failed)
put_by _ put = put ≡ Ok 0

-- behind a commit in doubt there is one place with whose byte each image stands for the whole order, run one after another
abbrev pub DoubtStands : {W : Type 0} → Ghosts W → Job → ℕ → FlatStore → List (ℕ × ℕ) → W → Type 0
DoubtStands G job number store order now =
    (gate : ℕ) × (left : FlatStore) × (serial (begun job.programs.items job.events.items) order store ≡ Some left)
    × Leaves G (λ image seen. stands (slice_set image gate 165) ≡ Stands ((number + length order) % 2 ^ 64) left) now now

-- One run of the desk over the first of a job's events, from the store that the disk stood for, to the answered order and to a session.
pub record RunsFrom {W : Type 0} (G : Ghosts W) (job : Job) (number : ℕ) (store : FlatStore) (call : Called W) : Type 0 where
  pub taken : List (Event × DiskWord)
  pub rest : List Event
  pub is_run : IsRunOf job.programs.items job.events.items (job_desk job (held_of G call.before) store) taken rest
  pub end : Desk
  pub end_is : end ≡ run job.programs.items taken (job_desk job (held_of G call.before) store)
  pub order_is : call.order ≡ end.order
  -- its lines, with these names for the programs
  pub names : List (List ℕ)
  pub lines : List ReportLine
  pub lines_are : lines ≡ lines_of (job_opening names job number (held_of G call.before) store) taken
  pub session : SessionState
  pub to : RanTo ghosts G end lines (faulted taken) session (span call.before call.after)
  -- all words are fine where the disk's faults didn't rise
  pub all_fine : (¬ (Rose (G.disk_faults call.before) (G.disk_faults call.after))) → faulted taken ≡ 0
  -- the commits are those of the job's activations, one after another, and so are the commit lines
  pub serial_run : IsSerial (begun job.programs.items job.events.items) number store call.order lines end.committed end.closed
  -- while the desk is open the disk's bytes stand for the number of commits and the store that they leave one after another
  pub leaves : end.closed ≡ false → (left : FlatStore) × (serial (begun job.programs.items job.events.items) call.order store ≡ Some left) × (stands (held_of G call.after) ≡ Stands ((number + length call.order) % 2 ^ 64) left)
  -- a crash at any moment of the call leaves an image of the start with nothing printed since, or a store that the first commits leave one after another
  pub crash : Leaves G (λ image seen. IsOfStart G call.before image seen ⊎ IsFirst (begun job.programs.items job.events.items) number store call.order image) call.before call.after
  -- and where the last event ended in doubt, the gate byte alone decides whether its commit is among them
  pub doubt : IfInDoubt taken end.closed (λ front event. DoubtStands G job number store call.order call.after)

-- The job was run from the store that the disk stood for, and the report of the run is printed: to the byte, or after a failed put a prefix of it with
-- the first line and those of all events but the last.
pub record JobHasRun {W : Type 0} (G : Ghosts W) (job : Job) (number : ℕ) (store : FlatStore) (call : Called W) (session : Option SessionState) : Type 0 where
  pub ran : RunsFrom G job number store call
  pub named : ran.names ≡ names_of job
  pub answered : session ≡ Some ran.session
  -- at Done all events were run and the desk is open, and a disk fault closed it
  pub all : call.status ≡ Status.Done → ran.rest ≡ []
  pub still_open : call.status ≡ Status.Done → ran.end.closed ≡ false
  pub shut : call.status ≡ Status.DiskFault → ran.end.closed ≡ true
  -- one sync was asked of the disk, and then what each event asks by what happened at it, in order
  pub deeds : OpenedAsks G (happened job.programs.items ran.taken (job_desk job (held_of G call.before) store)) call.before call.after
  pub put : Result ℕ Failed
  pub put_is : put_by call.status put
  pub printed : Prints (G.printed call.before) (G.printed call.after) (report_of (job_opening (names_of job) job number (held_of G call.before) store) ran.taken ran.rest) put
  -- each line by one put
  pub times : PutsTimes G (length (report_lines_of (job_opening (names_of job) job number (held_of G call.before) store) ran.taken ran.rest)) call.before call.after put
  pub earlier : PrintsEarlier (G.printed call.before) (G.printed call.after) (λ front. line_text (Open number) ++ run_text (job_opening (names_of job) job number (held_of G call.before) store) front) ran.taken
  -- a crash leaves such an image of the start, or the commits that were printed by then, and at most one more, where the printed bytes are told
  pub seen : IsSome (G.printed call.before) → Leaves G (λ image seen. IsOfStart G call.before image seen ⊎ IsPrefix (begun job.programs.items job.events.items) number store call.order (shown_on G call.before) image seen)
      call.before call.after

-- the job was run, from whatever number and store the disk stood for
abbrev pub HasRunFrom : {W : Type 0} → Ghosts W → Job → Called W → Option SessionState → Type 0
HasRunFrom G job call session = (number : ℕ) (store : FlatStore) → TellsStore G call.before number store → JobHasRun G job number store call session

-- a disk that stood for a store isn't found damaged
abbrev pub StoodForNone : {W : Type 0} → Ghosts W → W → Type 0
StoodForNone G before = (number : ℕ) (store : FlatStore) → ¬ (TellsStore G before number store)

-- the text was had whole, and means a job whose events were run; the session runs its programs
pub record RanJob {W : Type 0} (G : Ghosts W) (given : Given) (call : Called W) (session : Option SessionState) : Type 0 where
  pub text : List ℕ
  pub whole : IsWholeText given.left given.left_now text
  pub job : Job
  pub means : job_of text ≡ Ok (content_of job)
  pub has_run : HasRunFrom G job call session
  pub runs : HandedRuns job.programs.items session

-- whatever stands on the disk, what was printed are the lines of the answers to the job's events, and the order is the one that they tell of
abbrev pub TellsJob : {W : Type 0} → Ghosts W → Job → Called W → Type 0
TellsJob G job call = (how : Replayed) × (call.status ≡ status_of_replay how) × TellsBy G (names_of job) job.events.items [] call.order call.before call.after how

-- the text was had whole, and means a job of which that is so
pub record PutJob {W : Type 0} (G : Ghosts W) (given : Given) (call : Called W) : Type 0 where
  pub text : List ℕ
  pub whole : IsWholeText given.left given.left_now text
  pub job : Job
  pub means : job_of text ≡ Ok (content_of job)
  pub tells : TellsJob G job call

-- no event was run: nothing was printed, and the disk was asked one sync at most, and read
pub record Untouched {W : Type 0} (G : Ghosts W) (call : Called W) : Type 0 where
  pub no_order : call.order ≡ []
  pub asks : OnlyOpens G call.before call.after

-- and the disk didn't fail
pub record Refused {W : Type 0} (G : Ghosts W) (call : Called W) : Type 0 where
  pub untouched : Untouched G call
  pub calm : G.disk_faults call.after ≡ G.disk_faults call.before

-- no store was found: bytes that are told have this fault
pub record FoundNoStore {W : Type 0} (G : Ghosts W) (call : Called W) (offset : ℕ) : Type 0 where
  pub refused : Refused G call
  pub fault : IsSome (G.held call.before) → IsFaultAt (held_of G call.before) offset

-- the first where a session was opened, and the second where the call was refused before
abbrev pub ByOpening : Option SessionState → Type 0 → Type 0 → Type 0
ByOpening (Some session) opened refused = opened
ByOpening None opened refused = refused

-- what a call did, by its status, where this is what running its events did; a disk fault and damage come in the opening or in an event
abbrev pub DidBy : {W : Type 0} → Ghosts W → (ran : Type 0) → Called W → Option SessionState → Status → Type 0
DidBy G ran call session status.Done = ran
DidBy G ran call session status.PutFault = ran
DidBy G ran call session status.DiskFault = ByOpening session ran (Untouched G call)
DidBy G ran call session (status.Store offset) = ByOpening session (StoodForNone G call.before) (FoundNoStore G call offset)
DidBy G ran call session _ = Refused G call

-- What a call did on an outside, whatever stands on it, where this is what running its events did, and this what is told of them: the disk is as honest as
-- it was and time elapsed, bytes that were told are told, the screen's count of faults rises with PutFault alone, also behind the event that closed the desk,
-- and the rest is by its status.
pub record DidOn {W : Type 0} (G : Ghosts W) (ran tells : Type 0) (call : Called W) (session : Option SessionState) : Type 0 where
  pub honest : G.is_honest call.after ≡ G.is_honest call.before
  pub time : Elapses G.moment G.left_since call.before call.after
  pub told : StillTold G call.before call.after
  pub put : call.status ≢ Status.PutFault → G.put_faults call.after ≡ G.put_faults call.before
  pub by_status : DidBy G ran call session call.status
  pub put_lines : ByOpening session tells (Unit {0})

-- what a call did with the job of its source
abbrev pub Happened : {W : Type 0} → Ghosts W → Given → Called W → Option SessionState → Type 0
Happened G given call session = DidOn G (RanJob G given call session) (PutJob G given call) call session

-- the same for a job that is given
abbrev pub HappenedTo : {W : Type 0} → Ghosts W → Job → Called W → Option SessionState → Type 0
HappenedTo G job call session = DidOn G (HasRunFrom G job call session) (TellsJob G job call) call session

-- A call ran a job that is given, as it ended: what the bytes tell of its status, what it did, and the session that is handed on.
pub record HasRunJob {W : Type 0} (G : Ghosts W) (job : Job) (before after : W) (ended : Ended) : Type 0 where
  pub opened : OpensBy G before after ended.status ended.session
  pub happened : HappenedTo G job (ended_call before after ended) ended.session
  pub runs : HandedRuns job.programs.items ended.session
  pub ends : EndsEvents G before after ended

-- the same for the job of a source, with what its text and the faults in it tell of the status
pub record RunsSource {S W : Type 0} (F : source.Ghosts S) (G : Ghosts W) (old new : S) (before after : W) (ended : Ended) : Type 0 where
  pub read : ReadsBy (given F old new) ended.status
  pub opened : OpensBy G before after ended.status ended.session
  pub faults : ReadFaultsBy G (given F old new) before after ended.status
  pub happened : Happened G (given F old new) (ended_call before after ended) ended.session
  pub handed : HandsOn (order_told ended.order.items) ended.session ended.status
  pub fits : HandedFits G after ended.session
  pub only : IsOfRun ended.status
