-- What a trace did: the lines that an activation touched as its serial run does were put, one line for each.
use Rattle.std.specs.Prelude.{◌≡◌, ◌≢◌, ℕ, ◌+◌, Bool, true, false, List, [], ◌++◌, codes, decimal, length, Option, Result, Ok, Err}
use Rattle.store_calls.specs.Below.{Bundle, Called, CommitLine, DoneIfCalm, flat_map, Ghosts, Given, Job, KeptStore, put_of, PrintsBytes, PutsTimes, report_told, RoomReads, Status}
use Rattle.serial_audit.specs.declared.answer.Trace.{Trace}
use Rattle.serial_audit.specs.declared.answer.TraceFault.{TraceFault}
use Rattle.serial_audit.specs.declared.answer.TraceFault.TheVariants as fault
use Rattle.serial_audit.specs.declared.touch.Touch.{Touch}
use Rattle.serial_audit.specs.Trace.{IsTraceAnswer}
use Rattle.call_status.specs.declared.status.Status.TheVariants as status
use Rattle.outside.specs.declared.source.Source as source
use Rattle.store_calls.specs.Bundled.{HasBundle, IsNoJob, AreBundleParts, IsWrongPart, WithBundle}
use Rattle.store_calls.specs.Audited.{IsOfAudit}

-- whether a line is read or written
abbrev pub touch_way : Bool → List ℕ
touch_way false = codes " r "
touch_way true = codes " w "

-- the line of a touch
abbrev pub touch_line : Touch → List ℕ
touch_line touch = codes "step " ++ decimal touch.step ++ touch_way touch.store ++ decimal touch.line ++ codes "\n"

-- the last line
abbrev pub steps_line : (activation steps : ℕ) → List ℕ
steps_line activation steps = codes "trace " ++ decimal activation ++ codes " steps " ++ decimal steps ++ codes "\n"

-- all lines of an activation's trace
abbrev pub trace_lines : (activation : ℕ) → Trace → List ℕ
trace_lines activation trace = flat_map touch_line trace.touches.items ++ steps_line activation trace.steps

-- what came of an activation in a bundle: a trace, or why there is none
pub record IsTraceFound (bytes : List ℕ) (activation : ℕ) (found : Result Trace TraceFault) : Type 0 where
  pub bundle : Bundle
  pub job : Job
  pub report : List CommitLine
  pub opening : KeptStore
  pub opened : AreBundleParts bytes bundle job report opening
  pub told : IsTraceAnswer job opening (report_told report) activation found

-- this is an activation's trace
abbrev pub IsTraced : List ℕ → ℕ → Trace → Type 0
IsTraced bytes activation trace = IsTraceFound bytes activation (Ok trace)

-- why a bundle isn't traced, by the status
abbrev pub IsUntraced : List ℕ → ℕ → Status → Type 0
IsUntraced bytes activation (status.Bundle part at) = IsWrongPart bytes part at
IsUntraced bytes activation (status.Job line kind) = IsNoJob bytes line kind
IsUntraced bytes activation status.NoCommit = IsTraceFound bytes activation (Err fault.NoCommit)
IsUntraced bytes activation (status.NotSerial place) = IsTraceFound bytes activation (Err (fault.NotSerial place))
IsUntraced bytes activation status.NoMemory = Unit {0}
IsUntraced bytes activation _ = ⊥

-- the lines of an activation's trace were put, each by one put, or a prefix of them
pub record TellsTrace {W : Type 0} (G : Ghosts W) (bytes : List ℕ) (activation : ℕ) (before after : W) (status : Status) : Type 0 where
  pub trace : Trace
  pub traced : IsTraced bytes activation trace
  pub puts : PrintsBytes G (trace_lines activation trace) before after (put_of status)
  pub times : PutsTimes G (length trace.touches.items + 1) before after (put_of status)

-- what was done with the text of a bundle, by the status: the trace was put or a put failed, or nothing outside was called
abbrev pub TracedBy : {W : Type 0} → Ghosts W → List ℕ → ℕ → W → W → Status → Type 0
TracedBy G bytes activation before after status.Done = TellsTrace G bytes activation before after status.Done
TracedBy G bytes activation before after status.PutFault = TellsTrace G bytes activation before after status.PutFault
TracedBy G bytes activation before after other = IsUntraced bytes activation other × (after ≡ before)

-- what a trace did; it has no order, and the source's count of faults rises with SourceFault alone
pub record TracedFrom {W : Type 0} (G : Ghosts W) (activation : ℕ) (given : Given) (call : Called W) : Type 0 where
  pub no_order : call.order ≡ []
  pub calm : call.status ≢ Status.SourceFault → given.faults_now ≡ given.faults
  pub by_status : WithBundle given (call.after ≡ call.before) (λ text. TracedBy G text activation call.before call.after call.status) call.status

-- the status of a trace that isn't had
abbrev pub status_of_trace : TraceFault → Status
status_of_trace fault.NoCommit = Status.NoCommit
status_of_trace (fault.NotSerial place) = Status.NotSerial place
status_of_trace fault.Memory = Status.NoMemory

-- The source has what a trace of this activation needs: a bundle, and for no reason but want of memory is there no trace in it.
pub record CanTrace (activation : ℕ) (left : Option (List ℕ)) : Type 0 where
  pub has : HasBundle left
  pub traced : (why : TraceFault) → IsTraceFound has.text activation (Err why) → why ≡ fault.Memory

-- a status of a trace
abbrev pub IsOfTrace : Status → Type 0
IsOfTrace status.NoCommit = Unit {0}
IsOfTrace (status.NotSerial place) = Unit {0}
IsOfTrace other = IsOfAudit other

-- what a trace of an activation in a source's bundle did, and that it ends well where it can
pub record TracesFrom {S W : Type 0} (F : source.Ghosts S) (G : Ghosts W) (activation : ℕ) (old new : S) (before after : W) (status : Status) : Type 0 where
  pub ends : RoomReads F G (TracedFrom G activation) IsOfTrace old new before after status
  pub complete : CanTrace activation (F.left old) → DoneIfCalm F G old new before after status
