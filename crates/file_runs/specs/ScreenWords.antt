-- What the words without a file handed to the screen: their disk is one in memory.
use Rattle.std.specs.Prelude.{Bool, false, ◌≡◌, ◌⊎◌, ◌++◌, ◌*◌, ◌+◌, ◌<◌, ◌≤◌, ℕ, List, [], min, length, Option, Some, Result, Ok}
use Rattle.file_runs.specs.Below.{begun, ByOpening, Command, content_of, Deed, Ended, Event, event_lines, Failed, FlatStore, Given, IsFaultAt, IsRunOf, IsSerial, IsWholeText, Job, job_desk, job_of, order_told, printed_of, Prints, run, serial_lines, SessionState, Status, DiskWord}
use Rattle.desk.specs.Run.{faulted}
use Rattle.job_text.specs.Big.{IsBigJob}
use Rattle.job_text.specs.Grammar.{Content}
use Rattle.serial_audit.specs.declared.answer.Trace.{Trace}
use Rattle.serial_audit.specs.declared.auditing.Verdict.{Verdict}
use Rattle.call_status.specs.declared.status.Status.TheVariants as status
use Rattle.job_calls.specs.Big.{last_out, line_for}
use Rattle.store_calls.specs.Audited.{IsChecked, IsUnchecked, verdict_line}
use Rattle.store_calls.specs.Bundled.{WithBundle}
use Rattle.store_calls.specs.Traced.{IsTraced, IsUntraced, trace_lines}
use Rattle.drills.specs.Drilled.{AreStops, IsPast, broken, last_line, stop_lines, try_order, well}
use Rattle.drills.specs.declared.drill.StopPair.{StopPair}
use Rattle.console.specs.Listed.{listings_of}
use Rattle.console.specs.declared.command_words.Command.TheVariants as command
use Rattle.file_runs.specs.FileRun.{Hands, RanOnScreen, FromAnyStore, StandsForNone}

-- The source gave the text of a job, whole, and the listings of its programs were handed to the screen.
pub record HandsListings (given : Given) (puts : List Deed) (end : Status) : Type 0 where
  pub text : List ℕ
  pub whole : IsWholeText given.left given.left_now text
  pub content : Content
  pub means : job_of text ≡ Ok content
  pub handed : Hands puts (listings_of content) end

-- what `list` did, by its end; other ends don't come
abbrev pub ListedOnScreen : Given → (puts : List Deed) (end : Status) → Type 0
ListedOnScreen given puts status.Done = HandsListings given puts status.Done
ListedOnScreen given puts status.PutFault = HandsListings given puts status.PutFault
ListedOnScreen given puts (status.Job line kind) = puts ≡ []
ListedOnScreen given puts status.SourceFault = puts ≡ []
ListedOnScreen given puts status.TooBig = puts ≡ []
ListedOnScreen given puts status.NoMemory = puts ≡ []
ListedOnScreen given puts _ = ⊥

-- The bundle with these bytes was checked, and the line of the verdict was handed to the screen.
pub record HandsVerdict (bytes : List ℕ) (puts : List Deed) (end : Status) : Type 0 where
  pub commits : ℕ
  pub verdict : Verdict
  pub checked : IsChecked bytes commits verdict
  pub handed : Hands puts (verdict_line commits verdict) end

-- what was done with a bundle, by the end
abbrev pub AuditsBy : (bytes : List ℕ) (puts : List Deed) (end : Status) → Type 0
AuditsBy bytes puts status.Done = HandsVerdict bytes puts status.Done
AuditsBy bytes puts status.PutFault = HandsVerdict bytes puts status.PutFault
AuditsBy bytes puts end = IsUnchecked bytes end × (puts ≡ [])

-- what `audit` did with the bundle that the source gave; it gave none, and nothing was handed to the screen
abbrev pub AuditedOnScreen : Given → (puts : List Deed) (end : Status) → Type 0
AuditedOnScreen given puts end = WithBundle given (puts ≡ []) (λ text. AuditsBy text puts end) end

-- The activation was traced in the bundle with these bytes, and its lines were handed to the screen.
pub record HandsTrace (bytes : List ℕ) (activation : ℕ) (puts : List Deed) (end : Status) : Type 0 where
  pub trace : Trace
  pub traced : IsTraced bytes activation trace
  pub handed : Hands puts (trace_lines activation trace) end

-- what was done with a bundle, by the end
abbrev pub TracesBy : (bytes : List ℕ) (activation : ℕ) (puts : List Deed) (end : Status) → Type 0
TracesBy bytes activation puts status.Done = HandsTrace bytes activation puts status.Done
TracesBy bytes activation puts status.PutFault = HandsTrace bytes activation puts status.PutFault
TracesBy bytes activation puts end = IsUntraced bytes activation end × (puts ≡ [])

-- what `trace` did with the bundle that the source gave; it gave none, and nothing was handed to the screen
abbrev pub TracedOnScreen : (activation : ℕ) → Given → (puts : List Deed) (end : Status) → Type 0
TracedOnScreen activation given puts end = WithBundle given (puts ≡ []) (λ text. TracesBy text activation puts end) end

-- A job was run so on a disk in memory: where it had memory for what was written past its end, no event was told otherwise.
pub record RanInMemory (starved : Bool) (given : Given) (number : ℕ) (store : FlatStore) (first : List ℕ) (puts : List Deed) (order : List (ℕ × ℕ)) (end : Status) : Type 0 where
  pub ran : RanOnScreen given number store first puts order end
  pub fine : starved ≡ false → faulted ran.taken ≡ 0

-- what `try` did on a disk that held these bytes, by its end: the job was run, or no event was, and nothing was handed to the screen
abbrev pub TriedOnScreen : (starved : Bool) → Given → (first : List ℕ) (puts : List Deed) (order : List (ℕ × ℕ)) → Option SessionState → (end : Status) → Type 0
TriedOnScreen starved given first puts order session status.Done = FromAnyStore first (λ number store. RanInMemory starved given number store first puts order status.Done)
TriedOnScreen starved given first puts order session status.PutFault = FromAnyStore first (λ number store. RanInMemory starved given number store first puts order status.PutFault)
TriedOnScreen starved given first puts order session status.DiskFault = ByOpening session (FromAnyStore first (λ number store. RanInMemory starved given number store first puts order status.DiskFault)) (puts ≡ [])
TriedOnScreen starved given first puts order session (status.Store offset) = ByOpening session (StandsForNone first) ((puts ≡ []) × IsFaultAt first offset)
TriedOnScreen starved given first puts order session _ = puts ≡ []

-- The job of a load was run to its end on a disk that held these bytes, which stood for this number and this store, and its line was handed to the screen.
pub record RanLoad (starved : Bool) (transfers : ℕ) (job : Job) (number : ℕ) (store : FlatStore) (first : List ℕ) (puts : List Deed) (order : List (ℕ × ℕ)) (end : Status) : Type 0 where
  -- there is one run of the desk over its events, from that store, and these are its commits, those of its activations one after another
  pub taken : List (Event × DiskWord)
  pub is_run : IsRunOf job.programs.items job.events.items (job_desk job first store) taken []
  pub order_is : order ≡ (run job.programs.items taken (job_desk job first store)).order
  pub names : List (List ℕ)
  pub serial_run : IsSerial (begun job.programs.items job.events.items) number store order (event_lines names job.programs.items number taken (job_desk job first store))
      (run job.programs.items taken (job_desk job first store)).committed (run job.programs.items taken (job_desk job first store)).closed
  -- where the disk had memory for what was written past its end, no event was told otherwise
  pub fine : starved ≡ false → faulted taken ≡ 0
  -- its line has that run's counts, and what the last program prints in that serial run
  pub handed : Hands puts (line_for transfers (event_lines names job.programs.items number taken (job_desk job first store))) end
  pub last : last_out (event_lines names job.programs.items number taken (job_desk job first store)) ≡ last_out (serial_lines (begun job.programs.items job.events.items) number order store)

-- so from whatever number and store the bytes stand for
abbrev pub HandsLoad : (starved : Bool) (transfers : ℕ) (first : List ℕ) (puts : List Deed) (order : List (ℕ × ℕ)) (end : Status) → Type 0
HandsLoad starved transfers first puts order end = (job : Job) × IsBigJob transfers job × FromAnyStore first (λ number store. RanLoad starved transfers job number store first puts order end)

-- what `big` did, by its end; other ends don't come
abbrev pub LoadedOnScreen : (starved : Bool) (transfers : ℕ) (first : List ℕ) (puts : List Deed) (order : List (ℕ × ℕ)) (end : Status) → Type 0
LoadedOnScreen starved transfers first puts order status.Done = HandsLoad starved transfers first puts order status.Done
LoadedOnScreen starved transfers first puts order status.PutFault = HandsLoad starved transfers first puts order status.PutFault
LoadedOnScreen starved transfers first puts order status.DiskFault = printed_of puts ≡ []
LoadedOnScreen starved transfers first puts order (status.Store offset) = (puts ≡ []) × IsFaultAt first offset
LoadedOnScreen starved transfers first puts order status.NoMemory = puts ≡ []
LoadedOnScreen starved transfers first puts order _ = ⊥

-- The lines of stops of the job, numbered from write 1 on, were handed to the screen, or a first part where a put failed.
pub record HandsStops (job : Job) (puts : List Deed) (put : Result (Unit {0}) Failed) : Type 0 where
  pub pairs : List StopPair
  pub stops : AreStops job pairs
  pub printed : Prints (Some []) (Some (printed_of puts)) (stop_lines 1 pairs) put

-- And the last line, which tells at how many writes: at no fewer than two for each commit, or at 256; and how many commits the job has.
pub record HandsDrill (job : Job) (puts : List Deed) (put : Result (Unit {0}) Failed) : Type 0 where
  pub pairs : List StopPair
  pub stops : AreStops job pairs
  pub enough : min 256 (2 * length (try_order job)) ≤ length pairs
  pub all : length pairs < 256 → IsPast job (length pairs + 1)
  pub printed : Prints (Some []) (Some (printed_of puts)) (stop_lines 1 pairs ++ last_line (length pairs) (length (try_order job))) put

-- what drilling a job did, by the end; other ends don't come
abbrev pub DrillsBy : Job → (puts : List Deed) (end : Status) → Type 0
DrillsBy job puts status.Done = HandsDrill job puts well
DrillsBy job puts status.PutFault = HandsStops job puts broken ⊎ HandsDrill job puts broken
DrillsBy job puts status.NoMemory = HandsStops job puts well
DrillsBy job puts _ = ⊥

-- The source gave the text of a job, whole, which was drilled.
pub record DrilledJob (given : Given) (puts : List Deed) (end : Status) : Type 0 where
  pub text : List ℕ
  pub whole : IsWholeText given.left given.left_now text
  pub job : Job
  pub means : job_of text ≡ Ok (content_of job)
  pub drills : DrillsBy job puts end

-- what `drill` did, by its end; other ends don't come
abbrev pub DrilledOnScreen : Given → (puts : List Deed) (end : Status) → Type 0
DrilledOnScreen given puts status.Done = DrilledJob given puts status.Done
DrilledOnScreen given puts status.PutFault = DrilledJob given puts status.PutFault
DrilledOnScreen given puts status.NoMemory = (puts ≡ []) ⊎ DrilledJob given puts status.NoMemory
DrilledOnScreen given puts (status.Job line kind) = puts ≡ []
DrilledOnScreen given puts status.SourceFault = puts ≡ []
DrilledOnScreen given puts status.TooBig = puts ≡ []
DrilledOnScreen given puts _ = ⊥

-- A word without a file did what it does, as it ended, on a disk that held these bytes: these are its puts. The words on a file are no such.
abbrev pub DidOnScreen : (starved : Bool) → Command → Given → (first : List ℕ) (puts : List Deed) → Ended → Type 0
DidOnScreen starved command.Try given first puts ended = TriedOnScreen starved given first puts (order_told ended.order.items) ended.session ended.status
DidOnScreen starved (command.Big transfers) given first puts ended = LoadedOnScreen starved transfers first puts (order_told ended.order.items) ended.status
DidOnScreen starved command.List given first puts ended = ListedOnScreen given puts ended.status
DidOnScreen starved command.Drill given first puts ended = DrilledOnScreen given puts ended.status
DidOnScreen starved command.Audit given first puts ended = AuditedOnScreen given puts ended.status
DidOnScreen starved (command.Trace activation) given first puts ended = TracedOnScreen activation given puts ended.status
DidOnScreen starved _ given first puts ended = Unit {0}
