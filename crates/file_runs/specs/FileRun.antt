-- What a run left of a file and a screen, in the words of what was asked of them.
use Rattle.std.specs.Prelude.{◌≡◌, ℕ, ◌+◌, ◌≤◌, ◌%◌, ◌^◌, ◌++◌, slice_set, OnOk, Bool, true, false, List, [], ◌∷◌, length, take, count_by, Option, None, Some, Result, Ok, IsTrue}
use Rattle.file_runs.specs.Below.{begun, ByOpening, content_of, Deed, Event, event_lines, Failed, FlatStore, Given, file_images_at, deed_writes, IsFaultAt, IsRunOf, IsSerial, IsWholeText, Job, job_desk, job_of, marks_of, names_of, printed_of, Prints, put_by, report, run, SessionState, Stands, stands, Status, Synced, DiskWord}
use Rattle.outside.specs.declared.world.Outside.{Ghosts}
use Rattle.desk.specs.Run.{faulted}
use Rattle.flat_machine.specs.Serial.{serial}
use Rattle.schedule_replay.specs.Ran.{IfInDoubt, PrintsEarlier, run_text}
use Rattle.schedule_replay.specs.Runs.{report_lines_of}
use Rattle.job_calls.specs.Headline.{job_opening}
use Rattle.job_calls.specs.Below.{line_text, Open}
use Rattle.call_status.specs.Opening.{IsStanding}
use Rattle.outside.specs.Clock.{shown_by}
use Rattle.real_files.specs.Shown.{LeftBy}
use Rattle.real_files.specs.Deeds.{deed_failed, file_after}
use Rattle.drills.specs.Asked.{OpenedWith}
use Rattle.outside.specs.Deeds.{IsCut}
use Rattle.schedule_replay.specs.RunAsks.{happened}
use Rattle.outside.specs.Moments.{Moment}
use Rattle.outside.specs.Runs.{Leaves}
use Rattle.desk.specs.Kept.{KeepsJournal, journal_in}
use Rattle.desk_law.specs.Headline.{IsPrefix}
use Rattle.call_status.specs.declared.status.Status.TheVariants as status
use Rattle.call_status.specs.Printed.{PrintsBy}

-- What may have been seen of these puts when so many deeds were done: all that were made at fewer, and of those made at that many a first part.
pub record IsSeenAt (puts : List Deed) (deeds : ℕ) (seen : List ℕ) : Type 0 where
  pub count : ℕ
  pub is_seen : seen ≡ take count (printed_of puts)
  pub ended : shown_by (marks_of 0 puts) (length (printed_of puts)) deeds ≤ count
  pub not_begun : count ≤ shown_by (marks_of 0 puts) (length (printed_of puts)) (deeds + 1)

-- The machine may stop after any number of the deeds: each image that these may leave, with what may have been seen by then, has this.
abbrev pub LeavesAt : (first : List ℕ) (deeds puts : List Deed) → (List ℕ → List ℕ → Type 0) → Type 0
LeavesAt first deeds puts P = (done : ℕ) (image seen : List ℕ) → done ≤ length deeds → file_images_at first deeds done image → IsSeenAt puts done seen → P image seen

-- so has each image that any number of the deeds may leave
abbrev pub LeavesAlways : (first : List ℕ) (deeds : List Deed) → (List ℕ → Type 0) → Type 0
LeavesAlways first deeds P = (done : ℕ) (image : List ℕ) → done ≤ length deeds → file_images_at first deeds done image → P image

-- and each that all of them may leave
abbrev pub LeavesLast : (first : List ℕ) (deeds : List Deed) → (List ℕ → Type 0) → Type 0
LeavesLast first deeds P = (image : List ℕ) → file_images_at first deeds (length deeds) image → P image

-- Nothing but one sync was asked of the file, and whenever the machine stops the bytes that it gave are left.
pub record KeepsFile (first : List ℕ) (deeds : List Deed) : Type 0 where
  pub asked : IsCut (Synced ∷ []) deeds
  pub kept : LeavesAlways first deeds (λ image. image ≡ first)

-- and nothing was handed to the screen
pub record OnlyAsked (first : List ℕ) (deeds puts : List Deed) : Type 0 where
  pub unput : puts ≡ []
  pub keeps : KeepsFile first deeds

-- nothing was asked of the file and of the screen
abbrev pub NothingAsked : (deeds puts : List Deed) → Type 0
NothingAsked deeds puts = (deeds ≡ []) × (puts ≡ [])

-- this text was handed to the screen, or a first part of it where the end isn't Done
abbrev pub Hands : (puts : List Deed) (text : List ℕ) (end : Status) → Type 0
Hands puts text end = PrintsBy (Some []) (Some (printed_of puts)) text end

-- A job was run on a disk that held these bytes, which stood for this number and this store, and on a screen.
pub record RanOnScreen (given : Given) (number : ℕ) (store : FlatStore) (first : List ℕ) (puts : List Deed) (order : List (ℕ × ℕ)) (end : Status) : Type 0 where
  -- the text that the source gave means a job
  pub text : List ℕ
  pub whole : IsWholeText given.left given.left_now text
  pub job : Job
  pub means : job_of text ≡ Ok (content_of job)
  -- there is one run of the desk over the first of its events, from that store, and these are its commits
  pub taken : List (Event × DiskWord)
  pub rest : List Event
  pub is_run : IsRunOf job.programs.items job.events.items (job_desk job first store) taken rest
  pub order_is : order ≡ (run job.programs.items taken (job_desk job first store)).order
  pub all : end ≡ status.Done → rest ≡ []
  -- at Done the desk is open, a disk fault closed it, and no event began behind a failed put
  pub still_open : end ≡ status.Done → (run job.programs.items taken (job_desk job first store)).closed ≡ false
  pub shut : end ≡ status.DiskFault → (run job.programs.items taken (job_desk job first store)).closed ≡ true
  pub earlier : PrintsEarlier (Some []) (Some (printed_of puts)) (λ front. line_text (Open number) ++ run_text (job_opening (names_of job) job number first store) front) taken
  -- they are those of the job's activations, one after another on the opening store, and so are the commit lines
  pub serial_run : IsSerial (begun job.programs.items job.events.items) number store order (event_lines (names_of job) job.programs.items number taken (job_desk job first store))
      (run job.programs.items taken (job_desk job first store)).committed (run job.programs.items taken (job_desk job first store)).closed
  -- what was handed to the screen is the report of that run, or after a failed put a first part of it
  pub put : Result ℕ Failed
  pub put_is : put_by end put
  pub printed : Prints (Some []) (Some (printed_of puts)) (report (names_of job) job.programs.items number taken rest (job_desk job first store)) put
  -- as many puts as the report has lines
  pub times : OnOk put (length puts ≡ length (report_lines_of (job_opening (names_of job) job number first store) taken rest))

-- no call on the file failed, and no write for want of memory
abbrev pub IsCalm : List Deed → Bool → Type 0
IsCalm deeds starved = (starved ≡ false) × (count_by deed_failed deeds ≡ 0)

-- One byte of the file decides whether the last commit is among them: with A5 there, each image that all deeds leave stands for all commits of the order.
abbrev pub GateDecides : (number : ℕ) → FlatStore → Job → (order : List (ℕ × ℕ)) (first : List ℕ) (deeds : List Deed) → Type 0
GateDecides number store job order first deeds =
    (gate : ℕ) × (left : FlatStore) × (serial (begun job.programs.items job.events.items) order store ≡ Some left)
    × LeavesLast first deeds (λ image. stands (slice_set image gate 165) ≡ Stands ((number + length order) % 2 ^ 64) left)

-- A job was run so on a file that gave these bytes.
pub record RanOnFile (starved : Bool) (given : Given) (number : ℕ) (store : FlatStore) (first : List ℕ) (deeds puts : List Deed) (order : List (ℕ × ℕ)) (end : Status) : Type 0 where
  pub ran : RanOnScreen given number store first puts order end
  -- one sync was asked of the file, and then what each event asks by what happened at it, in order, and nothing else
  pub asked : OpenedWith (file_after first) deeds (happened ran.job.programs.items ran.taken (job_desk ran.job first store))
  -- the machine may stop after any number of the deeds: each image that these may leave stands for the first commits: those that were seen or one more
  pub crash : LeavesAt first deeds puts (IsPrefix (begun ran.job.programs.items ran.job.events.items) number store order [])
  -- where no call on the file failed, and memory was there for what was written past its end, no event was told otherwise, and the desk is open
  pub fine : IsCalm deeds starved → faulted ran.taken ≡ 0
  -- where the last event ended in doubt and closed the desk, one byte decides
  pub doubt : IfInDoubt ran.taken (run ran.job.programs.items ran.taken (job_desk ran.job first store)).closed (λ front event. GateDecides number store ran.job order first deeds)
  -- while the desk is open at the end, what all deeds leave has the journal that the lines of the events make of the one before
  pub journal : (run ran.job.programs.items ran.taken (job_desk ran.job first store)).closed ≡ false
      → LeavesLast first deeds (λ image. KeepsJournal (event_lines (names_of ran.job) ran.job.programs.items number ran.taken (job_desk ran.job first store)) (journal_in first) (journal_in image))

-- this holds from whatever number and store the bytes stand for
abbrev pub FromAnyStore : List ℕ → (ℕ → FlatStore → Type 0) → Type 0
FromAnyStore first P = (number : ℕ) (store : FlatStore) → stands first ≡ Stands number store → P number store

-- the bytes stand for no number and store
abbrev pub StandsForNone : List ℕ → Type 0
StandsForNone first = FromAnyStore first (λ number store. ⊥)

-- What `run` did, by its end: the job was run, or no event was, and the file was only asked; an event may end in a disk fault, and so may the opening.
abbrev pub RunsOnFile : (starved : Bool) → Given → (first : List ℕ) (deeds puts : List Deed) (order : List (ℕ × ℕ)) → Option SessionState → (end : Status) → Type 0
RunsOnFile starved given first deeds puts order session status.Done = IsStanding first × FromAnyStore first (λ number store. RanOnFile starved given number store first deeds puts order status.Done)
RunsOnFile starved given first deeds puts order session status.PutFault = IsStanding first × FromAnyStore first (λ number store. RanOnFile starved given number store first deeds puts order status.PutFault)
RunsOnFile starved given first deeds puts order session status.DiskFault =
    ByOpening session (FromAnyStore first (λ number store. RanOnFile starved given number store first deeds puts order status.DiskFault)) (OnlyAsked first deeds puts)
RunsOnFile starved given first deeds puts order session (status.Store offset) = ByOpening session (StandsForNone first) (OnlyAsked first deeds puts × IsFaultAt first offset)
RunsOnFile starved given first deeds puts order session _ = OnlyAsked first deeds puts

-- the moment of a file that gave these bytes and of a screen, before anything was asked of them
abbrev pub begun_by : List ℕ → Moment
begun_by first = record { calls = 0; puts = 0; origin = record { first = first; stop = None } }

-- An outside holds these bytes, which alone a crash leaves, and nothing is printed yet; after its calls these are the puts of its screen.
pub record IsBehind {W : Type 0} (G : Ghosts W) (before after : W) (first : List ℕ) (puts : List Deed) : Type 0 where
  pub honest : IsTrue (G.is_honest before)
  pub held : G.held before ≡ Some first
  pub none : G.printed before ≡ Some []
  pub shown : G.printed after ≡ Some (printed_of puts)
  pub left : Leaves G (λ image seen. image ≡ first) before before
  pub unput : (G.moment before).puts ≡ 0
  pub count : (G.moment after).puts ≡ length puts

-- An outside is a file that gave these bytes and a screen, of which nothing was asked yet, and after its calls these are the deeds and the puts.
pub record AreBehind {W : Type 0} (G : Ghosts W) (before after : W) (first : List ℕ) (deeds puts : List Deed) (starved : Bool) : Type 0 where
  pub started : G.disk_faults before ≡ 0
  pub calm_disk : IsCalm deeds starved → G.disk_faults after ≡ 0
  pub screen : IsBehind G before after first puts
  pub moment : G.moment before ≡ begun_by first
  pub undone : G.deeds before ≡ Some []
  pub deeds_are : G.deeds after ≡ Some deeds
  pub holds : (w : W) (done : List Deed) → (G.moment w).origin ≡ (G.moment before).origin → G.deeds w ≡ Some done → G.held w ≡ Some (file_after first done)
  pub calls : (G.moment after).calls ≡ length deeds
  pub unwritten : G.writes before ≡ Some 0
  pub writes : G.writes after ≡ Some (count_by deed_writes deeds)
  pub since : (t : Moment) (image seen : List ℕ) → LeftBy first deeds puts t image seen → G.left_since after t image seen
  pub now : (image : List ℕ) → file_images_at first deeds (length deeds) image → (seen : List ℕ) × G.left_since after (G.moment after) image seen
