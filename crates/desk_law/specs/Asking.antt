-- A desk by how it asks for the locks of a row, and the one that asks where the entry of a page refuses a line, as the program does.
use Rattle.std.specs.Prelude.{◌≡◌, ℕ, zero, suc, ◌+◌, ◌≤◌, ◌==◌, ◌&&◌, not, if◌then◌else◌, Bool, true, false, IsTrue, List, [], ◌∷◌, ◌++◌, length, map, find, Option, Some, None}
use Rattle.desk_law.specs.Below.{after, asks, InFlight, attempts, begun, Broken, Check, Committed, conflicts_of, Counts, Desk, Active, Event, event_lines, event_of, Fetched, fetches_touched, Fetching, FlatStore, gets, Going, happening_lines, Idle, instruction, is_over_limit, IsSerial, IsWholeStore, Limit, no_counts, Nothing, number_after, OpenBeforeEach, opened, option_map_or, Outcome, Over, Program, refused_pages, run, Step, Turn, Turned, turned, Turning, DiskWord}
use Rattle.desk.specs.ReportLines.{ReportLine}
use Rattle.desk_law.specs.Consistent.{IsAmong, IsConsistent}
use Rattle.desk_law.specs.Orderly.{IsOrderly}
use Rattle.desk_law.specs.DeskLaws.{next_attempt}
use Rattle.desk_law.specs.Memory.{Machine, Memory, after_instruction, after_event, memory_after, opening_memory, IsMemory, FindTheirOwn}

-- how a desk asks: what it does with a row whose pages are there
abbrev pub Asking : Type 0
Asking = DiskWord → InFlight → Desk → Counts → Turning

-- where pages refuse the row a line its locks are asked for; where none does, the row gets on
abbrev pub asks_for : (refused holders : List ℕ) → Asking
asks_for [] holders word attempt desk counts = gets word attempt [] desk counts
asks_for refused holders word attempt desk counts = asks word attempt refused holders desk (record counts { locks = counts.locks + length refused })

-- asks where it is refused, by a rule that says whom an entry conflicts with; what comes of a conflict is the desk's own
abbrev pub asks_refused_by : (Desk → Active → List ℕ) → Asking
asks_refused_by holders_of word attempt desk counts = asks_for (refused_pages attempt desk) (holders_of desk attempt.entry) word attempt desk counts

-- asks where it is refused, by the desk's own rule
abbrev pub asks_refused : Asking
asks_refused = asks_refused_by conflicts_of

-- the desk and the counts where a row asks: once its pages are there; none where it ends before
abbrev pub comes_to_ask : Desk → Counts → Outcome → (over : Bool) → Fetching → Option (Desk × Counts)
comes_to_ask desk counts (Check code) over fetching = None
comes_to_ask desk counts outcome true fetching = None
comes_to_ask desk counts outcome false (Broken counted) = None
comes_to_ask desk counts outcome false (Fetched resident counted) = Some (record desk { resident = resident }, record counts { pages = counted })

-- an instruction under way: the desk's own, but where it asks
abbrev pub attempts_by : Asking → DiskWord → InFlight → Desk → Counts → Turning
attempts_by asking word attempt desk counts =
    option_map_or (λ there. asking word attempt there.0 there.1) (comes_to_ask desk counts attempt.outcome (is_over_limit attempt desk) (fetches_touched word attempt desk counts))
    (attempts word attempt attempt.outcome desk counts)

-- an instruction of an entry, if there is one
unfoldable pub asked_instruction : Asking → DiskWord → Option Active → Desk → Counts → Turning
asked_instruction asking word None desk counts = Over desk counts Idle
asked_instruction asking word (Some entry) desk counts =
    option_map_or (λ now. attempts_by asking word (next_attempt desk entry now) desk counts)
    (after entry.runs.program entry.runs.args desk.committed entry.rows) (Over desk counts Idle)

-- so many instructions more of a turn, and of the memory beside the desk
unfoldable pub turns_by : Asking → DiskWord → (number left : ℕ) → Turning → Memory → Turning × Memory
turns_by asking word number zero (Going desk counts) memory = (Over desk counts Limit, memory)
turns_by asking word number (suc left) (Going desk counts) memory =
    let next = asked_instruction asking word (find (λ (entry : Active). entry.number == number) desk.active) desk counts in
    turns_by asking word number left next (after_instruction number desk next memory)
turns_by asking word number left turning memory = (turning, memory)

-- an event as the desk itself takes it, and the memory after it
abbrev pub own_event : List Program → Event → DiskWord → Desk → Memory → Step × Memory
own_event programs event word desk memory = (event_of programs event word desk, after_event programs event word desk memory)

-- a turn as it came to its end, with the memory
abbrev pub turned_with : ℕ → Turning × Memory → Step × Memory
turned_with activation turning = (turned activation turning.0, turning.1)

-- an event of an open desk: the desk's own, but for a turn of an active entry
abbrev pub event_by : Asking → List Program → Event → DiskWord → Desk → Memory → Step × Memory
event_by asking programs (Turn activation limit) word desk memory =
    option_map_or (λ (entry : Active). turned_with activation (turns_by asking word activation limit (Going desk no_counts) memory))
    (find (λ (entry : Active). entry.number == activation) desk.active) (own_event programs (Turn activation limit) word desk memory)
event_by asking programs event word desk memory = own_event programs event word desk memory

-- a closed desk takes no event
abbrev pub step_by : Asking → List Program → Event → DiskWord → Desk → Memory → Step × Memory
step_by asking programs event word desk memory =
    if desk.closed then (record { desk = desk; happening = Nothing }, memory) else event_by asking programs event word desk memory

-- what a run comes to: the desk, the memory beside it, whether the desk was open before each event, and the lines
pub record RunState : Type 0 where
  pub desk : Desk
  pub memory : Memory
  pub each_open : Bool
  pub lines : List ReportLine

-- a run, with an event before it
abbrev pub event_before : List (List ℕ) → ℕ → Desk → Step → RunState → RunState
event_before names number desk step later = record later { each_open = not desk.closed && later.each_open; lines = happening_lines names (number_after number step.desk) step.happening ++ later.lines }

-- a run
abbrev pub run_by : Asking → (names : List (List ℕ)) → List Program → (number : ℕ) → List (Event × DiskWord) → Desk → Memory → RunState
run_by asking names programs number [] desk memory = record { desk = desk; memory = memory; each_open = true; lines = [] }
run_by asking names programs number (event ∷ events) desk memory =
    let next = step_by asking programs event.0 event.1 desk memory in
    event_before names number desk next.0 (run_by asking names programs number events next.0.desk next.1)

-- The law: at an orderly desk an instruction that asks where it is refused is the instruction.
abbrev pub InstructionsAskAlike : Type 0
InstructionsAskAlike =
    (word : DiskWord) (desk : Desk) (counts : Counts) (entry : Active) → IsOrderly desk → IsAmong desk.active entry
    → asked_instruction asks_refused word (Some entry) desk counts ≡ instruction word (Some entry) desk counts

-- desk, memory, openness and lines are those of the run of the desk that asks at each row
pub record IsRunOfDesk (names : List (List ℕ)) (programs : List Program) (number : ℕ) (events : List (Event × DiskWord)) (desk : Desk) (memory : Memory) (ran : RunState) : Type 0 where
  pub desk_is : ran.desk ≡ run programs events desk
  pub memory_is : ran.memory ≡ memory_after programs events desk memory
  pub opens : IsTrue ran.each_open → OpenBeforeEach programs events desk
  pub lines_are : ran.lines ≡ event_lines names programs number events desk

-- a law of all runs of a desk that asks so, from an opening on a whole store with two frames or more
abbrev pub OfRuns : Asking → (List (List ℕ) → List Program → ℕ → List (Event × DiskWord) → FlatStore → Desk → RunState → Type 0) → Type 0
OfRuns asking law =
    (names : List (List ℕ)) (programs : List Program) (number frames most_active most_lines : ℕ) (store : FlatStore) (events : List (Event × DiskWord)) → IsWholeStore store → 2 ≤ frames
    → law names programs number events store (opened frames most_active most_lines store) (run_by asking names programs number events (opened frames most_active most_lines store) (opening_memory store))

-- The law: a run of the desk that asks where it is refused is that of the desk.
abbrev pub RunsAskAlike : Type 0
RunsAskAlike = OfRuns asks_refused (λ names programs number events store desk ran. IsRunOfDesk names programs number events desk (opening_memory store) ran)

-- The law of consistency of a desk that asks so.
abbrev pub RunsStayConsistentBy : Asking → Type 0
RunsStayConsistentBy asking = OfRuns asking (λ names programs number events store desk ran. IsConsistent ran.desk)

-- The law of isolation of a desk that asks so.
abbrev pub RunsAreIsolatedBy : Asking → Type 0
RunsAreIsolatedBy asking = OfRuns asking (λ names programs number events store desk ran. IsMemory ran.desk ran.memory × FindTheirOwn ran.desk ran.memory)

-- The law that what machines beside a desk that asks so commit is what the same programs leave one after another.
abbrev pub SideBySideIsSerialBy : Asking → Type 0
SideBySideIsSerialBy asking =
    OfRuns asking (λ names programs number events store desk ran.
    (rest : List Event) → IsTrue ran.each_open
    → IsSerial (begun programs (map (λ event. event.0) events ++ rest)) number store ran.desk.order ran.lines (record store { bytes = ran.memory.committed }) ran.desk.closed)

-- The law that a commit of a desk that asks so tells the bytes that the machine of its activation printed.
abbrev pub CommitsTellTheMachineBy : Asking → Type 0
CommitsTellTheMachineBy asking =
    OfRuns asking (λ names programs number events store desk ran.
    (activation limit : ℕ) (word : DiskWord) (counts : Counts) (steps : ℕ) (printed : List ℕ)
    → (step_by asking programs (Turn activation limit) word ran.desk ran.memory).0.happening ≡ Turned activation counts (Committed steps printed)
    → (machine : Machine) × ((step_by asking programs (Turn activation limit) word ran.desk ran.memory).1.machines activation ≡ Some machine) × (machine.state.out ≡ printed))
