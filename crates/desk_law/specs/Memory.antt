-- Plain machines side by side on one memory. They have no locks and know nothing of each other: a desk alone says who does a row, whose lines
-- are given back and who commits. Nothing here is ever run again from its start.
use Rattle.std.specs.Prelude.{◌≡◌, ℕ, zero, suc, ◌≤◌, ◌==◌, not, if◌then◌else◌, List, [], ◌∷◌, ◌++◌, filter, find, Option, Some, None, slice_get}
use Rattle.desk_law.specs.Below.{after, AgreeOn, all_of, Begin, begun, Checkpoint, Committed, Counts, Crash, Desk, due_to, Active, Event, event_lines, flat_map, FlatStore, Going, has, instruction, IsRunOf, IsSerial, IsWholeStore, Layout, line_count, flat_line, no_counts, numbers, On, opened, option_map_or, Outcome, Over, Plain, Program, range_with_len, row, run, start, step, touched, Turn, Turned, Turning, DiskWord}
use Rattle.desk_law.specs.Consistent.{IsAmong}
use Rattle.desk_law.specs.Current.{current_bytes}

-- the machine of an activation: its state, and the lines of the store that it has written
pub record Machine : Type 0 where
  pub state : Plain
  pub wrote : List ℕ

-- one list of bytes for all machines, what is committed of it, and the machine of each activation that has its number
pub record Memory : Type 0 where
  pub bytes : List ℕ
  pub committed : List ℕ
  pub machines : ℕ → Option Machine

-- bytes with these lines from others
abbrev pub laid_lines : Layout → (lines from onto : List ℕ) → List ℕ
laid_lines directory lines from onto =
    flat_map (λ line. if has lines line then flat_line directory from line else flat_line directory onto line) (range_with_len 0 (line_count directory))

-- the memory with the machine of a number
abbrev pub with_machine : ℕ → Option Machine → Memory → Memory
with_machine number machine memory = record memory { machines = λ at. if at == number then machine else memory.machines at }

-- the lines that the machine of a number has written
abbrev pub wrote_by : Memory → ℕ → List ℕ
wrote_by memory number = option_map_or (λ (machine : Machine). machine.wrote) (memory.machines number) []

-- the lines of the machines that went get their committed bytes back: of those that were active, all but some that stay
abbrev pub given_back : Layout → (active stay : List ℕ) → Memory → Memory
given_back directory active stay memory =
    record memory { bytes = laid_lines directory (flat_map (wrote_by memory) (filter (λ number. not (has stay number)) active)) memory.committed memory.bytes }

-- a row of the machine of a number, as it went on the memory; a machine whose row doesn't go on is lost
abbrev pub memory_went_on : ℕ → (wrote : List ℕ) → Outcome → Memory → Memory
memory_went_on number wrote (On next) memory = record (with_machine number (Some (record { state = next; wrote = wrote })) memory) { bytes = next.store }
memory_went_on number wrote _ memory = with_machine number None memory

-- the same of a machine at its state
abbrev pub does_row : Layout → Active → Option Machine → Memory → Memory
does_row directory entry None memory = memory
does_row directory entry (Some machine) memory =
    let now = record machine.state { store = memory.bytes } in
    memory_went_on entry.number (machine.wrote ++ (touched entry.runs.program directory now).writes) (row entry.runs.program directory now) memory

-- the same of the entry with a number, if there is one
abbrev pub row_by_entry : Layout → Option Active → Memory → Memory
row_by_entry directory None memory = memory
row_by_entry directory (Some entry) memory = does_row directory entry (memory.machines entry.number) memory

-- the lines that a machine wrote are committed
abbrev pub commit_of : Layout → ℕ → Memory → Memory
commit_of directory number memory = record memory { committed = laid_lines directory (wrote_by memory number) memory.bytes memory.committed }

-- the memory after an instruction of an activation at a desk, by how the turn is after it
abbrev pub after_instruction : ℕ → Desk → Turning → Memory → Memory
after_instruction number old (Going desk counts) memory =
    row_by_entry desk.committed.directory (find (λ (entry : Active). entry.number == number) desk.active)
    (given_back desk.committed.directory (numbers old) (numbers desk) memory)
after_instruction number old (Over desk counts (Committed steps printed)) memory =
    commit_of desk.committed.directory number (given_back desk.committed.directory (numbers old) (number ∷ numbers desk) memory)
after_instruction number old (Over desk counts ending) memory = given_back desk.committed.directory (numbers old) (numbers desk) memory

-- the memory after so many instructions more of a turn
abbrev pub after_turns : DiskWord → (number left : ℕ) → Turning → Memory → Memory
after_turns word number zero turning memory = memory
after_turns word number (suc left) (Over desk counts ending) memory = memory
after_turns word number (suc left) (Going desk counts) memory =
    let next = instruction word (find (λ (entry : Active). entry.number == number) desk.active) desk counts in
    after_turns word number left next (after_instruction number desk next memory)

-- the machine of a program that begins
abbrev pub first_machine : (args : List ℕ) → FlatStore → Option Program → Option Machine
first_machine args store None = None
first_machine args store (Some program) = Some (record { state = start program args store; wrote = [] })

-- the memory after an event of an open desk
abbrev pub after_event : List Program → Event → DiskWord → Desk → Memory → Memory
after_event programs (Begin program args) word desk memory =
    with_machine desk.next (first_machine args desk.committed (slice_get programs program)) memory
after_event programs (Turn activation limit) word desk memory = after_turns word activation limit (Going desk no_counts) memory
after_event programs Checkpoint word desk memory = memory
after_event programs Crash word desk memory = record memory { bytes = memory.committed }

-- the memory after a run
abbrev pub memory_after : List Program → List (Event × DiskWord) → Desk → Memory → Memory
memory_after programs [] desk memory = memory
memory_after programs (event ∷ events) desk memory =
    memory_after programs events (step programs event.0 event.1 desk).desk
    (if desk.closed then memory else after_event programs event.0 event.1 desk memory)

-- the memory of a store that opens
abbrev pub opening_memory : FlatStore → Memory
opening_memory store = record { bytes = store.bytes; committed = store.bytes; machines = λ at. None }

-- A machine is where its entry is when it runs alone over a committed store: registers, status, address, private bytes and printed bytes; and
-- it has written the same lines.
pub record IsAlone (store : FlatStore) (entry : Active) (machine : Option Machine) : Type 0 where
  pub it : Machine
  pub is : machine ≡ Some it
  pub bytes : List ℕ
  pub at : after entry.runs.program entry.runs.args store entry.rows ≡ Some (record it.state { store = bytes })
  pub wrote : it.wrote ≡ (due_to store entry).writes

-- A memory is that of a desk: what is committed is the desk's, its bytes have every line as it is now, and the machine of each active entry is
-- where the entry is when it runs alone over what is committed.
pub record IsMemory (desk : Desk) (memory : Memory) : Type 0 where
  pub committed : memory.committed ≡ desk.committed.bytes
  pub bytes : memory.bytes ≡ current_bytes desk
  pub alone : (entry : Active) → IsAmong desk.active entry → IsAlone desk.committed entry (memory.machines entry.number)

-- each active entry finds on each line that it holds, in the bytes of all, what it has there when it runs alone
abbrev pub FindTheirOwn : Desk → Memory → Type 0
FindTheirOwn desk memory =
    (entry : Active) (state : Plain) → IsAmong desk.active entry
    → after entry.runs.program entry.runs.args desk.committed entry.rows ≡ Some state
    → AgreeOn desk.committed.directory (all_of (due_to desk.committed entry)) memory.bytes state.store

-- The law of isolation: after every run, what the machines did side by side on one memory is what the desk says of each by itself.
abbrev pub RunsAreIsolated : Type 0
RunsAreIsolated =
    (programs : List Program) (frames most_active most_lines : ℕ) (store : FlatStore) (events : List (Event × DiskWord)) → IsWholeStore store → 2 ≤ frames
    → IsMemory (run programs events (opened frames most_active most_lines store))
    (memory_after programs events (opened frames most_active most_lines store) (opening_memory store))
    × FindTheirOwn (run programs events (opened frames most_active most_lines store))
    (memory_after programs events (opened frames most_active most_lines store) (opening_memory store))

-- The law: a commit tells the bytes that the machine of its activation printed.
abbrev pub CommitsTellTheMachine : Type 0
CommitsTellTheMachine =
    (programs : List Program) (frames most_active most_lines : ℕ) (store : FlatStore) (events : List (Event × DiskWord))
    (number limit : ℕ) (word : DiskWord) (counts : Counts) (steps : ℕ) (printed : List ℕ) → IsWholeStore store → 2 ≤ frames
    → (step programs (Turn number limit) word (run programs events (opened frames most_active most_lines store))).happening
    ≡ Turned number counts (Committed steps printed)
    → (machine : Machine)
    × ((memory_after programs (events ++ (Turn number limit, word) ∷ []) (opened frames most_active most_lines store) (opening_memory store)).machines number ≡ Some machine)
    × (machine.state.out ≡ printed)

-- The law: what machines side by side commit to one memory is what the same programs leave one after another, and the commits tell what these print.
abbrev pub SideBySideIsSerial : Type 0
SideBySideIsSerial =
    (names : List (List ℕ)) (programs : List Program) (number frames most_active most_lines : ℕ) (store : FlatStore)
    (events : List Event) (taken : List (Event × DiskWord)) (rest : List Event) → IsWholeStore store → 2 ≤ frames
    → IsRunOf programs events (opened frames most_active most_lines store) taken rest
    → IsSerial (begun programs events) number store (run programs taken (opened frames most_active most_lines store)).order
    (event_lines names programs number taken (opened frames most_active most_lines store))
    (record store { bytes = (memory_after programs taken (opened frames most_active most_lines store) (opening_memory store)).committed })
    (run programs taken (opened frames most_active most_lines store)).closed
