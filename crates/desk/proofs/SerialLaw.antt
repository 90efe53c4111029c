-- The commits of a run are those of a serial run.
use Rattle.desk.proofs.Common.{nat_lt, not, slice_get, if◌then◌else◌, IsTrue, option_and_then, flat_map, FlatStore, Plain, Program, Activation, numbered, serial, Begin, Turn, Checkpoint, Crash, Desk, Active, opened, numbers, DiskWord, Fine, ReadFailed, Unwritten, Doubt, Failed, Counts, Ending, Idle, Limit, Checked, Journal, Disk, Victim, Waits, Committed, CommitUnwritten, CommitDoubted, Turning, Going, Over, turn, number_after, happening_lines, cycle_lines, event_lines, nat_tests, ◌≡◌, ℕ, suc, ◌+◌, ◌%◌, ◌^◌, ◌≤◌, ◌⊎◌, inl, inr, Bool, true, false, List, [], ◌∷◌, ◌++◌, length, map, refl, sym, ◌∙◌, ap, subst, arith, Option, Some, None, append_assoc, length-append}
use Rattle.std.proofs.lemmas.List.{append-nil}
use Rattle.std.proofs.lemmas.List.Elements.{filter-append}
use Rattle.std.proofs.lemmas.List.Sums.{sum_by-append}
use Rattle.desk.specs.declared.event.Event.{Event}
use Rattle.desk.specs.Run.{Step, Happening, Nothing, Busy, Turned, CheckpointMade, CheckpointFailed, Crashed, CrashFailed, begin_if, begins, absent_segment, turned, restarted, shut as shut_desk, is_fine, faulted, event_of, step, run, OpenBeforeEach}
use Rattle.desk.specs.ReportLines.{ReportLine}
use Rattle.desk.specs.Commits.{begun, begun_before, commit_lines, serial_lines, line_before, RunsAreSerial}
use Rattle.desk.specs.ReportLines as line
use Rattle.desk.proofs.Kept.{AreNumbered, Moves, Commits, Does, Ends, moves-none, does-turn}

-- one entry more is numbered too
numbered-more : (all : List Activation) (entry : Active) (entries : List Active) → AreNumbered all entries → numbered all entry.number ≡ Some entry.runs → AreNumbered all (entries ++ entry ∷ [])
numbered-more all entry [] are is = (is, tt)
numbered-more all entry (one ∷ entries) are is = (are.0, numbered-more all entry entries are.1 is)

-- the element behind a front
at-front : (front : List Activation) (one : Activation) (rest : List Activation) → slice_get (front ++ one ∷ rest) (length front) ≡ Some one
at-front [] one rest = refl
at-front (first ∷ front) one rest = at-front front one rest

-- cycles have no commit lines
cycles-quiet : (cycles : List (List ℕ)) (lines : List ReportLine) → commit_lines (flat_map cycle_lines cycles ++ lines) ≡ commit_lines lines
cycles-quiet [] lines = refl
cycles-quiet (cycle ∷ cycles) lines = cycles-quiet cycles lines

-- the activation that an event makes, if it is a begin, before later ones
abbrev pub begun_one : List Program → Event → List Activation → List Activation
begun_one programs (Begin program args) later = begun_before (slice_get programs program) args later
begun_one programs _ later = later

-- an event that commits nothing, with which these activations have begun
pub record Quiet (all : List Activation) (names : List (List ℕ)) (front : List Activation) (old : Desk) (new : Step) : Type 0 where
  pub committed : new.desk.committed ≡ old.committed
  pub order : new.desk.order ≡ old.order
  pub closed : new.desk.closed ≡ old.closed
  pub next : new.desk.next ≡ suc (length front)
  pub are : AreNumbered all new.desk.active
  pub no_lines : (number : ℕ) → commit_lines (happening_lines names number new.happening) ≡ []

-- an event that commits
pub record Commit (all : List Activation) (names : List (List ℕ)) (front : List Activation) (old : Desk) (new : Step) : Type 0 where
  pub activation : ℕ
  pub steps : ℕ
  pub out : List ℕ
  pub did : Commits all activation steps out old new.desk
  pub next : new.desk.next ≡ suc (length front)
  pub are : AreNumbered all new.desk.active
  pub one_line : (number : ℕ) → commit_lines (happening_lines names number new.happening) ≡ line.Commit activation number steps out ∷ []

-- an event that closes the desk, with a commit in doubt or none
pub record Closes (all : List Activation) (names : List (List ℕ)) (word : DiskWord) (old : Desk) (new : Step) : Type 0 where
  pub broken : is_fine word ≡ false
  pub committed : new.desk.committed ≡ old.committed
  pub closed : new.desk.closed ≡ true
  pub doubt : List (ℕ × ℕ)
  pub order : new.desk.order ≡ old.order ++ doubt
  pub one_doubt : length doubt ≤ 1
  pub with_doubt : (last : FlatStore) × (serial all doubt old.committed ≡ Some last)
  pub no_lines : (number : ℕ) → commit_lines (happening_lines names number new.happening) ≡ []

abbrev EventDid : List Activation → List (List ℕ) → List Activation → DiskWord → Desk → Step → Type 0
EventDid all names front word old new = Quiet all names front old new ⊎ Commit all names front old new ⊎ Closes all names word old new

module _ (all : List Activation) (names : List (List ℕ)) (programs : List Program) where
  -- a begin
  begin-did : (program : ℕ) (args : List ℕ) (code : Option Program) (front rest : List Activation) (desk : Desk)
      → all ≡ front ++ begun_before code args rest → desk.next ≡ suc (length front) → AreNumbered all desk.active
      → Quiet all names (front ++ begun_before code args []) desk (begin_if program args code desk)
  begin-did program args None front rest desk is next are = grind (arith, nat_tests, append-nil front)
  begin-did program args (Some code) front rest desk is next are = by_room (nat_lt (length desk.active) desk.most_active)
    where
      runs : Activation
      runs = record { program = code; args = args }

      longer : suc (suc (length front)) ≡ suc (length (front ++ record { program = code; args = args } ∷ []))
      longer = let e : length (front ++ record { program = code; args = args } ∷ []) ≡ length front + 1 = length-append front (record { program = code; args = args } ∷ []) in omega arith

      next-is : desk.next + 1 ≡ suc (length (front ++ record { program = code; args = args } ∷ []))
      next-is = omega (arith, next, longer)

      named : numbered all desk.next ≡ Some (record { program = code; args = args })
      named = ap (numbered all) next ∙ ap (λ (these : List Activation). slice_get these (length front)) is ∙ at-front front (record { program = code; args = args }) rest

      by_segment : (absent : Option ℕ) → Quiet all names (front ++ record { program = code; args = args } ∷ []) desk (begins absent program (record { program = code; args = args }) desk)
      by_segment None = record {
        committed = refl;
        order = refl;
        closed = refl;
        next = next-is;
        are = numbered-more all (record { number = desk.next; runs = record { program = code; args = args }; rows = 0; waiting = false }) desk.active are named;
        no_lines = λ number. refl;
      }
      by_segment (Some segment) = record { committed = refl; order = refl; closed = refl; next = next-is; are = are; no_lines = λ number. refl }

      by_room : (room : Bool) → Quiet all names (front ++ record { program = code; args = args } ∷ []) desk
          (if room then begins (absent_segment desk.committed.directory code.windows) program (record { program = code; args = args }) desk
          else record { desk = record desk { next = desk.next + 1 }; happening = Busy desk.next program })
      by_room true = by_segment (absent_segment desk.committed.directory code.windows)
      by_room false = record { committed = refl; order = refl; closed = refl; next = next-is; are = are; no_lines = λ number. refl }

  -- a turn
  module _ (front : List Activation) (old : Desk) (next : old.next ≡ suc (length front)) (are : AreNumbered all old.active) (word : DiskWord) where
    quiet-moves : (new : Desk) (happening : Happening) → Moves all old new → ((number : ℕ) → commit_lines (happening_lines names number happening) ≡ [])
        → EventDid all names front word old (record { desk = new; happening = happening })
    quiet-moves new happening moves quiet = grind (arith, nat_tests)

    ending-did : (activation : ℕ) (new : Desk) (counts : Counts) (ending : Ending) → Ends all word activation old new ending
        → EventDid all names front word old (record { desk = new; happening = Turned activation counts ending })
    ending-did activation new counts Idle moves = quiet-moves new (Turned activation counts Idle) moves (λ number. refl)
    ending-did activation new counts Limit moves = quiet-moves new (Turned activation counts Limit) moves (λ number. cycles-quiet counts.cycles [])
    ending-did activation new counts (Checked code address) moves = quiet-moves new (Turned activation counts (Checked code address)) moves (λ number. cycles-quiet counts.cycles (line.Check activation code address ∷ []))
    ending-did activation new counts (Journal lines limit) moves = quiet-moves new (Turned activation counts (Journal lines limit)) moves (λ number. cycles-quiet counts.cycles (line.Journal activation lines limit ∷ []))
    ending-did activation new counts Disk moves = quiet-moves new (Turned activation counts Disk) moves (λ number. cycles-quiet counts.cycles (line.Disk activation ∷ []))
    ending-did activation new counts Victim moves = quiet-moves new (Turned activation counts Victim) moves (λ number. cycles-quiet counts.cycles [])
    ending-did activation new counts (Waits holders) moves = quiet-moves new (Turned activation counts (Waits holders)) moves (λ number. cycles-quiet counts.cycles (line.Wait activation holders ∷ []))
    ending-did activation new counts (Committed steps out) did = inr (inl (record {
      activation = activation;
      steps = steps;
      out = out;
      did = did;
      next = did.next ∙ next;
      are = did.numbered_all are;
      one_line = λ number. cycles-quiet counts.cycles (line.Commit activation number steps out ∷ []);
    }))
    ending-did activation new counts CommitUnwritten did = inr (inr (record {
      broken = did.broken;
      committed = did.committed;
      closed = did.closed;
      doubt = [];
      order = did.order ∙ sym (append-nil old.order);
      one_doubt = omega arith;
      with_doubt = (old.committed, refl);
      no_lines = λ number. cycles-quiet counts.cycles (line.Closed ∷ []);
    }))
    ending-did activation new counts CommitDoubted did = inr (inr (record {
      broken = did.broken;
      committed = did.committed;
      closed = did.closed;
      doubt = (activation, did.steps) ∷ [];
      order = did.ordered_as.order;
      one_doubt = omega arith;
      with_doubt = (
        record old.committed { bytes = did.ordered_as.state.store },
        ap (option_and_then (λ (state : Plain). Some (record old.committed { bytes = state.store }))) did.ordered_as.commits_at,
      );
      no_lines = λ number. cycles-quiet counts.cycles (line.Doubt activation number ∷ line.Closed ∷ []);
    }))

    turning-did : (activation : ℕ) (turning : Turning) → Does all word activation old turning → EventDid all names front word old (turned activation turning)
    turning-did activation (Going desk counts) moves = quiet-moves desk Nothing moves (λ number. refl)
    turning-did activation (Over desk counts ending) did = ending-did activation desk counts ending did

  -- an event of an open desk
  module _ (front : List Activation) (old : Desk) (next : old.next ≡ suc (length front)) (are : AreNumbered all old.active) where
    shut : (new : Desk) (happening : Happening) → new.committed ≡ old.committed → new.order ≡ old.order → new.closed ≡ true
        → ((number : ℕ) → commit_lines (happening_lines names number happening) ≡ []) → EventDid all names front Failed old (record { desk = new; happening = happening })
    shut new happening committed order closed quiet = inr (inr (record {
      broken = refl;
      committed = committed;
      closed = closed;
      doubt = [];
      order = order ∙ sym (append-nil old.order);
      one_doubt = omega arith;
      with_doubt = (old.committed, refl);
      no_lines = quiet;
    }))

    checkpoint-did : (word : DiskWord) → EventDid all names front word old (event_of programs Checkpoint word old)
    checkpoint-did Fine = quiet-moves front old next are Fine old CheckpointMade (moves-none all old) (λ number. refl)
    checkpoint-did (ReadFailed page) = quiet-moves front old next are (ReadFailed page) old CheckpointMade (moves-none all old) (λ number. refl)
    checkpoint-did Unwritten = quiet-moves front old next are Unwritten old CheckpointMade (moves-none all old) (λ number. refl)
    checkpoint-did Doubt = quiet-moves front old next are Doubt old CheckpointMade (moves-none all old) (λ number. refl)
    checkpoint-did Failed = shut (shut_desk old) CheckpointFailed refl refl refl (λ number. refl)

    lost-quiet : (lost : List ℕ) (behind : List ReportLine) → commit_lines (map line.Lost lost ++ behind) ≡ commit_lines behind
    lost-quiet [] behind = refl
    lost-quiet (number ∷ lost) behind = lost-quiet lost behind

    crashed : (word : DiskWord) → EventDid all names front word old (record { desk = restarted old; happening = Crashed (numbers old) })
    crashed word =
        quiet-moves front old next are word (restarted old) (Crashed (numbers old))
        (record { committed = refl; order = refl; next = refl; closed = refl; numbered_all = λ these. tt })
        (λ number. lost-quiet (numbers old) (line.Open number ∷ []))

    crash-did : (word : DiskWord) → EventDid all names front word old (event_of programs Crash word old)
    crash-did Fine = crashed Fine
    crash-did (ReadFailed page) = crashed (ReadFailed page)
    crash-did Unwritten = crashed Unwritten
    crash-did Doubt = crashed Doubt
    crash-did Failed = shut (shut_desk (restarted old)) (CrashFailed (numbers old)) refl refl refl (λ number. lost-quiet (numbers old) (line.Closed ∷ []))

    pub event-did : (event : Event) (word : DiskWord) (rest : List Activation) → all ≡ front ++ begun_one programs event rest
        → EventDid all names (front ++ begun_one programs event []) word old (event_of programs event word old)
    event-did (Begin program args) word rest is = inl (begin-did program args (slice_get programs program) front rest old is next are)
    event-did (Turn activation limit) word rest is =
        grind (
          arith,
          nat_tests,
          append-nil front,
          turning-did front old next are word activation (turn word activation limit old) (does-turn all word activation limit old are),
          does-turn all word activation limit old are,
        )
    event-did Checkpoint word rest is =
        subst (λ (these : List Activation). EventDid all names these word old (event_of programs Checkpoint word old)) (sym (append-nil front)) (checkpoint-did word)
    event-did Crash word rest is =
        subst (λ (these : List Activation). EventDid all names these word old (event_of programs Crash word old)) (sym (append-nil front)) (crash-did word)

-- the activations of an event and of those behind it
begun-first : (programs : List Program) (event : Event) (events : List Event) → begun programs (event ∷ events) ≡ begun_one programs event (begun programs events)
begun-first programs (Begin program args) events = refl
begun-first programs (Turn activation limit) events = refl
begun-first programs Checkpoint events = refl
begun-first programs Crash events = refl

begun_one-append : (programs : List Program) (event : Event) (later tail : List Activation) → begun_one programs event later ++ tail ≡ begun_one programs event (later ++ tail)
begun_one-append programs (Begin program args) later tail = grind (arith, nat_tests)
begun_one-append programs (Turn activation limit) later tail = refl
begun_one-append programs Checkpoint later tail = refl
begun_one-append programs Crash later tail = refl

begun_one-behind : (programs : List Program) (event : Event) (front later : List Activation) → front ++ begun_one programs event later ≡ (front ++ begun_one programs event []) ++ later
begun_one-behind programs event front later = ap (λ (these : List Activation). front ++ these) (sym (begun_one-append programs event [] later)) ∙ sym (append_assoc front (begun_one programs event []) later)

begun-append : (programs : List Program) (events more : List Event) → begun programs (events ++ more) ≡ begun programs events ++ begun programs more
begun-append programs [] more = refl
begun-append programs (event ∷ events) more = grind (arith, nat_tests, begun-append programs events more, begun-first, begun_one-append)

-- the commits of a run from a desk on
pub record From (all : List Activation) (names : List (List ℕ)) (programs : List Program) (number : ℕ) (old : Desk) (taken : List (Event × DiskWord)) : Type 0 where
  pub done : List (ℕ × ℕ)
  pub doubt : List (ℕ × ℕ)
  pub order : (run programs taken old).order ≡ old.order ++ (done ++ doubt)
  pub leaves : serial all done old.committed ≡ Some (run programs taken old).committed
  pub one_doubt : length doubt ≤ 1
  pub none_open : (run programs taken old).closed ≡ false → doubt ≡ []
  pub with_doubt : (last : FlatStore) × (serial all (done ++ doubt) old.committed ≡ Some last)
  pub closed_by : ((run programs taken old).closed ≡ old.closed) ⊎ (1 ≤ faulted taken)
  pub lines : commit_lines (event_lines names programs number taken old) ≡ serial_lines all (number + length old.order) done old.committed

-- a step of an open desk
step-is : (programs : List Program) (event : Event) (word : DiskWord) (desk : Desk) → IsTrue (not desk.closed) → step programs event word desk ≡ event_of programs event word desk
step-is programs event word desk still = grind (arith, nat_tests)

-- none of these events can follow one that closed the desk
none-behind : (programs : List Program) (taken : List (Event × DiskWord)) (desk : Desk) → desk.closed ≡ true → OpenBeforeEach programs taken desk → taken ≡ []
none-behind programs [] desk shut each_open = refl
none-behind programs (event ∷ taken) desk shut each_open = absurd (let still : IsTrue (not true) = subst (λ (closed : Bool). IsTrue (not closed)) shut each_open.0 in cc)

-- one word more that isn't fine
faulted-split : (event : Event) (word : DiskWord) (taken : List (Event × DiskWord)) → faulted ((event, word) ∷ taken) ≡ faulted ((event, word) ∷ []) + faulted taken
faulted-split event word taken = sum_by-append (λ (each : Event × DiskWord). if not (is_fine each.1) then 1 else 0) ((event, word) ∷ []) taken

faulted-one : (event : Event) (word : DiskWord) (taken : List (Event × DiskWord)) → is_fine word ≡ false → 1 ≤ faulted ((event, word) ∷ taken)
faulted-one event word taken broken = grind (arith, nat_tests, faulted-split event word taken)

faulted-more : (event : Event) (word : DiskWord) (taken : List (Event × DiskWord)) → 1 ≤ faulted taken → 1 ≤ faulted ((event, word) ∷ taken)
faulted-more event word taken some = omega (arith, faulted-split event word taken, some)

module _ (all : List Activation) (names : List (List ℕ)) (programs : List Program) (number : ℕ) where
  -- an event before others, which are from the desk after it
  module _ (front : List Activation) (old : Desk) (new : Step) (event : Event) (word : DiskWord) (taken : List (Event × DiskWord)) (is : step programs event word old ≡ new) where
    run-is : run programs ((event, word) ∷ taken) old ≡ run programs taken new.desk
    run-is = ap (λ (s : Step). run programs taken s.desk) is

    lines-are : commit_lines (event_lines names programs number ((event, word) ∷ taken) old)
        ≡ commit_lines (happening_lines names (number_after number new.desk) new.happening) ++ commit_lines (event_lines names programs number taken new.desk)
    lines-are = grind (arith, nat_tests, filter-append)

    closed-on : new.desk.closed ≡ old.closed → ((run programs taken new.desk).closed ≡ new.desk.closed) ⊎ (1 ≤ faulted taken)
        → ((run programs ((event, word) ∷ taken) old).closed ≡ old.closed) ⊎ (1 ≤ faulted ((event, word) ∷ taken))
    closed-on same (inl still) = inl (ap (λ (d : Desk). d.closed) run-is ∙ still ∙ same)
    closed-on same (inr some) = inr (faulted-more event word taken some)

    from-quiet : Quiet all names front old new → From all names programs number new.desk taken → From all names programs number old ((event, word) ∷ taken)
    from-quiet quiet from = record {
      done = from.done;
      doubt = from.doubt;
      order = ap (λ (d : Desk). d.order) run-is ∙ from.order ∙ ap (λ (order : List (ℕ × ℕ)). order ++ (from.done ++ from.doubt)) quiet.order;
      leaves = ap (serial all from.done) (sym quiet.committed) ∙ from.leaves ∙ ap (λ (d : Desk). Some d.committed) (sym run-is);
      one_doubt = from.one_doubt;
      none_open = λ still. from.none_open (ap (λ (d : Desk). d.closed) (sym run-is) ∙ still);
      with_doubt = (from.with_doubt.0, ap (serial all (from.done ++ from.doubt)) (sym quiet.committed) ∙ from.with_doubt.1);
      closed_by = closed-on quiet.closed from.closed_by;
      lines =
          lines-are
          ∙ ap (λ (here : List ReportLine). here ++ commit_lines (event_lines names programs number taken new.desk)) (quiet.no_lines (number_after number new.desk))
          ∙ from.lines
          ∙ ap (λ (order : List (ℕ × ℕ)). serial_lines all (number + length order) from.done new.desk.committed) quiet.order
          ∙ ap (serial_lines all (number + length old.order) from.done) quiet.committed;
    }

    from-commit : Commit all names front old new → From all names programs number new.desk taken → From all names programs number old ((event, word) ∷ taken)
    from-commit commit from =
        let did = commit.did in
        let pair : ℕ × ℕ = (commit.activation, commit.steps) in
        let long : length new.desk.order ≡ length old.order + 1 = ap length did.order ∙ length-append old.order (pair ∷ []) in
        let on = λ (commits : List (ℕ × ℕ)). ap (option_and_then (λ (state : Plain). serial all commits (record old.committed { bytes = state.store }))) did.commits_at ∙ ap (serial all commits) (sym did.committed) in
        let here : number_after number new.desk ≡ (number + length old.order + 1) % 2 ^ 64 = ap (λ (n : ℕ). (number + n) % 2 ^ 64) long ∙ ap (λ (n : ℕ). n % 2 ^ 64) (omega arith) in
        let next : number + length new.desk.order ≡ number + length old.order + 1 = omega (arith, long) in
        record {
          done = pair ∷ from.done;
          doubt = from.doubt;
          order = ap (λ (d : Desk). d.order) run-is ∙ from.order ∙ ap (λ (order : List (ℕ × ℕ)). order ++ (from.done ++ from.doubt)) did.order ∙ append_assoc old.order (pair ∷ []) (from.done ++ from.doubt);
          leaves = on from.done ∙ from.leaves ∙ ap (λ (d : Desk). Some d.committed) (sym run-is);
          one_doubt = from.one_doubt;
          none_open = λ still. from.none_open (ap (λ (d : Desk). d.closed) (sym run-is) ∙ still);
          with_doubt = (from.with_doubt.0, on (from.done ++ from.doubt) ∙ from.with_doubt.1);
          closed_by = closed-on did.closed from.closed_by;
          lines =
              lines-are
              ∙ ap (λ (these : List ReportLine). these ++ commit_lines (event_lines names programs number taken new.desk)) (commit.one_line (number_after number new.desk))
              ∙ ap (λ (rest : List ReportLine). line.Commit commit.activation (number_after number new.desk) commit.steps commit.out ∷ rest) from.lines
              ∙ ap (λ (n : ℕ). line.Commit commit.activation n commit.steps commit.out ∷ serial_lines all (number + length new.desk.order) from.done new.desk.committed) here
              ∙ ap (λ (n : ℕ). line.Commit commit.activation ((number + length old.order + 1) % 2 ^ 64) commit.steps commit.out ∷ serial_lines all n from.done new.desk.committed) next
              ∙ ap (λ (store : FlatStore). line.Commit commit.activation ((number + length old.order + 1) % 2 ^ 64) commit.steps commit.out ∷ serial_lines all (number + length old.order + 1) from.done store) did.committed
              ∙ ap (λ (out : List ℕ). line.Commit commit.activation ((number + length old.order + 1) % 2 ^ 64) commit.steps out ∷ serial_lines all (number + length old.order + 1) from.done (record old.committed { bytes = did.state.store })) did.printed
              ∙ sym (ap (λ (state : Option Plain). line_before (number + length old.order) pair state (λ (s : Plain). serial_lines all (number + length old.order + 1) from.done (record old.committed { bytes = s.store }))) did.commits_at);
        }

    from-close : Closes all names word old new → OpenBeforeEach programs taken new.desk → From all names programs number old ((event, word) ∷ taken)
    from-close closes each_open =
        let none : taken ≡ [] = none-behind programs taken new.desk closes.closed each_open in
        let last : run programs ((event, word) ∷ taken) old ≡ new.desk = run-is ∙ ap (λ (these : List (Event × DiskWord)). run programs these new.desk) none in
        record {
          done = [];
          doubt = closes.doubt;
          order = ap (λ (d : Desk). d.order) last ∙ closes.order;
          leaves = ap Some (sym closes.committed) ∙ ap (λ (d : Desk). Some d.committed) (sym last);
          one_doubt = closes.one_doubt;
          none_open = λ still. absurd (let shut : (run programs ((event, word) ∷ taken) old).closed ≡ true = ap (λ (d : Desk). d.closed) last ∙ closes.closed in cc (shut, still));
          with_doubt = closes.with_doubt;
          closed_by = inr (faulted-one event word taken closes.broken);
          lines =
              lines-are
              ∙ ap (λ (here : List ReportLine). here ++ commit_lines (event_lines names programs number taken new.desk)) (closes.no_lines (number_after number new.desk))
              ∙ ap (λ (these : List (Event × DiskWord)). commit_lines (event_lines names programs number these new.desk)) none;
        }

  -- a run from a desk on, with the activations that have begun in front of those that begin
  pub serial-from : (taken : List (Event × DiskWord)) (front tail : List Activation) (old : Desk)
      → all ≡ front ++ (begun programs (map (λ (each : Event × DiskWord). each.0) taken) ++ tail)
      → old.next ≡ suc (length front) → AreNumbered all old.active → OpenBeforeEach programs taken old
      → From all names programs number old taken
  serial-from [] front tail old is next are each_open = record {
    done = [];
    doubt = [];
    order = sym (append-nil old.order);
    leaves = refl;
    one_doubt = omega arith;
    none_open = λ still. refl;
    with_doubt = (old.committed, refl);
    closed_by = inl refl;
    lines = refl;
  }
  serial-from ((event, word) ∷ taken) front tail old is next are each_open =
      let later = begun programs (map (λ (each : Event × DiskWord). each.0) taken) in
      let new = event_of programs event word old in
      let here = front ++ begun_one programs event [] in
      let split : all ≡ front ++ begun_one programs event (later ++ tail) =
      is
      ∙ ap (λ (these : List Activation). front ++ (these ++ tail)) (begun-first programs event (map (λ (each : Event × DiskWord). each.0) taken))
      ∙ ap (λ (these : List Activation). front ++ these) (begun_one-append programs event later tail) in
      let on : all ≡ here ++ (later ++ tail) = split ∙ begun_one-behind programs event front (later ++ tail) in
      let stepped = step-is programs event word old each_open.0 in
      let still : OpenBeforeEach programs taken new.desk = subst (λ (s : Step). OpenBeforeEach programs taken s.desk) stepped each_open.1 in
      elim (event-did all names programs front old next are event word (later ++ tail) split) [
        | inl quiet ↦
            from-quiet here old new event word taken stepped quiet
            (serial-from taken here tail new.desk on quiet.next quiet.are still)
        | inr (inl commit) ↦
            from-commit here old new event word taken stepped commit
            (serial-from taken here tail new.desk on commit.next commit.are still)
        | inr (inr closes) ↦ from-close here old new event word taken stepped closes still
      ]

-- the law of serial runs
pub run_serial : RunsAreSerial
run_serial names programs number frames most most_lines store events taken rest is =
    let start = opened frames most most_lines store in
    let all : begun programs events ≡ begun programs (map (λ (each : Event × DiskWord). each.0) taken) ++ begun programs rest =
    ap (begun programs) (sym is.prefix) ∙ begun-append programs (map (λ (each : Event × DiskWord). each.0) taken) rest in
    let from = serial-from (begun programs events) names programs number taken [] (begun programs rest) start all refl tt is.each_open in
    let same : number + 0 ≡ number = omega arith in
    record {
      done = from.done;
      doubt = from.doubt;
      order_is = from.order;
      leaves = from.leaves;
      one_doubt = from.one_doubt;
      none_open = from.none_open;
      with_doubt = (from.with_doubt.0, ap (λ (order : List (ℕ × ℕ)). serial (begun programs events) order store) from.order ∙ from.with_doubt.1);
      lines_are = from.lines ∙ ap (λ (n : ℕ). serial_lines (begun programs events) n from.done store) same;
    }
