-- What a step of an open desk does to its order, and the lines that it has.
use Rattle.desk_law.proofs.Common.{◌≡◌, ℕ, ◌≤◌, List, [], ◌∷◌, ◌++◌, length, map, refl, sym, ap, ◌∙◌, arith, append-nil, append_assoc, length-append, inl, inr, ◌⊎◌, flat_map, Program, Event, Desk, DiskWord, Fine, Doubt, Counts, Ending, Turning, turn, Turned, Step, event_of, step, turned, run, begin_if, OpenBeforeEach, ReportLine, number_after, happening_lines, turn_lines, ending_lines, cycle_lines, event_lines, IsUnbroken, EndsInDoubt, nat_tests, true, false, not, Option, IsTrue, slice_get, slice_index_or}
use Rattle.desk.specs.declared.event.Event.TheVariants as event
use Rattle.desk.specs.ReportLines as line
use Rattle.desk_law.proofs.SeenLemmas.{ArePlain, plain_on, commits_in, commits_on}
use Rattle.desk_law.proofs.TurnLemmas.{StaysOpen, Ended, Ends, turn_ends}

-- an open desk takes the event
pub stepped : (programs : List Program) (event : Event) (word : DiskWord) (desk : Desk) → desk.closed ≡ false → step programs event word desk ≡ event_of programs event word desk
stepped programs event word desk was_open = grind (arith, nat_tests)

-- the lines of rollbacks have no commit
cycles_quiet : (cycles : List (List ℕ)) → commits_in (flat_map cycle_lines cycles) ≡ 0
cycles_quiet [] = refl
cycles_quiet (cycle ∷ cycles) = let split = commits_on (cycle_lines cycle) (flat_map cycle_lines cycles) in let rest = cycles_quiet cycles in omega (arith, split, rest)

pub counted_quiet : (activation : ℕ) (counts : Counts) (ends : List ReportLine) → commits_in (line.Turn activation counts.ran counts.pages counts.locks ∷ (flat_map cycle_lines counts.cycles ++ ends)) ≡ commits_in ends
counted_quiet activation counts ends = grind (arith, nat_tests, commits_on, cycles_quiet)

-- what a step of an open desk did: its order grew by at most one, it has no more commit lines than it made commits and none where it closed the desk,
-- as many where it left the desk open or its word is no doubt, and it leaves the desk open where its word is fine
pub record Stepped (word : DiskWord) (order : List (ℕ × ℕ)) (names : List (List ℕ)) (after : Step) : Type 0 where
  pub more : List (ℕ × ℕ)
  pub order_is : after.desk.order ≡ order ++ more
  pub one : length more ≤ 1
  pub few : (number : ℕ) → commits_in (happening_lines names number after.happening) ≤ length more
  pub quiet : after.desk.closed ≡ true → (number : ℕ) → commits_in (happening_lines names number after.happening) ≡ 0
  pub settled : (after.desk.closed ≡ false) ⊎ (word ≡ Doubt → ⊥) → (number : ℕ) → length more ≤ commits_in (happening_lines names number after.happening)
  pub stays : word ≡ Fine → after.desk.closed ≡ false

module _ (word : DiskWord) (order : List (ℕ × ℕ)) (names : List (List ℕ)) where
  -- it stays open, with no commit line
  stayed : (after : Step) → StaysOpen order after.desk → ((number : ℕ) → commits_in (happening_lines names number after.happening) ≡ 0) → Stepped word order names after
  stayed after is none = grind (arith, nat_tests, append-nil order)

  -- it closed, with no commit line
  shut_by : (after : Step) → after.desk.order ≡ order → (word ≡ Fine → ⊥) → ((number : ℕ) → commits_in (happening_lines names number after.happening) ≡ 0) → Stepped word order names after
  shut_by after is broken none = grind (arith, nat_tests, append-nil order)

  ended_by : (activation : ℕ) (desk : Desk) (counts : Counts) (ending : Ending) → Ended word order desk ending → Stepped word order names (record { desk = desk; happening = Turned activation counts ending })
  ended_by activation desk counts ending ended =
      grind (arith, nat_tests, stayed, counted_quiet activation counts, shut_by)

  turned_by : (activation : ℕ) (turning : Turning) → Ends word order turning → Stepped word order names (turned activation turning)
  turned_by activation turning ends = grind (arith, nat_tests, ended_by)

  code_by : (program : ℕ) (args : List ℕ) (code : Option Program) (desk : Desk) → StaysOpen order desk → Stepped word order names (begin_if program args code desk)
  code_by program args code desk is = stayed (begin_if program args code desk) (grind (arith, nat_tests)) (λ number. grind (arith, nat_tests))

-- the lines of lost activations have no commit
lost_quiet : (lost : List ℕ) → commits_in (map line.Lost lost) ≡ 0
lost_quiet [] = refl
lost_quiet (activation ∷ lost) = let split = commits_on (line.Lost activation ∷ []) (map line.Lost lost) in let rest = lost_quiet lost in omega (arith, split, rest)

pub lost_behind : (lost : List ℕ) (last : ReportLine) → commits_in (last ∷ []) ≡ 0 → commits_in (map line.Lost lost ++ last ∷ []) ≡ 0
lost_behind lost last none = let split = commits_on (map line.Lost lost) (last ∷ []) in let rest = lost_quiet lost in omega (arith, split, rest, none)

event_by : (programs : List Program) (one : Event) (word : DiskWord) (names : List (List ℕ)) (desk : Desk) → desk.closed ≡ false → Stepped word desk.order names (event_of programs one word desk)
event_by programs (event.Begin program args) word names desk is = code_by word desk.order names program args (slice_get programs program) desk (is, refl)
event_by programs (event.Turn activation limit) word names desk is = turned_by word desk.order names activation (turn word activation limit desk) (turn_ends desk.order word activation limit desk (is, refl))
event_by programs event.Checkpoint word names desk is = grind (arith, nat_tests, shut_by, stayed)
event_by programs event.Crash word names desk is = grind (arith, nat_tests, shut_by, lost_behind, stayed)

pub step_by : (programs : List Program) (one : Event) (word : DiskWord) (names : List (List ℕ)) (desk : Desk) → desk.closed ≡ false → Stepped word desk.order names (step programs one word desk)
step_by programs one word names desk is = grind (arith, nat_tests, stepped, event_by)

-- the lines of what happened have no line feed in a name
abbrev pub AreNames : List (List ℕ) → Type 0
AreNames names = (program : ℕ) → IsUnbroken (slice_index_or names program [])

cycles_plain : (cycles : List (List ℕ)) → ArePlain (flat_map cycle_lines cycles)
cycles_plain [] = tt
cycles_plain (cycle ∷ cycles) = (tt, (tt, cycles_plain cycles))

counted_plain : (number activation : ℕ) (counts : Counts) (ending : Ending) → ArePlain (line.Turn activation counts.ran counts.pages counts.locks ∷ (flat_map cycle_lines counts.cycles ++ ending_lines number activation ending))
counted_plain number activation counts ending = grind (arith, nat_tests, plain_on, cycles_plain)

turn_plain : (number activation : ℕ) (counts : Counts) (ending : Ending) → ArePlain (turn_lines number activation counts ending)
turn_plain number activation counts ending = grind (arith, nat_tests, counted_plain number activation counts ending)

lost_plain : (lost : List ℕ) → ArePlain (map line.Lost lost)
lost_plain [] = tt
lost_plain (activation ∷ lost) = (tt, lost_plain lost)

module _ (programs : List Program) (names : List (List ℕ)) (number : ℕ) where
  -- the lines of a run have no line feed in a name
  pub run_plain : AreNames names → (taken : List (Event × DiskWord)) (desk : Desk) → ArePlain (event_lines names programs number taken desk)
  run_plain are [] desk = tt
  run_plain are (one ∷ taken) desk =
      grind (arith, nat_tests, plain_on, turn_plain, lost_plain, run_plain are taken (step programs one.0 one.1 desk).desk)

  open_is : (desk : Desk) → IsTrue (not desk.closed) → desk.closed ≡ false
  open_is desk is = grind (arith, nat_tests)

  -- a run that is open at its end, or whose last event didn't end in doubt
  abbrev pub IsSettled : List (Event × DiskWord) → Desk → Type 0
  IsSettled taken desk = ((run programs taken desk).closed ≡ false) ⊎ (EndsInDoubt taken → ⊥)

  settled_first : (one : Event × DiskWord) (taken : List (Event × DiskWord)) (desk : Desk) → OpenBeforeEach programs (one ∷ taken) desk → IsSettled (one ∷ taken) desk → ((step programs one.0 one.1 desk).desk.closed ≡ false) ⊎ (one.1 ≡ Doubt → ⊥)
  settled_first one [] desk each_open (inl still) = inl still
  settled_first one [] desk each_open (inr never) = inr (λ is. never ([], one.0, ap (λ (word : DiskWord). (one.0, word) ∷ []) is))
  settled_first one (next ∷ taken) desk each_open cause = inl (open_is (step programs one.0 one.1 desk).desk each_open.1.0)

  settled_rest : (one : Event × DiskWord) (taken : List (Event × DiskWord)) (desk : Desk) → IsSettled (one ∷ taken) desk → IsSettled taken (step programs one.0 one.1 desk).desk
  settled_rest one taken desk (inl still) = inl still
  settled_rest one taken desk (inr never) = inr (λ ends. never (one ∷ ends.0, ends.1, ap (λ (behind : List (Event × DiskWord)). one ∷ behind) ends.2))

  -- a run's order is longer, by no fewer commits than its lines have, and as many where it is settled
  pub record Grew (taken : List (Event × DiskWord)) (desk : Desk) : Type 0 where
    pub more : List (ℕ × ℕ)
    pub order_is : (run programs taken desk).order ≡ desk.order ++ more
    pub few : commits_in (event_lines names programs number taken desk) ≤ length more
    pub settled : IsSettled taken desk → length more ≤ commits_in (event_lines names programs number taken desk)

  pub run_grew : (taken : List (Event × DiskWord)) (desk : Desk) → OpenBeforeEach programs taken desk → Grew taken desk
  run_grew [] desk each_open = record { more = []; order_is = sym (append-nil desk.order); few = omega arith; settled = λ cause. omega arith }
  run_grew (one ∷ taken) desk each_open =
      let after = step programs one.0 one.1 desk in
      let first : Stepped one.1 desk.order names after = step_by programs one.0 one.1 names desk (open_is desk each_open.0) in
      let rest : Grew taken after.desk = run_grew taken after.desk each_open.1 in
      record {
        more = first.more ++ rest.more;
        order_is = rest.order_is ∙ ap (λ (front : List (ℕ × ℕ)). front ++ rest.more) first.order_is ∙ append_assoc desk.order first.more rest.more;
        few = omega (arith, commits_on (happening_lines names (number_after number after.desk) after.happening) (event_lines names programs number taken after.desk), first.few (number_after number after.desk), rest.few, length-append first.more rest.more);
        settled = λ cause.
            let later = rest.settled (settled_rest one taken desk cause) in
            omega (arith, commits_on (happening_lines names (number_after number after.desk) after.happening) (event_lines names programs number taken after.desk), first.settled (settled_first one taken desk each_open cause) (number_after number after.desk), later, length-append first.more rest.more);
      }
