-- Events without a report, one after another.
use Rattle.schedule_replay.proofs.Common.{◌≡◌, ℕ, ◌+◌, ◌<◌, List, [], ◌∷◌, ◌++◌, length, cond, take, get_or, refl, sym, ap, ◌∙◌, subst, arith, false, not, count_by, Option, IfSome, flat_map, fold, map-append, length-map, take_more, fold-append, sum_by-append, Ghosts, IsSure, CallsDisk, FewerLater, held_of, leaves_held, Program, stands, Turn, TurnEnd, Event, Begun, begun_told, turn_told, stored_told, counts_told, Stored, standing_of, IsEitherOf, Desk, DiskWord, Doubt, ReportLine, cycle_lines, event_lines, happening_lines, Step, run, step, faulted, stage_either, stage_none, run_on, open_on, lines_on, faulted_on, Stepped, counted_quiet, step_by, RanQuietly, TallyTells, WentQuietly, is_rollback, last_by, out_after, tally_begun, tally_by, tally_stored, InDoubt, RanTo, WasStep, nat_tests, opening, opening_of, span}
use Rattle.schedule_replay.specs.declared.quietly.QuietTally.{QuietTally}
use Rattle.desk.specs.declared.supervisor.Supervisor as desk
use Rattle.desk.specs.ReportLines as line
use Rattle.schedule_replay.proofs.RanLemmas.{images_join, none_last}
use Rattle.schedule_replay.proofs.RanToLemmas.{ShownTold, to_did, to_none, to_on}
use Rattle.schedule_replay.proofs.WentLemmas.{last_is, one_event}

-- the victims of cycles are rolled back
cycles_roll : (cycles : List (List ℕ)) (ends : List ReportLine) → count_by is_rollback (flat_map cycle_lines cycles ++ ends) ≡ length cycles + count_by is_rollback ends
cycles_roll [] ends = omega arith
cycles_roll (cycle ∷ cycles) ends = grind (arith, nat_tests, cycles_roll cycles ends, sum_by-append (λ each. cond (is_rollback each) 1 0) (cycle_lines cycle) (flat_map cycle_lines cycles ++ ends))

-- and print nothing
cycles_last : (last : List ℕ) (cycles : List (List ℕ)) (ends : List ReportLine) → fold out_after last (flat_map cycle_lines cycles ++ ends) ≡ fold out_after last ends
cycles_last last [] ends = refl
cycles_last last (cycle ∷ cycles) ends = cycles_last last cycles ends

rolled : (activation : ℕ) (answer : Turn) (ends : List ReportLine) → count_by is_rollback (line.Turn activation answer.ran answer.pages answer.locks ∷ (flat_map cycle_lines (counts_told answer).cycles ++ ends)) ≡ length answer.cycles.items + count_by is_rollback ends
rolled activation answer ends = grind (arith, nat_tests, cycles_roll, length-map)

-- the tally of a begin is that of its line
pub begin_tells : (number program : ℕ) (answer : Begun) (last : List ℕ) → IfSome (tally_begun answer) (λ tally. TallyTells tally last last (happening_lines [] number (begun_told program answer)))
begin_tells number program answer last = grind arith

-- and that of a checkpoint
pub stored_tells : (number : ℕ) (answer : Stored) (last : List ℕ) → IfSome (tally_stored answer) (λ tally. TallyTells tally last last (happening_lines [] number (stored_told answer)))
stored_tells number answer last = grind arith

-- the tally of a turn is that of its lines
pub turn_tells : (number activation : ℕ) (answer : Turn) (ends : TurnEnd) (printed last : List ℕ) → IfSome (tally_by ends (length answer.cycles.items)) (λ tally. TallyTells tally last (last_by ends printed last) (happening_lines [] number (turn_told activation (record answer { end = ends }) printed)))
turn_tells number activation answer ends printed last = grind (arith, rolled activation answer, counted_quiet activation (counts_told answer), cycles_last last (counts_told answer).cycles)

-- a tally and then another
pub tells_on : (one two both : QuietTally) (old mid new : List ℕ) (xs ys lines : List ReportLine) → lines ≡ xs ++ ys → both.commits ≡ one.commits + two.commits → both.rollbacks ≡ one.rollbacks + two.rollbacks → TallyTells one old mid xs → TallyTells two mid new ys → TallyTells both old new lines
tells_on one two both old mid new xs ys lines is commits rollbacks first second = grind (arith, nat_tests, sum_by-append, cond, fold-append)

pub tells_nothing : (last : List ℕ) (lines : List ReportLine) → last ≡ [] → lines ≡ [] → TallyTells (record { commits = 0; rollbacks = 0 }) [] last lines
tells_nothing last lines none is = grind (arith, nat_tests)

-- of a tally that is there
if_some : {A : Type 0} (P Q : A → Type 0) (told : Option A) → ((one : A) → P one → Q one) → IfSome told P → IfSome told Q
if_some P Q told turns is = grind (arith, turns)

module _ {D W : Type 0} (S : desk.Ghosts D) (G : Ghosts W) (fewer_later : FewerLater G) (programs : List Program) (number : ℕ) where
  -- an event went quietly whose step and tally are told
  pub went_quietly : (event one : Event) (lines : List ReportLine) (start : Desk) (new : D) (before after : W) (old_last new_last last : List ℕ) (tally told : Option QuietTally) → event ≡ one → new_last ≡ last → tally ≡ told
      → WasStep S G (opening [] programs number start) one lines new (span before after) → IfSome told (λ each. TallyTells each old_last last lines) → WentQuietly S G (opening [] programs number start) event new (span before after) old_last new_last tally
  went_quietly event one lines start new before after old_last new_last last tally told is_one is_last is_told step tells = grind (arith, nat_tests)

  -- nothing was run yet
  pub ran_nothing : (law : ShownTold S)
      (start : Desk) (new : D) (w : W) → (S.told new).fixed.opened ≡ number → IsSure G w → S.shows new (held_of G w) start → (ran : RanQuietly S G (opening [] programs number start) [] new (span w w)) × (event_lines [] programs number ran.taken start ≡ [])
  ran_nothing law start new w opened sure shows =
      let ran : RanQuietly S G (opening [] programs number start) [] new (span w w) = record {
        taken = [];
        events_taken = refl;
        each_open = tt;
        to = to_none S G start new w (law new (held_of G w) start shows) sure shows;
        images = λ image seen left.
            stage_none programs number start image (law new (held_of G w) start shows).open_desk (ap stands (leaves_held G w sure image seen left) ∙ (law new (held_of G w) start shows).standing ∙ ap (λ n. standing_of n start) opened);
        doubt = λ shut front last is. absurd (none_last front (last, Doubt) is);
      } in
      (ran, refl)

  -- some events were run, and then one more
  pub ran_one_more : (xs : List Event) (event : Event) (second : List ReportLine) (start : Desk) (mid new : D) (before between after : W) → (S.told mid).closed ≡ false → CallsDisk G before between → CallsDisk G between after → (one : RanQuietly S G (opening [] programs number start) xs mid (span before between))
      → WasStep S G (opening [] programs number (run programs one.taken start)) event second new (span between after)
      → (ran : RanQuietly S G (opening [] programs number start) (xs ++ event ∷ []) new (span before after)) × (event_lines [] programs number ran.taken start ≡ event_lines [] programs number one.taken start ++ second)
  ran_one_more xs event second start mid new before between after was_open calls_one calls_two one two =
      let middle : Desk = run programs one.taken start in
      let word : DiskWord = two.did.word in
      let last_one : List (Event × DiskWord) = (event, word) ∷ [] in
      let next : Step = record { desk = two.did.next; happening = two.told } in
      let first : List ReportLine = event_lines [] programs number one.taken start in
      let still_open : middle.closed ≡ false = sym one.to.closes ∙ was_open in
      let next_is : (step programs event word middle).desk ≡ two.did.next = ap (λ (after : Step). after.desk) two.did.stepped in
      let same : run programs (one.taken ++ last_one) start ≡ two.did.next = run_on programs one.taken last_one start ∙ next_is in
      let lines : event_lines [] programs number (one.taken ++ last_one) start ≡ first ++ second = lines_on programs [] number one.taken last_one start ∙ ap (λ (back : List ReportLine). first ++ back) (one_event [] programs number event word middle next two.did.stepped ∙ sym two.lines_are) in
      let steps : Stepped word middle.order [] (step programs event word middle) = step_by programs event word [] middle still_open in
      let ran : RanQuietly S G (opening [] programs number start) (xs ++ event ∷ []) new (span before after) = record {
        taken = one.taken ++ last_one;
        events_taken = map-append (λ (each : Event × DiskWord). each.0) one.taken last_one ∙ ap (λ (front : List Event). front ++ event ∷ []) one.events_taken;
        each_open = open_on programs one.taken last_one start one.each_open (ap not still_open, tt);
        to =
            subst (λ (desk : Desk). RanTo S G desk (event_lines [] programs number (one.taken ++ last_one) start) (faulted (one.taken ++ last_one)) new (span before after)) (sym same)
            (to_on S G middle two.did.next first second (event_lines [] programs number (one.taken ++ last_one) start) (faulted one.taken) (faulted last_one) (faulted (one.taken ++ last_one)) mid new before between after was_open lines (faulted_on one.taken last_one) one.to
            (to_did S G programs number event [] second middle new between after two calls_two.disk));
        images =
            images_join G fewer_later programs number start one.taken last_one before between after steps.more calls_one.time calls_two.time one.each_open steps.order_is one.images
            (λ image seen left. stage_either programs number event word [] middle still_open image (subst (λ (desk : Desk). IsEitherOf programs number event middle desk image) (sym next_is) (two.did.crash image seen left)));
        doubt = λ shut front last is.
            let ends = last_is one.taken front (event, word) (last, Doubt) is in
            let doubted : word ≡ Doubt = ap (λ (pair : Event × DiskWord). pair.1) ends.1 in
            let that : event ≡ last = ap (λ (pair : Event × DiskWord). pair.0) ends.1 in
            let place = two.did.doubt doubted (ap (λ (desk : Desk). desk.closed) (sym same) ∙ shut) in
            let here : InDoubt G (opening [] programs number start) one.taken event after = (place.0 ∙ ap (λ (desk : Desk). desk.order) (sym same) ∙ ap (λ (w : DiskWord). (run programs (one.taken ++ (event, w) ∷ []) start).order) doubted, place.1) in
            subst (λ (these : List (Event × DiskWord)). InDoubt G (opening [] programs number start) these last after) ends.0 (subst (λ (e : Event). InDoubt G (opening [] programs number start) one.taken e after) that here);
      } in
      (ran, lines)

  -- the next event is run from where the run is, and tallied
  pub ran_next_quietly : (events : List Event) (i : ℕ) (event : Event) → i < length events → (start : Desk) (mid new : D) (before between after : W) (old_last new_last : List ℕ) (so_far : QuietTally) (tally : Option QuietTally) → (S.told mid).closed ≡ false → (S.told mid).fixed.programs ≡ programs → (S.told mid).fixed.opened ≡ number → CallsDisk G before between → CallsDisk G between after
      → (one : RanQuietly S G (opening [] programs number start) (take i events) mid (span before between)) → TallyTells so_far [] old_last (event_lines [] programs number one.taken start)
      → ((desk : Desk) → IsSure G between → S.shows mid (held_of G between) desk → WentQuietly S G (opening_of [] (S.told mid).fixed desk) (get_or events i event) new (span between after) old_last new_last tally)
      → (ran : RanQuietly S G (opening [] programs number start) (take (i + 1) events) new (span before after)) × IfSome tally (λ more. TallyTells (record { commits = so_far.commits + more.commits; rollbacks = so_far.rollbacks + more.rollbacks }) [] new_last (event_lines [] programs number ran.taken start))
  ran_next_quietly events i event lt start mid new before between after old_last new_last so_far tally was_open same_programs same_number calls_one calls_two one tells next =
      let kept = one.to.still (sym one.to.closes ∙ was_open) in
      let told = next (run programs one.taken start) kept.0 kept.1 in
      let two : WentQuietly S G (opening [] programs number (run programs one.taken start)) (get_or events i event) new (span between after) old_last new_last tally =
      subst (λ (n : ℕ). WentQuietly S G (opening [] programs n (run programs one.taken start)) (get_or events i event) new (span between after) old_last new_last tally) same_number
      (subst (λ (these : List Program). WentQuietly S G (opening [] these (S.told mid).fixed.opened (run programs one.taken start)) (get_or events i event) new (span between after) old_last new_last tally) same_programs told) in
      let more = ran_one_more (take i events) (get_or events i event) two.lines start mid new before between after was_open calls_one calls_two one two.step in
      subst (λ (these : List Event). (ran : RanQuietly S G (opening [] programs number start) these new (span before after)) × IfSome tally (λ more. TallyTells (record { commits = so_far.commits + more.commits; rollbacks = so_far.rollbacks + more.rollbacks }) [] new_last (event_lines [] programs number ran.taken start))) (sym (take_more events i event lt)) (
        more.0,
        if_some (λ one_more. TallyTells one_more old_last new_last two.lines) _ tally
            (λ one_more here. tells_on so_far one_more (record { commits = so_far.commits + one_more.commits; rollbacks = so_far.rollbacks + one_more.rollbacks }) [] old_last new_last (event_lines [] programs number one.taken start) two.lines (event_lines [] programs number more.0.taken start) more.1 refl refl tells here) two.tells,
      )
