-- A row that was served takes effect: its pages are there, its lines are locked and granted, and its second attempt went.
use Rattle.activations.proofs.Common.{◌≡◌, refl, ℕ, ◌+◌, ◌%◌, ◌<◌, ◌==◌, ◌||◌, if◌then◌else◌, Bool, true, false, List, [], map, slice_index_or, Some, arith, ap, sym, ◌∙◌, subst, eq-eqb, both_ways, is_fine_page, FlatStore, has, Lines, no_lines, page_of_line, both, with_whole_pages, wanted, Want, with_wants, of_seat, Authority, Plain, On, row, after, touched, Pool, Desk, Active, DiskWord, Counts, InFlight, Turning, Going, Fetched, Fine, fetches, touched_pages, with_grants, lowered, locks_with, AreAlike, AreWrittenMarked, IsState, over_all, requested, owners_told, gone_on, row_done, IsAmong, due_to, IsCurrent, IsOrderly, wanted-is, replaced, one-entry, due-more, marked-row, seat-told, told-replaced, at-number, got, WentOn, gets-goes, sitter, taken-below, other-with, is_line_marked, PoolKeeps, plain_over, Live, Activity, live_in, program_in, entry_in, entries, store_over, desk_over, authority_under, number_under, lines_held, locks_in, request_for, request_in, state_in, shown, IsActivitySound, IsFree, Goes, locked, with_entries, counted, executed, with_other_pool, IsPoolMoved, HasExecuted, with_whole_page}
use Rattle.flat_machine.specs.Due.{touched_within}
use Rattle.activations.proofs.CommitLemmas.{told-kept}
use Rattle.activations.proofs.ContestLemmas.{locks_told, orderly-other, requests_told, states_told}
use Rattle.activations.proofs.SittingLemmas.{by_seat, sitter-other, entry-counted, entry-other, under-counted, live-other, live-there, state-by, plain-by, state-shows}

module _ (begins : DiskWord → Turning) (attempt : InFlight) (refused : List ℕ) (a : Activity) (seat : ℕ) (committed : List ℕ) (order : List (ℕ × ℕ)) (counts : Counts)
    (wants : List Want) (owned eased : List Authority) (pool : Pool) (live : Live) (bytes : List ℕ) (marked : List (List ℕ)) (counted_pages : ℕ) (next : Plain)
    (sound : IsActivitySound a) (taken : has a.seating.taken seat ≡ true) (runner : a.reach.runner ≡ seat + 1)
    (number : attempt.entry.number ≡ (sitter a.seating seat).number) (free : IsFree begins attempt refused a committed order counts) (goes : attempt.outcome ≡ On next) where
  abbrev before : Activity
  before = with_other_pool (locked a seat wants owned) pool

  -- once it took effect and the write bits went off
  abbrev ran : Activity
  ran = with_entries (executed before seat live bytes marked) eased

  abbrev done : Activity
  done = counted (with_entries (executed before seat live bytes marked) eased) seat 1

  abbrev store : FlatStore
  store = store_over a committed

  abbrev entry : Active
  entry = entry_in a seat

  abbrev old : Desk
  old = desk_over a committed order

  abbrev left : Plain
  left = plain_over committed live.cpu done.reach live.out

  below : seat < 16
  below = taken-below a.seating sound.seating seat taken

  here : IsAmong (entries a) entry
  here = seat-told a.seating.taken (entry_in a) seat taken

  -- the entry of the attempt is the seat's, but for its mark
  same : entry ≡ record attempt.entry { waiting = free.ready.mark }
  same = one-entry 0 a.next (entries a) entry (record attempt.entry { waiting = free.ready.mark }) free.follows.orderly.active.ascend here free.ready.here (sym number)

  state : IsState store entry (state_in a seat)
  state = free.follows.kept.stand seat taken

  now-is : attempt.now ≡ over_all (state_in a seat) state.bytes
  now-is = (let told : Some attempt.now ≡ Some (over_all (state_in a seat) state.bytes) = (sym free.ready.now ∙ sym (ap (λ (e : Active). after e.runs.program e.runs.args store e.rows) same) ∙ state.at) in cc)

  module _ (moved : IsPoolMoved a.reach.pool pool) (keeps : PoolKeeps a.reach.directory a.reach.pool pool committed)
      (fetched : fetches Fine old.frames (touched_pages attempt) (touched_pages attempt) old.resident counts.pages ≡ Fetched pool.resident counted_pages)
      (alike : AreAlike (locks_in (locked a seat wants owned) seat) (locks_with attempt old))
      (grants : owners_told (number_under a) (authority_under eased) ≡ lowered (is_fine_page a.reach.directory) attempt (locks_with attempt old) (with_grants attempt refused old).authority)
      (went : HasExecuted before seat live bytes marked committed) where
    -- the attempt ran over the bytes of all
    shows : over_all attempt.now (shown a committed) ≡ plain_over committed (live_in before seat).cpu before.reach (live_in before seat).out
    shows = ap (λ (s : Plain). over_all s (shown a committed)) now-is
        ∙ (λ i. over_all (state-by a.reach.pool pool seat (live_in a seat) (live_in before seat) refl (sym (moved.private seat below)) i) (sym keeps.same i))
        ∙ state-shows before seat committed [] runner

    abbrev more : ℕ → Lines
    more at = if at == attempt.entry.number then locks_in (locked a seat wants owned) seat else locks_told a at

    abbrev new : ℕ → Plain
    new at = if at == attempt.entry.number then left else states_told a at

    due : due_to store (gone_on attempt.entry) ≡ locks_with attempt old
    due = due-more store attempt.entry ∙ ap (λ (l : Lines). with_whole_pages (is_fine_page a.reach.directory) (both (touched_within attempt.entry.runs.program attempt.entry.runs.args store attempt.entry.rows) l)) (sym free.ready.lines)

    mine : (attempt.entry.number == attempt.entry.number) ≡ true
    mine = eq-eqb attempt.entry.number attempt.entry.number refl

    more-mine : AreAlike (more attempt.entry.number) (due_to store (gone_on attempt.entry))
    more-mine =
        subst (λ (l : Lines). AreAlike l (due_to store (gone_on attempt.entry))) (sym (ap (λ (b : Bool). if b then locks_in (locked a seat wants owned) seat else locks_told a attempt.entry.number) mine))
        (subst (AreAlike (locks_in (locked a seat wants owned) seat)) (sym due) alike)

    went-on : WentOn begins (row_done attempt (got attempt refused pool.resident old)) (record counts { pages = counted_pages; ran = counts.ran + 1 }) more (requests_told a) new left.store
    went-on =
        gets-goes begins attempt refused pool.resident old counts counted_pages (locks_told a) more (requests_told a) (states_told a) new next left (shown a committed)
        free.comes free.ready free.free goes (told-kept a committed sound free.follows.kept) fetched
        (ap (row attempt.entry.runs.program a.reach.directory) shows ∙ ap (λ (e : Active). row e.runs.program a.reach.directory (plain_over committed (live_in before seat).cpu before.reach (live_in before seat).out)) (sym same) ∙ went.goes.goes)
        more-mine
        (record { kept = λ at differs. ap (λ (b : Bool). if b then locks_in (locked a seat wants owned) seat else locks_told a at) differs })
        (ap (λ (b : Bool). if b then left else states_told a attempt.entry.number) mine)
        (λ at differs. ap (λ (b : Bool). if b then left else states_told a at) differs)

    -- the entries and the desk after it
    entry-done : entry_in done seat ≡ gone_on attempt.entry
    entry-done = entry-counted (with_entries (executed before seat live bytes marked) eased) seat 1 sound.seating.sixteen below ∙ (ap gone_on same)

    entry-others : (at : ℕ) → (at == seat) ≡ false → entry_in done at ≡ entry_in a at
    entry-others at differs = entry-other (with_entries (executed before seat live bytes marked) eased) seat 1 at differs

    entries-done : entries done ≡ replaced (gone_on attempt.entry) (entries a)
    entries-done = told-replaced a.seating.taken (entry_in a) (entry_in done) seat
        (λ at inside. ap (λ (e : Active). (entry_in a at).number == e.number) (entry-counted (with_entries (executed before seat live bytes marked) eased) seat 1 sound.seating.sixteen below) ∙ sound.seats.apart at seat inside taken) entry-others
        ∙ ap (λ (e : Active). replaced e (entries a)) entry-done

    desk-done : desk_over done committed order ≡ row_done attempt (got attempt refused pool.resident old)
    desk-done i = record old {
      frames = moved.frames i;
      active = entries-done i;
      resident = pool.resident;
      authority = (ap (λ (numbers : ℕ → ℕ). owners_told numbers (authority_under eased)) (under-counted (with_entries (executed before seat live bytes marked) eased) seat 1 sound.seating.sixteen below) ∙ grants) i;
    }

    among-done : (at : ℕ) → has a.seating.taken at ≡ true → IsAmong (replaced (gone_on attempt.entry) (entries a)) (entry_in done at)
    among-done at inside = subst (λ (these : List Active). IsAmong these (entry_in done at)) entries-done (seat-told a.seating.taken (entry_in done) at inside)

    other-number : (at : ℕ) → has a.seating.taken at ≡ true → (at == seat) ≡ false → ((entry_in done at).number == attempt.entry.number) ≡ false
    other-number at inside differs = (λ i. (entry-others at differs i).number == number i) ∙ sound.seats.apart at seat inside taken ∙ differs

    number-done : (entry_in done seat).number ≡ attempt.entry.number
    number-done = ap (λ (e : Active). e.number) entry-done

    locks-done : (at : ℕ) → has a.seating.taken at ≡ true → more (entry_in done at).number ≡ locks_in done at
    locks-done = by_seat {P = λ at. more (entry_in done at).number ≡ locks_in done at} a.seating.taken seat
        (ap more number-done ∙ ap (λ (b : Bool). if b then locks_in (locked a seat wants owned) seat else locks_told a attempt.entry.number) mine)
        (λ at inside differs.
        ap (λ (b : Bool). if b then locks_in (locked a seat wants owned) seat else locks_told a (entry_in done at).number) (other-number at inside differs)
        ∙ ap (λ (e : Active). locks_told a e.number) (entry-others at differs)
        ∙ at-number a.seating.taken (entry_in a) (locks_in a) no_lines at sound.seats inside
        ∙ ap lines_held (sym (other-with a.seating.holding seat (with_wants (of_seat a.seating.holding seat) (map (with_whole_page a.reach.directory) wants)) sound.seating.whole at differs)))

    requests-done : (at : ℕ) → has a.seating.taken at ≡ true → (entry_in done at).waiting ≡ true → requests_told a (entry_in done at).number ≡ request_in done at
    requests-done = by_seat {P = λ at. (entry_in done at).waiting ≡ true → requests_told a (entry_in done at).number ≡ request_in done at} a.seating.taken seat
        (λ waits. absurd (both_ways (entry_in done seat).waiting (ap (λ (e : Active). e.waiting) entry-done) waits))
        (λ at inside differs waits.
        ap (λ (e : Active). requests_told a e.number) (entry-others at differs)
        ∙ at-number a.seating.taken (entry_in a) (request_in a) no_lines at sound.seats inside
        ∙ ap request_for (sym (sitter-other a.seating seat _ at differs)))

    live-now : live_in done seat ≡ live
    live-now = live-there a.live seat live (omega (arith, sound.live, below))

    left-is : left ≡ over_all (state_in done seat) left.store
    left-is = plain-by committed done.reach seat live (live_in done seat) runner live-now

    shown-as : (s t : Plain) (over : FlatStore) (e : Active) → s ≡ over_all t s.store → IsState over e s → IsState over e t
    shown-as s t over e is stands = record { bytes = stands.bytes; at = stands.at ∙ ap (λ (p : Plain). Some (over_all p stands.bytes)) is }

    states-done : (at : ℕ) → has a.seating.taken at ≡ true → IsState store (entry_in done at) (state_in done at)
    states-done = by_seat {P = λ at. IsState store (entry_in done at) (state_in done at)} a.seating.taken seat
        (shown-as left (state_in done seat) store (entry_in done seat) left-is
        (subst (IsState store (entry_in done seat)) (ap new number-done ∙ ap (λ (b : Bool). if b then left else states_told a attempt.entry.number) mine) (went-on.told.stand (entry_in done seat) (among-done seat taken))))
        (λ at inside differs.
        subst (IsState store (entry_in done at))
        (ap (λ (b : Bool). if b then left else states_told a (entry_in done at).number) (other-number at inside differs)
        ∙ ap (λ (e : Active). states_told a e.number) (entry-others at differs)
        ∙ at-number a.seating.taken (entry_in a) (state_in a) (state_in a 16) at sound.seats inside
        ∙ state-other at inside differs) (went-on.told.stand (entry_in done at) (among-done at inside)))
      where
        state-other : (at : ℕ) → has a.seating.taken at ≡ true → (at == seat) ≡ false → state_in a at ≡ state_in done at
        state-other at inside differs =
            state-by a.reach.pool done.reach.pool at (live_in a at) (live_in done at) (live-other a.live seat live at differs)
            (sym (moved.private at (taken-below a.seating sound.seating at inside)) ∙ sym (went.seats at (taken-below a.seating sound.seating at inside) (λ it. both_ways (at == seat) differs (eq-eqb at seat (omega (arith, runner, it))))))

    wants-is : wanted old entry ≡ touched (program_in a seat) a.reach.directory (plain_over committed (live_in before seat).cpu before.reach (live_in before seat).out)
    wants-is = ap (wanted old) same ∙ wanted-is old attempt.entry attempt.now left (shown a committed) free.ready.now
        (ap (row attempt.entry.runs.program a.reach.directory) shows ∙ ap (λ (e : Active). row e.runs.program a.reach.directory (plain_over committed (live_in before seat).cpu before.reach (live_in before seat).out)) (sym same) ∙ went.goes.goes)
        ∙ ap (touched attempt.entry.runs.program a.reach.directory) shows
        ∙ ap (λ (e : Active). touched e.runs.program a.reach.directory (plain_over committed (live_in before seat).cpu before.reach (live_in before seat).out)) (sym same)

    marks-done : AreWrittenMarked store (entries done) (is_line_marked done.reach.pool)
    marks-done =
        subst (λ (these : List Active). AreWrittenMarked store these (is_line_marked done.reach.pool)) (ap (λ (e : Active). replaced e (entries a)) (ap gone_on same) ∙ sym entries-done)
        (marked-row store a.most_lines a.next (entries a) free.follows.orderly.active (is_line_marked a.reach.pool) free.follows.kept.marked entry (is_line_marked done.reach.pool) here
        (λ line. went.goes.marks line ∙ (λ i. has (slice_index_or (moved.marked i) (page_of_line line) []) (line % 16) || has (sym wants-is i).writes line)))

    pub served : Goes begins done committed order (record counts { pages = counted_pages; ran = counts.ran + 1 })
    served = record {
      comes = λ word reads. went-on.comes word reads ∙ ap (λ (d : Desk). Going d (record counts { pages = counted_pages; ran = counts.ran + 1 })) (sym desk-done);
      follows = record {
        orderly = orderly-other done committed order (subst IsOrderly (sym desk-done) went-on.consistent);
        kept = record {
          long = free.follows.kept.long;
          held = λ at inside. subst (λ (l : Lines). AreAlike l (due_to store (entry_in done at))) (locks-done at inside) (went-on.told.kept.held (entry_in done at) (among-done at inside));
          asked = λ at inside waits.
              subst (λ (l : Lines). AreAlike l (requested store (entry_in done at))) (requests-done at inside waits) (went-on.told.kept.asked (entry_in done at) (among-done at inside) waits);
          stand = states-done;
          is_current = subst (λ (these : List Active). IsCurrent store these left.store) (sym entries-done) went-on.told.is_current;
          marked = marks-done;
          clean = went.clean;
        };
      };
    }
