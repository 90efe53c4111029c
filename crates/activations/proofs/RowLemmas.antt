-- A row of one that takes effect, over what all see.
use Rattle.activations.proofs.Common.{open-due, ◌≡◌, ℕ, ◌+◌, ◌==◌, ◌||◌, true, false, List, [], Some, arith, ap, sym, ◌∙◌, subst, eq-eqb, both_ways, FlatStore, has, Lines, Plain, row, touched, Desk, Active, with_active, wanted, Counts, Going, no_counts, AreAlike, IsState, over_all, owners_told, AreWrittenMarked, requested, gone_on, IsAmong, due_to, IsCurrent, IsOrderly, HasGone, attempt-goes, wanted-is, replaced, alike-then, alike-back, marked-row, seat-told, told-replaced, Seat, taken-below, is_line_marked, plain_over, Live, Activity, live_in, program_in, entry_in, entries, store_over, desk_over, authority_under, locks_in, request_for, request_in, state_in, shown, IsActivitySound, IsBeside, KeepsDesk, counted, executed, HasExecuted, RowGoesOn}
use Rattle.activations.proofs.SittingLemmas.{by_seat, state-shows, sitter-other, entry-counted, entry-other, under-counted, live-other, live-there, state-by, plain-by}
use Rattle.activations.proofs.TableLemmas.{there}

-- a consistent desk is so whatever its order
pub orderly-order : (a : Activity) (committed : List ℕ) (order : List (ℕ × ℕ)) → IsOrderly (desk_over a committed []) → IsOrderly (desk_over a committed order)
orderly-order a committed order is = record { whole = is.whole; few = is.few; active = is.active; held = is.held; no_cycle = is.no_cycle }

module _ (a : Activity) (seat : ℕ) (live : Live) (bytes : List ℕ) (marked : List (List ℕ)) (committed : List ℕ)
    (sound : IsActivitySound a) (taken : has a.seating.taken seat ≡ true) (runner : a.reach.runner ≡ seat + 1)
    (follows : KeepsDesk a committed) (went : HasExecuted a seat live bytes marked committed) where
  abbrev next : Activity
  next = counted (executed a seat live bytes marked) seat 1

  abbrev store : FlatStore
  store = store_over a committed

  abbrev entry : Active
  entry = entry_in a seat

  abbrev left : Plain
  left = plain_over committed live.cpu next.reach live.out

  here : IsAmong (entries a) entry
  here = seat-told a.seating.taken (entry_in a) seat taken

  -- the state of the entry is what the seat has
  state : IsState store entry (state_in a seat)
  state = follows.kept.stand seat taken

  shows : over_all (over_all (state_in a seat) state.bytes) (shown a committed) ≡ (plain_over committed (live_in a seat).cpu a.reach (live_in a seat).out)
  shows = state-shows a seat committed state.bytes runner

  gone : (order : List (ℕ × ℕ)) (counts : Counts) → HasGone (desk_over a committed order) counts entry left
  gone order counts =
      attempt-goes (desk_over a committed order) counts entry (over_all (state_in a seat) state.bytes) left (shown a committed)
      (orderly-order a committed order follows.orderly) here state.at follows.kept.is_current
      (ap (row (program_in a seat) a.reach.directory) shows ∙ went.goes.goes)
      (record {
        reads = λ line inside. there a sound committed follows seat order line false taken runner (went.goes.open_lines.reads line (subst (λ (s : Plain). has (touched (program_in a seat) a.reach.directory s).reads line ≡ true) shows inside));
        writes = λ line inside. there a sound committed follows seat order line true taken runner (went.goes.open_lines.writes line (subst (λ (s : Plain). has (touched (program_in a seat) a.reach.directory s).writes line ≡ true) shows inside));
      })

  -- the entries after the row
  entry-next : entry_in next seat ≡ gone_on entry
  entry-next = entry-counted (executed a seat live bytes marked) seat 1 sound.seating.sixteen (taken-below a.seating sound.seating seat taken)

  entry-others : (at : ℕ) → (at == seat) ≡ false → entry_in next at ≡ entry_in a at
  entry-others at differs = entry-other (executed a seat live bytes marked) seat 1 at differs

  entries-next : entries next ≡ replaced (gone_on entry) (entries a)
  entries-next = told-replaced a.seating.taken (entry_in a) (entry_in next) seat
      (λ at inside. ap (λ (e : Active). (entry_in a at).number == e.number) entry-next ∙ sound.seats.apart at seat inside taken) entry-others
      ∙ ap (λ (e : Active). replaced e (entries a)) entry-next

  desk-next : (order : List (ℕ × ℕ)) → desk_over next committed order ≡ with_active (desk_over a committed order) (gone_on entry)
  desk-next order i = record (desk_over a committed order) {
    active = entries-next i;
    authority = owners_told (under-counted (executed a seat live bytes marked) seat 1 sound.seating.sixteen (taken-below a.seating sound.seating seat taken) i) (authority_under a.reach.entries);
  }

  -- the store after the rows of the entry, and what the seat has then
  first : HasGone (desk_over a committed []) no_counts entry left
  first = gone [] no_counts

  live-now : live_in next seat ≡ live
  live-now = live-there a.live seat live (omega (arith, sound.live, taken-below a.seating sound.seating seat taken))

  left-is : left ≡ over_all (state_in next seat) (shown next committed)
  left-is = plain-by committed next.reach seat live (live_in next seat) runner live-now

  next-is : first.next ≡ over_all (state_in next seat) first.next.store
  next-is = ap (λ (s : Plain). over_all s first.next.store) (sym first.shows ∙ left-is)

  state-next : IsState store (entry_in next seat) (state_in next seat)
  state-next = subst (λ (e : Active). IsState store e (state_in next seat)) (sym entry-next) (record { bytes = first.next.store; at = first.at ∙ ap Some next-is })

  state-others : (at : ℕ) → has a.seating.taken at ≡ true → (at == seat) ≡ false → IsState store (entry_in next at) (state_in next at)
  state-others at inside differs =
      subst (λ (e : Active). IsState store e (state_in next at)) (sym (entry-others at differs))
      (subst (IsState store (entry_in a at))
      (state-by a.reach.pool next.reach.pool at (live_in a at) (live_in next at) (live-other a.live seat live at differs)
      (sym (went.seats at (taken-below a.seating sound.seating at inside) (λ same. both_ways (at == seat) differs (eq-eqb at seat (omega (arith, runner, same)))))))
      (follows.kept.stand at inside))

  kept-next : IsBeside next committed
  kept-next =
      let wants : wanted (desk_over a committed []) entry ≡ touched (program_in a seat) a.reach.directory (plain_over committed (live_in a seat).cpu a.reach (live_in a seat).out) =
      wanted-is (desk_over a committed []) entry (over_all (state_in a seat) state.bytes) left (shown a committed) state.at
      (ap (row (program_in a seat) a.reach.directory) shows ∙ went.goes.goes)
      ∙ ap (touched (program_in a seat) a.reach.directory) shows in
      record {
        long = follows.kept.long;
        held = by_seat {P = λ at. AreAlike (locks_in next at) (due_to store (entry_in next at))} a.seating.taken seat
            (subst (λ (e : Active). AreAlike (locks_in a seat) (due_to store e)) (sym entry-next)
            (alike-then (locks_in a seat) (due_to store entry) (due_to store (gone_on entry)) (follows.kept.held seat taken)
            (alike-back (due_to store (gone_on entry)) (due_to store entry) (open-due (desk_over a committed []) entry first.held))))
            (λ at inside differs. subst (λ (e : Active). AreAlike (locks_in a at) (due_to store e)) (sym (entry-others at differs)) (follows.kept.held at inside));
        asked = by_seat {P = λ at. (entry_in next at).waiting ≡ true → AreAlike (request_in next at) (requested store (entry_in next at))} a.seating.taken seat
            (λ waits. absurd (both_ways (entry_in next seat).waiting (ap (λ (e : Active). e.waiting) entry-next) waits))
            (λ at inside differs waits.
            subst (λ (e : Active). AreAlike (request_in next at) (requested store e)) (sym (entry-others at differs))
            (subst (λ (who : Seat). AreAlike (request_for who) (requested store (entry_in a at))) (sym (sitter-other a.seating seat _ at differs))
            (follows.kept.asked at inside (sym (ap (λ (e : Active). e.waiting) (entry-others at differs)) ∙ waits))));
        stand = by_seat {P = λ at. IsState store (entry_in next at) (state_in next at)} a.seating.taken seat state-next state-others;
        is_current = subst (λ (these : List Active). IsCurrent store these (shown next committed)) (sym entries-next) first.is_current;
        marked = subst (λ (these : List Active). AreWrittenMarked store these (is_line_marked next.reach.pool)) (sym entries-next)
            (marked-row store a.most_lines a.next (entries a) follows.orderly.active (is_line_marked a.reach.pool) follows.kept.marked entry (is_line_marked next.reach.pool) here
            (λ line. went.goes.marks line ∙ ap (λ (l : Lines). is_line_marked a.reach.pool line || has l.writes line) (sym wants)));
        clean = went.clean;
      }

  pub goes-on : RowGoesOn a seat live bytes marked committed
  goes-on = record {
    is_instruction = λ word order counts.
        (gone order counts).is_instruction word ∙ ap (λ (d : Desk). Going d (record counts { ran = counts.ran + 1 })) (sym (desk-next order));
    follows = record { orderly = subst IsOrderly (sym (desk-next [])) first.consistent; kept = kept-next };
  }
