-- What a begin leaves of a session.
use Rattle.session.proofs.Common.{◌≡◌, ℕ, ◌+◌, ◌-◌, ◌*◌, ◌<◌, ◌≤◌, List, [], ◌∷◌, length, refl, sym, ◌∙◌, ap, subst, arith, Option, Some, None, length-append, newcomer, next_seat, Begun, begun_told, Desk, Fine, Step, absent_segment, step, Activity, program_at, desk_over, IsBegin, begin_answer, begins_by, KeepsDesk, AreRowsWithin, SessionState, IsSessionSound, activity, fixed_of, session_desk, session_told, order_of, ShowsDesk}
use Rattle.activations.proofs.SittingLemmas.{sitter-there, sitter-other}
use Rattle.desk.specs.declared.event.Event.TheVariants as event
use Rattle.activations.specs.Follows as running

-- The next number is given, at most one has sat down, no row was done, and what an opening sets is as before.
pub record HasGiven (old new : Activity) : Type 0 where
  pub programs : new.programs ≡ old.programs
  pub most_lines : new.most_lines ≡ old.most_lines
  pub directory : new.reach.directory ≡ old.reach.directory
  pub next : new.next ≡ old.next + 1
  pub more : length new.seating.taken ≤ length old.seating.taken + 1
  pub rows : (rows : ℕ) → AreRowsWithin old rows → AreRowsWithin new rows

module _ (a : Activity) (program : ℕ) (args : List ℕ) (sixteen : length a.seating.sitters ≡ 16) where
  rows-begun : (seat rows : ℕ) → AreRowsWithin a rows → AreRowsWithin (begins_by (Some seat) None a program args).1 rows
  rows-begun seat rows within at below = grind (arith, sitter-there a.seating seat (newcomer a.next program args) sixteen, sitter-other a.seating seat (newcomer a.next program args) at, within at below)

  given-by : (free absent : Option ℕ) → HasGiven a (begins_by free absent a program args).1
  given-by (Some seat) None = let long = length-append a.seating.taken (seat ∷ []) in grind (arith, rows-begun seat, long)
  given-by _ _ = record { programs = refl; most_lines = refl; directory = refl; next = refl; more = omega arith; rows = λ rows within. within }

  -- a begin gives the next number
  pub begins-given : HasGiven a (begin_answer a program args).1
  begins-given = given-by (next_seat a.seating) (absent_segment a.reach.directory (program_at a.programs program).windows)

-- a session whose activations are others
abbrev pub with_activations : SessionState → Activity → SessionState
with_activations s activations = record s { activations = activations }

-- A program began in a session.
module _ (s : SessionState) (new : Activity) (program : ℕ) (args : List ℕ) (sound : IsSessionSound s) (left : new ≡ (begin_answer (activity s) program args).1) where
  given : HasGiven (activity s) new
  given = subst (HasGiven (activity s)) (sym left) (begins-given (activity s) program args sound.running.sound.seating.sixteen)

  pub told-begun : session_told (with_activations s new) ≡ record (session_told s) { given = (session_told (with_activations s new)).given }
  told-begun = λ i. record (session_told s) { fixed = record (fixed_of s) { programs = given.programs i }; given = new.next - 1 }

  pub session-begun : (activity s).next - 1 < s.begins → running.AlwaysHolds new → IsSessionSound (with_activations s new)
  session-begun room now = grind (arith, sound, sound.room, given, given.rows (s.turns * 1000000) sound.room.rows, room, now)

  pub shown-begun : running.AlwaysHolds new → (answer : Begun) → ((committed : List ℕ) → KeepsDesk (activity s) committed → IsBegin (activity s) new program args answer committed)
      → (held : List ℕ) (desk : Desk) → ShowsDesk s held desk
      → (next : Desk) × (step (activity s).programs (event.Begin program args) Fine desk ≡ record { desk = next; happening = begun_told program answer }) × ShowsDesk (with_activations s new) held next
  shown-begun now answer begin held desk shown =
      let over = shown.over in let goes = begin over.committed over.follows in
      let open_desk : session_desk s over.committed ≡ desk_over (activity s) over.committed (order_of s) = λ i. record (desk_over (activity s) over.committed (order_of s)) { closed = over.still_open i } in
      let next_desk : desk_over new over.committed (order_of s) ≡ session_desk (with_activations s new) over.committed = λ i. record (desk_over new over.committed (order_of s)) { closed = sym over.still_open i } in (
        session_desk (with_activations s new) over.committed,
        ap (step (activity s).programs (event.Begin program args) Fine) (shown.is ∙ open_desk)
            ∙ goes.is_step (order_of s)
            ∙ ap (λ (that : Desk). let comes : Step = record { desk = that; happening = begun_told program answer } in comes) next_desk,
        record {
          over = grind (arith, over, goes.follows);
          directory = shown.directory ∙ sym given.directory;
          frames = now.frames;
          is = refl;
        },
      )
