use Rattle.seats.proofs.Lemmas.{cases_lt, lt-ltb, get_or_append_left, get_or_push, is_on, waits_in, seat_waits, seat_at, nat_tests, ◌≡◌, ◌&&◌, ℕ, Bool, List, [], ◌∷◌, length, get_or, arith, ap, inl, inr, ◌∙◌, few-taken}
use Rattle.seats.proofs.seats.Seats.rows_of_waits.Goals as goal

pub push-requires : goal.push-requires
push-requires c = grind (arith, nat_tests, few-taken)

pub loop-seat-preserved : goal.loop-seat-preserved
loop-seat-preserved c =
    let few = few-taken c.args.self.now c.taken-seat-items.ensures.sound in
    let now = c.loop-seat.invariant in
    record {
      long = omega (arith, now.long, c.push.ensures.len);
      rows = λ from to before within.
          ap (λ (rows : List ℕ). waits_in rows from to) c.push.ensures.items
          ∙ elim (cases_lt from c.loop-seat.seat-index) [
            | inl old ↦ ap (λ (row : ℕ). is_on row to) (get_or_append_left c.loop-seat.rows.items (c.places_awaited.result ∷ []) 0 from (omega (arith, old, now.long))) ∙ now.rows from to old within
            | inr not_old ↦
                let this : c.loop-seat.seat-index ≡ from = omega (arith, before, not_old) in
                ap (λ (row : ℕ). is_on row to) (get_or_push c.loop-seat.rows.items c.places_awaited.result 0 from (now.long ∙ this))
                ∙ c.places_awaited.ensures to (omega (arith, few, within))
                ∙ ap (λ (less : Bool). less && seat_waits c.args.self.now (get_or c.taken-seat-items.result.now c.loop-seat.seat-index 0) (seat_at c.args.self.now to)) (lt-ltb to (length c.args.self.now.taken) within)
                ∙ (λ i. seat_waits c.args.self.now (get_or (c.taken-seat-items.ensures.taken i) (this i) 0) (seat_at c.args.self.now to))
          ];
    }
