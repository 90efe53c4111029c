use Rattle.seats.proofs.Lemmas.{eqb-true, nil_from_length, AreListed, common_steps, ◌≡◌, [], List, ℕ, vec_len, sym, ◌∙◌, subst, arith, none-conflicts}
use Rattle.seats.proofs.seat_lines.SeatLines.conflicts.Goals as goal

pub returns-then-is_empty : goal.returns-then-is_empty
returns-then-is_empty c =
    let zero : vec_len c.self.inside.held ≡ 0 = eqb-true (vec_len c.self.inside.held) 0 (sym c.is_empty.ensures ∙ c.if-is_empty.true) in
    let none : c.self.inside.held.items ≡ [] = nil_from_length c.self.inside.held.items (omega (arith, zero, c.self.inside.held.ok)) in
    let pages = subst (λ (pages : List (List ℕ × List ℕ)). AreListed pages c.self.inside.held.items) c.self.view_is c.self.invariant.1 in
    sym (none-conflicts c.args.self.now (subst (λ (list : List ℕ). AreListed c.args.self.now list) none pages) c.args.request.now.wants.items)

pub returns-then-is_in_conflict : goal.returns-then-is_in_conflict
returns-then-is_in_conflict c = grind (arith, common_steps)

pub returns : goal.returns
returns c = grind (arith, common_steps)
