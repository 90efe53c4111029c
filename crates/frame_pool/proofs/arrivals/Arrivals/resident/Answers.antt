use Rattle.frame_pool.proofs.Common.{List, ◌≡◌, ℕ, true, sym, ◌∙◌, ap, arith, has, slice_index, get_or_read_under, nat_tests, led, order_of}
use Rattle.frame_pool.proofs.arrivals.Arrivals.resident.Goals.{After-index}
use Rattle.frame_pool.proofs.arrivals.Arrivals.resident.Goals as goal

-- what is left at first are all of them
all_left : (c : After-index) → led c.deref.result.now c.self.inside.count c.index.result.now ≡ order_of c.self.inside
all_left c =
    let a = c.self.inside in
    let first : c.index.result.now ≡ slice_index a.next.items a.pages = grind (arith, nat_tests, get_or_read_under, c.self.invariant) in
    ap (λ (next : List ℕ). led next a.count c.index.result.now) c.deref.ensures.value ∙ ap (led a.next.items a.count) first

pub invariant_of-result : goal.invariant_of-result
invariant_of-result c = λ page there.
    let inside : has (order_of c.self.inside) page ≡ true = ap (λ (xs : List ℕ). has xs page) (sym (all_left (goal.at.invariant_of-result c).After-index)) ∙ there in
    omega (arith, c.self.invariant.below page inside, c.self.invariant.next_long, c.deref.ensures.len)

pub returns : goal.returns
returns c = rw (← c.self.view_is) (all_left (goal.at.returns c).After-index)
