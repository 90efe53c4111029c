use Rattle.frame_pool.proofs.Lemmas.{List, ◌-◌, ◌≡◌, ℕ, true, refl, sym, ap, arith, subst, has, slice_index, slice_set, get_or_read_under, nat_tests, taken_out, [], ◌∷◌, Arrived, IsRing, order_of, with_item, Inside, taken-fewer, next-within, before-within, page-within, ring-left, counted}
use Rattle.frame_pool.proofs.arrivals.Arrivals.leave.Goals.{After-from-3, After-from-4}
use Rattle.frame_pool.proofs.arrivals.Arrivals.leave.Goals as goal

there : (c : After-from-3) → has (order_of c.self.inside) c.args.page ≡ true
there c = subst (λ (arrived : Arrived). has arrived.order c.args.page ≡ true) (sym c.self.view_is) c.requires

next_is : (c : After-from-3) → c.index-next.result.now ≡ slice_index c.self.inside.next.items c.args.page
next_is c = grind (arith, nat_tests, get_or_read_under, page-within c.self.inside c.args.page c.self.invariant (there c))

before_is : (c : After-from-3) → c.index-before.result.now ≡ slice_index c.self.inside.before.items c.args.page
before_is c = grind (arith, nat_tests, get_or_read_under, page-within c.self.inside c.args.page c.self.invariant (there c))

pub index_mut-requires : goal.index_mut-requires
index_mut-requires c =
    omega (arith, c.from-3.ensures, before_is c, before-within c.self.inside c.args.page c.self.invariant (there c))

pub index_mut-requires-2 : goal.index_mut-requires-2
index_mut-requires-2 c =
    let at = (goal.at.index_mut-requires-2 c).After-from-3 in
    omega (arith, c.from-4.ensures, next_is at, next-within c.self.inside c.args.page c.self.invariant (there at))

pub overflow_sub-self : goal.overflow_sub-self
overflow_sub-self c =
    let a = c.self.inside in
    let at = (goal.at.overflow_sub-self c).After-from-3 in
    omega (arith, taken-fewer c.args.page (order_of a) c.self.invariant.apart (there at), counted a)

-- the ring without the page
abbrev left : After-from-4 → Inside
left c =
    record {
      pages = c.self.inside.pages;
      count = c.self.inside.count - 1;
      next = with_item c.self.inside.next c.from-3.result c.index-next.result.now;
      before = with_item c.self.inside.before c.from-4.result c.index-before.result.now;
    }

left_is : (c : After-from-4) → IsRing (left c) × (order_of (left c) ≡ taken_out (c.args.page ∷ []) (order_of c.self.inside))
left_is c =
    let a = c.self.inside in
    let at = (goal.at.index_mut-requires-2 c).After-from-3 in
    ring-left a (left c) c.args.page c.index-before.result.now c.index-next.result.now c.self.invariant (there at) (before_is at) (next_is at)
    (ap (λ (i : ℕ). slice_set a.next.items i c.index-next.result.now) c.from-3.ensures)
    (ap (λ (i : ℕ). slice_set a.before.items i c.index-before.result.now) c.from-4.ensures)
    (omega (arith, taken-fewer c.args.page (order_of a) c.self.invariant.apart (there at), counted a)) refl refl refl

pub invariant_of-self : goal.invariant_of-self
invariant_of-self c = (left_is (goal.at.invariant_of-self c).After-from-4).0

pub returns : goal.returns
returns c =
    rw (← c.self.view_is)
    (ap (λ (order : List ℕ). record { pages = c.self.inside.pages; order = order }) (left_is (goal.at.returns c).After-from-4).1)
