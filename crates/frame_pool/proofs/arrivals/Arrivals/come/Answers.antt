use Rattle.frame_pool.proofs.Lemmas.{List, ◌≡◌, ◌+◌, ◌<◌, ℕ, false, length, refl, sym, ◌∙◌, ap, arith, subst, has, slice_index, slice_set, get_or_read_under, nat_tests, [], ◌∷◌, ◌++◌, with_item, Arrived, IsRing, order_of, Inside, last-within, ring-came, counted}
use Rattle.frame_pool.proofs.arrivals.Arrivals.come.Goals.{After-from-2, After-from-5}
use Rattle.frame_pool.proofs.arrivals.Arrivals.come.Goals as goal

last_is : (c : After-from-2) → c.index-last.result.now ≡ slice_index c.self.inside.before.items c.self.inside.pages
last_is c = grind (arith, nat_tests, get_or_read_under, c.self.invariant)

pub index_mut-requires : goal.index_mut-requires
index_mut-requires c = omega (arith, c.from-2.ensures, last_is c, last-within c.self.inside c.self.invariant)

pub overflow_add-self : goal.overflow_add-self
overflow_add-self c =
    let few = subst (λ (arrived : Arrived). length arrived.order < 65535) (sym c.self.view_is) c.requires.few in
    omega (arith, few, counted c.self.inside)

-- the ring with the page
abbrev come : After-from-5 → Inside
come c =
    let a = c.self.inside in
    record {
      pages = a.pages;
      count = a.count + 1;
      next = with_item (with_item a.next c.from-2.result c.args.page) c.from-4.result a.pages;
      before = with_item (with_item a.before c.from-3.result c.index-last.result.now) c.from-5.result c.args.page;
    }

come_is : (c : After-from-5) → c.index-last.result.now ≡ slice_index c.self.inside.before.items c.self.inside.pages
    → IsRing (come c) × (order_of (come c) ≡ order_of c.self.inside ++ c.args.page ∷ [])
come_is c last =
    let a = c.self.inside in
    let absent = subst (λ (arrived : Arrived). has arrived.order c.args.page ≡ false) (sym c.self.view_is) c.requires.absent in
    let inside = subst (λ (arrived : Arrived). c.args.page < arrived.pages) (sym c.self.view_is) c.requires.page in
    ring-came a (come c) c.args.page c.index-last.result.now c.self.invariant absent inside last
    (ap (λ (i : ℕ). slice_set (slice_set a.next.items i c.args.page) c.from-4.result a.pages) c.from-2.ensures
    ∙ ap (λ (i : ℕ). slice_set (slice_set a.next.items c.index-last.result.now c.args.page) i a.pages) c.from-4.ensures)
    (ap (λ (i : ℕ). slice_set (slice_set a.before.items i c.index-last.result.now) c.from-5.result c.args.page) c.from-3.ensures
    ∙ ap (λ (i : ℕ). slice_set (slice_set a.before.items c.args.page c.index-last.result.now) i c.args.page) c.from-5.ensures)
    refl refl refl refl

pub invariant_of-self : goal.invariant_of-self
invariant_of-self c = (come_is (goal.at.invariant_of-self c).After-from-5 (last_is (goal.at.invariant_of-self c).After-from-2)).0

pub returns : goal.returns
returns c =
    rw (← c.self.view_is)
    (ap (λ (order : List ℕ). record { pages = c.self.inside.pages; order = order }) (come_is (goal.at.returns c).After-from-5 (last_is (goal.at.returns c).After-from-2)).1)
