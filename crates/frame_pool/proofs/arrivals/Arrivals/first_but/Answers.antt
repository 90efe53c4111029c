use Rattle.frame_pool.proofs.Lemmas.{Bool, false, ◌≡◌, ℕ, true, sym, ◌∙◌, ap, arith, has, slice_index, get_or_read_under, nat_tests, vec_len, Some, not, option_to_list, find-none, find-first_led, find-second_led, find-only_led, first-in, page-within}
use Rattle.frame_pool.proofs.arrivals.Arrivals.first_but.Goals.{After-is_to_stay}
use Rattle.frame_pool.proofs.arrivals.Arrivals.first_but.Goals as goal

first_is : (c : After-is_to_stay) → c.index-first.result.now ≡ slice_index c.self.inside.next.items c.self.inside.pages
first_is c = grind (arith, nat_tests, get_or_read_under, c.self.invariant)

pub index-requires : goal.index-requires
index-requires c =
    let a = c.self.inside in
    let first = first_is (goal.at.index-requires c).After-is_to_stay in
    omega (
      arith,
      c.from-else-self-eq1.ensures,
      first,
      page-within a (slice_index a.next.items a.pages) c.self.invariant (first-in a.next.items a.count (slice_index a.next.items a.pages) c.if-self-eq0.false),
    )

stays : (c : After-is_to_stay) (b : Bool) → c.is_to_stay.result ≡ b → has (option_to_list c.args.keep) (slice_index c.self.inside.next.items c.self.inside.pages) ≡ b
stays c b is = ap (has (option_to_list c.args.keep)) (sym (first_is c)) ∙ sym c.is_to_stay.ensures ∙ is

pub returns-then-self-eq0 : goal.returns-then-self-eq0
returns-then-self-eq0 c =
    let a = c.self.inside in
    rw (← c.self.view_is) (sym (find-none (λ page. not (has (option_to_list c.args.keep) page)) a.next.items a.count (slice_index a.next.items a.pages) c.if-self-eq0.true))

pub returns-then-not-is_to_stay : goal.returns-then-not-is_to_stay
returns-then-not-is_to_stay c =
    let a = c.self.inside in
    let at = (goal.at.returns-then-not-is_to_stay c).After-is_to_stay in
    rw (← c.self.view_is)
    (ap (λ (page : ℕ). Some page) (first_is at)
    ∙ sym (find-first_led c.args.keep a.next.items a.count (slice_index a.next.items a.pages) c.if-self-eq0.false (stays at false c.if-not-is_to_stay.true)))

pub returns-then-self-eq1 : goal.returns-then-self-eq1
returns-then-self-eq1 c =
    let a = c.self.inside in
    let at = (goal.at.returns-then-self-eq1 c).After-is_to_stay in
    rw (← c.self.view_is)
    (sym (find-only_led c.args.keep a.next.items a.count (slice_index a.next.items a.pages) c.if-self-eq1.true (stays at true c.if-not-is_to_stay.false)))

pub returns-else-self-eq1 : goal.returns-else-self-eq1
returns-else-self-eq1 c =
    let a = c.self.inside in
    let at = (goal.at.returns-else-self-eq1 c).After-is_to_stay in
    let first = first_is at in
    let within = page-within a (slice_index a.next.items a.pages) c.self.invariant (first-in a.next.items a.count (slice_index a.next.items a.pages) c.if-self-eq0.false) in
    let second : c.index.result.now ≡ slice_index a.next.items (slice_index a.next.items a.pages) =
    get_or_read_under a.next.items c.from-else-self-eq1.result (vec_len a.next) c.index.result.now 0 c.index.ensures (omega (arith, c.from-else-self-eq1.ensures, first, within)) a.next.ok.0
    ∙ ap (slice_index a.next.items) (c.from-else-self-eq1.ensures ∙ first) in
    rw (← c.self.view_is)
    (ap (λ (page : ℕ). Some page) second
    ∙ sym (find-second_led c.args.keep a.next.items a.count (slice_index a.next.items a.pages) c.self.invariant.apart c.if-self-eq0.false c.if-self-eq1.false (stays at true c.if-not-is_to_stay.false)))
