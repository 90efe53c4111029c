use Rattle.seats.proofs.Lemmas.{if◌then◌else◌, slice_set, IsPermutation, and_parts, not-true, sum_by-set, get_or-le-sum_by, All-set, get_or_default, length-set, nothing, of_page, holds_some, AreLinesCounted, ◌≡◌, ◌<◌, ◌≤◌, ◌&&◌, ℕ, false, not, List, [], ◌∷◌, ◌++◌, length, true, refl, arith, ap, sym, ◌∙◌, subst, common_steps, room, some-more, listed-next, listed-moved}
use Rattle.seats.proofs.seat_lines.SeatLines.add.Goals as goal

below : (c : goal.After-list_if-arg-1) → c.from-page.result < length c.self.inside.pages.items
below c = omega (arith, c.requires, c.from-page.ensures, ap length c.self.view_is)

was : (c : goal.After-list_if-arg-1) → c.index.result.now ≡ of_page c.self.inside.pages.items c.from-page.result
was c = c.index.ensures ∙ get_or_default c.self.inside.pages.items c.from-page.result c.index.result.now nothing (below c)

-- nothing was held of it where it is listed
before : (c : goal.After-list_if-arg-1) → (not c.holds_some.result && c.holds_some-2.result) ≡ true → holds_some (of_page c.self.inside.pages.items c.from-page.result) ≡ false
before c first = ap holds_some (sym (was c)) ∙ sym c.holds_some.ensures.value ∙ not-true c.holds_some.result (and_parts (not c.holds_some.result) c.holds_some-2.result first).0

pub list_if-requires-clause-room : goal.list_if-requires-clause-room
list_if-requires-clause-room c =
    λ first.
    let less = room c.self.inside.pages.items c.self.inside.held.items c.self.invariant.1 c.from-page.result (below c) (before c first) in
    omega (arith, less, c.self.invariant.2, c.self.inside.held.ok)

pub list_if-requires-clause-absent : goal.list_if-requires-clause-absent
list_if-requires-clause-absent c = grind (arith, common_steps, before)

pub list_if-requires-clause-ascending : goal.list_if-requires-clause-ascending
list_if-requires-clause-ascending c = c.self.invariant.3

pub invariant_of-self : goal.invariant_of-self
invariant_of-self c =
    let pages : List (List ℕ × List ℕ) = c.self.inside.pages.items in
    let page = c.from-page.result in
    let new : List ℕ × List ℕ = (c.union-all.result, c.union-together.result) in
    let counted : AreLinesCounted pages c.self.inside.written = c.self.invariant.0 in
    let here : page < length pages = omega (arith, c.requires, c.from-page.ensures, ap length c.self.view_is) in
    let before_it : c.index.result.now ≡ of_page pages page = c.index.ensures ∙ get_or_default pages page c.index.result.now nothing here in
    let sum = sum_by-set (λ (held : List ℕ × List ℕ). length held.1) pages page new nothing here in
    let least : c.count.result ≡ length (of_page pages page).1 = c.count.ensures.value ∙ ap (λ (held : List ℕ × List ℕ). length held.1) before_it in
    let now_listed : List ℕ = if not c.holds_some.result && c.holds_some-2.result then c.self.inside.held.items ++ page ∷ [] else c.self.inside.held.items in
    let some = some-more c.index.result.now c.args.want.now c.holds_some.ensures.reads c.holds_some.ensures.writes in (
      record {
        few = omega (arith, counted.few, length-set pages page new);
        lines = All-set (λ (held : List ℕ × List ℕ). length held.1 ≤ 16) pages page new (omega (arith, c.count-2.ensures.value, c.count-2.ensures.small)) counted.lines;
        counted = omega (arith, sum, counted.counted, least, c.count-2.ensures.value, get_or-le-sum_by (λ (held : List ℕ × List ℕ). length held.1) pages page nothing here);
      },
      listed-moved (slice_set pages page new) now_listed c.list_if.new.list.items
          (subst (λ (these : List ℕ). IsPermutation these c.list_if.new.list.items)
          (λ i. if not c.holds_some.result && c.holds_some-2.result then c.self.inside.held.items ++ sym c.from-page.ensures i ∷ [] else c.self.inside.held.items) c.list_if.ensures.listed)
          (listed-next pages c.self.inside.held.items c.self.invariant.1 page new (not c.holds_some.result && c.holds_some-2.result) now_listed here
          (λ is. ap holds_some (λ i. (c.union-all.ensures i, c.union-together.ensures i)) ∙ some (ap holds_some before_it ∙ is))
          (λ i. not ((c.holds_some.ensures.value ∙ ap holds_some before_it) i) && c.holds_some-2.ensures.value i)
          refl),
      omega (arith, c.self.invariant.2, c.list_if.ensures.capacity, length-set pages page new),
      c.list_if.ensures.ascending,
    )
