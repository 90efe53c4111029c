use Rattle.store.proofs.Lemmas.{arith, ◌∙◌, ◌+◌, ℕ, List, length, ap, sym, subst, Bool, ◌<◌, false, get_or, replicate, Option, None, all_none, Cleared, cleared_marked, cleared_unmarked, read_false}
use Rattle.store.specs.declared.places.Places.TheInside.{Inside}
use Rattle.store.proofs.places.Places.forget.Goals.{then-as_slice-page, else-as_slice-page}
use Rattle.store.proofs.places.Places.forget.Goals as goal

pub loop-page-preserved : goal.loop-page-preserved
loop-page-preserved c =
    let long = length c.self.inside.items in
    let page = c.loop-page.page in
    let was = c.loop-page.self-inside in
    let within : page < length was.marked = omega (arith, c.loop-page-test.true, c.len-page-end.ensures, c.loop-page.invariant.pages, c.self.invariant.pages) in
    elim c.if-as_slice-page.branch [
      | then-as_slice-page w ↦
          subst (λ (inside : Inside). Cleared (page + 1) long inside) (sym w.self-inside-is)
          (subst (λ (marked : List Bool). Cleared (page + 1) long (record { items = w.clear_page.new.items; marked = marked })) (sym w.write.ensures.value)
          (cleared_marked page long was w.clear_page.new.items c.loop-page.invariant within w.clear_page.ensures.len w.clear_page.ensures.cleared))
      | else-as_slice-page w ↦
          let none = ap (λ (marked : List Bool). get_or marked page false) (sym c.as_slice.ensures) ∙ w.if-as_slice-page.false in
          subst (λ (inside : Inside). Cleared (page + 1) long inside) (sym w.self-inside-is) (cleared_unmarked page long was c.loop-page.invariant (read_false was.marked page within none))
    ]

pub returns : goal.returns
returns c =
    let done = c.loop-page.invariant in
    all_none c.loop-page.self-inside.items (λ line below. done.cleared line (omega (arith, below, c.loop-page-test.false, c.len-page-end.ensures, c.self.invariant.pages, done.items)))
    ∙ ap (λ (n : ℕ). replicate {A = Option ℕ} n None) (done.items ∙ ap length c.self.view_is)
