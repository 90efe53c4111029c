use Rattle.seats.proofs.Lemmas.{cases_Bool, has, nothing, of_page, AreLinesCounted, AreListed, Ascend, ◌≡◌, ℕ, List, length, replicate, get_or, arith, ap, sym, ◌∙◌, subst, inl, inr, none-held, all-none, listed-none, listed-at, none-counted}
use Rattle.seats.proofs.seat_lines.SeatLines.release.Goals as goal

pub clear-requires : goal.clear-requires
clear-requires c =
    λ k d within.
    let below = listed-at c.self.inside.pages.items c.self.inside.held.items c.self.invariant.1 k d (omega (arith, within, c.deref.ensures.len, c.self.inside.held.ok)) in
    omega (arith, below, ap (λ (list : List ℕ). get_or list k d) c.deref.ensures.value, c.self.inside.pages.ok)

-- nothing is held of any page
none : (c : goal.After-self-1) → c.clear.new.pages.items ≡ replicate (length c.self.inside.pages.items) nothing
none c =
    all-none c.clear.new.pages.items (length c.self.inside.pages.items) (omega (arith, c.clear.ensures.long, c.clear.new.pages.ok, c.self.inside.pages.ok))
    (λ page. elim (cases_Bool (has c.deref.result.now page)) [
      | inl listed ↦ c.clear.ensures.listed page listed
      | inr other ↦
          c.clear.ensures.others page other
          ∙ none-held (of_page c.self.inside.pages.items page) (sym (c.self.invariant.1.each page) ∙ ap (λ (list : List ℕ). has list page) (sym c.deref.ensures.value) ∙ other)
    ])

pub invariant_of-self : goal.invariant_of-self
invariant_of-self c = (
  subst (λ (pages : List (List ℕ × List ℕ)). AreLinesCounted pages 0) (sym (none c)) (none-counted (length c.self.inside.pages.items) c.self.invariant.0.few),
  subst (λ (pages : List (List ℕ × List ℕ)). AreListed pages c.clear-2.new.self.items) (sym (none c))
      (subst (AreListed (replicate (length c.self.inside.pages.items) nothing)) (sym c.clear-2.ensures.items) (listed-none (length c.self.inside.pages.items))),
  omega (arith, c.clear.ensures.long, c.clear.new.pages.ok, c.self.inside.pages.ok, c.self.invariant.2, c.clear-2.ensures.capacity),
  subst Ascend (sym c.clear-2.ensures.items) (λ i j d less within. absurd (omega (arith, within))),
)

pub returns : goal.returns
returns c = none c ∙ (λ i. replicate (length (c.self.view_is i)) nothing)
