use Rattle.serial_audit.proofs.Lemmas.{◌+◌, ℕ, drop, inl, inr, refl, sym, ◌∙◌, ap, subst, arith, not_both, AreAllowed, bundle_from, head_text, sizes_of, head_before, head_length, no_head}
use Rattle.serial_audit.proofs.bundle.split_bundle.Goals as goal
use Rattle.serial_audit.proofs.bundle.split_bundle.Goals.{then-not-are_allowed-via-then-not-are_allowed, then-not-are_allowed-via-else-not-are_allowed+then-not-are_told}

pub returns-then-not-are_allowed : goal.returns-then-not-are_allowed
returns-then-not-are_allowed c = inl (
  refl,
  λ sizes rest has.
      let before = head_before c.args.bytes.now rest sizes c.in-Some.at (sym c.place_of.ensures.value ∙ c.in-Some.is) has in
      let is = c.lengths_in-lengths.ensures sizes has.0 before.0 in
      elim c.then-not-are_allowed.branch [
        | then-not-are_allowed-via-then-not-are_allowed w ↦
            not_both c.are_allowed.result w.if-not-are_allowed.true (c.are_allowed.ensures.1 (subst AreAllowed (sym is) has.0))
        | then-not-are_allowed-via-else-not-are_allowed+then-not-are_told w ↦
            not_both w.are_told.result w.if-not-are_told.true (w.are_told.ensures.told.1 (before.1 ∙ ap head_text (sym is)))
      ],
)

pub returns-in-Some-parts : goal.returns-in-Some-parts
returns-in-Some-parts c =
    let sizes = sizes_of c.lengths_in-lengths.result in
    let inside = c.in-Some.ensures.inside in
    let whole = head_length c.args.bytes.now (head_text sizes) (c.in-Some.at + 1) (omega arith) (c.if-not-are_told.ensures.told.0 refl) in
    let ends = c.in-Some-parts.ensures.0 in
    let left = whole.2 in
    record {
      sizes = sizes;
      rest = drop (c.in-Some.at + 1) c.args.bytes.now;
      head = (c.if-not-are_allowed.ensures.0 refl, whole.0);
      all = omega arith;
      parts = c.in-Some-parts.ensures.1 ∙ ap (λ (begin : ℕ). bundle_from begin sizes) (sym whole.1);
    }

pub returns-in-None-parts : goal.returns-in-None-parts
returns-in-None-parts c =
    let sizes = sizes_of c.lengths_in-lengths.result in
    let inside = c.in-Some.ensures.inside in
    let whole = head_length c.args.bytes.now (head_text sizes) (c.in-Some.at + 1) (omega arith) (c.if-not-are_told.ensures.told.0 refl) in
    inr (
      refl,
      (
        sizes,
        drop (c.in-Some.at + 1) c.args.bytes.now,
        (c.if-not-are_allowed.ensures.0 refl, whole.0),
        λ same. let left = whole.2 in c.in-None-parts.ensures (omega arith),
      ),
    )

pub returns-in-None : goal.returns-in-None
returns-in-None c = inl (refl, λ sizes rest has. no_head c.args.bytes.now rest sizes (sym c.place_of.ensures.value ∙ c.in-None.is) has)
