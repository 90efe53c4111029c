use Rattle.seats.proofs.Lemmas.{◌≡◌, ◌+◌, ◌-◌, ◌≤◌, ◌&&◌, ℕ, List, [], ◌∷◌, ◌++◌, Bool, Option, find, length, slice_index_or, bit_and, arith, ap, sym, ◌∙◌, append-nil, append_assoc, if◌then◌else◌, eq-eqb, ne_eqb, leads, next_shown, shown_after, is_on, waits_in, places, row_places, find-within, Leading, next-is, follows-none, follows-some, shown-none, shown-some}
use Rattle.seats.proofs.wait_cycles.shown_cycle.Goals as goal

pub returns-then-not-is_on : goal.returns-then-not-is_on
returns-then-not-is_on c =
    shown-none (waits_in c.args.waits.now) (length c.args.waits.now) c.requires.few c.args.from c.leading_to-leading.result c.requires.from c.leading_to-leading.ensures
    (sym c.is_on.ensures ∙ c.if-not-is_on.true)

-- the next member is the least place that the last waits for and that leads back
next_member : (waits : List ℕ) (few : length waits ≤ 16) (from last index leading : ℕ) (next : Option ℕ) → index ≡ last → Leading (waits_in waits) (length waits) few from leading (length waits)
    → next ≡ find (is_on (bit_and (slice_index_or waits index 0) leading)) places → next_shown (waits_in waits) (row_places waits) from last ≡ next
next_member waits few from last index leading next same leads_by is =
    sym (next-is (waits_in waits) (length waits) few from (slice_index_or waits index 0) leading last (λ p. ap (λ (place : ℕ). waits_in waits place p) same) leads_by) ∙ sym is

pub returns-in-None : goal.returns-in-None
returns-in-None c =
    let waits = c.args.waits.now in
    let now = c.loop-step.invariant in
    let none = next_member waits c.requires.few c.args.from c.loop-step.last c.from.result c.leading_to-leading.result c.least_on.result c.from.ensures c.leading_to-leading.ensures c.least_on.ensures ∙ c.in-None.is in
    shown-some (waits_in waits) (length waits) c.requires.few c.args.from c.leading_to-leading.result c.loop-step.cycle.items c.requires.from c.leading_to-leading.ensures (sym c.is_on.ensures ∙ c.if-not-is_on.false)
    (sym (append-nil c.loop-step.cycle.items)
    ∙ ap (λ (behind : List ℕ). c.loop-step.cycle.items ++ behind) (sym (follows-none (waits_in waits) (length waits) c.requires.few c.args.from c.loop-step._step c.loop-step.last c.loop-step-test.true none)) ∙ now.whole)

pub returns-then-next-from : goal.returns-then-next-from
returns-then-next-from c =
    let waits = c.args.waits.now in
    let now = c.loop-step.invariant in
    let some = next_member waits c.requires.few c.args.from c.loop-step.last c.from.result c.leading_to-leading.result c.least_on.result c.from.ensures c.leading_to-leading.ensures c.least_on.ensures ∙ c.in-Some.is in
    let last : List ℕ = shown_after (waits_in waits) (row_places waits) (length waits - (c.loop-step._step + 1)) c.args.from c.in-Some.next in
    let none : List ℕ = [] in
    let behind = follows-some (waits_in waits) (length waits) c.requires.few c.args.from c.loop-step._step c.loop-step.last c.in-Some.next c.loop-step-test.true some ∙ ap (λ (back : Bool). c.in-Some.next ∷ (if back then none else last)) (eq-eqb c.in-Some.next c.args.from c.if-next-from.true) in
    shown-some (waits_in waits) (length waits) c.requires.few c.args.from c.leading_to-leading.result c.push-in-Some.new.self.items c.requires.from c.leading_to-leading.ensures (sym c.is_on.ensures ∙ c.if-not-is_on.false)
    (c.push-in-Some.ensures.items ∙ ap (λ (these : List ℕ). c.loop-step.cycle.items ++ these) (sym behind) ∙ now.whole)

pub loop-step-preserved : goal.loop-step-preserved
loop-step-preserved c =
    let waits = c.args.waits.now in
    let now = c.loop-step.invariant in
    let some = next_member waits c.requires.few c.args.from c.loop-step.last c.from.result c.leading_to-leading.result c.least_on.result c.from.ensures c.leading_to-leading.ensures c.least_on.ensures ∙ c.in-Some.is in
    let last : List ℕ = shown_after (waits_in waits) (row_places waits) (length waits - (c.loop-step._step + 1)) c.args.from c.in-Some.next in
    let none : List ℕ = [] in
    let behind = follows-some (waits_in waits) (length waits) c.requires.few c.args.from c.loop-step._step c.loop-step.last c.in-Some.next c.loop-step-test.true some ∙ ap (λ (back : Bool). c.in-Some.next ∷ (if back then none else last)) (ne_eqb c.in-Some.next c.args.from c.if-next-from.false) in
    let within = find-within (λ next. waits_in waits c.loop-step.last next && leads (waits_in waits) (row_places waits) (length (row_places waits)) next c.args.from) 0 (length waits) c.in-Some.next some in
    record {
      long = omega (arith, c.push-in-Some.ensures.len, now.long);
      last = omega (arith, within);
      whole = ap (λ (these : List ℕ). these ++ last) c.push-in-Some.ensures.items ∙ append_assoc c.loop-step.cycle.items (c.in-Some.next ∷ none) last ∙ ap (λ (these : List ℕ). c.loop-step.cycle.items ++ these) (sym behind) ∙ now.whole;
    }

pub returns : goal.returns
returns c =
    let waits = c.args.waits.now in
    let now = c.loop-step.invariant in
    let all : c.loop-step._step ≡ length waits = omega (arith, c.loop-step-test.false, c.loop-step.auto._step-end) in
    let over : length waits - c.loop-step._step ≡ 0 = omega (arith, all) in
    shown-some (waits_in waits) (length waits) c.requires.few c.args.from c.leading_to-leading.result c.loop-step.cycle.items c.requires.from c.leading_to-leading.ensures (sym c.is_on.ensures ∙ c.if-not-is_on.false)
    (sym (append-nil c.loop-step.cycle.items)
    ∙ ap (λ (steps : ℕ). c.loop-step.cycle.items ++ shown_after (waits_in waits) (row_places waits) steps c.args.from c.loop-step.last) (sym over) ∙ now.whole)
