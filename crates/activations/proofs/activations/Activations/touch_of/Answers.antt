use Rattle.activations.proofs.Lemmas.{IsActivitySound, Activity, AreSegmentsLegal, nat_tests, Layout, start_of, byte_count, line_of, is_private, lines_between, ◌≡◌, ◌+◌, ◌-◌, ◌%◌, ◌^◌, ◌≤◌, true, false, sym, ◌∙◌, ap, subst, arith, touches-refused, touches-private, touches-shared, touches-within, near-lines, ◌<◌, line_count}
use Rattle.activations.proofs.activations.Activations.touch_of.Goals.{After-line_of-else-first-ge-PRIVATE}
use Rattle.activations.proofs.activations.Activations.touch_of.Goals as goal

pub returns-in_default-clause-lines : goal.returns-in_default-clause-lines
returns-in_default-clause-lines c =
    touches-refused c.args.self.now c.args.seat (subst IsActivitySound c.self.view_is c.self.invariant) c.requires.taken (subst (λ (x : Activity). AreSegmentsLegal x.reach.directory.segments) c.self.view_is c.self.inside.unit.legal) c.args.access c.in_default.field-0
    (sym c.locate.ensures ∙ c.in_default.is)

pub returns-then-first-ge-PRIVATE-clause-lines : goal.returns-then-first-ge-PRIVATE-clause-lines
returns-then-first-ge-PRIVATE-clause-lines c =
    let own : is_private c.in-Ok.first.segment ≡ true = grind (arith, nat_tests, c.if-first-ge-PRIVATE.true) in
    touches-private c.args.self.now c.args.seat (subst IsActivitySound c.self.view_is c.self.invariant) c.requires.taken (subst (λ (x : Activity). AreSegmentsLegal x.reach.directory.segments) c.self.view_is c.self.inside.unit.legal) c.args.access c.in-Ok.first
    (sym c.locate.ensures ∙ c.in-Ok.is) own

-- the lines of its first and of its last byte, which is in the store
lies-in : (c : After-line_of-else-first-ge-PRIVATE) → let d = c.args.self.now.reach.directory in let place = start_of d c.in-Ok.first.segment + c.args.access.address % 2 ^ 28 in
    (c.line_of.result ≡ line_of d place) × (c.line_of-else-first-ge-PRIVATE.result ≡ line_of d (place + c.args.access.bytes - 1)) × (line_of d (place + c.args.access.bytes - 1) < 2 ^ 20) × (line_of d (place + c.args.access.bytes - 1) < line_count d)
lies-in c =
    let d = c.args.self.now.reach.directory in let place = start_of d c.in-Ok.first.segment + c.args.access.address % 2 ^ 28 in
    let low : is_private c.in-Ok.first.segment ≡ false = grind (arith, nat_tests, c.if-first-ge-PRIVATE.false) in
    let same : c.directory-directory.result.now ≡ d = c.directory-directory.ensures ∙ ap (λ (x : Activity). x.reach.directory) c.self.view_is in
    let start : c.start_of.result ≡ start_of d c.in-Ok.first.segment = c.start_of.ensures.value ∙ ap (λ (l : Layout). start_of l c.in-Ok.first.segment) same in
    let lies = near-lines d place c.args.access.bytes c.requires.some c.requires.few
    (touches-within c.args.self.now c.args.seat (subst IsActivitySound c.self.view_is c.self.invariant) c.requires.taken (subst (λ (x : Activity). AreSegmentsLegal x.reach.directory.segments) c.self.view_is c.self.inside.unit.legal) c.args.access c.in-Ok.first
    (sym c.locate.ensures ∙ c.in-Ok.is) low) (subst (λ (l : Layout). byte_count l ≤ 2 ^ 22) same c.start_of.ensures.small) in (
      c.line_of.ensures ∙ (λ i. line_of (same i) (start i + c.args.access.address % 2 ^ 28)),
      c.line_of-else-first-ge-PRIVATE.ensures ∙ (λ i. line_of (same i) (start i + c.args.access.address % 2 ^ 28 + c.from.ensures i - 1)),
      lies.2,
      lies.3,
    )

pub between-requires-clause-few : goal.between-requires-clause-few
between-requires-clause-few c = let lies = lies-in (goal.at.between-requires-clause-few c).After-line_of-else-first-ge-PRIVATE in omega (arith, lies.1, lies.2)

pub returns-else-first-ge-PRIVATE-clause-lines : goal.returns-else-first-ge-PRIVATE-clause-lines
returns-else-first-ge-PRIVATE-clause-lines c =
    let low : is_private c.in-Ok.first.segment ≡ false = grind (arith, nat_tests, c.if-first-ge-PRIVATE.false) in
    let lies = lies-in (goal.at.returns-else-first-ge-PRIVATE-clause-lines c).After-line_of-else-first-ge-PRIVATE in
    c.between.ensures.lines ∙ (λ i. lines_between (lies.0 i) (lies.1 i) c.args.access.store)
    ∙ touches-shared c.args.self.now c.args.seat (subst IsActivitySound c.self.view_is c.self.invariant) c.requires.taken (subst (λ (x : Activity). AreSegmentsLegal x.reach.directory.segments) c.self.view_is c.self.inside.unit.legal) c.args.access c.in-Ok.first
    (sym c.locate.ensures ∙ c.in-Ok.is) low c.requires.some

pub returns-else-first-ge-PRIVATE-clause-wanted : goal.returns-else-first-ge-PRIVATE-clause-wanted
returns-else-first-ge-PRIVATE-clause-wanted c =
    let lies = lies-in (goal.at.returns-else-first-ge-PRIVATE-clause-wanted c).After-line_of-else-first-ge-PRIVATE in
    c.between.ensures.wanted c.args.self.now.reach.directory (omega (arith, lies.1, lies.3))

pub returns-else-first-ge-PRIVATE-clause-sound : goal.returns-else-first-ge-PRIVATE-clause-sound
returns-else-first-ge-PRIVATE-clause-sound c = subst IsActivitySound c.self.view_is c.self.invariant

pub returns-then-first-ge-PRIVATE-clause-sound : goal.returns-then-first-ge-PRIVATE-clause-sound
returns-then-first-ge-PRIVATE-clause-sound c = subst IsActivitySound c.self.view_is c.self.invariant

pub returns-in_default-clause-sound : goal.returns-in_default-clause-sound
returns-in_default-clause-sound c = subst IsActivitySound c.self.view_is c.self.invariant
