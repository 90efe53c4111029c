use Rattle.activations.proofs.Common.{activity_of, Inside, Begun, reach_of, absent_segment, Activity, program_at, Program, first_live, registers_of_program, IsActivitySound, ◌≡◌, ◌<◌, ℕ, List, ◌+◌, length, refl, sym, ap, ◌∙◌, arith, subst, slice_set, BeginsSo, begin_answer, begun_in, started, seat_begun}
use Rattle.desk.specs.declared.answers.Begun.TheVariants
use Rattle.activations.proofs.BeginLemmas.{begun-so, begins-full, begins-refused, begins-started, sound-begins, sound-given, is-code, is-fresh, has-room, some-next}
use Rattle.activations.proofs.activations.Activations.begin.Goals.{In-Some-sit, After-start}
use Rattle.activations.proofs.activations.Activations.begin.Goals as goal

-- what it says, where it comes to this over the fields
said : (fields : Inside) {now : Activity} (is : activity_of fields ≡ now) → IsActivitySound (activity_of fields) → (program : ℕ) (args : List ℕ) (told : Begun) (new : Activity) → program < length now.programs
    → begin_answer (activity_of fields) program args ≡ (told, new) → BeginsSo now program args told new
said fields is whole program args told new known comes =
    subst (λ (a : Activity). BeginsSo a program args told new) is
    (begun-so (activity_of fields) program args told new whole (subst (λ (a : Activity). program < length a.programs) (sym is) known) fields.unit.fits comes)

-- all sixteen are taken
pub returns-then-taken-eq16 : goal.returns-then-taken-eq16
returns-then-taken-eq16 c =
    said c.self.inside c.self.view_is c.self.invariant c.args.program c.args.args _ _ c.requires.known
    (begins-full (activity_of c.self.inside) c.args.program c.args.args c.self.invariant (let long = ap length c.taken.ensures.taken in omega (arith, long, c.if-taken-eq16.true)))

-- a segment is absent
pub returns-in-Some : goal.returns-in-Some
returns-in-Some c =
    let a = activity_of c.self.inside in
    said c.self.inside c.self.view_is c.self.invariant c.args.program c.args.args _ _ c.requires.known
    (begins-refused a c.args.program c.args.args c.self.invariant c.in-Some.segment (has-room a c.self.invariant (λ same. c.if-taken-eq16.false (ap length c.taken.ensures.taken ∙ same)))
    ((λ i. absent_segment (sym c.directory-directory.ensures i) (sym (is-code a.programs c.args.program c.from.result c.index-code.result.now (subst (λ (x : Activity). c.args.program < length x.programs) (sym c.self.view_is) c.requires.known) c.from.ensures c.index-code.ensures) i).windows)
    ∙ sym c.absent_segment.ensures ∙ c.in-Some.is))

-- it sat down, since not all are taken
pub returns-in_default-sit : goal.returns-in_default-sit
returns-in_default-sit c =
    absurd (let room = has-room (activity_of c.self.inside) c.self.invariant (λ same. c.if-taken-eq16.false (ap length c.taken.ensures.taken ∙ same)) in
    let full = c.in_default-sit.ensures.full.0 refl in omega (arith, room, full))

pub begin-requires-clause-seat : goal.begin-requires-clause-seat
begin-requires-clause-seat c = (some-next (activity_of c.self.inside) c.in-Some-sit.seat c.self.invariant (sym c.in-Some-sit.ensures.seat)).0

pub begin-requires-clause-fresh : goal.begin-requires-clause-fresh
begin-requires-clause-fresh c = is-fresh (activity_of c.self.inside) c.in-Some-sit.seat c.self.invariant (sym c.in-Some-sit.ensures.seat)

pub index_mut-requires : goal.index_mut-requires
index_mut-requires c =
    let below = (some-next (activity_of c.self.inside) c.in-Some-sit.seat c.self.invariant (sym c.in-Some-sit.ensures.seat)).0 in
    omega (arith, below, c.from-3.ensures, c.self.invariant.live, c.self.inside.live.ok.0)

-- it begins
goes : (c : In-Some-sit) → begin_answer (activity_of c.self.inside) c.args.program c.args.args ≡ (TheVariants.Started c.self.inside.next, begun_in (activity_of c.self.inside) c.args.program c.args.args c.in-Some-sit.seat)
goes c =
    begins-started (activity_of c.self.inside) c.args.program c.args.args c.self.invariant c.in-Some-sit.seat (sym c.in-Some-sit.ensures.seat)
    ((λ i. absent_segment (sym c.directory-directory.ensures i) (sym (is-code c.self.inside.programs.items c.args.program c.from.result c.index-code.result.now (subst (λ (x : Activity). c.args.program < length x.programs) (sym c.self.view_is) c.requires.known) c.from.ensures c.index-code.ensures) i).windows)
    ∙ sym c.absent_segment.ensures ∙ c.in_default.is)

pub invariant_of-self : goal.invariant_of-self
invariant_of-self c = sound-given (activity_of c.self.inside) c.self.invariant

pub invariant_of-self-in-Some : goal.invariant_of-self-in-Some
invariant_of-self-in-Some c = sound-given (activity_of c.self.inside) c.self.invariant

pub invariant_of-self-in_default-sit : goal.invariant_of-self-in_default-sit
invariant_of-self-in_default-sit c =
    absurd (let room = has-room (activity_of c.self.inside) c.self.invariant (λ same. c.if-taken-eq16.false (ap length c.taken.ensures.taken ∙ same)) in
    let full = c.in_default-sit.ensures.full.0 refl in omega (arith, room, full))

-- what is left then
left : (c : After-start) → record (activity_of c.self.inside) { next = c.self.inside.next + 1; seating = c.sit.new.self; live = slice_set c.self.inside.live.items c.from-3.result c.start.new.self; reach = reach_of c.begin.new.self }
    ≡ begun_in (activity_of c.self.inside) c.args.program c.args.args c.in-Some-sit.seat
left c =
    let a = activity_of c.self.inside in
    let code_is : c.index-code.result.now ≡ program_at a.programs c.args.program =
    is-code a.programs c.args.program c.from.result c.index-code.result.now (subst (λ (x : Activity). c.args.program < length x.programs) (sym c.self.view_is) c.requires.known) c.from.ensures c.index-code.ensures in
    let registers_are : c.registers_of-registers.result ≡ (started a c.args.program c.args.args c.in-Some-sit.seat).registers =
    c.registers_of-registers.ensures ∙ (λ i. registers_of_program (code_is i) (c.directory-directory.ensures i) (3840 + c.from-2.ensures i)) in
    let start_is : c.start.new.self ≡ started a c.args.program c.args.args c.in-Some-sit.seat = c.start.ensures
    ∙ (λ i. first_live (code_is i).entry c.args.args (registers_are i)) in
    let reach_is : reach_of c.begin.new.self ≡ seat_begun a.reach c.in-Some-sit.seat (program_at a.programs c.args.program).image =
    c.begin.ensures ∙ ap (seat_begun a.reach c.in-Some-sit.seat) (c.as_slice.ensures ∙ ap (λ (p : Program). p.image) code_is) in
    λ i. record a { next = a.next + 1; seating = c.in-Some-sit.ensures.seated i; live = slice_set a.live (c.from-3.ensures i) (start_is i); reach = reach_is i }

pub invariant_of-self-2 : goal.invariant_of-self-2
invariant_of-self-2 c =
    let is = left (goal.at.invariant_of-self-2 c).After-start ∙ sym (ap (λ (b : Begun × Activity). b.1) (goes (goal.at.invariant_of-self-2 c).In-Some-sit)) in
    subst IsActivitySound (sym is) (sound-begins (activity_of c.self.inside) c.args.program c.args.args c.self.invariant (subst (λ (x : Activity). c.args.program < length x.programs) (sym c.self.view_is) c.requires.known))

pub returns : goal.returns
returns c =
    said c.self.inside c.self.view_is c.self.invariant c.args.program c.args.args _ _ c.requires.known
    (goes (goal.at.returns c).In-Some-sit ∙ (λ i. (TheVariants.Started c.self.inside.next, sym (left (goal.at.returns c).After-start) i)))
