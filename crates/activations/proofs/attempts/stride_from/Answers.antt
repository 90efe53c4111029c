use Rattle.activations.proofs.Lemmas.{standing, RunsAt, Activity, WasAttempted, with_live, reach_of, ◌∙◌, Bool, ℕ, ap, subst, inl, how_went}
use Rattle.activations.proofs.StrideLemmas.{runs-none, runs-one, runs-to-fault, runs-to-end}
use Rattle.romp_cpu.specs.declared.cpu.Attempt.{Attempt}
use Rattle.activations.proofs.attempts.stride_from.Goals as goal

pub loop-ran-init : goal.loop-ran-init
loop-ran-init c = runs-none c.args.limit (reach_of c.args.unit.now) (standing c.args.live.now c.args.iar.now) c.requires.runs

pub loop-ran-preserved-then-step_on : goal.loop-ran-preserved-then-step_on
loop-ran-preserved-then-step_on c =
    let told = ap (λ (at_once : Bool). how_went at_once c.step_on.new.went) c.if-step_on.true in
    runs-one c.loop-ran.invariant (how_went c.step_on.result c.step_on.new.went) (inl told) c.loop-ran-test.true c.step_on.ensures.sound c.step_on.ensures.went

pub loop-ran-preserved : goal.loop-ran-preserved
loop-ran-preserved c =
    runs-one c.loop-ran.invariant c.step_on.new.went c.in-Went.is c.loop-ran-test.true c.step_on.ensures.sound
    (subst (λ (at_once : Bool). (a : Activity) (seat : ℕ) → RunsAt a seat (reach_of c.loop-ran.unit) (standing c.loop-ran.live c.loop-ran.iar) → WasAttempted (how_went at_once c.step_on.new.went) a seat (with_live a seat (standing c.step_on.new.live c.step_on.new.iar) (reach_of c.step_on.new.unit))) c.if-step_on.false c.step_on.ensures.went)

pub returns-in-Fault : goal.returns-in-Fault
returns-in-Fault c =
    let told = ap (λ (at_once : Bool). how_went at_once c.step_on.new.went) c.if-step_on.false ∙ c.in-Fault.is in
    runs-to-fault c.loop-ran.invariant c.in-Fault.field-0 c.in-Fault.access
    (subst (λ (attempt : Attempt). (a : Activity) (seat : ℕ) → RunsAt a seat (reach_of c.loop-ran.unit) (standing c.loop-ran.live c.loop-ran.iar) → WasAttempted attempt a seat (with_live a seat (standing c.step_on.new.live c.step_on.new.iar) (reach_of c.step_on.new.unit))) told c.step_on.ensures.went)

pub returns-in-Commit : goal.returns-in-Commit
returns-in-Commit c =
    runs-to-end c.loop-ran.invariant c.step_on.new.went c.in-Commit.is
    (subst (λ (at_once : Bool). (a : Activity) (seat : ℕ) → RunsAt a seat (reach_of c.loop-ran.unit) (standing c.loop-ran.live c.loop-ran.iar) → WasAttempted (how_went at_once c.step_on.new.went) a seat (with_live a seat (standing c.step_on.new.live c.step_on.new.iar) (reach_of c.step_on.new.unit))) c.if-step_on.false c.step_on.ensures.went)
