use Rattle.activations.proofs.Lemmas.{standing, RunsAt, ◌≡◌, ◌∙◌, sym, ap, subst, refl, ℕ, List, Bool, WasAttempted, printed_after, with_live, Activity, Live, Reach, IsActivitySound, GivesRows, reach_of, not-printed, room, attempted-at, Cpu, IsOfFewBytes, at, how_went, ChangesBytes, StaysClean, LeavesSeats}
use Rattle.romp_cpu.specs.declared.cpu.Attempt.{Attempt}
use Rattle.activations.proofs.attempts.step_on.Goals as goal

-- what a step came to, by how it went
stepped :
    (first attempt : Attempt) (live : Live) (cpu : Cpu) (reach new : Reach) (out : List ℕ) → first ≡ attempt → printed_after attempt live.out ≡ out
    → GivesRows first live.cpu cpu reach new → ChangesBytes reach new → StaysClean reach new → LeavesSeats reach new → IsOfFewBytes first
    → (a : Activity) (seat : ℕ) → RunsAt a seat reach live
    → IsActivitySound (with_live a seat (record live { cpu = cpu; out = out }) new) × WasAttempted attempt a seat (with_live a seat (record live { cpu = cpu; out = out }) new)
stepped first attempt live cpu reach new out is printed gives changes clean leaves few a seat runs =
    attempted-at a seat reach live runs attempt cpu new out printed (subst (λ (one : Attempt). GivesRows one live.cpu cpu reach new) is gives) changes clean leaves (subst IsOfFewBytes is few)

pub returns-then-step : goal.returns-then-step
returns-then-step c =
    let went = c.step.ensures in
    let came = stepped (how_went c.step.result c.step.new.went) Attempt.Went (standing c.args.live.now c.args.iar.now) (at c.step.new.cpu c.step.new.iar) (reach_of c.args.unit.now) (reach_of c.step.new.self) c.args.live.now.out
    (ap (λ (at_once : Bool). how_went at_once c.step.new.went) c.if-step.true) refl went.row went.kept went.clean went.seats went.few in
    record { sound = λ a seat runs. (came a seat runs).0; went = λ a seat runs. (came a seat runs).1 }

pub push-requires : goal.push-requires
push-requires c =
    let (a, seat, runs) = c.requires.runs in
    let gives = λ (attempt : Attempt). GivesRows attempt (at c.args.live.now.cpu c.args.iar.now) (at c.step.new.cpu c.step.new.iar) (reach_of c.args.unit.now) (reach_of c.step.new.self) in
    room a seat (reach_of c.args.unit.now) (standing c.args.live.now c.args.iar.now) runs c.in-Print.byte (at c.step.new.cpu c.step.new.iar) (reach_of c.step.new.self)
    (subst gives (ap (λ (at_once : Bool). how_went at_once c.step.new.went) c.if-step.false ∙ c.in-Print.is) c.step.ensures.row)

pub returns-in-Print : goal.returns-in-Print
returns-in-Print c =
    let went = c.step.ensures in
    let came = stepped (how_went c.step.result c.step.new.went) c.step.new.went (standing c.args.live.now c.args.iar.now) (at c.step.new.cpu c.step.new.iar) (reach_of c.args.unit.now) (reach_of c.step.new.self) c.push.new.self
    (ap (λ (at_once : Bool). how_went at_once c.step.new.went) c.if-step.false) (ap (λ (attempt : Attempt). printed_after attempt c.args.live.now.out) c.in-Print.is ∙ sym c.push.ensures) went.row went.kept went.clean went.seats went.few in
    record { sound = λ a seat runs. (came a seat runs).0; went = λ a seat runs. (came a seat runs).1 }

pub returns-in_default : goal.returns-in_default
returns-in_default c =
    let went = c.step.ensures in
    let came = stepped (how_went c.step.result c.step.new.went) c.step.new.went (standing c.args.live.now c.args.iar.now) (at c.step.new.cpu c.step.new.iar) (reach_of c.args.unit.now) (reach_of c.step.new.self) c.args.live.now.out
    (ap (λ (at_once : Bool). how_went at_once c.step.new.went) c.if-step.false) (not-printed c.step.new.went c.args.live.now.out c.in_default.not-Print) went.row went.kept went.clean went.seats went.few in
    record { sound = λ a seat runs. (came a seat runs).0; went = λ a seat runs. (came a seat runs).1 }
