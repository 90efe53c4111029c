-- The code of a program check is one of eight.
use Rattle.activations.proofs.Common.{◌≡◌, ℕ, ◌+◌, Bool, true, false, if◌then◌else◌, List, Option, Result, Ok, Err, arith, subst, Layout, Plain, Program, Outcome, Check, in_register, row, Located, Refused, acts, moved, plan_at, row_by, halfword, fetched, fetched_from, plan_of_pair, plan_of_branch, plan_alone, plan_by, IsCheckCode, cond_both}
use Rattle.romp_table.specs.declared.inst.Op.{Op}
use Rattle.romp_table.specs.declared.inst.Inst.{Inst}
use Rattle.flat_machine.specs.declared.machine.Act.{Act}
use Rattle.flat_machine.specs.declared.machine.Branch.{Branch}
use Rattle.flat_machine.specs.declared.machine.Cs.{Cs}
use Rattle.flat_machine.specs.Branches.{is_branch, branch_of, may_be_subject}
use Rattle.flat_machine.specs.Effect.{effect_of}
use Rattle.flat_machine.specs.Plans.{Plan, Does, Fails, Work, Want}
use Rattle.flat_machine.specs.Work.{work_of, work_of_s, work_of_x, work_of_r, work_of_d, access_of_d, logic_of_d, work_with_count, traps, called}

-- what is wanted, worked, planned, located, fetched and come to is no check, or one with such a code
abbrev ActNamed : Act → Type 0
ActNamed (Act.Check code) = IsCheckCode code
ActNamed _ = Unit {0}

abbrev WorkNamed : Work → Type 0
WorkNamed (Want act) = ActNamed act
WorkNamed _ = Unit {0}

abbrev PlanNamed : Plan → Type 0
PlanNamed (Does registers status act next link) = ActNamed act
PlanNamed (Fails code) = IsCheckCode code

abbrev PlaceNamed : Located → Type 0
PlaceNamed (Refused code) = IsCheckCode code
PlaceNamed _ = Unit {0}

abbrev FetchNamed : Result (Inst × ℕ) ℕ → Type 0
FetchNamed (Err code) = IsCheckCode code
FetchNamed (Ok fetch) = Unit {0}

abbrev OutcomeNamed : Outcome → Type 0
OutcomeNamed (Check code) = IsCheckCode code
OutcomeNamed _ = Unit {0}

traps-named : (taken : Bool) → WorkNamed (traps taken)
traps-named taken = grind arith

called-named : (registers : List ℕ) (number : ℕ) → ActNamed (called registers number)
called-named registers number = grind arith

count-named : (op : Op) (b k x : ℕ) → WorkNamed (work_with_count op b k x)
count-named op b k x = grind arith

r-named : (op : Op) (b c x y : ℕ) (cs : Cs) → WorkNamed (work_of_r op b c x y cs)
r-named op b c x y cs = grind (arith, traps-named, count-named)

access-named : (op : Op) (b address : ℕ) → WorkNamed (access_of_d op b address)
access-named op b address = grind arith

logic-named : (op : Op) (b y z i : ℕ) → WorkNamed (logic_of_d op b y z i)
logic-named op b y z i = grind (arith, access-named)

d-named : (op : Op) (r : List ℕ) (cs : Cs) (b y z i : ℕ) → WorkNamed (work_of_d op r cs b y z i)
d-named op r cs b y z i = grind (arith, called-named, traps-named, logic-named)

s-named : (op : Op) (k b z : ℕ) → WorkNamed (work_of_s op k b z)
s-named op k b z = grind arith

x-named : (op : Op) (a x z : ℕ) → WorkNamed (work_of_x op a x z)
x-named op a x z = grind arith

work-named : (inst : Inst) (r : List ℕ) (cs : Cs) → WorkNamed (work_of inst r cs)
work-named inst r cs = grind (arith, s-named, x-named, r-named, d-named)

-- what a row's work leaves to be done
effect-named : (inst : Inst) (r : List ℕ) (cs : Cs) → ActNamed (effect_of inst r cs).act
effect-named inst r cs = let named = work-named inst r cs in grind (arith, named)

-- a fetch, and a plan
from-named : (halfword_at : ℕ → Option ℕ) (address : ℕ) (first : Option ℕ) → FetchNamed (fetched_from halfword_at address first)
from-named halfword_at address first = grind arith

pair-named : (branch : Branch) (subject : Result (Inst × ℕ) ℕ) (r : List ℕ) (cs : Cs) (address : ℕ) → FetchNamed subject → PlanNamed (plan_of_pair branch subject r cs address)
pair-named branch (Err code) r cs address named = named
pair-named branch (Ok subject) r cs address named =
    cond_both (may_be_subject subject.0) _ _ PlanNamed (λ _. effect-named subject.0 r cs) (λ _. (omega arith, omega arith))

branch-named : (branch : Branch) (subject : Result (Inst × ℕ) ℕ) (r : List ℕ) (cs : Cs) (after : ℕ) → FetchNamed subject → PlanNamed (plan_of_branch branch subject r cs after)
branch-named branch subject r cs after named = let pair = pair-named branch subject r cs after named in grind (arith, pair)

plan-named : (halfword_at : ℕ → Option ℕ) (fetch : Result (Inst × ℕ) ℕ) (r : List ℕ) (cs : Cs) (address : ℕ) → FetchNamed fetch → PlanNamed (plan_by halfword_at fetch r cs address)
plan-named halfword_at (Err code) r cs address named = named
plan-named halfword_at (Ok fetch) r cs address named = either (is_branch fetch.0)
  where
    either : (branches : Bool) → PlanNamed (if branches then plan_of_branch (branch_of fetch.0 r cs address) (fetched halfword_at (address + fetch.1)) r cs (address + fetch.1) else plan_alone (effect_of fetch.0 r cs) (address + fetch.1))
    either true = branch-named (branch_of fetch.0 r cs address) (fetched halfword_at (address + fetch.1)) r cs (address + fetch.1) (from-named halfword_at (address + fetch.1) (halfword_at (address + fetch.1)))
    either false = effect-named fetch.0 r cs

-- where an access lies
place-named : (program : Program) (directory : Layout) (register offset bytes : ℕ) (store : Bool) → PlaceNamed (in_register program directory register offset bytes store)
place-named program directory register offset bytes store = grind arith

-- a row
acts-named : (p : Program) (d : Layout) (s : Plain) (act : Act) → ActNamed act → OutcomeNamed (acts p d s act)
acts-named p d s act named = grind (arith, place-named, named)

row_by-named : (p : Program) (d : Layout) (s : Plain) (plan : Plan) → PlanNamed plan → OutcomeNamed (row_by p d s plan)
row_by-named p d s (Fails code) named = named
row_by-named p d s (Does registers status act next link) named = let outcome = acts-named p d (moved s registers status next) act named in grind (arith, outcome)

pub checks-named : (p : Program) (d : Layout) (s : Plain) (code : ℕ) → row p d s ≡ Check code → IsCheckCode code
checks-named p d s code is = subst OutcomeNamed is
    (row_by-named p d s (plan_at s)
    (plan-named (halfword s.private) _ s.regs s.cs s.iar (from-named (halfword s.private) s.iar (halfword s.private s.iar))))
