-- Plans are told apart by a code, so that they are equal in one way at most.
use Rattle.std.specs.Prelude.{◌≡◌, ◌⊎◌, ℕ, Bool, List, Option, refl}
use Rattle.std.proofs.Common.{inl, inr}
use Rattle.std.specs.Coded.{Coded, Coded-set, code_by, coded_ℕ, coded_bool, coded_list, coded_option, coded×, coded⊎}
use base.Stored.{coded_unit}
use Rattle.flat_machine.specs.declared.machine.Act.{Act}
use Rattle.flat_machine.specs.declared.machine.Cs.{Cs}
use Rattle.flat_machine.specs.Plans.{Plan, Does, Fails}

-- what a row asks for, by its case
abbrev Asked : Type 0
Asked = (ℕ × (ℕ × (ℕ × Bool))) ⊎ ((ℕ × (ℕ × ℕ)) ⊎ ((ℕ ⊎ ℕ) ⊎ (Unit {0} ⊎ Unit {0})))

abbrev asked : Act → Asked
asked (Act.Load address bytes to sign) = inl (address, (bytes, (to, sign)))
asked (Act.Store address bytes from) = inr (inl (address, (bytes, from)))
asked (Act.Print byte) = inr (inr (inl (inl byte)))
asked (Act.Check code) = inr (inr (inl (inr code)))
asked Act.Nothing = inr (inr (inr (inl tt)))
asked Act.Commit = inr (inr (inr (inr tt)))

abbrev act : Asked → Act
act (inl (address, (bytes, (to, sign)))) = Act.Load address bytes to sign
act (inr (inl (address, (bytes, from)))) = Act.Store address bytes from
act (inr (inr (inl (inl byte)))) = Act.Print byte
act (inr (inr (inl (inr code)))) = Act.Check code
act (inr (inr (inr (inl none)))) = Act.Nothing
act (inr (inr (inr (inr none)))) = Act.Commit

act-asked : (a : Act) → act (asked a) ≡ a
act-asked (Act.Load address bytes to sign) = refl
act-asked (Act.Store address bytes from) = refl
act-asked (Act.Print byte) = refl
act-asked (Act.Check code) = refl
act-asked Act.Nothing = refl
act-asked Act.Commit = refl

abbrev act_code : Coded Act
act_code =
    code_by Asked (coded⊎ (coded× coded_ℕ (coded× coded_ℕ (coded× coded_ℕ coded_bool))) (coded⊎ (coded× coded_ℕ (coded× coded_ℕ coded_ℕ)) (coded⊎ (coded⊎ coded_ℕ coded_ℕ) (coded⊎ coded_unit coded_unit))))
    asked act act-asked

-- the flags
abbrev status_code : Coded Cs
status_code =
    code_by (Bool × (Bool × (Bool × (Bool × Bool)))) (coded× coded_bool (coded× coded_bool (coded× coded_bool (coded× coded_bool coded_bool))))
    (λ s. (s.lt, (s.eq, (s.gt, (s.c0, s.ov))))) (λ p. record { lt = p.0; eq = p.1.0; gt = p.1.1.0; c0 = p.1.1.1.0; ov = p.1.1.1.1 }) (λ s. refl)

-- a plan, by what it does or by its code as it fails
abbrev PlanParts : Type 0
PlanParts = (List ℕ × (Cs × (Act × (ℕ × Option (ℕ × ℕ))))) ⊎ ℕ

abbrev parts : Plan → PlanParts
parts (Does registers status act next link) = inl (registers, (status, (act, (next, link))))
parts (Fails code) = inr code

abbrev whole_plan : PlanParts → Plan
whole_plan (inl (registers, (status, (act, (next, link))))) = Does registers status act next link
whole_plan (inr code) = Fails code

whole-parts : (plan : Plan) → whole_plan (parts plan) ≡ plan
whole-parts (Does registers status act next link) = refl
whole-parts (Fails code) = refl

pub plan_set : IsSet Plan
plan_set =
    Coded-set (code_by PlanParts (coded⊎ (coded× (coded_list coded_ℕ) (coded× status_code (coded× act_code (coded× coded_ℕ (coded_option (coded× coded_ℕ coded_ℕ)))))) coded_ℕ)
    parts whole_plan whole-parts)
