-- Where waits lead.
use Rattle.desk_law.proofs.Common.{◌≡◌, ℕ, zero, suc, ◌<◌, ◌≤◌, ◌==◌, ◌&&◌, ◌||◌, ◌⊎◌, not, Bool, true, false, List, [], ◌∷◌, length, filter, list_any, arith, ap, ◌∙◌, subst, inl, inr, eqb-true, and_from, cases_Bool, not_from_false, has, leads, any-at, any-some, HasNoCycle, except, nat_tests}
use Rattle.desk_law.proofs.Entries.{filter-short}

-- the first step of a walk
pub record Steps (waits : ℕ → ℕ → Bool) (all : List ℕ) (steps from to : ℕ) : Type 0 where
  pub next : ℕ
  pub there : has all next ≡ true
  pub step : waits from next ≡ true
  pub rest : (next ≡ to) ⊎ (leads waits all steps next to ≡ true)

pub first-step : (waits : ℕ → ℕ → Bool) (all : List ℕ) (steps from to : ℕ) → leads waits all (suc steps) from to ≡ true → Steps waits all steps from to
first-step waits all steps from to leads_there =
    grind (arith, nat_tests, any-some (λ next. waits from next && (next == to || leads waits all steps next to)) all leads_there)

pub one-step : (waits : ℕ → ℕ → Bool) (all : List ℕ) (steps from to next : ℕ) → has all next ≡ true → waits from next ≡ true
    → (next ≡ to) ⊎ (leads waits all steps next to ≡ true) → leads waits all (suc steps) from to ≡ true
one-step waits all steps from to next there step rest = grind (arith, nat_tests, any-at)

-- more waits among more numbers lead as far
pub leads-wider : (waits wider : ℕ → ℕ → Bool) (all more : List ℕ)
    → ((from to : ℕ) → waits from to ≡ true → wider from to ≡ true) → ((x : ℕ) → has all x ≡ true → has more x ≡ true)
    → (steps from to : ℕ) → leads waits all steps from to ≡ true → leads wider more steps from to ≡ true
leads-wider waits wider all more wide among zero from to walk = absurd (cc)
leads-wider waits wider all more wide among (suc steps) from to walk =
    grind (arith, nat_tests, first-step, one-step, leads-wider waits wider all more wide among steps (first-step waits all steps from to walk).next to)

-- so do more steps
pub leads-more : (waits : ℕ → ℕ → Bool) (all : List ℕ) (steps more from to : ℕ) → steps ≤ more → leads waits all steps from to ≡ true → leads waits all more from to ≡ true
leads-more waits all zero more from to le walk = absurd (cc)
leads-more waits all (suc steps) zero from to le walk = absurd (omega arith)
leads-more waits all (suc steps) (suc more) from to le walk =
    grind (arith, nat_tests, first-step, one-step, leads-more waits all steps more (first-step waits all steps from to walk).next to)

-- one walk after another
pub walk-on : (waits : ℕ → ℕ → Bool) (all : List ℕ) (steps others from middle to : ℕ)
    → leads waits all steps from middle ≡ true → leads waits all others middle to ≡ true → (sum : ℕ) × (leads waits all sum from to ≡ true)
walk-on waits all zero others from middle to one two = absurd (cc)
walk-on waits all (suc steps) others from middle to one two =
    let first = first-step waits all steps from middle one in
    let on = λ (sum : ℕ) (rest : leads waits all sum first.next to ≡ true). (let it : (sum : ℕ) × (leads waits all sum from to ≡ true) = (suc sum, one-step waits all sum from to first.next first.there first.step (inr rest)) in it) in
    elim first.rest [
      | inl same ↦ on others (ap (λ (x : ℕ). leads waits all others x to) same ∙ two)
      | inr later ↦ let (sum, walk) = walk-on waits all steps others first.next middle to later two in on sum walk
    ]

-- a walk that goes by a number
pub record GoesBy (waits : ℕ → ℕ → Bool) (all : List ℕ) (one from to : ℕ) : Type 0 where
  pub until : (from ≡ one) ⊎ ((steps : ℕ) × (leads waits all steps from one ≡ true))
  pub steps : ℕ
  pub onwards : leads waits all steps one to ≡ true

-- a walk goes by a number, or does without its waits
pub by-or-without : (waits : ℕ → ℕ → Bool) (all : List ℕ) (one steps from to : ℕ) → leads waits all steps from to ≡ true
    → (leads (except one waits) all steps from to ≡ true) ⊎ GoesBy waits all one from to
by-or-without waits all one zero from to walk = absurd (cc)
by-or-without waits all one (suc steps) from to walk =
    elim (cases_Bool (from == one)) [
      | inl here ↦
          let same : from ≡ one = eqb-true from one here in
          inr (record { until = inl same; steps = suc steps; onwards = subst (λ (x : ℕ). leads waits all (suc steps) x to ≡ true) same walk })
      | inr away ↦
          let first = first-step waits all steps from to walk in
          let step : except one waits from first.next ≡ true = and_from (not (from == one)) (waits from first.next) (not_from_false (from == one) away) first.step in
          elim first.rest [
            | inl same ↦ inl (one-step (except one waits) all steps from to first.next first.there step (inl same))
            | inr later ↦
                elim (by-or-without waits all one steps first.next to later) [
                  | inl without ↦ inl (one-step (except one waits) all steps from to first.next first.there step (inr without))
                  | inr by ↦
                      inr (record {
                        until = inr (elim by.until [
                          | inl same ↦ (1, one-step waits all zero from one first.next first.there first.step (inl same))
                          | inr longer ↦ (suc longer.0, one-step waits all longer.0 from one first.next first.there first.step (inr longer.1))
                        ]);
                        steps = by.steps;
                        onwards = by.onwards;
                      })
                ]
          ]
    ]

-- a cycle goes by a number that it leads back to, or does without its waits
pub no-cycle-from : (waits : ℕ → ℕ → Bool) (all : List ℕ) (one : ℕ) → HasNoCycle (except one waits) all
    → ((steps : ℕ) → leads waits all steps one one ≡ false) → HasNoCycle waits all
no-cycle-from waits all one none not_back steps number =
    let by = by-or-without waits all one steps number number in
    let on = λ (first second : ℕ). walk-on waits all first second one number one in
    grind (arith, by, none steps number, not_back, on)

-- with fewer waits there is no cycle either
pub no-cycle-fewer : (fewer waits : ℕ → ℕ → Bool) (less all : List ℕ)
    → ((from to : ℕ) → fewer from to ≡ true → waits from to ≡ true) → ((x : ℕ) → has less x ≡ true → has all x ≡ true)
    → HasNoCycle waits all → HasNoCycle fewer less
no-cycle-fewer fewer waits less all wide among none steps number = grind (arith, none steps number, leads-wider fewer waits less all wide among steps number number)

-- one that waits for nobody is in no cycle, whoever waits for it
pub record Leaves (one : ℕ) (new old : ℕ → ℕ → Bool) : Type 0 where
  pub none : (to : ℕ) → new one to ≡ false
  pub kept : (from to : ℕ) → (to == one) ≡ false → new from to ≡ true → old from to ≡ true

away-from : (one : ℕ) (new old : ℕ → ℕ → Bool) (all : List ℕ) (steps from to : ℕ) → Leaves one new old → leads new all steps from to ≡ true → (from == one) ≡ false
away-from one new old all zero from to leaves walk = absurd (cc)
away-from one new old all (suc steps) from to leaves walk = grind (arith, nat_tests, first-step new all steps from to walk)

stays-away : (one : ℕ) (new old : ℕ → ℕ → Bool) (all : List ℕ) (steps from to : ℕ) → Leaves one new old → (to == one) ≡ false → leads new all steps from to ≡ true
    → leads (except one old) all steps from to ≡ true
stays-away one new old all zero from to leaves other walk = absurd (cc)
stays-away one new old all (suc steps) from to leaves other walk =
    grind (arith, nat_tests, first-step, away-from, one-step, stays-away one new old all steps (first-step new all steps from to walk).next to leaves other)

pub no-cycle-leaves : (one : ℕ) (new old : ℕ → ℕ → Bool) (all : List ℕ) → Leaves one new old → HasNoCycle (except one old) all → HasNoCycle new all
no-cycle-leaves one new old all leaves none steps number =
    grind (arith, none steps number, stays-away one new old all steps number number leaves, away-from one new old all steps number number leaves)

-- How many pass one test, and how many another that lets more pass.
count-le : (test wider : ℕ → Bool) (xs : List ℕ) → ((x : ℕ) → test x ≡ true → wider x ≡ true) → length (filter test xs) ≤ length (filter wider xs)
count-le test wider [] wide = omega arith
count-le test wider (x ∷ xs) wide = grind (arith, nat_tests, count-le test wider xs wide)

pub count-lt : (test wider : ℕ → Bool) (xs : List ℕ) → ((x : ℕ) → test x ≡ true → wider x ≡ true)
    → list_any (λ x. wider x && not (test x)) xs ≡ true → length (filter test xs) < length (filter wider xs)
count-lt test wider [] wide some = absurd (cc)
count-lt test wider (x ∷ xs) wide some = grind (arith, nat_tests, count-le test wider xs wide, count-lt test wider xs wide)

pub all-pass : (test : ℕ → Bool) (xs : List ℕ) → length xs ≤ length (filter test xs) → (x : ℕ) → has xs x ≡ true → test x ≡ true
all-pass test [] full x inside = absurd (cc)
all-pass test (y ∷ ys) full x inside = grind (arith, nat_tests, filter-short test ys, all-pass test ys)

-- whether so many steps lead to a number
abbrev reach : (ℕ → ℕ → Bool) → List ℕ → ℕ → ℕ → ℕ → Bool
reach waits all to steps from = leads waits all steps from to

-- with one step more, no other number leads there
abbrev Stable : (ℕ → ℕ → Bool) → List ℕ → ℕ → ℕ → Type 0
Stable waits all to steps = (x : ℕ) → has all x ≡ true → leads waits all (suc steps) x to ≡ true → leads waits all steps x to ≡ true

-- then none does with any more
stable-stays : (waits : ℕ → ℕ → Bool) (all : List ℕ) (to steps : ℕ) → Stable waits all to steps
    → (more x : ℕ) → has all x ≡ true → leads waits all more x to ≡ true → leads waits all steps x to ≡ true
stable-stays waits all to steps stable zero x inside walk = absurd (cc)
stable-stays waits all to steps stable (suc more) x inside walk =
    grind (arith, nat_tests, first-step, one-step, stable-stays waits all to steps stable more (first-step waits all more x to walk).next)

-- so many steps are stable, or more numbers lead there than with fewer
stable-or-more : (waits : ℕ → ℕ → Bool) (all : List ℕ) (to steps : ℕ)
    → Stable waits all to steps ⊎ (length (filter (reach waits all to steps) all) < length (filter (reach waits all to (suc steps)) all))
stable-or-more waits all to steps = grind (arith, nat_tests, leads-more waits all steps (suc steps), count-lt, any-at)

-- some number of steps is stable, or each brought one number more
record StableBy (waits : ℕ → ℕ → Bool) (all : List ℕ) (to most : ℕ) : Type 0 where
  steps : ℕ
  upto : steps ≤ most
  stable : Stable waits all to steps

stable-by : (waits : ℕ → ℕ → Bool) (all : List ℕ) (to most : ℕ) → StableBy waits all to most ⊎ (most ≤ length (filter (reach waits all to most) all))
stable-by waits all to zero = inr (omega arith)
stable-by waits all to (suc most) = elim (stable-by waits all to most) [
  | inl by ↦ inl (record { steps = by.steps; upto = omega (arith, by.upto); stable = by.stable })
  | inr many ↦ elim (stable-or-more waits all to most) [
    | inl stable ↦ inl (record { steps = most; upto = omega arith; stable = stable })
    | inr more ↦ inr (omega (arith, many, more))
  ]
]

-- a walk needs no more steps than there are numbers
pub walk-short : (waits : ℕ → ℕ → Bool) (all : List ℕ) (to from steps : ℕ) → has all from ≡ true → leads waits all steps from to ≡ true
    → leads waits all (length all) from to ≡ true
walk-short waits all to from steps inside walk =
    grind (arith, nat_tests, stable-by waits all to (length all), leads-more waits all, stable-stays waits all to, all-pass)
