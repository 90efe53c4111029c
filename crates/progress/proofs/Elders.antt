-- The victim of a cycle isn't the oldest.
use Rattle.desk_law.proofs.Common.{◌≡◌, refl, ℕ, zero, suc, ◌<◌, ◌≤◌, ◌==◌, ◌&&◌, max, if◌then◌else◌, Bool, true, false, List, [], ◌∷◌, ◌++◌, length, find, fold, Option, Some, None, arith, ap, sym, ◌∙◌, subst, inl, inr, eqb-true, cases_Bool, none-some, ◌≢◌, and_from, and_parts, has, leads, shown_after, shown_cycle, victim_of, found-has, found-passes, Desk, Active, with_active, rolled_back, numbers, waits_for, Counts, Contested, Settled, Lost, Contest, breaks_cycle, breaks_cycles, IsAmong, IsContending, nat_tests}
use Rattle.std.proofs.lemmas.Bool.{cases_order}
use Rattle.desk_law.proofs.Entries.{orderly, new-among, among-found, among-replaced, replaced-among}
use Rattle.desk_law.proofs.Walks.{first-step, leads-more}
use Rattle.desk_law.proofs.CyclesClose.{some-found}
use Rattle.desk_law.proofs.Contest.{contending, rolled-contending, breaks-keep, left_over}
use Rattle.desk_law.proofs.ContestRounds.{asker-left, victim-there, entry_with}
use Rattle.desk_law.proofs.GoesOn.{marked-contending}
use Rattle.desk_law.proofs.Waiting.{number-of, waits-by}
use Rattle.desk_law.proofs.Others.{among-others, others-among}
use Rattle.progress.specs.Oldest.{IsOldest, waiting_now, VictimsHaveElders, Spares, ContestsSpareTheOldest}

-- the greatest is at least each
least-max : (xs : List ℕ) (least : ℕ) → least ≤ fold max least xs
least-max [] least = omega arith
least-max (x ∷ xs) least = grind (arith, nat_tests, least-max xs (max least x))

pub in-max : (xs : List ℕ) (least x : ℕ) → has xs x ≡ true → x ≤ fold max least xs
in-max [] least x inside = absurd (cc)
in-max (y ∷ xs) least x inside = grind (arith, nat_tests, in-max xs (max least y) x, least-max xs (max least y))

-- nobody waits for himself
pub self-free : (desk : Desk) (number : ℕ) → waits_for desk number number ≡ true → ⊥
self-free desk number waits = let by = waits-by desk number number waits in grind (arith, nat_tests, by)

-- the second member of a shown cycle
pub record Second (waits : ℕ → ℕ → Bool) (all : List ℕ) (first : ℕ) (cycle : List ℕ) : Type 0 where
  pub second : ℕ
  pub rest : List ℕ
  pub is : cycle ≡ first ∷ second ∷ rest
  pub there : has all second ≡ true
  pub waits_so : waits first second ≡ true

pub second-of : (waits : ℕ → ℕ → Bool) (all : List ℕ) (first : ℕ) (cycle : List ℕ) → ((x : ℕ) → waits x x ≡ true → ⊥) → shown_cycle waits all first ≡ Some cycle → Second waits all first cycle
second-of waits all first cycle never shown = by_length (length all) refl
  where
    round : leads waits all (length all) first first ≡ true
    round = grind (arith, nat_tests)

    shape : cycle ≡ first ∷ shown_after waits all (length all) first first
    shape = grind (arith, nat_tests)

    by_length : (steps : ℕ) → length all ≡ steps → Second waits all first cycle
    by_length zero e = absurd (grind (arith, nat_tests, round))
    by_length (suc steps) e =
        let walk : leads waits all (suc steps) first first ≡ true = subst (λ (n : ℕ). leads waits all n first first ≡ true) e round in
        let step = first-step waits all steps first first walk in
        let leads_back : leads waits all (length all) step.next first ≡ true = elim step.rest [
          | inl same ↦ absurd (never first (subst (λ (x : ℕ). waits first x ≡ true) same step.step))
          | inr later ↦ leads-more waits all steps (length all) step.next first (omega (arith, e)) later
        ] in
        let test = λ (next : ℕ). waits first next && leads waits all (length all) next first in
        let (y, found) = some-found test all step.next step.there (and_from (waits first step.next) (leads waits all (length all) step.next first) step.step leads_back) in
        let passes = and_parts (waits first y) (leads waits all (length all) y first) (found-passes test all y found) in
        record {
          second = y;
          rest = (if y == first then [] else shown_after waits all steps first y);
          is = shape ∙ ap (λ (n : ℕ). first ∷ shown_after waits all n first first) e ∙ grind (arith, nat_tests, found);
          there = found-has test all y found;
          waits_so = passes.0;
        }

-- somebody is older than the victim of a cycle
pub elder-of : (desk : Desk) (entry : Active) (cycle : List ℕ) → IsAmong desk.active entry → shown_cycle (waits_for desk) (numbers desk) entry.number ≡ Some cycle
    → (elder : Active) × IsAmong desk.active elder × (elder.number < victim_of cycle)
elder-of desk entry cycle here shown =
    let it = second-of (waits_for desk) (numbers desk) entry.number cycle (self-free desk) shown in
    let (other, among, same) = number-of desk.active it.second it.there in
    by_order other among it same
  where
    by_order : (other : Active) → IsAmong desk.active other → (it : Second (waits_for desk) (numbers desk) entry.number cycle) → other.number ≡ it.second → (elder : Active) × IsAmong desk.active elder × (elder.number < victim_of cycle)
    by_order other among it same =
        let first_in : entry.number ≤ victim_of cycle = subst (λ (members : List ℕ). entry.number ≤ victim_of members) (sym it.is) (in-max (entry.number ∷ it.second ∷ it.rest) 0 entry.number (grind (arith, nat_tests))) in
        let second_in : it.second ≤ victim_of cycle = subst (λ (members : List ℕ). it.second ≤ victim_of members) (sym it.is) (in-max (entry.number ∷ it.second ∷ it.rest) 0 it.second (grind (arith, nat_tests))) in
        elim (cases_order other.number entry.number) [
          | inl equal ↦ absurd (self-free desk entry.number (subst (λ (x : ℕ). waits_for desk entry.number x ≡ true) (sym same ∙ equal) it.waits_so))
          | inr (inl below) ↦ (other, among, omega (arith, below, first_in))
          | inr (inr above) ↦ (entry, here, omega (arith, above, second_in, same))
        ]

-- what is known of each round of a contest of one that is marked
abbrev Rounds : Active → (oldest : ℕ) → Contest → Type 0
Rounds entry oldest (Contested desk counts) = IsContending entry.number desk × IsAmong desk.active entry × IsOldest desk oldest
Rounds entry oldest (Settled desk counts) = IsOldest desk oldest
Rounds entry oldest (Lost desk counts) = IsOldest desk oldest × (entry.number ≢ oldest)

-- a desk without the victim of a cycle has the same oldest
still-oldest : (desk : Desk) (entry victim : Active) (cycle : List ℕ) (oldest : ℕ) → IsAmong desk.active entry → shown_cycle (waits_for desk) (numbers desk) entry.number ≡ Some cycle
    → entry_with (victim_of cycle) desk ≡ Some victim → IsOldest desk oldest → IsOldest (rolled_back desk victim) oldest × (victim_of cycle ≢ oldest)
still-oldest desk entry victim cycle oldest here shown found is =
    let (elder, among, below) = elder-of desk entry cycle here shown in
    let it = among-found (λ (entry : Active). entry.number == victim_of cycle) desk.active victim found in
    let above : oldest < victim_of cycle = omega (arith, is.least elder among, below) in
    let named : victim.number ≡ victim_of cycle = eqb-true victim.number (victim_of cycle) it.1 in
    let (one, there, same) = is.active in (
      record {
        active = (one, others-among victim desk.active one there (grind (arith, nat_tests, same, named, above)), same);
        least = λ other inside. is.least other (among-others victim desk.active other inside).0;
      },
      λ equal. omega (arith, above, equal),
    )

-- a round
round-spares : (entry : Active) (oldest : ℕ) (desk : Desk) (counts : Counts) → Rounds entry oldest (Contested desk counts)
    → Rounds entry oldest (breaks_cycle entry.number (shown_cycle (waits_for desk) (numbers desk) entry.number) desk counts)
round-spares entry oldest desk counts is = by_cycle (shown_cycle (waits_for desk) (numbers desk) entry.number) refl
  where
    by_cycle : (cycle : Option (List ℕ)) → shown_cycle (waits_for desk) (numbers desk) entry.number ≡ cycle → Rounds entry oldest (breaks_cycle entry.number cycle desk counts)
    by_cycle None shown = is.2
    by_cycle (Some cycle) shown = by_victim (entry_with (victim_of cycle) desk) refl (victim_of cycle == entry.number) refl
      where
        by_victim : (victim : Option Active) → entry_with (victim_of cycle) desk ≡ victim → (lost : Bool) → (victim_of cycle == entry.number) ≡ lost
            → Rounds entry oldest (left_over desk (record counts { cycles = counts.cycles ++ cycle ∷ [] }) victim lost)
        by_victim None none lost e = let (victim, found) = victim-there desk entry cycle is.1 shown in absurd (none-some victim (sym none ∙ found))
        by_victim (Some victim) found true e =
            let kept = still-oldest desk entry victim cycle oldest is.1 shown found is.2 in
            (kept.0, λ equal. kept.1 (eqb-true (victim_of cycle) entry.number e ∙ equal))
        by_victim (Some victim) found false e =
            (rolled-contending entry.number desk victim is.0, asker-left desk entry victim cycle is.1 found e, (still-oldest desk entry victim cycle oldest is.1 shown found is.2).0)

-- the marked entry is in the oldest's place too
marked-oldest : (desk : Desk) (entry : Active) (oldest : ℕ) → IsAmong desk.active entry → IsOldest desk oldest → IsOldest (with_active desk (waiting_now entry)) oldest
marked-oldest desk entry oldest here is =
    let marked = waiting_now entry in
    record {
      active = (
          elim (cases_Bool (is.active.0.number == entry.number)) [
            | inl same ↦ (marked, new-among marked desk.active entry here refl, sym (eqb-true is.active.0.number entry.number same) ∙ is.active.2)
            | inr other ↦ (is.active.0, replaced-among marked desk.active is.active.0 is.active.1 other, is.active.2)
          ]
          );
      least = λ other inside. elim (among-replaced marked desk.active other inside) [
        | inl new ↦ subst (λ (one : Active). oldest ≤ one.number) new (is.least entry here)
        | inr old ↦ is.least other old.0
      ];
    }

pub contests_spare : ContestsSpareTheOldest
contests_spare desk entry counts rounds oldest consistent here is =
    let marked = waiting_now entry in
    finish (breaks_cycles rounds entry.number (Contested (with_active desk marked) counts))
    (breaks-keep (Rounds marked oldest) entry.number (round-spares marked oldest) rounds (Contested (with_active desk marked) counts)
    (marked-contending desk entry true here (contending entry.number desk (orderly desk consistent)), new-among marked desk.active entry here refl, marked-oldest desk entry oldest here is))
  where
    finish : (contest : Contest) → Rounds (waiting_now entry) oldest contest → Spares oldest entry.number contest
    finish (Contested desk counts) is = is.2
    finish (Settled desk counts) is = is
    finish (Lost desk counts) is = is

abbrev Marked : Active → Contest → Type 0
Marked marked (Contested desk counts) = IsAmong desk.active marked
Marked marked contest = Unit {0}

marked-round : (marked : Active) (desk : Desk) (counts : Counts) → Marked marked (Contested desk counts)
    → Marked marked (breaks_cycle marked.number (shown_cycle (waits_for desk) (numbers desk) marked.number) desk counts)
marked-round marked desk counts is = by_cycle (shown_cycle (waits_for desk) (numbers desk) marked.number) refl
  where
    by_cycle : (cycle : Option (List ℕ)) → shown_cycle (waits_for desk) (numbers desk) marked.number ≡ cycle → Marked marked (breaks_cycle marked.number cycle desk counts)
    by_cycle None shown = tt
    by_cycle (Some cycle) shown = by_victim (entry_with (victim_of cycle) desk) refl (victim_of cycle == marked.number) refl
      where
        by_victim : (victim : Option Active) → entry_with (victim_of cycle) desk ≡ victim → (lost : Bool) → (victim_of cycle == marked.number) ≡ lost
            → Marked marked (left_over desk (record counts { cycles = counts.cycles ++ cycle ∷ [] }) victim lost)
        by_victim victim found true e = tt
        by_victim None found false e = is
        by_victim (Some victim) found false e = asker-left desk marked victim cycle is found e

pub victims_have_elders : VictimsHaveElders
victims_have_elders desk met entry counts counted rounds cycle consistent here comes shown =
    let marked = waiting_now entry in
    elder-of met marked cycle
    (subst (Marked marked) comes (breaks-keep (Marked marked) entry.number (marked-round marked) rounds (Contested (with_active desk marked) counts) (new-among marked desk.active entry here refl)))
    shown
