-- Sums over entries whose numbers ascend.
use Rattle.desk_law.proofs.Common.{◌≡◌, ℕ, ◌-◌, ◌<◌, ◌≤◌, ◌==◌, if◌then◌else◌, List, [], ◌∷◌, arith, inl, inr, sym, ◌∙◌, ap, subst, refl, cases_Bool, Active, NumbersAscend, IsAmong, nat_tests}
use Rattle.std.proofs.lemmas.Bool.{cases_order}
use Rattle.desk_law.proofs.Entries.{between, one-entry}
use Rattle.progress.specs.Rounds.{sum_over}

-- no more, where each has a counterpart among the others that is no less
pub sum-fewer : (f g : Active → ℕ) (above below low high : ℕ) (old new : List Active) → NumbersAscend above old below → NumbersAscend low new high
    → ((entry : Active) → IsAmong new entry → (before : Active) × IsAmong old before × (before.number ≡ entry.number) × (f entry ≤ g before)) → sum_over f new ≤ sum_over g old
sum-fewer f g above below low high old [] up down each = omega arith
sum-fewer f g above below low high [] (entry ∷ new) up down each = absurd ((each entry (inl refl)).1)
sum-fewer f g above below low high (first ∷ old) (entry ∷ new) up down each =
    let (before, there, same, less) = each entry (inl refl) in
    elim (cases_order first.number entry.number) [
      | inl equal ↦
          let own : first ≡ before = one-entry above below (first ∷ old) first before up (inl refl) there (equal ∙ sym same) in
          let here : f entry ≤ g first = subst (λ (one : Active). f entry ≤ g one) (sym own) less in
          let rest = sum-fewer f g first.number below entry.number high old new up.1 down.1 (behind new (omega (arith, equal)) (λ other among. each other (inr among)) (λ other among. let above = (between entry.number high new other down.1 among).0 in omega (arith, above, equal))) in
          omega (arith, here, rest)
      | inr (inl smaller) ↦
          let rest = sum-fewer f g first.number below low high old (entry ∷ new) up.1 down (behind (entry ∷ new) (omega (arith, smaller)) each (λ other among. at_least other among smaller)) in
          omega (arith, rest)
      | inr (inr greater) ↦ absurd (not_there before there (omega (arith, same, greater)))
    ]
  where
    not_there : (before : Active) → IsAmong (first ∷ old) before → before.number < first.number → ⊥
    not_there before (inl is) less = omega (arith, less, ap (λ (one : Active). one.number) is)
    not_there before (inr among) less = let up_from = (between first.number below old before up.1 among).0 in omega (arith, less, up_from)

    at_least : (other : Active) → IsAmong (entry ∷ new) other → first.number < entry.number → first.number < other.number
    at_least other (inl is) smaller = omega (arith, smaller, ap (λ (one : Active). one.number) is)
    at_least other (inr among) smaller = let up_from = (between entry.number high new other down.1 among).0 in omega (arith, smaller, up_from)

    behind : (these : List Active) → first.number ≤ entry.number → ((other : Active) → IsAmong these other → (before : Active) × IsAmong (first ∷ old) before × (before.number ≡ other.number) × (f other ≤ g before))
        → ((other : Active) → IsAmong these other → first.number < other.number)
        → (other : Active) → IsAmong these other → (before : Active) × IsAmong old before × (before.number ≡ other.number) × (f other ≤ g before)
    behind these low each above other among =
        let (before, there, same, less) = each other among in
        elim there [
          | inl is ↦ absurd (let up_from = above other among in omega (arith, up_from, same, ap (λ (one : Active). one.number) is))
          | inr later ↦ (before, later, same, less)
        ]

-- one less for one of them
abbrev pub one_less : (f : Active → ℕ) → ℕ → Active → ℕ
one_less f number entry = if entry.number == number then f entry - 1 else f entry

less-each : (f : Active → ℕ) (number : ℕ) (entry : Active) → one_less f number entry ≤ f entry
less-each f number entry = elim (cases_Bool (entry.number == number)) [
  | inl same ↦ grind (arith, nat_tests, same)
  | inr other ↦ grind (arith, nat_tests, other)
]

sum-each : (f : Active → ℕ) (number : ℕ) (entries : List Active) → sum_over (one_less f number) entries ≤ sum_over f entries
sum-each f number [] = omega arith
sum-each f number (entry ∷ entries) = omega (arith, less-each f number entry, sum-each f number entries)

pub sum-less : (f : Active → ℕ) (entries : List Active) (own : Active) → IsAmong entries own → 1 ≤ f own → sum_over (one_less f own.number) entries < sum_over f entries
sum-less f [] own there some = absurd there
sum-less f (entry ∷ entries) own (inl is) some =
    let rest = sum-each f own.number entries in
    let here : one_less f own.number own ≡ f own - 1 = grind (arith, nat_tests) in
    let same : one_less f own.number entry ≡ f entry - 1 = subst (λ (one : Active). one_less f own.number one ≡ f one - 1) (sym is) here in
    let much : 1 ≤ f entry = subst (λ (one : Active). 1 ≤ f one) (sym is) some in
    omega (arith, rest, same, much)
sum-less f (entry ∷ entries) own (inr there) some = omega (arith, less-each f own.number entry, sum-less f entries own there some)
