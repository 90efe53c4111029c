-- Cycles of waits and their victims.
use Rattle.desk_law.proofs.Common.{◌≡◌, refl, ℕ, zero, suc, ◌+◌, ◌<◌, ◌≤◌, ◌==◌, ◌⊎◌, not, max, Bool, true, false, List, [], ◌∷◌, ◌++◌, length, filter, map, find, fold, Option, Some, None, arith, subst, inl, length-append, and_parts, has, leads, shown_cycle, victim_of, after-among, Desk, Active, Grant, rolled_back, numbers, waits_for, Counts, Contest, Contested, Settled, Lost, breaks_cycle, breaks_cycles, IsAmong, IsOrderly, except, IsContending, KeepsPages, nat_tests, both, contest}
use Rattle.desk_law.proofs.Entries.{among-filter, filter-among, among-found, none-found, filter-short}
use Rattle.desk_law.proofs.Walks.{no-cycle-fewer, no-cycle-from, no-cycle-leaves, walk-short}
use Rattle.desk_law.proofs.Others.{rollback-leaves}
use Rattle.desk_law.proofs.Waiting.{number-of, has-number, fewer-numbers, rollback-waits, waits-by}
use Rattle.desk_law.proofs.Holding.{held-but, held-others, freed, freed-at}

except-waits : (one : ℕ) (waits : ℕ → ℕ → Bool) (from to : ℕ) → except one waits from to ≡ true → waits from to ≡ true
except-waits one waits from to both = (and_parts (not (from == one)) (waits from to) both).1

pub contending : (one : ℕ) (desk : Desk) → IsOrderly desk → IsContending one desk
contending one desk is = grind (arith, nat_tests, no-cycle-fewer (except one (waits_for desk)) (waits_for desk) (numbers desk) (numbers desk) (λ from to waits. except-waits one (waits_for desk) from to waits) (λ x inside. inside) is.no_cycle)

pub settled : (one : ℕ) (desk : Desk) → IsContending one desk → ((steps : ℕ) → leads (waits_for desk) (numbers desk) steps one one ≡ false) → IsOrderly desk
settled one desk is not_back = grind (arith, nat_tests, no-cycle-from (waits_for desk) (numbers desk) one is.no_cycle not_back)

pub filter-shorter : (test : Active → Bool) (entries : List Active) (entry : Active) → IsAmong entries entry → test entry ≡ false → length (filter test entries) < length entries
filter-shorter test [] entry among out = absurd among
filter-shorter test (one ∷ entries) entry among out = grind (arith, nat_tests, filter-shorter test entries entry, filter-short)

-- a rollback leaves it so
pub rolled-contending : (one : ℕ) (desk : Desk) (gone : Active) → IsContending one desk → IsContending one (rolled_back desk gone)
rolled-contending one desk gone is =
    grind (
      arith,
      nat_tests,
      filter-short (λ (other : Active). not (other.number == gone.number)) desk.active,
      rollback-leaves desk.committed desk.most_lines desk.next desk.active gone is.active,
      held-others desk.committed desk.committed desk.active desk.authority gone refl (λ other among. refl) (held-but gone.number desk.committed desk.active desk.authority is.held),
      no-cycle-fewer (except one (waits_for (rolled_back desk gone))) (except one (waits_for desk)) (numbers (rolled_back desk gone)) (numbers desk),
      rollback-waits desk gone,
      fewer-numbers (λ (other : Active). not (other.number == gone.number)) desk.active,
    )

pub rolled-consistent : (desk : Desk) (gone : Active) → IsOrderly desk → IsOrderly (rolled_back desk gone)
rolled-consistent desk gone is =
    grind (
      arith,
      nat_tests,
      filter-short (λ (other : Active). not (other.number == gone.number)) desk.active,
      rollback-leaves desk.committed desk.most_lines desk.next desk.active gone is.active,
      held-others desk.committed desk.committed desk.active desk.authority gone refl (λ other among. refl) (held-but gone.number desk.committed desk.active desk.authority is.held),
      held-but gone.number desk.committed desk.active desk.authority is.held,
      no-cycle-fewer (waits_for (rolled_back desk gone)) (waits_for desk) (numbers (rolled_back desk gone)) (numbers desk) (λ from to waits. rollback-waits desk gone from to waits) (λ x inside. fewer-numbers (λ (other : Active). not (other.number == gone.number)) desk.active x inside) is.no_cycle,
    )

-- the members of a shown cycle
greatest-in : (xs : List ℕ) (least : ℕ) → (fold max least xs ≡ least) ⊎ (has xs (fold max least xs) ≡ true)
greatest-in [] least = inl refl
greatest-in (x ∷ xs) least = grind (arith, nat_tests, greatest-in xs (max least x))

pub shown-victim : (waits : ℕ → ℕ → Bool) (all : List ℕ) (first : ℕ) (cycle : List ℕ) → has all first ≡ true → shown_cycle waits all first ≡ Some cycle → has all (victim_of cycle) ≡ true
shown-victim waits all first cycle here is = grind (arith, nat_tests, greatest-in, after-among)

pub shown-none : (waits : ℕ → ℕ → Bool) (all : List ℕ) (first : ℕ) → shown_cycle waits all first ≡ None → leads waits all (length all) first first ≡ false
shown-none waits all first is = grind (arith, nat_tests)

-- pages of others are freed
pub freed-keeps : (one gone : ℕ) (old new : List Grant) → (gone == one) ≡ false → KeepsPages one old new → KeepsPages one old (map (freed gone) new)
freed-keeps one gone old new differ keeps page own = grind (arith, nat_tests, freed-at)

-- what a contest of an entry came to
abbrev pub Came : ℕ → (most : ℕ) → Active → Desk → Contest → Type 0
Came one most entry old (Contested desk counts) = ⊥
Came one most entry old (Settled desk counts) = IsOrderly desk × IsAmong desk.active entry × (desk.committed ≡ old.committed) × (desk.most_lines ≡ old.most_lines) × KeepsPages one old.authority desk.authority × (length counts.cycles + length desk.active ≤ most)
Came one most entry old (Lost desk counts) = IsOrderly desk × (length counts.cycles + length desk.active ≤ most)

-- one that has gone is in no cycle
pub gone-consistent : (one : ℕ) (desk : Desk) → IsContending one desk → ((entry : Active) → IsAmong desk.active entry → (entry.number == one) ≡ false) → IsOrderly desk
gone-consistent one desk is gone =
    grind (arith, nat_tests, waits-by desk one, no-cycle-leaves one (waits_for desk) (waits_for desk) (numbers desk))

pub stays-settled : (left one : ℕ) (desk : Desk) (counts : Counts) → breaks_cycles left one (Settled desk counts) ≡ Settled desk counts
stays-settled left one desk counts = grind (arith, nat_tests)

pub stays-lost : (left one : ℕ) (desk : Desk) (counts : Counts) → breaks_cycles left one (Lost desk counts) ≡ Lost desk counts
stays-lost left one desk counts = grind (arith, nat_tests)

-- what is left of a contest by its victim
abbrev pub without : Desk → Option Active → Desk
without desk None = desk
without desk (Some entry) = rolled_back desk entry

abbrev pub left_over : Desk → Counts → Option Active → Bool → Contest
left_over desk counts victim true = Lost (without desk victim) counts
left_over desk counts victim false = Contested (without desk victim) counts

pub some-active : (entries : List Active) (entry : Active) → IsAmong entries entry → 1 ≤ length entries
some-active [] entry among = absurd among
some-active (one ∷ entries) entry among = omega arith

-- The fuel suffices: each victim takes one entry away, and the one that asks is left.
pub breaks-all : (left one most : ℕ) (entry : Active) (old desk : Desk) (counts : Counts) → entry.number ≡ one → IsAmong desk.active entry → IsContending one desk
    → length desk.active ≤ left → desk.committed ≡ old.committed → desk.most_lines ≡ old.most_lines → KeepsPages one old.authority desk.authority → length counts.cycles + length desk.active ≤ most → Came one most entry old (breaks_cycles left one (Contested desk counts))
breaks-all zero one most entry old desk counts named among is enough store limit keeps fits_all = absurd (omega (arith, some-active desk.active entry among, enough))
breaks-all (suc left) one most entry old desk counts named among is enough store limit keeps fits_all =
    by_cycle (shown_cycle (waits_for desk) (numbers desk) one) refl
    (λ next more there contends fits same_store same_limit keeps_on fits_on. breaks-all left one most entry old next more named there contends fits same_store same_limit keeps_on fits_on)
  where
    here : has (numbers desk) one ≡ true
    here = subst (λ (n : ℕ). has (numbers desk) n ≡ true) named (has-number desk.active entry among)

    by_cycle : (cycle : Option (List ℕ)) → shown_cycle (waits_for desk) (numbers desk) one ≡ cycle
        → ((next : Desk) (more : Counts) → IsAmong next.active entry → IsContending one next → length next.active ≤ left
        → next.committed ≡ old.committed → next.most_lines ≡ old.most_lines → KeepsPages one old.authority next.authority → length more.cycles + length next.active ≤ most → Came one most entry old (breaks_cycles left one (Contested next more)))
        → Came one most entry old (breaks_cycles left one (breaks_cycle one cycle desk counts))
    by_cycle None shown later =
        grind (arith, nat_tests, stays-settled left one desk counts, settled one desk is, shown-none, walk-short, here)
    by_cycle (Some cycle) shown later = by_victim (find (λ (entry : Active). entry.number == victim_of cycle) desk.active) refl (victim_of cycle == one) refl
      where
        one_more : (victim : Active) → find (λ (entry : Active). entry.number == victim_of cycle) desk.active ≡ Some victim
            → length (counts.cycles ++ cycle ∷ []) + length (rolled_back desk victim).active ≤ most
        one_more victim found = grind (arith, nat_tests, filter-shorter, length-append, among-found)

        by_victim : (victim : Option Active) → find (λ (entry : Active). entry.number == victim_of cycle) desk.active ≡ victim
            → (lost : Bool) → (victim_of cycle == one) ≡ lost
            → Came one most entry old (breaks_cycles left one (left_over desk (record counts { cycles = counts.cycles ++ cycle ∷ [] }) victim lost))
        by_victim None none lost e =
            grind (arith, nat_tests, number-of desk.active (victim_of cycle) (shown-victim (waits_for desk) (numbers desk) one cycle here shown), none-found (λ (entry : Active). entry.number == victim_of cycle) desk.active none)
        by_victim (Some victim) found true e =
            grind (arith, nat_tests, stays-lost, gone-consistent one (rolled_back desk victim) (rolled-contending one desk victim is), among-found, among-filter, one_more)
        by_victim (Some victim) found false e =
            grind (arith, nat_tests, among-found, filter-among, rolled-contending one desk victim is, filter-shorter, freed-keeps one victim.number old.authority desk.authority, one_more victim found)

-- what each round of a contest keeps, the contest keeps
pub breaks-keep : (P : Contest → Type 0) (number : ℕ) → ((desk : Desk) (counts : Counts) → P (Contested desk counts) → P (breaks_cycle number (shown_cycle (waits_for desk) (numbers desk) number) desk counts))
    → (left : ℕ) (contest : Contest) → P contest → P (breaks_cycles left number contest)
breaks-keep P number round (suc left) (Contested desk counts) is = breaks-keep P number round left (breaks_cycle number (shown_cycle (waits_for desk) (numbers desk) number) desk counts) (round desk counts is)
breaks-keep P number round _ _ is = is

-- what is known of a contest is known of what each victim leaves of it
abbrev pub VictimsKeep : (Contest → Type 0) → ℕ → Type 0
VictimsKeep P number =
    (desk : Desk) (counts : Counts) (cycle : List ℕ) (victim : Option Active) (lost : Bool) → P (Contested desk counts)
    → find (λ (entry : Active). entry.number == victim_of cycle) desk.active ≡ victim → (victim_of cycle == number) ≡ lost
    → P (left_over desk (record counts { cycles = counts.cycles ++ cycle ∷ [] }) victim lost)

-- so it is known of what the contest comes to
pub victims-keep : (P : Contest → Type 0) (number : ℕ) → ((desk : Desk) (counts : Counts) → P (Contested desk counts) → P (Settled desk counts)) → VictimsKeep P number
    → (left : ℕ) (contest : Contest) → P contest → P (breaks_cycles left number contest)
victims-keep P number none some left contest is = breaks-keep P number (λ desk counts is. by_cycle desk counts is (shown_cycle (waits_for desk) (numbers desk) number)) left contest is
  where
    by_cycle : (desk : Desk) (counts : Counts) → P (Contested desk counts) → (cycle : Option (List ℕ)) → P (breaks_cycle number cycle desk counts)
    by_cycle desk counts is None = none desk counts is
    by_cycle desk counts is (Some cycle) = some desk counts cycle (find (λ (entry : Active). entry.number == victim_of cycle) desk.active) (victim_of cycle == number) is refl refl
