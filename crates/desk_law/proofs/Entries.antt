-- Entries among entries, and their numbers.
use Rattle.desk_law.proofs.Common.{Desk, IsConsistent, IsOrderly, Option, length, ◌≡◌, refl, ℕ, ◌+◌, ◌<◌, ◌≤◌, ◌==◌, ◌⊎◌, if◌then◌else◌, Bool, true, false, List, [], ◌∷◌, ◌++◌, map, filter, find, Some, None, arith, subst, inl, inr, eq-eqb, both_ways, Active, IsAmong, NumbersAscend, nat_tests}

-- a filter keeps no more than there are
pub filter-short : {A : Type 0} (test : A → Bool) (xs : List A) → length (filter test xs) ≤ length xs
filter-short test [] = omega arith
filter-short test (one ∷ xs) = grind (arith, filter-short test xs)

-- one found passes the test, and is among them
pub among-found : (test : Active → Bool) (entries : List Active) (entry : Active) → find test entries ≡ Some entry → IsAmong entries entry × (test entry ≡ true)
among-found test [] entry is = absurd (cc)
among-found test (one ∷ entries) entry is = grind (arith, among-found test entries entry)

-- where none is found, none passes
pub none-found : (test : Active → Bool) (entries : List Active) → find test entries ≡ None → (entry : Active) → IsAmong entries entry → test entry ≡ false
none-found test [] none entry among = absurd among
none-found test (one ∷ entries) none entry among = grind (arith, λ (later : find test entries ≡ None). none-found test entries later entry)

-- those that a filter keeps
pub among-filter : (test : Active → Bool) (entries : List Active) (entry : Active) → IsAmong (filter test entries) entry → IsAmong entries entry × (test entry ≡ true)
among-filter test [] entry among = absurd among
among-filter test (one ∷ entries) entry among = grind (arith, among-filter test entries entry)

pub filter-among : (test : Active → Bool) (entries : List Active) (entry : Active) → IsAmong entries entry → test entry ≡ true → IsAmong (filter test entries) entry
filter-among test [] entry among passes = absurd among
filter-among test (one ∷ entries) entry among passes = grind (arith, filter-among test entries entry)

-- those with one more behind
pub among-push : (entries : List Active) (last entry : Active) → IsAmong (entries ++ last ∷ []) entry → IsAmong entries entry ⊎ (last ≡ entry)
among-push [] last entry among = grind arith
among-push (one ∷ entries) last entry among = grind (arith, among-push entries last entry)

pub push-among : (entries : List Active) (last entry : Active) → IsAmong entries entry → IsAmong (entries ++ last ∷ []) entry
push-among [] last entry among = absurd among
push-among (one ∷ entries) last entry among = grind (arith, push-among entries last entry)

-- those with one in place of the one with its number
abbrev pub replaced : Active → List Active → List Active
replaced new entries = map (λ (old : Active). if old.number == new.number then new else old) entries

pub among-replaced : (new : Active) (entries : List Active) (entry : Active) → IsAmong (replaced new entries) entry
    → (new ≡ entry) ⊎ (IsAmong entries entry × ((entry.number == new.number) ≡ false))
among-replaced new [] entry among = absurd among
among-replaced new (one ∷ entries) entry among = grind (arith, among-replaced new entries entry)

pub replaced-among : (new : Active) (entries : List Active) (entry : Active) → IsAmong entries entry → (entry.number == new.number) ≡ false → IsAmong (replaced new entries) entry
replaced-among new [] entry among other = absurd among
replaced-among new (one ∷ entries) entry among other = grind (arith, replaced-among new entries entry)

pub new-among : (new : Active) (entries : List Active) (old : Active) → IsAmong entries old → old.number ≡ new.number → IsAmong (replaced new entries) new
new-among new [] old among same = absurd among
new-among new (one ∷ entries) old among same = grind (arith, nat_tests, λ (there : IsAmong entries old). new-among new entries old there same)

-- the numbers of entries stay
pub numbers-replaced : (new : Active) (entries : List Active) → map (λ (entry : Active). entry.number) (replaced new entries) ≡ map (λ (entry : Active). entry.number) entries
numbers-replaced new [] = refl
numbers-replaced new (one ∷ entries) = grind (arith, nat_tests, numbers-replaced new entries)

-- ascending numbers
pub ascend-weaker : (low above below : ℕ) (entries : List Active) → low ≤ above → NumbersAscend above entries below → NumbersAscend low entries below
ascend-weaker low above below [] le up = omega arith
ascend-weaker low above below (entry ∷ entries) le up = (omega (arith, up.0), up.1)

pub ascend-filter : (test : Active → Bool) (above below : ℕ) (entries : List Active) → NumbersAscend above entries below → NumbersAscend above (filter test entries) below
ascend-filter test above below [] up = up
ascend-filter test above below (entry ∷ entries) up = grind (arith, nat_tests, ascend-filter test entry.number below entries up.1, ascend-weaker)

pub ascend-push : (above below : ℕ) (entries : List Active) (last : Active) → last.number ≡ below → NumbersAscend above entries below → NumbersAscend above (entries ++ last ∷ []) (below + 1)
ascend-push above below [] last is up = (omega arith, omega arith)
ascend-push above below (entry ∷ entries) last is up = (up.0, ascend-push entry.number below entries last is up.1)

pub ascend-replaced : (new : Active) (above below : ℕ) (entries : List Active) → NumbersAscend above entries below → NumbersAscend above (replaced new entries) below
ascend-replaced new above below [] up = up
ascend-replaced new above below (entry ∷ entries) up = grind (arith, nat_tests, ascend-replaced new entry.number below entries up.1)

-- a number lies between the two
pub between : (above below : ℕ) (entries : List Active) (entry : Active) → NumbersAscend above entries below → IsAmong entries entry → (above < entry.number) × (entry.number < below)
between above below [] entry up among = absurd among
between above below (one ∷ entries) entry up (inl same) =
    subst (λ (x : Active). (above < x.number) × (x.number < below)) same (up.0, last one.number entries up.1)
  where
    last : (low : ℕ) (entries : List Active) → NumbersAscend low entries below → low < below
    last low [] up = up
    last low (entry ∷ entries) up = omega (arith, up.0, last entry.number entries up.1)
between above below (one ∷ entries) entry up (inr among) = grind (arith, nat_tests, between one.number below entries entry up.1 among)

-- a number has one entry
pub one-entry : (above below : ℕ) (entries : List Active) (entry other : Active) → NumbersAscend above entries below
    → IsAmong entries entry → IsAmong entries other → entry.number ≡ other.number → entry ≡ other
one-entry above below [] entry other up first second same = absurd first
one-entry above below (one ∷ entries) entry other up first second same =
    grind (arith, nat_tests, between, one-entry one.number below entries entry other up.1)

-- an active entry is found by its number
pub found-among : (below : ℕ) (entries : List Active) (entry : Active) → NumbersAscend 0 entries below → IsAmong entries entry
    → find (λ (other : Active). other.number == entry.number) entries ≡ Some entry
found-among below entries entry up here = by_found (find (λ (other : Active). other.number == entry.number) entries) refl
  where
    by_found : (found : Option Active) → find (λ (other : Active). other.number == entry.number) entries ≡ found → found ≡ Some entry
    by_found None none = absurd (both_ways (entry.number == entry.number) (none-found (λ (other : Active). other.number == entry.number) entries none entry here) (eq-eqb entry.number entry.number refl))
    by_found (Some other) found = grind (arith, nat_tests, among-found (λ (other : Active). other.number == entry.number) entries other found, one-entry 0 below entries other entry up)

-- a consistent desk is orderly
pub orderly : (desk : Desk) → IsConsistent desk → IsOrderly desk
orderly desk is = record { whole = is.whole; few = is.few; active = is.active; held = is.held; no_cycle = is.no_cycle }
