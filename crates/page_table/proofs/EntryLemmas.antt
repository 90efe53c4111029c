-- How many entries are of an identifier, where one is set and where those of one are cleared.
use Rattle.page_table.proofs.Common.{◌≡◌, ℕ, zero, suc, ◌+◌, ◌-◌, ◌<◌, ◌≤◌, List, [], ◌∷◌, length, refl, ◌∙◌, ap, arith, ◌==◌, map, cond, slice_index_or, slice_set, nat_tests, get_or-set_same, get_or-set_other, length-set, cleared_entry, replicate, get_or-replicate, length-replicate, slice_index, if◌then◌else◌, unowned, owned_by, Authority}

-- one that is set counts for its identifier in place of the one before it
pub count-set :
    (xs : List Authority) (p : ℕ) (value old : Authority) (tid : ℕ) → p < length xs → old ≡ slice_index_or xs p old
    → owned_by (slice_set xs p value) tid + cond (old.tid == tid) 1 0 ≡ owned_by xs tid + cond (value.tid == tid) 1 0
count-set [] p value old tid inside is = absurd (omega arith)
count-set (x ∷ xs) zero value old tid inside is = grind (arith, nat_tests, is)
count-set (x ∷ xs) (suc p) value old tid inside is = grind (arith, nat_tests, count-set xs p value old tid, is)

-- one that is there counts
pub count-some : (xs : List Authority) (p : ℕ) (old : Authority) → p < length xs → old ≡ slice_index_or xs p old → 1 ≤ owned_by xs old.tid
count-some [] p old inside is = absurd (omega arith)
count-some (x ∷ xs) zero old inside is = grind (arith, nat_tests, is)
count-some (x ∷ xs) (suc p) old inside is = grind (arith, nat_tests, count-some xs p old, is)

pub count-few : (xs : List Authority) (tid : ℕ) → owned_by xs tid ≤ length xs
count-few [] tid = omega arith
count-few (x ∷ xs) tid = grind (arith, nat_tests, count-few xs tid)

-- where those of an identifier are cleared, they are nobody's
pub count-clear :
    (tid : ℕ) (xs : List Authority) (other : ℕ)
    → owned_by (map (cleared_entry tid) xs) other
    ≡ (if other == 0 then (if tid == 0 then owned_by xs 0 else owned_by xs 0 + owned_by xs tid) else if other == tid then 0 else owned_by xs other)
count-clear tid [] other = grind (arith, nat_tests)
count-clear tid (x ∷ xs) other = grind (arith, nat_tests, count-clear tid xs other)

-- nothing is cleared where there is none
pub clear-none : (tid : ℕ) (xs : List Authority) → owned_by xs tid ≡ 0 → map (cleared_entry tid) xs ≡ xs
clear-none tid [] none = refl
clear-none tid (x ∷ xs) none = grind (arith, nat_tests, clear-none tid xs, none)

-- one that is cleared before the others
pub clear-first :
    (tid : ℕ) (xs : List Authority) (p : ℕ) → p < length xs → (slice_index_or xs p unowned).tid ≡ tid
    → map (cleared_entry tid) (slice_set xs p unowned) ≡ map (cleared_entry tid) xs
clear-first tid [] p inside own = absurd (omega arith)
clear-first tid (x ∷ xs) zero inside own = grind (arith, nat_tests, own)
clear-first tid (x ∷ xs) (suc p) inside own = grind (arith, nat_tests, clear-first tid xs p, own)

-- so many that are nobody's
pub count-fresh : (pages tid : ℕ) → owned_by (replicate pages unowned) tid ≡ (if tid == 0 then pages else 0)
count-fresh zero tid = grind (arith, nat_tests)
count-fresh (suc pages) tid = grind (arith, nat_tests, count-fresh pages tid)

-- the counts after one is set
pub counts-set :
    (owned : List ℕ) (xs : List Authority) (p : ℕ) (value old : Authority) (tid : ℕ) → length owned ≡ 256
    → ((t : ℕ) → t < 256 → slice_index owned t ≡ owned_by xs t) → p < length xs → old ≡ slice_index_or xs p old → old.tid < 256 → value.tid < 256 → tid < 256
    → slice_index (slice_set (slice_set owned old.tid (slice_index owned old.tid - 1)) value.tid (slice_index (slice_set owned old.tid (slice_index owned old.tid - 1)) value.tid + 1)) tid
    ≡ owned_by (slice_set xs p value) tid
counts-set owned xs p value old tid sized counted inside is low high below =
    let change = count-set xs p value old tid inside is in
    let some = count-some xs p old inside is in
    let now = counted tid below in
    let gone = counted old.tid low in
    let come = counted value.tid high in
    grind (arith, nat_tests, get_or-set_same, get_or-set_other, length-set, change, some, now, gone, come)

-- the counts after those of an identifier are cleared
pub counts-clear :
    (owned : List ℕ) (xs : List Authority) (tid count other : ℕ) → length owned ≡ 256
    → ((t : ℕ) → t < 256 → slice_index owned t ≡ owned_by xs t) → tid < 256 → count ≡ slice_index owned tid → other < 256
    → slice_index (slice_set (slice_set owned tid 0) 0 (slice_index (slice_set owned tid 0) 0 + count)) other ≡ owned_by (map (cleared_entry tid) xs) other
counts-clear owned xs tid count other sized counted low is below =
    let after = count-clear tid xs other in
    let now = counted other below in
    let first = counted 0 (omega arith) in
    let own = counted tid low in
    grind (arith, nat_tests, get_or-set_same, get_or-set_other, length-set, after, now, first, own, is)

-- the same of what was read and written
pub counts-set_by :
    (owned : List ℕ) (xs : List Authority) (page : ℕ) (value old : Authority) (from to place count next tid : ℕ) → length owned ≡ 256
    → ((t : ℕ) → t < 256 → slice_index owned t ≡ owned_by xs t) → page < length xs → old ≡ slice_index_or xs page old → tid < 256
    → from ≡ old.tid → from < 256 → to ≡ value.tid → to < 256 → place ≡ page → count ≡ slice_index owned from
    → next ≡ slice_index (slice_set owned from (count - 1)) to
    → slice_index (slice_set (slice_set owned from (count - 1)) to (next + 1)) tid ≡ owned_by (slice_set xs place value) tid
counts-set_by owned xs page value old from to place count next tid sized counted inside is below e1 low e2 high e3 e4 e5 =
    rw (e5, e4, e1, e2, e3) (counts-set owned xs page value old tid sized counted inside is (omega (arith, e1, low)) (omega (arith, e2, high)) below)

pub counts-clear_by :
    (owned : List ℕ) (xs : List Authority) (tid place count first other : ℕ) → length owned ≡ 256
    → ((t : ℕ) → t < 256 → slice_index owned t ≡ owned_by xs t) → place ≡ tid → place < 256 → count ≡ slice_index owned place → other < 256
    → first ≡ slice_index (slice_set owned place 0) 0
    → slice_index (slice_set (slice_set owned place 0) 0 (first + count)) other ≡ owned_by (map (cleared_entry tid) xs) other
counts-clear_by owned xs tid place count first other sized counted same low is below e =
    rw (e, same) (counts-clear owned xs tid count other sized counted (omega (arith, same, low)) (is ∙ ap (slice_index owned) same) below)

-- no count is more than there are entries
pub count-within : (owned : List ℕ) (xs : List Authority) (from to count : ℕ) → length owned ≡ 256 → ((t : ℕ) → t < 256 → slice_index owned t ≡ owned_by xs t)
    → from < 256 → to < 256 → count ≤ length xs → slice_index (slice_set owned from count) to ≤ length xs
count-within owned xs from to count sized counted low high few =
    let now = counted to high in
    let most = count-few xs to in
    grind (arith, nat_tests, get_or-set_same, get_or-set_other, now, most, few)

-- the counts at first
pub counts-fresh : (owned : List ℕ) (xs : List Authority) (pages count tid : ℕ) → owned ≡ replicate 256 0 → xs ≡ replicate pages unowned → count ≡ pages → tid < 256
    → slice_index (slice_set owned 0 count) tid ≡ owned_by xs tid
counts-fresh owned xs pages count tid e1 e2 e3 below =
    let fresh = ap (λ (list : List Authority). owned_by list tid) e2 ∙ count-fresh pages tid in
    let zeros = ap (λ (list : List ℕ). slice_index list tid) e1 ∙ get_or-replicate 256 tid 0 0 below in
    let long = ap length e1 ∙ length-replicate {A = ℕ} 256 0 in
    grind (arith, nat_tests, get_or-set_same, get_or-set_other, fresh, zeros, long, e3)
