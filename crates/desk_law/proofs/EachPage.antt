-- Grant once each of some pages has the one that is told of it.
use Rattle.desk_law.proofs.Common.{◌≡◌, refl, ℕ, ◌<◌, suc, true, false, List, [], ◌∷◌, length, slice_index_or, slice_set, arith, ◌∙◌, length-set, get_or-set_same, get_or-set_other, get_or_past, has, Grant, nobody, with_each, nat_tests}

pub length-each : (of : ℕ → Grant) (pages : List ℕ) (authority : List Grant) → length (with_each of pages authority) ≡ length authority
length-each of [] authority = refl
length-each of (page ∷ pages) authority = length-each of pages (slice_set authority page (of page)) ∙ length-set authority page (of page)

pub each-not : (of : ℕ → Grant) (pages : List ℕ) (authority : List Grant) (page : ℕ) → has pages page ≡ false
    → slice_index_or (with_each of pages authority) page nobody ≡ slice_index_or authority page nobody
each-not of [] authority page out = refl
each-not of (one ∷ pages) authority page out = grind (arith, nat_tests, each-not of pages (slice_set authority one (of one)) page, get_or-set_other authority one page (of one) nobody)

pub each-is : (of : ℕ → Grant) (pages : List ℕ) (authority : List Grant) (page : ℕ) → page < length authority → has pages page ≡ true
    → slice_index_or (with_each of pages authority) page nobody ≡ of page
each-is of [] authority page below inside = absurd (cc)
each-is of (one ∷ pages) authority page below inside =
    grind (arith, nat_tests, each-not, length-set, get_or-set_same, each-is of pages (slice_set authority one (of one)) page)

-- What holds of nobody, of what is told of a page that is among these, and of what any other page had, holds of what the page has.
pub each-all : (P : Grant → Type 0) (of : ℕ → Grant) (pages : List ℕ) (authority : List Grant) (page : ℕ) → P nobody → (has pages page ≡ true → P (of page))
    → (has pages page ≡ false → P (slice_index_or authority page nobody)) → P (slice_index_or (with_each of pages authority) page nobody)
each-all P of pages authority page past is out = grind (arith, nat_tests, each-not, each-is, get_or_past, length-each)

pub each-same : (of other : ℕ → Grant) (pages : List ℕ) (authority : List Grant) → ((page : ℕ) → of page ≡ other page)
    → with_each of pages authority ≡ with_each other pages authority
each-same of other [] authority same = refl
each-same of other (page ∷ pages) authority same = grind (arith, nat_tests, each-same of other pages (slice_set authority page (other page)) same)

list-same : (xs ys : List Grant) → length xs ≡ length ys → ((i : ℕ) → i < length xs → slice_index_or xs i nobody ≡ slice_index_or ys i nobody) → xs ≡ ys
list-same [] [] long same = refl
list-same (x ∷ xs) (y ∷ ys) long same =
    λ i. same 0 (omega arith) i ∷ list-same xs ys (omega (arith, long)) (λ at below. same (suc at) (omega (arith, below))) i
list-same _ _ long same = absurd (omega (arith, long))

-- Which pages they are is all that counts, and not their order.
pub each-alike : (of : ℕ → Grant) (xs ys : List ℕ) (authority : List Grant) → ((page : ℕ) → has xs page ≡ has ys page)
    → with_each of xs authority ≡ with_each of ys authority
each-alike of xs ys authority same = grind (arith, nat_tests, list-same, length-each, each-is, each-not)
