-- The pages of which something is held, as they are listed and ascend, and how many lines are held to write.
use Rattle.seats.proofs.Common.{range_with_len, arith, ap, sym, ◌∙◌, subst, get_or, get_or-set_same, get_or-set_other, eqb-true, eqb-false, eq-eqb, or_parts, or_left, or_right, not-false, get_or-replicate, length_push, nil_from_length, get_or_past, same_lists, get_or_default, length-replicate, has, meets, size, has-append, in_range, size-part, size-range, size-apart, IsOfPage, union, is_in_where-below, of_page-below, Want, nothing, of_page, holds_some, together, some_conflict, AreListed, nat_tests, ◌≡◌, refl, ℕ, zero, suc, ◌+◌, ◌<◌, ◌==◌, ◌&&◌, not, if◌then◌else◌, Bool, true, false, List, [], ◌∷◌, ◌++◌, length, replicate, slice_set, insert, IsPermutation, IsBinarySearchResult, inl, inr, both_ways, cases_lt, size-alike, Ascend, ◌≢◌, ◌-◌, ◌≤◌, ◌⊎◌, Result, Ok, Err, sum_by-le, sum_by-replicate, All-replicate, AreLinesCounted, ◌*◌}
use Rattle.std.specs.Ordering.{nat_cmp}
use Rattle.std.specs.Result.{MatchResult}
use Rattle.std.proofs.lemmas.List.Edits.{get_or-insert_below, get_or-insert_at, get_or-insert_above, length-insert}
use Rattle.std.proofs.lemmas.List.Sorted.{IsPermutation-trans, IsPermutation-to_front, IsPermutation-insert, list_any-IsPermutation, length_permutation, searched}

-- where nothing is held, no line is
pub none-held : (held : List ℕ × List ℕ) → holds_some held ≡ false → held ≡ nothing
none-held held none = grind (arith, nat_tests, or_parts, nil_from_length, eqb-true, not-false)

-- with more lines something is held still
some-union : (set other : List ℕ) → IsOfPage set → (length (union set other) == 0) ≡ true → (length set == 0) ≡ true
some-union [] other of none = refl
some-union (x ∷ xs) other of none =
    let below : x < 16 = of_page-below (x ∷ xs) of x (grind (arith, nat_tests)) in
    let there : has (union (x ∷ xs) other) x ≡ true = grind (arith, nat_tests, is_in_where-below) in
    absurd (empty (union (x ∷ xs) other) x (eqb-true (length (union (x ∷ xs) other)) 0 none) there)
  where
    empty : (lines : List ℕ) (line : ℕ) → length lines ≡ 0 → has lines line ≡ true → ⊥
    empty [] line none there = cc
    empty (y ∷ ys) line none there = omega (arith, none)

pub some-more : (held : List ℕ × List ℕ) (want : Want) → IsOfPage held.0 → IsOfPage held.1 → holds_some held ≡ true → holds_some (together held want) ≡ true
some-more held want reads writes some = grind (arith, nat_tests, some-union)

-- what stands at a place is there
pub has-at : (list : List ℕ) (k d : ℕ) → k < length list → has list (get_or list k d) ≡ true
has-at [] k d within = absurd (omega (arith, within))
has-at (x ∷ list) zero d within = grind (arith, nat_tests)
has-at (x ∷ list) (suc k) d within = grind (arith, has-at list k d)

module _ (pages : List (List ℕ × List ℕ)) (listed : List ℕ) (are : AreListed pages listed) where
  -- a listed page is one of the pages
  pub listed-below : (page : ℕ) → has listed page ≡ true → page < length pages
  listed-below page inside = grind (arith, nat_tests, get_or_past)

  pub listed-at : (k d : ℕ) → k < length listed → get_or listed k d < length pages
  listed-at k d within = listed-below (get_or listed k d) (has-at listed k d within)

  -- so there is room for a page more where it isn't listed
  pub room : (page : ℕ) → page < length pages → holds_some (of_page pages page) ≡ false → length listed < length pages
  room page below none =
      let free : has listed page ≡ false = are.each page ∙ none in
      let new : size (page ∷ listed) ≡ suc (size listed) = grind (arith, free) in
      let part = size-part (page ∷ listed) (range_with_len 0 (length pages)) (record {
        among = λ x inside. let less = listed-below x in in_range 0 (length pages) x (omega arith) (grind (arith, nat_tests, less));
      }) in
      omega (arith, part, new, are.once, size-range 0 (length pages))

  -- a page changes of which something was held exactly where something is held now
  pub listed-same : (page : ℕ) (new : List ℕ × List ℕ) → page < length pages → holds_some new ≡ holds_some (of_page pages page) → AreListed (slice_set pages page new) listed
  listed-same page new below same = grind (arith, nat_tests, eqb-true, get_or-set_same, get_or-set_other, eqb-false)

  -- or something is held of it for the first time
  pub listed-more : (page : ℕ) (new : List ℕ × List ℕ) → page < length pages → holds_some (of_page pages page) ≡ false → holds_some new ≡ true
      → AreListed (slice_set pages page new) (listed ++ page ∷ [])
  listed-more page new below none some = grind (arith, nat_tests, size-apart, has-append, eqb-true, length_push, or_right, or_left, get_or-set_same, get_or-set_other, eq-eqb)

  -- and so it is after any change that lists the page where it is the first time that something is held of it
  pub listed-next : (page : ℕ) (new : List ℕ × List ℕ) (first : Bool) (list : List ℕ) → page < length pages
      → (holds_some (of_page pages page) ≡ true → holds_some new ≡ true) → first ≡ (not (holds_some (of_page pages page)) && holds_some new)
      → list ≡ (if first then listed ++ page ∷ [] else listed) → AreListed (slice_set pages page new) list
  listed-next page new first list below still is_first is =
      rw (is, is_first) (grind (arith, nat_tests, still, listed-same page new below, listed-more page new below))

-- nothing is listed where nothing is held
pub listed-none : (count : ℕ) → AreListed (replicate count nothing) []
listed-none count = grind (arith, nat_tests, get_or-replicate, get_or_past, length-replicate)

-- pages of which nothing is held
pub all-none : (pages : List (List ℕ × List ℕ)) (count : ℕ) → length pages ≡ count → ((page : ℕ) → of_page pages page ≡ nothing) → pages ≡ replicate count nothing
all-none pages count long none =
    same_lists pages (replicate count nothing) (long ∙ sym (length-replicate count nothing))
    (λ k d within. get_or_default pages k d nothing within ∙ none k ∙ sym (get_or-replicate count k nothing d (omega (arith, within, long))))

-- where no page is listed, nothing is in conflict with what is held
pub none-conflicts : (pages : List (List ℕ × List ℕ)) → AreListed pages [] → (wants : List Want) → some_conflict pages wants ≡ false
none-conflicts pages are [] = refl
none-conflicts pages are (want ∷ wants) =
    grind (arith, none-held (of_page pages want.page), are.each want.page, free want.writes, free want.reads, none-conflicts pages are wants)
  where
    free : (set : List ℕ) → meets set [] ≡ false
    free [] = refl
    free (x ∷ set) = free set

-- a page comes between those before it and those behind it
pub ascend-insert : (list : List ℕ) (at page : ℕ) → at ≤ length list → Ascend list → has list page ≡ false
    → ((k d : ℕ) → k < at → get_or list k d < page) → ((k d : ℕ) → at ≤ k → k < length list → page ≤ get_or list k d)
    → Ascend (insert list at page)
ascend-insert list at page within ascend absent before behind i j d less inside = by_place (cases_lt j at) (cases_lt at j) (cases_lt i at) (cases_lt at i)
  where
    long : length (insert list at page) ≡ length list + 1
    long = length-insert list at page within

    low : (k : ℕ) → k < at → get_or (insert list at page) k d ≡ get_or list k d
    low k below = get_or-insert_below list at page d k below within

    high : (k : ℕ) → at < k → get_or (insert list at page) k d ≡ get_or list (k - 1) d
    high k above = let back : k - 1 + 1 ≡ k = omega (arith, above) in ap (λ (n : ℕ). get_or (insert list at page) n d) (sym back) ∙ get_or-insert_above list at page d (k - 1) (omega (arith, above)) within

    here : (k : ℕ) → k ≡ at → get_or (insert list at page) k d ≡ page
    here k same = ap (λ (n : ℕ). get_or (insert list at page) n d) same ∙ get_or-insert_at list at page d within

    over : (k : ℕ) → at ≤ k → k < length list → page < get_or list k d
    over k from to =
        let other : get_or list k d ≢ page = λ same. absurd (both_ways (has list page) absent (ap (has list) (sym same) ∙ has-at list k d to)) in
        omega (arith, behind k d from to, other)

    by_place : (j < at) ⊎ (at ≤ j) → (at < j) ⊎ (j ≤ at) → (i < at) ⊎ (at ≤ i) → (at < i) ⊎ (i ≤ at) → get_or (insert list at page) i d < get_or (insert list at page) j d
    by_place (inl j_low) _ _ _ = omega (arith, low i (omega (arith, j_low, less)), low j j_low, ascend i j d less (omega (arith, j_low, within)))
    by_place (inr j_from) (inr j_to) _ _ =
        let same : j ≡ at = omega (arith, j_from, j_to) in
        omega (arith, here j same, low i (omega (arith, same, less)), before i d (omega (arith, same, less)))
    by_place (inr j_from) (inl j_high) (inl i_low) _ =
        let last : j - 1 < length list = omega (arith, inside, long, j_high) in
        omega (arith, low i i_low, high j j_high, before i d i_low, over (j - 1) (omega (arith, j_high)) last)
    by_place (inr j_from) (inl j_high) (inr i_from) (inl i_high) =
        let last : j - 1 < length list = omega (arith, inside, long, j_high) in
        omega (arith, high i i_high, high j j_high, ascend (i - 1) (j - 1) d (omega (arith, less, i_high)) last)
    by_place (inr j_from) (inl j_high) (inr i_from) (inr i_to) =
        let same : i ≡ at = omega (arith, i_from, i_to) in
        let last : j - 1 < length list = omega (arith, inside, long, j_high) in
        omega (arith, here i same, high j j_high, over (j - 1) (omega (arith, j_high)) last)

pub insert-moves : (list : List ℕ) (at page : ℕ) → IsPermutation (list ++ page ∷ []) (insert list at page)
insert-moves list at page = IsPermutation-trans (list ++ page ∷ []) (page ∷ list) (insert list at page) (IsPermutation-to_front list page) (IsPermutation-insert list at page)

-- pages that are listed in another order
pub listed-moved : (pages : List (List ℕ × List ℕ)) (list other : List ℕ) → IsPermutation list other → AreListed pages list → AreListed pages other
listed-moved pages list other moved are = record {
  each = λ page. sym (same page) ∙ are.each page;
  once = sym (size-alike list other (record { among = λ page inside. sym (same page) ∙ inside }) (record { among = λ page inside. same page ∙ inside }))
      ∙ are.once ∙ sym (length_permutation list other moved);
}
  where
    same : (page : ℕ) → has list page ≡ has other page
    same page = list_any-IsPermutation (λ y. y == page) list other moved

-- a search among pages that ascend
module _ (list : List ℕ) (ascend : Ascend list) where
  pub not-less : (i j : ℕ) → i ≤ j → j < length list → get_or list i 0 ≤ get_or list j 0
  not-less i j less within = elim (cases_lt i j) [
    | inl below ↦ let is = ascend i j 0 below within in omega (arith, is)
    | inr same ↦ let is = ap (λ (n : ℕ). get_or list n 0) (let e : i ≡ j = omega (arith, less, same) in e) in omega (arith, is)
  ]

  module _ (page : ℕ) (result : Result ℕ ℕ) (is : IsBinarySearchResult (λ y. nat_cmp y page) list result) where
    answer : MatchResult result (λ at. (at < length list) × (get_or list at 0 ≡ page))
        (λ at. (at ≤ length list) × ((k : ℕ) → k < at → get_or list k 0 < page) × ((k : ℕ) → at ≤ k → k < length list → page < get_or list k 0))
    answer = searched list page result is not-less

    pub found : (at : ℕ) → result ≡ Ok at → (at < length list) × (get_or list at 0 ≡ page)
    found at e =
        subst (λ (r : Result ℕ ℕ). MatchResult r (λ at. (at < length list) × (get_or list at 0 ≡ page))
        (λ at. (at ≤ length list) × ((k : ℕ) → k < at → get_or list k 0 < page) × ((k : ℕ) → at ≤ k → k < length list → page < get_or list k 0))) e answer

    pub missed : (at : ℕ) → result ≡ Err at → (at ≤ length list) × ((k : ℕ) → k < at → get_or list k 0 < page) × ((k : ℕ) → at ≤ k → k < length list → page < get_or list k 0)
    missed at e =
        subst (λ (r : Result ℕ ℕ). MatchResult r (λ at. (at < length list) × (get_or list at 0 ≡ page))
        (λ at. (at ≤ length list) × ((k : ℕ) → k < at → get_or list k 0 < page) × ((k : ℕ) → at ≤ k → k < length list → page < get_or list k 0))) e answer

    -- what lies before and behind
    pub found-before : (at : ℕ) → result ≡ Ok at → (k d : ℕ) → k < at → get_or list k d < page
    found-before at e k d less =
        let (within, here) = found at e in
        omega (arith, ascend k at d less within, get_or_default list at d 0 within, here)

    pub found-behind : (at : ℕ) → result ≡ Ok at → (k d : ℕ) → at ≤ k → k < length list → page ≤ get_or list k d
    found-behind at e k d from to =
        let (within, here) = found at e in
        omega (arith, not-less at k from to, get_or_default list k d 0 to, here)

    pub missed-before : (at : ℕ) → result ≡ Err at → (k d : ℕ) → k < at → get_or list k d < page
    missed-before at e k d less =
        let (within, low, high) = missed at e in
        omega (arith, low k less, get_or_default list k d 0 (omega (arith, less, within)))

    pub missed-behind : (at : ℕ) → result ≡ Err at → (k d : ℕ) → at ≤ k → k < length list → page ≤ get_or list k d
    missed-behind at e k d from to =
        let (within, low, high) = missed at e in
        omega (arith, high k from to, get_or_default list k d 0 to)

-- they are few
pub all_few : (pages : List (List ℕ × List ℕ)) (written : ℕ) → AreLinesCounted pages written → written ≤ 16 * 65535
all_few pages written kept = omega (arith, kept.counted, kept.few, sum_by-le (λ (held : List ℕ × List ℕ). length held.1) 16 pages kept.lines)

-- none are held where nothing is
pub none-counted : (count : ℕ) → count < 65536 → AreLinesCounted (replicate count nothing) 0
none-counted count few = record {
  few = omega (arith, few, length-replicate count nothing);
  lines = All-replicate (λ (held : List ℕ × List ℕ). length held.1 ≤ 16) count nothing (omega arith);
  counted = sym (sum_by-replicate (λ (held : List ℕ × List ℕ). length held.1) count nothing ∙ (let none : count * 0 ≡ 0 = omega arith in none));
}
