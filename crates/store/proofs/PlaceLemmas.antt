-- Newest places by pages of lines.
use Rattle.store.proofs.Common.{inl, inr, refl, sym, ◌∙◌, ap, arith, length-overlaid, replicate, cases_eq, cases_lt, nat_tests, overlaid, overlaid_within, overlaid_before, overlaid_behind, ◌≡◌, ℕ, zero, suc, Bool, ◌+◌, ◌-◌, ◌/◌, ◌^◌, true, false, is_some, ◌<◌, ◌≤◌, List, [], ◌∷◌, length, Option, None, slice_index_or, IsClearedAt}
use Rattle.store.specs.declared.places.Places.TheInside.{Inside}

-- where no line has a place
pub all_none : (places : List (Option ℕ)) → ((line : ℕ) → line < length places → slice_index_or places line None ≡ None) → places ≡ replicate (length places) None
all_none [] none = refl
all_none (place ∷ places) none =
    let first : place ≡ None = none 0 (omega arith) in
    let rest = all_none places (λ line below. none (suc line) (omega (arith, below))) in
    cc

-- one item that is written over, and the others
pub item_here : {X : Type 0} (items : List X) (at : ℕ) (part d : X) → at < length items → slice_index_or (overlaid items at (part ∷ [])) at d ≡ part
item_here items at part d within =
    let none : at - at ≡ 0 = omega arith in
    overlaid_within items at (part ∷ []) at d (omega (arith, within)) (omega arith) (omega arith) ∙ ap (λ (n : ℕ). slice_index_or (part ∷ []) n d) none

pub item_other : {X : Type 0} (items : List X) (at k : ℕ) (part d : X) → at < length items → (k ≡ at → ⊥) → slice_index_or (overlaid items at (part ∷ [])) k d ≡ slice_index_or items k d
item_other items at k part d within other = elim (cases_lt k at) [
  | inl before ↦ overlaid_before items at (part ∷ []) k d (omega (arith, within)) before
  | inr behind ↦ overlaid_behind items at (part ∷ []) k d (omega (arith, within)) (omega (arith, behind, other))
]

-- no place
pub none_of : (place : Option ℕ) → is_some place ≡ false → place ≡ None
none_of place is = grind (arith, nat_tests)

-- a mark that isn't there
pub read_false : (marked : List Bool) (page : ℕ) → page < length marked → slice_index_or marked page false ≡ false → slice_index_or marked page true ≡ false
read_false [] page within is = absurd (omega (arith, within))
read_false (mark ∷ marked) zero within is = is
read_false (mark ∷ marked) (suc page) within is = read_false marked page (omega (arith, within)) is

-- lines of a page that is cleared up to one
pub cleared_more : (places : List (Option ℕ)) (first line : ℕ) → line < length places → ((k : ℕ) → first ≤ k → k < line → slice_index_or places k None ≡ None)
    → (k : ℕ) → first ≤ k → k < line + 1 → slice_index_or (overlaid places line (None ∷ [])) k None ≡ None
cleared_more places first line within before k low high = elim (cases_eq k line) [
  | inl same ↦ ap (λ (n : ℕ). slice_index_or (overlaid places line (None ∷ [])) n None) same ∙ item_here places line None None within
  | inr other ↦ item_other places line k None None within other ∙ before k low (omega (arith, high, other))
]

-- All lines of the first pages are cleared, of so many lines in all.
pub record Cleared (page long : ℕ) (places : Inside) : Type 0 where
  pub items : length places.items ≡ long
  pub few : long < 2 ^ 32
  pub pages : length places.marked ≡ long / 16 + 1
  pub cleared : (line : ℕ) → line / 16 < page → slice_index_or places.items line None ≡ None
  pub unmarked : (line : ℕ) → slice_index_or places.marked (line / 16) true ≡ false → slice_index_or places.items line None ≡ None

-- and of one page more, that had no mark, or whose lines were cleared
pub cleared_unmarked : (page long : ℕ) (places : Inside) → Cleared page long places → slice_index_or places.marked page true ≡ false → Cleared (page + 1) long places
cleared_unmarked page long places so_far none = record {
  items = so_far.items;
  few = so_far.few;
  pages = so_far.pages;
  cleared = λ line below. elim (cases_lt (line / 16) page) [
    | inl before ↦ so_far.cleared line before
    | inr here ↦ let same : page ≡ line / 16 = omega (arith, here, below) in so_far.unmarked line (ap (λ (n : ℕ). slice_index_or places.marked n true) (sym same) ∙ none)
  ];
  unmarked = so_far.unmarked;
}

pub cleared_marked : (page long : ℕ) (places : Inside) (items : List (Option ℕ)) → Cleared page long places → page < length places.marked → length items ≡ length places.items → IsClearedAt page places.items items
    → Cleared (page + 1) long (record { items = items; marked = overlaid places.marked page (false ∷ []) })
cleared_marked page long places items so_far within same here = record {
  items = same ∙ so_far.items;
  few = so_far.few;
  pages = length-overlaid places.marked page (false ∷ []) (omega (arith, within)) ∙ so_far.pages;
  cleared = λ line below. elim (cases_eq (line / 16) page) [
    | inl its ↦ here.none line its
    | inr other ↦ here.others line other ∙ so_far.cleared line (omega (arith, below, other))
  ];
  unmarked = λ line none. elim (cases_eq (line / 16) page) [
    | inl its ↦ here.none line its
    | inr other ↦ here.others line other ∙ so_far.unmarked line (sym (item_other places.marked page (line / 16) false true within other) ∙ none)
  ];
}
