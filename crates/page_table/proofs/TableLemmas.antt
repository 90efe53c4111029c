-- Each pair of the buffer stays in the table where a frame enters, and where one leaves that the buffer forgot.
use Rattle.page_table.proofs.Common.{◌≡◌, ◌≢◌, ℕ, zero, suc, ◌+◌, ◌<◌, Bool, true, false, List, [], ◌∷◌, length, refl, sym, ◌∙◌, ap, arith, Some, None, All, ◌==◌, not, cond, filter, position, slice_index_or, slice_set, Option, length-set, get_or-set_same, get_or-set_other, All-nil, All-cons, All-head, All-tail, All-weaker, position-Some, Key, holds, key_in, look_up, Pair, pair_page, forgotten, IsOfTable, nat_tests, prefix_len}

-- the first place at which a list passes
prefix-is :
    (p : Option Key → Bool) (xs : List (Option Key)) (at : ℕ) → at < length xs → p (slice_index_or xs at None) ≡ true
    → ((k : ℕ) → k < at → p (slice_index_or xs k None) ≡ false) → prefix_len (λ x. not (p x)) xs ≡ at
prefix-is p [] at inside passes before = absurd (omega arith)
prefix-is p (x ∷ xs) zero inside passes before = ap (λ b. cond (not b) (1 + prefix_len (λ y. not (p y)) xs) 0) passes
prefix-is p (x ∷ xs) (suc at) inside passes before =
    ap (λ b. cond (not b) (1 + prefix_len (λ y. not (p y)) xs) 0) (before zero (omega arith))
    ∙ omega (arith, prefix-is p xs at (omega arith) passes (λ k less. before (suc k) (omega arith)))

position-is :
    (p : Option Key → Bool) (xs : List (Option Key)) (at : ℕ) → at < length xs → p (slice_index_or xs at None) ≡ true
    → ((k : ℕ) → k < at → p (slice_index_or xs k None) ≡ false) → position p xs ≡ Some at
position-is p xs at inside passes before = grind (arith, nat_tests, prefix-is)

-- it stays where another place changes to what doesn't pass
position-kept :
    (p : Option Key → Bool) (xs : List (Option Key)) (frame at : ℕ) (value : Option Key) → frame < length xs → position p xs ≡ Some at → p value ≡ false → frame ≢ at
    → position p (slice_set xs frame value) ≡ Some at
position-kept p xs frame at value inside is fails other =
    let told = position-Some p xs at None is in
    position-is p (slice_set xs frame value) at (omega (arith, length-set xs frame value, told.0))
    (ap p (get_or-set_other xs frame at value None (λ e. other (sym e))) ∙ told.1)
    (λ k less. grind (arith, nat_tests, told.2 k less, get_or-set_same, get_or-set_other, fails))

-- a frame left the table, and the buffer forgot it
left-pairs :
    (keys : List (Option Key)) (frame : ℕ) (pairs : List Pair) → frame < length keys → All (λ pair. look_up keys (pair_page pair) ≡ Some pair.frame) pairs
    → All (λ pair. look_up (slice_set keys frame None) (pair_page pair) ≡ Some pair.frame) (filter (λ pair. not (pair.frame == frame)) pairs)
left-pairs keys frame [] inside all = All-nil (λ pair. look_up (slice_set keys frame None) (pair_page pair) ≡ Some pair.frame)
left-pairs keys frame (pair ∷ pairs) inside all =
    let rest = left-pairs keys frame pairs inside
    (All-tail (λ pair. look_up keys (pair_page pair) ≡ Some pair.frame) pair pairs all) in
    let kept = position-kept (holds (pair_page pair)) keys frame pair.frame None inside
    (All-head (λ pair. look_up keys (pair_page pair) ≡ Some pair.frame) pair pairs all) refl in
    grind (arith, nat_tests, All-cons, rest, kept)

pub of_table-left : (classes : List (List Pair)) (keys : List (Option Key)) (frame : ℕ) → frame < length keys → IsOfTable classes keys → IsOfTable (forgotten classes frame) (slice_set keys frame None)
of_table-left [] keys frame inside all = All-nil (All (λ pair. look_up (slice_set keys frame None) (pair_page pair) ≡ Some pair.frame))
of_table-left (pairs ∷ classes) keys frame inside all =
    All-cons (All (λ pair. look_up (slice_set keys frame None) (pair_page pair) ≡ Some pair.frame)) (filter (λ pair. not (pair.frame == frame)) pairs) (forgotten classes frame)
    (left-pairs keys frame pairs inside (All-head (All (λ pair. look_up keys (pair_page pair) ≡ Some pair.frame)) pairs classes all))
    (of_table-left classes keys frame inside (All-tail (All (λ pair. look_up keys (pair_page pair) ≡ Some pair.frame)) pairs classes all))

-- a frame entered the table with a page that was in none
entered-pair :
    (keys : List (Option Key)) (frame : ℕ) (key : Key) → frame < length keys → key_in keys frame ≡ None → look_up keys key ≡ None
    → (pair : Pair) → look_up keys (pair_page pair) ≡ Some pair.frame → look_up (slice_set keys frame (Some key)) (pair_page pair) ≡ Some pair.frame
entered-pair keys frame key inside free absent pair is = grind (arith, nat_tests, position-kept, position-Some)

pub of_table-entered :
    (classes : List (List Pair)) (keys : List (Option Key)) (frame : ℕ) (key : Key) → frame < length keys → key_in keys frame ≡ None → look_up keys key ≡ None
    → IsOfTable classes keys → IsOfTable classes (slice_set keys frame (Some key))
of_table-entered classes keys frame key inside free absent all =
    All-weaker (All (λ pair. look_up keys (pair_page pair) ≡ Some pair.frame)) (All (λ pair. look_up (slice_set keys frame (Some key)) (pair_page pair) ≡ Some pair.frame))
    (λ pairs each. All-weaker (λ pair. look_up keys (pair_page pair) ≡ Some pair.frame) (λ pair. look_up (slice_set keys frame (Some key)) (pair_page pair) ≡ Some pair.frame)
    (entered-pair keys frame key inside free absent) pairs each) classes all
