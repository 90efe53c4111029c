-- The look-up along a chain is the look-up in the list.
use Rattle.page_table.proofs.Common.{◌≡◌, ℕ, zero, suc, ◌<◌, ◌≤◌, ◌⊎◌, Bool, true, false, List, [], ◌∷◌, length, refl, sym, ◌∙◌, ap, arith, inl, inr, Some, None, prefix_len, option_map_or, ltb-true, ltb-false, cases_lt, get_or-eq_default, has, Key, holds, key_in, look_up, chain_of, hash_of, IsChain, IsChained, nat_tests, ◌==◌, ◌&&◌, not, cond, find, nat_lt, slice_index_or, Option, position-Some}
use Rattle.page_table.proofs.ApartLemmas.{equal}

-- whether a frame holds a page
abbrev pub holds_it : List (Option Key) → Key → ℕ → Bool
holds_it keys wanted frame = holds wanted (key_in keys frame)

-- what holds a page is that page
pub held-is : (wanted : Key) (o : Option Key) → holds wanted o ≡ true → o ≡ Some wanted
held-is wanted o held = grind (arith, nat_tests)

pub is-held : (wanted : Key) (o : Option Key) → o ≡ Some wanted → holds wanted o ≡ true
is-held wanted o is = ap (holds wanted) is ∙ ap (λ (b : Bool). b && (wanted.page == wanted.page)) (equal wanted.segment) ∙ equal wanted.page

-- the first of a list that passes, and where none does
find-here : (p : ℕ → Bool) (xs : List ℕ) (x : ℕ) → has xs x ≡ true → p x ≡ true → ((y : ℕ) → p y ≡ true → y ≡ x) → find p xs ≡ Some x
find-here p [] x inside passes only = absurd (cc)
find-here p (y ∷ ys) x inside passes only = grind (arith, nat_tests, find-here p ys x)

find-none : (p : ℕ → Bool) (xs : List ℕ) → ((x : ℕ) → p x ≡ false) → find p xs ≡ None
find-none p [] none = refl
find-none p (x ∷ xs) none = grind (arith, none x, find-none p xs none)

-- along the keys: the first that holds the page, or none does
prefix-holds : (q : Option Key → Bool) (keys : List (Option Key)) → prefix_len (λ o. not (q o)) keys < length keys → q (slice_index_or keys (prefix_len (λ o. not (q o)) keys) None) ≡ true
prefix-holds q [] below = absurd (omega arith)
prefix-holds q (o ∷ keys) below = grind (arith, prefix-holds q keys)

prefix-all : (q : Option Key → Bool) (keys : List (Option Key)) (i : ℕ) → length keys ≤ prefix_len (λ o. not (q o)) keys → i < length keys → q (slice_index_or keys i None) ≡ false
prefix-all q [] i all below = absurd (omega arith)
prefix-all q (o ∷ keys) zero all below = grind arith
prefix-all q (o ∷ keys) (suc i) all below = grind (arith, prefix-all q keys i)

-- the look-up along the chain of a page's hash is the look-up in the list
pub chain-look_up :
    (anchors next : List (Option ℕ)) (keys : List (Option Key)) (wanted : Key) → IsChained anchors next keys → hash_of (length anchors) wanted < length anchors
    → find (holds_it keys wanted) (chain_of anchors next (hash_of (length anchors) wanted)) ≡ look_up keys wanted
chain-look_up anchors next keys wanted chained below =
    by_test (nat_lt (prefix_len (λ o. not (holds wanted o)) keys) (length keys)) refl
  where
    chain : IsChain anchors next keys (hash_of (length anchors) wanted)
    chain = chained.chains (hash_of (length anchors) wanted) below

    by_test :
        (b : Bool) → nat_lt (prefix_len (λ o. not (holds wanted o)) keys) (length keys) ≡ b
        → find (holds_it keys wanted) (chain_of anchors next (hash_of (length anchors) wanted)) ≡ cond b (Some (prefix_len (λ o. not (holds wanted o)) keys)) None
    by_test true is =
        let frame = prefix_len (λ o. not (holds wanted o)) keys in
        let held : holds wanted (key_in keys frame) ≡ true = prefix-holds (holds wanted) keys (ltb-true _ _ is) in
        let at : key_in keys frame ≡ Some wanted = held-is wanted (key_in keys frame) held in
        let inside : has (chain_of anchors next (hash_of (length anchors) wanted)) frame ≡ true =
        chain.has_its frame ∙ ap (λ (o : Option Key). option_map_or (λ key. hash_of (length anchors) key == hash_of (length anchors) wanted) o false) at ∙ equal (hash_of (length anchors) wanted) in
        find-here (holds_it keys wanted) (chain_of anchors next (hash_of (length anchors) wanted)) frame inside held
        (λ other holds_too. chained.once other frame wanted (held-is wanted (key_in keys other) holds_too) at)
    by_test false is =
        find-none (holds_it keys wanted) (chain_of anchors next (hash_of (length anchors) wanted)) (λ frame. none frame (cases_lt frame (length keys)))
      where
        none : (frame : ℕ) → (frame < length keys) ⊎ (length keys ≤ frame) → holds_it keys wanted frame ≡ false
        none frame (inl inside) = prefix-all (holds wanted) keys frame (ltb-false _ _ is) inside
        none frame (inr past) = ap (holds wanted) (get_or-eq_default keys None past)

-- where no frame holds a page, none does
pub look_up-none : (keys : List (Option Key)) (wanted : Key) → look_up keys wanted ≡ None → (frame : ℕ) → holds wanted (key_in keys frame) ≡ false
look_up-none keys wanted absent frame = grind (arith, nat_tests, prefix-all, get_or-eq_default)

-- the frame that is found holds the page
pub look_up-held : (keys : List (Option Key)) (wanted : Key) (frame : ℕ) → look_up keys wanted ≡ Some frame → (frame < length keys) × (key_in keys frame ≡ Some wanted)
look_up-held keys wanted frame is = grind (arith, nat_tests, position-Some, held-is)

-- a look-up answers the one frame that holds the page, or none
pub look_up-is :
    (keys : List (Option Key)) (wanted : Key) (o : Option ℕ) → ((frame : ℕ) → o ≡ Some frame → key_in keys frame ≡ Some wanted)
    → ((frame : ℕ) → key_in keys frame ≡ Some wanted → o ≡ Some frame) → look_up keys wanted ≡ o
look_up-is keys wanted o there only = by_found (look_up keys wanted) refl
  where
    by_held : (p : Option ℕ) → o ≡ p → look_up keys wanted ≡ None → None ≡ p
    by_held None is none = refl
    by_held (Some frame) is none =
        absurd (let clash : true ≡ false = sym (is-held wanted (key_in keys frame) (there frame is)) ∙ look_up-none keys wanted none frame in cc)

    by_found : (found : Option ℕ) → look_up keys wanted ≡ found → look_up keys wanted ≡ o
    by_found (Some frame) is = is ∙ sym (only frame (look_up-held keys wanted frame is).1)
    by_found None is = is ∙ by_held o refl is
