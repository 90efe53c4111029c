-- A table after a word was put into it, and the place of a label with one statement more.
use Rattle.romp_asm.proofs.Common.{◌≡◌, ℕ, Bool, cond, false, is_some, List, Option, Some, Place, Statement, is_labelled, label_noted, refl, ap, ◌∙◌, arith, bytes_eq, BTreeMap, found_in, nat_tests, bytes_eq-Decides, UpdatesBy, get_by, LabelKey, word_number}
use Rattle.std.proofs.lemmas.Map.Text.{is_eq-slice_cmp}
use Rattle.std.specs.Cmp.Lexicographic.{slice_cmp}
use Rattle.std.specs.Ordering.{is_eq, nat_cmp, ordering_then}

-- two words are the same in a table exactly where their bytes are
same_word : (word other : List ℕ) → is_eq (ordering_then (nat_cmp (word_number word) (word_number other)) (slice_cmp nat_cmp word other)) ≡ bytes_eq word other
same_word word other = grind (arith, nat_tests, bytes_eq-Decides, is_eq-slice_cmp)

-- what a table has at a word's key
pub found_by_key : {V : Type 0} (word : List ℕ) (key : LabelKey) (m : BTreeMap LabelKey V) → key.0 ≡ word_number word → key.1.now ≡ word
    → get_by (λ k. ordering_then (nat_cmp key.0 k.0) (slice_cmp nat_cmp key.1.now k.1.now)) m ≡ found_in m word
found_by_key word key m number bytes = rw (number, bytes) refl

-- what a table has at any word after one was put into it or changed
pub word_updates : {V : Type 0} (word : List ℕ) (key : LabelKey) (m n : BTreeMap LabelKey V) (value : Option V) → key.0 ≡ word_number word → key.1.now ≡ word
    → UpdatesBy (λ x y. ordering_then (nat_cmp x.0 y.0) (slice_cmp nat_cmp x.1.now y.1.now)) (λ k. ordering_then (nat_cmp key.0 k.0) (slice_cmp nat_cmp key.1.now k.1.now)) m n value
    → (other : List ℕ) → found_in n other ≡ cond (bytes_eq word other) value (found_in m other)
word_updates word key m n value number bytes updates other =
    updates.0 (word_number other, record { ref_ptr = key.1.ref_ptr; now = other })
    ∙ ap (λ (test : Bool). cond test value (found_in m other)) (rw (number, bytes) (same_word word other))

-- a label that had no place gets this one, and the others keep theirs
pub noted_new : (before : List ℕ → Option Place) (label word : List ℕ) (place : Place) → false ≡ is_some (before label) → cond (bytes_eq label word) (Some place) (before word) ≡ label_noted (before word) (bytes_eq label word) place
noted_new before label word place none = grind (arith, nat_tests, bytes_eq-Decides, before)

-- the same at a statement with this label
pub noted_label : (before : List ℕ → Option Place) (statement : Statement) (label text word : List ℕ) (place : Place) → statement.label ≡ Some label → text ≡ label → false ≡ is_some (before text) → cond (bytes_eq text word) (Some place) (before word) ≡ label_noted (before word) (is_labelled word statement) place
noted_label before statement label text word place has same none = grind (arith, nat_tests, noted_new)

-- a label that had a place gets it back, and the others keep theirs
pub noted_back : (before : List ℕ → Option Place) (statement : Statement) (label text word : List ℕ) (place first : Place) → statement.label ≡ Some label → text ≡ label → before text ≡ Some first → cond (bytes_eq text word) (Some first) (cond (bytes_eq text word) (Some place) (before word)) ≡ label_noted (before word) (is_labelled word statement) place
noted_back before statement label text word place first has same here = grind (arith, nat_tests, bytes_eq-Decides, before, here)
