-- The buffer after a pair came in, and after the pairs of a frame went.
use Rattle.page_table.proofs.Common.{same_lists, get_or_default, All-filter, ◌≡◌, ◌≢◌, inl, inr, subst, ℕ, suc, ◌<◌, List, [], ◌∷◌, ◌++◌, length, drop, map, refl, sym, ◌∙◌, ap, arith, Some, None, All, ◌==◌, not, filter, find, slice_index_or, slice_set, Option, get_or-map, map-set, length-map, All-push, All-drop, All-set, All-same, All-get_or, All-nil, All-cons, All-head, All-tail, all_pairs_push, Key, holds, look_up, position-Some, cases_eq, get_or-set_same, get_or-set_other, length-set, Pair, Ways, class_of, pair_page, pair_to, is_pair_of, pairs_in, remembered, after_table, after_found, with_newest, forgotten, AreApart, ArePlaced, IsOfTable, pairs_of, ways_without, AreClasses, nat_tests, option_map_or, get_or-eq_default}
use Rattle.std.proofs.lemmas.List.Kept.{AllPairs-filter}

pairs-without : (frame : ℕ) (ways : Ways) → pairs_of (ways_without frame ways) ≡ filter (λ pair. not (pair.frame == frame)) (pairs_of ways)
pairs-without frame ways = grind (arith, nat_tests)

pub classes-without : (frame : ℕ) (classes : List Ways) → map pairs_of (map (ways_without frame) classes) ≡ forgotten (map pairs_of classes) frame
classes-without frame [] = refl
classes-without frame (ways ∷ classes) = grind (arith, nat_tests, classes-without frame classes, pairs-without)

-- classes whose pairs are apart stay so without the pairs of a frame
forgotten-apart : (classes : List (List Pair)) (frame : ℕ) → All AreApart classes → All AreApart (forgotten classes frame)
forgotten-apart [] frame apart = All-nil AreApart
forgotten-apart (pairs ∷ classes) frame apart =
    All-cons AreApart (filter (λ pair. not (pair.frame == frame)) pairs) (forgotten classes frame)
    (AllPairs-filter (λ pair other. pair_page pair ≢ pair_page other) (λ pair. not (pair.frame == frame)) pairs (All-head AreApart pairs classes apart))
    (forgotten-apart classes frame (All-tail AreApart pairs classes apart))

-- where no pair of a class is of a page, each is of another
others : (wanted : Key) (pairs : List Pair) → find (is_pair_of wanted) pairs ≡ None → All (λ pair. pair_page pair ≢ wanted) pairs
others wanted [] none = All-nil (λ pair. pair_page pair ≢ wanted)
others wanted (pair ∷ pairs) none = grind (arith, nat_tests, others wanted pairs)

-- what holds of each pair holds of the one that is found, which is of the page
found-pair : (P : Pair → Type 0) (wanted : Key) (pairs : List Pair) (pair : Pair) → All P pairs → find (is_pair_of wanted) pairs ≡ Some pair → P pair × (pair_page pair ≡ wanted)
found-pair P wanted [] pair all is = absurd (cc)
found-pair P wanted (first ∷ pairs) pair all is =
    grind (arith, nat_tests, All-tail, All-head, found-pair P wanted pairs pair (All-tail P first pairs all))

-- what holds of each pair of the classes holds of each pair of one
inside-all : (P : Pair → Type 0) (classes : List (List Pair)) (class : ℕ) → (class < length classes → All P (pairs_in classes class)) → All P (pairs_in classes class)
inside-all P classes class all = grind (arith, nat_tests, get_or-eq_default)

pub class-all : (P : Pair → Type 0) (classes : List (List Pair)) (class : ℕ) → All (All P) classes → All P (pairs_in classes class)
class-all P classes class all = inside-all P classes class (λ below. All-get_or (All P) classes class [] below all)

-- pairs that stand in the classes of their pages stay there without those of a frame
forgotten-placed : (classes : List (List Pair)) (frame : ℕ) → ArePlaced classes → ArePlaced (forgotten classes frame)
forgotten-placed classes frame placed class =
    inside-all (λ pair. class_of (pair_page pair) ≡ class) (forgotten classes frame) class
    (λ below.
    All-same (λ pair. class_of (pair_page pair) ≡ class) _ _ (get_or-map (filter (λ pair. not (pair.frame == frame))) classes class [] [] (omega (arith, below, length-map classes (filter (λ pair. not (pair.frame == frame))))))
    (All-filter (λ pair. not (pair.frame == frame)) (λ pair. class_of (pair_page pair) ≡ class) (pairs_in classes class) (placed class)))

-- so classes stay as they are to be where the pairs of a frame went
pub still-classes : (classes after : List Ways) (frame : ℕ) → map pairs_of after ≡ forgotten (map pairs_of classes) frame → AreClasses classes → AreClasses after
still-classes classes after frame now are = record {
  apart = rw now (forgotten-apart (map pairs_of classes) frame are.apart);
  placed = rw now (forgotten-placed (map pairs_of classes) frame are.placed);
}

-- the frame of a pair that the buffer finds is the table's
pub remembered-of :
    (classes : List (List Pair)) (keys : List (Option Key)) (wanted : Key) (pair : Pair) → IsOfTable classes keys
    → find (is_pair_of wanted) (pairs_in classes (class_of wanted)) ≡ Some pair → look_up keys wanted ≡ Some pair.frame
remembered-of classes keys wanted pair all is =
    grind (
      arith,
      nat_tests,
      found-pair (λ p. look_up keys (pair_page p) ≡ Some p.frame) wanted (pairs_in classes (class_of wanted)) pair (class-all (λ p. look_up keys (pair_page p) ≡ Some p.frame) classes (class_of wanted) all) is,
      class-all (λ p. look_up keys (pair_page p) ≡ Some p.frame) classes (class_of wanted) all,
    )

-- of a page that the table lacks the buffer has no pair
pub unremembered :
    (classes : List (List Pair)) (keys : List (Option Key)) (wanted : Key) → IsOfTable classes keys → look_up keys wanted ≡ None
    → find (is_pair_of wanted) (pairs_in classes (class_of wanted)) ≡ None
unremembered classes keys wanted all none = grind (arith, nat_tests, remembered-of)

-- the pairs of a class with a new one: what holds of all before and of the new one holds of all
newest-all : (P : Pair → Type 0) (pairs : List Pair) (pair : Pair) → All P pairs → P pair → All P (with_newest pairs pair)
newest-all P pairs pair all new = grind (arith, nat_tests, All-push P (drop 1 pairs) pair (All-drop P 1 pairs all) new, All-push P pairs pair all new)

apart-rest : (pairs : List Pair) → AreApart pairs → AreApart (drop 1 pairs)
apart-rest [] apart = apart
apart-rest (pair ∷ pairs) apart = λ i j d before inside. apart (suc i) (suc j) d (omega arith) (omega arith)

apart-pushed : (pairs : List Pair) (pair : Pair) → AreApart pairs → All (λ other. pair_page other ≢ pair_page pair) pairs → AreApart (pairs ++ pair ∷ [])
apart-pushed pairs pair apart different =
    all_pairs_push (λ one other. pair_page one ≢ pair_page other) pairs pair apart
    (λ k d below. All-get_or (λ other. pair_page other ≢ pair_page pair) pairs k d below different)

-- a class stays apart, if the new pair is of a page of which it had none
pub newest-apart :
    (pairs : List Pair) (wanted : Key) (frame : ℕ) → AreApart pairs → find (is_pair_of wanted) pairs ≡ None → AreApart (with_newest pairs (pair_to wanted frame))
newest-apart pairs wanted frame apart none = grind (arith, nat_tests, drop, apart-pushed, apart-rest, others)

-- the pairs of a class by its ways
pub class-pairs : (classes : List Ways) (class : ℕ) (other : Ways) → class < length classes → pairs_in (map pairs_of classes) class ≡ pairs_of (slice_index_or classes class other)
class-pairs classes class other below = get_or-map pairs_of classes class other [] below

-- the pairs of a class are of different pages
pub class-apart : (classes : List Ways) (class : ℕ) (other : Ways) → class < length classes → AreClasses classes → AreApart (pairs_of (slice_index_or classes class other))
class-apart classes class other below are = grind (arith, nat_tests, class-pairs, length-map)

-- a pair came in for a page that the buffer didn't remember
added-pairs : (classes : List Ways) (wanted : Key) (frame : ℕ) (other new : Ways) → class_of wanted < length classes
    → pairs_of new ≡ with_newest (pairs_of (slice_index_or classes (class_of wanted) other)) (pair_to wanted frame)
    → map pairs_of (slice_set classes (class_of wanted) new) ≡ after_table (map pairs_of classes) wanted (Some frame)
added-pairs classes wanted frame other new below added = grind (arith, nat_tests, map-set, class-pairs)

pub after-added :
    (classes : List Ways) (wanted : Key) (frame : ℕ) (other new : Ways) → class_of wanted < length classes
    → find (is_pair_of wanted) (pairs_of (slice_index_or classes (class_of wanted) other)) ≡ None
    → pairs_of new ≡ with_newest (pairs_of (slice_index_or classes (class_of wanted) other)) (pair_to wanted frame)
    → map pairs_of (slice_set classes (class_of wanted) new) ≡ after_found (map pairs_of classes) (Some frame) wanted
after-added classes wanted frame other new below none added = grind (arith, nat_tests, added-pairs, class-pairs)

-- the pairs of the classes stand where they are to
added-placed : (classes : List (List Pair)) (wanted : Key) (frame : ℕ) → class_of wanted < length classes → ArePlaced classes
    → ArePlaced (slice_set classes (class_of wanted) (with_newest (pairs_in classes (class_of wanted)) (pair_to wanted frame)))
added-placed classes wanted frame below placed class = elim (cases_eq class (class_of wanted)) [
  | inl same ↦
      All-same (λ pair. class_of (pair_page pair) ≡ class) _ _ (ap (pairs_in (slice_set classes (class_of wanted) _)) same ∙ get_or-set_same classes (class_of wanted) _ [] below)
      (newest-all (λ pair. class_of (pair_page pair) ≡ class) (pairs_in classes (class_of wanted)) (pair_to wanted frame)
      (subst (λ n. All (λ pair. class_of (pair_page pair) ≡ class) (pairs_in classes n)) same (placed class)) (sym same))
  | inr differs ↦ All-same (λ pair. class_of (pair_page pair) ≡ class) _ _ (get_or-set_other classes (class_of wanted) class _ [] differs) (placed class)
]

-- the classes stay apart
pub added-apart :
    (classes : List Ways) (wanted : Key) (frame : ℕ) (other new : Ways) → class_of wanted < length classes → AreClasses classes
    → find (is_pair_of wanted) (pairs_of (slice_index_or classes (class_of wanted) other)) ≡ None
    → pairs_of new ≡ with_newest (pairs_of (slice_index_or classes (class_of wanted) other)) (pair_to wanted frame)
    → AreClasses (slice_set classes (class_of wanted) new)
added-apart classes wanted frame other new below are none added =
    let now = added-pairs classes wanted frame other new below added in
    let long : class_of wanted < length (map pairs_of classes) = omega (arith, below, length-map classes pairs_of) in
    record {
      apart = subst (λ (list : List (List Pair)). All AreApart list) (sym now)
          (All-set AreApart (map pairs_of classes) (class_of wanted) (with_newest (pairs_in (map pairs_of classes) (class_of wanted)) (pair_to wanted frame))
          (newest-apart (pairs_in (map pairs_of classes) (class_of wanted)) wanted frame (All-get_or AreApart (map pairs_of classes) (class_of wanted) [] long are.apart) (ap (find (is_pair_of wanted)) (class-pairs classes (class_of wanted) other below) ∙ none)) are.apart);
      placed = subst ArePlaced (sym now) (added-placed (map pairs_of classes) wanted frame long are.placed);
    }

-- a buffer whose pairs are in the table stays so where the table answered
pub after-of :
    (classes : List (List Pair)) (keys : List (Option Key)) (wanted : Key) → IsOfTable classes keys → IsOfTable (after_found classes (look_up keys wanted) wanted) keys
after-of classes keys wanted all = by_memory (remembered classes wanted)
  where
    by_table : (o : Option ℕ) → look_up keys wanted ≡ o → IsOfTable (after_table classes wanted o) keys
    by_table None is = all
    by_table (Some frame) is =
        All-set (All (λ pair. look_up keys (pair_page pair) ≡ Some pair.frame)) classes (class_of wanted) (with_newest (pairs_in classes (class_of wanted)) (pair_to wanted frame))
        (newest-all (λ pair. look_up keys (pair_page pair) ≡ Some pair.frame) (pairs_in classes (class_of wanted)) (pair_to wanted frame)
        (class-all (λ pair. look_up keys (pair_page pair) ≡ Some pair.frame) classes (class_of wanted) all) is) all

    by_memory : (o : Option ℕ) → IsOfTable (option_map_or (λ _. classes) o (after_table classes wanted (look_up keys wanted))) keys
    by_memory None = by_table (look_up keys wanted) refl
    by_memory (Some frame) = all

-- pages that a table finds in one frame have one number
one-page : (keys : List (Option Key)) (one other : Key) (frame : ℕ) → look_up keys one ≡ Some frame → look_up keys other ≡ Some frame → one.page ≡ other.page
one-page keys one other frame here there = grind (arith, nat_tests, position-Some (holds one) keys frame None here, position-Some (holds other) keys frame None there)

-- a class that isn't that of a page has no pair of the frame in which the table has the page
no-pair : (keys : List (Option Key)) (key : Key) (frame class : ℕ) (pairs : List Pair) → look_up keys key ≡ Some frame → class ≢ class_of key
    → All (λ pair. class_of (pair_page pair) ≡ class) pairs → All (λ pair. look_up keys (pair_page pair) ≡ Some pair.frame) pairs → filter (λ pair. not (pair.frame == frame)) pairs ≡ pairs
no-pair keys key frame class [] there other placed all = refl
no-pair keys key frame class (pair ∷ pairs) there other placed all =
    let rest = no-pair keys key frame class pairs there other
    (All-tail (λ p. class_of (pair_page p) ≡ class) pair pairs placed)
    (All-tail (λ p. look_up keys (pair_page p) ≡ Some p.frame) pair pairs all) in
    let here = All-head (λ p. class_of (pair_page p) ≡ class) pair pairs placed in
    let found = All-head (λ p. look_up keys (pair_page p) ≡ Some p.frame) pair pairs all in
    grind (arith, nat_tests, one-page keys (pair_page pair) key frame, rest, here, found)

-- so the pairs of that frame go where they go from the class of the page
pub forgotten-there :
    (classes : List Ways) (keys : List (Option Key)) (key : Key) (frame : ℕ) (other : Ways) → class_of key < length classes → AreClasses classes → IsOfTable (map pairs_of classes) keys → look_up keys key ≡ Some frame
    → map pairs_of (slice_set classes (class_of key) (ways_without frame (slice_index_or classes (class_of key) other))) ≡ forgotten (map pairs_of classes) frame
forgotten-there classes keys key frame other below are all there =
    map-set pairs_of classes (class_of key) (ways_without frame (slice_index_or classes (class_of key) other))
    ∙ same_lists (slice_set (map pairs_of classes) (class_of key) (pairs_of (ways_without frame (slice_index_or classes (class_of key) other)))) (forgotten (map pairs_of classes) frame)
    (length-set (map pairs_of classes) (class_of key) _ ∙ sym (length-map (map pairs_of classes) (filter (λ pair. not (pair.frame == frame)))))
    (λ k d inside.
    let within : k < length (map pairs_of classes) = omega (arith, inside, length-set (map pairs_of classes) (class_of key) (pairs_of (ways_without frame (slice_index_or classes (class_of key) other)))) in
    let then = get_or-map (filter (λ pair. not (pair.frame == frame))) (map pairs_of classes) k [] d within in
    elim (cases_eq k (class_of key)) [
      | inl same ↦
          ap (λ n. slice_index_or (slice_set (map pairs_of classes) (class_of key) (pairs_of (ways_without frame (slice_index_or classes (class_of key) other)))) n d) same
          ∙ get_or-set_same (map pairs_of classes) (class_of key) _ d (omega (arith, within, same))
          ∙ pairs-without frame (slice_index_or classes (class_of key) other)
          ∙ ap (filter (λ pair. not (pair.frame == frame))) (sym (class-pairs classes (class_of key) other below) ∙ ap (pairs_in (map pairs_of classes)) (sym same))
          ∙ sym then
      | inr differs ↦
          get_or-set_other (map pairs_of classes) (class_of key) k _ d differs
          ∙ sym (then ∙ no-pair keys key frame k (pairs_in (map pairs_of classes) k) there differs (are.placed k) (class-all (λ p. look_up keys (pair_page p) ≡ Some p.frame) (map pairs_of classes) k all)
          ∙ get_or_default (map pairs_of classes) k [] d within)
    ])
