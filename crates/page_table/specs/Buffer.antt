-- The look-aside buffer as sixteen lists of at most two pairs, the older first.
use Rattle.std.specs.Prelude.{◌≡◌, ◌≢◌, ℕ, ◌%◌, ◌==◌, not, if◌then◌else◌, Bool, List, [], ◌∷◌, ◌++◌, length, drop, filter, find, map, slice_set, slice_index_or, All, AllPairs, Option, Some, None, option_map}
use Rattle.std.specs.Option.{option_map_or}
use Rattle.page_table.specs.declared.key.Key.{Key}
use Rattle.page_table.specs.Placed.{is_same_key, look_up}
use Rattle.page_table.specs.Keys.{key_to}
use Rattle.page_table.specs.declared.tlb_model.Pair.{Pair}

-- the class of a page
abbrev pub class_of : Key → ℕ
class_of key = key.page % 16

-- the page of a pair
abbrev pub pair_page : Pair → Key
pair_page pair = key_to pair.segment pair.page

-- the pair of a page in a frame
abbrev pub pair_to : Key → ℕ → Pair
pair_to key frame = record { segment = key.segment; page = key.page; frame = frame }

-- whether a pair is of a page
abbrev pub is_pair_of : Key → Pair → Bool
is_pair_of wanted pair = is_same_key wanted (pair_page pair)

-- no two pairs are of the same page
abbrev pub AreApart : List Pair → Type 0
AreApart pairs = AllPairs (λ pair other. pair_page pair ≢ pair_page other) pairs

-- the pairs of a class
abbrev pub pairs_in : List (List Pair) → ℕ → List Pair
pairs_in classes class = slice_index_or classes class []

-- each pair is in the class of its page
abbrev pub ArePlaced : List (List Pair) → Type 0
ArePlaced classes = (class : ℕ) → All (λ pair. class_of (pair_page pair) ≡ class) (pairs_in classes class)

-- the frame of a page by the buffer alone
abbrev pub remembered : List (List Pair) → Key → Option ℕ
remembered classes wanted = option_map (λ pair. pair.frame) (find (is_pair_of wanted) (pairs_in classes (class_of wanted)))

-- the buffer has no pair of this page
abbrev pub LacksPair : List (List Pair) → Key → Type 0
LacksPair classes wanted = find (is_pair_of wanted) (pairs_in classes (class_of wanted)) ≡ None

-- a class with a new pair, last, after the first has gone where there were two
abbrev pub with_newest : List Pair → Pair → List Pair
with_newest pairs pair = (if length pairs == 2 then drop 1 pairs else pairs) ++ pair ∷ []

-- the buffer after the table answered
abbrev pub after_table : List (List Pair) → Key → Option ℕ → List (List Pair)
after_table classes wanted None = classes
after_table classes wanted (Some frame) =
    slice_set classes (class_of wanted) (with_newest (pairs_in classes (class_of wanted)) (pair_to wanted frame))

-- what a find answers: the buffer's frame if it remembers the page, else what the table answers
abbrev pub found : List (List Pair) → (by_table : Option ℕ) → Key → Option ℕ
found classes by_table wanted = option_map_or Some (remembered classes wanted) by_table

-- the buffer after a find: as it was if it remembers the page, else after the table answered
abbrev pub after_found : List (List Pair) → (by_table : Option ℕ) → Key → List (List Pair)
after_found classes by_table wanted = option_map_or (λ _. classes) (remembered classes wanted) (after_table classes wanted by_table)

-- the buffer without the pairs of a frame
abbrev pub forgotten : List (List Pair) → ℕ → List (List Pair)
forgotten classes frame = map (filter (λ pair. not (pair.frame == frame))) classes

-- each pair is in the table: this finds the page of the pair in its frame
abbrev pub IsOfTable : List (List Pair) → List (Option Key) → Type 0
IsOfTable classes keys = All (All (λ pair. look_up keys (pair_page pair) ≡ Some pair.frame)) classes

-- What a find of a page answers, and the buffer after it; where each pair is in the table, the answer is the table's, and each pair is in it again.
pub record LooksUp (old : List (List Pair)) (keys : List (Option Key)) (wanted : Key) (new : List (List Pair)) (result : Option ℕ) : Type 0 where
  pub answer : result ≡ found old (look_up keys wanted) wanted
  pub after : new ≡ after_found old (look_up keys wanted) wanted
  pub same : IsOfTable old keys → result ≡ look_up keys wanted
  pub kept : IsOfTable old keys → IsOfTable new keys
