-- Labels and values, as they are collected one after the other, and labels that stand nowhere before.
use Rattle.romp_asm.proofs.Common.{ints, take_more, sum_by-cons, sum_by_push, Statement, Place, label_noted, place_from, size_of, total_size, is_labelled, ◌≡◌, ℕ, pos, suc, ◌+◌, ◌^◌, ◌<◌, Bool, true, false, cond, List, [], ◌∷◌, ◌++◌, length, take, get_or, Option, Some, None, Result, Ok, Err, min, refl, arith, length-take-le, to_z, w64, nat_tests, ◌||◌, BTreeMap, le-ltb, cases_lt, get_or_default, found_in, IsLabelNew, AreAlone, LabelKey}
use Rattle.romp_asm.specs.declared.value.Known.{Known}

-- operands behind those that were read, of which some may have had no value
abbrev pub knowns_behind : List Known → Option ℕ → Result (List Known) ℕ → Result (List Known) ℕ
knowns_behind read None (Ok others) = Ok (read ++ others)
knowns_behind read None (Err kind) = Err kind
knowns_behind read (Some kind) (Ok others) = Err kind
knowns_behind read (Some kind) (Err other) = Err (min kind other)

noted_first : (first labelled : Bool) (place later : Place) (others after : Option Place) → after ≡ label_noted others labelled later → cond first (Some place) after ≡ label_noted (cond first (Some place) others) labelled later
noted_first true labelled place later others after e = refl
noted_first false labelled place later others after e = e

-- where a label stands after one statement more
pub place_push : (index at : ℕ) (xs : List Statement) (x : Statement) (word : List ℕ) → place_from index at (xs ++ x ∷ []) word ≡ label_noted (place_from index at xs word) (is_labelled word x) (record { statement = index + length xs; address = pos (at + total_size xs) })
unfolding place_from
place_push index at [] x word = grind (arith, nat_tests)
place_push index at (y ∷ xs) x word =
    let same_index : index + suc (length xs) ≡ index + 1 + length xs = omega arith in
    let same_address : at + total_size (y ∷ xs) ≡ at + size_of y.body + total_size xs = omega (arith, sum_by-cons (λ (statement : Statement). size_of statement.body) y xs) in
    rw (same_index, same_address) (noted_first (is_labelled word y) (is_labelled word x) (record { statement = index; address = pos at }) _ _ _ (place_push (index + 1) (at + size_of y.body) xs x word))

-- no label is noted yet
pub no_place : (start : ℕ) (word : List ℕ) → place_from 0 start [] word ≡ None
unfolding place_from
no_place start word = refl

-- the table after one statement more
pub place_more : (start : ℕ) (statements : List Statement) (i : ℕ) (statement : Statement) (word : List ℕ) (address : ℕ) → i < length statements → statement ≡ get_or statements i statement → address ≡ start + total_size (take i statements)
    → place_from 0 start (take (i + 1) statements) word ≡ label_noted (place_from 0 start (take i statements) word) (is_labelled word statement) (record { statement = i; address = pos address })
place_more start statements i statement word address inside here is =
    let front : length (take i statements) ≡ i = length-take-le i statements (omega arith) in
    let same_index : 0 + length (take i statements) ≡ i = omega arith in
    rw (take_more statements i statement inside, ← here, place_push 0 start (take i statements) statement word, same_index, ← is) refl

-- a number below 2^63 keeps its value with a sign
pub signed_same : (n : ℕ) → n < 2 ^ 63 → to_z w64 n ≡ pos n
signed_same n small = omega (arith, ints)

-- the bytes of one statement more
pub total_more : (statements : List Statement) (i : ℕ) (statement : Statement) → i < length statements → statement ≡ get_or statements i statement → total_size (take (i + 1) statements) ≡ total_size (take i statements) + size_of statement.body
total_more statements i statement inside here =
    rw (take_more statements i statement inside, ← here) (sum_by_push (λ statement. size_of statement.body) (take i statements) statement)

-- neither of two
pub or_none : (one two : Bool) → (one || two) ≡ false → (one ≡ false) × (two ≡ false)
or_none true two none = absurd (let no : ⊥ = cc in no)
or_none false two none = (refl, none)

abbrev Labels : Type 0
Labels = BTreeMap LabelKey Place

module _ (old new : Labels) (statement : Statement) (place : Place) (noted_is : (word : List ℕ) → found_in new word ≡ label_noted (found_in old word) (is_labelled word statement) place) where
  -- one statement more
  pub alone_more : (statements : List Statement) → place.statement < length statements → statement ≡ get_or statements place.statement statement → AreAlone old statements place.statement → IsLabelNew old statement → AreAlone new statements (place.statement + 1)
  alone_more statements within here alone is = grind (arith, nat_tests, cases_lt, le-ltb, alone, get_or_default)
