-- The mnemonics, from what was computed of them.
use Rattle.romp_table.proofs.Common.{IfSome, IfNone, slice_get, option_map, slice_get-map, op_place, mnemonic, op_named, slot_of, Op, Row, TABLE, NAMES, SLOTS, ◌≡◌, ◌≢◌, ℕ, true, false, List, Option, Some, None, map, sym, ap, ◌∙◌, subst, arith, get_or, refl, slice_index, get_or_from_slice_get}
use Rattle.std.specs.Str.{bytes_eq}
use Rattle.std.proofs.lemmas.Slice.Eq.{bytes_eq-Decides}
use Rattle.romp_table.proofs.Computed.{names_ordered, names_computed, slots_computed}
use Rattle.romp_table.proofs.Lists.{find_passes, found_within}
use Rattle.romp_table.proofs.TableLemmas.{place_below, op_at_place}

some_told : {A : Type 0} (x y : A) → Some x ≡ Some y → x ≡ y
some_told x y e = grind arith

-- what a list made of the rows has at the place of an operation
made_at : {A : Type 0} (f : Op → A) (op : Op) → slice_get (map (λ row. f row.op) TABLE) (op_place op) ≡ Some (f op)
made_at f op =
    let (row, e) = found_within TABLE (op_place op) (place_below op) in
    slice_get-map (λ row. f row.op) TABLE (op_place op)
    ∙ ap (option_map (λ row. f row.op)) e
    ∙ ap (λ op. Some (f op)) (op_at_place op row e)

-- the mnemonic at the place of an operation is its own
pub mnemonic_at_place : (op : Op) (name : List ℕ) → slice_get (map (λ name. name.now) NAMES) (op_place op) ≡ Some name → name ≡ mnemonic op
mnemonic_at_place op name e = some_told _ _ (sym e ∙ ap (λ names. slice_get names (op_place op)) names_ordered ∙ made_at mnemonic op)

-- the operation of its mnemonic is an operation itself
pub named_back : (op : Op) → op_named (mnemonic op) ≡ Some op
named_back op =
    some_told _ _ (sym (made_at (λ op. op_named (mnemonic op)) op)
    ∙ ap (λ names. slice_get names (op_place op)) names_computed
    ∙ made_at Some op)

same_bytes : (xs ys : List ℕ) → bytes_eq xs ys ≡ true → xs ≡ ys
same_bytes xs ys e = grind (arith, bytes_eq-Decides)

-- what a word names has the word for its mnemonic
named_some : (word : List ℕ) (op : Op) → op_named word ≡ Some op → mnemonic op ≡ word
unfolding op_named
named_some word op e = same_bytes (mnemonic op) word (find_passes (λ op. bytes_eq (mnemonic op) word) (map (λ row. row.op) TABLE) op e)

-- a row that was found at a place is the one there
pub not_named : (rows : List Row) (found place : ℕ) (row other : Row) (name word : List ℕ) → found ≡ place → row ≡ get_or rows found row → slice_get rows place ≡ Some other
    → name ≡ mnemonic row.op → bytes_eq name word ≡ false → mnemonic other.op ≢ word
not_named rows found place row other name word at is there has differs same =
    let one : row ≡ other = is ∙ get_or_from_slice_get rows found other row (ap (slice_get rows) at ∙ there) in
    let named : name ≡ word = has ∙ ap (λ row. mnemonic row.op) one ∙ same in
    grind (arith, bytes_eq-Decides, named, differs)

-- the slot of a mnemonic leads to the place of its operation
at_slot : (op : Op) → slice_index SLOTS (slot_of (mnemonic op)) ≡ op_place op
at_slot op =
    some_told _ _ (sym (made_at (λ op. slice_index SLOTS (slot_of (mnemonic op))) op) ∙ ap (λ places. slice_get places (op_place op)) slots_computed ∙ made_at op_place op)

-- an operation that has the word for its mnemonic is the one that it names, and it names none where the row at its slot has another
pub named_as : (word : List ℕ) (o : Option Op) → IfSome o (λ op. mnemonic op ≡ word)
    → IfNone o ((row : Row) → slice_get TABLE (slice_index SLOTS (slot_of word)) ≡ Some row → mnemonic row.op ≢ word) → o ≡ op_named word
named_as word (Some op) some none = sym (named_back op) ∙ ap op_named some
named_as word None some none = by_word (op_named word) refl
  where
    by_word : (named : Option Op) → op_named word ≡ named → None ≡ op_named word
    by_word None is = sym is
    by_word (Some op) is =
        let same = named_some word op is in
        let (row, e) = found_within TABLE (op_place op) (place_below op) in
        let there = ap (λ bytes. slice_get TABLE (slice_index SLOTS (slot_of bytes))) (sym same) ∙ ap (slice_get TABLE) (at_slot op) ∙ e in
        absurd (none row there (ap mnemonic (op_at_place op row e) ∙ same))

-- a word that names nothing is no mnemonic
pub named_none : (word : List ℕ) (o : Option Op) → o ≡ op_named word → IfNone o ((op : Op) → mnemonic op ≢ word)
named_none word None e = λ op same. subst (λ o. IfNone o ⊥) (sym (named_back op) ∙ ap op_named same ∙ sym e) tt
named_none word (Some op) e = tt
