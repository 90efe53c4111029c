-- Puts, one after another.
use Rattle.outside.proofs.Lemmas.{◌≡◌, ℕ, ◌+◌, ◌<◌, List, [], ◌∷◌, ◌++◌, length, get_or, take, min, refl, sym, ◌∙◌, ap, subst, append_assoc, append-nil, arith, rules, Option, None, Some, Result, Ok, Err, IsErr, take-append-le, take_min, take_more, Failed, Ghosts, Prints, FewerLater, OnlyPuts, nat_tests, elapses-trans}
use Rattle.std.proofs.Math.Seq.{take-append-add}
use Rattle.outside.proofs.Counts.{cause_since}

-- the same bytes
pub prints_same : {T : Type 0} (old new : Option (List ℕ)) (first second : List ℕ) (result : Result T Failed) → first ≡ second → Prints old new first result → Prints old new second result
prints_same old new first second result same prints = subst (λ (bytes : List ℕ). Prints old new bytes result) same prints

-- no bytes
pub prints_none : {T : Type 0} (told : Option (List ℕ)) (value : T) → Prints told told [] (Ok value)
prints_none None value = refl
prints_none (Some bytes) value = ap (λ (these : List ℕ). Some these) (sym (append-nil bytes))

-- none of some
pub prints_unput : {T : Type 0} (old new : Option (List ℕ)) (bytes : List ℕ) (result : Result T Failed) → IsErr result → new ≡ old → Prints old new bytes result
prints_unput old new bytes result err same = grind (arith, nat_tests, append-nil)

-- another value
pub prints_well : {T U : Type 0} (old new : Option (List ℕ)) (bytes : List ℕ) (first : T) (second : U) → Prints old new bytes (Ok first) → Prints old new bytes (Ok second)
prints_well None new bytes first second prints = prints
prints_well (Some old) new bytes first second prints = prints

-- bytes and then more
pub prints_on : {T U : Type 0} (old mid new : Option (List ℕ)) (first second : List ℕ) (value : T) (result : Result U Failed) → Prints old mid first (Ok value) → Prints mid new second result → Prints old new (first ++ second) result
prints_on None mid new first second value result one two = subst (λ (told : Option (List ℕ)). Prints told new second result) one two
prints_on (Some old) mid new first second value (Ok result) one two =
    let more : new ≡ Some ((old ++ first) ++ second) = subst (λ (told : Option (List ℕ)). Prints told new second (Ok result)) one two in
    more ∙ ap (λ (all : List ℕ). Some all) (append_assoc old first second)
prints_on {T} {U} (Some old) mid new first second value (Err failed) one two =
    let more : (count : ℕ) × (new ≡ Some ((old ++ first) ++ take count second)) = subst (λ (told : Option (List ℕ)). Prints {T = U} told new second (Err failed)) one two in (
      length first + more.0,
      more.1 ∙ ap (λ (all : List ℕ). Some all) (append_assoc old first (take more.0 second) ∙ ap (λ (tail : List ℕ). old ++ tail) (sym (take-append-add first second more.0))),
    )

-- a prefix of bytes is one of those and more
pub prints_stop : {T U : Type 0} (old new : Option (List ℕ)) (first second : List ℕ) (result : Result T Failed) (later : Result U Failed) → IsErr result → IsErr later → Prints old new first result → Prints old new (first ++ second) later
prints_stop None new first second result later one two prints = prints
prints_stop (Some old) new first second (Ok value) later one two prints = absurd (search (rules, one))
prints_stop (Some old) new first second (Err why) (Ok value) one two prints = absurd (search (rules, two))
prints_stop (Some old) new first second (Err why) (Err failed) one two prints = (
  min prints.0 (length first),
  prints.1 ∙ ap (λ (some : List ℕ). Some (old ++ some)) (sym (take_min prints.0 first) ∙ sym (take-append-le (min prints.0 (length first)) first second (omega arith))),
)

-- a failure of another type
pub prints_broken : {T U : Type 0} (result : Result T Failed) (later : Result U Failed) → IsErr result → IsErr later → (old new : Option (List ℕ)) (bytes : List ℕ) → Prints old new bytes result → Prints old new bytes later
prints_broken result later one two old new bytes prints = prints_same old new (bytes ++ []) bytes later (append-nil bytes) (prints_stop old new bytes [] result later one two prints)

-- what is put for a list, one element after another
module _ {X : Type 0} (F : List X → List ℕ) (split : (xs ys : List X) → F (xs ++ ys) ≡ F xs ++ F ys) (xs : List X) (i : ℕ) (x : X) (lt : i < length xs) where
  one_more : F (take (i + 1) xs) ≡ F (take i xs) ++ F (get_or xs i x ∷ [])
  one_more = ap F (take_more xs i x lt) ∙ split (take i xs) (get_or xs i x ∷ [])

-- puts, and then puts
pub only_on : {W T U : Type 0} (G : Ghosts W) (fewer_later : FewerLater G) (old mid new : W) (value : T) (result : Result U Failed) → OnlyPuts G old mid (Ok value) → OnlyPuts G mid new result → OnlyPuts G old new result
only_on G fewer_later old mid new value result first second = grind (arith, nat_tests, elapses-trans, cause_since)
