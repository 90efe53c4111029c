-- The members of a shown cycle; and where each number is given another name of its own, what leads where and the shown cycle are the same in
-- these names.
use Rattle.lines.proofs.Common.{◌≡◌, refl, ℕ, zero, suc, ◌==◌, ◌&&◌, ◌||◌, if◌then◌else◌, Bool, true, false, List, [], ◌∷◌, length, map, find, Option, Some, None, list_any, ap, ◌∙◌, eqb-true, or_right, has, leads, next_shown, shown_after, shown_cycle, arith, nat_tests, length-map}
use Rattle.std.specs.Option.{option_map, option_map_or}

-- what is found is one of them
pub found-has : (p : ℕ → Bool) (xs : List ℕ) (x : ℕ) → find p xs ≡ Some x → has xs x ≡ true
found-has p [] x found = absurd (cc)
found-has p (y ∷ ys) x found = grind (arith, nat_tests, found-has p ys x)

-- and passes
pub found-passes : (p : ℕ → Bool) (xs : List ℕ) (x : ℕ) → find p xs ≡ Some x → p x ≡ true
found-passes p [] x found = absurd (cc)
found-passes p (y ∷ ys) x found = grind (arith, nat_tests, found-passes p ys x)

-- where none is found, none passes
pub none-passes : (p : ℕ → Bool) (xs : List ℕ) (x : ℕ) → find p xs ≡ None → has xs x ≡ true → p x ≡ false
none-passes p [] x none inside = absurd (cc)
none-passes p (y ∷ ys) x none inside = grind (arith, nat_tests, none-passes p ys x)

-- the members of a shown cycle are among all
pub after-among : (waits : ℕ → ℕ → Bool) (all : List ℕ) (steps first last member : ℕ) → has (shown_after waits all steps first last) member ≡ true → has all member ≡ true
after-among waits all zero first last member inside = absurd (cc)
after-among waits all (suc steps) first last member inside =
    by_next (next_shown waits all first last) refl inside (λ next. after-among waits all steps first next member)
  where
    by_next : (next : Option ℕ) → next_shown waits all first last ≡ next
        → has (option_map_or (λ next. next ∷ (if next == first then [] else shown_after waits all steps first next)) next []) member ≡ true
        → ((next : ℕ) → has (shown_after waits all steps first next) member ≡ true → has all member ≡ true) → has all member ≡ true
    by_next None is inside later = absurd (cc)
    by_next (Some next) is inside later = grind (arith, nat_tests, eqb-true, found-has, later)

pub cycle-among : (waits : ℕ → ℕ → Bool) (all : List ℕ) (first : ℕ) (cycle : List ℕ) (member : ℕ) → has all first ≡ true → shown_cycle waits all first ≡ Some cycle
    → has cycle member ≡ true → has all member ≡ true
cycle-among waits all first cycle member here is inside = grind (arith, nat_tests, eqb-true, after-among, here)

module _ {A : Type 0} (name : ℕ → A) where
  -- some one passes by its name, where it passes
  pub any-named : (p : A → Bool) (q : ℕ → Bool) (xs : List ℕ) → ((x : ℕ) → has xs x ≡ true → p (name x) ≡ q x) → list_any p (map name xs) ≡ list_any q xs
  any-named p q [] same = refl
  any-named p q (x ∷ xs) same = grind (arith, nat_tests, any-named p q xs (λ y inside. same y (or_right (x == y) (has xs y) inside)))

  -- the first that passes by its name
  pub find-named : (p : A → Bool) (q : ℕ → Bool) (xs : List ℕ) → ((x : ℕ) → has xs x ≡ true → p (name x) ≡ q x) → find p (map name xs) ≡ option_map name (find q xs)
  find-named p q [] same = refl
  find-named p q (x ∷ xs) same = grind (arith, nat_tests, same, find-named p q xs (λ y inside. same y (grind arith)))

-- names of their own, and waits by these names
pub record AreNamed (name : ℕ → ℕ) (waits named : ℕ → ℕ → Bool) (all : List ℕ) : Type 0 where
  pub same : (x y : ℕ) → has all x ≡ true → has all y ≡ true → named (name x) (name y) ≡ waits x y
  pub apart : (x y : ℕ) → has all x ≡ true → has all y ≡ true → (name x == name y) ≡ (x == y)

module _ (name : ℕ → ℕ) (waits named : ℕ → ℕ → Bool) (all : List ℕ) (are : AreNamed name waits named all) where
  leads-named : (steps from to : ℕ) → has all from ≡ true → has all to ≡ true → leads named (map name all) steps (name from) (name to) ≡ leads waits all steps from to
  leads-named zero from to here there = refl
  leads-named (suc steps) from to here there =
      any-named name (λ next. named (name from) next && (next == name to || leads named (map name all) steps next (name to))) (λ next. waits from next && (next == to || leads waits all steps next to)) all
      (λ next inside i. are.same from next here inside i && (are.apart next to inside there i || leads-named steps next to inside there i))

  leads-round : (from to : ℕ) → has all from ≡ true → has all to ≡ true → leads named (map name all) (length (map name all)) (name from) (name to) ≡ leads waits all (length all) from to
  leads-round from to here there = ap (λ (steps : ℕ). leads named (map name all) steps (name from) (name to)) (length-map all name) ∙ leads-named (length all) from to here there

  next-named : (first last : ℕ) → has all first ≡ true → has all last ≡ true → next_shown named (map name all) (name first) (name last) ≡ option_map name (next_shown waits all first last)
  next-named first last here there = grind (arith, nat_tests, find-named, leads-round)

  after-named : (steps first last : ℕ) → has all first ≡ true → has all last ≡ true
      → shown_after named (map name all) steps (name first) (name last) ≡ map name (shown_after waits all steps first last)
  after-named zero first last here there = refl
  after-named (suc steps) first last here there =
      ap (λ (next : Option ℕ). option_map_or (λ next. next ∷ (if next == name first then [] else shown_after named (map name all) steps (name first) next)) next []) (next-named first last here there)
      ∙ by_next (next_shown waits all first last) refl (λ next inside. after-named steps first next here inside)
    where
      by_next : (next : Option ℕ) → next_shown waits all first last ≡ next
          → ((next : ℕ) → has all next ≡ true → shown_after named (map name all) steps (name first) (name next) ≡ map name (shown_after waits all steps first next))
          → option_map_or (λ next. next ∷ (if next == name first then [] else shown_after named (map name all) steps (name first) next)) (option_map name next) []
          ≡ map name (option_map_or (λ next. next ∷ (if next == first then [] else shown_after waits all steps first next)) next [])
      by_next None is later = refl
      by_next (Some next) is later = grind (arith, nat_tests, found-has, later)

  -- the shown cycle in these names
  pub cycle-named : (first : ℕ) → has all first ≡ true → shown_cycle named (map name all) (name first) ≡ option_map (map name) (shown_cycle waits all first)
  cycle-named first here = grind (arith, nat_tests, length-map, leads-named, after-named)
