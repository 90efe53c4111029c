-- Seats in which numbers ascend: each stands once, its number is its own, and sixteen of them are all there are.
use Rattle.seats.proofs.Common.{range_with_len, AllPairs, arith, ap, sym, ◌∙◌, inl, inr, eqb-true, or_cases, not-true, not-false, and_parts, ltb-true, cond-false, All-head, All-tail, has, distinct, size, has-range, in_range, found-has, found-passes, none-passes, nat_tests, ◌≡◌, refl, ℕ, suc, ◌+◌, ◌<◌, ◌≤◌, ◌==◌, not, nat_le, nat_lt, true, false, List, [], ◌∷◌, length, All, Some, None, find, IsPart, size-part, size-range}

-- what holds of each number holds of one that is there
pub all-has : (P : ℕ → Type 0) (xs : List ℕ) (x : ℕ) → All P xs → has xs x ≡ true → P x
all-has P [] x all inside = absurd (cc)
all-has P (y ∷ ys) x all inside = grind (arith, nat_tests, All-head P y ys all, all-has P ys x (All-tail P y ys all))

-- the first of some seats is below all later ones, and so on from the next
pairs-head : (R : ℕ → ℕ → Type 0) (x : ℕ) (xs : List ℕ) → AllPairs R (x ∷ xs) → All (R x) xs
pairs-head R x xs pairs = λ k d within. pairs 0 (suc k) d (omega arith) (omega (arith, within))

pairs-tail : (R : ℕ → ℕ → Type 0) (x : ℕ) (xs : List ℕ) → AllPairs R (x ∷ xs) → AllPairs R xs
pairs-tail R x xs pairs = λ i j d before within. pairs (suc i) (suc j) d (omega (arith, before)) (omega (arith, within))

module _ (number : ℕ → ℕ) where
  -- the numbers in these seats ascend
  abbrev Ascends : List ℕ → Type 0
  Ascends seats = AllPairs (λ seat later. number seat < number later) seats

  -- a seat's number is its own
  pub apart : (seats : List ℕ) (x y : ℕ) → Ascends seats → has seats x ≡ true → has seats y ≡ true → (number x == number y) ≡ (x == y)
  apart [] x y ascends here there = absurd (cc)
  apart (seat ∷ seats) x y ascends here there =
      grind (arith, nat_tests, above, apart seats x y (pairs-tail (λ s t. number s < number t) seat seats ascends))
    where
      above : (z : ℕ) → has seats z ≡ true → number seat < number z
      above z inside = all-has (λ later. number seat < number later) seats z (pairs-head (λ s t. number s < number t) seat seats ascends) inside

  -- the first doesn't stand again
  once : (seat : ℕ) (seats : List ℕ) → Ascends (seat ∷ seats) → has seats seat ≡ false
  once seat seats ascends =
      grind (arith, nat_tests, all-has (λ later. number seat < number later) seats seat (pairs-head (λ s t. number s < number t) seat seats ascends))

  -- so there are as many as are listed
  size-listed : (seats : List ℕ) → Ascends seats → size seats ≡ length seats
  size-listed [] ascends = refl
  size-listed (seat ∷ seats) ascends =
      grind (arith, nat_tests, once seat seats ascends, size-listed seats (pairs-tail (λ s t. number s < number t) seat seats ascends))

  -- seats of the sixteen are no more than these
  part-of : (seats : List ℕ) → All (λ seat. seat < 16) seats → IsPart seats (range_with_len 0 16)
  part-of seats among = record { among = λ x inside. in_range 0 16 x (omega arith) (all-has (λ seat. seat < 16) seats x among inside) }

  pub few : (seats : List ℕ) → All (λ seat. seat < 16) seats → Ascends seats → length seats ≤ 16
  few seats among ascends = grind (arith, nat_tests, size-part, part-of, size-listed, size-range)

  -- where no seat is free, all sixteen are taken
  pub none-free : (seats : List ℕ) → Ascends seats → find (λ seat. not (has seats seat)) (range_with_len 0 16) ≡ None → 16 ≤ length seats
  none-free seats ascends none =
      let part = size-part (range_with_len 0 16) seats (record { among = λ x inside. not-false (has seats x) (none-passes (λ seat. not (has seats seat)) (range_with_len 0 16) x none inside) }) in
      omega (arith, part, size-listed seats ascends, size-range 0 16)

  -- where one is, they aren't
  pub some-free : (seats : List ℕ) (seat : ℕ) → All (λ seat. seat < 16) seats → Ascends seats → find (λ seat. not (has seats seat)) (range_with_len 0 16) ≡ Some seat
      → (seat < 16) × (has seats seat ≡ false) × (length seats < 16)
  some-free seats seat among ascends found =
      let inside : has (range_with_len 0 16) seat ≡ true = found-has (λ seat. not (has seats seat)) (range_with_len 0 16) seat found in
      let free : has seats seat ≡ false = not-true (has seats seat) (found-passes (λ seat. not (has seats seat)) (range_with_len 0 16) seat found) in
      let new : size (seat ∷ seats) ≡ suc (size seats) = ap length (cond-false (has seats seat) (distinct seats) (seat ∷ distinct seats) free) in
      let part = size-part (seat ∷ seats) (range_with_len 0 16) (record {
        among = λ x here. elim (or_cases (seat == x) (has seats x) here) [
          | inl same ↦ ap (has (range_with_len 0 16)) (sym (eqb-true seat x same)) ∙ inside
          | inr other ↦ (part-of seats among).among x other
        ];
      }) in
      let below = range-below seat inside in
      (below, free, omega (arith, part, new, size-listed seats ascends, size-range 0 16))
    where
      range-below : (seat : ℕ) → has (range_with_len 0 16) seat ≡ true → seat < 16
      range-below seat inside =
          let parts = and_parts (nat_le 0 seat) (nat_lt seat (0 + 16)) (sym (has-range 0 16 seat) ∙ inside) in
          omega (arith, ltb-true seat (0 + 16) parts.1)
