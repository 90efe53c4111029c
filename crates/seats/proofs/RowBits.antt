-- Rows of bits over the sixteen places, the steps of a walk back to where it began, and the bits of seats that pass a test.
use Rattle.seats.proofs.Common.{◌≡◌, ℕ, zero, suc, ◌+◌, ◌*◌, ◌%◌, ◌^◌, ◌<◌, ◌≤◌, ◌==◌, ◌&&◌, ◌||◌, min, cond, Bool, true, false, refl, sym, ap, ◌∙◌, arith, inl, inr, bit_and, bit_or, w16, Option, Some, find, range_with_len, list_any, cases_eq, cases_lt, is_on, places, nat_tests, bit_at, trailing_zeros, bit_at-lt, bit_at-zero, bit_at_and, bit_at-trailing_zeros, bit_at_set_same, bit_at_set_other, length, ◌-◌, nat_lt, List, [], ◌∷◌, None, if◌then◌else◌, ne_eqb, lt-ltb, le-ltb, and_right, leads, next_shown, shown_after, shown_cycle, option_map_or, length-range_with_len, ◌++◌, passing, bits_of_seats, filter, cases_Bool}
use Rattle.std.specs.Int.Bits.{or_shifted_r}
use Rattle.std.proofs.lemmas.List.{map-id}
use Rattle.std.proofs.lemmas.List.Elements.{filter-append}
use Rattle.std.proofs.lemmas.List.FromFn.{map-range_with_len_more}
use Rattle.std.proofs.lemmas.List.Sums.{sum_by-append}
use Rattle.std.proofs.Math.Pow.{pow-lt}
use Rattle.lines.specs.LineSets.{passing}

-- the first number of a range that passes a test
pub find-first : (p : ℕ → Bool) (low n k : ℕ) → low ≤ k → k < low + n → p k ≡ true → ((i : ℕ) → low ≤ i → i < k → p i ≡ false) → find p (range_with_len low n) ≡ Some k
find-first p low zero k from within passes before = absurd (omega arith)
find-first p low (suc n) k from within passes before = elim (cases_lt low k) [
  | inl less ↦
      let rest = find-first p (low + 1) n k (omega (arith, less)) (omega (arith, within)) passes (λ i above below. before i (omega (arith, above)) below) in
      let here = before low (omega arith) less in
      grind (arith, here, rest)
  | inr not_less ↦ grind (arith, nat_tests)
]

-- what is found in a range is in it
pub find-within : (p : ℕ → Bool) (low n k : ℕ) → find p (range_with_len low n) ≡ Some k → k < low + n
find-within p low zero k found = absurd (let no : ⊥ = cc in no)
find-within p low (suc n) k found = grind (arith, find-within p (low + 1) n k)

pub any-some : (p : ℕ → Bool) (low n k : ℕ) → low ≤ k → k < low + n → p k ≡ true → list_any p (range_with_len low n) ≡ true
any-some p low zero k from within passes = absurd (omega arith)
any-some p low (suc n) k from within passes = grind (arith, nat_tests, any-some p (low + 1) n k)

pub any-none : (p : ℕ → Bool) (low n : ℕ) → ((i : ℕ) → p i ≡ false) → list_any p (range_with_len low n) ≡ false
any-none p low zero none = refl
any-none p low (suc n) none = grind (arith, none, any-none p (low + 1) n none)

-- a place is in both of two rows
both-bits : (x y : ℕ) → x < 2 → y < 2 → (min x y == 1) ≡ ((x == 1) && (y == 1))
both-bits x y few less = grind (arith, nat_tests)

pub on-both : (a b place : ℕ) → is_on (bit_and a b) place ≡ (is_on a place && is_on b place)
on-both a b place = ap (λ (x : ℕ). x == 1) (bit_at_and a b place) ∙ both-bits (bit_at a place) (bit_at b place) (bit_at-lt a place) (bit_at-lt b place)

pub on-none : (place : ℕ) → is_on 0 place ≡ false
on-none place = ap (λ (x : ℕ). x == 1) (bit_at-zero place)

-- two rows meet where their common row isn't zero
pub meets-some : (a b : ℕ) → 0 < bit_and a b → bit_and a b < 2 ^ 16 → list_any (λ next. is_on a next && is_on b next) places ≡ true
meets-some a b some small =
    let lowest = bit_at-trailing_zeros w16 (bit_and a b) some small in
    any-some (λ next. is_on a next && is_on b next) 0 16 _ (omega arith) lowest.0 (sym (on-both a b _) ∙ ap (λ (x : ℕ). x == 1) lowest.1)

pub meets-none : (a b : ℕ) → bit_and a b ≡ 0 → list_any (λ next. is_on a next && is_on b next) places ≡ false
meets-none a b none = any-none (λ next. is_on a next && is_on b next) 0 16 (λ i. sym (on-both a b i) ∙ ap (λ (bits : ℕ). is_on bits i) none ∙ on-none i)

-- the least place of a row
pub least-is : (bits : ℕ) → 0 < bits → bits < 2 ^ 16 → find (is_on bits) places ≡ Some (trailing_zeros w16 bits)
least-is bits some small =
    let lowest = bit_at-trailing_zeros w16 bits some small in
    find-first (is_on bits) 0 16 (trailing_zeros w16 bits) (omega arith) lowest.0 (ap (λ (x : ℕ). x == 1) lowest.1) (λ i above below. ap (λ (x : ℕ). x == 1) (lowest.2 i below))

-- a place more in a row
pub on-set : (bits place other : ℕ) → place < 16 → is_on (bit_or bits (1 * 2 ^ place % 2 ^ 16)) other ≡ ((other == place) || is_on bits other)
on-set bits place other small = elim (cases_eq other place) [
  | inl same ↦ grind (arith, nat_tests, bit_at_set_same w16 bits place small)
  | inr differs ↦ grind (arith, nat_tests, bit_at_set_other w16 bits place small other differs)
]

-- tests that answer alike up to an end, behind which nothing passes
pub any-cut : (p q : ℕ → Bool) (low n total : ℕ) → n ≤ total → ((i : ℕ) → low ≤ i → i < low + n → p i ≡ q i) → ((i : ℕ) → low + n ≤ i → i < low + total → p i ≡ false)
    → list_any p (range_with_len low total) ≡ list_any q (range_with_len low n)
any-cut p q low zero zero le alike none = refl
any-cut p q low zero (suc total) le alike none =
    let rest = any-cut p q (low + 1) zero total (omega arith) (λ i above below. alike i (omega (arith, above)) (omega (arith, below))) (λ i above below. none i (omega (arith, above)) (omega (arith, below))) in
    grind (arith, none, rest)
any-cut p q low (suc n) zero le alike none = absurd (omega arith)
any-cut p q low (suc n) (suc total) le alike none =
    let rest = any-cut p q (low + 1) n total (omega arith) (λ i above below. alike i (omega (arith, above)) (omega (arith, below))) (λ i above below. none i (omega (arith, above)) (omega (arith, below))) in
    let here = alike low (omega arith) (omega arith) in
    grind (arith, here, rest)

pub find-cut : (p q : ℕ → Bool) (low n total : ℕ) → n ≤ total → ((i : ℕ) → low ≤ i → i < low + n → p i ≡ q i) → ((i : ℕ) → low + n ≤ i → i < low + total → p i ≡ false)
    → find p (range_with_len low total) ≡ find q (range_with_len low n)
find-cut p q low zero zero le alike none = refl
find-cut p q low zero (suc total) le alike none =
    ap (λ (here : Bool). cond here (Some low) (find p (range_with_len (low + 1) total))) (none low (omega arith) (omega arith))
    ∙ find-cut p q (low + 1) zero total (omega arith) (λ i above below. alike i (omega (arith, above)) (omega (arith, below))) (λ i above below. none i (omega (arith, above)) (omega (arith, below)))
find-cut p q low (suc n) zero le alike none = absurd (omega arith)
find-cut p q low (suc n) (suc total) le alike none =
    ap (λ (here : Bool). cond here (Some low) (find p (range_with_len (low + 1) total))) (alike low (omega arith) (omega arith))
    ∙ ap (λ (rest : Option ℕ). cond (q low) (Some low) rest) (find-cut p q (low + 1) n total (omega arith) (λ i above below. alike i (omega (arith, above)) (omega (arith, below))) (λ i above below. none i (omega (arith, above)) (omega (arith, below))))

-- the places below one are marked where they pass a test; the next one is marked or not by the same test
module _ (f : ℕ → Bool) (bits place : ℕ) (small : place < 16) (so_far : (p : ℕ) → p < 16 → is_on bits p ≡ (nat_lt p place && f p)) where
  pub marked : f place ≡ true → (p : ℕ) → p < 16 → is_on (bit_or bits (1 * 2 ^ place % 2 ^ 16)) p ≡ (nat_lt p (place + 1) && f p)
  marked passes p below =
      let set = on-set bits place p small in
      let old = so_far p below in
      grind (arith, nat_tests, set, old)

  pub unmarked : f place ≡ false → (p : ℕ) → p < 16 → is_on bits p ≡ (nat_lt p (place + 1) && f p)
  unmarked fails p below = let old = so_far p below in grind (arith, nat_tests, old)

-- among the first so many places
module _ (waits : ℕ → ℕ → Bool) (n : ℕ) (few : n ≤ 16) (first : ℕ) where
  -- these places
  abbrev all : List ℕ
  all = range_with_len 0 n

  -- the bits of those that lead to the first in so many steps
  abbrev pub Leading : (bits steps : ℕ) → Type 0
  Leading bits steps = (p : ℕ) → p < 16 → is_on bits p ≡ (nat_lt p n && leads waits all steps p first)

  none-on : (bits steps : ℕ) → Leading bits steps → (p : ℕ) → n ≤ p → p < 16 → is_on bits p ≡ false
  none-on bits steps leading p above below = leading p below ∙ ap (λ (less : Bool). less && leads waits all steps p first) (le-ltb p n above)

  some-on : (bits steps : ℕ) → Leading bits steps → (p : ℕ) → p < n → is_on bits p ≡ leads waits all steps p first
  some-on bits steps leading p below = leading p (omega (arith, few, below)) ∙ ap (λ (less : Bool). less && leads waits all steps p first) (lt-ltb p n below)

  -- who leads in one step more
  pub leads-more : (goals now : ℕ) (step place : ℕ) → first < n → Leading now step → goals ≡ bit_or now (1 * 2 ^ first % 2 ^ 16)
      → list_any (λ next. waits place next && is_on goals next) places ≡ leads waits all (step + 1) place first
  leads-more goals now step place small so_far is =
      let more : step + 1 ≡ suc step = omega arith in
      any-cut (λ next. waits place next && is_on goals next) (λ next. waits place next && ((next == first) || leads waits all step next first)) 0 n 16 few
      (λ i from below.
      ap (λ (goal : Bool). waits place i && goal)
      (goal_at i ∙ ap (λ (leading : Bool). (i == first) || leading) (some-on now step so_far i (omega (arith, below)))))
      (λ i above below.
      ap (λ (goal : Bool). waits place i && goal)
      (goal_at i
      ∙ ap (λ (here : Bool). here || is_on now i) (ne_eqb i first (λ same. let no : ⊥ = omega (arith, same, small, above) in no))
      ∙ none-on now step so_far i (omega (arith, above)) (omega (arith, below)))
      ∙ and_right (waits place i) false refl)
      ∙ ap (λ (steps : ℕ). leads waits all steps place first) (sym more)
    where
      goal_at : (i : ℕ) → is_on goals i ≡ ((i == first) || is_on now i)
      goal_at i = ap (λ (bits : ℕ). is_on bits i) is ∙ on-set now first i (omega (arith, small, few))

  -- where one step more marks the same places, so do all
  module _ (now step : ℕ) (so_far : Leading now step) (one_more : Leading now (step + 1)) where
    still : (more p : ℕ) → p < n → leads waits all (step + more) p first ≡ leads waits all step p first
    still zero p below = let same : step + 0 ≡ step = omega arith in ap (λ (steps : ℕ). leads waits all steps p first) same
    still (suc more) p below =
        let shift : step + suc more ≡ suc (step + more) = omega arith in
        let one : step + 1 ≡ suc step = omega arith in
        ap (λ (steps : ℕ). leads waits all steps p first) shift
        ∙ any-cut (λ next. waits p next && ((next == first) || leads waits all (step + more) next first)) (λ next. waits p next && ((next == first) || leads waits all step next first)) 0 n n (omega arith)
        (λ i from below. ap (λ (there : Bool). waits p i && ((i == first) || there)) (still more i (omega (arith, below))))
        (λ i above below. absurd (omega (arith, above, below)))
        ∙ ap (λ (steps : ℕ). leads waits all steps p first) (sym one)
        ∙ sym (some-on now (step + 1) one_more p below)
        ∙ some-on now step so_far p below

    pub leads-still : (more : ℕ) → Leading now (step + more)
    leads-still more p below = let was = so_far p below in let same = still more p in grind (arith, nat_tests, was, same)

  -- the next member
  pub next-is : (row leading last : ℕ) → ((p : ℕ) → is_on row p ≡ waits last p) → Leading leading n
      → find (is_on (bit_and row leading)) places ≡ next_shown waits all first last
  next-is row leading last rows leads_by =
      find-cut (is_on (bit_and row leading)) (λ next. waits last next && leads waits all (length all) next first) 0 n 16 few
      (λ i from below.
      on-both row leading i
      ∙ ap (λ (here : Bool). here && is_on leading i) (rows i)
      ∙ ap (λ (there : Bool). waits last i && there) (some-on leading n leads_by i (omega (arith, below)) ∙ ap (λ (steps : ℕ). leads waits all steps i first) (sym (length-range_with_len 0 n))))
      (λ i above below.
      on-both row leading i ∙ ap (λ (there : Bool). is_on row i && there) (none-on leading n leads_by i (omega (arith, above)) (omega (arith, below))) ∙ and_right (is_on row i) false refl)

  -- what follows by one step
  abbrev follows : ℕ → ℕ → List ℕ
  follows steps next = next ∷ (if next == first then [] else shown_after waits all steps first next)

  one-step : (step last : ℕ) → step < n → shown_after waits all (n - step) first last ≡ option_map_or (follows (n - (step + 1))) (next_shown waits all first last) []
  one-step step last more = grind (arith, nat_tests, last)

  pub follows-none : (step last : ℕ) → step < n → next_shown waits all first last ≡ None → shown_after waits all (n - step) first last ≡ []
  follows-none step last more none = one-step step last more ∙ ap (λ (next : Option ℕ). option_map_or (follows (n - (step + 1))) next []) none

  pub follows-some : (step last next : ℕ) → step < n → next_shown waits all first last ≡ Some next
      → shown_after waits all (n - step) first last ≡ next ∷ (if next == first then [] else shown_after waits all (n - (step + 1)) first next)
  follows-some step last next more some = one-step step last more ∙ ap (λ (one : Option ℕ). option_map_or (follows (n - (step + 1))) one []) some

  pub shown-none : (leading : ℕ) → first < n → Leading leading n → is_on leading first ≡ false → None ≡ shown_cycle waits all first
  shown-none leading small leads_by off = grind (arith, nat_tests, some-on, length-range_with_len)

  pub shown-some : (leading : ℕ) (members : List ℕ) → first < n → Leading leading n → is_on leading first ≡ true → members ≡ first ∷ shown_after waits all n first first → Some members ≡ shown_cycle waits all first
  shown-some leading members small leads_by on is = grind (arith, nat_tests, some-on, length-range_with_len)

-- one seat more
seats-more : (p : ℕ → Bool) (n : ℕ) → bits_of_seats (passing (suc n) p) ≡ bits_of_seats (passing n p) + cond (p n) (2 ^ n) 0
unfolding passing
seats-more p n =
    let one : suc n ≡ n + 1 = omega arith in
    let range : range_with_len 0 (suc n) ≡ range_with_len 0 n ++ n ∷ [] =
    ap (range_with_len 0) one ∙ simp map-id at (map-range_with_len_more (λ (x : ℕ). x) 0 n n (omega arith)) in
    let whole =
    ap (λ (xs : List ℕ). bits_of_seats (filter p xs)) range ∙ ap bits_of_seats (filter-append p (range_with_len 0 n) (n ∷ []))
    ∙ sum_by-append (λ seat. 2 ^ seat) (filter p (range_with_len 0 n)) (filter p (n ∷ [])) in
    let last : bits_of_seats (filter p (n ∷ [])) ≡ cond (p n) (2 ^ n) 0 = grind (arith, nat_tests) in
    cc (whole, last)

pub seats-start : (p : ℕ → Bool) → 0 ≡ bits_of_seats (passing 0 p)
unfolding passing
seats-start p = refl

-- the bits of the first seats are below that of the next
seats-below : (p : ℕ → Bool) (n : ℕ) → bits_of_seats (passing n p) < 2 ^ n
seats-below p zero = omega (arith, seats-start p)
seats-below p (suc n) =
    let double : 2 ^ suc n ≡ 2 * 2 ^ n = grind arith in
    let below = seats-below p n in
    grind (arith, nat_tests, seats-more p n, below, double)

-- a seat that passes puts its bit on
pub seat-on :
    (p : ℕ → Bool) (n bits : ℕ) → n < 16 → bits ≡ bits_of_seats (passing n p) → p n ≡ true
    → bit_or bits (1 * 2 ^ n % 65536) ≡ bits_of_seats (passing (n + 1) p)
seat-on p n bits few kept on = ap (bit_or bits) whole ∙ or_shifted_r 1 n bits below ∙ sum
  where
    whole : 1 * 2 ^ n % 65536 ≡ 1 * 2 ^ n
    whole = omega (arith, pow-lt {i = n} {j = 16} few)

    below : bits < 2 ^ n
    below = omega (arith, kept, seats-below p n)

    sum : 1 * 2 ^ n + bits ≡ bits_of_seats (passing (n + 1) p)
    sum =
        let one : n + 1 ≡ suc n = omega arith in
        let next : bits_of_seats (passing (n + 1) p) ≡ bits_of_seats (passing n p) + 2 ^ n =
        ap (λ m. bits_of_seats (passing m p)) one ∙ seats-more p n ∙ ap (λ b. bits_of_seats (passing n p) + cond b (2 ^ n) 0) on in
        omega (arith, next, kept)

-- a seat that doesn't pass leaves them
pub seat-off : (p : ℕ → Bool) (n bits : ℕ) → bits ≡ bits_of_seats (passing n p) → p n ≡ false → bits ≡ bits_of_seats (passing (n + 1) p)
seat-off p n bits kept off =
    let one : n + 1 ≡ suc n = omega arith in
    let next : bits_of_seats (passing (n + 1) p) ≡ bits_of_seats (passing n p) + 0 =
    ap (λ m. bits_of_seats (passing m p)) one ∙ seats-more p n ∙ ap (λ b. bits_of_seats (passing n p) + cond b (2 ^ n) 0) off in
    omega (arith, next, kept)

-- a bit is on where it is that of one of the seats looked at, which passes
seats-on : (p : ℕ → Bool) (n : ℕ) → n ≤ 16 → (seat : ℕ) → seat < 16 → is_on (bits_of_seats (passing n p)) seat ≡ (nat_lt seat n && p seat)
seats-on p zero le seat below = ap (λ (bits : ℕ). is_on bits seat) (sym (seats-start p)) ∙ on-none seat ∙ ap (λ (less : Bool). less && p seat) (sym (le-ltb seat 0 (omega arith)))
seats-on p (suc n) le seat below =
    let one : suc n ≡ n + 1 = omega arith in
    let bits = bits_of_seats (passing n p) in
    rw one (elim (cases_Bool (p n)) [
      | inl passes ↦ rw (← seat-on p n bits (omega arith) refl passes) (marked p bits n (omega arith) (seats-on p n (omega arith)) passes seat below)
      | inr fails ↦ rw (← seat-off p n bits refl fails) (unmarked p bits n (omega arith) (seats-on p n (omega arith)) fails seat below)
    ])

-- of all sixteen
pub all-on : (p : ℕ → Bool) (seat : ℕ) → seat < 16 → is_on (bits_of_seats (passing 16 p)) seat ≡ p seat
all-on p seat below = seats-on p 16 (omega arith) seat below ∙ ap (λ (less : Bool). less && p seat) (lt-ltb seat 16 below)
