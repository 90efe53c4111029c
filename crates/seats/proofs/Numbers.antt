-- Seats by the numbers and the flat lines, and places among them: holders, waits and the shown cycle.
use Rattle.seats.proofs.Lemmas.{option_map_or, ap, sym, ◌∙◌, eqb-true, eq-eqb, or_right, has, shown_cycle, found-has, found-passes, none-passes, cycle-named, Request, Want, of_seat, is_in_conflict, Seating, IsSeating, sitter, number_in, numbers_seated, seat_of, holders, seat_waits, cycle_of, AreOfPage, arith, nat_tests, ◌≡◌, refl, ℕ, ◌==◌, ◌&&◌, not, Bool, true, false, List, [], ◌∷◌, map, filter, Option, Some, None, Lines, conflicts, lines_wanted, IsFlat, range_with_len, option_map, inl, inr, ne_eqb, ltb-true, cases_eq, cases_lt, same_lists, get_or_default, has-range, in_range, cycle-among, waits_in, row_places, seat_at, ◌<◌, length, length-map-range_with_len, get_or-map-range_with_len, apart}
use Rattle.seats.proofs.FlatLemmas.{conflict-flat}
use Rattle.std.proofs.lemmas.Simd.{map-map}

module _ (seating : Seating) (is : IsSeating seating) where
  -- each number is in one seat
  pub apart-taken : (seat other : ℕ) → has seating.taken seat ≡ true → has seating.taken other ≡ true → (number_in seating seat == number_in seating other) ≡ (seat == other)
  apart-taken seat other here there = apart (number_in seating) seating.taken seat other is.ascending here there

  -- the seat of a number is a taken one with it
  pub seat-found : (number seat : ℕ) → seat_of seating number ≡ Some seat → (has seating.taken seat ≡ true) × (number_in seating seat ≡ number)
  seat-found number seat found = grind (arith, nat_tests, found-has, eqb-true, found-passes)

  -- and each taken seat is that of its number
  pub seat-of-taken : (seat : ℕ) → has seating.taken seat ≡ true → seat_of seating (number_in seating seat) ≡ Some seat
  seat-of-taken seat there = by_found (seat_of seating (number_in seating seat)) refl
    where
      by_found : (found : Option ℕ) → seat_of seating (number_in seating seat) ≡ found → found ≡ Some seat
      by_found None none = grind (arith, nat_tests, none-passes, eq-eqb)
      by_found (Some other) found =
          let (inside, same) = seat-found (number_in seating seat) other found in
          ap Some (eqb-true other seat (sym (apart-taken other seat inside there) ∙ eq-eqb (number_in seating other) (number_in seating seat) same))

  -- what the taken seats hold is told in flat lines, by seat
  module _ (locks : ℕ → Lines) (flat : (seat : ℕ) → has seating.taken seat ≡ true → IsFlat (of_seat seating.holding seat) (locks seat)) where
    -- a conflict is one of flat lines
    in-flat : (seat other : ℕ) (wants : List Want) → AreOfPage wants → has seating.taken other ≡ true
        → is_in_conflict seating.holding seat wants other ≡ (not (other == seat) && conflicts (lines_wanted wants) (locks other))
    in-flat seat other wants sets there =
        ap (λ (meets : Bool). not (other == seat) && meets) (sym (conflict-flat (of_seat seating.holding other) (locks other) wants (flat other there) sets.reads sets.writes))

    -- the holders that a request conflicts with
    pub holders-flat : (seat : ℕ) (wants : List Want) → AreOfPage wants
        → holders seating seat wants ≡ map (number_in seating) (filter (λ other. not (other == seat) && conflicts (lines_wanted wants) (locks other)) seating.taken)
    holders-flat seat wants sets =
        ap (map (number_in seating))
        (filter-same (is_in_conflict seating.holding seat wants) (λ other. not (other == seat) && conflicts (lines_wanted wants) (locks other)) seating.taken (λ other there. in-flat seat other wants sets there))
      where
        filter-same : (p q : ℕ → Bool) (seats : List ℕ) → ((seat : ℕ) → has seats seat ≡ true → p seat ≡ q seat) → filter p seats ≡ filter q seats
        filter-same p q [] same = refl
        filter-same p q (one ∷ seats) same =
            let others = filter-same p q seats (λ seat there. same seat (or_right (one == seat) (has seats seat) there)) in
            grind (arith, nat_tests, same one, others)

    -- who waits for whom
    pub waits-flat : (from to : ℕ) (request : Request) → (sitter seating from).waits ≡ Some request → AreOfPage request.wants.items → has seating.taken to ≡ true
        → seat_waits seating from to ≡ (not (to == from) && conflicts (lines_wanted request.wants.items) (locks to))
    waits-flat from to request waits sets there = grind (arith, nat_tests, in-flat)

  pub waits-none : (from to : ℕ) → (sitter seating from).waits ≡ None → seat_waits seating from to ≡ false
  waits-none from to waits = ap (λ (asked : Option Request). option_map_or (λ request. is_in_conflict seating.holding from request.wants.items to) asked false) waits

  -- the shown cycle among numbers, by waits that are those among the seats
  pub cycle-numbers : (named : ℕ → ℕ → Bool) (seat : ℕ)
      → ((from to : ℕ) → has seating.taken from ≡ true → has seating.taken to ≡ true → named (number_in seating from) (number_in seating to) ≡ seat_waits seating from to)
      → has seating.taken seat ≡ true → cycle_of seating seat ≡ shown_cycle named (numbers_seated seating) (number_in seating seat)
  cycle-numbers named seat same there =
      sym (cycle-named (number_in seating) (seat_waits seating) named seating.taken (record { same = same; apart = apart-taken }) seat there)

-- Places among the taken seats, and the shown cycle by places.

range-below : (n x : ℕ) → has (range_with_len 0 n) x ≡ true → x < n
range-below n x inside = grind (arith, nat_tests, has-range, ltb-true)

module _ (seating : Seating) (is : IsSeating seating) where
  -- at different places different seats stand
  at-apart : (x y : ℕ) → x < length seating.taken → y < length seating.taken → (seat_at seating x == seat_at seating y) ≡ (x == y)
  at-apart x y here there =
      elim (cases_eq x y) [
        | inl same ↦ eq-eqb (seat_at seating x) (seat_at seating y) (ap (seat_at seating) same) ∙ sym (eq-eqb x y same)
        | inr differs ↦
            ne_eqb (seat_at seating x) (seat_at seating y)
            (λ same. let number : number_in seating (seat_at seating x) ≡ number_in seating (seat_at seating y) = ap (number_in seating) same in
            elim (cases_lt x y) [
              | inl less ↦ let below = is.ascending x y 0 less there in let no : ⊥ = omega (arith, number, below) in no
              | inr not_less ↦ let less : y < x = omega (arith, not_less, differs) in let below = is.ascending y x 0 less here in let no : ⊥ = omega (arith, number, below) in no
            ])
            ∙ sym (ne_eqb x y differs)
      ]

  -- the seats at all places are those that are taken
  map-at : map (seat_at seating) (range_with_len 0 (length seating.taken)) ≡ seating.taken
  map-at = grind (arith, nat_tests, same_lists, length-map-range_with_len, get_or-map-range_with_len, get_or_default)

  module _ (rows : List ℕ) (long : length rows ≡ length seating.taken)
      (are : (from to : ℕ) → from < length seating.taken → to < length seating.taken → waits_in rows from to ≡ seat_waits seating (seat_at seating from) (seat_at seating to)) where
    -- the shown cycle from a seat by the places of the seats in it
    cycle-placed : (place : ℕ) → place < length seating.taken
        → shown_cycle (seat_waits seating) seating.taken (seat_at seating place) ≡ option_map (map (seat_at seating)) (shown_cycle (waits_in rows) (row_places rows) place)
    cycle-placed place within =
        ap (λ (all : List ℕ). shown_cycle (seat_waits seating) all (seat_at seating place)) (sym map-at)
        ∙ cycle-named (seat_at seating) (waits_in rows) (seat_waits seating) (range_with_len 0 (length seating.taken))
        (record {
          same = λ x y here there. sym (are x y (range-below (length seating.taken) x here) (range-below (length seating.taken) y there));
          apart = λ x y here there. at-apart x y (range-below (length seating.taken) x here) (range-below (length seating.taken) y there);
        })
        place (in_range 0 (length seating.taken) place (omega arith) (omega (arith, within)))
        ∙ ap (λ (n : ℕ). option_map (map (seat_at seating)) (shown_cycle (waits_in rows) (range_with_len 0 n) place)) (sym long)

    -- and by the numbers there
    pub cycle-numbered : (place : ℕ) (members : List ℕ) → place < length seating.taken → shown_cycle (waits_in rows) (row_places rows) place ≡ Some members
        → cycle_of seating (seat_at seating place) ≡ Some (map (λ place. number_in seating (seat_at seating place)) members)
    cycle-numbered place members within shown = grind (arith, nat_tests, cycle-placed, map-map)

    pub cycle-none : (place : ℕ) → place < length seating.taken → shown_cycle (waits_in rows) (row_places rows) place ≡ None → cycle_of seating (seat_at seating place) ≡ None
    cycle-none place within shown = ap (option_map (map (number_in seating))) (cycle-placed place within ∙ ap (option_map (map (seat_at seating))) shown)

    -- each of them is a place
    pub member-below : (place : ℕ) (members : List ℕ) (member : ℕ) → place < length seating.taken → shown_cycle (waits_in rows) (row_places rows) place ≡ Some members
        → has members member ≡ true → member < length seating.taken
    member-below place members member within shown inside =
        let below = range-below (length rows) member (cycle-among (waits_in rows) (row_places rows) place members member (in_range 0 (length rows) place (omega arith) (omega (arith, within, long))) shown inside) in
        omega (arith, below, long)
