-- Sixteen seats stay what they are as one is taken, left, or holds more.
use Rattle.seats.proofs.Common.{ForSome, arith, ap, sym, ◌∙◌, get_or-set_same, get_or-set_other, eqb-true, eqb-false, or_parts, and_cases, not_from_false, length-set, length-replicate, All-set, All-push, All-filter, All-get_or, has, has-append, has-filter, Want, with_want, with_wants, AreWithin, Holding, IsWholeHolding, no_lines_of, of_seat, with_seat, Seat, Seating, IsSeating, newcomer, number_in, seated, seat_left, took, nat_tests, ◌≡◌, refl, ℕ, ◌<◌, ◌≤◌, ◌==◌, ◌&&◌, not, Bool, true, false, List, [], ◌∷◌, length, All, slice_index_or}
use Rattle.std.proofs.lemmas.List.Kept.{AllPairs-filter}
use Rattle.std.proofs.lemmas.List.Quantifiers.{all_pairs_push}
use Rattle.seats.proofs.Ascending.{all-has, few}
use Rattle.seats.proofs.ListedLemmas.{has-at}

length-wants : (pages : List (List ℕ × List ℕ)) (wants : List Want) → length (with_wants pages wants) ≡ length pages
length-wants pages [] = refl
length-wants pages (want ∷ wants) = length-wants (with_want pages want) wants ∙ length-set pages want.page _

-- a seat of sixteen that holds something else
module _ (holding : Holding) (seat : ℕ) (held : List (List ℕ × List ℕ)) (whole : IsWholeHolding holding) where
  pub whole-with : length held ≡ holding.pages → IsWholeHolding (with_seat holding seat held)
  whole-with long = (length-set holding.seats seat held ∙ whole.0, All-set (λ one. length one ≡ holding.pages) holding.seats seat held long whole.1)

  pub other-with : (other : ℕ) → (other == seat) ≡ false → of_seat (with_seat holding seat held) other ≡ of_seat holding other
  other-with other differs = get_or-set_other holding.seats seat other held [] (eqb-false other seat differs)

  pub same-with : seat < 16 → of_seat (with_seat holding seat held) seat ≡ held
  same-with below = get_or-set_same holding.seats seat held [] (omega (arith, below, whole.0))

  pub long-seat : (other : ℕ) → other < 16 → length (of_seat holding other) ≡ holding.pages
  long-seat other below = All-get_or (λ one. length one ≡ holding.pages) holding.seats other [] (omega (arith, below, whole.0)) whole.1

module _ (seating : Seating) (is : IsSeating seating) where
  -- a taken seat is one of the sixteen
  pub taken-below : (seat : ℕ) → has seating.taken seat ≡ true → seat < 16
  taken-below seat there = all-has (λ seat. seat < 16) seating.taken seat is.among there

  -- and there are sixteen at most
  pub few-taken : length seating.taken ≤ 16
  few-taken = few (number_in seating) seating.taken is.among is.ascending

  pub kept-left : (seat : ℕ) → seat < 16 → IsSeating (seat_left seating seat)
  kept-left seat below = record {
    sixteen = is.sixteen;
    among = All-filter (λ other. not (other == seat)) (λ seat. seat < 16) seating.taken is.among;
    ascending = AllPairs-filter (λ seat later. number_in seating seat < number_in seating later) (λ other. not (other == seat)) seating.taken is.ascending;
    within = is.within;
    whole = whole-with seating.holding seat nothing is.whole (length-replicate seating.holding.pages _);
    free = λ other inside gone. by_test other inside (other == seat) refl (sym (has-filter (λ other. not (other == seat)) seating.taken other) ∙ gone);
  }
    where
      nothing : List (List ℕ × List ℕ)
      nothing = no_lines_of seating.holding.pages

      by_test : (other : ℕ) → other < 16 → (same : Bool) → (other == seat) ≡ same → (has seating.taken other && not (other == seat)) ≡ false
          → of_seat (with_seat seating.holding seat nothing) other ≡ nothing
      by_test other inside case_3 e gone = grind (arith, nat_tests, eqb-true, same-with, other-with, and_cases, not_from_false)

  pub kept-took : (seat : ℕ) (wants : List Want) → has seating.taken seat ≡ true → IsSeating (took seating seat wants)
  kept-took seat wants there = grind (arith, nat_tests, whole-with, length-wants, long-seat, taken-below, eqb-true, other-with)

  pub kept-seated : (seat number program : ℕ) (args : List ℕ) → seat < 16 → has seating.taken seat ≡ false → All (λ seat. number_in seating seat < number) seating.taken
      → IsSeating (seated seating seat (newcomer number program args))
  kept-seated seat number program args below free above = record {
    sixteen = length-set seating.sitters seat who ∙ is.sixteen;
    among = All-push (λ seat. seat < 16) seating.taken seat is.among below;
    ascending = all_pairs_push (λ seat later. number_in new seat < number_in new later) seating.taken seat
        (λ i j d before within.
        let first = stays (slice_index_or seating.taken i d) (has-at seating.taken i d (omega (arith, before, within))) in
        let second = stays (slice_index_or seating.taken j d) (has-at seating.taken j d within) in
        omega (arith, first, second, is.ascending i j d before within))
        (λ k d within.
        let old = stays (slice_index_or seating.taken k d) (has-at seating.taken k d within) in
        omega (arith, old, its, above k d within));
    within = All-set (λ one. ForSome one.waits (λ request. AreWithin seating.holding.pages request.wants.items)) seating.sitters seat who (λ request none. absurd (cc)) is.within;
    whole = is.whole;
    free = λ other inside none. is.free other inside (or_parts (has seating.taken other) (has (seat ∷ []) other) (sym (has-append seating.taken (seat ∷ []) other) ∙ none)).0;
  }
    where
      who : Seat
      who = newcomer number program args

      new : Seating
      new = seated seating seat who

      its : number_in new seat ≡ number
      its = ap (λ (one : Seat). one.number) (get_or-set_same seating.sitters seat who (newcomer 0 0 []) (omega (arith, below, is.sixteen)))

      stays : (other : ℕ) → has seating.taken other ≡ true → number_in new other ≡ number_in seating other
      stays other there = grind (arith, nat_tests, get_or-set_other)
