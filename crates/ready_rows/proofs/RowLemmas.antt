-- What a place that is written leaves of what is known.
use Rattle.std.proofs.Common.{Bool, subst, ◌≡◌, ◌≢◌, ℕ, zero, suc, ◌+◌, ◌<◌, ◌≤◌, ◌∙◌, List, [], ◌∷◌, length, refl, sym, ap, arith, lit<, true, false, Some, None, ◌⊎◌, inl, inr}
use Rattle.std.proofs.lemmas.Bool.{cases_lt}
use Rattle.std.proofs.lemmas.Bool.Decides.{nat_tests}
use Rattle.std.proofs.lemmas.List.{get_or-set_same, length-set, length-replicate}
use Rattle.std.proofs.lemmas.Option.{slice_get-get_or}
use Rattle.std.specs.Prelude.{Option, slice_get, slice_set, cond, replicate, ◌/◌, ◌%◌, ◌-◌, ◌==◌}
use Rattle.flat_machine.specs.declared.ready.Ready.{Ready}
use Rattle.ready_rows.specs.declared.place.Place.{Place}
use Rattle.ready_rows.specs.Places.{overlaps, row_if, row_in, row_place}
use Rattle.ready_rows.specs.Known.{unless_met, with_row, with_place, without_place}

get-set_same : (places : List Place) (index : ℕ) (place : Place) → index < length places → slice_get (slice_set places index place) index ≡ Some place
get-set_same places index place inside =
    slice_get-get_or (slice_set places index place) index place (omega (arith, length-set places index place)) ∙ ap Some (get_or-set_same places index place place inside)

get-set_other : (places : List Place) (index other : ℕ) (place : Place) → other ≢ index → slice_get (slice_set places index place) other ≡ slice_get places other
get-set_other [] index other place apart = refl
get-set_other (x ∷ places) zero zero place apart = absurd (apart refl)
get-set_other (x ∷ places) zero (suc other) place apart = refl
get-set_other (x ∷ places) (suc index) zero place apart = refl
get-set_other (x ∷ places) (suc index) (suc other) place apart = get-set_other places index other place (λ same. apart (ap suc same))

-- a row is known from now on
pub row_in-kept :
    (places : List Place) (place : Place) (other : ℕ) → length places ≡ 512
    → row_in (slice_set places (row_place place.at) place) other ≡ with_row place.at place.row other (row_in places other)
row_in-kept places place other sized = grind (arith, nat_tests, get-set_same, get-set_other)

-- a place has an address that is found elsewhere, so no row
pub row_in-emptied :
    (places : List Place) (index : ℕ) (place : Place) (other : ℕ) → length places ≡ 512 → index < 512 → row_place place.at ≢ index
    → row_in (slice_set places index place) other ≡ without_place index other (row_in places other)
row_in-emptied places index place other sized below apart = grind (arith, nat_tests, get-set_same, get-set_other)

-- of places that have all address 0, and of the first of them another, none has a row
get-replicate : (n k : ℕ) (place : Place) → (slice_get (replicate n place) k ≡ Some place) ⊎ (slice_get (replicate n place) k ≡ None)
get-replicate zero k place = inr refl
get-replicate (suc n) zero place = inl refl
get-replicate (suc n) (suc k) place = get-replicate n k place

elsewhere-none :
    (got : Option Place) (place : Place) (address : ℕ) → (got ≡ Some place) ⊎ (got ≡ None) → place.at ≡ 0
    → without_place 0 address (row_if address got) ≡ None
elsewhere-none got place address (inl some) low = rw some (by_test (place.at == address) refl)
  where
    by_test : (b : Bool) → (place.at == address) ≡ b → without_place 0 address (cond b (Some place.row) None) ≡ None
    by_test true same = grind (arith, nat_tests)
    by_test false apart = grind (arith, nat_tests)
elsewhere-none got place address (inr none) low = rw none (grind (arith, nat_tests))

pub row_in-none :
    (places : List Place) (place other : Place) → places ≡ replicate 512 place → place.at ≡ 0 → row_place other.at ≢ 0
    → (address : ℕ) → row_in (slice_set places 0 other) address ≡ None
row_in-none places place other all low apart address =
    row_in-emptied places 0 other address (ap length all ∙ length-replicate {A = Place} 512 place) (lit< tt) apart
    ∙ elsewhere-none (slice_get places (row_place address)) place address
    (subst (λ (list : List Place). (slice_get list (row_place address) ≡ Some place) ⊎ (slice_get list (row_place address) ≡ None)) (sym all) (get-replicate 512 (row_place address) place))
    low

pub none-at : (known : Option Ready) (row : Ready) (address : ℕ) → known ≡ None → known ≡ Some row → address < 0
none-at known row address none some = absurd (cc)

-- a place loses a row that some bytes meet
pub row_in-dropped :
    (places : List Place) (index offset bytes : ℕ) (place : Place) (other : ℕ) → slice_get places index ≡ Some place
    → overlaps offset bytes place.at place.row ≡ true
    → without_place index other (row_in places other) ≡ with_place index offset bytes other (row_in places other)
row_in-dropped places index offset bytes place other there met = grind (arith, nat_tests)

-- a place keeps one that they don't meet
pub row_in-stays :
    (places : List Place) (index offset bytes : ℕ) (place : Place) (other : ℕ) → slice_get places index ≡ Some place
    → overlaps offset bytes place.at place.row ≡ false
    → row_in places other ≡ with_place index offset bytes other (row_in places other)
row_in-stays places index offset bytes place other there apart = grind (arith, nat_tests)

-- what is known at an address on the way through the halves of addresses: as before or already as it ends, and as it ends where the way has passed
pub record IsOnWay (first half offset bytes address : ℕ) (before now : Option Ready) : Type 0 where
  pub some : (now ≡ before) ⊎ (now ≡ unless_met offset bytes address before)
  pub passed : first ≤ address / 2 → address / 2 < half → now ≡ unless_met offset bytes address before

-- it begins with nothing passed
pub on_way-begins : (first offset bytes address : ℕ) (before : Option Ready) → IsOnWay first first offset bytes address before before
on_way-begins first offset bytes address before = record { some = inl refl; passed = λ from to. absurd (omega arith) }

-- what doesn't meet a row stays so
again : (offset bytes address : ℕ) (before : Option Ready) → unless_met offset bytes address (unless_met offset bytes address before) ≡ unless_met offset bytes address before
again offset bytes address None = refl
again offset bytes address (Some row) = grind (arith, nat_tests)

-- nor does one that lies apart from what was written
unmet : (offset bytes address : ℕ) (before : Option Ready) → (offset + bytes ≤ address) ⊎ (address + 4 ≤ offset) → unless_met offset bytes address before ≡ before
unmet offset bytes address None apart = refl
unmet offset bytes address (Some row) (inl above) = grind (arith, nat_tests)
unmet offset bytes address (Some row) (inr below) = grind (arith, nat_tests)

-- one place more
pub on_way-goes :
    (first half offset bytes address : ℕ) (before now next : Option Ready) → IsOnWay first half offset bytes address before now
    → next ≡ with_place (half % 512) offset bytes address now → IsOnWay first (half + 1) offset bytes address before next
on_way-goes first half offset bytes address before now next way is = by_test (row_place address == half % 512) refl is
  where
    ended : (now ≡ before) ⊎ (now ≡ unless_met offset bytes address before) → unless_met offset bytes address now ≡ unless_met offset bytes address before
    ended (inl same) = ap (unless_met offset bytes address) same
    ended (inr done) = ap (unless_met offset bytes address) done ∙ again offset bytes address before

    by_test :
        (b : Bool) → (row_place address == half % 512) ≡ b → next ≡ cond b (unless_met offset bytes address now) now
        → IsOnWay first (half + 1) offset bytes address before next
    by_test true here then =
        let ends : next ≡ unless_met offset bytes address before = then ∙ ended way.some in
        record { some = inr ends; passed = λ from to. ends }
    by_test false here then =
        record {
          some = subst (λ o. (o ≡ before) ⊎ (o ≡ unless_met offset bytes address before)) (sym then) way.some;
          passed = λ from to. then ∙ way.passed from (grind (arith, nat_tests));
        }

-- it ends where no later row can be met
pub on_way-ends :
    (first half offset bytes address : ℕ) (before now : Option Ready) → IsOnWay first half offset bytes address before now
    → first ≤ (offset - 3) / 2 → (offset + bytes + 1) / 2 ≤ half → now ≡ unless_met offset bytes address before
on_way-ends first half offset bytes address before now way from to = by_first (cases_lt (address / 2) first)
  where
    as_was : (now ≡ before) ⊎ (now ≡ unless_met offset bytes address before) → unless_met offset bytes address before ≡ before → now ≡ unless_met offset bytes address before
    as_was (inl same) stays = same ∙ sym stays
    as_was (inr done) stays = done

    by_half : (address / 2 < half) ⊎ (half ≤ address / 2) → first ≤ address / 2 → now ≡ unless_met offset bytes address before
    by_half (inl before_it) there = way.passed there before_it
    by_half (inr past) there = as_was way.some (unmet offset bytes address before (inl (omega arith)))

    by_first : (address / 2 < first) ⊎ (first ≤ address / 2) → now ≡ unless_met offset bytes address before
    by_first (inl early) = as_was way.some (unmet offset bytes address before (inr (omega arith)))
    by_first (inr there) = by_half (cases_lt (address / 2) half) there

-- no row is met by bytes behind all rows
pub above-top :
    (known : Option Ready) (top offset bytes address : ℕ) → ((row : Ready) → known ≡ Some row → address < top) → top ≤ offset - 3
    → known ≡ unless_met offset bytes address known
above-top None top offset bytes address below past = refl
above-top (Some row) top offset bytes address below past = sym (unmet offset bytes address (Some row) (inr (omega (arith, below row refl))))

-- rows below a top that were emptied place by place up to behind it are all gone
pub record IsEmptiedTo (index address : ℕ) (before now : Option Ready) : Type 0 where
  pub was : (row : Ready) → now ≡ Some row → before ≡ Some row
  pub behind : (row : Ready) → now ≡ Some row → index ≤ row_place address
