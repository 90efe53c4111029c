-- The rows that a unit knows stay ready where none of their bytes changes.
use Rattle.storage_unit.proofs.Common.{◌≡◌, ℕ, ◌+◌, ◌-◌, ◌*◌, ◌/◌, ◌%◌, ◌<◌, ◌≤◌, ◌⊎◌, ◌==◌, Bool, true, false, List, length, refl, sym, ◌∙◌, ap, subst, arith, inl, inr, Option, Some, None, IfSome, option_map, nat_le, if◌then◌else◌, slice_index, nat_tests, page_bytes, bytes_from, halfword_of, Located, Private, Shared, Refused, Virtual, Reach, is_private, offset_of, byte_place, seat_selected, byte_at, put_at, put_in_store, IsReachSound, Lies, big_number, ReadyRows, AreReady, PageSize, private_byte, private_half}
use Rattle.flat_machine.specs.declared.ready.Ready.{Ready}
use Rattle.flat_machine.specs.Ready.{has_second, IsReadyRowOf, IsReadyAt}
use Rattle.ready_rows.specs.Known.{known, KnowsNoRow, unless_met, with_row}
use Rattle.ready_rows.specs.Places.{overlaps, row_bytes}
use Rattle.storage_unit.proofs.SizeLemmas.{rest-below, place-is}
use Rattle.storage_unit.proofs.FillLemmas.{over-part}
use Rattle.storage_unit.proofs.LocatedLemmas.{private-at}
use Rattle.storage_unit.proofs.PlaceLemmas.{Selected, selected, is-private, never-refused}
use Rattle.storage_unit.proofs.PutLemmas.{spot-none}
use Rattle.storage_unit.proofs.StoreLemmas.{all-private, low-frame}
use Rattle.storage_unit.proofs.AfterLemmas.{own-located}
use Rattle.storage_unit.proofs.LeftLemmas.{private-fits}

-- two bytes are a halfword
half-same : (f g : ℕ → ℕ) (offset : ℕ) → g offset ≡ f offset → g (offset + 1) ≡ f (offset + 1) → bytes_from g offset 2 ≡ bytes_from f offset 2
half-same f g offset first second = grind (arith, nat_tests)

-- the halfwords of a row may differ where it doesn't have them
row-same : (row : Ready) (first next second other address : ℕ) → next ≡ first → (has_second row ≡ true → other ≡ second) → IsReadyRowOf row first second address → IsReadyRowOf row next other address
row-same row first next second other address same told is =
    λ halves registers status at_first at_second. is halves registers status (at_first ∙ ap Some same) (λ long. at_second long ∙ ap Some (told long))

-- a row has two bytes, or four
two : (row : Ready) → 2 ≤ row_bytes row
two row = grind (arith, nat_tests)

four : (row : Ready) → row_bytes row ≤ 4
four row = grind (arith, nat_tests)

-- rows that are known were known before, and their bytes stayed
pub ready-after :
    (rows after : ReadyRows) (old new : List ℕ) (runner : ℕ) → AreReady rows old runner
    → ((address : ℕ) (row : Ready) → known after address ≡ Some row
    → (known rows address ≡ Some row) × ((offset : ℕ) → address ≤ offset → offset < address + row_bytes row → private_byte new runner offset ≡ private_byte old runner offset))
    → AreReady after new runner
ready-after rows after old new runner ready told = record {
  selected = λ address row is. ready.selected address row (told address row is).0;
  within = λ address row is. ready.within address row (told address row is).0;
  of_row = λ address row is.
      let (was, same) = told address row is in
      let short : 2 ≤ row_bytes row = two row in
      row-same row (private_half old runner address) (private_half new runner address) (private_half old runner (address + 2)) (private_half new runner (address + 2)) address
      (ap (big_number 2) (half-same (private_byte old runner) (private_byte new runner) address (same address (omega arith) (omega arith)) (same (address + 1) (omega arith) (omega arith))))
      (λ long.
      let all : row_bytes row ≡ 4 = ap (λ b. if b then 4 else 2) long in
      ap (big_number 2) (half-same (private_byte old runner) (private_byte new runner) (address + 2) (same (address + 2) (omega arith) (omega arith)) (same (address + 2 + 1) (omega arith) (omega arith))))
      (ready.of_row address row was);
}

-- where none is known, all are ready
pub ready-none : (rows : ReadyRows) (bytes : List ℕ) (runner : ℕ) → KnowsNoRow rows → AreReady rows bytes runner
ready-none rows bytes runner none = record { selected = λ address row is. absurd (never address row is); within = λ address row is. absurd (never address row is); of_row = λ address row is. absurd (never address row is) }
  where
    never : (address : ℕ) (row : Ready) → known rows address ≡ Some row → ⊥
    never address row is = let clash : None ≡ Some row = sym (none address) ∙ is in cc

-- they stay where all private bytes do
pub ready-kept :
    (rows : ReadyRows) (old new : List ℕ) (runner : ℕ) → runner < 17 → ((k : ℕ) → k < 262144 → slice_index new k ≡ slice_index old k)
    → AreReady rows old runner → AreReady rows new runner
ready-kept rows old new runner few same ready =
    ready-after rows rows old new runner ready
    (λ address row is. (is, λ offset from to. same ((runner - 1) * 16384 + offset) (omega (arith, to, few, ready.within address row is, four row))))

-- what is known after a store was known before, and apart from its bytes
unless-some : (offset bytes address : ℕ) (o : Option Ready) (row : Ready) → unless_met offset bytes address o ≡ Some row → (o ≡ Some row) × (overlaps offset bytes address row ≡ false)
unless-some offset bytes address o row is = grind (arith, nat_tests)

-- private bytes that aren't among those that are put stay
pub put-low :
    (state : Reach) (sound : IsReachSound state) (at : Virtual) (bytes : List ℕ) (lies : Lies state at (length bytes)) (k : ℕ) → k < 262144
    → (is_private at.segment ≡ true → seat_selected state * 16384 + offset_of state.directory.page at ≤ k → k < seat_selected state * 16384 + offset_of state.directory.page at + length bytes → ⊥)
    → slice_index (put_at state (byte_place state.directory at) bytes).pool.bytes k ≡ slice_index state.pool.bytes k
put-low state sound at bytes lies k low outside = by_place (byte_place state.directory at) refl
  where
    by_place : (place : Located) → byte_place state.directory at ≡ place → slice_index (put_at state place bytes).pool.bytes k ≡ slice_index state.pool.bytes k
    by_place (Private a) is =
        let (own, offset) = is-private state.directory at a is in
        let (few, runner, fits) = private-fits state at (length bytes) a lies is in
        over-part state.pool.bytes (seat_selected state * 16384 + a) bytes k (omega (arith, few, fits, all-private state sound))
        (λ j less same. outside own (omega (arith, offset, same)) (omega (arith, offset, same, less)))
    by_place (Shared a) is =
        let split : k / page_bytes state.directory.page * page_bytes state.directory.page + k % page_bytes state.directory.page ≡ k = place-is state.directory.page k in
        ap (slice_index (put_in_store state.directory state.pool a bytes).bytes) (sym split)
        ∙ spot-none state.directory state.pool a bytes (k / page_bytes state.directory.page) (k % page_bytes state.directory.page) (low-frame state sound k low) (rest-below state.directory.page k) (omega (arith, low, all-private state sound, split))
        ∙ ap (slice_index state.pool.bytes) split
    by_place (Refused code) is = absurd (never-refused state.directory at code is)

-- what is known after bytes were put: where they are private, no row that has one of them
abbrev pub after_put : PageSize → Virtual → (bytes address : ℕ) → Option Ready → Option Ready
after_put page first bytes address before = if is_private first.segment then unless_met (offset_of page first) bytes address before else before

-- bytes that are put, where the rows that have private ones of them are known no more
pub ready-put :
    (state : Reach) (sound : IsReachSound state) (at : Virtual) (bytes : List ℕ) → Lies state at (length bytes) → (rows after : ReadyRows) → AreReady rows state.pool.bytes state.runner
    → ((address : ℕ) → known after address ≡ after_put state.directory.page at (length bytes) address (known rows address))
    → AreReady after (put_at state (byte_place state.directory at) bytes).pool.bytes state.runner
ready-put state sound at bytes lies rows after ready left =
    ready-after rows after state.pool.bytes (put_at state (byte_place state.directory at) bytes).pool.bytes state.runner ready
    (λ address row found. by_test (is_private at.segment) refl address row (sym (left address) ∙ found))
  where
    low : (address : ℕ) (row : Ready) (o : ℕ) → known rows address ≡ Some row → o < address + row_bytes row → seat_selected state * 16384 + o < 262144
    low address row o is below = omega (arith, below, sound.selected.few, ready.within address row is, four row)

    by_test : (own : Bool) → is_private at.segment ≡ own → (address : ℕ) (row : Ready) → (if own then unless_met (offset_of state.directory.page at) (length bytes) address (known rows address) else known rows address) ≡ Some row
        → (known rows address ≡ Some row) × ((o : ℕ) → address ≤ o → o < address + row_bytes row → private_byte (put_at state (byte_place state.directory at) bytes).pool.bytes state.runner o ≡ private_byte state.pool.bytes state.runner o)
    by_test true own address row told =
        let (before, apart) = unless-some (offset_of state.directory.page at) (length bytes) address (known rows address) row told in (
          before,
          λ o from to.
              put-low state sound at bytes lies (seat_selected state * 16384 + o) (low address row o before to)
              (λ again above under. let clash : overlaps (offset_of state.directory.page at) (length bytes) address row ≡ true = grind (arith, nat_tests) in let both : true ≡ false = sym clash ∙ apart in cc),
        )
    by_test false shared address row told = (
      told,
      λ o from to. put-low state sound at bytes lies (seat_selected state * 16384 + o) (low address row o told to) (λ own above under. let clash : false ≡ true = sym shared ∙ own in cc),
    )

-- they stay where the same seat is selected
pub ready-selected :
    (rows after : ReadyRows) (bytes : List ℕ) (runner next : ℕ) → AreReady rows bytes runner → ((address : ℕ) → known after address ≡ (if runner == next then known rows address else None))
    → AreReady after bytes next
ready-selected rows after bytes runner next ready left = grind (arith, nat_tests, left, ready)

-- a row more is known
pub ready-with :
    (rows after : ReadyRows) (bytes : List ℕ) (runner at : ℕ) (row : Ready) → 1 ≤ runner → at + 4 ≤ 16384 → IsReadyRowOf row (private_half bytes runner at) (private_half bytes runner (at + 2)) at
    → ((address : ℕ) → known after address ≡ with_row at row address (known rows address)) → AreReady rows bytes runner → AreReady after bytes runner
ready-with rows after bytes runner at row some fits of left ready = record {
  selected = λ address found is. some;
  within = λ address found is. elim (which address found is) [ inl new ↦ omega (arith, new.0, fits) | inr old ↦ ready.within address found old ];
  of_row = λ address found is. elim (which address found is) [
    | inl new ↦ subst (λ r. IsReadyRowOf r (private_half bytes runner address) (private_half bytes runner (address + 2)) address) new.1 (subst (λ n. IsReadyRowOf row (private_half bytes runner n) (private_half bytes runner (n + 2)) n) (sym new.0) of)
    | inr old ↦ ready.of_row address found old
  ];
}
  where
    which : (address : ℕ) (found : Ready) → known after address ≡ Some found → ((address ≡ at) × (row ≡ found)) ⊎ (known rows address ≡ Some found)
    which address found is = grind (arith, nat_tests, left address)

-- the private bytes of who is selected are shown at the lowest addresses
pub own-byte : (state : Reach) (sound : IsReachSound state) (offset : ℕ) → 1 ≤ state.runner → offset < 16384 → byte_at state offset ≡ private_byte state.pool.bytes state.runner offset
own-byte state sound offset some below =
    let one : Selected state = selected state sound some in
    cc (own-located state one.seat offset 1 one.reached (omega (arith, below)), private-at state.directory sound.legal one.seat offset)

pub own-half : (state : Reach) (sound : IsReachSound state) (address : ℕ) → 1 ≤ state.runner → address + 2 ≤ 16384 → halfword_of (byte_at state) address ≡ Some (private_half state.pool.bytes state.runner address)
own-half state sound address some fits =
    let inside : nat_le (address + 2) 16384 ≡ true = grind (arith, nat_tests, fits) in
    cc (half-same (private_byte state.pool.bytes state.runner) (byte_at state) address (own-byte state sound address some (omega (arith, fits))) (own-byte state sound (address + 1) some (omega (arith, fits))))

-- so a row that is known is ready there
pub is-ready : (state : Reach) (sound : IsReachSound state) (rows : ReadyRows) → AreReady rows state.pool.bytes state.runner → (address : ℕ) (found : Option Ready) → found ≡ known rows address
    → IfSome found (λ row. IsReadyAt row (halfword_of (byte_at state)) address)
is-ready state sound rows ready address None is = tt
is-ready state sound rows ready address (Some row) is =
    let some = ready.selected address row (sym is) in
    let fits = ready.within address row (sym is) in
    record {
      first = private_half state.pool.bytes state.runner address;
      second = private_half state.pool.bytes state.runner (address + 2);
      at_first = own-half state sound address some (omega (arith, fits));
      at_second = λ long. own-half state sound (address + 2) some (omega (arith, fits));
      of_row = ready.of_row address row (sym is);
    }

-- what holds of the value of a loan holds of the loan
pub is-lent : {R : Type 0} (lent : Option R) (now : R → Ready) (P : Ready → Type 0) → IfSome (option_map now lent) P → IfSome lent (λ row. P (now row))
is-lent None now P holds = tt
is-lent (Some row) now P holds = holds

-- a row that is made of the halfwords that are shown is one of private ones
pub row-found :
    (state : Reach) (sound : IsReachSound state) (address first second : ℕ) (found : Option Ready) → 1 ≤ state.runner
    → Some first ≡ halfword_of (byte_at state) address → Some second ≡ halfword_of (byte_at state) (address + 2) → IfSome found (λ row. IsReadyRowOf row first second address)
    → IfSome found (λ row. IsReadyRowOf row (private_half state.pool.bytes state.runner address) (private_half state.pool.bytes state.runner (address + 2)) address)
row-found state sound address first second None some here there is = tt
row-found state sound address first second (Some row) some here there is =
    row-same row first (private_half state.pool.bytes state.runner address) second (private_half state.pool.bytes state.runner (address + 2)) address
    (half address first here) (λ long. half (address + 2) second there) is
  where
    within : (at n : ℕ) → Some n ≡ halfword_of (byte_at state) at → at + 2 ≤ 16384
    within at n shown = grind (arith, nat_tests)

    half : (at n : ℕ) → Some n ≡ halfword_of (byte_at state) at → private_half state.pool.bytes state.runner at ≡ n
    half at n shown = let both : Some n ≡ Some (private_half state.pool.bytes state.runner at) = shown ∙ own-half state sound at some (within at n shown) in cc
