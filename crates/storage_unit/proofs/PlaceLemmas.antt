-- Where the bytes of an access lie, one by one, and the frames that have them.
use Rattle.storage_unit.proofs.Common.{◌≡◌, ℕ, ◌+◌, ◌-◌, ◌*◌, ◌/◌, ◌%◌, ◌<◌, ◌≤◌, ◌^◌, Bool, true, false, refl, sym, ◌∙◌, ap, subst, arith, replicate, Option, Some, None, Ok, inl, inr, nat_le, nat_lt, slice_index_or, if◌then◌else◌, is_some, cases_lt, nat_tests, get_or-replicate, get_or_past, div-add-mod', PageSize, page_bytes, Layout, length_of, start_of, byte_count, page_of, segment-within, Located, Private, Shared, Refused, SegmentRegister, Virtual, Registers, virtual_at, bytes_on, located_by, key_to, key_of, look_up, frame_at, bytes-low, Reach, is_private, offset_of, byte_place, on, IsUnder, AreReached, seat_pages, pages_begun, table_of, byte_of, byte_at, is_there, IsReachSound, Lies, AreThere}
use Rattle.storage_unit.proofs.SizeLemmas.{rest-below, byte-on-page, page-at, seat-page, same-page-on, page-of-line, page-below}
use Rattle.storage_unit.proofs.KeyLemmas.{key-of-place, start-whole}
use Rattle.storage_unit.proofs.HeldLemmas.{finds-page, finds-private}

-- an access lies under a register
pub record Under (registers : Registers) (address n : ℕ) (at : Virtual) : Type 0 where
  pub register : SegmentRegister
  pub stands : slice_index_or registers.list (address / 2 ^ 28) None ≡ Some register
  pub fits : address % 2 ^ 28 + n ≤ register.bytes
  pub is : at ≡ virtual_at registers.page register.segment (address % 2 ^ 28)

-- an access that isn't refused lies under one
pub under : (registers : Registers) (address n : ℕ) (store : Bool) (at : Virtual) → located_by registers address n store ≡ Ok at → Under registers address n at
under registers address n store at is = grind (arith, nat_tests)

-- the offset of a byte at an offset
pub offset-is : (page : PageSize) (segment offset : ℕ) → offset_of page (virtual_at page segment offset) ≡ offset
offset-is page segment offset = div-add-mod' offset (page_bytes page)

-- a byte so many on lies so many bytes on
pub place-on : (directory : Layout) (at : Virtual) (k : ℕ) → byte_place directory (bytes_on directory.page at k) ≡ on (byte_place directory at) k
place-on directory at k = grind (arith, nat_tests)

pub on-on : (place : Located) (j k : ℕ) → on (on place j) k ≡ on place (j + k)
on-on place j k = grind (arith, nat_tests)

-- a byte lies somewhere
pub never-refused : (directory : Layout) (at : Virtual) (code : ℕ) → byte_place directory at ≡ Refused code → ⊥
never-refused directory at code is = grind (arith, nat_tests)

-- a seat that is selected
pub record Selected (state : Reach) : Type 0 where
  pub seat : ℕ
  pub runner : state.runner ≡ seat + 1
  pub few : seat < 16
  pub begun : slice_index_or state.begun seat false ≡ true
  pub reached : AreReached state.directory seat state.registers

pub selected : (state : Reach) → IsReachSound state → 1 ≤ state.runner → Selected state
selected state sound some =
    let is : state.runner ≡ (state.runner - 1) + 1 = omega (arith, some) in
    let told = sound.selected.seat (state.runner - 1) is in
    record { seat = state.runner - 1; runner = is; few = omega (arith, sound.selected.few, some); begun = told.0; reached = told.1 }

-- the registers go by the store's pages
pub registers-page : (state : Reach) → IsReachSound state → state.registers.page ≡ state.directory.page
registers-page state sound = elim (cases_lt 0 state.runner) [
  | inl some ↦ (selected state sound some).reached.page
  | inr none ↦ ap (λ (registers : Registers). registers.page) (sound.selected.none (omega (arith, none)))
]

-- where nothing stands under any register, none lies anywhere
pub no-register : (state : Reach) (address : ℕ) {n : ℕ} (at : Virtual) → Under state.registers address n at → state.registers ≡ record { page = state.directory.page; list = replicate 16 None } → ⊥
no-register state address at u is = grind (arith, nat_tests, get_or-replicate, get_or_past, u.stands)

module _ (state : Reach) (sound : IsReachSound state) (address n : ℕ) (at : Virtual) (u : Under state.registers address n at) where
  -- where something stands under a register a seat is selected
  pub one : Selected state
  one = elim (cases_lt 0 state.runner) [
    | inl some ↦ selected state sound some
    | inr none ↦ absurd (no-register state address at u (sound.selected.none (omega (arith, none))))
  ]

  pub stands : IsUnder state.directory one.seat u.register
  stands = one.reached.under (address / 2 ^ 28) u.register u.stands

  is-at : at ≡ virtual_at state.directory.page u.register.segment (address % 2 ^ 28)
  is-at = u.is ∙ ap (λ page. virtual_at page u.register.segment (address % 2 ^ 28)) (registers-page state sound)

  pub located-offset : offset_of state.directory.page at ≡ address % 2 ^ 28
  located-offset = ap (offset_of state.directory.page) is-at ∙ offset-is state.directory.page u.register.segment (address % 2 ^ 28)

  segment : at.segment ≡ u.register.segment
  segment = ap (λ (v : Virtual). v.segment) u.is

  few-bytes : u.register.bytes ≤ 2 ^ 22
  few-bytes = grind (arith, nat_tests, stands, bytes-low state.directory.segments u.register.segment u.register.bytes state.directory.page sound.legal)

  pub lies : Lies state at n
  lies = record {
    within = subst (λ (v : Virtual). v.byte < page_bytes state.directory.page) (sym is-at) (rest-below state.directory.page (address % 2 ^ 28));
    few = omega (arith, located-offset, u.fits, few-bytes);
    private = λ own.
        let told = stands.private (ap is_private (sym segment) ∙ own) in
        (one.seat, one.runner, one.few, segment ∙ told.0, one.begun, omega (arith, located-offset, u.fits, told.1));
    shared = λ own.
        let found = ap (length_of state.directory) segment ∙ stands.shared (ap is_private (sym segment) ∙ own) in
        (u.register.bytes, found, omega (arith, located-offset, u.fits), segment-within state.directory at.segment u.register.bytes found);
  }

  -- each byte of it
  pub part : (k m : ℕ) → k + m ≤ n → located_by state.registers (address + k) m false ≡ Ok (bytes_on state.directory.page at k)
  part k m below =
      let few : address % 2 ^ 28 + k ≤ 2 ^ 22 = omega (arith, u.fits, few-bytes, below) in
      let first : (address + k) / 2 ^ 28 ≡ address / 2 ^ 28 = omega arith in
      let rest : (address + k) % 2 ^ 28 ≡ address % 2 ^ 28 + k = omega arith in
      let inside : nat_le (address % 2 ^ 28 + k + m) u.register.bytes ≡ true = grind (arith, nat_tests, u.fits) in
      grind (arith, nat_tests, u.stands, registers-page state sound)

  -- the byte shown there
  pub byte-on : (k : ℕ) → k < n → byte_at state (address + k) ≡ byte_of state (on (byte_place state.directory at) k)
  byte-on k below = grind (arith, nat_tests, part, place-on)

  pub itself : at ≡ virtual_at state.directory.page at.segment (offset_of state.directory.page at)
  itself = is-at ∙ ap (λ s. virtual_at state.directory.page s (address % 2 ^ 28)) (sym segment) ∙ ap (virtual_at state.directory.page at.segment) (sym located-offset)

-- the first byte of a range that isn't refused, as it is located alone
pub first-byte : (state : Reach) → IsReachSound state → (address n : ℕ) (store : Bool) (at : Virtual) → located_by state.registers address n store ≡ Ok at → located_by state.registers address 0 false ≡ Ok at
first-byte state sound address n store at is = grind (arith, nat_tests)

-- bytes behind some of them lie there too
pub lies-on : (state : Reach) (at : Virtual) (k m n : ℕ) → k + m ≤ n → Lies state at n → Lies state (bytes_on state.directory.page at k) m
lies-on state at k m n less lies = grind (arith, nat_tests)

pub there-on : (state : Reach) (at : Virtual) (k m n : ℕ) → k + m ≤ n → AreThere state at n → AreThere state (bytes_on state.directory.page at k) m
there-on state at k m n less there past below = grind (arith, nat_tests, place-on, on-on)

-- a place of private storage, or of the store
pub private-is : (d : Layout) (at : Virtual) → is_private at.segment ≡ true → byte_place d at ≡ Private (offset_of d.page at)
private-is d at own = ap (λ (b : Bool). if b then Private (offset_of d.page at) else Shared (start_of d at.segment + offset_of d.page at)) own

pub shared-is : (d : Layout) (at : Virtual) → is_private at.segment ≡ false → byte_place d at ≡ Shared (start_of d at.segment + offset_of d.page at)
shared-is d at own = ap (λ (b : Bool). if b then Private (offset_of d.page at) else Shared (start_of d at.segment + offset_of d.page at)) own

pub is-private : (d : Layout) (at : Virtual) (a : ℕ) → byte_place d at ≡ Private a → (is_private at.segment ≡ true) × (offset_of d.page at ≡ a)
is-private d at a is = grind (arith, nat_tests)

pub is-shared : (d : Layout) (at : Virtual) (a : ℕ) → byte_place d at ≡ Shared a → (is_private at.segment ≡ false) × (start_of d at.segment + offset_of d.page at ≡ a)
is-shared d at a is = grind (arith, nat_tests)

-- the frame that the table finds for some bytes that lie there
module _ (state : Reach) (sound : IsReachSound state) (at : Virtual) (n : ℕ) (some : 0 < n) (lies : Lies state at n) where
  pub finds-own : (seat : ℕ) → state.runner ≡ seat + 1 → is_private at.segment ≡ true → look_up (table_of state).keys (key_of at) ≡ Some (seat * seat_pages state.directory.page + at.page)
  finds-own seat is own =
      let (other, runner, few, segment, begun, fits) = lies.private own in
      let same : other ≡ seat = omega (arith, is, runner) in
      let small : at.page < seat_pages state.directory.page = seat-page state.directory.page at.page at.byte n some fits in
      let inside : nat_lt at.page (seat_pages state.directory.page) ≡ true = grind (arith, nat_tests, small) in
      ap (λ s. look_up (table_of state).keys (key_to s at.page)) segment
      ∙ finds-private state.directory sound.legal state.pool sound.fits.seen sound.fits.size sound.fits.pages (pages_begun state.directory.page state.begun) other at.page few small
      ∙ ap (λ (on : Bool). if nat_lt at.page (if on then seat_pages state.directory.page else 0) then Some (other * seat_pages state.directory.page + at.page) else None) begun
      ∙ ap (λ (b : Bool). if b then Some (other * seat_pages state.directory.page + at.page) else None) inside
      ∙ ap (λ s. Some (s * seat_pages state.directory.page + at.page)) same

  pub place-below : is_private at.segment ≡ false → start_of state.directory at.segment + offset_of state.directory.page at < byte_count state.directory
  place-below own = let (bytes, found, fits, within) = lies.shared own in omega (arith, fits, within, some)

  pub finds-shared : is_private at.segment ≡ false → look_up (table_of state).keys (key_of at) ≡ frame_at state.pool (page_of state.directory (start_of state.directory at.segment + offset_of state.directory.page at))
  finds-shared own =
      let (bytes, found, fits, within) = lies.shared own in
      let place = start_of state.directory at.segment + offset_of state.directory.page at in
      let here : offset_of state.directory.page at / page_bytes state.directory.page ≡ at.page = page-at state.directory.page at.page at.byte lies.within in
      let key = key-of-place state.directory sound.legal at.segment bytes (offset_of state.directory.page at) found (omega (arith, fits, some)) in
      cc (finds-page state.directory sound.legal state.pool sound.fits.seen sound.fits.size sound.fits.pages (pages_begun state.directory.page state.begun) (page_of state.directory place) (page-below state.directory place (place-below own)))

  -- the place of a byte of the store in its page
  pub place-byte : (start_of state.directory at.segment + offset_of state.directory.page at) % page_bytes state.directory.page ≡ at.byte
  place-byte = byte-on-page state.directory.page (start_of state.directory at.segment) at.page at.byte (start-whole state.directory sound.legal at.segment) lies.within

  -- a byte of the same page is in a frame exactly where the table finds one
  pub there-found : (k : ℕ) → at.byte + k < page_bytes state.directory.page → is_there state (on (byte_place state.directory at) k) ≡ is_some (look_up (table_of state).keys (key_of at))
  there-found k within = by_test (is_private at.segment) refl
    where
      by_test : (own : Bool) → is_private at.segment ≡ own → is_there state (on (byte_place state.directory at) k) ≡ is_some (look_up (table_of state).keys (key_of at))
      by_test true own =
          let (seat, runner, few, segment, begun, fits) = lies.private own in
          ap (λ place. is_there state (on place k)) (private-is state.directory at own)
          ∙ ap (λ (o : Option ℕ). is_some o) (sym (finds-own seat runner own))
      by_test false own =
          let place = start_of state.directory at.segment + offset_of state.directory.page at in
          let same : (place + k) / page_bytes state.directory.page ≡ place / page_bytes state.directory.page = same-page-on state.directory.page place k (omega (arith, place-byte, within)) in
          ap (λ p. is_there state (on p k)) (shared-is state.directory at own)
          ∙ ap (λ p. is_some (frame_at state.pool p)) (page-of-line state.directory.page (place + k))
          ∙ ap (λ p. is_some (frame_at state.pool p)) same
          ∙ ap (λ (o : Option ℕ). is_some o) (sym (finds-shared own))
