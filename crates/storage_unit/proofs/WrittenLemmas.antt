-- A unit in which a part of a frame was written.
use Rattle.storage_unit.proofs.Common.{◌≡◌, ℕ, ◌+◌, ◌-◌, ◌*◌, ◌/◌, ◌%◌, ◌^◌, ◌<◌, ◌≤◌, List, length, sym, ◌∙◌, ap, subst, arith, nat_tests, inl, inr, cases_Bool, Option, Some, nat_lt, page_bytes, PageSize, Two, Four, start_of, page_of, Virtual, key_of, look_up, lines_of_part, with_frame_part, marked_in, private_frames, private_segment, Reach, byte_place, put_at, is_private, offset_of, seat_pages, true, false, table_of, Lies, Unit, reach_of, ReadyRows, known, AreReady, after_store, AreClear, AreUsed}
use Rattle.flat_machine.specs.declared.ready.Ready.{Ready}
use Rattle.storage_unit.proofs.ClearLemmas.{clear-put}
use Rattle.storage_unit.proofs.PartLemmas.{pool-after}
use Rattle.storage_unit.proofs.LineLemmas.{lies-one, page-found}
use Rattle.storage_unit.proofs.PlaceLemmas.{finds-own}
use Rattle.storage_unit.proofs.ReadyLemmas.{after_put, ready-put}
use Rattle.storage_unit.proofs.StoreLemmas.{put-found}
use Rattle.storage_unit.proofs.UnitLemmas.{unit-sound}

-- the spot of bytes that lie in one page
module _ (unit : Unit) (at : Virtual) (frame n : ℕ) (is : look_up (table_of (reach_of unit)).keys (key_of at) ≡ Some frame) (some : 0 < n) (lies : Lies (reach_of unit) at n) where
  abbrev size : PageSize
  size = unit.directory.page

  -- the spot of a private byte is its seat's, and that of one of the store is behind them
  spot-own : is_private at.segment ≡ true → (frame * page_bytes size + at.byte ≡ (at.segment - 3840) * 16384 + offset_of size at) × (at.segment < 3856) × (offset_of size at + n ≤ 16384)
  spot-own own =
      let (seat, runner, few, segment, begun, fits) = lies.private own in
      let held : seat * seat_pages size + at.page ≡ frame = one (sym (finds-own (reach_of unit) (unit-sound unit) at n some lies seat runner own) ∙ is) in
      (subst (λ f. f * page_bytes size + at.byte ≡ (at.segment - 3840) * 16384 + offset_of size at) held (own-spot size seat at.page at.byte at.segment segment), omega (arith, few, segment), fits)
    where
      one : {a b : ℕ} → Some a ≡ Some b → a ≡ b
      one same = cc

      own-spot : (size : PageSize) (seat page byte segment : ℕ) → segment ≡ private_segment seat
          → (seat * seat_pages size + page) * page_bytes size + byte ≡ (segment - 3840) * 16384 + (page * page_bytes size + byte)
      own-spot Two seat page byte segment told = omega (arith, told)
      own-spot Four seat page byte segment told = omega (arith, told)

  spot-shared : is_private at.segment ≡ false → 2 ^ 18 ≤ frame * page_bytes size + at.byte
  spot-shared other =
      let page = page_of unit.directory (start_of unit.directory at.segment + offset_of size at) in
      let there = page-found (reach_of unit) (unit-sound unit) at frame (lies-one (reach_of unit) at n some lies) other is in
      behind size frame at.byte (subst (λ s. private_frames s ≤ frame) unit.fits.size (unit.fits.seen.above page frame there))
    where
      behind : (size : PageSize) (frame byte : ℕ) → private_frames size ≤ frame → 2 ^ 18 ≤ frame * page_bytes size + byte
      behind Two frame byte above = omega (arith, above)
      behind Four frame byte above = omega (arith, above)

  -- so bytes from a private spot on lie in one seat's
  pub spot-within : (spot : ℕ) → spot ≡ frame * page_bytes size + at.byte → spot < 2 ^ 18 → spot % 16384 + n ≤ 16384
  spot-within spot here low = elim (cases_Bool (is_private at.segment)) [
    | inl own ↦
        let (told, few, fits) = spot-own own in
        omega (arith, here, told, fits, some)
    | inr other ↦ absurd (omega (arith, here, low, spot-shared other))
  ]

  -- and what is dropped by the spot is dropped by the byte
  after-spot : (spot : ℕ) → spot ≡ frame * page_bytes size + at.byte → (address : ℕ) (before : Option Ready) → after_store spot n address before ≡ after_put size at n address before
  after-spot spot here address before = elim (cases_Bool (is_private at.segment)) [
    | inl own ↦
        let (told, few, fits) = spot-own own in
        let offset : spot % 16384 ≡ offset_of size at = omega (arith, here, told, fits, some) in
        let low : nat_lt spot (2 ^ 18) ≡ true = grind (arith, nat_tests, here, told, few, fits, some) in
        grind (arith, nat_tests, own, offset, low)
    | inr other ↦
        let high : nat_lt spot (2 ^ 18) ≡ false = grind (arith, nat_tests, here, spot-shared other) in
        grind (arith, nat_tests, other, high)
  ]

module _ (unit : Unit) (at : Virtual) (frame byte n : ℕ) (is : look_up (table_of (reach_of unit)).keys (key_of at) ≡ Some frame) (same : byte ≡ at.byte) (within : at.byte + n ≤ page_bytes unit.directory.page)
    (some : 0 < n) (lies : Lies (reach_of unit) at n) (part : List ℕ) (long : length part ≡ n) where
  -- its state
  pub stored-part : (let now : Reach = record (reach_of unit) { pool = with_frame_part (marked_in unit.pool frame (lines_of_part unit.pool.page byte n)) (frame * page_bytes unit.pool.page + byte) part } in now)
      ≡ put_at (reach_of unit) (byte_place unit.directory at) part
  stored-part =
      cc (
        pool-after unit at frame byte n is same within (lines_of_part unit.pool.page byte n) part long,
        put-found (reach_of unit) (unit-sound unit) at part (omega (arith, long, some)) (subst (Lies (reach_of unit) at) (sym long) lies) (omega (arith, long, within)) frame is,
      )

  -- the rows that it knows are ready
  pub ready-part : (spot : ℕ) → spot ≡ frame * page_bytes unit.directory.page + at.byte → (after : ReadyRows) → ((address : ℕ) → known after address ≡ after_store spot n address (known unit.rows address))
      → AreReady after (with_frame_part (marked_in unit.pool frame (lines_of_part unit.pool.page byte n)) (frame * page_bytes unit.pool.page + byte) part).bytes unit.runner
  ready-part spot here after left =
      subst (λ (list : List ℕ). AreReady after list unit.runner) (sym (ap (λ (r : Reach). r.pool.bytes) stored-part))
      (ready-put (reach_of unit) (unit-sound unit) at part (subst (Lies (reach_of unit) at) (sym long) lies) unit.rows after unit.ready
      (λ address. left address ∙ after-spot unit at frame n is some lies spot here address (known unit.rows address) ∙ ap (λ m. after_put unit.directory.page at m address (known unit.rows address)) (sym long)))

  -- the private bytes behind those that were used are zeros
  pub clear-part : (spot : ℕ) → spot ≡ frame * page_bytes unit.directory.page + at.byte → (after : List ℕ) → (2 ^ 18 ≤ spot → after ≡ unit.used) → (spot < 2 ^ 18 → AreUsed unit.used after (spot / 16384) (spot % 16384 + n))
      → AreClear after (with_frame_part (marked_in unit.pool frame (lines_of_part unit.pool.page byte n)) (frame * page_bytes unit.pool.page + byte) part).bytes
  clear-part spot here after stays more =
      subst (λ (list : List ℕ). AreClear after list) (sym (ap (λ (r : Reach). r.pool.bytes) stored-part))
      (clear-put (reach_of unit) (unit-sound unit) at part (subst (Lies (reach_of unit) at) (sym long) lies) unit.used after unit.clear
      (λ other. stays (omega (arith, here, spot-shared unit at frame n is some lies other)))
      (λ own. let (told, few, fits) = spot-own unit at frame n is some lies own in
      let seat : spot / 16384 ≡ at.segment - 3840 = omega (arith, here, told, fits, some) in
      let offset : spot % 16384 + n ≡ offset_of unit.directory.page at + length part = omega (arith, here, told, fits, some, long) in
      subst (λ m. AreUsed unit.used after (at.segment - 3840) m) offset (subst (λ m. AreUsed unit.used after m (spot % 16384 + n)) seat (more (omega (arith, here, told, few, fits, some))))))
