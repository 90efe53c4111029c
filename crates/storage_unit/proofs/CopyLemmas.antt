-- Bytes that are copied out of frames are those that are shown.
use Rattle.storage_unit.proofs.Common.{◌≡◌, ℕ, ◌+◌, ◌-◌, ◌*◌, ◌/◌, ◌%◌, ◌<◌, ◌≤◌, true, false, ◌++◌, length, sym, ◌∙◌, ap, arith, Option, Some, None, inl, inr, slice_index, slice_range, is_some, option_map_or, length-append, length-take, length-drop, get_or_append_left, get_or-append_right, get_or-map-range_with_len, length-map-range_with_len, cases_lt, cases_Bool, same_number_lists, page_bytes, start_of, page_of, Located, Virtual, key_of, look_up, frame_at, frame_part, frame_count, page_part, look_up-held, Reach, is_private, offset_of, byte_place, on, seat_pages, table_of, byte_of, IsReachSound, Lies, AreThere, bytes_shown, nat_tests}
use Rattle.storage_unit.proofs.SizeLemmas.{same-page-on, rest-on, seat-bytes}
use Rattle.storage_unit.proofs.ByteLemmas.{in-range}
use Rattle.storage_unit.proofs.HeldLemmas.{keys-long}
use Rattle.storage_unit.proofs.PlaceLemmas.{on-on, private-is, shared-is, finds-own, finds-shared, place-byte, there-found}

pub none-of : (o : Option ℕ) → ((n : ℕ) → o ≡ Some n → ⊥) → o ≡ None
none-of o h1 = grind (arith, nat_tests)

pub shown-long : (state : Reach) (place : Located) (n : ℕ) → length (bytes_shown state place n) ≡ n
shown-long state place n = length-map-range_with_len (λ past. byte_of state (on place past)) 0 n

pub shown-at : (state : Reach) (place : Located) (n k : ℕ) → k < n → slice_index (bytes_shown state place n) k ≡ byte_of state (on place k)
shown-at state place n k below = get_or-map-range_with_len (λ past. byte_of state (on place past)) 0 n k k 0 below (omega arith)

-- those from a place on and those behind them
pub shown-split : (state : Reach) (place : Located) (m n : ℕ) → bytes_shown state place m ++ bytes_shown state (on place m) n ≡ bytes_shown state place (m + n)
shown-split state place m n =
    same_number_lists (bytes_shown state place m ++ bytes_shown state (on place m) n) (bytes_shown state place (m + n))
    (long ∙ sym (shown-long state place (m + n))) (λ k below. element k (omega (arith, below, long)))
  where
    long : length (bytes_shown state place m ++ bytes_shown state (on place m) n) ≡ m + n
    long = length-append (bytes_shown state place m) (bytes_shown state (on place m) n) ∙ omega (arith, shown-long state place m, shown-long state (on place m) n)

    element : (k : ℕ) → k < m + n → slice_index (bytes_shown state place m ++ bytes_shown state (on place m) n) k ≡ slice_index (bytes_shown state place (m + n)) k
    element k below = elim (cases_lt k m) [
      | inl less ↦
          cc (get_or_append_left (bytes_shown state place m) (bytes_shown state (on place m) n) 0 k (omega (arith, less, shown-long state place m)), shown-at state place m k less, shown-at state place (m + n) k below)
      | inr past ↦
          let back : m + (k - m) ≡ k = omega (arith, past) in
          cc (
            get_or-append_right (bytes_shown state place m) (bytes_shown state (on place m) n) m k 0 (shown-long state place m) past,
            shown-at state (on place m) n (k - m) (omega (arith, past, below)),
            on-on place m (k - m),
            shown-at state place (m + n) k below,
          )
    ]

-- the frame that the table found is one of the pool's
pub found-below : (state : Reach) (at : Virtual) (frame : ℕ) → IsReachSound state → look_up (table_of state).keys (key_of at) ≡ Some frame → frame < frame_count state.pool.page state.pool.frames
found-below state at frame sound is = grind (arith, nat_tests, look_up-held, keys-long)

module _ (state : Reach) (sound : IsReachSound state) (at : Virtual) (n : ℕ) (some : 0 < n) (lies : Lies state at n) where
  -- the byte that is shown of a byte of the same page, in the frame that the table found
  pub shown-found : (frame k : ℕ) → look_up (table_of state).keys (key_of at) ≡ Some frame → at.byte + k < page_bytes state.directory.page
      → byte_of state (on (byte_place state.directory at) k) ≡ slice_index state.pool.bytes (frame * page_bytes state.directory.page + at.byte + k)
  shown-found frame k is within = elim (cases_Bool (is_private at.segment)) [
    | inl own ↦
        let (seat, runner, few, segment, begun, fits) = lies.private own in
        let same : seat * seat_pages state.directory.page + at.page ≡ frame = one (seat * seat_pages state.directory.page + at.page) frame (sym (finds-own state sound at n some lies seat runner own) ∙ is) in
        let spot : (state.runner - 1) * 16384 + (offset_of state.directory.page at + k) ≡ frame * page_bytes state.directory.page + at.byte + k =
        omega (arith, runner, seat-bytes state.directory.page seat at.page, ap (λ n. n * page_bytes state.directory.page) same) in
        ap (λ place. byte_of state (on place k)) (private-is state.directory at own) ∙ ap (slice_index state.pool.bytes) spot
    | inr other ↦
        let place = start_of state.directory at.segment + offset_of state.directory.page at in
        let first : place % page_bytes state.directory.page ≡ at.byte = place-byte state sound at n some lies in
        let page : (place + k) / page_bytes state.directory.page ≡ place / page_bytes state.directory.page = same-page-on state.directory.page place k (omega (arith, first, within)) in
        let rest : (place + k) % page_bytes state.directory.page ≡ at.byte + k = rest-on state.directory.page place k (omega (arith, first, within)) ∙ ap (λ n. n + k) first in
        let there : frame_at state.pool (page_of state.directory (place + k)) ≡ Some frame =
        cc (finds-shared state sound at n some lies other) in
        ap (λ p. byte_of state (on p k)) (shared-is state.directory at other)
        ∙ ap (λ (o : Option ℕ). option_map_or (λ f. slice_index state.pool.bytes (f * page_bytes state.directory.page + (place + k) % page_bytes state.directory.page)) o 0) there
        ∙ ap (slice_index state.pool.bytes) (omega (arith, rest))
  ]
    where
      one : (a b : ℕ) → Some a ≡ Some b → a ≡ b
      one a b same = cc

  -- a part of that frame has the bytes that are shown
  pub part-shown : (frame : ℕ) → look_up (table_of state).keys (key_of at) ≡ Some frame → at.byte + n ≤ page_bytes state.directory.page
      → frame_part state.pool frame at.byte n ≡ bytes_shown state (byte_place state.directory at) n
  part-shown frame is within =
      let fits : frame * page_bytes state.directory.page + page_bytes state.directory.page ≤ length state.pool.bytes =
      omega (
        arith,
        page_part frame (frame_count state.pool.page state.pool.frames) (page_bytes state.directory.page) (found-below state at frame sound is),
        sound.fits.seen.bytes,
        ap (λ s. frame_count state.pool.page state.pool.frames * page_bytes s) sound.fits.size,
      ) in
      let long : length (slice_range state.pool.bytes (frame * page_bytes state.directory.page + at.byte) (frame * page_bytes state.directory.page + at.byte + n)) ≡ n =
      simp (length-take, length-drop) (omega (arith, fits, within)) in
      ap (λ s. slice_range state.pool.bytes (frame * page_bytes s + at.byte) (frame * page_bytes s + at.byte + n)) sound.fits.size
      ∙ same_number_lists (slice_range state.pool.bytes (frame * page_bytes state.directory.page + at.byte) (frame * page_bytes state.directory.page + at.byte + n)) (bytes_shown state (byte_place state.directory at) n)
      (long ∙ sym (shown-long state (byte_place state.directory at) n))
      (λ k below.
      let small : k < n = omega (arith, below, long) in
      cc (in-range state.pool.bytes (frame * page_bytes state.directory.page + at.byte) n k small, shown-found frame k is (omega (arith, small, within)), shown-at state (byte_place state.directory at) n k small))

  -- bytes that are in frames are found
  pub found-some : AreThere state at n → look_up (table_of state).keys (key_of at) ≡ None → ⊥
  found-some there none =
      let clash : true ≡ false =
      sym (there 0 some) ∙ there-found state sound at n some lies 0 (omega (arith, lies.within)) ∙ ap (λ (o : Option ℕ). is_some o) none in
      cc
