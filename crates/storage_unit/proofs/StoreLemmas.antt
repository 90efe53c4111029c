-- What a store leaves, as it is written page by page, and what is shown after it.
use Rattle.storage_unit.proofs.Common.{◌≡◌, ℕ, ◌+◌, ◌-◌, ◌*◌, ◌/◌, ◌%◌, ◌<◌, ◌≤◌, List, ◌++◌, length, refl, sym, ◌∙◌, ap, subst, arith, Option, Some, None, get_or, inl, inr, ◌||◌, slice_set, option_map_or, cases_Bool, nat_tests, same_lists, length-append, get_or_append_left, get_or-append_right, get_or-map-range_with_len, length-map-range_with_len, same_number_lists, page_bytes, start_of, page_of, union, where-alike, is_in_where-below, of_page_where, has, Located, Private, Shared, Refused, lines_at, Virtual, key_of, look_up, Pool, private_frames, frame_count, page_at, marks_at, marked_in, with_marks, with_bytes, lines_of_part, page_part, Reach, is_private, offset_of, byte_place, on, AreOfPages, seat_pages, table_of, put_in_store, put_at, IsReachSound, Lies, some-within, overlaid-joined}
use Rattle.storage_unit.proofs.SizeLemmas.{private-whole, seat-bytes, seat-frame, seat-page, line-order}
use Rattle.storage_unit.proofs.StateLemmas.{marks-set}
use Rattle.storage_unit.proofs.PlaceLemmas.{private-is, shared-is, finds-own, finds-shared, place-byte}
use Rattle.storage_unit.proofs.PutLemmas.{put-inside, put-outside, has-lines, page-bytes, page-marks}

one-of : (a b : ℕ) → Some a ≡ Some b → a ≡ b
one-of a b same = cc

-- the frames have room for a page
pub frame-room : (state : Reach) → IsReachSound state → (frame : ℕ) → frame < frame_count state.directory.page state.pool.frames → frame * page_bytes state.directory.page + page_bytes state.directory.page ≤ length state.pool.bytes
frame-room state sound frame below =
    omega (arith, page_part frame (frame_count state.directory.page state.pool.frames) (page_bytes state.directory.page) below, sound.fits.seen.bytes ∙ ap (λ s. frame_count s state.pool.frames * page_bytes s) sound.fits.size)

-- private storage is in the frames
pub all-private : (state : Reach) → IsReachSound state → 262144 ≤ length state.pool.bytes
all-private state sound =
    omega (arith, private-whole state.directory.page, sound.fits.seen.bytes ∙ ap (λ s. frame_count s state.pool.frames * page_bytes s) sound.fits.size)

pub frame-below : (state : Reach) → IsReachSound state → (page frame : ℕ) → page_at state.pool frame ≡ Some page → (private_frames state.directory.page ≤ frame) × (frame < frame_count state.directory.page state.pool.frames)
frame-below state sound page frame is = grind (arith, nat_tests)

-- private frames have no page of the store
pub private-none : (state : Reach) → IsReachSound state → (frame : ℕ) → frame < private_frames state.directory.page → page_at state.pool frame ≡ None
private-none state sound frame low = grind (arith, nat_tests)

pub low-frame : (state : Reach) → IsReachSound state → (spot : ℕ) → spot < 262144 → page_at state.pool (spot / page_bytes state.directory.page) ≡ None
low-frame state sound spot low = grind (arith, nat_tests)

-- marks of the page in a frame
pub marked-of_pages : (pool : Pool) (frame : ℕ) (lines : List ℕ) → AreOfPages pool.marked → AreOfPages (marked_in pool frame lines).marked
marked-of_pages pool frame lines all = grind (arith, nat_tests, marks-set, of_page_where)

-- bytes that are written over those of the frame that the table found
module _ (state : Reach) (sound : IsReachSound state) (at : Virtual) (bytes : List ℕ) (some : 0 < length bytes) (lies : Lies state at (length bytes)) (within : at.byte + length bytes ≤ page_bytes state.directory.page)
    (frame : ℕ) (found : look_up (table_of state).keys (key_of at) ≡ Some frame) where
  abbrev written : Pool
  written = with_bytes (marked_in state.pool frame (lines_of_part state.pool.page at.byte (length bytes))) (frame * page_bytes state.pool.page + at.byte) bytes

  pub put-found : (let now : Reach = record state { pool = with_bytes (marked_in state.pool frame (lines_of_part state.pool.page at.byte (length bytes))) (frame * page_bytes state.pool.page + at.byte) bytes } in now)
      ≡ put_at state (byte_place state.directory at) bytes
  put-found = elim (cases_Bool (is_private at.segment)) [
    | inl own ↦
        let (seat, runner, few, segment, begun, fits) = lies.private own in
        let same : seat * seat_pages state.directory.page + at.page ≡ frame = one-of (seat * seat_pages state.directory.page + at.page) frame (sym (finds-own state sound at (length bytes) some lies seat runner own) ∙ found) in
        let small = seat-page state.directory.page at.page at.byte (length bytes) some fits in
        let spot : frame * page_bytes state.directory.page + at.byte ≡ (state.runner - 1) * 16384 + offset_of state.directory.page at =
        omega (arith, runner, seat-bytes state.directory.page seat at.page, ap (λ n. n * page_bytes state.directory.page) same) in
        let none : page_at state.pool frame ≡ None =
        private-none state sound frame (subst (λ f. f < private_frames state.directory.page) same (seat-frame state.directory.page seat at.page few small)) in
        ap (λ (o : Option ℕ). (let now : Reach = record state { pool = with_bytes (option_map_or (λ page. with_marks state.pool page (lines_of_part state.pool.page at.byte (length bytes))) o state.pool) (frame * page_bytes state.pool.page + at.byte) bytes } in now)) none
        ∙ ap (λ s. (let now : Reach = record state { pool = with_bytes state.pool (frame * page_bytes s + at.byte) bytes } in now)) sound.fits.size
        ∙ ap (λ n. (let now : Reach = record state { pool = with_bytes state.pool n bytes } in now)) spot
        ∙ sym (ap (λ place. put_at state place bytes) (private-is state.directory at own))
    | inr other ↦
        let place = start_of state.directory at.segment + offset_of state.directory.page at in
        let byte : place % page_bytes state.directory.page ≡ at.byte = place-byte state sound at (length bytes) some lies in
        let there : page_at state.pool frame ≡ Some (page_of state.directory place) =
        sound.fits.seen.there (page_of state.directory place) frame (sym (finds-shared state sound at (length bytes) some lies other) ∙ found) in
        let room = frame-room state sound frame (frame-below state sound (page_of state.directory place) frame there).1 in
        let inside : place % page_bytes state.directory.page + length bytes ≤ page_bytes state.directory.page = omega (arith, byte, within) in
        let low : page_of state.directory place < length state.pool.marked = omega (arith, sound.fits.seen.marked, page-there (page_of state.directory place) frame there) in
        ap (λ (o : Option ℕ). (let now : Reach = record state { pool = with_bytes (option_map_or (λ p. with_marks state.pool p (lines_of_part state.pool.page at.byte (length bytes))) o state.pool) (frame * page_bytes state.pool.page + at.byte) bytes } in now)) there
        ∙ ap (λ s. (let now : Reach = record state { pool = with_bytes (with_marks state.pool (page_of state.directory place) (lines_of_part s at.byte (length bytes))) (frame * page_bytes s + at.byte) bytes } in now)) sound.fits.size
        ∙ ap (λ n. (let now : Reach = record state { pool = with_bytes (with_marks state.pool (page_of state.directory place) (lines_of_part state.directory.page n (length bytes))) (frame * page_bytes state.directory.page + n) bytes } in now)) (sym byte)
        ∙ ap (λ (list : List ℕ). (let now : Reach = record state { pool = record state.pool { bytes = list; marked = slice_set state.pool.marked (page_of state.directory place) (union (marks_at state.pool (page_of state.directory place)) (lines_of_part state.directory.page (place % page_bytes state.directory.page) (length bytes))) } } in now))
        (page-bytes state.directory state.pool sound.fits.seen sound.fits.marks place bytes frame some inside there room)
        ∙ ap (λ (list : List (List ℕ)). (let now : Reach = record state { pool = record state.pool { bytes = (put_in_store state.directory state.pool place bytes).bytes; marked = list } } in now))
        (page-marks state.directory state.pool sound.fits.seen sound.fits.marks place bytes frame some inside there room low)
        ∙ sym (ap (λ p. put_at state p bytes) (shared-is state.directory at other))
  ]
    where
      page-there : (page f : ℕ) → page_at state.pool f ≡ Some page → page < length state.pool.frame_of
      page-there page f is = some-within state.pool.frame_of page f (sound.fits.seen.back page f is)

-- bytes behind others, put after them
module _ (state : Reach) (sound : IsReachSound state) (place : Located) (first second : List ℕ) (some : 0 < length first) (more : 0 < length second) where
  spots-twice : (p : ℕ) → (put_in_store state.directory (put_in_store state.directory state.pool p first) (p + length first) second).bytes ≡ (put_in_store state.directory state.pool p (first ++ second)).bytes
  spots-twice p = grind (arith, nat_tests, same_number_lists, length-map-range_with_len, get_or-map-range_with_len, put-outside, put-inside, get_or_append_left, length-append, get_or-append_right)

  -- the lines of both
  lines-twice : (p line : ℕ) → (has (lines_at state.directory (Shared p) (length first)) line || has (lines_at state.directory (Shared (p + length first)) (length second)) line)
      ≡ has (lines_at state.directory (Shared p) (length (first ++ second))) line
  lines-twice p line = grind (arith, nat_tests, has-lines, length-append, line-order)

  marks-twice : (p : ℕ) → (put_in_store state.directory (put_in_store state.directory state.pool p first) (p + length first) second).marked ≡ (put_in_store state.directory state.pool p (first ++ second)).marked
  marks-twice p = grind (arith, nat_tests, same_lists, length-map-range_with_len, is_in_where-below, get_or, get_or-map-range_with_len, where-alike, lines-twice)

  pub put-then : ((a : ℕ) → place ≡ Private a → (state.runner - 1) * 16384 + a + length first + length second ≤ length state.pool.bytes)
      → put_at (put_at state place first) (on place (length first)) second ≡ put_at state place (first ++ second)
  put-then fits = by_place place fits
    where
      by_place : (place : Located) → ((a : ℕ) → place ≡ Private a → (state.runner - 1) * 16384 + a + length first + length second ≤ length state.pool.bytes)
          → put_at (put_at state place first) (on place (length first)) second ≡ put_at state place (first ++ second)
      by_place (Private a) fits =
          let sum : (state.runner - 1) * 16384 + (a + length first) ≡ (state.runner - 1) * 16384 + a + length first = omega arith in
          ap (λ n. (let now : Reach = record state { pool = with_bytes (with_bytes state.pool ((state.runner - 1) * 16384 + a) first) n second } in now)) sum
          ∙ ap (λ (list : List ℕ). (let now : Reach = record state { pool = record state.pool { bytes = list } } in now)) (overlaid-joined state.pool.bytes ((state.runner - 1) * 16384 + a) first second (omega (arith, fits a refl)))
      by_place (Shared p) fits =
          ap (λ (list : List ℕ). (let now : Reach = record state { pool = record state.pool { bytes = list; marked = (put_in_store state.directory (put_in_store state.directory state.pool p first) (p + length first) second).marked } } in now)) (spots-twice p)
          ∙ ap (λ (list : List (List ℕ)). (let now : Reach = record state { pool = record state.pool { bytes = (put_in_store state.directory state.pool p (first ++ second)).bytes; marked = list } } in now)) (marks-twice p)
      by_place (Refused code) fits = refl
