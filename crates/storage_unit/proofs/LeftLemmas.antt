-- What a permitted store leaves of the two lists of plain bytes, and of the marks.
use Rattle.storage_unit.proofs.Common.{◌≡◌, ◌≢◌, ℕ, ◌+◌, ◌-◌, ◌*◌, ◌/◌, ◌%◌, ◌<◌, ◌≤◌, Bool, true, false, List, [], length, drop, refl, sym, ◌∙◌, ap, arith, Option, Some, None, inl, inr, ◌||◌, slice_index, slice_range, is_some, cases_lt, get_or_past, length-take, length-drop, same_number_lists, overlaid, length-overlaid, page_bytes, byte_count, line_of, page_of, has, page_of_line, Located, Private, Shared, Refused, lines_at, Virtual, Pool, frame_at, Reach, byte_place, byte_in_frame, byte_over, bytes_over, private_bytes, is_line_marked, is_marked, IsClean, seat_selected, is_there, put_byte, put_in_store, put_at, IsReachSound, Lies, StaysClean, LeavesSeats, nat_tests, overlaid_before, overlaid_behind, overlaid_within}
use Rattle.frame_pool.proofs.SoundLemmas.{or_none}
use Rattle.storage_unit.proofs.SizeLemmas.{rest-below, place-is, frame-high, page-of-line, page-below}
use Rattle.storage_unit.proofs.ByteLemmas.{in-range, same-bytes, byte-of-all, all-long, over-none, over-some}
use Rattle.storage_unit.proofs.FillLemmas.{over-part, in-part}
use Rattle.storage_unit.proofs.PlaceLemmas.{never-refused}
use Rattle.storage_unit.proofs.PutLemmas.{spots-long, marks-long, put-inside, put-outside, spot-none, place-put, line-put}
use Rattle.storage_unit.proofs.StoreLemmas.{frame-room, all-private, frame-below, low-frame}
use Rattle.storage_unit.proofs.AfterLemmas.{there-frame}
use Rattle.storage_unit.proofs.OpenLemmas.{each-line, each-byte}

-- some bytes that were put where they lie
pub record Put (old new : Reach) : Type 0 where
  pub at : Virtual
  pub bytes : List ℕ
  pub lies : Lies old at (length bytes)
  pub is : new ≡ put_at old (byte_place old.directory at) bytes

-- a place of the store that some bytes have
pub shared-within : (state : Reach) (at : Virtual) (n a : ℕ) → Lies state at n → byte_place state.directory at ≡ Shared a → a + n ≤ byte_count state.directory
shared-within state at n a lies is = grind (arith, nat_tests)

-- private bytes lie in the frames of the seat that is selected
pub private-fits : (state : Reach) (at : Virtual) (n a : ℕ) → Lies state at n → byte_place state.directory at ≡ Private a
    → (seat_selected state < 16) × (state.runner ≡ seat_selected state + 1) × (a + n ≤ 16384)
private-fits state at n a lies is = grind (arith, nat_tests)

pub range-long : (xs : List ℕ) (from count : ℕ) → from + count ≤ length xs → length (slice_range xs from (from + count)) ≡ count
range-long xs from count fits = omega (arith, fits, length-take (from + count - from) (drop from xs), length-drop from xs)

-- two parts of the same length with the same bytes
same-part : (xs ys : List ℕ) (from count : ℕ) → from + count ≤ length xs → from + count ≤ length ys
    → ((k : ℕ) → k < count → slice_index xs (from + k) ≡ slice_index ys (from + k))
    → slice_range xs from (from + count) ≡ slice_range ys from (from + count)
same-part xs ys from count fits others same =
    same_number_lists (slice_range xs from (from + count)) (slice_range ys from (from + count)) (range-long xs from count fits ∙ sym (range-long ys from count others))
    (λ k below. let inside : k < count = omega (arith, below, range-long xs from count fits) in cc (in-range xs from count k inside, same k inside, in-range ys from count k inside))

-- a part of which some bytes are written over
over-in-part : (xs bytes : List ℕ) (from count a : ℕ) → from + count ≤ length xs → a + length bytes ≤ count
    → slice_range (overlaid xs (from + a) bytes) from (from + count) ≡ overlaid (slice_range xs from (from + count)) a bytes
over-in-part xs bytes from count a fits inside =
    let whole : length (slice_range xs from (from + count)) ≡ count = range-long xs from count fits in
    let long : length (slice_range (overlaid xs (from + a) bytes) from (from + count)) ≡ count =
    range-long (overlaid xs (from + a) bytes) from count (omega (arith, fits, length-overlaid xs (from + a) bytes (omega (arith, fits, inside)))) in
    let element : (k : ℕ) → k < count → slice_index (slice_range (overlaid xs (from + a) bytes) from (from + count)) k ≡ slice_index (overlaid (slice_range xs from (from + count)) a bytes) k =
    λ k below. let part = slice_range xs from (from + count) in
    let spot = from + k in
    let same : from + k - (from + a) ≡ k - a = omega arith in
    grind (
      arith,
      in-range (overlaid xs (from + a) bytes) from count k below,
      in-range xs from count k below,
      overlaid_before xs (from + a) bytes spot 0,
      overlaid_within xs (from + a) bytes spot 0,
      overlaid_behind xs (from + a) bytes spot 0,
      overlaid_before part a bytes k 0,
      overlaid_within part a bytes k 0,
      overlaid_behind part a bytes k 0,
      same,
      whole,
    ) in
    same_number_lists (slice_range (overlaid xs (from + a) bytes) from (from + count)) (overlaid (slice_range xs from (from + count)) a bytes)
    (long ∙ sym (length-overlaid (slice_range xs from (from + count)) a bytes (omega (arith, whole, inside)) ∙ whole))
    (λ k below. element k (omega (arith, below, long)))

module _ (state : Reach) (sound : IsReachSound state) where
  -- private bytes stay where the store's are written
  pub private-after : (from : ℕ) (bytes : List ℕ) (seat : ℕ) → seat < 16 → private_bytes (put_in_store state.directory state.pool from bytes) seat ≡ private_bytes state.pool seat
  private-after from bytes seat few =
      same-part (put_in_store state.directory state.pool from bytes).bytes state.pool.bytes (seat * 16384) 16384
      (omega (arith, few, all-private state sound, spots-long state.directory state.pool from bytes)) (omega (arith, few, all-private state sound))
      (λ k below.
      let spot = seat * 16384 + k in
      let low : spot < 262144 = omega (arith, few, below) in
      let split : spot / page_bytes state.directory.page * page_bytes state.directory.page + spot % page_bytes state.directory.page ≡ spot = place-is state.directory.page spot in
      ap (slice_index (put_in_store state.directory state.pool from bytes).bytes) (sym split)
      ∙ spot-none state.directory state.pool from bytes (spot / page_bytes state.directory.page) (spot % page_bytes state.directory.page) (low-frame state sound spot low) (rest-below state.directory.page spot) (omega (arith, low, all-private state sound, split))
      ∙ ap (slice_index state.pool.bytes) split)

  module _ (a : ℕ) (bytes : List ℕ) (seat : ℕ) (few : seat < 16) (fits : a + length bytes ≤ 16384) where
    abbrev written : Pool
    written = record state.pool { bytes = overlaid state.pool.bytes (seat * 16384 + a) bytes }

    room : seat * 16384 + a + length bytes ≤ length state.pool.bytes
    room = omega (arith, few, fits, all-private state sound)

    -- other private bytes stay
    pub private-other : (other : ℕ) → other < 16 → other ≢ seat → private_bytes (let now : Pool = record state.pool { bytes = overlaid state.pool.bytes (seat * 16384 + a) bytes } in now) other ≡ private_bytes state.pool other
    private-other other low apart = grind (arith, nat_tests, same-part, all-private, length-overlaid, room, over-part)

    pub private-own : private_bytes (let now : Pool = record state.pool { bytes = overlaid state.pool.bytes (seat * 16384 + a) bytes } in now) seat ≡ overlaid (private_bytes state.pool seat) a bytes
    private-own = over-in-part state.pool.bytes bytes (seat * 16384) 16384 a (omega (arith, few, all-private state sound)) fits

    -- bytes in frames of the store stay where private ones are written
    pub frame-stays : (place frame : ℕ) → frame_at state.pool (page_of state.directory place) ≡ Some frame
        → byte_in_frame state.directory (let now : Pool = record state.pool { bytes = overlaid state.pool.bytes (seat * 16384 + a) bytes } in now) place frame ≡ byte_in_frame state.directory state.pool place frame
    frame-stays place frame is =
        let high = (frame-below state sound (page_of state.directory place) frame (sound.fits.seen.there (page_of state.directory place) frame is)).0 in
        over-part state.pool.bytes (seat * 16384 + a) bytes (frame * page_bytes state.directory.page + place % page_bytes state.directory.page) room
        (λ j less same. absurd (omega (arith, same, less, fits, few, frame-high state.directory.page frame high)))

    pub store-stays : (committed : List ℕ)
        → bytes_over state.directory (let now : Pool = record state.pool { bytes = overlaid state.pool.bytes (seat * 16384 + a) bytes } in now) committed ≡ bytes_over state.directory state.pool committed
    store-stays committed = same-bytes state.directory written state.pool committed committed (λ place below. at-place place (frame_at state.pool (page_of state.directory place)) refl)
      where
        at-place : (place : ℕ) (o : Option ℕ) → frame_at state.pool (page_of state.directory place) ≡ o → byte_over state.directory written committed place ≡ byte_over state.directory state.pool committed place
        at-place place None is = over-none state.directory written committed place is ∙ sym (over-none state.directory state.pool committed place is)
        at-place place (Some frame) is =
            over-some state.directory written committed place frame is ∙ frame-stays place frame is ∙ sym (over-some state.directory state.pool committed place frame is)

  module _ (a : ℕ) (bytes : List ℕ) (fits : a + length bytes ≤ byte_count state.directory) where
    abbrev put : Pool
    put = put_in_store state.directory state.pool a bytes

    line-inside : (place : ℕ) → place < byte_count state.directory → page_of_line (line_of state.directory place) < length state.pool.marked
    line-inside place below = omega (arith, page-of-line state.directory.page place, page-below state.directory place below, sound.fits.seen.marked, sound.fits.pages)

    -- a place of a frame
    pub frame-after : (place frame : ℕ) → frame_at state.pool (page_of state.directory place) ≡ Some frame
        → byte_in_frame state.directory (put_in_store state.directory state.pool a bytes) place frame ≡ put_byte bytes a place (byte_in_frame state.directory state.pool place frame)
    frame-after place frame is = grind (arith, nat_tests, place-put, frame-room, frame-below)

    -- the marks of its line
    pub marked-after : (place : ℕ) → place < byte_count state.directory
        → is_marked state.directory (put_in_store state.directory state.pool a bytes) place ≡ (is_marked state.directory state.pool place || has (lines_at state.directory (Shared a) (length bytes)) (line_of state.directory place))
    marked-after place below = line-put state.directory state.pool a bytes (line_of state.directory place) (line-inside place below)

    -- all lines that have some of the bytes are marked beside those that were
    pub marks-written : (line : ℕ) → is_line_marked (put_in_store state.directory state.pool a bytes) line ≡ (is_line_marked state.pool line || has (lines_at state.directory (Shared a) (length bytes)) line)
    marks-written line = elim (cases_lt (page_of_line line) (length state.pool.marked)) [
      | inl below ↦ line-put state.directory state.pool a bytes line below
      | inr past ↦
          cc (
            get_or_past put.marked (page_of_line line) [] (omega (arith, past, marks-long state.directory state.pool a bytes)),
            get_or_past state.pool.marked (page_of_line line) [] past,
            none (has (lines_at state.directory (Shared a) (length bytes)) line) refl past,
          )
    ]
      where
        none : (b : Bool) → has (lines_at state.directory (Shared a) (length bytes)) line ≡ b → length state.pool.marked ≤ page_of_line line → b ≡ false
        none false is past = refl
        none true is past =
            absurd
            (omega
            (arith, past, each-line state.directory a (length bytes) (λ line. page_of_line line < length state.pool.marked) (λ k less. line-inside (a + k) (omega (arith, less, fits))) line is))

    -- bytes that are put are over those that were shown
    pub store-after : (committed : List ℕ) → ((k : ℕ) → k < length bytes → is_there state (Shared (a + k)) ≡ true)
        → bytes_over state.directory (put_in_store state.directory state.pool a bytes) committed ≡ overlaid (bytes_over state.directory state.pool committed) a bytes
    store-after committed there =
        same_number_lists (bytes_over state.directory put committed) (overlaid before a bytes)
        (all-long state.directory put committed ∙ sym (length-overlaid before a bytes room' ∙ all-long state.directory state.pool committed))
        (λ k below. element k (omega (arith, below, all-long state.directory put committed)))
      where
        before : List ℕ
        before = bytes_over state.directory state.pool committed

        room' : a + length bytes ≤ length (bytes_over state.directory state.pool committed)
        room' = omega (arith, fits, all-long state.directory state.pool committed)

        -- a place of the range
        inside : (k : ℕ) → k < byte_count state.directory → a ≤ k → k < a + length bytes → byte_over state.directory put committed k ≡ slice_index (overlaid (bytes_over state.directory state.pool committed) a bytes) k
        inside k below high less =
            let same : a + (k - a) ≡ k = omega (arith, high) in
            let (frame, is) = there-frame state sound k (ap (λ n. is_there state (Shared n)) (sym same) ∙ there (k - a) (omega (arith, high, less))) in
            cc (
              over-some state.directory put committed k frame is,
              frame-after k frame is,
              put-inside bytes a k (byte_in_frame state.directory state.pool k frame) high less,
              in-part (bytes_over state.directory state.pool committed) a bytes (k - a) room' (omega (arith, high, less)),
            )

        -- another place
        outside : (k : ℕ) → k < byte_count state.directory → (a ≤ k → k < a + length bytes → ⊥) → byte_over state.directory put committed k ≡ slice_index (overlaid (bytes_over state.directory state.pool committed) a bytes) k
        outside k below none =
            by_frame (frame_at state.pool (page_of state.directory k)) refl
            ∙ sym (byte-of-all state.directory state.pool committed k below)
            ∙ sym (over-part (bytes_over state.directory state.pool committed) a bytes k room' (λ j less same. none (omega (arith, same)) (omega (arith, less, same))))
          where
            -- a line of a page that is in no frame has none of the bytes
            unmarked : (b : Bool) → has (lines_at state.directory (Shared a) (length bytes)) (line_of state.directory k) ≡ b → frame_at state.pool (page_of state.directory k) ≡ None → b ≡ false
            unmarked false is none = refl
            unmarked true is none =
                let (frame, has_it) = there-frame state sound k (each-line state.directory a (length bytes) (λ line. is_some (frame_at state.pool (page_of_line line)) ≡ true) there (line_of state.directory k) is) in
                absurd (let clash : None ≡ Some frame = sym none ∙ has_it in cc)

            or-false : (b : Bool) → (b || false) ≡ b
            or-false b = grind (arith, nat_tests)

            by_frame : (o : Option ℕ) → frame_at state.pool (page_of state.directory k) ≡ o → byte_over state.directory put committed k ≡ byte_over state.directory state.pool committed k
            by_frame None is =
                cc (
                  over-none state.directory put committed k is,
                  marked-after k below,
                  unmarked (has (lines_at state.directory (Shared a) (length bytes)) (line_of state.directory k)) refl is,
                  or-false (is_marked state.directory state.pool k),
                  over-none state.directory state.pool committed k is,
                )
            by_frame (Some frame) is =
                cc (over-some state.directory put committed k frame is, frame-after k frame is, put-outside bytes a k (byte_in_frame state.directory state.pool k frame) none, over-some state.directory state.pool committed k frame is)

        element : (k : ℕ) → k < byte_count state.directory → slice_index (bytes_over state.directory put committed) k ≡ slice_index (overlaid (bytes_over state.directory state.pool committed) a bytes) k
        element k below =
            byte-of-all state.directory put committed k below
            ∙ elim (cases_lt k a) [
              | inl low ↦ outside k below (λ high less. absurd (omega (arith, low, high)))
              | inr high ↦
                  elim (cases_lt k (a + length bytes)) [
                    | inl less ↦ inside k below high less
                    | inr past ↦ outside k below (λ above less. absurd (omega (arith, past, less)))
                  ]
            ]

    -- what was clean stays so
    pub clean-after : (committed : List ℕ) → IsClean state.directory state.pool committed → IsClean state.directory (put_in_store state.directory state.pool a bytes) committed
    clean-after committed clean place frame below is unmarked =
        frame-after place frame is
        ∙ put-outside bytes a place (byte_in_frame state.directory state.pool place frame) outside
        ∙ clean place frame below is (or_none (is_marked state.directory state.pool place) (has (lines_at state.directory (Shared a) (length bytes)) (line_of state.directory place)) both).0
      where
        both : (is_marked state.directory state.pool place || has (lines_at state.directory (Shared a) (length bytes)) (line_of state.directory place)) ≡ false
        both = sym (marked-after place below) ∙ unmarked

        outside : a ≤ place → place < a + length bytes → ⊥
        outside high less =
            let same : a + (place - a) ≡ place = omega (arith, high) in
            let among : has (lines_at state.directory (Shared a) (length bytes)) (line_of state.directory place) ≡ true =
            ap (λ n. has (lines_at state.directory (Shared a) (length bytes)) (line_of state.directory n)) (sym same) ∙ each-byte state.directory a (length bytes) (place - a) (omega (arith, high, less)) in
            let not : has (lines_at state.directory (Shared a) (length bytes)) (line_of state.directory place) ≡ false =
            (or_none (is_marked state.directory state.pool place) (has (lines_at state.directory (Shared a) (length bytes)) (line_of state.directory place)) both).1 in
            let clash : true ≡ false = sym among ∙ not in
            cc

module _ (state : Reach) (sound : IsReachSound state) (at : Virtual) (bytes : List ℕ) (lies : Lies state at (length bytes)) where
  pub put-clean : StaysClean state (put_at state (byte_place state.directory at) bytes)
  put-clean committed long clean = by_place (byte_place state.directory at) refl
    where
      by_place : (place : Located) → byte_place state.directory at ≡ place → IsClean (put_at state place bytes).directory (put_at state place bytes).pool committed
      by_place (Private a) is = λ place frame below there unmarked.
          let (few, runner, fits) = private-fits state at (length bytes) a lies is in
          frame-stays state sound a bytes (seat_selected state) few fits place frame there ∙ clean place frame below there unmarked
      by_place (Shared a) is = clean-after state sound a bytes (shared-within state at (length bytes) a lies is) committed clean
      by_place (Refused code) is = absurd (never-refused state.directory at code is)

  pub put-seats : LeavesSeats state (put_at state (byte_place state.directory at) bytes)
  put-seats seat few other = by_place (byte_place state.directory at) refl
    where
      by_place : (place : Located) → byte_place state.directory at ≡ place → private_bytes (put_at state place bytes).pool seat ≡ private_bytes state.pool seat
      by_place (Private a) is =
          let (low, runner, fits) = private-fits state at (length bytes) a lies is in
          private-other state sound a bytes (seat_selected state) low fits seat few (λ same. other (omega (arith, same, runner)))
      by_place (Shared a) is = private-after state sound a bytes seat few
      by_place (Refused code) is = absurd (never-refused state.directory at code is)
