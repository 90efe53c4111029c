-- What is shown before and after a store.
use Rattle.storage_unit.proofs.Common.{◌≡◌, ℕ, ◌+◌, ◌-◌, ◌*◌, ◌/◌, ◌%◌, ◌<◌, ◌≤◌, true, false, List, length, refl, sym, ◌∙◌, ap, arith, Option, Some, None, Result, Ok, Err, slice_index, is_some, option_map_or, nat_tests, get_or-map-range_with_len, length-map-range_with_len, same_number_lists, overlaid, PageSize, page_bytes, start_of, page_of, Located, Private, Shared, Refused, Check, Virtual, virtual_at, bytes_on, located_by, Key, key_to, frame_at, Access, IsOutside, answer_in, bytes_from, Reach, private_segment, offset_of, byte_place, place_at, on, key_of_page, AreReached, byte_in_frame, byte_of, byte_at, is_there, is_in_frame, refuses_byte, put_byte, put_in_store, put_at, IsReachSound, Lies, AreThere, bytes_shown}
use Rattle.storage_unit.proofs.SizeLemmas.{rest-below, place-is, frame-high, page-of-line}
use Rattle.storage_unit.proofs.KeyLemmas.{key-of-place}
use Rattle.storage_unit.proofs.FillLemmas.{over-part, in-part}
use Rattle.storage_unit.proofs.PlaceLemmas.{Under, under, lies, part, itself, byte-on, offset-is, place-on, is-private, is-shared, never-refused}
use Rattle.storage_unit.proofs.CopyLemmas.{shown-at, shown-long}
use Rattle.storage_unit.proofs.PutLemmas.{put-inside, put-outside, spot-none, place-put}
use Rattle.storage_unit.proofs.StoreLemmas.{frame-room, all-private, frame-below, low-frame}

-- a range that is shown, byte by byte
pub range-shown : (state : Reach) (sound : IsReachSound state) (address n : ℕ) (at : Virtual) (u : Under state.registers address n at)
    → bytes_shown state (byte_place state.directory at) n ≡ bytes_from (byte_at state) address n
range-shown state sound address n at u =
    same_number_lists (bytes_shown state (byte_place state.directory at) n) (bytes_from (byte_at state) address n)
    (shown-long state (byte_place state.directory at) n ∙ sym (length-map-range_with_len (byte_at state) address n))
    (λ k below.
    let small : k < n = omega (arith, below, shown-long state (byte_place state.directory at) n) in
    cc (shown-at state (byte_place state.directory at) n k small, byte-on state sound address n at u k small, get_or-map-range_with_len (byte_at state) address n k (address + k) 0 small refl))

-- bytes that are put are put in frames that have room
pub private-room : (state : Reach) (sound : IsReachSound state) (at : Virtual) (n a : ℕ) → Lies state at n → byte_place state.directory at ≡ Private a
    → ((state.runner - 1) * 16384 + a + n ≤ 262144) × (262144 ≤ length state.pool.bytes)
private-room state sound at n a lies is = grind (arith, nat_tests)

-- where a byte of the store is shown, its page is in a frame
pub there-frame : (state : Reach) (sound : IsReachSound state) (place : ℕ) → is_there state (Shared place) ≡ true → (frame : ℕ) × (frame_at state.pool (page_of state.directory place) ≡ Some frame)
there-frame state sound place there = by_frame (frame_at state.pool (page_of state.directory place)) refl
    (sym (ap (λ p. is_some (frame_at state.pool p)) (page-of-line state.directory.page place)) ∙ there)
  where
    by_frame : (o : Option ℕ) → frame_at state.pool (page_of state.directory place) ≡ o → is_some (frame_at state.pool (page_of state.directory place)) ≡ true → (frame : ℕ) × (frame_at state.pool (page_of state.directory place) ≡ Some frame)
    by_frame (Some frame) is some = (frame, is)
    by_frame None is some = absurd (let clash : false ≡ true = sym (ap (λ (o : Option ℕ). is_some o) is) ∙ some in cc)

-- what a place of the store in a frame shows after bytes were put
pub shared-after : (state : Reach) (sound : IsReachSound state) (from : ℕ) (bytes : List ℕ) (place frame : ℕ) → frame_at state.pool (page_of state.directory place) ≡ Some frame
    → byte_of (put_at state (Shared from) bytes) (Shared place) ≡ put_byte bytes from place (byte_of state (Shared place))
shared-after state sound from bytes place frame is =
    let there = sound.fits.seen.there (page_of state.directory place) frame is in
    ap (λ (o : Option ℕ). option_map_or (byte_in_frame state.directory (put_in_store state.directory state.pool from bytes) place) o 0) is
    ∙ place-put state.directory state.pool from bytes place frame there (frame-room state sound frame (frame-below state sound (page_of state.directory place) frame there).1)
    ∙ ap (put_byte bytes from place) (sym (ap (λ (o : Option ℕ). option_map_or (byte_in_frame state.directory state.pool place) o 0) is))

module _ (state : Reach) (sound : IsReachSound state) (address : ℕ) (bytes : List ℕ) (at : Virtual) (u : Under state.registers address (length bytes) at) (there : AreThere state at (length bytes)) where
  abbrev n : ℕ
  n = length bytes

  -- each byte of the range shows what was stored
  shown-after : (place : Located) → byte_place state.directory at ≡ place → (k : ℕ) → k < length bytes → byte_of (put_at state place bytes) (on place k) ≡ slice_index bytes k
  shown-after (Private a) is k below =
      let (room, all) = private-room state sound at n a (lies state sound address n at u) is in
      let sum : (state.runner - 1) * 16384 + (a + k) ≡ (state.runner - 1) * 16384 + a + k = omega arith in
      ap (slice_index (overlaid state.pool.bytes ((state.runner - 1) * 16384 + a) bytes)) sum
      ∙ in-part state.pool.bytes ((state.runner - 1) * 16384 + a) bytes k (omega (arith, room, all)) below
  shown-after (Shared a) is k below =
      let (frame, has_it) = there-frame state sound (a + k) (sym (ap (λ place. is_there state (on place k)) is) ∙ there k below) in
      let back : a + k - a ≡ k = omega arith in
      shared-after state sound a bytes (a + k) frame has_it
      ∙ put-inside bytes a (a + k) (byte_of state (Shared (a + k))) (omega arith) (omega (arith, below))
      ∙ ap (slice_index bytes) back
  shown-after (Refused code) is k below = absurd (never-refused state.directory at code is)

  after-at : (place : Located) → byte_place state.directory at ≡ place → (k : ℕ) → k < length bytes → byte_at (put_at state place bytes) (address + k) ≡ slice_index bytes k
  after-at (Private a) is k below =
      ap (λ located. byte_of (put_at state (Private a) bytes) (place_at state.directory located)) (part state sound address n at u k 1 (omega arith))
      ∙ ap (byte_of (put_at state (Private a) bytes)) (place-on state.directory at k ∙ ap (λ p. on p k) is)
      ∙ shown-after (Private a) is k below
  after-at (Shared a) is k below =
      ap (λ located. byte_of (put_at state (Shared a) bytes) (place_at state.directory located)) (part state sound address n at u k 1 (omega arith))
      ∙ ap (byte_of (put_at state (Shared a) bytes)) (place-on state.directory at k ∙ ap (λ p. on p k) is)
      ∙ shown-after (Shared a) is k below
  after-at (Refused code) is k below = absurd (never-refused state.directory at code is)

  pub shows : bytes_from (byte_at (put_at state (byte_place state.directory at) bytes)) address (length bytes) ≡ bytes
  shows = grind (arith, nat_tests, same_number_lists, length-map-range_with_len, get_or-map-range_with_len, after-at)

  module _ (other : ℕ) (outside : IsOutside state.registers address (length bytes) other) where
    abbrev page : PageSize
    page = state.directory.page

    -- a byte at another address is none of the range
    not-inside : (v : Virtual) → located_by state.registers other 1 false ≡ Ok v → (k : ℕ) → k < length bytes → v ≡ bytes_on state.directory.page at k → ⊥
    not-inside v found k below is = outside k below (found ∙ ap Ok is ∙ sym (part state sound address n at u k 1 (omega arith)))

    same-virtual : (v w : Virtual) → v ≡ virtual_at page v.segment (offset_of page v) → w ≡ virtual_at page w.segment (offset_of page w) → v.segment ≡ w.segment → offset_of page v ≡ offset_of page w → v ≡ w
    same-virtual v w one two segments offsets = one ∙ ap (λ s. virtual_at page s (offset_of page v)) segments ∙ ap (virtual_at page w.segment) offsets ∙ sym two

    on-itself : (k : ℕ) → bytes_on page at k ≡ virtual_at page (bytes_on page at k).segment (offset_of page (bytes_on page at k))
    on-itself k = ap (virtual_at page at.segment) (sym (offset-is page at.segment (offset_of page at + k)))

    -- one that lies where a byte of the range does is that byte
    same-private : (v : Virtual) (a b k : ℕ) → located_by state.registers other 1 false ≡ Ok v → byte_place state.directory at ≡ Private a → byte_place state.directory v ≡ Private b → b ≡ a + k → v ≡ bytes_on state.directory.page at k
    same-private v a b k found at_is v_is same =
        let w = under state.registers other 1 false v found in
        let (own, offset) = is-private state.directory at a at_is in
        let (own', offset') = is-private state.directory v b v_is in
        let (seat, runner, few, segment, begun, fits) = (lies state sound address n at u).private own in
        let (seat', runner', few', segment', begun', fits') = (lies state sound other 1 v w).private own' in
        let sum : offset_of page (bytes_on page at k) ≡ offset_of page at + k = offset-is page at.segment (offset_of page at + k) in
        same-virtual v (bytes_on page at k) (itself state sound other 1 v w) (on-itself k) (omega (arith, segment, segment', runner, runner')) (omega (arith, offset, offset', same, sum))

    same-shared : (v : Virtual) (a b k : ℕ) → k < length bytes → located_by state.registers other 1 false ≡ Ok v → byte_place state.directory at ≡ Shared a → byte_place state.directory v ≡ Shared b → b ≡ a + k → v ≡ bytes_on state.directory.page at k
    same-shared v a b k below found at_is v_is same =
        let w = under state.registers other 1 false v found in
        let (own, place) = is-shared state.directory at a at_is in
        let (own', place') = is-shared state.directory v b v_is in
        let (bytes, found_it, fits, within) = (lies state sound address n at u).shared own in
        let (bytes', found', fits', within') = (lies state sound other 1 v w).shared own' in
        let sum : offset_of page (bytes_on page at k) ≡ offset_of page at + k = offset-is page at.segment (offset_of page at + k) in
        let first = key-of-place state.directory sound.legal at.segment bytes (offset_of page at + k) found_it (omega (arith, fits, below)) in
        let second = key-of-place state.directory sound.legal v.segment bytes' (offset_of page v) found' (omega (arith, fits')) in
        let one : start_of state.directory at.segment + (offset_of page at + k) ≡ start_of state.directory v.segment + offset_of page v = omega (arith, place, place', same) in
        let keys : key_to at.segment ((offset_of page at + k) / page_bytes page) ≡ key_to v.segment (offset_of page v / page_bytes page) = sym first ∙ ap (λ p. key_of_page state.directory (p / page_bytes page)) one ∙ second in
        let segments : at.segment ≡ v.segment = ap (λ (key : Key). key.segment) keys in
        let starts : start_of state.directory at.segment ≡ start_of state.directory v.segment = ap (start_of state.directory) segments in
        same-virtual v (bytes_on page at k) (itself state sound other 1 v w) (on-itself k) (sym segments) (omega (arith, one, starts, sum))

    -- private bytes aren't in frames of the store
    private-spot : (v : Virtual) (b : ℕ) → located_by state.registers other 1 false ≡ Ok v → byte_place state.directory v ≡ Private b → (state.runner - 1) * 16384 + b < 262144
    private-spot v b found is = let (room, all) = private-room state sound v 1 b (lies state sound other 1 v (under state.registers other 1 false v found)) is in omega (arith, room)

    by_place : (place target : Located) (v : Virtual) → byte_place state.directory at ≡ place → located_by state.registers other 1 false ≡ Ok v → byte_place state.directory v ≡ target
        → byte_of (put_at state place bytes) target ≡ byte_of state target
    by_place (Private a) (Private b) v is found v_is =
        let (room, all) = private-room state sound at n a (lies state sound address n at u) is in
        over-part state.pool.bytes ((state.runner - 1) * 16384 + a) bytes ((state.runner - 1) * 16384 + b) (omega (arith, room, all))
        (λ j less same. not-inside v found j less (same-private v a b j found is v_is (omega (arith, same))))
    by_place (Private a) (Shared b) v is found v_is = by_frame (frame_at state.pool (page_of state.directory b)) refl
      where
        by_frame : (o : Option ℕ) → frame_at state.pool (page_of state.directory b) ≡ o → byte_of (put_at state (Private a) bytes) (Shared b) ≡ byte_of state (Shared b)
        by_frame None at_b = cc
        by_frame (Some frame) at_b =
            let (room, all) = private-room state sound at n a (lies state sound address n at u) is in
            let high = (frame-below state sound (page_of state.directory b) frame (sound.fits.seen.there (page_of state.directory b) frame at_b)).0 in
            cc (over-part state.pool.bytes ((state.runner - 1) * 16384 + a) bytes (frame * page_bytes page + b % page_bytes page) (omega (arith, room, all)) (λ j less same. absurd (omega (arith, same, less, room, frame-high page frame high))))
    by_place (Shared a) (Private b) v is found v_is =
        let spot = (state.runner - 1) * 16384 + b in
        let low = private-spot v b found v_is in
        let split : spot / page_bytes page * page_bytes page + spot % page_bytes page ≡ spot = place-is page spot in
        ap (slice_index (put_in_store state.directory state.pool a bytes).bytes) (sym split)
        ∙ spot-none state.directory state.pool a bytes (spot / page_bytes page) (spot % page_bytes page) (low-frame state sound spot low) (rest-below page spot) (omega (arith, low, all-private state sound, split))
        ∙ ap (slice_index state.pool.bytes) split
    by_place (Shared a) (Shared b) v is found v_is = by_frame (frame_at state.pool (page_of state.directory b)) refl
      where
        by_frame : (o : Option ℕ) → frame_at state.pool (page_of state.directory b) ≡ o → byte_of (put_at state (Shared a) bytes) (Shared b) ≡ byte_of state (Shared b)
        by_frame None at_b = cc
        by_frame (Some frame) at_b =
            shared-after state sound a bytes b frame at_b
            ∙ put-outside bytes a b (byte_of state (Shared b))
            (λ above below.
            let inside : b - a < length bytes = omega (arith, above, below) in
            not-inside v found (b - a) inside (same-shared v a b (b - a) inside found is v_is (omega (arith, above))))
    by_place (Private a) (Refused code) v is found v_is = refl
    by_place (Shared a) (Refused code) v is found v_is = refl
    by_place (Refused code) target v is found v_is = refl

    -- other addresses show what they showed
    pub others-stay : byte_at (put_at state (byte_place state.directory at) bytes) other ≡ byte_at state other
    others-stay = by_whole (byte_place state.directory at) refl (located_by state.registers other 1 false) refl
      where
        by_whole : (place : Located) → byte_place state.directory at ≡ place → (found : Result Virtual Check) → located_by state.registers other 1 false ≡ found
            → byte_at (put_at state place bytes) other ≡ byte_at state other
        by_whole (Private a) is (Ok v) found = cc (by_place (Private a) (byte_place state.directory v) v is found refl)
        by_whole (Shared a) is (Ok v) found = cc (by_place (Shared a) (byte_place state.directory v) v is found refl)
        by_whole (Private a) is (Err check) found = cc
        by_whole (Shared a) is (Err check) found = cc
        by_whole (Refused code) is found same = refl

-- no access gets another answer
pub answers-stay : (state : Reach) (place : Located) (bytes : List ℕ) (access : Access)
    → answer_in (λ (s : Reach). s.registers) is_in_frame refuses_byte (put_at state place bytes) access ≡ answer_in (λ (s : Reach). s.registers) is_in_frame refuses_byte state access
answers-stay state (Private a) bytes access = refl
answers-stay state (Shared a) bytes access = refl
answers-stay state (Refused code) bytes access = refl

pub there-after : (state : Reach) (place : Located) (bytes : List ℕ) (v : Virtual) (m : ℕ) → AreThere state v m → AreThere (put_at state place bytes) v m
there-after state place bytes v m all k below = grind (arith, nat_tests)

-- the first two bytes of a halfword under register 0
pub own-located : (state : Reach) (seat address bytes : ℕ) → AreReached state.directory seat state.registers → address + bytes ≤ 16384
    → located_by state.registers address bytes false ≡ Ok (virtual_at state.directory.page (private_segment seat) address)
own-located state seat address bytes reached fits = grind (arith, nat_tests)

-- so what lies somewhere, and is in frames, stays so
pub lies-after : (state : Reach) (place : Located) (bytes : List ℕ) (v : Virtual) (m : ℕ) → Lies state v m → Lies (put_at state place bytes) v m
lies-after state (Private a) bytes v m l = record { within = l.within; few = l.few; private = l.private; shared = l.shared }
lies-after state (Shared a) bytes v m l = record { within = l.within; few = l.few; private = l.private; shared = l.shared }
lies-after state (Refused code) bytes v m l = l

pub directory-after : (state : Reach) (place : Located) (bytes : List ℕ) → (put_at state place bytes).directory ≡ state.directory
directory-after state (Private a) bytes = refl
directory-after state (Shared a) bytes = refl
directory-after state (Refused code) bytes = refl
