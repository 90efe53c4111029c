-- What the table of a unit holds, and where it finds a page.
use Rattle.storage_unit.proofs.Common.{append_assoc, ◌≡◌, ◌≢◌, ℕ, ◌+◌, ◌-◌, ◌*◌, ◌/◌, ◌%◌, ◌<◌, ◌≤◌, Bool, true, List, [], ◌∷◌, ◌++◌, length, sym, ◌∙◌, ap, subst, arith, get_or, Option, Some, None, inl, inr, nat_lt, if◌then◌else◌, slice_index_or, slice_set, option_map, cases_lt, nat_tests, same_lists, length-set, get_or-set_same, get_or-set_other, get_or_past, get_or-map-range_with_len, length-map-range_with_len, overlaid, overlaid_before, overlaid_within, overlaid_behind, length-overlaid, PageSize, Layout, page_count, AreSegmentsLegal, Key, key_to, key_in, look_up, look_up-is, Pool, IsSeen, private_frames, frame_at, page_at, some-within, private_segment, key_of_page, seat_pages, held_private, held_in, keys_with, page_bytes_in, drop, drop-set, overlaid-joined, take, take-append-drop, take-set}
use Rattle.storage_unit.proofs.SizeLemmas.{seat-frame, seat-first, seat-rest, seat-room, seat-before, seat-behind}
use Rattle.storage_unit.proofs.KeyLemmas.{same-page, key-low}

-- what a frame holds
pub key-at : (d : Layout) (t : ℕ → ℕ) (frames : ℕ) (page_bytes_in : List (Option ℕ)) (frame : ℕ) → frame < private_frames d.page + frames → key_in (keys_with d t frames page_bytes_in) frame ≡ held_in d t page_bytes_in frame
key-at d t frames page_bytes_in frame below = get_or-map-range_with_len (held_in d t page_bytes_in) 0 (private_frames d.page + frames) frame frame None below (omega arith)

pub keys-long : (d : Layout) (t : ℕ → ℕ) (frames : ℕ) (page_bytes_in : List (Option ℕ)) → length (keys_with d t frames page_bytes_in) ≡ private_frames d.page + frames
keys-long d t frames page_bytes_in = length-map-range_with_len (held_in d t page_bytes_in) 0 (private_frames d.page + frames)

-- what is held is held in a frame that there is
pub key-within : (d : Layout) (t : ℕ → ℕ) (frames : ℕ) (page_bytes_in : List (Option ℕ)) (frame : ℕ) (key : Key) → key_in (keys_with d t frames page_bytes_in) frame ≡ Some key → frame < private_frames d.page + frames
key-within d t frames page_bytes_in frame key is = elim (cases_lt frame (private_frames d.page + frames)) [
  | inl below ↦ below
  | inr past ↦
      absurd
      (let clash : None ≡ Some key = sym (get_or_past (keys_with d t frames page_bytes_in) frame None (omega (arith, past, keys-long d t frames page_bytes_in))) ∙ is in cc)
]

-- what private frames and others hold
pub held-private : (d : Layout) (t : ℕ → ℕ) (page_bytes_in : List (Option ℕ)) (frame : ℕ) → frame < private_frames d.page → held_in d t page_bytes_in frame ≡ held_private d.page t frame
held-private d t page_bytes_in frame below = grind (arith, nat_tests)

pub held-store : (d : Layout) (t : ℕ → ℕ) (page_bytes_in : List (Option ℕ)) (frame : ℕ) → private_frames d.page ≤ frame → held_in d t page_bytes_in frame ≡ option_map (key_of_page d) (slice_index_or page_bytes_in frame None)
held-store d t page_bytes_in frame above = grind (arith, nat_tests)

-- a private frame that holds something holds a page of its seat
record IsPrivate (size : PageSize) (t : ℕ → ℕ) (frame : ℕ) (key : Key) : Type 0 where
  segment : key.segment ≡ private_segment (frame / seat_pages size)
  page : key.page ≡ frame % seat_pages size
  among : frame % seat_pages size < t (frame / seat_pages size)

is-private : (size : PageSize) (t : ℕ → ℕ) (frame : ℕ) (key : Key) → held_private size t frame ≡ Some key → IsPrivate size t frame key
is-private size t frame key is = grind (arith, nat_tests)

-- a frame of the store that holds something holds a page that the pool has there
has-page : (d : Layout) (o : Option ℕ) (key : Key) → option_map (key_of_page d) o ≡ Some key → (page : ℕ) × (o ≡ Some page) × (key_of_page d page ≡ key)
has-page d o key is = grind (arith, nat_tests)

module _ (d : Layout) (legal : AreSegmentsLegal d.segments) (pool : Pool) (seen : IsSeen pool) (size : pool.page ≡ d.page) (pages : length pool.frame_of ≡ page_count d) (t : ℕ → ℕ) where
  -- a frame that the pool has a page in is one of the store, and so is the page
  pub above : (page frame : ℕ) → page_at pool frame ≡ Some page → private_frames d.page ≤ frame
  above page frame is = subst (λ s. private_frames s ≤ frame) size (seen.above page frame is)

  pub below : (page frame : ℕ) → page_at pool frame ≡ Some page → frame < private_frames d.page + pool.frames
  below page frame is = subst (λ s. frame < private_frames s + pool.frames) size (seen.below page frame is)

  pub page-there : (page frame : ℕ) → page_at pool frame ≡ Some page → page < page_count d
  page-there page frame is = omega (arith, some-within pool.frame_of page frame (seen.back page frame is), pages)

  -- the table finds a page of the store where the pool has it
  pub finds-page : (page : ℕ) → page < page_count d → look_up (keys_with d t pool.frames pool.page_in) (key_of_page d page) ≡ frame_at pool page
  finds-page page inside =
      let there : (frame : ℕ) → frame_at pool page ≡ Some frame → key_in (keys_with d t pool.frames pool.page_in) frame ≡ Some (key_of_page d page) =
      λ frame is. let at = seen.there page frame is in
      cc (key-at d t pool.frames pool.page_in frame (below page frame at), held-store d t pool.page_in frame (above page frame at)) in
      let only : (frame : ℕ) → key_in (keys_with d t pool.frames pool.page_in) frame ≡ Some (key_of_page d page) → frame_at pool page ≡ Some frame =
      λ frame is. let within = key-within d t pool.frames pool.page_in frame (key_of_page d page) is in
      let held = sym (key-at d t pool.frames pool.page_in frame within) ∙ is in
      elim (cases_lt frame (private_frames d.page)) [
        | inl low ↦
            let own = is-private d.page t frame (key_of_page d page) (sym (held-private d t pool.page_in frame low) ∙ held) in
            absurd (omega (arith, key-low d legal page inside, own.segment))
        | inr high ↦
            let (other, at, same) = has-page d (page_at pool frame) (key_of_page d page) (sym (held-store d t pool.page_in frame high) ∙ held) in
            let one : other ≡ page = same-page d legal other page (page-there other frame at) inside same in
            ap (frame_at pool) (sym one) ∙ seen.back other frame at
      ] in
      look_up-is (keys_with d t pool.frames pool.page_in) (key_of_page d page) (frame_at pool page) there only

  -- and a private page in the frame of its seat, if it is there
  pub finds-private :
      (seat index : ℕ) → seat < 16 → index < seat_pages d.page
      → look_up (keys_with d t pool.frames pool.page_in) (key_to (private_segment seat) index) ≡ (if nat_lt index (t seat) then Some (seat * seat_pages d.page + index) else None)
  finds-private seat index few small = look_up-is (keys_with d t pool.frames pool.page_in) (key_to (private_segment seat) index) (if nat_lt index (t seat) then Some (seat * seat_pages d.page + index) else None) there only
    where
      own : ℕ
      own = seat * seat_pages d.page + index

      there : (frame : ℕ) → (if nat_lt index (t seat) then Some (seat * seat_pages d.page + index) else None) ≡ Some frame → key_in (keys_with d t pool.frames pool.page_in) frame ≡ Some (key_to (private_segment seat) index)
      there frame is = grind (arith, nat_tests, seat-frame, seat-first, seat-rest, key-at, held-private)

      only : (frame : ℕ) → key_in (keys_with d t pool.frames pool.page_in) frame ≡ Some (key_to (private_segment seat) index) → (if nat_lt index (t seat) then Some (seat * seat_pages d.page + index) else None) ≡ Some frame
      only frame is =
          let within = key-within d t pool.frames pool.page_in frame (key_to (private_segment seat) index) is in
          let held = sym (key-at d t pool.frames pool.page_in frame within) ∙ is in
          elim (cases_lt frame (private_frames d.page)) [
            | inl low ↦
                let one = is-private d.page t frame (key_to (private_segment seat) index) (sym (held-private d t pool.page_in frame low) ∙ held) in
                let first : frame / seat_pages d.page ≡ seat = omega (arith, one.segment) in
                let rest : frame % seat_pages d.page ≡ index = omega (arith, one.page) in
                let less : index < t seat = subst (λ n. n < t seat) rest (subst (λ n. frame % seat_pages d.page < t n) first one.among) in
                let test : nat_lt index (t seat) ≡ true = grind (arith, nat_tests, less) in
                ap (λ (b : Bool). if b then Some (seat * seat_pages d.page + index) else None) test ∙ ap (λ (n : ℕ). Some n) (ap (λ n. n * seat_pages d.page + index) (sym first) ∙ ap (λ n. frame / seat_pages d.page * seat_pages d.page + n) (sym rest) ∙ (grind (arith, nat_tests)))
            | inr high ↦
                let (other, at, same) = has-page d (page_at pool frame) (key_to (private_segment seat) index) (sym (held-store d t pool.page_in frame high) ∙ held) in
                let low = key-low d legal other (page-there other frame at) in
                absurd (omega (arith, low, ap (λ (k : Key). k.segment) same))
          ]

-- a list with one more element behind the part that is written over
pub overlaid-more :
    {X : Type 0} (xs : List X) (at : ℕ) (part : List X) (x : X) → at + length part < length xs
    → slice_set (overlaid xs at part) (at + length part) x ≡ overlaid xs at (part ++ x ∷ [])
overlaid-more {X = X} xs at part x room =
    let all : List X = overlaid xs at part in
    let end : ℕ = at + length part in
    let inside : end < length all = omega (arith, room, length-overlaid xs at part (omega (arith, room))) in
    sym (take-append-drop end (slice_set all end x)) ∙ ap (λ (front : List X). front ++ drop end (slice_set all end x)) (take-set all end x) ∙ ap (λ (back : List X). take end all ++ back) (drop-set all end x inside)
    ∙ sym (append_assoc (take end all) (x ∷ []) (drop (end + 1) all))
    ∙ overlaid-joined xs at part (x ∷ []) (omega (arith, room))

-- where a frame of the store holds something else
pub keys-store :
    (d : Layout) (t : ℕ → ℕ) (frames : ℕ) (page_bytes_in : List (Option ℕ)) (frame : ℕ) (o : Option ℕ) → private_frames d.page ≤ frame → frame < private_frames d.page + frames → frame < length page_bytes_in
    → slice_set (keys_with d t frames page_bytes_in) frame (option_map (key_of_page d) o) ≡ keys_with d t frames (slice_set page_bytes_in frame o)
keys-store d t frames page_bytes_in frame o above below inside =
    let there : (k : ℕ) (e : Option Key) → k < private_frames d.page + frames → (in_page : List (Option ℕ)) → get_or (keys_with d t frames in_page) k e ≡ held_in d t in_page k =
    λ k e less in_page. get_or-map-range_with_len (held_in d t in_page) 0 (private_frames d.page + frames) k k e less (omega arith) in
    let element : (k : ℕ) (e : Option Key) → k < private_frames d.page + frames
    → get_or (slice_set (keys_with d t frames page_bytes_in) frame (option_map (key_of_page d) o)) k e ≡ get_or (keys_with d t frames (slice_set page_bytes_in frame o)) k e =
    λ k e less. grind (
      arith,
      nat_tests,
      get_or-set_same (keys_with d t frames page_bytes_in) frame (option_map (key_of_page d) o) e,
      get_or-set_other (keys_with d t frames page_bytes_in) frame k (option_map (key_of_page d) o) e,
      get_or-set_same page_bytes_in frame o None,
      get_or-set_other page_bytes_in frame k o None,
      there k e less page_bytes_in,
      there k e less (slice_set page_bytes_in frame o),
      keys-long d t frames page_bytes_in,
    ) in
    let set = slice_set (keys_with d t frames page_bytes_in) frame (option_map (key_of_page d) o) in
    let later = keys_with d t frames (slice_set page_bytes_in frame o) in
    let long : length set ≡ private_frames d.page + frames = length-set (keys_with d t frames page_bytes_in) frame (option_map (key_of_page d) o) ∙ keys-long d t frames page_bytes_in in
    same_lists set later (long ∙ sym (keys-long d t frames (slice_set page_bytes_in frame o))) (λ k e less. element k e (omega (arith, less, long)))

-- where the private pages of a seat come into the table or leave it
pub keys-seat :
    (d : Layout) (t u : ℕ → ℕ) (frames : ℕ) (page_bytes_in : List (Option ℕ)) (seat : ℕ) (part : List (Option Key)) → seat < 16 → length part ≡ seat_pages d.page
    → ((index : ℕ) → index < seat_pages d.page → (e : Option Key) → get_or part index e ≡ held_private d.page u (seat * seat_pages d.page + index))
    → ((other : ℕ) → other ≢ seat → u other ≡ t other)
    → overlaid (keys_with d t frames page_bytes_in) (seat * seat_pages d.page) part ≡ keys_with d u frames page_bytes_in
keys-seat d t u frames page_bytes_in seat part few eight holds others =
    same_lists (overlaid (keys_with d t frames page_bytes_in) (seat * seat_pages d.page) part) (keys_with d u frames page_bytes_in)
    (long ∙ keys-long d t frames page_bytes_in ∙ sym (keys-long d u frames page_bytes_in)) (λ k e less. element k e (omega (arith, less, long, keys-long d t frames page_bytes_in)))
  where
    room : seat * seat_pages d.page + length part ≤ length (keys_with d t frames page_bytes_in)
    room = omega (arith, seat-room d.page seat few, eight, keys-long d t frames page_bytes_in)

    long : length (overlaid (keys_with d t frames page_bytes_in) (seat * seat_pages d.page) part) ≡ length (keys_with d t frames page_bytes_in)
    long = length-overlaid (keys_with d t frames page_bytes_in) (seat * seat_pages d.page) part room

    there : (k : ℕ) (e : Option Key) → k < private_frames d.page + frames → (v : ℕ → ℕ) → get_or (keys_with d v frames page_bytes_in) k e ≡ held_in d v page_bytes_in k
    there k e less v = get_or-map-range_with_len (held_in d v page_bytes_in) 0 (private_frames d.page + frames) k k e less (omega arith)

    stays : (k : ℕ) → k / seat_pages d.page ≢ seat → held_in d t page_bytes_in k ≡ held_in d u page_bytes_in k
    stays k apart =
        ap (λ n. if nat_lt k (private_frames d.page) then (if nat_lt (k % seat_pages d.page) n then Some (key_to (private_segment (k / seat_pages d.page)) (k % seat_pages d.page)) else None) else option_map (key_of_page d) (slice_index_or page_bytes_in k None))
        (sym (others (k / seat_pages d.page) apart))

    element : (k : ℕ) (e : Option Key) → k < private_frames d.page + frames → get_or (overlaid (keys_with d t frames page_bytes_in) (seat * seat_pages d.page) part) k e ≡ get_or (keys_with d u frames page_bytes_in) k e
    element k e less = elim (cases_lt k (seat * seat_pages d.page)) [
      | inl low ↦
          overlaid_before (keys_with d t frames page_bytes_in) (seat * seat_pages d.page) part k e (omega (arith, room)) low
          ∙ there k e less t ∙ stays k (λ same. absurd (omega (arith, seat-before d.page seat k low, same))) ∙ sym (there k e less u)
      | inr high ↦
          elim (cases_lt k (seat * seat_pages d.page + length part)) [
            | inl within ↦
                let back : seat * seat_pages d.page + (k - seat * seat_pages d.page) ≡ k = omega (arith, high) in
                overlaid_within (keys_with d t frames page_bytes_in) (seat * seat_pages d.page) part k e (omega (arith, room)) high within
                ∙ holds (k - seat * seat_pages d.page) (omega (arith, within, high, eight)) e
                ∙ ap (held_private d.page u) back
                ∙ sym (held-private d u page_bytes_in k (omega (arith, within, seat-room d.page seat few, eight)))
                ∙ sym (there k e less u)
            | inr past ↦
                overlaid_behind (keys_with d t frames page_bytes_in) (seat * seat_pages d.page) part k e (omega (arith, room)) past
                ∙ there k e less t ∙ stays k (λ same. absurd (omega (arith, seat-behind d.page seat k (omega (arith, past, eight)), same))) ∙ sym (there k e less u)
          ]
    ]
