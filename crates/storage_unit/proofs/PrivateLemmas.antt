-- The private pages of a seat: what comes into the table, and what its frames are filled with.
use Rattle.storage_unit.proofs.Common.{◌≡◌, ◌≢◌, ℕ, ◌+◌, ◌-◌, ◌*◌, ◌/◌, ◌<◌, ◌≤◌, Bool, true, false, List, [], ◌∷◌, ◌++◌, length, replicate, sym, ◌∙◌, ap, arith, get_or, Option, Some, None, inl, inr, if◌then◌else◌, slice_index_or, slice_set, range_with_len, cases_lt, nat_tests, same_lists, map-append, length-replicate, get_or-replicate, get_or-set_same, get_or-set_other, get_or_past, get_or-map-range_with_len, length-map-range_with_len, overlaid, overlaid_before, overlaid_within, overlaid_behind, length-overlaid, Key, key_to, key_in, look_up, look_up-is, look_up-none, is-held, PageSize, Layout, private_frames, private_segment, seat_pages, first_keys, pages_begun, held_private, held_in, keys_of, replicate-append-replicate}
use Rattle.frame_pool.proofs.SoundLemmas.{range_push}
use Rattle.storage_unit.proofs.SizeLemmas.{seat-first, seat-rest}
use Rattle.storage_unit.proofs.HeldLemmas.{overlaid-more}

-- one page more
first-more : (segment count : ℕ) → first_keys segment (count + 1) ≡ first_keys segment count ++ Some (key_to segment count) ∷ []
first-more segment count = grind (arith, nat_tests, range_push 0 count, map-append (λ index. Some (key_to segment index)) (range_with_len 0 count) ((0 + count) ∷ []))

pub first-long : (segment count : ℕ) → length (first_keys segment count) ≡ count
first-long segment count = length-map-range_with_len (λ (index : ℕ). Some (key_to segment index)) 0 count

pub keys-more :
    (keys : List (Option Key)) (first segment count : ℕ) → first + count < length keys
    → slice_set (overlaid keys first (first_keys segment count)) (first + count) (Some (key_to segment count)) ≡ overlaid keys first (first_keys segment (count + 1))
keys-more keys first segment count room = grind (arith, nat_tests, first-long, overlaid-more, first-more)

same-index : (segment a b : ℕ) → Some (key_to segment a) ≡ Some (key_to segment b) → a ≡ b
same-index segment a b is = let same : key_to segment a ≡ key_to segment b = cc in ap (λ (key : Key). key.page) same

-- what the frames hold meanwhile
module _ (keys : List (Option Key)) (first segment all count : ℕ) (room : first + all ≤ length keys) (few : count < all) where
  within_keys : first + length (first_keys segment count) ≤ length keys
  within_keys = omega (arith, room, few, first-long segment count)

  pub next-free : ((index : ℕ) → index < all → key_in keys (first + index) ≡ None) → key_in (overlaid keys first (first_keys segment count)) (first + count) ≡ None
  next-free free = overlaid_behind keys first (first_keys segment count) (first + count) None (omega (arith, within_keys)) (omega (arith, first-long segment count)) ∙ free count few

  pub next-absent : look_up keys (key_to segment count) ≡ None → look_up (overlaid keys first (first_keys segment count)) (key_to segment count) ≡ None
  next-absent absent = look_up-is (overlaid keys first (first_keys segment count)) (key_to segment count) None (λ frame is. absurd (cc)) only
    where
      old : (frame : ℕ) → key_in keys frame ≡ Some (key_to segment count) → ⊥
      old frame is = let clash : true ≡ false = sym (is-held (key_to segment count) (key_in keys frame) is) ∙ look_up-none keys (key_to segment count) absent frame in cc

      only : (frame : ℕ) → key_in (overlaid keys first (first_keys segment count)) frame ≡ Some (key_to segment count) → None ≡ Some frame
      only frame is = elim (cases_lt frame first) [
        | inl low ↦ absurd (old frame (sym (overlaid_before keys first (first_keys segment count) frame None (omega (arith, within_keys)) low) ∙ is))
        | inr high ↦
            elim (cases_lt frame (first + count)) [
              | inr past ↦ absurd (old frame (sym (overlaid_behind keys first (first_keys segment count) frame None (omega (arith, within_keys)) (omega (arith, past, first-long segment count))) ∙ is))
              | inl within ↦
                  let small : frame - first < count = omega (arith, within, high) in
                  let held : Some (key_to segment (frame - first)) ≡ Some (key_to segment count) =
                  sym (overlaid_within keys first (first_keys segment count) frame None (omega (arith, within_keys)) high (omega (arith, within, first-long segment count))
                  ∙ get_or-map-range_with_len (λ (index : ℕ). Some (key_to segment index)) 0 count (frame - first) (frame - first) None small (omega arith))
                  ∙ is in
                  absurd (omega (arith, same-index segment (frame - first) count held, small))
            ]
      ]

-- one frame more holds nothing
pub nones-more :
    (keys : List (Option Key)) (first count : ℕ) → first + count < length keys
    → slice_set (overlaid keys first (replicate count None)) (first + count) None ≡ overlaid keys first (replicate (count + 1) None)
nones-more keys first count room =
    let long : length (replicate count (let none : Option Key = None in none)) ≡ count = length-replicate count (let none : Option Key = None in none) in
    cc (overlaid-more keys first (replicate count None) None (omega (arith, room, long)), replicate-append-replicate count 1 (let none : Option Key = None in none))

pub nones-long : (keys : List (Option Key)) (first count : ℕ) → first + count ≤ length keys → length (overlaid keys first (replicate count None)) ≡ length keys
nones-long keys first count room = length-overlaid keys first (replicate count None) (omega (arith, room, length-replicate count (let none : Option Key = None in none)))

-- a seat is begun, or not, after it was set
pub begun-at : (size : PageSize) (begun : List Bool) (seat : ℕ) (b : Bool) → seat < length begun → pages_begun size (slice_set begun seat b) seat ≡ (if b then seat_pages size else 0)
begun-at size begun seat b below = ap (λ (on : Bool). if on then seat_pages size else 0) (get_or-set_same begun seat b false below)

pub begun-other : (size : PageSize) (begun : List Bool) (seat other : ℕ) (b : Bool) → other ≢ seat → pages_begun size (slice_set begun seat b) other ≡ pages_begun size begun other
begun-other size begun seat other b apart = ap (λ (on : Bool). if on then seat_pages size else 0) (get_or-set_other begun seat other b false apart)

-- where no seat is begun and no page is in a frame, no frame holds a page
pub keys-bare : (d : Layout) (frames count : ℕ) → replicate (private_frames d.page + frames) None ≡ keys_of d (replicate 16 false) frames (replicate count None)
keys-bare d frames count =
    same_lists (replicate (private_frames d.page + frames) None) (keys_of d (replicate 16 false) frames (replicate count None))
    (long ∙ sym (length-map-range_with_len (held_in d (pages_begun d.page (replicate 16 false)) (replicate count None)) 0 (private_frames d.page + frames)))
    (λ k e below. element k e (omega (arith, below, long)))
  where
    long : length (replicate (private_frames d.page + frames) (let none : Option Key = None in none)) ≡ private_frames d.page + frames
    long = length-replicate (private_frames d.page + frames) (let none : Option Key = None in none)

    all-same : {A : Type 0} (n k : ℕ) (x : A) → slice_index_or (replicate n x) k x ≡ x
    all-same n k x = grind (arith, get_or-replicate n k x x, get_or_past (replicate n x) k x, length-replicate n x)

    bare : (k : ℕ) → held_in d (pages_begun d.page (replicate 16 false)) (replicate count None) k ≡ None
    bare k =
        let never = all-same 16 (k / seat_pages d.page) false in
        let none = all-same count k (let none : Option ℕ = None in none) in
        grind (arith, nat_tests, never, none)

    element : (k : ℕ) (e : Option Key) → k < private_frames d.page + frames → get_or (replicate (private_frames d.page + frames) None) k e ≡ get_or (keys_of d (replicate 16 false) frames (replicate count None)) k e
    element k e below =
        cc (
          get_or-replicate (private_frames d.page + frames) k (let none : Option Key = None in none) e below,
          bare k,
          get_or-map-range_with_len (held_in d (pages_begun d.page (replicate 16 false)) (replicate count None)) 0 (private_frames d.page + frames) k k e below (omega arith),
        )

-- what its frames hold then
pub holds-first :
    (size : PageSize) (begun : List Bool) (seat index : ℕ) (e : Option Key) → seat < length begun → index < seat_pages size
    → get_or (first_keys (private_segment seat) (seat_pages size)) index e ≡ held_private size (pages_begun size (slice_set begun seat true)) (seat * seat_pages size + index)
holds-first size begun seat index e below few = grind (arith, nat_tests, seat-first, seat-rest, get_or-map-range_with_len, begun-at)

pub holds-none :
    (size : PageSize) (begun : List Bool) (seat index : ℕ) (e : Option Key) → seat < length begun → index < seat_pages size
    → get_or (replicate (seat_pages size) None) index e ≡ held_private size (pages_begun size (slice_set begun seat false)) (seat * seat_pages size + index)
holds-none size begun seat index e below few = grind (arith, nat_tests, seat-first, get_or-replicate, begun-at)

-- a seat that isn't begun has no page in the table
pub free-at : (size : PageSize) (begun : List Bool) (seat index : ℕ) → slice_index_or begun seat false ≡ false → index < seat_pages size → held_private size (pages_begun size begun) (seat * seat_pages size + index) ≡ None
free-at size begun seat index not few = grind (arith, nat_tests, seat-first)
