-- The bytes of a store that a pool shows, place by place.
use Rattle.storage_unit.proofs.Common.{◌≡◌, ℕ, ◌+◌, ◌-◌, ◌*◌, ◌%◌, ◌<◌, ◌≤◌, Bool, true, false, List, [], ◌∷◌, length, drop, refl, sym, ◌∙◌, ap, arith, Option, Some, None, ◌==◌, ◌&&◌, not, if◌then◌else◌, slice_index, slice_index_or, slice_range, option_map_or, ne_eqb, eqb-false, get_or-take, get_or-drop, get_or-map-range_with_len, length-map-range_with_len, same_number_lists, overlaid_before, overlaid_within, overlaid_behind, page_bytes, Layout, byte_count, line_of, page_of, has, page_of_line, Pool, IsSeen, frame_at, marks_at, frame_bytes, paging_after, gone, gone-from, some-within, gone-frame, gone-stays, gone-absent, frame-long, is_marked, byte_in_frame, byte_over, bytes_over, nat_tests}
use Rattle.storage_unit.proofs.SizeLemmas.{rest-below, place-is, spot-same, page-of-line}

-- a byte of a part of a list
pub in-range : (xs : List ℕ) (from count k : ℕ) → k < count → slice_index (slice_range xs from (from + count)) k ≡ slice_index xs (from + k)
in-range xs from count k below = grind (arith, nat_tests, get_or-take, drop, get_or-drop)

-- a byte of all bytes
pub byte-of-all : (d : Layout) (pool : Pool) (committed : List ℕ) (place : ℕ) → place < byte_count d → slice_index (bytes_over d pool committed) place ≡ byte_over d pool committed place
byte-of-all d pool committed place below = get_or-map-range_with_len (byte_over d pool committed) 0 (byte_count d) place place 0 below (omega arith)

pub all-long : (d : Layout) (pool : Pool) (committed : List ℕ) → length (bytes_over d pool committed) ≡ byte_count d
all-long d pool committed = length-map-range_with_len (byte_over d pool committed) 0 (byte_count d)

-- two pools show the same bytes where they do at each place
pub same-bytes :
    (d : Layout) (pool other : Pool) (committed next : List ℕ)
    → ((place : ℕ) → place < byte_count d → byte_over d pool committed place ≡ byte_over d other next place)
    → bytes_over d pool committed ≡ bytes_over d other next
same-bytes d pool other committed next same = grind (arith, nat_tests, same_number_lists, all-long, byte-of-all)

-- the marks of a place, by its page and its line in the page
pub marked-is : (d : Layout) (pool : Pool) (place : ℕ) → is_marked d pool place ≡ has (marks_at pool (page_of d place)) (line_of d place % 16)
marked-is d pool place = ap (λ (page : ℕ). has (marks_at pool page) (line_of d place % 16)) (page-of-line d.page place)

-- the byte of a place whose page is in no frame, or in one
pub over-none : (d : Layout) (pool : Pool) (committed : List ℕ) (place : ℕ) → frame_at pool (page_of d place) ≡ None
    → byte_over d pool committed place ≡ (if is_marked d pool place then slice_index pool.kept place else slice_index committed place)
over-none d pool committed place none =
    ap (λ (o : Option ℕ). option_map_or (byte_in_frame d pool place) o (if is_marked d pool place then slice_index pool.kept place else slice_index committed place)) none

pub over-some : (d : Layout) (pool : Pool) (committed : List ℕ) (place frame : ℕ) → frame_at pool (page_of d place) ≡ Some frame
    → byte_over d pool committed place ≡ byte_in_frame d pool place frame
over-some d pool committed place frame some =
    ap (λ (o : Option ℕ). option_map_or (byte_in_frame d pool place) o (if is_marked d pool place then slice_index pool.kept place else slice_index committed place)) some

-- a set that has a line isn't empty
not-empty : (set : List ℕ) (line : ℕ) → has set line ≡ true → (length set == 0) ≡ false
not-empty [] line inside = absurd (cc)
not-empty (x ∷ set) line inside = ne_eqb (length (x ∷ set)) 0 (λ e. absurd (omega (arith, e)))

-- what a page that leaves its frame leaves of the bytes: a line that isn't marked is as committed
module _ (d : Layout) (pool : Pool) (committed : List ℕ) (page place : ℕ) (seen : IsSeen pool) (size : pool.page ≡ d.page) where
  abbrev Leaves : Pool → Type 0
  Leaves left = byte_over d left committed place ≡ (if page == page_of d place && not (is_marked d pool place) then slice_index committed place else byte_over d pool committed place)

  -- a page that was in no frame
  absent : frame_at pool page ≡ None → Leaves pool
  absent none = grind (arith, nat_tests)

  module _ (frame : ℕ) (there : frame_at pool page ≡ Some frame) where
    marks : is_marked d (gone pool page) place ≡ is_marked d pool place
    marks = ap (λ (list : List (List ℕ)). has (slice_index_or list (page_of_line (line_of d place)) []) (line_of d place % 16)) (gone-stays pool page).marked

    bytes : (f : ℕ) → byte_in_frame d (gone pool page) place f ≡ byte_in_frame d pool place f
    bytes f = ap (λ (list : List ℕ). slice_index list (f * page_bytes d.page + place % page_bytes d.page)) (gone-stays pool page).bytes

    -- paging space after it
    kept-is : (gone pool page).kept ≡ paging_after pool page frame
    kept-is = ap (λ (p : Pool). p.kept) (gone-from pool page frame there)

    start : page * page_bytes pool.page ≡ page * page_bytes d.page
    start = ap (λ s. page * page_bytes s) size

    long : length (frame_bytes pool frame) ≡ page_bytes d.page
    long = frame-long pool seen page frame there ∙ ap page_bytes size

    room : page * page_bytes d.page + page_bytes d.page ≤ length pool.kept
    room = grind (arith, nat_tests, some-within pool.frame_of page frame there)

    at-place : page ≡ page_of d place → page * page_bytes d.page + place % page_bytes d.page ≡ place
    at-place here = ap (λ n. n * page_bytes d.page + place % page_bytes d.page) here ∙ place-is d.page place

    kept-here : page ≡ page_of d place → is_marked d pool place ≡ true → slice_index (gone pool page).kept place ≡ byte_in_frame d pool place frame
    kept-here here marked =
        let some : (length (marks_at pool page) == 0) ≡ false =
        not-empty (marks_at pool page) (line_of d place % 16) (ap (λ (n : ℕ). has (marks_at pool n) (line_of d place % 16)) here ∙ sym (marked-is d pool place) ∙ marked) in
        let rest = rest-below d.page place in
        let at = at-place here in
        let back : place - page * page_bytes pool.page ≡ place % page_bytes d.page = omega (arith, at, start) in
        cc (
          overlaid_within pool.kept (page * page_bytes pool.page) (frame_bytes pool frame) place 0 (omega (arith, room, start)) (omega (arith, at, start)) (omega (arith, at, start, long, rest)),
          in-range pool.bytes (frame * page_bytes pool.page) (page_bytes pool.page) (place % page_bytes d.page) (omega (arith, rest, ap page_bytes size)),
        )

    present : Leaves (gone pool page)
    present = by_tests (page == page_of d place) (is_marked d pool place) refl refl
      where
        by_tests : (here marked : Bool) → (page == page_of d place) ≡ here → is_marked d pool place ≡ marked
            → byte_over d (gone pool page) committed place ≡ (if here && not marked then slice_index committed place else byte_over d pool committed place)
        by_tests true marked a b = grind (arith, nat_tests, over-none, gone-frame, marks, kept-here, over-some)
        by_tests false marked a b = grind (arith, nat_tests, gone-frame, marks, bytes, kept-is, rest-below, place-is, spot-same, overlaid_before, room, start, overlaid_behind, long, eqb-false)

  pub gone-over : byte_over d (gone pool page) committed place ≡ (if page == page_of d place && not (is_marked d pool place) then slice_index committed place else byte_over d pool committed place)
  gone-over = grind (arith, nat_tests, present, gone-absent, absent)

-- what is committed counts only where no line is marked
unseen : (o : Option ℕ) (marked : Bool) (shown : ℕ → ℕ) (kept first second : ℕ) → (marked ≡ false → first ≡ second)
    → option_map_or shown o (if marked then kept else first) ≡ option_map_or shown o (if marked then kept else second)
unseen o marked shown kept first second same = grind (arith, nat_tests)
