-- What holds of every pool, and stays where a page leaves.
use Rattle.frame_pool.proofs.Lemmas.{◌+◌, ◌≤◌, ◌==◌, if◌then◌else◌, slice_index_or, slice_set, is_some, length-set, get_or-set_same, get_or-set_other, get_or_past, with_part, with_frame_part, marked_in, overlaid, length-take, length-take-le, length-drop, length-overlaid, page_bytes, has, taken_out, has-filter, IsSeen, frame_count, frame_at, page_at, frame_bytes, paging_after, gone, Pool, nat_tests, ◌≡◌, ℕ, ◌*◌, ◌<◌, List, [], ◌∷◌, length, sym, ◌∙◌, ap, arith, Option, Some, None, apart-without, page_part, without-fewer, gone-from, none-lost}

-- a pool whose frames have other bytes
pub seen-bytes : (pool : Pool) (bytes : List ℕ) → length bytes ≡ length pool.bytes → IsSeen pool → IsSeen (record pool { bytes = bytes })
seen-bytes pool bytes long seen = grind (arith, nat_tests, seen)

pub seen-lent : (pool : Pool) (at : ℕ) (part : List ℕ) → IsSeen pool → IsSeen (with_frame_part pool at part)
seen-lent pool at part seen = seen-bytes pool (with_part pool.bytes at part) (length-take-le (length pool.bytes) (overlaid pool.bytes at part) (none-lost pool.bytes at part)) seen

-- and one in which lines of the page in a frame are marked
pub seen-marked : (pool : Pool) (frame : ℕ) (lines : List ℕ) → IsSeen pool → IsSeen (marked_in pool frame lines)
seen-marked pool frame lines seen = grind (arith, nat_tests, length-set, seen)

-- what stands somewhere in a list of options stands within it
pub some-within : (xs : List (Option ℕ)) (at value : ℕ) → slice_index_or xs at None ≡ Some value → at < length xs
some-within xs at value is = grind (arith, nat_tests, get_or_past)

-- the frame of each page after one left
pub gone-frame : (pool : Pool) (page other : ℕ) → frame_at (gone pool page) other ≡ (if page == other then None else frame_at pool other)
gone-frame pool page other = grind (arith, nat_tests, get_or-set_other, get_or-set_same, get_or_past, length-set)

-- what stays where a page leaves
pub record Stays (old new : Pool) : Type 0 where
  pub page : new.page ≡ old.page
  pub frames : new.frames ≡ old.frames
  pub bytes : new.bytes ≡ old.bytes
  pub marked : new.marked ≡ old.marked
  pub frame_of : length new.frame_of ≡ length old.frame_of

pub gone-stays : (pool : Pool) (page : ℕ) → Stays pool (gone pool page)
gone-stays pool page = grind (arith, nat_tests, length-set pool.frame_of page None)

module _ (pool : Pool) (seen : IsSeen pool) (page frame : ℕ) (there : frame_at pool page ≡ Some frame) where
  abbrev left : Pool
  left = record pool {
    resident = taken_out (page ∷ []) pool.resident;
    frame_of = slice_set pool.frame_of page None;
    page_in = slice_set pool.page_in frame None;
    kept = paging_after pool page frame;
  }

  inside : page < length pool.frame_of
  inside = some-within pool.frame_of page frame there

  within : frame < frame_count pool.page pool.frames
  within = seen.below page frame (seen.there page frame there)

  pub frame-long : length (frame_bytes pool frame) ≡ page_bytes pool.page
  frame-long =
      let part = page_part frame (frame_count pool.page pool.frames) (page_bytes pool.page) within in
      simp (length-take, length-drop) (omega (arith, part, seen.bytes))

  kept-long : length (paging_after pool page frame) ≡ length pool.kept
  kept-long =
      let fits : page * page_bytes pool.page + length (frame_bytes pool frame) ≤ length pool.kept =
      omega (arith, frame-long, page_part page (length pool.frame_of) (page_bytes pool.page) inside, seen.kept) in
      grind (arith, nat_tests, length-overlaid pool.kept (page * page_bytes pool.page) (frame_bytes pool frame) fits)

  resident-left : (p : ℕ) → has (taken_out (page ∷ []) pool.resident) p ≡ is_some (slice_index_or (slice_set pool.frame_of page None) p None)
  resident-left p = grind (arith, nat_tests, has-filter, get_or-set_other, get_or-set_same, get_or_past, length-set)

  -- the page of each frame after it left
  page-left : (f : ℕ) → slice_index_or (slice_set pool.page_in frame None) f None ≡ (if frame == f then None else page_at pool f)
  page-left f = grind (arith, nat_tests, get_or-set_other, get_or-set_same, get_or_past, length-set)

  frame-left : (p : ℕ) → slice_index_or (slice_set pool.frame_of page None) p None ≡ (if page == p then None else frame_at pool p)
  frame-left p = grind (arith, nat_tests, get_or-set_other, get_or-set_same, get_or_past, length-set)

  seen-left : IsSeen left
  seen-left = record {
    bytes = seen.bytes;
    page_in = length-set pool.page_in frame None ∙ seen.page_in;
    marked = seen.marked ∙ sym (length-set pool.frame_of page None);
    kept = kept-long ∙ seen.kept ∙ ap (λ n. n * page_bytes pool.page) (sym (length-set pool.frame_of page None));
    some = seen.some;
    few = omega (arith, without-fewer (page ∷ []) pool.resident, seen.few);
    apart = apart-without (page ∷ []) pool.resident seen.apart;
    resident = resident-left;
    there = λ p f is. grind (arith, nat_tests, frame-left p, page-left f, seen.there page frame there, seen.there p f);
    back = λ p f is. grind (arith, nat_tests, frame-left p, page-left f, there, seen.back p f);
    above = λ p f is. grind (arith, nat_tests, page-left f, seen.above p f);
    below = λ p f is. grind (arith, nat_tests, page-left f, seen.below p f);
  }

pub seen-gone : (pool : Pool) (page : ℕ) → IsSeen pool → IsSeen (gone pool page)
seen-gone pool page seen = grind (arith, gone-from pool page, seen-left pool seen page, seen)

-- a page that is in no frame leaves none
pub gone-absent : (pool : Pool) (page : ℕ) → frame_at pool page ≡ None → gone pool page ≡ pool
gone-absent pool page none = grind (arith, nat_tests)
