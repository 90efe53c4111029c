-- What the calls of a unit leave of its pool and its table.
use Rattle.storage_unit.proofs.Common.{◌≡◌, ℕ, ◌+◌, ◌<◌, ◌≤◌, Bool, false, List, [], ◌∷◌, length, replicate, All, refl, sym, ◌∙◌, ap, subst, arith, get_or, Option, Some, None, nat_lt, if◌then◌else◌, slice_set, fold, is_some, option_map, option_and_then, option_map_or, cases_eq, eq-eqb, length-set, set_past, get_or-set_same, get_or-set_other, get_or-replicate, length-replicate, get_or_past, same_lists, All-nil, Pair, get_or-map-range_with_len, Layout, page_count, AreSegmentsLegal, IsOfPage, difference, passing, of_page_where, has, Key, Placed, without_frame, look_up, Pool, IsSeen, private_frames, frame_count, frame_at, page_at, gone, page_out, with_room, pool_emptied, kept_laid, line_laid, gone-from, gone-absent, gone-frame, gone-stays, seen-gone, Stays, key_of_page, AreOfPages, held_private, held_in, keys_with, keys_without, pages_begun, Unit, nat_tests}
use Rattle.page_table.specs.Buffer.{IsOfTable, pair_page}
use Rattle.storage_unit.proofs.LeaveLemmas.{emptied-frame}
use Rattle.storage_unit.proofs.HeldLemmas.{above, below, keys-long, held-store, keys-store}

-- kept lines that are laid change bytes of frames alone
fold-bytes : (page frame : ℕ) (lines : List ℕ) (pool : Pool) → fold (line_laid page frame) pool lines ≡ record pool { bytes = (fold (line_laid page frame) pool lines).bytes }
fold-bytes page frame [] pool = refl
fold-bytes page frame (line ∷ lines) pool = fold-bytes page frame lines (line_laid page frame pool line)

pub laid-bytes : (pool : Pool) (page : ℕ) → kept_laid pool page ≡ record pool { bytes = (kept_laid pool page).bytes }
laid-bytes pool page = grind (arith, nat_tests, fold-bytes)

-- marks of which one page's change to other lines of it
pub marks-set : (marked : List (List ℕ)) (page : ℕ) (set : List ℕ) → AreOfPages marked → IsOfPage set → AreOfPages (slice_set marked page set)
marks-set marked page set all one other = grind (arith, nat_tests, cases_eq, get_or-set_other, below, get_or-set_same, set_past)

pub marks-settled : (marked : List (List ℕ)) (page : ℕ) (lines other : List ℕ) → AreOfPages marked → AreOfPages (slice_set marked page (difference lines other))
marks-settled marked page lines other all = marks-set marked page (difference lines other) all (of_page_where _)

-- the sizes stay where all pages leave
fold-stays : (pages : List ℕ) (pool : Pool) → Stays pool (fold gone pool pages)
fold-stays [] pool = record { page = refl; frames = refl; bytes = refl; marked = refl; frame_of = refl }
fold-stays (page ∷ pages) pool = grind (arith, nat_tests, fold-stays pages (gone pool page), gone-stays)

pub emptied-stays : (pool : Pool) → Stays pool (pool_emptied pool)
emptied-stays pool = fold-stays pool.resident pool

pub fold-seen : (pages : List ℕ) (pool : Pool) → IsSeen pool → IsSeen (fold gone pool pages)
fold-seen [] pool seen = seen
fold-seen (page ∷ pages) pool seen = fold-seen pages (gone pool page) (seen-gone pool page seen)

-- no frame has a page then
pub emptied-page : (pool : Pool) (frame : ℕ) → IsSeen pool → page_at (pool_emptied pool) frame ≡ None
emptied-page pool frame seen = by_page (page_at (pool_emptied pool) frame) refl
  where
    by_page : (o : Option ℕ) → page_at (pool_emptied pool) frame ≡ o → o ≡ None
    by_page None is = refl
    by_page (Some page) is =
        absurd (let clash : None ≡ Some frame = sym (emptied-frame pool page seen) ∙ (fold-seen pool.resident pool seen).back page frame is in cc)

-- the pool when a page has gone out for another
pub room-stays : (pool : Pool) (keep : Option ℕ) → IsSeen pool → IsSeen (with_room pool keep) × Stays pool (with_room pool keep)
room-stays pool keep seen = grind (arith, nat_tests, seen-gone pool, gone-stays pool, seen)

pub room-none : (pool : Pool) (keep : Option ℕ) (page : ℕ) → frame_at pool page ≡ None → frame_at (with_room pool keep) page ≡ None
room-none pool keep page none = grind (arith, nat_tests, gone-frame)

-- keys of a table without a frame
pub without-keys : (table : Placed) (o : Option ℕ) → (option_map_or (without_frame table) o table).keys ≡ option_map_or (λ frame. slice_set table.keys frame None) o table.keys
without-keys table o = grind (arith, nat_tests)

pub without-entries : (table : Placed) (o : Option ℕ) → (option_map_or (without_frame table) o table).entries ≡ table.entries
without-entries table o = grind (arith, nat_tests)

-- all pages leave
pub fold-long : (pool : Pool) (list : List ℕ) (from : List (Option Key)) → length (fold (keys_without pool) from list) ≡ length from
fold-long pool [] from = refl
fold-long pool (page ∷ list) from = grind (arith, nat_tests, fold-long pool list (keys_without pool from page), length-set)

module _ (d : Layout) (legal : AreSegmentsLegal d.segments) (pool : Pool) (seen : IsSeen pool) (size : pool.page ≡ d.page) (pages : length pool.frame_of ≡ page_count d) (t : ℕ → ℕ) where
  abbrev keys : List (Option Key)
  keys = keys_with d t pool.frames pool.page_in

  long : length pool.page_in ≡ private_frames d.page + pool.frames
  long = subst (λ s. length pool.page_in ≡ private_frames s + pool.frames) size seen.page_in

  -- a page leaves
  pub keys-gone : (page : ℕ) → option_map_or (λ frame. slice_set (keys_with d t pool.frames pool.page_in) frame None) (frame_at pool page) (keys_with d t pool.frames pool.page_in)
      ≡ keys_with d t (gone pool page).frames (gone pool page).page_in
  keys-gone page = by_frame (frame_at pool page) refl
    where
      by_frame : (o : Option ℕ) → frame_at pool page ≡ o → option_map_or (λ frame. slice_set keys frame None) o keys ≡ keys_with d t (gone pool page).frames (gone pool page).page_in
      by_frame None is = ap (λ (p : Pool). keys_with d t p.frames p.page_in) (sym (gone-absent pool page is))
      by_frame (Some frame) is =
          let at = seen.there page frame is in
          keys-store d t pool.frames pool.page_in frame None (above d legal pool seen size pages t page frame at) (below d legal pool seen size pages t page frame at)
          (omega (arith, long, below d legal pool seen size pages t page frame at))
          ∙ ap (λ (p : Pool). keys_with d t p.frames p.page_in) (sym (gone-from pool page frame is))

  -- it leaves
  pub keys-room : (keep : Option ℕ)
      → option_map_or (λ frame. slice_set (keys_with d t pool.frames pool.page_in) frame None) (option_and_then (frame_at pool) (page_out pool keep)) (keys_with d t pool.frames pool.page_in)
      ≡ keys_with d t (with_room pool keep).frames (with_room pool keep).page_in
  keys-room keep = grind (arith, nat_tests, keys-gone)

  -- a frame holds nothing then if its page is among them, else what it held
  fold-key : (list : List ℕ) (from : List (Option Key)) (frame : ℕ) (e : Option Key) → frame < length from
      → get_or (fold (keys_without pool) from list) frame e ≡ (if option_map_or (has list) (page_at pool frame) false then None else get_or from frame e)
  fold-key [] from frame e below = grind (arith, nat_tests)
  fold-key (page ∷ list) from frame e below =
      let rest = fold-key list (keys_without pool from page) frame e (omega (arith, below, fold-long pool (page ∷ []) from)) in
      grind (arith, nat_tests, rest, cases_eq, get_or-set_same, get_or-set_other, eq-eqb, seen.there page, seen.back page)

  pub keys-emptied : fold (keys_without pool) (keys_with d t pool.frames pool.page_in) pool.resident ≡ keys_with d t (pool_emptied pool).frames (pool_emptied pool).page_in
  keys-emptied =
      same_lists (fold (keys_without pool) keys pool.resident) (keys_with d t (pool_emptied pool).frames (pool_emptied pool).page_in)
      (fold-long pool pool.resident keys ∙ keys-long d t pool.frames pool.page_in ∙ ap (λ n. private_frames d.page + n) (sym (emptied-stays pool).frames) ∙ sym (keys-long d t (pool_emptied pool).frames (pool_emptied pool).page_in))
      (λ k e less. element k e (omega (arith, less, fold-long pool pool.resident keys, keys-long d t pool.frames pool.page_in)))
    where
      there : (k : ℕ) (e : Option Key) → k < private_frames d.page + pool.frames → (frames : ℕ) → frames ≡ pool.frames → (in_page : List (Option ℕ)) → get_or (keys_with d t frames in_page) k e ≡ held_in d t in_page k
      there k e less frames is in_page = get_or-map-range_with_len (held_in d t in_page) 0 (private_frames d.page + frames) k k e (omega (arith, less, is)) (omega arith)

      element : (k : ℕ) (e : Option Key) → k < private_frames d.page + pool.frames → get_or (fold (keys_without pool) keys pool.resident) k e ≡ get_or (keys_with d t (pool_emptied pool).frames (pool_emptied pool).page_in) k e
      element k e less =
          fold-key pool.resident keys k e (omega (arith, less, keys-long d t pool.frames pool.page_in))
          ∙ by_page (page_at pool k) refl
          ∙ ap (λ (o : Option ℕ). if nat_lt k (private_frames d.page) then held_private d.page t k else option_map (key_of_page d) o) (sym (emptied-page pool k seen))
          ∙ sym (there k e less (pool_emptied pool).frames (emptied-stays pool).frames (pool_emptied pool).page_in)
        where
          by_page : (o : Option ℕ) → page_at pool k ≡ o
              → (if option_map_or (has pool.resident) o false then None else get_or keys k e) ≡ (if nat_lt k (private_frames d.page) then held_private d.page t k else option_map (key_of_page d) None)
          by_page None is =
              there k e less pool.frames refl pool.page_in ∙ ap (λ (o : Option ℕ). if nat_lt k (private_frames d.page) then held_private d.page t k else option_map (key_of_page d) o) is
          by_page (Some page) is =
              let high = above d legal pool seen size pages t page k is in
              ap (λ (b : Bool). if b then None else get_or keys k e) (seen.resident page ∙ ap (λ (o : Option ℕ). is_some o) (seen.back page k is))
              ∙ sym (held-store d t (slice_set pool.page_in k None) k high ∙ ap (λ (o : Option ℕ). option_map (key_of_page d) o) (get_or-set_same pool.page_in k None None (omega (arith, less, long))))
              ∙ ap (λ (o : Option ℕ). if nat_lt k (private_frames d.page) then held_private d.page t k else option_map (key_of_page d) o) (get_or-set_same pool.page_in k None None (omega (arith, less, long)))

-- a buffer without pairs is of every table
-- the table has a place for each frame
pub frames-held : (unit : Unit) → frame_count unit.pool.page unit.pool.frames ≤ length unit.table.keys
frames-held unit =
    omega (arith, ap (λ s. frame_count s unit.pool.frames) unit.fits.size, ap length unit.held, keys-long unit.directory (pages_begun unit.directory.page unit.begun) unit.pool.frames unit.pool.page_in)

pub none-of_table : (keys : List (Option Key)) → IsOfTable (replicate 16 []) keys
none-of_table keys = λ k d below.
    subst (λ (pairs : List Pair). All (λ pair. look_up keys (pair_page pair) ≡ Some pair.frame) pairs)
    (sym (get_or-replicate 16 k [] d (omega (arith, below, length-replicate 16 (let none : List Pair = [] in none)))))
    (All-nil (λ pair. look_up keys (pair_page pair) ≡ Some pair.frame))

no-lines : IsOfPage []
unfolding passing
no-lines = refl

pub marks-none : (count : ℕ) → AreOfPages (replicate count [])
marks-none count page = grind (arith, nat_tests, below, get_or-replicate, get_or_past, replicate, length-replicate, no-lines)
