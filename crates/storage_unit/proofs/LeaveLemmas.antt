-- What pages that leave, lines that are settled and pages that come in do to the bytes that a pool shows.
use Rattle.storage_unit.proofs.Common.{◌≡◌, ℕ, ◌%◌, ◌<◌, true, false, List, [], ◌∷◌, length, refl, sym, ◌∙◌, ap, arith, Option, Some, None, ◌&&◌, not, if◌then◌else◌, slice_index, slice_index_or, fold, option_map_or, cases_eq, length-set, get_or-set_same, get_or-set_other, Layout, byte_count, line_of, page_of, is_in_where-below, has, page_of_line, Pool, IsSeen, frame_at, marks_at, gone, page_out, with_room, pool_emptied, settled, gone-frame, gone-stays, seen-gone, Stays, is_marked, byte_over, IsClean, is_among, nat_tests}
use Rattle.storage_unit.proofs.ByteLemmas.{over-none, over-some, gone-over}

-- a pool is clean where it shows the committed byte of each place that isn't marked
pub clean-of :
    (d : Layout) (pool : Pool) (committed : List ℕ)
    → ((place : ℕ) → place < byte_count d → is_marked d pool place ≡ false → byte_over d pool committed place ≡ slice_index committed place) → IsClean d pool committed
clean-of d pool committed shows = λ place frame below there unmarked. sym (over-some d pool committed place frame there) ∙ shows place below unmarked

pub clean-shows :
    (d : Layout) (pool : Pool) (committed : List ℕ) (place : ℕ) → IsClean d pool committed → place < byte_count d → is_marked d pool place ≡ false
    → byte_over d pool committed place ≡ slice_index committed place
clean-shows d pool committed place clean below unmarked = grind (arith, nat_tests)

-- the marks stay where a page leaves
pub gone-marked : (d : Layout) (pool : Pool) (page place : ℕ) → is_marked d (gone pool page) place ≡ is_marked d pool place
gone-marked d pool page place = ap (λ (list : List (List ℕ)). has (slice_index_or list (page_of_line (line_of d place)) []) (line_of d place % 16)) (gone-stays pool page).marked

-- where pages leave, one after another
fold-frame : (pages : List ℕ) (pool : Pool) (p : ℕ) → frame_at (fold gone pool pages) p ≡ (if has pages p then None else frame_at pool p)
fold-frame [] pool p = refl
fold-frame (page ∷ pages) pool p = grind (arith, nat_tests, fold-frame pages (gone pool page) p, gone-frame)

fold-marked : (d : Layout) (pages : List ℕ) (pool : Pool) (place : ℕ) → is_marked d (fold gone pool pages) place ≡ is_marked d pool place
fold-marked d [] pool place = refl
fold-marked d (page ∷ pages) pool place = fold-marked d pages (gone pool page) place ∙ gone-marked d pool page place

fold-over :
    (d : Layout) (committed : List ℕ) (place : ℕ) (pages : List ℕ) (pool : Pool) → IsSeen pool → pool.page ≡ d.page
    → byte_over d (fold gone pool pages) committed place
    ≡ (if has pages (page_of d place) && not (is_marked d pool place) then slice_index committed place else byte_over d pool committed place)
fold-over d committed place [] pool seen size = refl
fold-over d committed place (page ∷ pages) pool seen size =
    let rest = fold-over d committed place pages (gone pool page) (seen-gone pool page seen) ((gone-stays pool page).page ∙ size) in
    let marks = gone-marked d pool page place in
    let here = gone-over d pool committed page place seen size in
    grind (arith, rest, marks, here)

pub emptied-frame : (pool : Pool) (p : ℕ) → IsSeen pool → frame_at (pool_emptied pool) p ≡ None
emptied-frame pool p seen = grind (arith, nat_tests, fold-frame pool.resident pool p)

pub emptied-marked : (d : Layout) (pool : Pool) (place : ℕ) → is_marked d (pool_emptied pool) place ≡ is_marked d pool place
emptied-marked d pool place = fold-marked d pool.resident pool place

pub emptied-over :
    (d : Layout) (pool : Pool) (committed : List ℕ) (place : ℕ) → IsSeen pool → pool.page ≡ d.page
    → byte_over d (pool_emptied pool) committed place ≡ (if is_marked d pool place then byte_over d pool committed place else slice_index committed place)
emptied-over d pool committed place seen size =
    let over = fold-over d committed place pool.resident pool seen size in
    let none = over-none d (pool_emptied pool) committed place (emptied-frame pool (page_of d place) seen) in
    let marks = emptied-marked d pool place in
    grind (arith, over, none, marks)

pub emptied-clean : (d : Layout) (pool : Pool) (committed : List ℕ) → IsSeen pool → IsClean d (pool_emptied pool) committed
emptied-clean d pool committed seen = λ place frame below there unmarked. absurd (let clash : None ≡ Some frame = sym (emptied-frame pool (page_of d place) seen) ∙ there in cc)

-- where the page that goes out for another has left
pub record Fewer (d : Layout) (old new : Pool) (committed : List ℕ) : Type 0 where
  pub stays : Stays old new
  pub seen : IsSeen new
  pub frames : (page : ℕ) → frame_at old page ≡ None → frame_at new page ≡ None
  pub over : (place : ℕ) → place < byte_count d → byte_over d new committed place ≡ byte_over d old committed place
  pub marks : (place : ℕ) → is_marked d new place ≡ is_marked d old place

pub room-fewer : (d : Layout) (pool : Pool) (committed : List ℕ) (keep : Option ℕ) → IsSeen pool → pool.page ≡ d.page → IsClean d pool committed → Fewer d pool (with_room pool keep) committed
room-fewer d pool committed keep seen size clean = by_out (page_out pool keep)
  where
    by_out : (o : Option ℕ) → Fewer d pool (option_map_or (gone pool) o pool) committed
    by_out o = grind (arith, nat_tests, gone-stays, seen-gone, gone-frame, gone-over, clean-shows, gone-marked)

-- lines that are settled
module _ (d : Layout) (pool : Pool) (committed : List ℕ) (page : ℕ) (lines : List ℕ) (seen : IsSeen pool) (within : page < length pool.frame_of) where
  abbrev after : Pool
  after = settled pool page lines

  pub seen-settled : IsSeen after
  seen-settled = grind (arith, nat_tests, length-set)

  -- what is marked then
  pub settled-line : (line : ℕ) → has (marks_at after (page_of_line line)) (line % 16) ≡ (has (marks_at pool (page_of_line line)) (line % 16) && not (is_among page lines line))
  settled-line line = grind (arith, nat_tests, cases_eq, get_or-set_same, is_in_where-below, get_or-set_other)

  -- the bytes: a line that was marked and is settled is as committed, if its page is in no frame
  pub settled-over : (place : ℕ) → place < byte_count d → IsClean d pool committed
      → (is_among page lines (line_of d place) ≡ true → is_marked d pool place ≡ true → frame_at pool (page_of d place) ≡ None → slice_index committed place ≡ byte_over d pool committed place)
      → byte_over d after committed place ≡ byte_over d pool committed place
  settled-over place below clean same = grind (arith, nat_tests, over-some, over-none, settled-line, clean-shows)
