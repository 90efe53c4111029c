-- The record of a commit, and what it leaves, laid over what is committed.
use Rattle.activations.proofs.Common.{range-long, ◌≡◌, refl, ℕ, ◌+◌, ◌*◌, ◌/◌, ◌%◌, ◌<◌, if◌then◌else◌, Bool, true, List, length, slice_index, slice_range, Option, Some, None, option_map_or, ap, sym, ◌∙◌, Layout, page_of, page_bytes, line_bytes, PageSize, Pool, frame_at, line_shown, line_in_frame, line_kept, IsSeen, frame_count, line_place, line_size, byte_over, byte_in_frame, is_marked, in-range, over-none, over-some, page-of-line, pool_line, ◌≤◌, ◌==◌, false, [], ◌∷◌, arith, or_left, or_right, eq-eqb, same_number_lists, page_count, byte_count_pages, line-bytes-pos, has, overlaid, length-overlaid, entry_bytes, laid, is_line_marked, byte-of-all, Plain, after, Commit, row, FlatStore, page_of_line, Active, no_counts, AreLinesLaid, over_all, due_to, place-laid, place-kept, seat-told, among-any, Activity, program_in, entry_in, entries, store_over, locks_in, shown, IsActivitySound, KeepsDesk, recorded, nat_tests, ◌++◌, All, map, slice_index_or, AllPairs, subst, All-nil, IsOfPage, Want, size-alike, write_count, of_seat, begun_of, record_bytes_of, StoreView, all-has, taken-below, RecordLine, IsRecordOf, LaidIsCommitted, HasWritten, written_of, lines_with}
use Rattle.storage_unit.proofs.FillLemmas.{over-part, in-part}
use Rattle.storage_unit.specs.Reached as reached
use Rattle.activations.proofs.PoolLemmas.{line-there, place-in-page, place-in-line, rest-of-place, place-of-line, line-of-place, line-ends}
use Rattle.activations.proofs.CommitLemmas.{ends}
use Rattle.activations.proofs.HoldingLemmas.{size-held, written-none}
use Rattle.activations.proofs.RecordLemmas.{climbs-below, length-recorded, numbers-recorded, bytes-recorded, recorded-ascend, pages-below, written-all, lines-climb, as-many}

-- the bytes of a line of a page, among those of all pages
abbrev line_from : PageSize → List ℕ → (whole line : ℕ) → List ℕ
line_from size bytes whole line = slice_range bytes (line_place size whole line) (line_place size whole line + line_size size)

-- a line has its bytes
pub shown-long : (pool : Pool) (seen : IsSeen pool) (page line : ℕ) → page < length pool.frame_of → line < 16 → length (line_shown pool page line) ≡ line_bytes pool.page
shown-long pool seen page line below few =
    let in_frame = λ (frame : ℕ) (is : frame_at pool page ≡ Some frame). range-long pool.bytes (line_place pool.page frame line) (line_bytes pool.page)
    (line-there pool.page frame line (frame_count pool.page pool.frames) (length pool.bytes) (seen.below page frame (seen.there page frame is)) few seen.bytes) in
    let kept = range-long pool.kept (line_place pool.page page line) (line_bytes pool.page) (line-there pool.page page line (length pool.frame_of) (length pool.kept) below few seen.kept) in
    grind (arith, in_frame, kept)

-- a byte of a line that is marked, as all see it
module _ (size : PageSize) (d : Layout) (pool : Pool) (committed : List ℕ) (place : ℕ) (same : pool.page ≡ size) (sized : d.page ≡ size) (marked : is_marked d pool place ≡ true) where
  abbrev page : ℕ
  page = place / line_bytes size / 16

  abbrev line : ℕ
  line = place / line_bytes size % 16

  page-is : page_of d place ≡ page
  page-is = ap (λ (of : PageSize). place / page_bytes of) sized ∙ sym (page-of-line size place)

  of-frame : (frame : ℕ) → byte_in_frame d pool place frame ≡ slice_index pool.bytes (frame * page_bytes size + place % page_bytes size)
  of-frame frame = ap (λ (of : PageSize). slice_index pool.bytes (frame * page_bytes of + place % page_bytes of)) sized

  byte-from : (bytes : List ℕ) (whole : ℕ) → slice_index (line_from size bytes whole line) (place % line_bytes size) ≡ slice_index bytes (whole * page_bytes size + place % page_bytes size)
  byte-from bytes whole =
      in-range bytes (line_place size whole line) (line_bytes size) (place % line_bytes size) (rest-of-place size place)
      ∙ ap (slice_index bytes) (place-in-line size whole place)

  pub told-byte : slice_index (pool_line pool (place / line_bytes size)) (place % line_bytes size) ≡ byte_over d pool committed place
  told-byte = by_frame (frame_at pool page) refl
    where
      by_frame : (where_it_is : Option ℕ) → frame_at pool page ≡ where_it_is
          → slice_index (option_map_or (λ frame. line_in_frame pool frame line) where_it_is (line_kept pool page line)) (place % line_bytes size) ≡ byte_over d pool committed place
      by_frame (Some frame) is =
          ap (λ (of : PageSize). slice_index (line_from of pool.bytes frame line) (place % line_bytes size)) same
          ∙ byte-from pool.bytes frame
          ∙ sym (over-some d pool committed place frame (ap (frame_at pool) page-is ∙ is) ∙ of-frame frame)
      by_frame None is =
          ap (λ (of : PageSize). slice_index (line_from of pool.kept page line) (place % line_bytes size)) same
          ∙ byte-from pool.kept page ∙ ap (slice_index pool.kept) (place-in-page size place)
          ∙ sym (over-none d pool committed place (ap (frame_at pool) page-is ∙ is) ∙ ap (λ (b : Bool). if b then slice_index pool.kept place else slice_index committed place) marked)

-- Lines with bytes of their own, laid over others: how long it is, and each byte.
pub record IsLaidOver (size : PageSize) (bytes : ℕ → List ℕ) (lines : List ℕ) (base new : List ℕ) : Type 0 where
  pub long : length new ≡ length base
  pub each : (place : ℕ) → place < length base → slice_index new place ≡ (if has lines (place / line_bytes size) then slice_index (bytes (place / line_bytes size)) (place % line_bytes size) else slice_index base place)

-- each of these lines is within other bytes and has its own
pub record AreLines (size : PageSize) (bytes : ℕ → List ℕ) (lines : List ℕ) (bound : ℕ) : Type 0 where
  pub long : (line : ℕ) → has lines line ≡ true → length (bytes line) ≡ line_bytes size
  pub within : (line : ℕ) → has lines line ≡ true → line * line_bytes size + line_bytes size ≤ bound

-- one line more
module _ (size : PageSize) (bytes : ℕ → List ℕ) (line : ℕ) (lines base new : List ℕ) (are : AreLines size bytes (line ∷ lines) (length base)) where
  abbrev over : List ℕ
  over = overlaid base (line * line_bytes size) (bytes line)

  long : length (bytes line) ≡ line_bytes size
  long = are.long line (or_left (line == line) (has lines line) (eq-eqb line line refl))

  fits : line * line_bytes size + length (bytes line) ≤ length base
  fits = omega (arith, long, are.within line (or_left (line == line) (has lines line) (eq-eqb line line refl)))

  over-long : length over ≡ length base
  over-long = length-overlaid base (line * line_bytes size) (bytes line) fits

  are-left : AreLines size bytes lines (length over)
  are-left = record {
    long = λ other inside. are.long other (or_right (line == other) (has lines other) inside);
    within = λ other inside. let below = are.within other (or_right (line == other) (has lines other) inside) in omega (arith, below, over-long);
  }

  in-line : (place : ℕ) → line ≡ place / line_bytes size → slice_index over place ≡ slice_index (bytes (place / line_bytes size)) (place % line_bytes size)
  in-line place same =
      let rest = rest-of-place size place in let whole = place-of-line size line place same in
      ap (slice_index over) (sym whole)
      ∙ in-part base (line * line_bytes size) (bytes line) (place % line_bytes size) fits (omega (arith, long, rest))
      ∙ ap (λ (n : ℕ). slice_index (bytes n) (place % line_bytes size)) same

  out-of-line : (place : ℕ) → (line ≡ place / line_bytes size → ⊥) → slice_index over place ≡ slice_index base place
  out-of-line place other = over-part base (line * line_bytes size) (bytes line) place fits (λ j below is. other (line-of-place size line j place (omega (arith, below, long)) is))

  abbrev chosen : (place : ℕ) → Bool → (else_this : List ℕ) → ℕ
  chosen place inside else_this = if inside then slice_index (bytes (place / line_bytes size)) (place % line_bytes size) else slice_index else_this place

  laid-one : IsLaidOver size bytes lines over new → IsLaidOver size bytes (line ∷ lines) base new
  laid-one rest = record {
    long = rest.long ∙ over-long;
    each = λ place inside. rest.each place (omega (arith, inside, over-long)) ∙ (let own = in-line place in let other = out-of-line place in grind (arith, nat_tests, own, other));
  }

pub laid-over : (size of : PageSize) (bytes : ℕ → List ℕ) (at : ℕ) (lines base : List ℕ) → AreLines size bytes lines (length base) → IsLaidOver size bytes lines base (laid size base (recorded of bytes at lines))
laid-over size of bytes at [] base are = record { long = refl; each = λ place inside. refl }
laid-over size of bytes at (line ∷ lines) base are =
    laid-one size bytes line lines base (laid size (over size bytes line lines base [] are) (recorded of bytes (at + entry_bytes of) lines)) are
    (laid-over size of bytes (at + entry_bytes of) lines (over size bytes line lines base [] are) (are-left size bytes line lines base [] are))

-- With the bytes of all where they were written, and committed ones elsewhere, it leaves what is committed by then.
module _ (a : Activity) (seat : ℕ) (committed : List ℕ) (now : Plain) (sound : IsActivitySound a) (reached : reached.IsReachSound a.reach) (taken : has a.seating.taken seat ≡ true) (follows : KeepsDesk a committed)
    (at : after (entry_in a seat).runs.program (entry_in a seat).runs.args (store_over a committed) (entry_in a seat).rows ≡ Some now)
    (call : row (program_in a seat) a.reach.directory (over_all now (shown a committed)) ≡ Commit) where
  abbrev store : FlatStore
  store = store_over a committed

  lines-due : (line : ℕ) → has (locks_in a seat).writes line ≡ has (due_to store (entry_in a seat)).writes line
  lines-due line = (follows.kept.held seat taken).writes line

  done : AreLinesLaid store (due_to store (entry_in a seat)).writes (shown a committed) committed now.store
  done = (ends a seat a.reach.pool [] committed now sound taken follows at call [] no_counts).record_lines

  abbrev size : PageSize
  size = a.reach.directory.page

  marked : (line : ℕ) → has (locks_in a seat).writes line ≡ true → is_line_marked a.reach.pool line ≡ true
  marked line inside = follows.kept.marked.is line
      ∙ among-any (λ (entry : Active). has (due_to store entry).writes line) (entries a) (entry_in a seat) (seat-told a.seating.taken (entry_in a) seat taken) (sym (lines-due line) ∙ inside)

  module _ (lines : List ℕ) (same : (line : ℕ) → has lines line ≡ has (locks_in a seat).writes line) (below : (line : ℕ) → has lines line ≡ true → line < page_count a.reach.directory * 16) where
    are-lines : AreLines size (pool_line a.reach.pool) lines (length committed)
    are-lines = record {
      long = λ line inside.
          let less = below line inside in let all = reached.fits.pages in
          shown-long a.reach.pool reached.fits.seen (page_of_line line) (line % 16) (omega (arith, less, all)) (omega arith) ∙ ap line_bytes reached.fits.size;
      within = λ line inside. line-ends size line (page_count a.reach.directory) (length committed) (below line inside) (follows.kept.long ∙ byte_count_pages a.reach.directory);
    }

    each : (of : PageSize) (at : ℕ) (place : ℕ) → place < length committed → slice_index (laid size committed (recorded of (pool_line a.reach.pool) at lines)) place ≡ slice_index now.store place
    each of at place inside =
        let told = λ (is : has lines (place / line_bytes size) ≡ true). told-byte size a.reach.directory a.reach.pool committed place reached.fits.size refl
        (marked (place / line_bytes size) (sym (same (place / line_bytes size)) ∙ is))
        ∙ sym (byte-of-all a.reach.directory a.reach.pool committed place (omega (arith, inside, follows.kept.long)))
        ∙ sym (place-laid store (due_to store (entry_in a seat)).writes (shown a committed) committed now.store (line-bytes-pos a.reach.directory) done place (sym (lines-due (place / line_bytes size)) ∙ sym (same (place / line_bytes size)) ∙ is)) in
        let kept = λ (is : has lines (place / line_bytes size) ≡ false).
        place-kept store (due_to store (entry_in a seat)).writes (shown a committed) committed now.store (line-bytes-pos a.reach.directory) done place (sym (lines-due (place / line_bytes size)) ∙ sym (same (place / line_bytes size)) ∙ is) in
        (laid-over size of (pool_line a.reach.pool) at lines committed are-lines).each place inside ∙ grind (arith, told, kept)

    pub leaves-committed : (of : PageSize) (at : ℕ) → laid size committed (recorded of (pool_line a.reach.pool) at lines) ≡ now.store
    leaves-committed of at =
        let over = laid-over size of (pool_line a.reach.pool) at lines committed are-lines in
        same_number_lists (laid size committed (recorded of (pool_line a.reach.pool) at lines)) now.store (over.long ∙ sym done.long)
        (λ place inside. each of at place (omega (arith, inside, over.long)))

module _ (a : Activity) (seat : ℕ) (sound : IsActivitySound a) (taken : has a.seating.taken seat ≡ true) where
  -- how many lines it would have, with no more than are held
  pub with-none : lines_with a seat [] ≡ write_count (of_seat a.seating.holding seat)
  with-none = written-none (of_seat a.seating.holding seat) (sound.lines seat) (record { reads = All-nil (λ (want : Want). IsOfPage want.reads); writes = All-nil (λ (want : Want). IsOfPage want.writes) })

  -- beside a consistent desk they are never too many
  pub never-more : (committed : List ℕ) → KeepsDesk a committed → write_count (of_seat a.seating.holding seat) ≤ a.most_lines
  never-more committed follows =
      let live = follows.orderly.active.live (entry_in a seat) (seat-told a.seating.taken (entry_in a) seat taken) in
      let alike = follows.kept.held seat taken in
      let same = size-alike (locks_in a seat).writes (due_to (store_over a committed) (entry_in a seat)).writes
      (record { among = λ line inside. sym (alike.writes line) ∙ inside }) (record { among = λ line inside. alike.writes line ∙ inside }) in
      omega (arith, live.few, same, size-held (of_seat a.seating.holding seat) (sound.lines seat))

  module _ (store now : StoreView) (none : begun_of store.bank ≡ []) (written : HasWritten a seat store now) where
    abbrev lines : List ℕ
    lines = written_of a seat written.pages

    abbrev at : ℕ
    at = store.bank.gate + record_bytes_of store.bank (length (begun_of store.bank))

    begun : begun_of now.bank ≡ recorded store.bank.page (pool_line a.reach.pool) at lines
    begun = ap (λ (store : StoreView). begun_of store.bank) written.is ∙ ap (λ (these : List RecordLine). these ++ recorded store.bank.page (pool_line a.reach.pool) at lines) none

    below : (k d : ℕ) → k < length written.pages → slice_index_or written.pages k d < a.seating.holding.pages
    below = pages-below a.seating.holding a.seating.holding seat written.pages refl sound.seating.whole (taken-below a.seating sound.seating seat taken) written.all

    pub is-record : IsRecordOf a seat (begun_of now.bank)
    is-record = record {
      ascending = subst (λ (these : List RecordLine). AllPairs (λ (first second : RecordLine). first.line < second.line) these) (sym begun)
          (recorded-ascend store.bank.page (pool_line a.reach.pool) at lines 0 (a.seating.holding.pages * 16) (lines-climb a seat sound written.pages written.ascending written.all a.seating.holding.pages below));
      each = λ line.
          ap (λ (these : List RecordLine). has (map (λ one. one.line) these) line) begun
          ∙ ap (λ (these : List ℕ). has these line) (numbers-recorded store.bank.page (pool_line a.reach.pool) at lines)
          ∙ (written-all a seat sound written.pages written.ascending written.all) line;
      bytes = subst (λ (these : List RecordLine). All (λ (one : RecordLine). one.bytes ≡ pool_line a.reach.pool one.line) these) (sym begun) (bytes-recorded store.bank.page (pool_line a.reach.pool) at lines);
    }

    pub record-count : length (begun_of now.bank) ≡ write_count (of_seat a.seating.holding seat)
    record-count = ap (λ (these : List RecordLine). length these) begun
        ∙ length-recorded store.bank.page (pool_line a.reach.pool) at lines
        ∙ as-many a seat sound written.pages written.ascending written.all a.seating.holding.pages below
        ∙ size-held (of_seat a.seating.holding seat) (sound.lines seat)

    pub record-leaves : reached.IsReachSound a.reach → LaidIsCommitted a seat (begun_of now.bank)
    record-leaves whole committed state follows there call = ap (laid a.reach.directory.page committed) begun
        ∙ leaves-committed a seat committed state sound whole taken follows there call lines (written-all a seat sound written.pages written.ascending written.all)
        (λ line inside.
        let less = all-has (λ (x : ℕ). x < a.seating.holding.pages * 16) lines line (climbs-below 0 lines (a.seating.holding.pages * 16) (lines-climb a seat sound written.pages written.ascending written.all a.seating.holding.pages below)) inside in
        omega (arith, less, sound.pages))
        store.bank.page at
