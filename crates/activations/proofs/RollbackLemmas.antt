-- A rollback: pages go out one after another, their lines forgotten.
use Rattle.activations.proofs.Common.{◌≡◌, refl, ℕ, ◌%◌, ◌<◌, ◌==◌, ◌&&◌, ◌||◌, not, if◌then◌else◌, Bool, true, false, List, [], ◌∷◌, ◌++◌, filter, length, slice_index, slice_index_or, Option, Some, None, is_some, option_map_or, arith, ap, sym, ◌∙◌, get_or-set_same, get_or-set_other, Layout, byte_count, page_count, line_of, difference, is_in_where-below, has, page_of_line, taken_out, has-append, Pool, marks_at, frame_at, page_undone, settled, gone, is_line_marked, bytes_over, PoolFits, UndoForgets, is_of, WereUndone, AreAsCommitted, nat_tests, ◌+◌, ◌*◌, ◌/◌, subst, eqb-true, eq-eqb, length-map-range_with_len, FlatStore, line-bytes-pos, of_page-below, Lines, any-at, any-some, has-pages_of, of_seat, no_lines_of, Active, rolled_back, written_pages, AreAlike, AreWrittenMarked, IsState, AreLinesLaid, IsCurrent, IsAmong, AreConsistent, due_to, current-rolled, both-imply, laid-places, marked-end, seat-told, other-with, IsClean, byte_over, byte-of-all, clean-shows, Activity, entry_in, entries, store_over, desk_over, lines_held, locks_in, state_for, live_in, shown, IsActivitySound, IsBeside, wrote, AreWritten, rolled, RollsBack, gone-stays}
use Rattle.activations.proofs.HoldingLemmas.{held-flat}
use Rattle.activations.proofs.TableLemmas.{stands-for, left-taken, entries-left, authority-left}

filter-then : (p q : ℕ → Bool) (xs : List ℕ) → filter p (filter q xs) ≡ filter (λ x. q x && p x) xs
filter-then p q [] = refl
filter-then p q (x ∷ xs) = grind (arith, filter-then p q xs)

pub filter-alike : (p q : ℕ → Bool) (xs : List ℕ) → ((x : ℕ) → has xs x ≡ true → p x ≡ q x) → filter p xs ≡ filter q xs
filter-alike p q [] same = refl
filter-alike p q (x ∷ xs) same =
    let here = same x (grind (arith, nat_tests)) in let rest = filter-alike p q xs (λ y inside. same y (grind arith)) in
    grind (arith, here, rest)

-- what is in neither of two
pub neither-of : (m a b : Bool) → ((m && not a) && not b) ≡ (m && not (a || b))
neither-of m a b = grind arith

-- a page more goes out
taken-then : (pages : List ℕ) (page : ℕ) (resident : List ℕ) → taken_out (page ∷ []) (taken_out pages resident) ≡ taken_out (pages ++ page ∷ []) resident
taken-then pages page resident = filter-then (λ one. not (has (page ∷ []) one)) (λ one. not (has pages one)) resident
    ∙ filter-alike (λ one. not (has pages one) && not (has (page ∷ []) one)) (λ one. not (has (pages ++ page ∷ []) one)) resident
    (λ one inside. neither-of true (has pages one) (has (page ∷ []) one) ∙ sym (ap not (has-append pages (page ∷ []) one)))

pub filter-all : (xs : List ℕ) → filter (λ one. true) xs ≡ xs
filter-all [] = refl
filter-all (x ∷ xs) = ap (λ (these : List ℕ). x ∷ these) (filter-all xs)

-- a page more among these
pub of-then : (lines : ℕ → List ℕ) (pages : List ℕ) (page line : ℕ)
    → is_of (pages ++ page ∷ []) lines line ≡ (is_of pages lines line || ((page == page_of_line line) && has (lines page) (line % 16)))
of-then lines pages page line = let more = has-append pages (page ∷ []) (page_of_line line) in grind (arith, nat_tests, more)

by_frame : {A : Type 0} → (part : Pool → A) (in_frame : ℕ → Pool) (other : Pool) (value : A) (frame : Option ℕ)
    → ((x : ℕ) → part (in_frame x) ≡ value) → (frame ≡ None → part other ≡ value) → part (option_map_or in_frame frame other) ≡ value
by_frame part in_frame other value None there none = none refl
by_frame part in_frame other value (Some x) there none = there x

-- the pages that stay resident where a page goes out
pub gone-resident : (pool : Pool) (page : ℕ) → has pool.resident page ≡ is_some (frame_at pool page) → (gone pool page).resident ≡ taken_out (page ∷ []) pool.resident
gone-resident pool page is =
    by_frame (λ (p : Pool). p.resident) _ pool (taken_out (page ∷ []) pool.resident) (frame_at pool page) (λ x. refl)
    (λ none. let out = is ∙ ap is_some none in
    sym (filter-all pool.resident) ∙ filter-alike (λ one. true) (λ one. not (has (page ∷ []) one)) pool.resident (λ one inside. grind (arith, nat_tests, out, inside)))

module _ (directory : Layout) (pool : Pool) (fits : PoolFits directory pool) (page : ℕ) (below : page < page_count directory) (lines : List ℕ) where
  marked-below : page < length pool.marked
  marked-below = omega (arith, below, fits.pages, fits.seen.marked)

  -- the marks of lines of the page go
  pub settled-marks : (line : ℕ) → is_line_marked (settled pool page lines) line ≡ (is_line_marked pool line && not ((page == page_of_line line) && has lines (line % 16)))
  settled-marks line =
      let gone = is_in_where-below (λ x. has (marks_at pool page) x && not (has lines x)) (line % 16) (omega arith) in
      let there = get_or-set_same pool.marked page (difference (marks_at pool page) lines) [] marked-below in
      let other = get_or-set_other pool.marked page (page_of_line line) (difference (marks_at pool page) lines) [] in
      grind (arith, nat_tests, gone, there, other)

-- One page more: its lines are forgotten too.
module _ (directory : Layout) (lines : ℕ → List ℕ) (pages : List ℕ) (old pool : Pool) (fits : PoolFits directory pool) (page : ℕ) (below : page < page_count directory) where
  pub were-undone : WereUndone lines pages old pool → WereUndone lines (pages ++ page ∷ []) old (page_undone pool page (lines page))
  were-undone were = record {
    marks = λ line.
        let stays = ap (λ (marked : List (List ℕ)). has (slice_index_or marked (page_of_line line) []) (line % 16)) (gone-stays (settled pool page (lines page)) page).marked in
        let now = settled-marks directory pool fits page below (lines page) line in let more = of-then lines pages page line in
        grind (arith, stays, now, were.marks line, more);
    resident = gone-resident (settled pool page (lines page)) page (fits.seen.resident page)
        ∙ ap (taken_out (page ∷ [])) were.resident ∙ taken-then pages page old.resident;
    bytes = (gone-stays (settled pool page (lines page)) page).bytes ∙ were.bytes;
    size = (gone-stays (settled pool page (lines page)) page).page ∙ were.size;
    frames = (gone-stays (settled pool page (lines page)) page).frames ∙ were.frames;
  }

  pub are-as-committed : UndoForgets → (committed : List ℕ) → length committed ≡ byte_count directory
      → AreAsCommitted directory lines pages old pool committed → AreAsCommitted directory lines (pages ++ page ∷ []) old (page_undone pool page (lines page)) committed
  are-as-committed forgets committed long are =
      let undo = forgets directory pool committed page (lines page) fits long are.clean below in
      record {
        bytes = λ place within. let more = of-then lines pages page (line_of directory place) in grind (arith, undo.0 place within, are.bytes place within, more);
        clean = undo.1;
      }

-- a line that a seat holds to write is one of the lines that it holds
pub wrote-held : (a : Activity) (seat : ℕ) (lines : Lines) → IsActivitySound a → AreAlike (locks_in a seat) lines → (line : ℕ) → has (wrote a seat (page_of_line line)) (line % 16) ≡ has lines.writes line
wrote-held a seat lines sound alike line =
    let whole : line / 16 * 16 + line % 16 ≡ line = omega arith in
    (held-flat (of_seat a.seating.holding seat) (sound.lines seat)).writes (line / 16) (line % 16) (omega arith)
    ∙ ap (has (locks_in a seat).writes) whole ∙ alike.writes line

-- the lines of the pages into which he wrote are those that he holds to write
pub of-held : (a : Activity) (seat : ℕ) (pages : List ℕ) (lines : Lines) → IsActivitySound a → AreAlike (locks_in a seat) lines
    → AreWritten a.seating.holding seat pages → (line : ℕ) → is_of pages (wrote a seat) line ≡ has lines.writes line
of-held a seat pages lines sound alike written line =
    let all = written.all (page_of_line line) (line % 16) in let held = wrote-held a seat lines sound alike line in
    grind (arith, all, held)

-- Once these lines were forgotten a pool marks them no more and shows them as committed; the others it marks and shows as before.
pub record WereForgotten (directory : Layout) (lines : List ℕ) (old new : Pool) (committed : List ℕ) : Type 0 where
  pub marks : (line : ℕ) → is_line_marked new line ≡ (is_line_marked old line && not (has lines line))
  pub bytes : new.bytes ≡ old.bytes
  pub places : (place : ℕ) → place < byte_count directory → slice_index (bytes_over directory new committed) place
      ≡ (if has lines (line_of directory place) then slice_index committed place else slice_index (bytes_over directory old committed) place)
  pub clean : IsClean directory new committed

pub were-forgotten : (directory : Layout) (lines : ℕ → List ℕ) (pages flat : List ℕ) (old new : Pool) (committed : List ℕ) → ((line : ℕ) → is_of pages lines line ≡ has flat line)
    → WereUndone lines pages old new → AreAsCommitted directory lines pages old new committed → WereForgotten directory flat old new committed
were-forgotten directory lines pages flat old new committed same were are = record {
  marks = λ line. were.marks line ∙ ap (λ (b : Bool). is_line_marked old line && not b) (same line);
  bytes = were.bytes;
  places = λ place within.
      are.bytes place within
      ∙ ap (λ (b : Bool). if b then slice_index committed place else slice_index (bytes_over directory old committed) place) (same (line_of directory place));
  clean = are.clean;
}

-- That fewer lines were forgotten comes to the same, where the others weren't marked.
module _ (directory : Layout) (more fewer : List ℕ) (old new : Pool) (committed : List ℕ) (clean : IsClean directory old committed)
    (part : (line : ℕ) → has fewer line ≡ true → has more line ≡ true)
    (rest : (line : ℕ) → has more line ≡ true → has fewer line ≡ false → is_line_marked old line ≡ false) where
  places-same : (place : ℕ) → place < byte_count directory
      → (if has more (line_of directory place) then slice_index committed place else slice_index (bytes_over directory old committed) place)
      ≡ (if has fewer (line_of directory place) then slice_index committed place else slice_index (bytes_over directory old committed) place)
  places-same place within =
      let in_more = part (line_of directory place) in let none = rest (line_of directory place) in
      let shows = clean-shows directory old committed place clean within in
      let same = byte-of-all directory old committed place within in grind (arith, in_more, none, shows, same)

  pub forgotten-fewer : WereForgotten directory more old new committed → WereForgotten directory fewer old new committed
  forgotten-fewer were = record {
    marks = λ line. were.marks line ∙ (let in_more = part line in let none = rest line in grind (arith, in_more, none));
    bytes = were.bytes;
    places = λ place within. were.places place within ∙ places-same place within;
    clean = were.clean;
  }

-- the others hold what they held
pub locks-left : (a : Activity) (seat : ℕ) (pool : Pool) → IsActivitySound a → (at : ℕ) → (at == seat) ≡ false → locks_in (rolled a seat pool) at ≡ locks_in a at
locks-left a seat pool sound at differs = ap lines_held (other-with a.seating.holding seat (no_lines_of a.seating.holding.pages) sound.seating.whole at differs)

-- Who sits in a seat is gone, and the lines that he wrote were forgotten: what is left is kept beside the others.
module _ (a : Activity) (seat : ℕ) (pool : Pool) (committed : List ℕ) (sound : IsActivitySound a) (taken : has a.seating.taken seat ≡ true)
    (consistent : AreConsistent (store_over a committed) a.most_lines a.next (entries a)) (kept : IsBeside a committed)
    (were : WereForgotten a.reach.directory (due_to (store_over a committed) (entry_in a seat)).writes a.reach.pool pool committed) where
  abbrev store : FlatStore
  store = store_over a committed

  here : IsAmong (entries a) (entry_in a seat)
  here = seat-told a.seating.taken (entry_in a) seat taken

  pub laid-left : AreLinesLaid store (due_to store (entry_in a seat)).writes committed (shown a committed) (shown (rolled a seat pool) committed)
  laid-left =
      let shown-long : length (shown a committed) ≡ byte_count a.reach.directory = length-map-range_with_len (byte_over a.reach.directory a.reach.pool committed) 0 (byte_count a.reach.directory) in
      laid-places store (due_to store (entry_in a seat)).writes committed (shown a committed) (shown (rolled a seat pool) committed) (line-bytes-pos a.reach.directory)
      (length-map-range_with_len (byte_over a.reach.directory pool committed) 0 (byte_count a.reach.directory) ∙ sym shown-long)
      (kept.long ∙ sym shown-long) (λ place within. were.places place (subst (λ (n : ℕ). place < n) shown-long within))

  pub kept-left : IsBeside (rolled a seat pool) committed
  kept-left = record {
    long = kept.long;
    held = λ at inside. let (there, differs) = left-taken a seat sound taken at inside in subst (λ (l : Lines). AreAlike l (due_to store (entry_in a at))) (sym (locks-left a seat pool sound at differs)) (kept.held at there);
    asked = λ at inside waits. kept.asked at (left-taken a seat sound taken at inside).0 waits;
    stand = λ at inside.
        subst (IsState store (entry_in a at)) (ap (λ (bytes : List ℕ). state_for (record a.reach.pool { bytes = bytes }) at (live_in a at)) (sym were.bytes))
        (kept.stand at (left-taken a seat sound taken at inside).0);
    is_current =
        subst (λ (these : List Active). IsCurrent store these (shown (rolled a seat pool) committed)) (sym (entries-left a seat sound taken))
        (current-rolled store a.most_lines a.next (entries a) consistent (shown a committed) (entry_in a seat) (shown (rolled a seat pool) committed) here kept.is_current laid-left);
    marked =
        subst (λ (these : List Active). AreWrittenMarked store these (is_line_marked pool)) (sym (entries-left a seat sound taken))
        (marked-end store a.most_lines a.next (entries a) consistent (is_line_marked a.reach.pool) kept.marked (entry_in a seat) (is_line_marked pool) here were.marks);
    clean = were.clean;
  }

-- Who sits in a seat is rolled back: the pages into which he wrote have gone out, with the lines that he wrote.
module _ (a : Activity) (seat : ℕ) (pool : Pool) (pages : List ℕ) (committed : List ℕ)
    (sound : IsActivitySound a) (taken : has a.seating.taken seat ≡ true)
    (consistent : AreConsistent (store_over a committed) a.most_lines a.next (entries a)) (kept : IsBeside a committed)
    (written : AreWritten a.seating.holding seat pages) (were : WereUndone (wrote a seat) pages a.reach.pool pool)
    (are : AreAsCommitted a.reach.directory (wrote a seat) pages a.reach.pool pool committed) where
  abbrev due : List ℕ
  due = (due_to (store_over a committed) (entry_in a seat)).writes

  -- they are the pages of the lines that are due
  pages-are : (page : ℕ) → has pages page ≡ has (written_pages (store_over a committed) (entry_in a seat)) page
  pages-are page = both-imply (has pages page) (has (written_pages (store_over a committed) (entry_in a seat)) page) there back
    where
      there : has pages page ≡ true → has (written_pages (store_over a committed) (entry_in a seat)) page ≡ true
      there inside =
          let (line, wrote_it) = written.only page inside in
          let small : line < 16 = of_page-below (wrote a seat page) ((sound.lines seat).writes page) line wrote_it in
          let at : (page * 16 + line) / 16 ≡ page = omega (arith, small) in
          let in_page : (page * 16 + line) % 16 ≡ line = omega (arith, small) in has-pages_of due page
          ∙ any-at (λ line. page_of_line line == page) due (page * 16 + line)
          (sym ((wrote-held a seat (due_to (store_over a committed) (entry_in a seat)) sound (kept.held seat taken)) (page * 16 + line)) ∙ (λ i. has (wrote a seat (at i)) (in_page i)) ∙ wrote_it)
          (eq-eqb (page_of_line (page * 16 + line)) page at)

      back : has (written_pages (store_over a committed) (entry_in a seat)) page ≡ true → has pages page ≡ true
      back inside =
          let (line, wrote_it, at) = any-some (λ line. page_of_line line == page) due (sym (has-pages_of due page) ∙ inside) in
          let same : page_of_line line ≡ page = eqb-true (page_of_line line) page at in
          sym (ap (has pages) same) ∙ written.all (page_of_line line) (line % 16) ((wrote-held a seat (due_to (store_over a committed) (entry_in a seat)) sound (kept.held seat taken)) line ∙ wrote_it)

  desk-is : (order : List (ℕ × ℕ)) → desk_over (rolled a seat pool) committed order ≡ rolled_back (desk_over a committed order) (entry_in a seat)
  desk-is order i = record (desk_over a committed order) {
    frames = were.frames i;
    active = entries-left a seat sound taken i;
    authority = authority-left a seat sound taken (stands-for a sound committed consistent.ascend seat taken) i;
    resident = (were.resident ∙ filter-alike (λ page. not (has pages page)) (λ page. not (has (written_pages (store_over a committed) (entry_in a seat)) page)) a.reach.pool.resident (λ page inside. ap not (pages-are page))) i;
  }

  forgotten : WereForgotten a.reach.directory due a.reach.pool pool committed
  forgotten = were-forgotten a.reach.directory (wrote a seat) pages due a.reach.pool pool committed (of-held a seat pages (due_to (store_over a committed) (entry_in a seat)) sound (kept.held seat taken) written) were are

  pub rolls-back : RollsBack a seat pool committed
  rolls-back = record {
    desk = desk-is;
    kept = kept-left a seat pool committed sound taken consistent kept forgotten;
    laid = laid-left a seat pool committed sound taken consistent kept forgotten;
  }
