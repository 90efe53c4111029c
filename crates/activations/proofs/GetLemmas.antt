-- What is asked for, waited for and got: the pages come in once more, and the row is served; or one can't be read.
use Rattle.activations.proofs.Common.{◌≡◌, refl, ℕ, ◌<◌, ◌==◌, true, false, List, [], ◌∷◌, length, map, Some, IsSome, arith, sym, subst, Layout, has, AreWithin, Request, Want, Seat, sitter, number_in, waiting_for, taken-below, AreOfPage, Activity, IsActivitySound, KeepsParts, StandsStill, asking, ap, program_at, with_whole_page, AreWanted, nat_tests, false_from_ne_true, ◌+◌, ◌%◌, if◌then◌else◌, not, Bool, ◌++◌, filter, slice_index_or, Result, Ok, Err, OnOk, IfErr, list_any, ◌∙◌, set-set, both_ways, eqb-true, ne_eqb, or_left, All-head, All-tail, is_fine_page, FlatStore, Lines, both, page_of_line, pages_of, with_whole_pages, taken_out, has-append, has_right, lines_wanted, with_wants, no_lines_of, of_seat, Authority, Plain, On, Pool, Ghosts, StoreView, TurnEnd, Desk, Active, rolled_back, wanted, DiskWord, ReadFailed, Fine, Counts, InFlight, Turning, Over, Disk, Fetched, Broken, fetches, goes_on, locks_with, touched_pages, with_grants, AreAlike, owners_told, gone_on, IsAmong, due_to, IsOrderly, granted-rolled, new-among, one-entry, replaced-among, due-more, grants-held, row-goes-on, touched_of, seat-told, resident-consistent, any-among, Seating, seat_left, IsClean, is_line_marked, TouchedLines, entry_in, entries, store_over, desk_over, authority_told, number_under, authority_under, locks_in, HasUndone, IsBrokenOff, IsStoreOf, HasBrokenOff, IsBeside, IsServed, Serves, IsFetched, AreGranted, IsFree, locked, with_entries, rolled, with_other_pool, wrote, page_if, pages_picked, pages_wanted, wants_of, HasBroken, HasEnded, HasFetched, Grant, nobody, all_of, zero, suc, ◌&&◌, granted, lowered, page_count, long-seat, AreLowered, is_lowered, pages_lowered}
use Rattle.desk.specs.declared.answers.TurnEnd.TheVariants as end
use Rattle.activations.proofs.GrantLemmas.{within-whole, taken-alike, granted-all, lowered-all}
use Rattle.activations.proofs.HoldingLemmas.{whole-of-page}
use Rattle.activations.proofs.SittingLemmas.{sound-reseated, sitter-there, sitter-other, number-there}
use Rattle.activations.proofs.ContestLemmas.{orderly-other}
use Rattle.activations.proofs.EndingLemmas.{sound-pool}
use Rattle.activations.proofs.KeptLemmas.{keeps-locked, keeps-rolled}
use Rattle.activations.proofs.PoolLemmas.{moved-kept}
use Rattle.activations.proofs.RollbackLemmas.{WereForgotten, were-forgotten, forgotten-fewer, of-held, kept-left}
use Rattle.activations.proofs.ServedLemmas.{served}
use Rattle.activations.proofs.TableLemmas.{stands-for, entries-left, authority-left}

module _ (a : Activity) (seat : ℕ) (request : Request) (sound : IsActivitySound a) (taken : has a.seating.taken seat ≡ true) where
  abbrev who : Seat
  who = record (sitter a.seating seat) { waits = Some request }

  numbers : (at : ℕ) → number_in (waiting_for a.seating seat request) at ≡ number_in a.seating at
  numbers = number-there a.seating seat who sound.seating.sixteen (taken-below a.seating sound.seating seat taken) refl

  pub asks-now : IsSome (sitter (waiting_for a.seating seat request) seat).waits
  asks-now = subst (λ (s : Seat). IsSome s.waits) (sym (sitter-there a.seating seat who sound.seating.sixteen (taken-below a.seating sound.seating seat taken))) (cc)

  -- who sits there waits
  pub sound-asking : AreWithin a.seating.holding.pages request.wants.items → AreOfPage request.wants.items → IsActivitySound (asking a seat request)
  sound-asking within sets =
      sound-reseated a seat who sound taken refl refl (λ other is. subst (λ (r : Request). AreWithin a.seating.holding.pages r.wants.items) (cc (is)) within)
      (λ other is. subst (λ (r : Request). AreOfPage r.wants.items) (cc (is)) sets)

  -- and all else is as it was
  pub keeps-asking : KeepsParts a (asking a seat request) 0
  keeps-asking = record {
    programs = refl;
    most_lines = refl;
    next = refl;
    directory = refl;
    fewer = omega arith;
    rows = λ rows within at less.
        let own = within seat (taken-below a.seating sound.seating seat taken) in let here = within at less in
        let other = sitter-other a.seating seat who at in
        grind (arith, nat_tests, sitter-there a.seating seat who sound.seating.sixteen (taken-below a.seating sound.seating seat taken), own, here, other);
  }

  pub still-asking : StandsStill a (asking a seat request) seat
  still-asking = record {
    seated = record { taken = taken; number = numbers seat; selected = λ is. record { runner = is.runner; registers = is.registers } };
    program = ap (λ (s : Seat). program_at a.programs s.program) (sitter-there a.seating seat who sound.seating.sixteen (taken-below a.seating sound.seating seat taken));
    live = refl;
    private = refl;
    own = λ page its. refl;
  }

-- a request for whole pages
pub asked-within : (a : Activity) (wants asked : List Want) → IsActivitySound a → AreWanted a.reach.directory wants → asked ≡ map (with_whole_page a.reach.directory) wants → AreWithin a.seating.holding.pages asked
asked-within a wants asked sound wanted is = subst (AreWithin a.seating.holding.pages) (sym is)
    (within-whole a.reach.directory a.seating.holding.pages wants (subst (λ (n : ℕ). AreWithin n wants) (sym sound.pages) wanted.within))

pub asked-whole : (directory : Layout) (wants asked : List Want) → AreOfPage wants → asked ≡ map (with_whole_page directory) wants → AreOfPage asked
asked-whole directory wants asked sets is = subst AreOfPage (sym is) (whole-of-page directory wants sets)

-- a page that is picked is one of those of its touch
if-below : (picked : Bool) (at pages page : ℕ) → at < pages → has (page_if picked at) page ≡ true → page < pages
if-below picked at pages page below inside = grind (arith, nat_tests, below, inside)

pub picked-below : (pages : ℕ) (touch : TouchedLines) (picked : Bool × Bool) → AreWithin pages (wants_of touch) → (page : ℕ) → has (pages_picked touch picked) page ≡ true → page < pages
picked-below pages TouchedLines.Nothing picked within page inside = absurd (cc)
picked-below pages (TouchedLines.One want) picked within page inside = if-below picked.0 want.page pages page (All-head (λ (w : Want). w.page < pages) want [] within) inside
picked-below pages (TouchedLines.Two first second) picked within page inside =
    let here = if-below picked.0 first.page pages page (All-head (λ (w : Want). w.page < pages) first (second ∷ []) within) in
    let later = if-below picked.1 second.page pages page (All-head (λ (w : Want). w.page < pages) second [] (All-tail (λ (w : Want). w.page < pages) first (second ∷ []) within)) in
    let split = has-append (page_if picked.0 first.page) (page_if picked.1 second.page) page in grind (arith, split, inside, here, later)

-- what is kept is so whatever the entries of pages are
kept-entries : (a : Activity) (owned : List Authority) (committed : List ℕ) → IsBeside a committed → IsBeside (with_entries a owned) committed
kept-entries a owned committed kept = record {
  long = kept.long;
  held = kept.held;
  asked = kept.asked;
  stand = kept.stand;
  is_current = kept.is_current;
  marked = kept.marked;
  clean = kept.clean;
}

-- who leaves a seat leaves the same, whatever he took before
left-locked : (a : Activity) (seat : ℕ) (wants : List Want) (owned : List Authority) → seat_left (locked a seat wants owned).seating seat ≡ seat_left a.seating seat
left-locked a seat wants owned i =
    record (seat_left a.seating seat) {
      holding = record a.seating.holding {
        seats = set-set a.seating.holding.seats seat (with_wants (of_seat a.seating.holding seat) (map (with_whole_page a.reach.directory) wants)) (no_lines_of a.seating.holding.pages) i;
      };
    }

-- the numbers under identifiers are those of who sits there, whatever is held
under-locked : (a : Activity) (seat : ℕ) (wants : List Want) (owned : List Authority) → number_under (locked a seat wants owned) ≡ number_under a
under-locked a seat wants owned i tid = at tid i
  where
    at : (tid : ℕ) → number_under (locked a seat wants owned) tid ≡ number_under a tid
    at zero = refl
    at (suc seat) = refl

-- some of the pages of which lines are wanted are pages of the store
lowered-below : (some : Want → Bool) (pages : ℕ) (wants : List Want) → AreWithin pages wants → (page : ℕ) → has (pages_wanted (filter some wants)) page ≡ true → page < pages
lowered-below some pages [] within page inside = absurd (cc)
lowered-below some pages (want ∷ wants) within page inside =
    let first = All-head (λ (w : Want). w.page < pages) want wants within in
    let rest = lowered-below some pages wants (All-tail (λ (w : Want). w.page < pages) want wants within) page in
    grind (arith, nat_tests, first, rest)

module _ (begins : DiskWord → Turning) (attempt : InFlight) (refused : List ℕ) (a : Activity) (seat : ℕ) (committed : List ℕ) (order : List (ℕ × ℕ)) (counts : Counts)
    (wants : List Want) (owned : List Authority)
    (sound : IsActivitySound a) (taken : has a.seating.taken seat ≡ true) (later : IsActivitySound (locked a seat wants owned)) (wanted_here : AreWanted a.reach.directory wants)
    (number : attempt.entry.number ≡ (sitter a.seating seat).number) (free : IsFree begins attempt refused a committed order counts) (lines : attempt.lines ≡ lines_wanted wants)
    (below_pages : (page : ℕ) → has refused page ≡ true → page < length a.reach.entries)
    (grants : AreGranted (locked a seat wants owned) seat wants refused a.reach.entries owned)
    (next : Plain) (goes : attempt.outcome ≡ On next) where
  abbrev store : FlatStore
  store = store_over a committed

  abbrev old : Desk
  old = desk_over a committed order

  touched-are : touched_pages attempt ≡ pages_wanted wants
  touched-are = ap (λ (l : Lines). pages_of (l.reads ++ l.writes)) lines ∙ sym wanted_here.pages

  below : seat < 16
  below = taken-below a.seating sound.seating seat taken

  -- the entry of the attempt is the seat's, but for its mark
  same : entry_in a seat ≡ record attempt.entry { waiting = free.ready.mark }
  same =
      one-entry 0 a.next (entries a) (entry_in a seat) (record attempt.entry { waiting = free.ready.mark }) free.follows.orderly.active.ascend
      (seat-told a.seating.taken (entry_in a) seat taken) free.ready.here (sym number)

  held : AreAlike (locks_in a seat) (with_whole_pages (is_fine_page a.reach.directory) (touched_of store attempt.entry))
  held = subst (λ (e : Active). AreAlike (locks_in a seat) (due_to store e)) same (free.follows.kept.held seat taken)

  inside : AreWithin (length (of_seat a.seating.holding seat)) wants
  inside =
      subst (λ (n : ℕ). AreWithin n wants) (sym (long-seat a.seating.holding seat (of_seat a.seating.holding seat) sound.seating.whole seat below ∙ sound.pages)) wanted_here.within

  granted-locks : AreAlike (locks_in (locked a seat wants owned) seat) (locks_with attempt (desk_over a committed order))
  granted-locks =
      subst (λ (l : Lines). AreAlike (locks_in (locked a seat wants owned) seat) (with_whole_pages (is_fine_page a.reach.directory) (both (touched_of store attempt.entry) l))) (sym lines)
      (taken-alike a seat wants owned (touched_of store attempt.entry) sound below wanted_here.sets (within-whole a.reach.directory (length (of_seat a.seating.holding seat)) wants inside) (later.lines seat) held)

  granted-entries : owners_told (number_under a) (authority_under owned) ≡ granted (is_fine_page a.reach.directory) attempt (locks_with attempt (desk_over a committed order)) refused (desk_over a committed order).authority
  granted-entries =
      ap (λ (numbers : ℕ → ℕ). owners_told numbers (authority_under owned)) (sym (under-locked a seat wants owned))
      ∙ granted-all (locked a seat wants owned) seat attempt (locks_with attempt old) wants later number lines wanted_here.sets granted-locks refused a.reach.entries owned below_pages grants
      ∙ ap (λ (numbers : ℕ → ℕ). granted (is_fine_page a.reach.directory) attempt (locks_with attempt old) refused (owners_told numbers (authority_under a.reach.entries))) (under-locked a seat wants owned)

  -- Once the row has taken effect, its write bits go off as on the desk.
  lowered-free : (eased : List Authority) → AreLowered (locked a seat wants owned) seat (pages_lowered (locked a seat wants owned) seat wants) owned eased
      → owners_told (number_under a) (authority_under eased)
      ≡ lowered (is_fine_page a.reach.directory) attempt (locks_with attempt (desk_over a committed order)) (with_grants attempt refused (desk_over a committed order)).authority
  lowered-free eased is =
      ap (λ (numbers : ℕ → ℕ). owners_told numbers (authority_under eased)) (sym (under-locked a seat wants owned))
      ∙ lowered-all (locked a seat wants owned) seat attempt (locks_with attempt old) wants later number lines wanted_here.sets granted-locks owned eased
      (λ page inside. subst (λ (n : ℕ). page < n) (sym later.entries) (lowered-below (λ want. not (length want.writes == 0) && is_lowered (locked a seat wants owned) seat want.page) (page_count a.reach.directory) wants wanted_here.within page inside)) is
      ∙ ap (lowered (is_fine_page a.reach.directory) attempt (locks_with attempt old))
      (ap (λ (numbers : ℕ → ℕ). owners_told numbers (authority_under owned)) (under-locked a seat wants owned) ∙ granted-entries)

  -- The pages came in: it is served.
  module _ (pool : Pool) (counted : ℕ) (runner : a.reach.runner ≡ seat + 1)
      (came : IsFetched (locked a seat wants owned) committed order (pages_wanted wants) counts.pages pool counted) where
    fetched-here : IsFetched a committed order (touched_pages attempt) counts.pages pool counted
    fetched-here = record {
      moved = came.moved;
      keeps = came.keeps;
      fetched = subst (λ (pages : List ℕ). fetches Fine a.reach.pool.frames pages pages a.reach.pool.resident counts.pages ≡ Fetched pool.resident counted) (sym touched-are) came.fetched;
    }

    pub got-served : IsServed begins (with_other_pool (locked a seat wants owned) pool) seat wants committed order (record counts { pages = counted })
    got-served = record {
      long = free.follows.kept.long;
      clean = came.keeps.clean;
      goes = λ live bytes marked eased went lowers.
          served begins attempt refused a seat committed order counts wants owned eased pool live bytes marked counted next sound taken runner number free goes
          fetched-here.moved fetched-here.keeps fetched-here.fetched granted-locks (lowered-free eased lowers) went;
    }

  -- One couldn't be read, and it was rolled back: the turn is over.
  module _ (off pool : Pool) (counted : ℕ) (broken : IsBrokenOff (locked a seat wants owned) committed order (pages_wanted wants) counts.pages off counted)
      (undone : HasUndone (locked a seat wants owned).seating.holding seat (with_other_pool (locked a seat wants owned) off).reach (record (locked a seat wants owned).reach { pool = pool })) where
    abbrev after : Activity
    after = rolled (with_other_pool (locked a seat wants owned) off) seat pool

    -- what the seat holds now is due once the row has gone on
    due-next : due_to store (gone_on attempt.entry) ≡ locks_with attempt old
    due-next = due-more store attempt.entry ∙ ap (λ (l : Lines). with_whole_pages (is_fine_page a.reach.directory) (both (touched_of store attempt.entry) l)) (sym free.ready.lines)

    holds : AreAlike (locks_in (locked a seat wants owned) seat) (due_to store (gone_on attempt.entry))
    holds = subst (AreAlike (locks_in (locked a seat wants owned) seat)) (sym due-next) granted-locks

    abbrev more : List ℕ
    more = (due_to store (gone_on attempt.entry)).writes

    abbrev written : List ℕ
    written = (due_to store (entry_in a seat)).writes

    written-more : (line : ℕ) → has written line ≡ true → has more line ≡ true
    written-more line inside = ap (λ (l : Lines). has l.writes line) (due-more store attempt.entry)
        ∙ has-append (touched_of store attempt.entry).writes (wanted old attempt.entry).writes line
        ∙ or_left (has (touched_of store attempt.entry).writes line) (has (wanted old attempt.entry).writes line) (sym (ap (λ (e : Active). has (due_to store e).writes line) same) ∙ inside)

    by-nobody : (line : ℕ) → has more line ≡ true → has written line ≡ false → is_line_marked off line ≡ false
    by-nobody line inside out =
        ap (λ (marked : List (List ℕ)). has (slice_index_or marked (page_of_line line) []) (line % 16)) broken.moved.marked
        ∙ free.follows.kept.marked.is line ∙ nobody-wrote
      where
        by_number : (entry : Active) → IsAmong (entries a) entry → has (due_to store entry).writes line ≡ true → (mine : Bool) → (entry.number == attempt.entry.number) ≡ mine → ⊥
        by_number entry among wrote_it true e =
            let mine : entry_in a seat ≡ entry =
            one-entry 0 a.next (entries a) (entry_in a seat) entry free.follows.orderly.active.ascend (seat-told a.seating.taken (entry_in a) seat taken) among
            (sym number ∙ sym (eqb-true entry.number attempt.entry.number e)) in
            both_ways (has written line) out (ap (λ (x : Active). has (due_to store x).writes line) mine ∙ wrote_it)
        by_number entry among wrote_it false e = both_ways (has (all_of (due_to store entry)) line)
            ((((row-goes-on (with_grants attempt refused old) attempt next (grants-held old attempt refused free.ready free.free) goes).active).apart (gone_on attempt.entry) entry
            (new-among (gone_on attempt.entry) (entries a) (record attempt.entry { waiting = free.ready.mark }) free.ready.here refl)
            (replaced-among (gone_on attempt.entry) (entries a) entry among e)
            (grind (arith, nat_tests, e))).first_writes line inside)
            (has_right (due_to store entry).reads (due_to store entry).writes line wrote_it)

        nobody-wrote : list_any (λ (entry : Active). has (due_to store entry).writes line) (entries a) ≡ false
        nobody-wrote = false_from_ne_true _
            (λ some. let (entry, among, wrote_it) = any-among (λ (entry : Active). has (due_to store entry).writes line) (entries a) some in by_number entry among wrote_it (entry.number == attempt.entry.number) refl)

    -- so the lines that it has written were forgotten
    forgotten : WereForgotten a.reach.directory written off pool committed
    forgotten =
        forgotten-fewer a.reach.directory more written off pool committed broken.keeps.clean written-more by-nobody
        (were-forgotten a.reach.directory (wrote (locked a seat wants owned) seat) undone.pages more off pool committed
        (of-held (locked a seat wants owned) seat undone.pages (due_to store (gone_on attempt.entry)) later holds undone.written)
        undone.were (undone.are committed free.follows.kept.long broken.keeps.clean))

    kept-after : IsBeside after committed
    kept-after =
        subst (λ (s : Seating). IsBeside (record after { seating = s }) committed) (sym (left-locked a seat wants owned))
        (kept-entries (rolled (with_other_pool a off) seat pool) after.reach.entries committed
        (kept-left (with_other_pool a off) seat pool committed (sound-pool a off sound) taken free.follows.orderly.active
        (moved-kept a off committed sound broken.moved broken.keeps free.follows.kept) forgotten))

    desk-after : desk_over after committed order ≡ record (rolled_back (with_grants attempt refused old) attempt.entry) { resident = [] }
    desk-after i =
        record old {
          frames = (undone.were.frames ∙ broken.moved.frames) i;
          active = (entries-left a seat sound taken ∙ ap (λ (n : ℕ). filter (λ (other : Active). not (other.number == n)) (entries a)) (sym number)) i;
          authority = authority-after i;
          resident = (undone.were.resident ∙ ap (taken_out undone.pages) broken.none) i;
        }
      where
        cleared : ℕ → List Grant → List Grant
        cleared n authority = map (λ (one : Grant). if one.owner == n then nobody else one) authority

        authority-after : authority_told after ≡ cleared attempt.entry.number (with_grants attempt refused old).authority
        authority-after =
            authority-left (locked a seat wants owned) seat later taken (stands-for (locked a seat wants owned) later committed free.follows.orderly.active.ascend seat taken)
            ∙ ap (λ (n : ℕ). cleared n (authority_told (locked a seat wants owned))) (sym number)
            ∙ ap (cleared attempt.entry.number)
            (ap (λ (numbers : ℕ → ℕ). owners_told numbers (authority_under owned)) (under-locked a seat wants owned) ∙ granted-entries)

    pub got-broken : HasBroken begins after committed order (record counts { pages = counted })
    got-broken = record {
      comes =
          free.comes (ReadFailed counted) (λ page within. ne_eqb counted page (λ e. absurd (let few = broken.counted in omega (arith, e, few, within))))
          ∙ ap (goes_on (ReadFailed counted) attempt (with_grants attempt refused old) counts) fetches-is
          ∙ ap (λ (d : Desk). Over d (record counts { pages = counted }) Disk) (sym desk-after);
      follows = record {
        orderly = orderly-other after committed order
            (subst IsOrderly (sym desk-after)
            (resident-consistent (rolled_back (with_grants attempt refused old) attempt.entry) []
            (granted-rolled (with_grants attempt refused old) attempt (grants-held old attempt refused free.ready free.free))));
        kept = kept-after;
      };
    }
      where
        fetches-is : fetches (ReadFailed counted) a.reach.pool.frames (touched_pages attempt) (touched_pages attempt) a.reach.pool.resident counts.pages ≡ Broken counted
        fetches-is = subst (λ (pages : List ℕ). fetches (ReadFailed counted) a.reach.pool.frames pages pages a.reach.pool.resident counts.pages ≡ Broken counted) (sym touched-are) broken.broken

  -- Either, from what took the locks.
  module _ {W : Type 0} (G : Ghosts W) (kept_store : StoreView) (outside : W) (mid new : Activity) (counted : ℕ) (is : mid ≡ locked a seat wants owned) (is_store : IsStoreOf G kept_store outside committed) where
    clean-mid : IsClean mid.reach.directory mid.reach.pool committed
    clean-mid = subst (λ (x : Activity). IsClean x.reach.directory x.reach.pool committed) (sym is) free.follows.kept.clean

    pub served-so : a.reach.runner ≡ seat + 1 → new ≡ with_other_pool mid new.reach.pool → HasFetched G kept_store outside mid (pages_wanted wants) counts.pages new.reach.pool counted
        → IsServed begins new seat wants committed order (record counts { pages = counted })
    served-so runner shape came =
        subst (λ (x : Activity). IsServed begins x seat wants committed order (record counts { pages = counted })) (sym (shape ∙ ap (λ (x : Activity). with_other_pool x new.reach.pool) is))
        (got-served new.reach.pool counted runner
        (subst (λ (x : Activity). IsFetched x committed order (pages_wanted wants) counts.pages new.reach.pool counted) is (came.fetched committed order is_store clean-mid)))

    pub broken-so : HasBrokenOff G kept_store outside mid seat (pages_wanted wants) counts.pages new counted → HasBroken begins new committed order (record counts { pages = counted })
    broken-so off =
        let here : HasBrokenOff G kept_store outside (locked a seat wants owned) seat (pages_wanted wants) counts.pages new counted =
        subst (λ (x : Activity). HasBrokenOff G kept_store outside x seat (pages_wanted wants) counts.pages new counted) is off in
        subst (λ (x : Activity). HasBroken begins x committed order (record counts { pages = counted })) (sym here.shape)
        (got-broken here.pool new.reach.pool counted (here.off committed order is_store free.follows.kept.clean) here.undone)

-- by what the answer is
pub serves-by : {U : Type 0} (P Q T : Type 0) (E : TurnEnd → Type 0) (result : Result U TurnEnd) (begins : DiskWord → Turning) (a : Activity) (seat : ℕ) (wants : List Want) (committed : List ℕ) (order : List (ℕ × ℕ)) (counts : Counts)
    → OnOk result P → OnOk result Q → (P → Q → IsServed begins a seat wants committed order counts)
    → IfErr result E → ((how : TurnEnd) → E how → how ≡ end.Disk) → IfErr result (λ over. T) → (T → HasBroken begins a committed order counts)
    → Serves result begins a seat wants committed order counts
serves-by P Q T E (Ok nothing) begins a seat wants committed order counts shape came leads ends is off breaks = leads shape came
serves-by P Q T E (Err over) begins a seat wants committed order counts shape came leads ends is off breaks =
    subst (λ (how : TurnEnd). HasEnded how begins a committed order counts) (sym (is over ends)) (breaks off)

-- and all parts are as they were
pub parts-by : {U W : Type 0} (result : Result U TurnEnd) (G : Ghosts W) (kept_store : StoreView) (outside : W) (a mid new : Activity) (seat : ℕ) (wants : List Want) (pages : List ℕ) (before counted : ℕ)
    → mid ≡ locked a seat wants mid.reach.entries
    → OnOk result (new ≡ with_other_pool mid new.reach.pool) → IfErr result (λ over. HasBrokenOff G kept_store outside mid seat pages before new counted)
    → KeepsParts a new 0
parts-by (Ok nothing) G kept_store outside a mid new seat wants pages before counted is shape off =
    subst (λ (x : Activity). KeepsParts a x 0) (sym (shape ∙ ap (λ (x : Activity). with_other_pool x new.reach.pool) is)) (keeps-locked a seat wants mid.reach.entries new.reach.pool)
parts-by (Err over) G kept_store outside a mid new seat wants pages before counted is shape off =
    subst (λ (x : Activity). KeepsParts a x 0) (sym (off.shape ∙ ap (λ (x : Activity). rolled (with_other_pool x off.pool) seat new.reach.pool) is))
    (keeps-rolled a (with_other_pool (locked a seat wants mid.reach.entries) off.pool) seat 0 new.reach.pool (keeps-locked a seat wants mid.reach.entries off.pool))
