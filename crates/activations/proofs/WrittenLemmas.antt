-- The pages into which a seat wrote, one after another.
use Rattle.activations.proofs.Common.{and-true, arith, ap, sym, ◌∙◌, subst, eq-eqb, both_ways, and_parts, and_from, or_left, or_right, nat_tests, append-nil, take_more, get_or_past, All-get_or, filter-append, Layout, byte_count, page_count, line_of, has, page_of_line, has-filter, holds_some, nothing, Holding, IsWholeHolding, held_at, of_seat, has-at, Pool, page_undone, settled, Reach, IsClean, is_line_marked, bytes_over, PoolFits, PoolKeeps, AreWritten, HasUndone, HasSettled, WereUndone, AreAsCommitted, WereSettled, ◌≡◌, refl, ℕ, suc, ◌+◌, ◌%◌, ◌<◌, ◌==◌, not, if◌then◌else◌, Bool, true, false, List, [], ◌∷◌, ◌++◌, filter, length, slice_index, take, slice_index_or}
use Rattle.storage_unit.proofs.UndoForgets.{undo-forgets}
use Rattle.storage_unit.proofs.SettleKeeps.{settle-keeps}
use Rattle.activations.proofs.CommitLemmas.{were-settled, settled-unseen}
use Rattle.activations.proofs.RollbackLemmas.{filter-all, were-undone, are-as-committed}

-- the lines of a page that a seat holds to write
abbrev pub lines_of : Holding → (seat page : ℕ) → List ℕ
lines_of holding seat page = (held_at holding seat page).1

-- those of some pages that have such lines
abbrev pub written_in : (lines : ℕ → List ℕ) → List ℕ → List ℕ
written_in lines pages = filter (λ page. not (length (lines page) == 0)) pages

-- the pages so far have gone out
pub record UndoneSo (lines : ℕ → List ℕ) (pages : List ℕ) (old new : Reach) : Type 0 where
  pub were : WereUndone lines pages old.pool new.pool
  pub are : (committed : List ℕ) → length committed ≡ byte_count old.directory → IsClean old.directory old.pool committed → AreAsCommitted old.directory lines pages old.pool new.pool committed

-- their lines are marked no more
pub record SettledSo (lines : ℕ → List ℕ) (pages : List ℕ) (old new : Reach) : Type 0 where
  pub were : WereSettled lines pages old.pool new.pool
  pub keeps : (committed : List ℕ) → IsClean old.directory old.pool committed
      → ((place : ℕ) → place < byte_count old.directory → has (lines (page_of_line (line_of old.directory place))) (line_of old.directory place % 16) ≡ true
      → slice_index (bytes_over old.directory old.pool committed) place ≡ slice_index committed place)
      → PoolKeeps old.directory old.pool new.pool committed

-- the one where what was written isn't committed, the other where it is
pub record WrittenSo (committed : Bool) (lines : ℕ → List ℕ) (pages : List ℕ) (old new : Reach) : Type 0 where
  pub rest : new ≡ record old { pool = new.pool }
  pub undone : committed ≡ false → UndoneSo lines pages old new
  pub settled : committed ≡ true → SettledSo lines pages old new

module _ (lines : ℕ → List ℕ) (old : Reach) where
  pub written-none : (committed : Bool) → WrittenSo committed lines [] old old
  written-none committed = record {
    rest = refl;
    undone = λ not. record {
      were = record { marks = λ line. sym (and-true (is_line_marked old.pool line)); resident = sym (filter-all old.pool.resident); bytes = refl; size = refl; frames = refl };
      are = λ committed long clean. record { bytes = λ place within. refl; clean = clean };
    };
    settled = λ is. record {
      were = record { marks = λ line. sym (and-true (is_line_marked old.pool line)); rest = refl };
      keeps = λ committed clean as_committed. record { same = refl; clean = clean };
    };
  }

  -- one more
  module _ (pages : List ℕ) (now next : Reach) (page : ℕ) (fits : PoolFits now.directory now.pool) (below : page < page_count old.directory) (rest : now ≡ record old { pool = now.pool }) where
    here : PoolFits old.directory now.pool
    here = subst (λ (d : Layout). PoolFits d now.pool) (ap (λ (r : Reach). r.directory) rest) fits

    shape : (pool : Pool) → next ≡ record now { pool = pool } → next ≡ record old { pool = pool }
    shape pool is = is ∙ ap (λ (r : Reach). (let new : Reach = record r { pool = pool } in new)) rest

    undone-more : UndoneSo lines pages old now → UndoneSo lines (pages ++ page ∷ []) old (record old { pool = page_undone now.pool page (lines page) })
    undone-more so = record {
      were = were-undone old.directory lines pages old.pool now.pool here page below so.were;
      are = λ committed long clean. are-as-committed old.directory lines pages old.pool now.pool here page below undo-forgets committed long (so.are committed long clean);
    }

    settled-more : SettledSo lines pages old now → SettledSo lines (pages ++ page ∷ []) old (record old { pool = settled now.pool page (lines page) })
    settled-more so = record {
      were = were-settled old.directory lines pages old.pool now.pool here page below so.were;
      keeps = λ committed clean as_committed.
          settled-unseen settle-keeps old.directory lines old.pool now.pool committed here page below as_committed (so.keeps committed clean as_committed);
    }

    pub written-undone : {committed : Bool} → committed ≡ false → next ≡ record now { pool = page_undone now.pool page (lines page) } → WrittenSo committed lines pages old now → WrittenSo committed lines (pages ++ page ∷ []) old next
    written-undone {committed} not is so =
        subst (WrittenSo committed lines (pages ++ page ∷ []) old) (sym (shape (page_undone now.pool page (lines page)) is))
        (record { rest = refl; undone = λ same. undone-more (so.undone same); settled = λ same. absurd (cc (not, same)) })

    pub written-settled : {committed : Bool} → committed ≡ true → next ≡ record now { pool = settled now.pool page (lines page) } → WrittenSo committed lines pages old now → WrittenSo committed lines (pages ++ page ∷ []) old next
    written-settled {committed} is was so =
        subst (WrittenSo committed lines (pages ++ page ∷ []) old) (sym (shape (settled now.pool page (lines page)) was))
        (record { rest = refl; undone = λ same. absurd (cc (is, same)); settled = λ same. settled-more (so.settled same) })

-- one page more that is gone over
pub written-more : (lines : ℕ → List ℕ) (pages : List ℕ) (at : ℕ) → at < length pages → (some : Bool) → (not (length (lines (slice_index_or pages at 0)) == 0)) ≡ some
    → written_in lines (take (at + 1) pages) ≡ written_in lines (take at pages) ++ (if some then slice_index_or pages at 0 ∷ [] else [])
written-more lines pages at before some wrote = ap (written_in lines) (take_more pages at 0 before)
    ∙ filter-append (λ page. not (length (lines page) == 0)) (take at pages) (slice_index_or pages at 0 ∷ [])
    ∙ ap (λ (b : Bool). written_in lines (take at pages) ++ (if b then slice_index_or pages at 0 ∷ [] else [])) wrote

-- a page of which something is held is one of the store's
pub held-below : (holding : Holding) (seat page : ℕ) → IsWholeHolding holding → seat < 16 → holds_some (held_at holding seat page) ≡ true → page < holding.pages
held-below holding seat page whole below some =
    let long = All-get_or (λ one. length one ≡ holding.pages) holding.seats seat [] (omega (arith, below, whole.0)) whole.1 in
    let past = get_or_past (of_seat holding seat) page nothing in grind (arith, long, past, some)

pub page-held : (holding locks : Holding) (seat : ℕ) (pages : List ℕ) (at : ℕ) → locks ≡ holding → IsWholeHolding holding → seat < 16 → at < length pages
    → ((page : ℕ) → has pages page ≡ holds_some (held_at locks seat page)) → slice_index_or pages at 0 < holding.pages
page-held holding locks seat pages at is whole below before each =
    held-below holding seat (slice_index_or pages at 0) whole below
    (ap (λ (h : Holding). holds_some (held_at h seat (slice_index_or pages at 0))) (sym is) ∙ sym (each (slice_index_or pages at 0)) ∙ has-at pages at 0 before)

-- and is one of the unit's, of whose pages some have gone already
pub page-there : (holding locks : Holding) (seat : ℕ) (pages : List ℕ) (at : ℕ) → locks ≡ holding → IsWholeHolding holding → seat < 16 → at < length pages
    → ((page : ℕ) → has pages page ≡ holds_some (held_at locks seat page)) → (old now : Reach) → holding.pages ≡ page_count old.directory → now ≡ record old { pool = now.pool }
    → slice_index_or pages at 0 < page_count now.directory
page-there holding locks seat pages at is whole below before each old now same rest =
    subst (λ (n : ℕ). slice_index_or pages at 0 < n) (same ∙ sym (ap (λ (r : Reach). page_count r.directory) rest)) (page-held holding locks seat pages at is whole below before each)

-- the lines that are held of it
pub writes-are : (holding locks : Holding) (seat page : ℕ) (held : List ℕ × List ℕ) → held ≡ held_at locks seat page → locks ≡ holding → held.1 ≡ lines_of holding seat page
writes-are holding locks seat page held is same = ap (λ (both : List ℕ × List ℕ). both.1) (is ∙ ap (λ (h : Holding). held_at h seat page) same)

-- who holds a line of a page holds some
pub some-line : (set : List ℕ) (line : ℕ) → has set line ≡ true → not (length set == 0) ≡ true
some-line [] line inside = absurd (both_ways false refl inside)
some-line (x ∷ set) line inside = let some : (suc (length set) == 0) ≡ false = grind (arith, nat_tests) in ap not some

-- all that were written into
module _ (holding : Holding) (seat : ℕ) (pages : List ℕ) (each : (page : ℕ) → has pages page ≡ holds_some (held_at holding seat page)) where
  first-line : (set : List ℕ) → not (length set == 0) ≡ true → (line : ℕ) × (has set line ≡ true)
  first-line [] some = absurd (both_ways false refl some)
  first-line (x ∷ set) some = (x, or_left (x == x) (has set x) (eq-eqb x x refl))

  all : (page line : ℕ) → has (lines_of holding seat page) line ≡ true → has (written_in (lines_of holding seat) pages) page ≡ true
  all page line inside =
      let some = some-line (lines_of holding seat page) line inside in
      has-filter (λ page. not (length (lines_of holding seat page) == 0)) pages page
      ∙ and_from (has pages page) (not (length (lines_of holding seat page) == 0))
      (each page ∙ or_right (not (length (held_at holding seat page).0 == 0)) (not (length (lines_of holding seat page) == 0)) some) some

  only : (page : ℕ) → has (written_in (lines_of holding seat) pages) page ≡ true → (line : ℕ) × (has (lines_of holding seat page) line ≡ true)
  only page inside = first-line (lines_of holding seat page)
      (and_parts (has pages page) (not (length (lines_of holding seat page) == 0)) (sym (has-filter (λ page. not (length (lines_of holding seat page) == 0)) pages page) ∙ inside)).1

  are-written : AreWritten holding seat (written_in (lines_of holding seat) pages)
  are-written = record { all = all; only = only }

  module _ (committed : Bool) (old new : Reach) (so : WrittenSo committed (lines_of holding seat) (written_in (lines_of holding seat) pages) old new) where
    pub has-undone : committed ≡ false → HasUndone holding seat old new
    has-undone not = let page_undone = so.undone not in record { pages = written_in (lines_of holding seat) pages; written = are-written; rest = so.rest; were = page_undone.were; are = page_undone.are }

    pub has-settled : committed ≡ true → HasSettled holding seat old new
    has-settled is = let settled = so.settled is in record { pages = written_in (lines_of holding seat) pages; written = are-written; rest = so.rest; were = settled.were; keeps = settled.keeps }

-- A step of a loop over pages of which a seat holds something.
module _ (lines : ℕ → List ℕ) (pages : List ℕ) (at : ℕ) (before : at < length pages) (writes : List ℕ) (is : writes ≡ lines (slice_index_or pages at 0)) where
  abbrev page : ℕ
  page = slice_index_or pages at 0

  wrote-is : (empty : Bool) → (length writes == 0) ≡ empty → not (length (lines page) == 0) ≡ not empty
  wrote-is empty e = ap (λ (set : List ℕ). not (length set == 0)) (sym is) ∙ ap not e

  one-more : (length writes == 0) ≡ false → written_in lines (take at pages) ++ page ∷ [] ≡ written_in lines (take (at + 1) pages)
  one-more some = sym (written-more lines pages at before true (wrote-is false some))

  no-more : (length writes == 0) ≡ true → written_in lines (take at pages) ≡ written_in lines (take (at + 1) pages)
  no-more none = sym (written-more lines pages at before false (wrote-is true none) ∙ append-nil (written_in lines (take at pages)))

  module _ (committed : Bool) (old now next : Reach) (so : WrittenSo committed lines (written_in lines (take at pages)) old now) where
    pub written-same : (length writes == 0) ≡ true → next ≡ now → WrittenSo committed lines (written_in lines (take (at + 1) pages)) old next
    written-same none same =
        subst (WrittenSo committed lines (written_in lines (take (at + 1) pages)) old) (sym same) (subst (λ (these : List ℕ). WrittenSo committed lines these old now) (no-more none) so)

    module _ (some : (length writes == 0) ≡ false) (fits : PoolFits now.directory now.pool) (below : page < page_count old.directory) where
      pub undone-step : committed ≡ false → next ≡ record now { pool = page_undone now.pool page writes } → WrittenSo committed lines (written_in lines (take (at + 1) pages)) old next
      undone-step not went = subst (λ (these : List ℕ). WrittenSo committed lines these old next) (one-more some)
          (written-undone lines old (written_in lines (take at pages)) now next page fits below so.rest not (went ∙ (λ i. record now { pool = page_undone now.pool page (is i) })) so)

      pub settled-step : committed ≡ true → next ≡ record now { pool = settled now.pool page writes } → WrittenSo committed lines (written_in lines (take (at + 1) pages)) old next
      settled-step here went = subst (λ (these : List ℕ). WrittenSo committed lines these old next) (one-more some)
          (written-settled lines old (written_in lines (take at pages)) now next page fits below so.rest here (went ∙ (λ i. record now { pool = settled now.pool page (is i) })) so)
