-- A commit.
use Rattle.activations.proofs.Common.{◌≡◌, ℕ, ◌%◌, ◌<◌, ◌&&◌, not, Bool, true, List, [], ◌∷◌, ◌++◌, length, slice_index, Some, ap, sym, ◌∙◌, subst, length-map-range_with_len, Layout, byte_count, page_count, FlatStore, line_of, line-bytes-pos, has, Lines, page_of_line, no_lines, Plain, after, Pool, settled, Commit, row, Active, Counts, no_counts, AreAlike, AreWrittenMarked, IsState, IsTableTold, requested, by_number, over_all, committed_by, committed_at, IsAmong, due_to, IsCurrent, IsOrderly, place-laid, marked-commit, others, seat-told, told-seat, at-number, kept-seats, commit-ends, is_line_marked, bytes_over, byte_over, PoolFits, SettleKeeps, PoolKeeps, Activity, program_in, entry_in, entries, store_over, desk_over, locks_in, request_in, state_for, state_in, live_in, shown, IsActivitySound, IsBeside, KeepsDesk, wrote, AreWritten, WereSettled, rolled, HasCommittedAt, nat_tests, arith}
use Rattle.flat_machine.proofs.Agreement.{after-whole}
use Rattle.desk_law.proofs.EntriesEnd as law
use Rattle.activations.proofs.RollbackLemmas.{wrote-held, locks-left, of-held, of-then, settled-marks}
use Rattle.activations.proofs.RowLemmas.{orderly-order}
use Rattle.activations.proofs.TableLemmas.{stands-for, left-taken, entries-left, authority-left}

-- what is kept by seat, told by number
module _ (a : Activity) (committed : List ℕ) (sound : IsActivitySound a) (kept : IsBeside a committed) where
  pub told-kept : IsTableTold (store_over a committed) (entries a)
      (by_number a.seating.taken (entry_in a) (locks_in a) no_lines) (by_number a.seating.taken (entry_in a) (request_in a) no_lines)
      (by_number a.seating.taken (entry_in a) (state_in a) (state_in a 16)) (shown a committed)
  told-kept = record {
    kept = kept-seats (store_over a committed) a.seating.taken (entry_in a) (locks_in a) (request_in a) sound.seats kept.held kept.asked;
    stand = λ entry among.
        let (at, inside, is) = told-seat a.seating.taken (entry_in a) entry among in
        subst (λ (x : Active). IsState (store_over a committed) x (by_number a.seating.taken (entry_in a) (state_in a) (state_in a 16) x.number)) is
        (subst (IsState (store_over a committed) (entry_in a at)) (sym (at-number a.seating.taken (entry_in a) (state_in a) (state_in a 16) at sound.seats inside)) (kept.stand at inside));
    is_current = kept.is_current;
  }

-- one page more whose lines are marked no more
pub were-settled : (directory : Layout) (lines : ℕ → List ℕ) (pages : List ℕ) (old pool : Pool) → PoolFits directory pool → (page : ℕ) → page < page_count directory
    → WereSettled lines pages old pool → WereSettled lines (pages ++ page ∷ []) old (settled pool page (lines page))
were-settled directory lines pages old pool fits page below were = record {
  marks = λ line.
      let now = settled-marks directory pool fits page below (lines page) line in let more = of-then lines pages page line in grind (arith, now, were.marks line, more);
  rest = ap (λ (p : Pool). record p { marked = (settled pool page (lines page)).marked }) were.rest;
}

-- and nothing is seen of it where these lines are as committed
pub settled-unseen : SettleKeeps → (directory : Layout) (lines : ℕ → List ℕ) (old pool : Pool) (committed : List ℕ) → PoolFits directory pool → (page : ℕ) → page < page_count directory
    → ((place : ℕ) → place < byte_count directory → has (lines (page_of_line (line_of directory place))) (line_of directory place % 16) ≡ true
    → slice_index (bytes_over directory old committed) place ≡ slice_index committed place)
    → PoolKeeps directory old pool committed → PoolKeeps directory old (settled pool page (lines page)) committed
settled-unseen settle directory lines old pool committed fits page below as_committed keeps =
    let more = settle directory pool committed page (lines page) fits keeps.clean below
    (λ place within among.
    ap (λ (bytes : List ℕ). slice_index bytes place) keeps.same
    ∙ as_committed place within (grind (arith, nat_tests, among))) in
    record { same = more.same ∙ keeps.same; clean = more.clean }

module _ (a : Activity) (seat : ℕ) (pool : Pool) (pages : List ℕ) (committed : List ℕ) (now : Plain)
    (sound : IsActivitySound a) (taken : has a.seating.taken seat ≡ true) (follows : KeepsDesk a committed)
    (at : after (entry_in a seat).runs.program (entry_in a seat).runs.args (store_over a committed) (entry_in a seat).rows ≡ Some now)
    (call : row (program_in a seat) a.reach.directory (over_all now (shown a committed)) ≡ Commit) where
  abbrev store : FlatStore
  store = store_over a committed

  abbrev entry : Active
  entry = entry_in a seat

  here : IsAmong (entries a) entry
  here = seat-told a.seating.taken (entry_in a) seat taken

  -- what the commit call comes to
  pub ends : (order : List (ℕ × ℕ)) (counts : Counts) → law.Commits (desk_over a committed order) counts entry now
      (by_number a.seating.taken (entry_in a) (locks_in a) no_lines) (by_number a.seating.taken (entry_in a) (request_in a) no_lines)
      (by_number a.seating.taken (entry_in a) (state_in a) (state_in a 16)) (shown a committed)
  ends order counts = commit-ends (desk_over a committed order) counts entry now
      (by_number a.seating.taken (entry_in a) (locks_in a) no_lines) (by_number a.seating.taken (entry_in a) (request_in a) no_lines)
      (by_number a.seating.taken (entry_in a) (state_in a) (state_in a 16)) (shown a committed)
      (orderly-order a committed order follows.orderly) here at (told-kept a committed sound follows.kept) call

  first : law.Commits (desk_over a committed []) no_counts entry now
      (by_number a.seating.taken (entry_in a) (locks_in a) no_lines) (by_number a.seating.taken (entry_in a) (request_in a) no_lines)
      (by_number a.seating.taken (entry_in a) (state_in a) (state_in a 16)) (shown a committed)
  first = ends [] no_counts

  shown-long : length (shown a committed) ≡ byte_count a.reach.directory
  shown-long = length-map-range_with_len (byte_over a.reach.directory a.reach.pool committed) 0 (byte_count a.reach.directory)

  -- where it wrote, what is committed now is what all see
  pub wrote-seen : (place : ℕ) → place < byte_count a.reach.directory → has (wrote a seat (page_of_line (line_of a.reach.directory place))) (line_of a.reach.directory place % 16) ≡ true
      → slice_index (shown a committed) place ≡ slice_index now.store place
  wrote-seen place within wrote_it =
      sym (place-laid store (due_to store entry).writes (shown a committed) committed now.store (line-bytes-pos a.reach.directory) first.record_lines place
      (sym (wrote-held a seat (due_to (store_over a committed) (entry_in a seat)) sound (follows.kept.held seat taken) (line_of a.reach.directory place)) ∙ wrote_it))

  module _ (written : AreWritten a.seating.holding seat pages) (were : WereSettled (wrote a seat) pages a.reach.pool pool)
      (keeps : PoolKeeps a.reach.directory a.reach.pool pool now.store) (unseen : bytes_over a.reach.directory a.reach.pool now.store ≡ shown a committed) where
    abbrev left : Activity
    left = rolled a seat pool

    desk-is : (order : List (ℕ × ℕ)) → desk_over left now.store order ≡ committed_at (desk_over a committed order) entry now
    desk-is order i = record (desk_over a committed order) {
      frames = ap (λ (p : Pool). p.frames) were.rest i;
      committed = committed_by store now;
      active = entries-left a seat sound taken i;
      authority = authority-left a seat sound taken (stands-for a sound committed follows.orderly.active.ascend seat taken) i;
      resident = ap (λ (p : Pool). p.resident) were.rest i;
    }

    private-same : (at : ℕ) → state_in left at ≡ state_in a at
    private-same at = ap (λ (bytes : List ℕ). state_for (record a.reach.pool { bytes = bytes }) at (live_in a at)) (ap (λ (p : Pool). p.bytes) were.rest)

    kept-left : IsBeside left now.store
    kept-left = record {
      long = after-whole entry.runs.program entry.runs.args store entry.rows now follows.orderly.whole at;
      held = λ other inside.
          let (there, differs) = left-taken a seat sound taken other inside in
          subst (λ (l : Lines). AreAlike l (due_to (committed_by store now) (entry_in a other))) (sym (locks-left a seat pool sound other differs))
          (subst (λ (l : Lines). AreAlike l (due_to (committed_by store now) (entry_in a other))) (at-number a.seating.taken (entry_in a) (locks_in a) no_lines other sound.seats there)
          (first.told.kept.held (entry_in a other) (among-left other inside)));
      asked = λ other inside waits.
          let (there, differs) = left-taken a seat sound taken other inside in
          subst (λ (l : Lines). AreAlike l (requested (committed_by store now) (entry_in a other))) (at-number a.seating.taken (entry_in a) (request_in a) no_lines other sound.seats there)
          (first.told.kept.asked (entry_in a other) (among-left other inside) waits);
      stand = λ other inside.
          let (there, differs) = left-taken a seat sound taken other inside in
          subst (IsState (committed_by store now) (entry_in a other)) (at-number a.seating.taken (entry_in a) (state_in a) (state_in a 16) other sound.seats there ∙ sym (private-same other))
          (first.told.stand (entry_in a other) (among-left other inside));
      is_current =
          subst (λ (these : List Active). IsCurrent (committed_by store now) these (shown left now.store)) (sym (entries-left a seat sound taken))
          (subst (IsCurrent (committed_by store now) (others entry (entries a))) (sym (keeps.same ∙ unseen)) first.told.is_current);
      marked =
          subst (λ (these : List Active). AreWrittenMarked (committed_by store now) these (is_line_marked pool)) (sym (entries-left a seat sound taken))
          (marked-commit store a.most_lines a.next (entries a) follows.orderly.active (is_line_marked a.reach.pool) follows.kept.marked entry now (is_line_marked pool) follows.orderly.whole here at
          (λ line. were.marks line ∙ ap (λ (b : Bool). is_line_marked a.reach.pool line && not b) (of-held a seat pages (due_to (store_over a committed) (entry_in a seat)) sound (follows.kept.held seat taken) written line)));
      clean = keeps.clean;
    }
      where
        among-left : (other : ℕ) → has left.seating.taken other ≡ true → IsAmong (others entry (entries a)) (entry_in a other)
        among-left other inside = subst (λ (these : List Active). IsAmong these (entry_in a other)) (entries-left a seat sound taken) (seat-told left.seating.taken (entry_in a) other inside)

    pub commits-here : HasCommittedAt a seat pool committed now
    commits-here = record {
      desk = desk-is;
      follows = record {
        orderly = subst IsOrderly (sym (desk-is [])) (record { whole = first.consistent.whole; few = first.consistent.few; active = first.consistent.active; held = first.consistent.held; no_cycle = first.consistent.no_cycle });
        kept = kept-left;
      };
    }
