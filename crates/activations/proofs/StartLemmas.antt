-- An access that isn't permitted: where its serving begins, and what becomes of it first.
use Rattle.activations.proofs.Common.{pages_of, TurnEnd, ending_told, IsToServe, AreTouched, attempt_in, lines_with, HasEnded, AreWanted, instruction, resident-consistent, Reads, ◌≡◌, refl, ℕ, zero, suc, ◌+◌, ◌<◌, ◌==◌, nat_lt, if◌then◌else◌, Bool, true, false, List, [], ◌∷◌, ◌++◌, All, filter, length, map, Some, ap, sym, ◌∙◌, subst, eq-eqb, is_fine_page, has, size, Lines, no_lines, with_whole_pages, Request, Want, lines_wanted, Plain, On, row, touched, Pool, Desk, Active, with_active, rolled_back, conflicts_of, DiskWord, Counts, InFlight, Over, Fetched, Broken, Fine, Journal, Disk, fetches, touched_pages, refused_pages, gets, contest_ends, lines_written, AreAlike, AreWrittenMarked, IsState, requested, owners_told, over_all, by_number, kept_conflict, IsAmong, due_to, IsCurrent, IsOrderly, rolled-consistent, MayGoOn, contest, IsUnderWay, served_attempt, alike-then, alike-back, replaced, marked-mark, seat-told, told-replaced, IsContesting, free-gets, free-none, contest-begins, Seat, sitter, holders, AreOfPage, taken-below, is_line_marked, PoolKeeps, plain_over, Activity, live_in, program_in, entry_for, entry_in, entries, authority_under, number_under, request_for, store_over, desk_over, locks_in, request_in, state_in, shown, IsActivitySound, IsBeside, KeepsDesk, ComesToEnd, IsFree, IsContested, WereRefused, instruction_in, asking, with_other_pool, rolled, IsPoolMoved, RollsBack, IsWantApart, pages_refused, pages_wanted, with_whole_page, Authority, lines_of_access, Access, Ghosts, StoreView, IsClean, ReadFailed, Turning, TouchedLines, IsSeatSelected, IsLineShut, HasUndone, IsStoreOf, IsBrokenOff, HasBrokenOff, IsWanted, IsPrepared, IsFetched, counted_with, wants_of, each_refused, HasBroken, arith, found-among, size-alike, any-at, within-most, written-alike, false_from_ne_true, or-false, not-false, ◌-◌, ◌%◌, ◌≤◌, not, find, slice_index_or, Option, both_ways, eqb-true, and_parts, or_parts, not-true, has-append, has_left, page_of_line, grant_of, lets, unowned, Going, turns, permitted-told, number_in, is_granted, IsTurning, IsRolledBack, EndsServing}
use Rattle.desk_law.proofs.LinesThere.{fetches-none}
use Rattle.desk_law.proofs.ServesToLocks.{asked_for, serve-asks, serve-outcome, serve-journal, serve-within, serve-broken, serve-ready}
use mir.Val.{bool_byte}
use Rattle.activations.proofs.CommitLemmas.{told-kept}
use Rattle.activations.proofs.ContestLemmas.{orderly-other, holders-told}
use Rattle.activations.proofs.PoolLemmas.{moved-kept, moved-desk, moved-follows}
use Rattle.activations.proofs.GrantLemmas.{refused-are, picked-refused}
use Rattle.activations.proofs.HoldingLemmas.{asked-alike, whole-of-page, has-wanted}
use Rattle.activations.proofs.RowLemmas.{orderly-order}
use Rattle.activations.proofs.SittingLemmas.{by_seat, state-shows, sitter-there, sitter-other, number-there}
use Rattle.activations.proofs.EndingLemmas.{rolled-follows}
use Rattle.activations.proofs.TableLemmas.{permits-flat, stands-for}

module _ (a : Activity) (seat : ℕ) (committed : List ℕ) (order : List (ℕ × ℕ)) (counts : Counts) (wants : List Want) (next : Plain)
    (sound : IsActivitySound a) (taken : has a.seating.taken seat ≡ true) (runner : a.reach.runner ≡ seat + 1) (follows : KeepsDesk a committed)
    (went : row (program_in a seat) a.reach.directory (plain_over committed (live_in a seat).cpu a.reach (live_in a seat).out) ≡ On next)
    (touches : touched (program_in a seat) a.reach.directory (plain_over committed (live_in a seat).cpu a.reach (live_in a seat).out) ≡ lines_wanted wants) where
  abbrev desk : Desk
  desk = desk_over a committed order

  abbrev entry : Active
  entry = entry_in a seat

  here : IsAmong (entries a) entry
  here = seat-told a.seating.taken (entry_in a) seat taken

  abbrev now : Plain
  now = over_all (state_in a seat) (follows.kept.stand seat taken).bytes

  goes : row entry.runs.program a.reach.directory (over_all now (shown a committed)) ≡ On next
  goes = ap (row (program_in a seat) a.reach.directory) (state-shows a seat committed (follows.kept.stand seat taken).bytes runner) ∙ went

  -- the instruction under way
  abbrev pub attempt : InFlight
  attempt = served_attempt desk entry now (shown a committed)

  pub lines-are : attempt.lines ≡ lines_wanted wants
  lines-are = ap (touched (program_in a seat) a.reach.directory) (state-shows a seat committed (follows.kept.stand seat taken).bytes runner) ∙ touches

  orderly : IsOrderly desk
  orderly = orderly-order a committed order follows.orderly

  pub outcome : (own : Plain) × (attempt.outcome ≡ On own)
  outcome = serve-outcome desk counts entry now next (shown a committed) orderly here (follows.kept.stand seat taken).at goes

  abbrev pub written : ℕ
  written = size ((locks_in a seat).writes ++ (lines_wanted wants).writes)

  -- too many lines: it is rolled back
  pub journal : (pool : Pool) → RollsBack a seat pool committed → nat_lt a.most_lines written ≡ true → ComesToEnd (instruction_in a seat committed order counts) (rolled a seat pool) committed order counts (Journal written a.most_lines)
  journal pool rolls over = record {
    comes = λ word reads.
        serve-journal desk counts entry now next (shown a committed) orderly here (follows.kept.stand seat taken).at goes (locks_in a seat) (follows.kept.held seat taken)
        (ap (λ (l : Lines). nat_lt a.most_lines (size ((locks_in a seat).writes ++ l.writes))) lines-are ∙ over) word
        ∙ (λ i. Over (sym (rolls.desk order) i) counts (Journal (size ((locks_in a seat).writes ++ (lines-are i).writes)) a.most_lines));
    follows = record {
      orderly = orderly-other (rolled a seat pool) committed order (subst IsOrderly (sym (rolls.desk order)) (rolled-consistent desk entry orderly));
      kept = rolls.kept;
    };
  }

  module _ (under : nat_lt a.most_lines written ≡ false) where
    within : nat_lt a.most_lines (lines_written attempt desk) ≡ false
    within =
        serve-within desk counts entry now next (shown a committed) orderly here (follows.kept.stand seat taken).at goes (locks_in a seat) (follows.kept.held seat taken)
        (ap (λ (l : Lines). nat_lt a.most_lines (size ((locks_in a seat).writes ++ l.writes))) lines-are ∙ under)

    -- a page can't be read: it is rolled back, and nothing is resident
    pub breaks : (word : DiskWord) (counted : ℕ) → fetches word desk.frames (touched_pages attempt) (touched_pages attempt) desk.resident counts.pages ≡ Broken counted
        → instruction_in a seat committed order counts word ≡ Over (record (rolled_back desk entry) { resident = [] }) (record counts { pages = counted }) Disk
    breaks word counted fails = serve-broken desk counts entry now next (shown a committed) orderly here (follows.kept.stand seat taken).at goes within word counted fails

    module _ (pool : Pool) (counted : ℕ) (moved : IsPoolMoved a.reach.pool pool) (keeps : PoolKeeps a.reach.directory a.reach.pool pool committed)
        (fetched : fetches Fine desk.frames (touched_pages attempt) (touched_pages attempt) desk.resident counts.pages ≡ Fetched pool.resident counted)
        (pages : touched_pages attempt ≡ pages_wanted wants) (apart : All (IsWantApart wants) wants) (sets : AreOfPage wants) where
      abbrev there : Activity
      there = with_other_pool a pool

      abbrev refused : List ℕ
      refused = pages_refused a.reach.entries (seat + 1) wants

      abbrev pub more : Counts
      more = record counts { pages = counted; locks = counts.locks + length refused }

      refused-is : refused_pages attempt desk ≡ refused
      refused-is = refused-are a seat committed order attempt wants sound follows.orderly.active.ascend taken refl lines-are pages apart sets

      asked : AreAlike (asked_for a.reach.directory attempt) (lines_wanted (map (with_whole_page a.reach.directory) wants))
      asked = subst (λ (l : Lines). AreAlike (with_whole_pages (is_fine_page a.reach.directory) l) (lines_wanted (map (with_whole_page a.reach.directory) wants))) (sym lines-are) (alike-back (lines_wanted (map (with_whole_page a.reach.directory) wants)) (with_whole_pages (is_fine_page a.reach.directory) (lines_wanted wants)) (asked-alike a.reach.directory wants sets))

      holders-are : holders a.seating seat (map (with_whole_page a.reach.directory) wants)
          ≡ map (λ (other : Active). other.number) (filter (kept_conflict (asked_for a.reach.directory attempt) (by_number a.seating.taken (entry_in a) (locks_in a) no_lines) entry.number) (entries a))
      holders-are = holders-told a sound seat (map (with_whole_page a.reach.directory) wants) (asked_for a.reach.directory attempt) taken (whole-of-page a.reach.directory wants sets) asked

      desk-there : record desk { resident = pool.resident } ≡ desk_over there committed order
      desk-there = sym (moved-desk a pool committed order moved)

      were-refused : WereRefused attempt refused (desk_over there committed order)
      were-refused = record { once = desk.authority; are = refused-is; keeps = λ page own. refl }

      -- nobody holds what it asks for
      pub free : holders a.seating seat (map (with_whole_page a.reach.directory) wants) ≡ [] → IsFree (instruction_in a seat committed order counts) attempt refused there committed order more
      free none = record {
        comes = λ word reads.
            free-gets desk counts entry now next (shown a committed) orderly here (follows.kept.stand seat taken).at goes within
            (by_number a.seating.taken (entry_in a) (locks_in a) no_lines) (by_number a.seating.taken (entry_in a) (request_in a) no_lines) (by_number a.seating.taken (entry_in a) (state_in a) (state_in a 16))
            (told-kept a committed sound follows.kept) pool.resident counted fetched (sym holders-are ∙ none) word reads
            ∙ (λ i. gets word attempt (refused-is i) (desk-there i) (record counts { pages = counted; locks = counts.locks + length (refused-is i) }));
        free = subst (λ (d : Desk). conflicts_of d entry ≡ []) desk-there
            (free-none desk counts entry now next (shown a committed) orderly here (follows.kept.stand seat taken).at goes within
            (by_number a.seating.taken (entry_in a) (locks_in a) no_lines) (by_number a.seating.taken (entry_in a) (request_in a) no_lines) (by_number a.seating.taken (entry_in a) (state_in a) (state_in a 16))
            (told-kept a committed sound follows.kept) pool.resident counted fetched (sym holders-are ∙ none));
        were = were-refused;
        ready = subst (MayGoOn attempt) desk-there (serve-ready desk counts entry now next (shown a committed) orderly here (follows.kept.stand seat taken).at goes within pool.resident);
        follows = moved-follows a pool committed sound moved keeps follows;
      }

      -- with its pages there it is the same instruction
      pub again : ((page : ℕ) → has (touched_pages attempt) page ≡ true → has pool.resident page ≡ true) → (word : DiskWord) → Reads word counted
          → instruction_in a seat committed order counts word ≡ instruction_in there seat committed order (record counts { pages = counted }) word
      again resident word reads =
          serve-asks desk counts entry now next (shown a committed) orderly here (follows.kept.stand seat taken).at goes within
          (by_number a.seating.taken (entry_in a) (locks_in a) no_lines) (by_number a.seating.taken (entry_in a) (request_in a) no_lines) pool.resident counted (told-kept a committed sound follows.kept).kept fetched word reads
          ∙ sym
          (serve-asks (record desk { resident = pool.resident }) (record counts { pages = counted }) entry now next (shown a committed) (resident-consistent desk pool.resident orderly) here (follows.kept.stand seat taken).at goes within
          (by_number a.seating.taken (entry_in a) (locks_in a) no_lines) (by_number a.seating.taken (entry_in a) (request_in a) no_lines) pool.resident counted (told-kept a committed sound follows.kept).kept
          (fetches-none Fine desk.frames (touched_pages attempt) (touched_pages attempt) pool.resident counted resident) word reads)
          ∙ ap (λ (d : Desk). instruction word (Some entry) d (record counts { pages = counted })) desk-there

      -- somebody does: it waits, and its contest begins
      module _ (request : Request) (asks : request.wants.items ≡ map (with_whole_page a.reach.directory) wants) (holder : ℕ) (others : List ℕ)
          (some : holders a.seating seat (map (with_whole_page a.reach.directory) wants) ≡ holder ∷ others) where
        abbrev waits : Activity
        waits = asking there seat request

        abbrev marked_entry : Active
        marked_entry = record entry { waiting = true }

        abbrev tables : ℕ → Lines
        tables at = if at == entry.number then asked_for a.reach.directory attempt else by_number a.seating.taken (entry_in a) (request_in a) no_lines at

        mine : (entry.number == entry.number) ≡ true
        mine = eq-eqb entry.number entry.number refl

        begun : IsContesting (instruction_in a seat committed order counts) attempt (refused_pages attempt desk)
            (record desk { resident = pool.resident }) (with_active (record desk { resident = pool.resident }) marked_entry)
            (record counts { pages = counted; locks = counts.locks + length (refused_pages attempt desk) })
            (by_number a.seating.taken (entry_in a) (locks_in a) no_lines) tables (by_number a.seating.taken (entry_in a) (state_in a) (state_in a 16)) (shown a committed)
        begun =
            contest-begins desk counts entry now next (shown a committed) orderly here (follows.kept.stand seat taken).at goes within
            (by_number a.seating.taken (entry_in a) (locks_in a) no_lines) (by_number a.seating.taken (entry_in a) (request_in a) no_lines) (by_number a.seating.taken (entry_in a) (state_in a) (state_in a 16))
            (told-kept a committed sound follows.kept) pool.resident counted fetched holder others tables (sym holders-are ∙ some)
            (ap (λ (b : Bool). if b then asked_for a.reach.directory attempt else by_number a.seating.taken (entry_in a) (request_in a) no_lines entry.number) mine)
            (record { kept = λ at differs. ap (λ (b : Bool). if b then asked_for a.reach.directory attempt else by_number a.seating.taken (entry_in a) (request_in a) no_lines at) differs })

        abbrev waiter : Seat
        waiter = record (sitter a.seating seat) { waits = Some request }

        sits : sitter waits.seating seat ≡ waiter
        sits = sitter-there a.seating seat waiter sound.seating.sixteen (taken-below a.seating sound.seating seat taken)

        entry-waits : entry_in waits seat ≡ marked_entry
        entry-waits = ap (entry_for a.programs) sits

        entry-others : (at : ℕ) → (at == seat) ≡ false → entry_in waits at ≡ entry_in a at
        entry-others at differs = ap (entry_for a.programs) (sitter-other a.seating seat waiter at differs)

        entries-wait : entries waits ≡ replaced marked_entry (entries a)
        entries-wait = told-replaced a.seating.taken (entry_in a) (entry_in waits) seat
            (λ at inside. ap (λ (e : Active). (entry_in a at).number == e.number) entry-waits ∙ sound.seats.apart at seat inside taken) entry-others
            ∙ ap (λ (e : Active). replaced e (entries a)) entry-waits

        under-at : (tid : ℕ) → number_under waits tid ≡ number_under a tid
        under-at zero = refl
        under-at (suc at) = number-there a.seating seat waiter sound.seating.sixteen (taken-below a.seating sound.seating seat taken) refl at

        desk-waits : with_active (record desk { resident = pool.resident }) marked_entry ≡ desk_over waits committed order
        desk-waits i = record desk {
          frames = sym moved.frames i;
          active = sym entries-wait i;
          resident = pool.resident;
          authority = owners_told (λ tid. sym (under-at tid) i) (authority_under a.reach.entries);
        }

        kept-there : IsBeside there committed
        kept-there = moved-kept a pool committed sound moved keeps follows.kept

        marked-among : IsAmong (replaced marked_entry (entries a)) marked_entry
        marked-among = subst (IsAmong (replaced marked_entry (entries a))) entry-waits (subst (λ (these : List Active). IsAmong these (entry_in waits seat)) entries-wait (seat-told a.seating.taken (entry_in waits) seat taken))

        kept-waits : IsBeside waits committed
        kept-waits = record {
          long = kept-there.long;
          held = by_seat {P = λ at. AreAlike (locks_in a at) (due_to (store_over a committed) (entry_in waits at))} a.seating.taken seat
              (subst (λ (e : Active). AreAlike (locks_in a seat) (due_to (store_over a committed) e)) (sym entry-waits) (kept-there.held seat taken))
              (λ at inside differs. subst (λ (e : Active). AreAlike (locks_in a at) (due_to (store_over a committed) e)) (sym (entry-others at differs)) (kept-there.held at inside));
          asked = by_seat {P = λ at. (entry_in waits at).waiting ≡ true → AreAlike (request_in waits at) (requested (store_over a committed) (entry_in waits at))} a.seating.taken seat
              (λ waiting.
              subst (λ (e : Active). AreAlike (request_in waits seat) (requested (store_over a committed) e)) (sym entry-waits)
              (subst (λ (who : Seat). AreAlike (request_for who) (requested (store_over a committed) marked_entry)) (sym sits)
              (subst (λ (l : Lines). AreAlike l (requested (store_over a committed) marked_entry)) (ap lines_wanted (sym asks))
              (alike-then (lines_wanted (map (with_whole_page a.reach.directory) wants)) (asked_for a.reach.directory attempt) (requested (store_over a committed) marked_entry)
              (alike-back (asked_for a.reach.directory attempt) (lines_wanted (map (with_whole_page a.reach.directory) wants)) asked)
              (subst (λ (l : Lines). AreAlike l (requested (store_over a committed) marked_entry))
              (ap (λ (b : Bool). if b then asked_for a.reach.directory attempt else by_number a.seating.taken (entry_in a) (request_in a) no_lines entry.number) mine)
              (begun.told.kept.asked marked_entry marked-among refl))))))
              (λ at inside differs waiting.
              subst (λ (e : Active). AreAlike (request_in waits at) (requested (store_over a committed) e)) (sym (entry-others at differs))
              (subst (λ (who : Seat). AreAlike (request_for who) (requested (store_over a committed) (entry_in a at))) (sym (sitter-other a.seating seat waiter at differs))
              (kept-there.asked at inside (sym (ap (λ (e : Active). e.waiting) (entry-others at differs)) ∙ waiting))));
          stand = by_seat {P = λ at. IsState (store_over a committed) (entry_in waits at) (state_in there at)} a.seating.taken seat
              (subst (λ (e : Active). IsState (store_over a committed) e (state_in there seat)) (sym entry-waits) (remarked (kept-there.stand seat taken)))
              (λ at inside differs. subst (λ (e : Active). IsState (store_over a committed) e (state_in there at)) (sym (entry-others at differs)) (kept-there.stand at inside));
          is_current =
              subst (λ (these : List Active). IsCurrent (store_over a committed) these (shown there committed)) (sym entries-wait)
              (subst (IsCurrent (store_over a committed) (replaced marked_entry (entries a))) (sym keeps.same) begun.told.is_current);
          marked =
              subst (λ (these : List Active). AreWrittenMarked (store_over a committed) these (is_line_marked pool)) (sym entries-wait)
              (marked-mark (store_over a committed) a.most_lines a.next (entries a) follows.orderly.active (is_line_marked pool) kept-there.marked entry true here);
          clean = kept-there.clean;
        }
          where
            remarked : IsState (store_over a committed) entry (state_in there seat) → IsState (store_over a committed) marked_entry (state_in there seat)
            remarked is = record { bytes = is.bytes; at = is.at }

        pub contested : IsContested (instruction_in a seat committed order counts) attempt refused (desk_over there committed order) waits committed order more
        contested = record {
          comes = λ word reads.
              begun.comes word reads
              ∙ (λ i. contest_ends word attempt (refused-is i) (contest entry.number (desk-waits i) (record counts { pages = counted; locks = counts.locks + length (refused-is i) })));
          ready = subst (MayGoOn attempt) desk-there begun.ready;
          were = were-refused;
          under_way = subst (λ (d : Desk). IsUnderWay d (desk_over waits committed order) marked_entry) desk-there
              (subst (λ (d : Desk). IsUnderWay (record desk { resident = pool.resident }) d marked_entry) desk-waits begun.under_way);
          kept = kept-waits;
        }

-- The lines that a row touches, told page by page, are those of the instruction under way.
pub are-touched : (a : Activity) (seat : ℕ) (committed : List ℕ) (order : List (ℕ × ℕ)) (wants : List Want) (next : Plain) (to : IsToServe a seat committed wants next)
    → AreWanted a.reach.directory wants → AreTouched (attempt_in a seat committed order wants next to) wants
are-touched a seat committed order wants next to wanted = record {
  pages = ap (λ (l : Lines). pages_of (l.reads ++ l.writes))
      (lines-are a seat committed order (record { ran = 0; pages = 0; locks = 0; cycles = [] }) wants next to.sound to.taken to.runner to.follows to.goes to.touches)
      ∙ sym wanted.pages;
  apart = wanted.apart;
  sets = wanted.sets;
}

-- Past the limit who sits in the seat is rolled back, and the turn ends with that.
pub over-limit : (a now : Activity) (seat : ℕ) (wants : List Want) (end : TurnEnd) → now ≡ rolled a seat now.reach.pool
    → IsRolledBack a seat now.reach.pool
    → nat_lt a.most_lines (lines_with a seat wants) ≡ true → end ≡ TurnEnd.Journal (lines_with a seat wants) a.most_lines
    → EndsServing seat wants a now end
over-limit a now seat wants end shape rolls over is committed order counts next to =
    subst (λ (how : TurnEnd). HasEnded how (instruction_in a seat committed order counts) now committed order counts) (sym is)
    (λ printed.
    subst (λ (left : Activity). ComesToEnd (instruction_in a seat committed order counts) left committed order counts (ending_told (TurnEnd.Journal (lines_with a seat wants) a.most_lines) printed)) (sym shape)
    (journal a seat committed order counts wants next to.sound to.taken to.runner to.follows to.goes to.touches now.reach.pool (rolls committed to.follows.orderly.active to.follows.kept) over))

-- A page couldn't be read, from where frames had other pages, and then who sits in a seat was rolled back.
module _ {W : Type 0} (G : Ghosts W) (store : StoreView) (outside : W) (old : Activity) (seat : ℕ) (pages : List ℕ) (before : ℕ) (new : Activity) (after : ℕ) where
  pub broken-off : (mid : Activity) → mid ≡ with_other_pool old mid.reach.pool → new ≡ rolled mid seat new.reach.pool
      → HasUndone mid.seating.holding seat mid.reach (record mid.reach { pool = new.reach.pool })
      → IsRolledBack mid seat new.reach.pool
      → ((committed : List ℕ) (order : List (ℕ × ℕ)) → IsStoreOf G store outside committed → IsClean old.reach.directory old.reach.pool committed → IsBrokenOff old committed order pages before mid.reach.pool after)
      → HasBrokenOff G store outside old seat pages before new after
  broken-off mid moved shape undone rolls off = record {
    pool = mid.reach.pool;
    shape = shape ∙ ap (λ (a : Activity). rolled a seat new.reach.pool) moved;
    undone = subst (λ (a : Activity). HasUndone a.seating.holding seat a.reach (record a.reach { pool = new.reach.pool })) moved undone;
    rolls = subst (λ (a : Activity). IsRolledBack a seat new.reach.pool) moved rolls;
    off = off;
  }

  -- What began by then and was to come to that end comes to it, and what is left follows the desk after it.
  pub broke-ends : (begins : DiskWord → Turning) (committed : List ℕ) (order : List (ℕ × ℕ)) (counts : Counts) → IsActivitySound old → KeepsDesk old committed → IsStoreOf G store outside committed
      → HasBrokenOff G store outside old seat pages before new after
      → begins (ReadFailed after) ≡ Over (record (rolled_back (desk_over old committed order) (entry_in old seat)) { resident = [] }) (record counts { pages = after }) Disk
      → HasBroken begins new committed order (record counts { pages = after })
  broke-ends begins committed order counts sound follows is broke ends =
      let there : Activity = with_other_pool old broke.pool in
      let off : IsBrokenOff old committed order pages before broke.pool after = broke.off committed order is follows.kept.clean in
      let follows-there : KeepsDesk there committed = moved-follows old broke.pool committed sound off.moved off.keeps follows in
      let rolls : RollsBack there seat new.reach.pool committed = broke.rolls committed follows.orderly.active follows-there.kept in
      let desk : record (rolled_back (desk_over old committed order) (entry_in old seat)) { resident = [] } ≡ desk_over new committed order =
      ap (λ (those : List ℕ). rolled_back (record (desk_over old committed order) { resident = those }) (entry_in old seat)) (sym off.none)
      ∙ ap (λ (d : Desk). rolled_back d (entry_in old seat)) (sym (moved-desk old broke.pool committed order off.moved))
      ∙ sym (rolls.desk order) ∙ ap (λ (a : Activity). desk_over a committed order) (sym broke.shape) in
      record {
        comes = ends ∙ ap (λ (d : Desk). Over d (record counts { pages = after }) Disk) desk;
        follows = subst (λ (a : Activity). KeepsDesk a committed) (sym broke.shape) (rolled-follows there seat new.reach.pool committed follows-there rolls);
      }

-- the next row of who sits in a seat is shut, so its access is to be served
pub is-to-serve : (a : Activity) (seat : ℕ) (access : Access) (wants : List Want) → IsActivitySound a → has a.seating.taken seat ≡ true → IsSeatSelected a seat → IsLineShut a seat access
    → lines_wanted wants ≡ lines_of_access (program_in a seat) a.reach.directory access → (committed : List ℕ) → KeepsDesk a committed → (next : Plain) × IsToServe a seat committed wants next
is-to-serve a seat access wants sound taken selected shut lines committed follows =
    let out = shut.shut committed follows.kept.long in
    (out.next, record { sound = sound; taken = taken; runner = selected.runner; follows = follows; goes = out.goes; touches = out.touches ∙ sym lines })

-- as many pages are refused as are marked
pub count-refused : (owned : List Authority) (tid : ℕ) (touch : TouchedLines)
    → bool_byte (each_refused owned tid touch).0 + bool_byte (each_refused owned tid touch).1 ≡ length (pages_refused owned tid (wants_of touch))
count-refused owned tid TouchedLines.Nothing = refl
count-refused owned tid (TouchedLines.One want) = grind arith
count-refused owned tid (TouchedLines.Two first second) = grind arith

-- An access that is to be served, within the limit.
module _ (a : Activity) (seat : ℕ) (committed : List ℕ) (order : List (ℕ × ℕ)) (counts : Counts) (touch : TouchedLines) (next : Plain) (to : IsToServe a seat committed (wants_of touch) next)
    (wanted : AreWanted a.reach.directory (wants_of touch)) (under : nat_lt a.most_lines (lines_with a seat (wants_of touch)) ≡ false) where
  are : AreTouched (attempt_in a seat committed order (wants_of touch) next to) (wants_of touch)
  are = are-touched a seat committed order (wants_of touch) next to wanted

  -- a page couldn't be read
  pub prepare-broke : {W : Type 0} (G : Ghosts W) (store : StoreView) (outside : W) (new : Activity) (after : ℕ) → IsStoreOf G store outside committed
      → HasBrokenOff G store outside a seat (pages_wanted (wants_of touch)) counts.pages new after
      → HasBroken (instruction_in a seat committed order counts) new committed order (record counts { pages = after })
  prepare-broke G store outside new after is broke =
      broke-ends G store outside a seat (pages_wanted (wants_of touch)) counts.pages new after (instruction_in a seat committed order counts) committed order counts to.sound to.follows is broke
      (breaks a seat committed order counts (wants_of touch) next to.sound to.taken to.runner to.follows to.goes to.touches under (ReadFailed after) after
      (ap (λ (these : List ℕ). fetches (ReadFailed after) (desk_over a committed order).frames these these (desk_over a committed order).resident counts.pages) are.pages
      ∙ (broke.off committed order is to.follows.kept.clean).broken))

  -- its pages came in
  module _ (pool : Pool) (after : ℕ) (fetched : IsFetched a committed order (pages_wanted (wants_of touch)) counts.pages pool after) where
    came : IsFetched a committed order (touched_pages (attempt_in a seat committed order (wants_of touch) next to)) counts.pages pool after
    came = subst (λ (these : List ℕ). IsFetched a committed order these counts.pages pool after) (sym are.pages) fetched

    pub prepared : IsPrepared (instruction_in a seat committed order counts) (with_other_pool a pool) seat touch (each_refused a.reach.entries (seat + 1) touch) committed order (counted_with counts after (pages_refused a.reach.entries (seat + 1) (wants_of touch)))
    prepared =
        let own = outcome a seat committed order counts (wants_of touch) next to.sound to.taken to.runner to.follows to.goes to.touches in
        record {
          attempt = attempt_in a seat committed order (wants_of touch) next to;
          next = own.0;
          goes = own.1;
          lines = lines-are a seat committed order counts (wants_of touch) next to.sound to.taken to.runner to.follows to.goes to.touches;
          asked = subst (λ (those : List ℕ). IsWanted (instruction_in a seat committed order counts) (attempt_in a seat committed order (wants_of touch) next to) those (with_other_pool a pool) seat (wants_of touch) committed order (counted_with counts after (pages_refused a.reach.entries (seat + 1) (wants_of touch))))
              (sym (picked-refused a.reach.entries (seat + 1) touch))
              (record {
                number = refl;
                free = λ none.
                    free a seat committed order counts (wants_of touch) next to.sound to.taken to.runner to.follows to.goes to.touches under pool after came.moved came.keeps came.fetched are.pages are.apart are.sets none;
                contested = λ request holder others asks some.
                    contested a seat committed order counts (wants_of touch) next to.sound to.taken to.runner to.follows to.goes to.touches under pool after came.moved came.keeps came.fetched are.pages are.apart are.sets request asks holder others some;
              });
        }

    -- so it is prepared, with what is left and what was counted told
    pub prepared-so : (new : Activity) (marks : Bool × Bool) (one other : ℕ) → new ≡ with_other_pool a pool → marks ≡ each_refused new.reach.entries (seat + 1) touch
        → one ≡ bool_byte marks.0 → other ≡ bool_byte marks.1
        → IsPrepared (instruction_in a seat committed order counts) new seat touch marks committed order (record counts { pages = after; locks = counts.locks + (one + other) })
    prepared-so new marks one other shape is first second =
        let same : marks ≡ each_refused a.reach.entries (seat + 1) touch = is ∙ ap (λ (left : Activity). each_refused left.reach.entries (seat + 1) touch) shape in
        let many : one + other ≡ length (pages_refused a.reach.entries (seat + 1) (wants_of touch)) =
        (λ i. first i + second i) ∙ ap (λ (marked : Bool × Bool). bool_byte marked.0 + bool_byte marked.1) same ∙ count-refused a.reach.entries (seat + 1) touch in
        subst (λ (left : Activity). IsPrepared (instruction_in a seat committed order counts) left seat touch marks committed order (record counts { pages = after; locks = counts.locks + (one + other) })) (sym shape)
        (subst (λ (marked : Bool × Bool). IsPrepared (instruction_in a seat committed order counts) (with_other_pool a pool) seat touch marked committed order (record counts { pages = after; locks = counts.locks + (one + other) })) (sym same)
        (subst (λ (n : ℕ). IsPrepared (instruction_in a seat committed order counts) (with_other_pool a pool) seat touch (each_refused a.reach.entries (seat + 1) touch) committed order (record counts { pages = after; locks = counts.locks + n })) (sym many)
        prepared))

-- what a granted touch writes is let
writes-let : (owned : List Authority) (tid : ℕ) (touch : TouchedLines) → AreOfPage (wants_of touch) → is_granted owned tid touch ≡ true → (line : ℕ) → has (lines_wanted (wants_of touch)).writes line ≡ true
    → lets (grant_of (slice_index_or owned (page_of_line line) unowned)) tid (line % 16) true ≡ true
writes-let owned tid (TouchedLines.One want) sets granted line inside =
    let there = and_parts (want.page == page_of_line line) (has want.writes (line % 16)) (sym (or-false _) ∙ sym (has-wanted (λ w. w.writes) (want ∷ []) line sets.writes) ∙ inside) in
    let none = (or_parts _ _ (not-true _ granted)).1 in
    subst (λ (page : ℕ). lets (grant_of (slice_index_or owned page unowned)) tid (line % 16) true ≡ true) (eqb-true want.page (page_of_line line) there.0)
    (not-false _ (false_from_ne_true _ (λ refused. both_ways _ none (any-at (λ x. not (lets (grant_of (slice_index_or owned want.page unowned)) tid x true)) want.writes (line % 16) there.1 refused))))
writes-let owned tid touch sets granted line inside = absurd (cc)

-- an instruction of a turn that is the same from another desk
turns-same : (word : DiskWord) (left : ℕ) (desk later : Desk) (counts more : Counts) (entry : Active) → find (λ (other : Active). other.number == entry.number) desk.active ≡ Some entry
    → later.active ≡ desk.active → instruction word (Some entry) desk counts ≡ instruction word (Some entry) later more
    → turns word entry.number (suc left) (Going desk counts) ≡ turns word entry.number (suc left) (Going later more)
unfolding turns
turns-same word left desk later counts more entry found active same =
    ap (λ (one : Option Active). turns word entry.number left (instruction word one desk counts)) found
    ∙ ap (turns word entry.number left) same
    ∙ ap (λ (one : Option Active). turns word entry.number left (instruction word one later more)) (sym (ap (find (λ (other : Active). other.number == entry.number)) active ∙ found))

module _ (a : Activity) (seat : ℕ) (committed : List ℕ) (order : List (ℕ × ℕ)) (touch : TouchedLines) (next : Plain) (to : IsToServe a seat committed (wants_of touch) next)
    (wanted : AreWanted a.reach.directory (wants_of touch)) (granted : is_granted a.reach.entries (seat + 1) touch ≡ true) where
  abbrev due : Lines
  due = due_to (store_over a committed) (entry_in a seat)

  -- all that it writes it holds to write
  writes-held : (line : ℕ) → has (lines_wanted (wants_of touch)).writes line ≡ true → has due.writes line ≡ true
  writes-held line inside =
      (to.follows.orderly.held.covered (page_of_line line) (entry_in a seat) (seat-told a.seating.taken (entry_in a) seat to.taken)).stores line refl
      (permitted-told (number_under a) refl (seat + 1) (sitter a.seating seat).number (authority_under a.reach.entries) (page_of_line line) line true
      (stands-for a to.sound committed to.follows.orderly.active.ascend seat to.taken)
      ∙ permits-flat a.reach.entries line (seat + 1) true
      ∙ writes-let a.reach.entries (seat + 1) touch wanted.sets granted line inside)

  -- so it writes no more lines than before
  pub under : nat_lt a.most_lines (lines_with a seat (wants_of touch)) ≡ false
  under = ap (nat_lt a.most_lines)
      (written-alike (locks_in a seat) due (lines_wanted (wants_of touch)) (to.follows.kept.held seat to.taken)
      ∙ size-alike (due.writes ++ (lines_wanted (wants_of touch)).writes) due.writes
      (record {
        among = λ line inside. let new = writes-held line in let split = has-append due.writes (lines_wanted (wants_of touch)).writes line in grind (arith, split, inside, new);
      })
      (record { among = λ line inside. has_left due.writes (lines_wanted (wants_of touch)).writes line inside }))
      ∙ within-most (desk_over a committed []) (entry_in a seat) to.follows.orderly (seat-told a.seating.taken (entry_in a) seat to.taken)

  -- Its page came in.
  pub turn-back : (begins : DiskWord → Turning) (left : ℕ) (counts : Counts) (pool : Pool) (after : ℕ) → 0 < left → counts.pages ≤ after → IsFetched a committed order (pages_wanted (wants_of touch)) counts.pages pool after
      → ((page : ℕ) → has (pages_wanted (wants_of touch)) page ≡ true → has pool.resident page ≡ true)
      → IsTurning begins a seat left committed order counts → IsTurning begins (with_other_pool a pool) seat left committed order (record counts { pages = after })
  turn-back begins left counts pool after some grows fetched resident turning =
      let are = are-touched a seat committed order (wants_of touch) next to wanted in
      let came = subst (λ (these : List ℕ). IsFetched a committed order these counts.pages pool after) (sym are.pages) fetched in
      record {
        comes = λ word reads.
            turning.comes word (λ page few. reads page (omega (arith, few, grows)))
            ∙ ap (λ (n : ℕ). turns word (number_in a.seating seat) n (Going (desk_over a committed order) counts)) (omega (arith, some))
            ∙ turns-same word (left - 1) (desk_over a committed order) (desk_over (with_other_pool a pool) committed order) counts (record counts { pages = after }) (entry_in a seat)
            (found-among a.next (entries a) (entry_in a seat) to.follows.orderly.active.ascend (seat-told a.seating.taken (entry_in a) seat to.taken)) refl
            (again a seat committed order counts (wants_of touch) next to.sound to.taken to.runner to.follows to.goes to.touches under pool after came.moved came.keeps came.fetched are.pages are.apart are.sets
            (λ page inside. resident page (subst (λ (these : List ℕ). has these page ≡ true) are.pages inside)) word reads)
            ∙ ap (λ (n : ℕ). turns word (number_in a.seating seat) n (Going (desk_over (with_other_pool a pool) committed order) (record counts { pages = after }))) (omega (arith, some));
        follows = moved-follows a pool committed to.sound fetched.moved fetched.keeps turning.follows;
      }
