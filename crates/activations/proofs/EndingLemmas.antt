-- Nobody sits anywhere, as at first and as after a crash; and what a seat that is left leaves, once its written lines are forgotten or committed.
use Rattle.activations.proofs.Common.{◌≡◌, refl, ℕ, zero, suc, ◌+◌, ◌%◌, ◌<◌, if◌then◌else◌, Bool, true, false, List, [], ◌∷◌, length, map, replicate, slice_index, slice_index_or, Option, Some, None, range_with_len, option_map_or, ForSome, arith, ap, sym, ◌∙◌, subst, inl, inr, both_ways, nat_tests, same_number_lists, get_or_past, get_or-replicate, length-replicate, All-nil, All-replicate, get_or-map-range_with_len, length-map-range_with_len, Layout, byte_count, page_count, line_of, page_of, has, page_of_line, AreWithin, of_seat, no_lines_of, nothing_held, Authority, unowned, Program, Pool, frame_at, nobody, opened, restarted, owner_told, owners_told, IsCurrent, current-quiet, quiet-consistent, Seat, IsSeating, newcomer, nobody_sits, byte_in_frame, byte_over, is_line_marked, is_marked, PoolKeeps, Live, Activity, authority_at, flat_authority, authority_told, entry_in, number_under, store_over, desk_over, shown, idle, WereRolled, IsRestarted, IsActivitySound, IsBeside, KeepsDesk, IsIdentified, AreHeldOfPages, IsPoolMoved, with_other_pool, Grant, grant_of, Check, row, Desk, Counts, Over, Checked, IsState, over_all, IsOrderly, rolled-consistent, check-ends, plain_over, live_in, program_in, state_in, ComesToEnd, instruction_in, rolled, RollsBack, false_from_ne_true, ◌==◌, not, line-bytes-pos, has-filter, pool_emptied, IsSeen, Stays, Active, no_counts, due_to, place-kept, seat-told, among-any, taken-below, Reach, IsClean, bytes_over, private_bytes, PoolFits, emptied-stays, entries, HasUndone, HasSettled, IsDeserted, vacated, ◌≢◌, IsRolledBack, CommitsWherever, cases_lt}
use Rattle.storage_unit.proofs.CommitIsUnseen.{commit-is-unseen}
use Rattle.storage_unit.proofs.EmptyKeeps.{empty-keeps}
use Rattle.storage_unit.proofs.IncomingLemmas.{none-has, emptied-resident}
use Rattle.activations.proofs.PoolLemmas.{moved-follows}
use Rattle.activations.proofs.TableLemmas.{nobody-page, none-of-pages, sound-left}
use Rattle.activations.proofs.SittingLemmas.{state-shows, sound-beside}
use Rattle.activations.proofs.CommitLemmas.{ends, wrote-seen, commits-here}
use Rattle.activations.proofs.RollbackLemmas.{rolls-back}

at-replicate : {X : Type 0} (n k : ℕ) (x : X) → slice_index_or (replicate n x) k x ≡ x
at-replicate zero k x = refl
at-replicate (suc n) zero x = refl
at-replicate (suc n) (suc k) x = at-replicate n k x

nobody-there : {A : Type 0} (seat : ℕ) → has [] seat ≡ true → A
nobody-there seat inside = absurd (both_ways false refl inside)

-- Where each page is nobody's by its entry, it is by the desk.
nobodys : (a : Activity) (f : ℕ → Grant) (from count : ℕ) → ((page : ℕ) → f page ≡ nobody) → owners_told (number_under a) (map f (range_with_len from count)) ≡ replicate count nobody
nobodys a f from zero each = refl
nobodys a f from (suc count) each = λ i. owner_told (number_under a) (each from i) ∷ nobodys a f (from + 1) count each i

all-nobodys : (a : Activity) → length a.reach.entries ≡ page_count a.reach.directory → ((page : ℕ) → slice_index_or a.reach.entries page unowned ≡ unowned)
    → authority_told a ≡ replicate (page_count a.reach.directory) nobody
all-nobodys a long each =
    nobodys a (authority_at a.reach.entries) 0 (length a.reach.entries) (λ page. ap (λ (one : Authority). flat_authority page (grant_of one)) (each page) ∙ nobody-page page)
    ∙ ap (λ (n : ℕ). replicate n nobody) long

-- Sixteen seats in which nobody sits.
pub seating-none : (pages : ℕ) → IsSeating (nobody_sits pages)
seating-none pages = record {
  sixteen = length-replicate 16 (newcomer 0 0 (replicate 4 0));
  among = All-nil (λ seat. seat < 16);
  ascending = λ i j d before within. absurd (omega (arith, within));
  within = All-replicate (λ (who : Seat). ForSome who.waits (λ request. AreWithin pages request.wants.items)) 16 (newcomer 0 0 (replicate 4 0)) (λ request none. absurd (cc));
  whole = (length-replicate 16 (no_lines_of pages), All-replicate (λ held. length held ≡ pages) 16 (no_lines_of pages) (length-replicate pages _));
  free = λ seat below gone. get_or-replicate 16 seat (no_lines_of pages) [] below;
}

lines-none : (pages seat : ℕ) → AreHeldOfPages (of_seat (nothing_held pages) seat)
lines-none pages seat = elim (cases_lt seat 16) [
  | inl below ↦ subst AreHeldOfPages (sym (get_or-replicate 16 seat (no_lines_of pages) [] below)) (none-of-pages pages)
  | inr out ↦ subst AreHeldOfPages (sym (get_or_past (replicate 16 (no_lines_of pages)) seat [] (let long = length-replicate 16 (no_lines_of pages) in omega (arith, out, long)))) (none-of-pages 0)
]

module _ (programs : List Program) (most_lines frames : ℕ) (directory : Layout) (live : List Live) where
  abbrev at_first : Activity
  at_first = idle programs most_lines frames directory live

  pub sound-idle : length live ≡ 16 → IsActivitySound at_first
  sound-idle sixteen = record {
    seating = seating-none (page_count directory);
    seats = record { apart = λ at other inside there. nobody-there at inside };
    numbers = All-nil (λ seat. (slice_index_or at_first.seating.sitters seat (newcomer 0 0 [])).number < 1);
    live = sixteen;
    pages = refl;
    lines = lines-none (page_count directory);
    requests = λ seat request inside waits. nobody-there seat inside;
    begun = length-replicate 16 false;
    entries = length-replicate (page_count directory) unowned;
    set_up = λ seat inside. nobody-there seat inside;
    free = λ seat gone. at-replicate 16 seat false;
    identified = λ page. inl (at-replicate (page_count directory) page unowned);
  }

  authority-idle : authority_told at_first ≡ replicate (page_count directory) nobody
  authority-idle = all-nobodys at_first (length-replicate (page_count directory) unowned) (λ page. at-replicate (page_count directory) page unowned)

  pub desk-idle : (committed : List ℕ) → desk_over at_first committed [] ≡ opened frames 16 most_lines (record { directory = directory; bytes = committed })
  desk-idle committed i = record (desk_over at_first committed []) { authority = authority-idle i }

  no-frame : (page : ℕ) → frame_at at_first.reach.pool page ≡ None
  no-frame page = at-replicate (page_count directory) page None

  no-mark : (line : ℕ) → is_line_marked at_first.reach.pool line ≡ false
  no-mark line = ap (λ (set : List ℕ). has set (line % 16)) (at-replicate (page_count directory) (page_of_line line) [])

  module _ (committed : List ℕ) (long : length committed ≡ byte_count directory) where
    shown-idle : shown at_first committed ≡ committed
    shown-idle =
        same_number_lists (shown at_first committed) committed (length-map-range_with_len (byte_over directory at_first.reach.pool committed) 0 (byte_count directory) ∙ sym long)
        (λ place inside.
        let within : place < byte_count directory = omega (arith, inside, length-map-range_with_len (byte_over directory at_first.reach.pool committed) 0 (byte_count directory)) in
        get_or-map-range_with_len (byte_over directory at_first.reach.pool committed) 0 (byte_count directory) place place 0 within (omega arith)
        ∙ ap (λ (frame : Option ℕ). option_map_or (byte_in_frame directory at_first.reach.pool place) frame (if is_marked directory at_first.reach.pool place then slice_index at_first.reach.pool.kept place else slice_index committed place)) (no-frame (page_of directory place))
        ∙ ap (λ (b : Bool). if b then slice_index at_first.reach.pool.kept place else slice_index committed place) (no-mark (line_of directory place)))

    kept-idle : IsBeside at_first committed
    kept-idle = record {
      long = long;
      held = λ seat inside. nobody-there seat inside;
      asked = λ seat inside waits. nobody-there seat inside;
      stand = λ seat inside. nobody-there seat inside;
      is_current = subst (IsCurrent (store_over at_first committed) []) (sym shown-idle) (current-quiet (store_over at_first committed) long);
      marked = record { is = no-mark };
      clean = λ place frame within there unmarked. absurd (let clash : None ≡ Some frame = sym (no-frame (page_of directory place)) ∙ there in cc);
    }

    pub follows-idle : KeepsDesk at_first committed
    follows-idle = record { orderly = quiet-consistent (desk_over at_first committed []) long (omega arith) refl authority-idle; kept = kept-idle }

-- Nobody is left, and all pages went out: it is the desk that a crash leaves.
module _ (a : Activity) (pool : Pool) (committed : List ℕ) (sound : IsActivitySound a) (none : a.seating.taken ≡ []) (moved : IsPoolMoved a.reach.pool pool) (out : pool.resident ≡ [])
    (keeps : PoolKeeps a.reach.directory a.reach.pool pool committed) where
  authority-out : authority_told a ≡ replicate (page_count a.reach.directory) nobody
  authority-out = all-nobodys a sound.entries (λ page. by_owner (slice_index_or a.reach.entries page unowned) (sound.identified page))
    where
      by_owner : (one : Authority) → IsIdentified a.seating.taken one → one ≡ unowned
      by_owner one (inl is) = is
      by_owner one (inr (seat, inside, is)) = nobody-there seat (sym (ap (λ (taken : List ℕ). has taken seat) none) ∙ inside)

  pub desk-out : (order : List (ℕ × ℕ)) → desk_over (with_other_pool a pool) committed order ≡ restarted (desk_over a committed order)
  desk-out order i = record (desk_over a committed order) { frames = moved.frames i; active = map (entry_in a) (none i); authority = authority-out i; resident = out i }

  pub restarts : (old : Activity) → WereRolled old a committed → IsRestarted old (with_other_pool a pool) committed
  restarts old were = record {
    desk = λ order. desk-out order ∙ were.restarts order;
    follows = moved-follows a pool committed sound moved keeps were.follows;
  }

-- frames may have other pages
pub sound-pool : (a : Activity) (pool : Pool) → IsActivitySound a → IsActivitySound (with_other_pool a pool)
sound-pool a pool sound = sound-beside a a.next pool a.reach.entries a.reach.registers a.reach.runner sound sound.numbers sound.entries sound.identified

module _ (a : Activity) (seat : ℕ) (pool : Pool) where
  pub sound-rolled : IsActivitySound a → has a.seating.taken seat ≡ true → IsActivitySound (rolled a seat pool)
  sound-rolled sound taken = sound-left (with_other_pool a pool) seat (sound-pool a pool sound) taken

  pub rolled-follows : (committed : List ℕ) → KeepsDesk a committed → RollsBack a seat pool committed → KeepsDesk (rolled a seat pool) committed
  rolled-follows committed follows rolls = record {
    orderly = subst IsOrderly (sym (rolls.desk [])) (rolled-consistent (desk_over a committed []) (entry_in a seat) follows.orderly);
    kept = rolls.kept;
  }

  -- one more was rolled back
  pub rolled-more : (old : Activity) (committed : List ℕ) → WereRolled old a committed → RollsBack a seat pool committed → WereRolled old (rolled a seat pool) committed
  rolled-more old committed were rolls = record {
    restarts = λ order. ap restarted (rolls.desk order) ∙ were.restarts order;
    follows = rolled-follows committed were.follows rolls;
  }

  -- a program check
  pub checked : (code : ℕ) (committed : List ℕ) (order : List (ℕ × ℕ)) (counts : Counts) → has a.seating.taken seat ≡ true → a.reach.runner ≡ seat + 1 → KeepsDesk a committed
      → row (program_in a seat) a.reach.directory (plain_over committed (live_in a seat).cpu a.reach (live_in a seat).out) ≡ Check code
      → RollsBack a seat pool committed
      → ComesToEnd (instruction_in a seat committed order counts) (rolled a seat pool) committed order counts (Checked code (live_in a seat).cpu.iar)
  checked code committed order counts taken runner follows went rolls =
      let state : IsState (store_over a committed) (entry_in a seat) (state_in a seat) = follows.kept.stand seat taken in
      record {
        comes = λ word reads.
            check-ends (desk_over a committed order) counts (entry_in a seat) (over_all (state_in a seat) state.bytes) code (shown a committed) state.at
            (ap (row (program_in a seat) a.reach.directory) (state-shows a seat committed state.bytes runner) ∙ went) word
            ∙ ap (λ (d : Desk). Over d counts (Checked code (live_in a seat).cpu.iar)) (sym (rolls.desk order));
        follows = rolled-follows committed follows rolls;
      }

-- A seat was left, after the unit came to another state.
module _ (a : Activity) (seat : ℕ) (mid : Reach) (new : Activity) (is : new ≡ vacated (record a { reach = mid }) seat) where
  pub shape-left : mid ≡ record a.reach { pool = mid.pool } → new ≡ rolled a seat new.reach.pool
  shape-left rest = is ∙ ap (λ (r : Reach). vacated (record a { reach = r }) seat) rest ∙ (λ i. rolled a seat (sym (ap (λ (n : Activity). n.reach.pool) is) i))

  pub sound-after : mid ≡ record a.reach { pool = mid.pool } → IsActivitySound a → has a.seating.taken seat ≡ true → IsActivitySound new
  sound-after rest sound taken = subst IsActivitySound (sym (shape-left rest)) (sound-rolled a seat new.reach.pool sound taken)

-- The lines that were written in a seat were forgotten or committed, and its pool is another.
module _ (a : Activity) (seat : ℕ) (pool : Pool) where
  abbrev mid : Reach
  mid = record a.reach { pool = pool }

  pub rolls-left : HasUndone a.seating.holding seat a.reach mid → IsActivitySound a → has a.seating.taken seat ≡ true → IsRolledBack a seat pool
  rolls-left undone sound taken committed consistent kept =
      rolls-back a seat pool undone.pages committed sound taken consistent kept undone.written undone.were (undone.are committed kept.long kept.clean)

  pub commits-left : HasSettled a.seating.holding seat a.reach mid → IsActivitySound a → has a.seating.taken seat ≡ true → CommitsWherever a seat pool
  commits-left settled sound taken committed now follows at call =
      commits-here a seat pool settled.pages committed now sound taken follows at call settled.written settled.were keeps unseen.0
    where
      unwritten : (line : ℕ) → is_line_marked a.reach.pool line ≡ false → has (due_to (store_over a committed) (entry_in a seat)).writes line ≡ false
      unwritten line clear = false_from_ne_true _
          (λ wrote_it. both_ways (is_line_marked a.reach.pool line) clear
          (follows.kept.marked.is line
          ∙ among-any (λ (entry : Active). has (due_to (store_over a committed) entry).writes line) (entries a) (entry_in a seat) (seat-told a.seating.taken (entry_in a) seat taken) wrote_it))

      same : (place : ℕ) → place < byte_count a.reach.directory → is_marked a.reach.directory a.reach.pool place ≡ false → slice_index now.store place ≡ slice_index committed place
      same place within clear =
          place-kept (store_over a committed) (due_to (store_over a committed) (entry_in a seat)).writes (shown a committed) committed now.store (line-bytes-pos a.reach.directory)
          (ends a seat pool settled.pages committed now sound taken follows at call [] no_counts).record_lines place (unwritten (line_of a.reach.directory place) clear)

      unseen : (bytes_over a.reach.directory a.reach.pool now.store ≡ shown a committed) × IsClean a.reach.directory a.reach.pool now.store
      unseen = commit-is-unseen a.reach.directory a.reach.pool committed now.store follows.kept.clean same

      keeps : PoolKeeps a.reach.directory a.reach.pool pool now.store
      keeps = settled.keeps now.store unseen.1
          (λ place within wrote_it. ap (λ (bytes : List ℕ). slice_index bytes place) unseen.0 ∙ wrote-seen a seat pool settled.pages committed now sound taken follows at call place within wrote_it)

-- nobody sits anywhere, and all else is as it is
abbrev none_left : Activity → Activity
none_left a = record a { seating = record a.seating { taken = [] } }

-- One after another is rolled back, of the seats below a bound.
pub record RolledSo (below : ℕ) (old now : Activity) : Type 0 where
  pub rest : IsDeserted old (none_left now)
  pub gone : (seat : ℕ) → seat < below → has now.seating.taken seat ≡ false
  pub were : (committed : List ℕ) → KeepsDesk old committed → WereRolled old now committed

pub rolled-none : (a : Activity) → RolledSo 0 a a
rolled-none a = record {
  rest = record { taken = refl; sitters = refl; programs = refl; most_lines = refl; next = refl; directory = refl };
  gone = λ seat below. absurd (omega (arith, below));
  were = λ committed follows. record { restarts = λ order. refl; follows = follows };
}

module _ (old now : Activity) (seat : ℕ) (so : RolledSo seat old now) where
  -- nobody is in the seat
  pub rolled-past : has now.seating.taken seat ≡ false → RolledSo (seat + 1) old now
  rolled-past none = record {
    rest = so.rest;
    gone = λ at below. let past = so.gone at in grind (arith, none, past, below);
    were = so.were;
  }

  -- who is in it is rolled back
  pub rolled-step : (new : Activity) → has now.seating.taken seat ≡ true → new ≡ rolled now seat new.reach.pool → IsRolledBack now seat new.reach.pool → RolledSo (seat + 1) old new
  rolled-step new taken is rolls = record {
    rest = subst (λ (n : Activity). IsDeserted old (none_left n)) (sym is)
        (record { taken = refl; sitters = so.rest.sitters; programs = so.rest.programs; most_lines = so.rest.most_lines; next = so.rest.next; directory = so.rest.directory });
    gone = λ at below.
        let left = has-filter (λ other. not (other == seat)) now.seating.taken at in
        let was = λ (apart : at ≢ seat). so.gone at (omega (arith, below, apart)) in
        ap (λ (n : Activity). has n.seating.taken at) is ∙ grind (arith, nat_tests, left, was);
    were = λ committed follows.
        let past = so.were committed follows in subst (λ (n : Activity). WereRolled old n committed) (sym is)
        (rolled-more now seat new.reach.pool old committed past (rolls committed past.follows.orderly.active past.follows.kept));
  }

-- All sixteen are left, and the pages go out.
module _ (old now new : Activity) (sound : IsActivitySound now) (so : RolledSo 16 old now) (fits : PoolFits now.reach.directory now.reach.pool) (is : new ≡ with_other_pool now (pool_emptied now.reach.pool)) where
  none_sits : now.seating.taken ≡ []
  none_sits = none-has now.seating.taken (λ seat inside. both_ways (has now.seating.taken seat) (so.gone seat (taken-below now.seating sound.seating seat inside)) inside)

  stays : Stays now.reach.pool (pool_emptied now.reach.pool)
  stays = emptied-stays now.reach.pool

  pub deserted : IsDeserted old new
  deserted = subst (IsDeserted old) (sym is)
      (record { taken = none_sits; sitters = so.rest.sitters; programs = so.rest.programs; most_lines = so.rest.most_lines; next = so.rest.next; directory = so.rest.directory })

  pub restarted-left : IsSeen new.reach.pool → (committed : List ℕ) → KeepsDesk old committed → IsRestarted old new committed
  restarted-left seen committed follows =
      let past = so.were committed follows in subst (λ (n : Activity). IsRestarted old n committed) (sym is)
      (restarts now (pool_emptied now.reach.pool) committed sound none_sits
      (record {
        marked = stays.marked;
        private = λ seat below. ap (λ (bytes : List ℕ). private_bytes (record now.reach.pool { bytes = bytes }) seat) stays.bytes;
        size = stays.page;
        frames = stays.frames;
      })
      (emptied-resident now.reach.pool fits.seen (subst IsSeen (ap (λ (n : Activity). n.reach.pool) is) seen))
      (empty-keeps now.reach.directory now.reach.pool committed fits past.follows.kept.clean) old past)
