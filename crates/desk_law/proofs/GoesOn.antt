-- A row that goes on leaves the desk consistent.
use Rattle.desk_law.proofs.Common.{◌≡◌, refl, ℕ, suc, ◌≤◌, ◌==◌, Bool, true, false, List, [], ◌∷◌, ◌++◌, length, filter, map, Some, slice_index_or, arith, ap, sym, ◌∙◌, subst, inl, inr, or_cases, false_from_ne_true, is_fine_page, FlatStore, IsWholeStore, has, size, Lines, both, conflicts, with_whole_pages, has-append, has_left, has_right, any-some, reaches, whole-reached, part-both, part-whole_pages, has-whole_pages, meets-at, Plain, On, row, after, touched_next, all_of, Desk, Active, nobody, with_active, wanted, due_to, requested, conflicts_with, conflicts_of, numbers, waits_for, InFlight, with_grants, with_lowered, locks_with, gone_on, row_done, IsAmong, IsLive, AreLinesApart, AreConsistent, IsCovered, IsHeld, HasNoCycle, IsOrderly, except, touched_of, IsContending, MayGoOn, nat_tests, list_any-append, ◌||◌}
use Rattle.desk_law.proofs.Entries.{replaced, among-replaced, new-among, ascend-replaced, numbers-replaced}
use Rattle.desk_law.proofs.Walks.{no-cycle-fewer, no-cycle-leaves}
use Rattle.desk_law.proofs.Others.{others, after-row}
use Rattle.desk_law.proofs.Waiting.{marked-waits, gone-on}
use Rattle.desk_law.proofs.Holding.{IsHeldBut, held-but, covered-more, held-replaced, held-granted, held-lowered}

-- what is read of two sets of lines, with whole pages
pub whole-both : (fine : ℕ → Bool) (mine new : Lines) (line : ℕ)
    → has (with_whole_pages fine (both mine new)).reads line ≡ (has (with_whole_pages fine mine).reads line || has (with_whole_pages fine new).reads line)
whole-both fine mine new line =
    grind (arith, nat_tests, has-whole_pages fine (both mine new) line, has-whole_pages fine mine line, has-whole_pages fine new line, has-append mine.reads new.reads line, list_any-append (reaches fine line) mine.writes new.writes)

-- no conflict keeps two apart
pub apart-still : (fine : ℕ → Bool) (mine new theirs : Lines) → AreLinesApart (with_whole_pages fine mine) theirs → conflicts (with_whole_pages fine new) theirs ≡ false
    → AreLinesApart (with_whole_pages fine (both mine new)) theirs
apart-still fine mine new theirs apart none =
    let no-read : (line : ℕ) → has theirs.writes line ≡ true → (has (with_whole_pages fine mine).reads line ≡ false) × (has (with_whole_pages fine new).reads line ≡ false) =
    λ line inside. (grind (arith, nat_tests, apart.second_writes line inside, has-append), grind (arith, nat_tests, meets-at (with_whole_pages fine new).reads theirs.writes line)) in
    let unread : (line : ℕ) → has theirs.writes line ≡ true → has (with_whole_pages fine (both mine new)).reads line ≡ true → ⊥ =
    λ line inside read. grind (arith, nat_tests, no-read line inside, has-whole_pages fine (both mine new) line, any-some (reaches fine line) (mine.writes ++ new.writes), has-append, has_left, whole-reached fine mine line, whole-reached fine new line) in
    let unwritten : (line : ℕ) → has theirs.writes line ≡ true → has (mine.writes ++ new.writes) line ≡ true → ⊥ =
    λ line inside written. grind (arith, nat_tests, has_right theirs.reads theirs.writes line inside, has-append mine.writes new.writes line, apart.first_writes line, meets-at new.writes (theirs.reads ++ theirs.writes) line) in
    record {
      first_writes = λ line inside. grind (arith, nat_tests, has-append mine.writes new.writes line, apart.first_writes line, meets-at new.writes (theirs.reads ++ theirs.writes) line);
      second_writes = λ line inside.
          false_from_ne_true (has (all_of (with_whole_pages fine (both mine new))) line) (λ there.
          elim (or_cases (has (with_whole_pages fine (both mine new)).reads line) (has (mine.writes ++ new.writes) line) (sym (has-append (with_whole_pages fine (both mine new)).reads (mine.writes ++ new.writes) line) ∙ there)) [
            | inl read ↦ unread line inside read
            | inr written ↦ unwritten line inside written
          ]);
    }

pub length-replaced : (new : Active) (entries : List Active) → length (replaced new entries) ≡ length entries
length-replaced new [] = refl
length-replaced new (one ∷ entries) = ap suc (length-replaced new entries)

-- where there is no number of a conflict, nobody conflicts
pub nobody-conflicts : (test : Active → Bool) (entries : List Active) → map (λ (entry : Active). entry.number) (filter test entries) ≡ [] → (other : Active) → IsAmong entries other → test other ≡ false
nobody-conflicts test [] none other among = absurd among
nobody-conflicts test (one ∷ entries) none other among = grind (arith, nat_tests, nobody-conflicts test entries)

-- so what an entry asks for conflicts with none of the others
pub nobody-meets : (desk : Desk) (entry : Active) → conflicts_of desk entry ≡ [] → (other : Active) → IsAmong desk.active other → (other.number == entry.number) ≡ false
    → conflicts (requested desk.committed entry) (due_to desk.committed other) ≡ false
nobody-meets desk entry none other there differ = grind (arith, nat_tests, nobody-conflicts (conflicts_with desk entry) desk.active none other there)

-- the locks due after the row
pub due-more : (store : FlatStore) (entry : Active)
    → due_to store (gone_on entry) ≡ with_whole_pages (is_fine_page store.directory) (both (touched_of store entry) (touched_next entry.runs.program entry.runs.args store entry.rows))
due-more store entry = grind (arith, nat_tests)

pub apart-turned : (first second : Lines) → AreLinesApart first second → AreLinesApart second first
apart-turned first second apart = record { first_writes = apart.second_writes; second_writes = apart.first_writes }

-- one entry in place of the one with its number
pub replaced-consistent : (store : FlatStore) (most_lines next : ℕ) (entries : List Active) (new : Active)
    → AreConsistent store most_lines next entries → IsLive store most_lines new
    → ((other : Active) → IsAmong entries other → (other.number == new.number) ≡ false → AreLinesApart (due_to store new) (due_to store other))
    → AreConsistent store most_lines next (replaced new entries)
replaced-consistent store most_lines next entries new are live apart = grind (arith, nat_tests, ascend-replaced, among-replaced, apart-turned)

-- an entry that is marked waiting
pub marked-contending : (desk : Desk) (entry : Active) (mark : Bool) → IsAmong desk.active entry → IsContending entry.number desk
    → IsContending entry.number (with_active desk (record entry { waiting = mark }))
marked-contending desk entry mark here is =
    let replaced_consistent = replaced-consistent desk.committed desk.most_lines desk.next desk.active in
    let held_replaced = held-replaced desk.committed desk.active desk.authority entry (record entry { waiting = mark })
    here refl (λ page. is.held.covered page entry here) is.held in
    let no_cycle_fewer = no-cycle-fewer (except entry.number (waits_for (with_active desk
    (record entry { waiting = mark })))) (except entry.number (waits_for desk)) (numbers desk) (numbers desk)
    (λ from to waits. marked-waits desk entry mark from to here waits) (λ x inside. inside) is.no_cycle in
    grind (arith, nat_tests, length-replaced, replaced_consistent, held_replaced, numbers-replaced, no_cycle_fewer)

-- It may go on at another desk too, which has the same store and limit.
pub ready-again : (attempt : InFlight) (old desk : Desk) (mark : Bool) → MayGoOn attempt old → IsContending attempt.entry.number desk → IsAmong desk.active (record attempt.entry { waiting = mark })
    → desk.committed ≡ old.committed → desk.most_lines ≡ old.most_lines → MayGoOn attempt desk
ready-again attempt old desk mark ready contends here store limit = grind (arith, nat_tests)

-- The same where nobody conflicts and the pages are granted: what is permitted is held once the row has taken effect, and until then what is
-- permitted to others.
pub record IsGranted (attempt : InFlight) (desk : Desk) : Type 0 where
  pub whole : IsWholeStore desk.committed
  pub few : length desk.active ≤ desk.most_active
  pub active : AreConsistent desk.committed desk.most_lines desk.next desk.active
  pub held_others : IsHeldBut attempt.entry.number desk.committed (replaced (gone_on attempt.entry) desk.active) desk.authority
  pub held : IsHeld desk.committed (replaced (gone_on attempt.entry) desk.active) (with_lowered attempt desk).authority
  pub no_cycle : HasNoCycle (except attempt.entry.number (waits_for desk)) (numbers desk)
  pub mark : Bool
  pub here : IsAmong desk.active (record attempt.entry { waiting = mark })
  pub now : after attempt.entry.runs.program attempt.entry.runs.args desk.committed attempt.entry.rows ≡ Some attempt.now
  pub went : row attempt.entry.runs.program desk.committed.directory attempt.now ≡ attempt.outcome
  pub none : conflicts_of desk attempt.entry ≡ []
  pub lines : attempt.lines ≡ wanted desk attempt.entry
  pub short : size ((touched_of desk.committed attempt.entry).writes ++ (wanted desk attempt.entry).writes) ≤ desk.most_lines

pub grants-held : (desk : Desk) (attempt : InFlight) (refused : List ℕ) → MayGoOn attempt desk → conflicts_of desk attempt.entry ≡ []
    → IsGranted attempt (with_grants attempt refused desk)
grants-held desk attempt refused ready none =
    let there : IsAmong (replaced (gone_on attempt.entry) desk.active) (gone_on attempt.entry) =
    new-among (gone_on attempt.entry) desk.active (record attempt.entry { waiting = ready.mark }) ready.here refl in
    let moved : IsHeld desk.committed (replaced (gone_on attempt.entry) desk.active) desk.authority =
    held-replaced desk.committed desk.active desk.authority (record attempt.entry { waiting = ready.mark }) (gone_on attempt.entry) ready.here refl
    (λ page.
    subst (λ (l : Lines). IsCovered (slice_index_or desk.authority page nobody) page attempt.entry.number l) (sym (due-more desk.committed attempt.entry))
    (covered-more (slice_index_or desk.authority page nobody) page attempt.entry.number (due_to desk.committed attempt.entry) (with_whole_pages (is_fine_page desk.committed.directory) (both (touched_of desk.committed attempt.entry) (wanted desk attempt.entry)))
    (part-whole_pages (is_fine_page desk.committed.directory) (touched_of desk.committed attempt.entry) (both (touched_of desk.committed attempt.entry) (wanted desk attempt.entry)) (part-both (touched_of desk.committed attempt.entry) (wanted desk attempt.entry)))
    (ready.contending.held.covered page (record attempt.entry { waiting = ready.mark }) ready.here)))
    ready.contending.held in
    record {
      whole = ready.contending.whole;
      few = ready.contending.few;
      active = ready.contending.active;
      held_others =
          held-granted (is_fine_page desk.committed.directory) desk.committed (replaced (gone_on attempt.entry) desk.active) (gone_on attempt.entry) attempt (locks_with attempt desk) refused desk.authority
          there refl (held-but attempt.entry.number desk.committed (replaced (gone_on attempt.entry) desk.active) desk.authority moved);
      held =
          held-lowered (is_fine_page desk.committed.directory) desk.committed desk.next (replaced (gone_on attempt.entry) desk.active) (gone_on attempt.entry) attempt
          (both (touched_of desk.committed attempt.entry) attempt.lines) refused desk.authority
          (ascend-replaced (gone_on attempt.entry) 0 desk.next desk.active ready.contending.active.ascend) there refl
          (ap (λ (l : Lines). with_whole_pages (is_fine_page desk.committed.directory) (both (touched_of desk.committed attempt.entry) l)) ready.lines ∙ sym (due-more desk.committed attempt.entry))
          moved;
      no_cycle = ready.contending.no_cycle;
      mark = ready.mark;
      here = ready.here;
      now = ready.now;
      went = ready.went;
      none = none;
      lines = ready.lines;
      short = ready.short;
    }

-- the entries once a row has gone on while nobody conflicted
pub gone-on-active :
    (desk : Desk) (most : ℕ) (entry : Active) (mark : Bool) (now next : Plain) → AreConsistent desk.committed most desk.next desk.active
    → IsAmong desk.active (record entry { waiting = mark }) → after entry.runs.program entry.runs.args desk.committed entry.rows ≡ Some now
    → row entry.runs.program desk.committed.directory now ≡ On next → conflicts_of desk entry ≡ []
    → size ((touched_of desk.committed entry).writes ++ (wanted desk entry).writes) ≤ most
    → AreConsistent desk.committed most desk.next (replaced (gone_on entry) desk.active)
gone-on-active desk most entry mark now next are here at went none short =
    replaced-consistent desk.committed most desk.next desk.active (gone_on entry) are live (λ other among differ.
    subst (λ (l : Lines). AreLinesApart l (due_to desk.committed other)) (sym due)
    (apart-still (is_fine_page desk.committed.directory) (touched_of desk.committed entry) (wanted desk entry) (due_to desk.committed other)
    (apart-turned (due_to desk.committed other) (due_to desk.committed entry) (are.apart other (record entry { waiting = mark }) among here differ))
    (nobody-meets desk entry none other among differ)))
  where
    due : due_to desk.committed (gone_on entry) ≡ with_whole_pages (is_fine_page desk.committed.directory) (both (touched_of desk.committed entry) (wanted desk entry))
    due = due-more desk.committed entry

    live : IsLive desk.committed most (gone_on entry)
    live = record {
      state = next;
      is = after-row desk.committed entry now next at went;
      few = omega (arith, short, ap (λ (l : Lines). size l.writes) due);
      present = (are.live (record entry { waiting = mark }) here).present;
    }

-- the row goes on
pub row-goes-on : (desk : Desk) (attempt : InFlight) (next : Plain) → IsGranted attempt desk → attempt.outcome ≡ On next
    → IsOrderly (row_done attempt desk)
row-goes-on desk attempt next is went =
    let gone_on_active = gone-on-active desk desk.most_lines attempt.entry is.mark attempt.now next is.active is.here
    is.now in
    let no_cycle_leaves = no-cycle-leaves attempt.entry.number (waits_for (row_done attempt desk)) (waits_for desk)
    (numbers desk) (gone-on desk attempt.entry (gone_on attempt.entry) refl refl) is.no_cycle in
    grind (arith, nat_tests, length-replaced, gone_on_active, numbers-replaced, no_cycle_leaves)

-- those that are left are so whatever replaced one
pub others-replaced : (gone new : Active) (entries : List Active) → new.number ≡ gone.number → others gone (replaced new entries) ≡ others gone entries
others-replaced gone new [] same = refl
others-replaced gone new (one ∷ entries) same = grind (arith, nat_tests, others-replaced gone new entries same)
