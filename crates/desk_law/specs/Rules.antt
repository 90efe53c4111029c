-- The rules of locks, each taken away from the desk that asks where it is refused.
use Rattle.std.specs.Prelude.{ℕ, ◌==◌, ◌&&◌, ◌||◌, not, Bool, true, List, ◌++◌, map, filter, slice_index_or}
use Rattle.desk_law.specs.Below.{InFlight, Committed, conflicts, Desk, due_to, Active, Going, Lines, meets, nobody, Over, page_of_line, pages_of, requested, Turning, wanted, with_grants, with_whole_pages}
use Rattle.desk_law.specs.UnderWay.{touched_of}
use Rattle.desk_law.specs.Asking.{Asking, asks_refused, asks_refused_by, RunsAreIsolatedBy, RunsStayConsistentBy}

-- whom an entry conflicts with, by what is asked, what others hold, and when these conflict; `conflicts_of` is that of `requested`, `due_to` and `conflicts`
abbrev pub conflicting : (asked holds : Desk → Active → Lines) → (Lines → Lines → Bool) → Desk → Active → List ℕ
conflicting asked holds conflict desk entry =
    map (λ other. other.number) (filter (λ other. not (other.number == entry.number) && conflict (asked desk entry) (holds desk other)) desk.active)

-- without the whole page: of whatever page only the lines that are touched are locked
abbrev pub without_whole_pages : Asking
without_whole_pages =
    asks_refused_by (conflicting (λ desk entry. with_whole_pages (λ page. true) (wanted desk entry))
    (λ desk entry. with_whole_pages (λ page. true) (touched_of desk.committed entry)) conflicts)

-- without the rule that a read meets a write
abbrev pub without_read_meets_write : Asking
without_read_meets_write = asks_refused_by (conflicting (λ desk. requested desk.committed) (λ desk. due_to desk.committed) (λ asked holds. meets asked.writes (holds.reads ++ holds.writes)))

-- without the rule that a write meets a read
abbrev pub without_write_meets_read : Asking
without_write_meets_read =
    asks_refused_by (conflicting (λ desk. requested desk.committed) (λ desk. due_to desk.committed) (λ asked holds. meets asked.writes holds.writes || meets asked.reads holds.writes))

-- the locks of an entry, those to read in pages alone of which it is the owner
abbrev pub held_as_owner : Desk → Active → Lines
held_as_owner desk entry =
    record {
      reads = filter (λ line. (slice_index_or desk.authority (page_of_line line) nobody).owner == entry.number) (due_to desk.committed entry).reads;
      writes = (due_to desk.committed entry).writes;
    }

-- without read locks that stay to the end: they go where the page passes on
abbrev pub without_kept_reads : Asking
without_kept_reads = asks_refused_by (conflicting (λ desk. requested desk.committed) held_as_owner conflicts)

-- the pages that a row that went on has written into are its entry's as it stored
abbrev pub bits_on : InFlight → Turning → Turning
bits_on attempt (Going desk counts) = Going (with_grants attempt (pages_of attempt.lines.writes) desk) counts
bits_on attempt (Over desk counts ending) = Over desk counts ending

-- without the write bit of a fine page that goes off once the row has stored
abbrev pub without_bits_off : Asking
without_bits_off word attempt desk counts = bits_on attempt (asks_refused word attempt desk counts)

-- the pages of an activation that committed are its own still
abbrev pub pages_stay : Desk → Turning → Turning
pages_stay before (Over desk counts (Committed steps printed)) =
    Over (record desk { authority = before.authority }) counts (Committed steps printed)
pages_stay before turning = turning

-- without the end of an activation's entries as it commits
abbrev pub without_ended_entries : Asking
without_ended_entries word attempt desk counts = pages_stay desk (asks_refused word attempt desk counts)

-- The law: without each of five rules of locks isolation is false of the desk that asks where it is refused; and without the end of entries, consistency.
pub record IsolationRestsOnRules : Type 0 where
  pub whole_pages : ¬ (RunsAreIsolatedBy without_whole_pages)
  pub bits_off : ¬ (RunsAreIsolatedBy without_bits_off)
  pub read_meets_write : ¬ (RunsAreIsolatedBy without_read_meets_write)
  pub write_meets_read : ¬ (RunsAreIsolatedBy without_write_meets_read)
  pub kept_reads : ¬ (RunsAreIsolatedBy without_kept_reads)
  pub ended_entries : ¬ (RunsStayConsistentBy without_ended_entries)
