-- What a run of a desk leaves of the supervisor and the outside in which it went.
use Rattle.std.specs.Prelude.{◌≡◌, ℕ, ◌*◌, count_by, false, List}
use Rattle.schedule_replay.specs.Below.{Desk, Ghosts, held_of, is_commit, IsSure, journal_in, KeepsJournal, ReportLine, RoseBy, tells_fault, WritesMore}
use Rattle.desk.specs.declared.supervisor.Supervisor as desk
use Rattle.schedule_replay.specs.Runs.{Interval}

-- A run ended at this desk, with these lines, and in so many of its events a word wasn't fine. The supervisor is closed where the desk is and has its
-- order; while the desk is open the bytes are sure and show it, and their journal is what the lines make of the one before. The disk's count of
-- faults rose by at least the words that aren't fine, and stays where no line tells of a fault; for each commit line two writes succeeded.
pub record RanTo {D W : Type 0} (S : desk.Ghosts D) (G : Ghosts W) (end : Desk) (lines : List ReportLine) (unfine : ℕ) (new : D) (span : Interval W) : Type 0 where
  pub closes : (S.told new).closed ≡ end.closed
  pub ordered : (S.told new).order ≡ end.order
  pub still : end.closed ≡ false → IsSure G span.after × S.shows new (held_of G span.after) end
  pub journal : end.closed ≡ false → KeepsJournal lines (journal_in (held_of G span.before)) (journal_in (held_of G span.after))
  pub faults : RoseBy unfine (G.disk_faults span.before) (G.disk_faults span.after)
  pub calm : count_by tells_fault lines ≡ 0 → G.disk_faults span.after ≡ G.disk_faults span.before
  pub writes : WritesMore (G.writes span.before) (G.writes span.after) (2 * count_by is_commit lines)
