use Rattle.schedule_replay.proofs.Common.{◌≡◌, [], ◌*◌, ◌≤◌, take, true, false, IsSure, CallsDisk, held_of, Desk, event_lines, Answered, RanQuietly, TallyTells, unput, opening_of, span}
use Rattle.schedule_replay.proofs.quietly.run_quiet.Given as goal

-- the events so far were asked and nothing was put; none of one that was closed before; from where the bytes are sure and a desk is shown they were run, and the counts are theirs
abbrev pub invariant-loop-event : goal.invariant-loop-event
invariant-loop-event g l = record {
  answered : Answered g.S.Supervisor g.W.Outside (take l.event-index l.events) l.fn.desk l.desk l.fn.outside l.outside unput;
  calls : CallsDisk g.W.Outside l.fn.outside l.outside;
  still : (g.S.Supervisor.told l.fn.desk).closed ≡ false → (g.S.Supervisor.told l.desk).closed ≡ false;
  shut : (g.S.Supervisor.told l.fn.desk).closed ≡ true → (l.event-index ≡ 0) × ((g.S.Supervisor.told l.desk).closed ≡ true);
  few : l.commits ≤ l.event-index;
  few_back : l.rollbacks ≤ 17 * l.event-index;
  ran : (start : Desk) → IsSure g.W.Outside l.fn.outside → g.S.Supervisor.shows l.fn.desk (held_of g.W.Outside l.fn.outside) start
      → (run : RanQuietly g.S.Supervisor g.W.Outside (opening_of [] (g.S.Supervisor.told l.fn.desk).fixed start) (take l.event-index l.events) l.desk (span l.fn.outside l.outside)) × TallyTells (record { commits = l.commits; rollbacks = l.rollbacks }) [] l.last.items (event_lines [] (g.S.Supervisor.told l.fn.desk).fixed.programs (g.S.Supervisor.told l.fn.desk).fixed.opened run.taken start);
}
