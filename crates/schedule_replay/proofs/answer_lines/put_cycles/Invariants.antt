use Rattle.schedule_replay.proofs.Lemmas.{take, Puts, done, cycles_of}
use Rattle.schedule_replay.proofs.answer_lines.put_cycles.Given as goal

-- the lines so far are put
abbrev pub invariant-loop-cycle : goal.invariant-loop-cycle
invariant-loop-cycle g l = Puts g.W.Outside (cycles_of (take l.cycle-index l.cycles)) l.initial.outside l.outside done
