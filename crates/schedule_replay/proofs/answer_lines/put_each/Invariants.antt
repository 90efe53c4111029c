use Rattle.schedule_replay.proofs.Lemmas.{map, take, unended_told, Puts, done}
use Rattle.schedule_replay.proofs.answer_lines.put_each.Given as goal

-- the lines so far are put
abbrev pub invariant-loop-activation : goal.invariant-loop-activation
invariant-loop-activation g l = Puts g.W.Outside (map (unended_told l.unended) (take l.activation-index l.activations)) l.initial.outside l.outside done
