-- The rows so far.
use Rattle.activations.proofs.Common.{reach_of, ◌-◌, standing}
use Rattle.activations.proofs.StrideLemmas.{RunsOn}
use Rattle.activations.proofs.attempts.stride_from.Given as goal

abbrev pub invariant-loop-ran : goal.invariant-loop-ran
invariant-loop-ran l = RunsOn l.limit (reach_of l.initial.unit) (standing l.initial.live l.initial.iar) l.ran (reach_of l.unit) (standing l.live l.iar)

abbrev pub decreases-loop-ran : goal.decreases-loop-ran
decreases-loop-ran l = l.limit - l.ran
