use Rattle.drills.proofs.Common.{◌≡◌, take}
use Rattle.drills.proofs.job_copy.programs_of.Given as goal

abbrev pub invariant-loop-program : goal.invariant-loop-program
invariant-loop-program l = l.copies.items ≡ take l.program-index l.programs
