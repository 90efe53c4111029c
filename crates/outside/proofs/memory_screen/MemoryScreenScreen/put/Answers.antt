use Rattle.outside.proofs.Common.{common_steps, arith}
use Rattle.outside.proofs.memory_screen.MemoryScreenScreen.put.Goals as goal

pub returns-in-None-stop-clause-once : goal.returns-in-None-stop-clause-once
returns-in-None-stop-clause-once c = grind (arith, common_steps)

pub returns-in-Some-stop-clause-cause : goal.returns-in-Some-stop-clause-cause
returns-in-Some-stop-clause-cause c = grind arith

pub returns-then-is_err-clause-cause : goal.returns-then-is_err-clause-cause
returns-then-is_err-clause-cause c = grind (arith, common_steps)

pub returns-then-is_err-clause-answer : goal.returns-then-is_err-clause-answer
returns-then-is_err-clause-answer c = grind arith

pub returns-in-Some-stop-clause-printed : goal.returns-in-Some-stop-clause-printed
returns-in-Some-stop-clause-printed c = grind arith

pub returns-in-Some-stop-clause-once : goal.returns-in-Some-stop-clause-once
returns-in-Some-stop-clause-once c = grind arith

pub returns-in-Some-stop-clause-record : goal.returns-in-Some-stop-clause-record
returns-in-Some-stop-clause-record c = grind arith

pub invariant_of-self-in-Some-stop : goal.invariant_of-self-in-Some-stop
invariant_of-self-in-Some-stop c = grind arith
