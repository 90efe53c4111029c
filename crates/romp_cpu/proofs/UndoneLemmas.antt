-- What an attempt undoes.
use Rattle.romp_cpu.proofs.Common.{Plan, Cpu, Seen, Tried, tried, UndoesUnlessWent, nat_tests, arith}

module _ {S : Type 0} (seen : Seen S) (cpu : Cpu) where
  -- an attempt undoes unless it went
  abbrev Undoes : Tried S → Type 0
  Undoes result = UndoesUnlessWent result.attempt cpu result.cpu seen.state result.state

  pub tried_undoes : (plan : Plan) → Undoes (tried seen cpu plan)
  tried_undoes plan = grind (arith, nat_tests)
