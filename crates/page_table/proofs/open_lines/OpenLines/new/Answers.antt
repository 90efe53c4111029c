use Rattle.std.proofs.Common.{replicate}
use Rattle.page_table.proofs.Common.{true, false, arith}
use Rattle.std.specs.Prelude.{◌^◌}
use Rattle.page_table.specs.KnownLines.{known}
use Rattle.page_table.proofs.LineLemmas.{none-at, zero-at}
use Rattle.page_table.proofs.open_lines.OpenLines.new.Goals as goal

pub returns : goal.returns
unfolding known
returns c true block = none-at (2 ^ 32) block (replicate 64 0) (omega arith)
returns c false block = none-at (2 ^ 32) block (replicate 64 0) (omega arith)

pub invariant_of-result-clause-loads_past : goal.invariant_of-result-clause-loads_past
invariant_of-result-clause-loads_past c place = omega (arith, zero-at 64 place)

pub invariant_of-result-clause-stores_past : goal.invariant_of-result-clause-stores_past
invariant_of-result-clause-stores_past c place = omega (arith, zero-at 64 place)

pub invariant_of-result-clause-loads_low : goal.invariant_of-result-clause-loads_low
invariant_of-result-clause-loads_low c place = omega (arith, zero-at 64 place)

pub invariant_of-result-clause-stores_low : goal.invariant_of-result-clause-stores_low
invariant_of-result-clause-stores_low c place = omega (arith, zero-at 64 place)
