use Rattle.std.specs.Prelude.{◌^◌}
use Rattle.page_table.proofs.Common.{true, false, ◌∙◌, sym, arith}
use Rattle.page_table.specs.KnownLines.{known}
use Rattle.page_table.proofs.LineLemmas.{none-at, none-before, zero-at}
use Rattle.page_table.proofs.open_lines.OpenLines.begin_again.Goals as goal

pub invariant_of-self-clause-loads_past : goal.invariant_of-self-clause-loads_past
invariant_of-self-clause-loads_past c place = omega (arith, zero-at 64 place)

pub invariant_of-self-clause-stores_past : goal.invariant_of-self-clause-stores_past
invariant_of-self-clause-stores_past c place = omega (arith, zero-at 64 place)

pub invariant_of-self-clause-loads_low : goal.invariant_of-self-clause-loads_low
invariant_of-self-clause-loads_low c place = omega (arith, zero-at 64 place)

pub invariant_of-self-clause-stores_low : goal.invariant_of-self-clause-stores_low
invariant_of-self-clause-stores_low c place = omega (arith, zero-at 64 place)

pub returns-then-self-clause-known : goal.returns-then-self-clause-known
unfolding known
returns-then-self-clause-known c true at =
    none-at (2 ^ 32) at c.args.self.now.spots (omega arith)
    ∙ sym (none-before c.args.self.now.time at c.args.self.now.stores c.args.self.now.spots (λ place. omega (arith, c.if-self.true, c.args.self.now.stores_low place)))
returns-then-self-clause-known c false at =
    none-at (2 ^ 32) at c.args.self.now.spots (omega arith)
    ∙ sym (none-before c.args.self.now.time at c.args.self.now.loads c.args.self.now.spots (λ place. omega (arith, c.if-self.true, c.args.self.now.loads_low place)))
