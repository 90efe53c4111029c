use Rattle.storage_unit.proofs.Lemmas.{◌≡◌, ◌+◌, subst, ℕ, true, arith, AreReached, slice_index_or, false, ready-selected, opened-none}
use Rattle.storage_unit.proofs.unit.Unit.select.Goals as goal

pub invariant_of-self-clause-selected : goal.invariant_of-self-clause-selected
invariant_of-self-clause-selected c = record {
  none = λ is. absurd (omega (arith, is));
  few = omega (arith, c.requires.seat);
  seat = λ seat is.
      let same : c.args.seat ≡ seat = omega (arith, is) in
      subst (λ (s : ℕ). (slice_index_or c.args.self.now.begun s false ≡ true) × AreReached c.args.self.now.directory s c.args.regs.now) same (c.requires.begun, c.requires.registers);
}

pub invariant_of-self-clause-ready : goal.invariant_of-self-clause-ready
invariant_of-self-clause-ready c =
    let unit = c.args.self.now in
    ready-selected unit.rows c.forget_unless.new.rows unit.pool.bytes unit.runner (c.args.seat + 1) unit.ready c.forget_unless.ensures.rows

pub invariant_of-self-clause-opened : goal.invariant_of-self-clause-opened
invariant_of-self-clause-opened c = let unit = c.args.self.now in opened-none c.forget_unless.new.lines unit.directory unit.table c.args.regs.now (c.args.seat + 1) c.forget_unless.ensures.lines
