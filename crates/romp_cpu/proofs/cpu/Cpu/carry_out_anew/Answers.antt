use Rattle.romp_cpu.proofs.Common.{sym, subst, StoresAll}
use Rattle.romp_cpu.proofs.WholeLemmas.{pending-stores}
use Rattle.romp_cpu.proofs.cpu.Cpu.carry_out_anew.Goals as goal

pub returns-clause-whole : goal.returns-clause-whole
returns-clause-whole g c =
    let started = c.start-pending in
    rw (sym c.prepare.ensures) (subst StoresAll (sym started.ensures.plan) (pending-stores started.result started.new.self.regs started.new.self.cs started.ensures.long started.ensures.sound))
