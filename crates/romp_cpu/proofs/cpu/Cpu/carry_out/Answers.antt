use Rattle.romp_cpu.proofs.Common.{sym, subst, StoresAll, ◌∙◌, at, halfword_of, pending_of}
use Rattle.romp_cpu.proofs.WholeLemmas.{pending-stores}
use Rattle.romp_cpu.proofs.PendingLemmas.{plan_of_ready}
use Rattle.romp_cpu.proofs.cpu.Cpu.carry_out.Goals as goal

pub returns-in-Store-clause-whole : goal.returns-in-Store-clause-whole
returns-in-Store-clause-whole g c =
    let cpu = at c.args.self.now c.args.iar.now in
    let half = halfword_of (g.S.Storage.byte_at (g.S.Storage.state c.args.storage.now)) in
    let told = c.do_ready in
    subst StoresAll (sym (plan_of_ready c.in-Some.row.now half cpu.regs cpu.cs cpu.iar c.in-Some.ensures ∙ told.ensures.plan))
    (pending-stores (pending_of told.result) told.new.regs told.new.cs told.ensures.long told.ensures.sound)
