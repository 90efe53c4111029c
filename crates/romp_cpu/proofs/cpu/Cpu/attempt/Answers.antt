use Rattle.romp_cpu.proofs.Common.{subst, sym, plan, halfword_of, answer_in, Bool, Tried, seen_in, at, how_went, UndoesUnlessWent}
use Rattle.romp_cpu.proofs.UndoneLemmas.{tried_undoes}
use Rattle.romp_cpu.proofs.cpu.Cpu.attempt.Goals as goal

pub returns-else-at_once-clause-undone : goal.returns-else-at_once-clause-undone
returns-else-at_once-clause-undone g c =
    let s = g.S.Storage in
    let before = s.state c.args.storage.now in
    let cpu = c.args.self.now in
    let went = c.step-at_once in
    subst (λ (at_once : Bool). UndoesUnlessWent (how_went at_once went.new.went) cpu (at went.new.self went.new.iar) before (s.state went.new.storage)) c.if-at_once.false
    (subst
    (λ (result : Tried g.row.S-State.Denot). UndoesUnlessWent result.attempt cpu result.cpu before result.state)
    (sym went.ensures.tried)
    (tried_undoes (seen_in s.byte_at (answer_in s.registers s.is_in_frame s.refuses) s.stored before) cpu
    (plan (halfword_of (s.byte_at before)) cpu.regs cpu.cs cpu.iar)))
