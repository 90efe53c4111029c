use Rattle.romp_cpu.proofs.Common.{subst, sym, answer_in, Tried, seen_in, GivesEveryRow, at}
use Rattle.romp_cpu.proofs.AttemptLemmas.{attempt-row}
use Rattle.romp_cpu.proofs.cpu.Cpu.step.Goals as goal

pub returns-clause-row : goal.returns-clause-row
returns-clause-row g c =
    let s = g.S.Storage in
    let before = s.state c.args.storage.now in
    let cpu = at c.args.self.now c.args.iar.now in
    subst
    (λ (result : Tried g.row.S-State.Denot). GivesEveryRow cpu (seen_in s.byte_at (answer_in s.registers s.is_in_frame s.refuses) s.stored before) result)
    (sym c.carry_out.ensures.tried)
    (attempt-row s.byte_at (answer_in s.registers s.is_in_frame s.refuses) s.stored before cpu)
