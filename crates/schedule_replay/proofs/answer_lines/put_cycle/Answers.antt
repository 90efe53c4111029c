use Rattle.schedule_replay.proofs.Lemmas.{ℕ, ◌∷◌, [], ap, rules, puts_on, puts_stop, puts_same}
use Rattle.lines.specs.Waits.{victim_of}
use Rattle.desk.specs.ReportLines.{Cycle, Victim}
use Rattle.schedule_replay.proofs.answer_lines.put_cycle.Goals as goal

pub returns-in_err-put_one : goal.returns-in_err-put_one
returns-in_err-put_one g c =
    puts_stop g.W.Outside c.args.outside.now c.put_one.new.outside (Cycle c.args.members.now ∷ []) (Victim (victim_of c.args.members.now) ∷ []) c.put_one.result c.from_residual.result (search rules) c.from_residual.ensures.0 c.put_one.ensures

pub returns : goal.returns
returns g c =
    puts_on g.W.Outside g.met.W.Outside.printed_now g.met.W.Outside.fewer_later c.args.outside.now c.put_one.new.outside c.put_one-2.new.outside (Cycle c.args.members.now ∷ []) (Victim (victim_of c.args.members.now) ∷ []) c.in_ok-put_one.field-0 c.put_one-2.result c.in_ok-put_one.ensures
    (puts_same g.W.Outside c.put_one.new.outside c.put_one-2.new.outside (Victim c.greatest.result ∷ []) (Victim (victim_of c.args.members.now) ∷ []) c.put_one-2.result (ap (λ (victim : ℕ). Victim victim ∷ []) c.greatest.ensures) c.put_one-2.ensures)
