use Rattle.schedule_replay.proofs.Lemmas.{◌∷◌, [], rules, puts_on, puts_stop}
use Rattle.desk.specs.ReportLines.{Doubt, Closed}
use Rattle.schedule_replay.proofs.answer_lines.put_doubt.Goals as goal

pub returns-in_err-put_one : goal.returns-in_err-put_one
returns-in_err-put_one g c =
    puts_stop g.W.Outside c.args.outside.now c.put_one.new.outside (Doubt c.args.activation c.args.number ∷ []) (Closed ∷ []) c.put_one.result c.from_residual.result (search rules) c.from_residual.ensures.0 c.put_one.ensures

pub returns : goal.returns
returns g c =
    puts_on g.W.Outside g.met.W.Outside.printed_now g.met.W.Outside.fewer_later c.args.outside.now c.put_one.new.outside c.put_one-2.new.outside (Doubt c.args.activation c.args.number ∷ []) (Closed ∷ []) c.in_ok-put_one.field-0 c.put_one-2.result c.in_ok-put_one.ensures c.put_one-2.ensures
