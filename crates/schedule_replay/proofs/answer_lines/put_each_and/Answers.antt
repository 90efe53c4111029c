use Rattle.schedule_replay.proofs.Lemmas.{[], ◌∷◌, map, line_told, unended_told, puts_on, puts_stop, arith, nat_tests}
use Rattle.schedule_replay.proofs.answer_lines.put_each_and.Goals as goal

pub returns-in_err-put_each : goal.returns-in_err-put_each
returns-in_err-put_each g c = grind (arith, nat_tests, puts_stop, unended_told, line_told)

pub returns : goal.returns
returns g c =
    puts_on g.W.Outside g.met.W.Outside.printed_now g.met.W.Outside.fewer_later c.args.outside.now c.put_each.new.outside c.put_one.new.outside (map (unended_told c.args.unended) c.args.activations.now) (line_told c.args.last.now ∷ []) c.in_ok-put_each.field-0 c.put_one.result c.in_ok-put_each.ensures c.put_one.ensures
