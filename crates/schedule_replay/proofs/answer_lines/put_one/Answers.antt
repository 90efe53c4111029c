use Rattle.schedule_replay.proofs.Lemmas.{line_told, puts_one, arith, nat_tests}
use Rattle.schedule_replay.proofs.answer_lines.put_one.Goals as goal

pub returns : goal.returns
returns g c = grind (arith, nat_tests, puts_one g.W.Outside g.met.W.Outside.printed_now, line_told c.args.line.now)
