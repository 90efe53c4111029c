use Rattle.drills.proofs.Lemmas.{inr, broken, well, whole-put}
use Rattle.drills.proofs.drill.drill.Goals as goal

pub returns-in-Err-put_last-clause-did : goal.returns-in-Err-put_last-clause-did
returns-in-Err-put_last-clause-did g c =
    inr (whole-put g.W.Outside c.args.job.now g.met.W.Outside.fewer_later c.args.outside.now c.put_stops.new.outside c.put_last.new.outside c.in-Ok.stops c.in-Ok-last_number.number broken
    c.in-Ok.ensures c.in-Ok-last_number.ensures c.in-Err-put_last.ensures.puts c.in-Err-put_last.ensures.times)

pub returns-in-Ok-put_last-clause-did : goal.returns-in-Ok-put_last-clause-did
returns-in-Ok-put_last-clause-did g c =
    whole-put g.W.Outside c.args.job.now g.met.W.Outside.fewer_later c.args.outside.now c.put_stops.new.outside c.put_last.new.outside c.in-Ok.stops c.in-Ok-last_number.number well
    c.in-Ok.ensures c.in-Ok-last_number.ensures c.in-Ok-put_last.ensures.puts c.in-Ok-put_last.ensures.times
