use Rattle.store_calls.proofs.Lemmas.{written_put, written_torn}
use Rattle.store_calls.proofs.written.write_store.Goals as goal

pub returns-in-Err-clause-written : goal.returns-in-Err-clause-written
returns-in-Err-clause-written g c =
    written_torn g.W.Outside g.met.W.Outside.fewer_later c.args.image.now c.args.line.now c.args.outside.now c.write.new.outside c.in-Err.ensures.calls c.in-Err.ensures.crash c.in-Err.ensures.whole c.requires.empty c.in-Err.ensures.torn c.in-Err.ensures.deeds

pub returns-in-Ok-clause-written : goal.returns-in-Ok-clause-written
returns-in-Ok-clause-written g c =
    written_put g.W.Outside g.met.W.Outside.fewer_later c.args.image.now c.args.line.now c.args.outside.now c.write.new.outside c.in-Ok.ensures.calls c.in-Ok.ensures.crash c.in-Ok.ensures.whole
    c.requires.empty c.in-Ok.ensures.done c.in-Ok.ensures.cause.done c.in-Ok.ensures.deeds c.put_line.new.outside c.put_line.result c.put_line.ensures.only c.put_line.ensures.put.puts c.put_line.ensures.put.times
