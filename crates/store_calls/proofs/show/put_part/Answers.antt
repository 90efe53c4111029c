use Rattle.store_calls.proofs.Lemmas.{length, arith, part_put, part_failed}
use Rattle.store_calls.proofs.show.put_part.Goals as goal

pub returns-in-Ok-put_rows-clause-puts : goal.returns-in-Ok-put_rows-clause-puts
returns-in-Ok-put_rows-clause-puts g c =
    part_put g.W.Outside g.met.W.Outside.fewer_later c.args.store.now c.args.at c.args.offset c.args.count (length c.split_at_mut-bytes.result.0.now) c.read_bytes.new.into c.args.outside.now c.read_bytes.new.outside c.put_rows.new.outside c.in-Ok.ensures.asks (omega (arith, c.split_at_mut-bytes.ensures.front_len)) (omega (arith, c.split_at_mut-bytes.ensures.front_len, c.read_bytes.auto.into)) c.in-Ok.ensures.read c.in-Ok.ensures.cause.done c.in-Ok-put_rows.ensures.puts c.in-Ok-put_rows.ensures.times

pub returns-in-Err-put_rows-clause-puts : goal.returns-in-Err-put_rows-clause-puts
returns-in-Err-put_rows-clause-puts g c =
    part_failed g.W.Outside g.met.W.Outside.fewer_later c.args.store.now c.args.at c.args.offset c.args.count (length c.split_at_mut-bytes.result.0.now) c.read_bytes.new.into c.args.outside.now c.read_bytes.new.outside c.put_rows.new.outside c.in-Ok.ensures.asks (omega (arith, c.split_at_mut-bytes.ensures.front_len)) (omega (arith, c.split_at_mut-bytes.ensures.front_len, c.read_bytes.auto.into)) c.in-Ok.ensures.read c.in-Ok.ensures.cause.done c.in-Err-put_rows.field-0 c.in-Err-put_rows.ensures.puts
