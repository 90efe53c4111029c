use Rattle.drills.proofs.Common.{puts_on, puts_stop, stop_line, codes, rules}
use Rattle.drills.proofs.drill.put_pair.Goals as goal

pub returns-in_err-put_stop-clause-puts : goal.returns-in_err-put_stop-clause-puts
returns-in_err-put_stop-clause-puts g c =
    puts_stop g.W.Outside c.args.outside.now c.put_stop.new.outside (stop_line c.args.write (codes "old") c.args.pair.now.old) (stop_line c.args.write (codes "torn") c.args.pair.now.torn)
    c.put_stop.result c.from_residual.result (search rules) c.from_residual.ensures.0 c.put_stop.ensures.puts

pub returns-clause-puts : goal.returns-clause-puts
returns-clause-puts g c =
    puts_on g.W.Outside g.met.W.Outside.fewer_later c.args.outside.now c.put_stop.new.outside c.put_stop-2.new.outside (stop_line c.args.write (codes "old") c.args.pair.now.old) (stop_line c.args.write (codes "torn") c.args.pair.now.torn)
    tt c.put_stop-2.result c.in_ok-put_stop.ensures.puts c.put_stop-2.ensures.puts
