use Rattle.store_calls.proofs.Common.{false, refl, rules, puts_no_more, Touch, touch_line}
use Rattle.store_calls.proofs.trace.put_touches.Goals as goal

pub returns-in_err-put_touch : goal.returns-in_err-put_touch
returns-in_err-put_touch g c = record {
  puts =
      let touches = c.args.touches.now in
      let none : Touch = record { step = 0; line = 0; store = false } in
      puts_no_more g.W.Outside g.met.W.Outside.fewer_later touch_line touches c.loop-touch.touch-index none _ c.loop-touch-test.true refl
      c.args.outside.now c.loop-touch.outside c.put_touch.new.outside tt c.put_touch.result c.from_residual.result (search rules) c.from_residual.ensures.0 c.loop-touch.invariant.puts c.put_touch.ensures.puts;
  times = search rules;
}
