use Rattle.store_calls.proofs.Common.{List, ap, rules, flat_map, puts_on, puts_same, puts_stop, Touch, steps_line, touch_line}
use Rattle.store_calls.proofs.trace.put_trace.Goals as goal

pub returns-in_err-put_touches : goal.returns-in_err-put_touches
returns-in_err-put_touches g c = record {
  times = search rules;
  puts =
      let trace = c.args.trace.now in
      puts_stop g.W.Outside c.args.outside.now c.put_touches.new.outside (flat_map touch_line trace.touches.items) (steps_line c.args.activation trace.steps)
      c.put_touches.result c.from_residual.result (search rules) c.from_residual.ensures.0
      (puts_same g.W.Outside c.args.outside.now c.put_touches.new.outside (flat_map touch_line c.deref.result.now) (flat_map touch_line trace.touches.items) c.put_touches.result
      (ap (λ (touches : List Touch). flat_map touch_line touches) c.deref.ensures.value) c.put_touches.ensures.puts);
}

pub returns : goal.returns
returns g c = record {
  times = search rules;
  puts =
      let trace = c.args.trace.now in
      puts_on g.W.Outside g.met.W.Outside.fewer_later c.args.outside.now c.put_touches.new.outside c.put_steps.new.outside (flat_map touch_line trace.touches.items) (steps_line c.args.activation trace.steps)
      tt c.put_steps.result
      (puts_same g.W.Outside c.args.outside.now c.put_touches.new.outside (flat_map touch_line c.deref.result.now) (flat_map touch_line trace.touches.items) _
      (ap (λ (touches : List Touch). flat_map touch_line touches) c.deref.ensures.value) c.in_ok-put_touches.ensures.puts)
      c.put_steps.ensures.puts;
}
