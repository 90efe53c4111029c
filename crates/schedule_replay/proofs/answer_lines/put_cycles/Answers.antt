use Rattle.schedule_replay.proofs.Lemmas.{◌≡◌, ℕ, ◌+◌, List, [], ◌∷◌, take, get_or, rules, ap, ◌∙◌, sym, append-nil, Ok, take_all, Cycle, cycle_lines, puts_none, puts_more, puts_no_more, puts_same, puts_well, cycles_of, cycles_split, arith, nat_tests}
use Rattle.schedule_replay.proofs.answer_lines.put_cycles.Goals as goal

pub loop-cycle-init : goal.loop-cycle-init
loop-cycle-init g c = puts_none g.W.Outside g.met.W.Outside.printed_now c.args.outside.now 0

-- the lines of one cycle
one : (cycle : Cycle) (items : List ℕ) → items ≡ cycle.members.items → cycle_lines items ≡ cycles_of (cycle ∷ [])
one cycle items is = ap cycle_lines is ∙ sym (append-nil (cycle_lines cycle.members.items))

pub returns-in_err-put_cycle : goal.returns-in_err-put_cycle
returns-in_err-put_cycle g c =
    let G = g.W.Outside in let cycle = get_or c.args.cycles.now c.loop-cycle.cycle-index c.cycle-item.result in
    puts_no_more G g.met.W.Outside.printed_now g.met.W.Outside.fewer_later cycles_of cycles_split c.args.cycles.now c.loop-cycle.cycle-index c.cycle-item.result c.loop-cycle-test.true c.args.outside.now c.loop-cycle.outside c.put_cycle.new.outside 0 c.put_cycle.result c.from_residual.result (search rules) c.from_residual.ensures.0 c.loop-cycle.invariant
    (puts_same G c.loop-cycle.outside c.put_cycle.new.outside (cycle_lines c.as_slice.result.now) (cycles_of (cycle ∷ [])) c.put_cycle.result (one cycle c.as_slice.result.now (c.as_slice.ensures.value ∙ ap (λ (each : Cycle). each.members.items) c.cycle-item.is)) c.put_cycle.ensures)

pub loop-cycle-preserved : goal.loop-cycle-preserved
loop-cycle-preserved g c =
    let G = g.W.Outside in let cycle = get_or c.args.cycles.now c.loop-cycle.cycle-index c.cycle-item.result in
    puts_well G c.args.outside.now c.put_cycle.new.outside (cycles_of (take (c.loop-cycle.cycle-index + 1) c.args.cycles.now)) c.in_ok-put_cycle.field-0 0
    (puts_more G g.met.W.Outside.printed_now g.met.W.Outside.fewer_later cycles_of cycles_split c.args.cycles.now c.loop-cycle.cycle-index c.cycle-item.result c.loop-cycle-test.true c.args.outside.now c.loop-cycle.outside c.put_cycle.new.outside 0 (Ok c.in_ok-put_cycle.field-0) c.loop-cycle.invariant
    (puts_same G c.loop-cycle.outside c.put_cycle.new.outside (cycle_lines c.as_slice.result.now) (cycles_of (cycle ∷ [])) (Ok c.in_ok-put_cycle.field-0) (one cycle c.as_slice.result.now (c.as_slice.ensures.value ∙ ap (λ (each : Cycle). each.members.items) c.cycle-item.is)) c.in_ok-put_cycle.ensures))

pub returns : goal.returns
returns g c = grind (arith, nat_tests, puts_same, cycles_of, take_all, puts_well)
