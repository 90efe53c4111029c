use Rattle.schedule_replay.proofs.Lemmas.{[], ◌∷◌, map, take, rules, ap, Ok, take_all, ReportLine, map-append, unended_told, puts_none, puts_more, puts_no_more, puts_same, puts_well}
use Rattle.schedule_replay.proofs.answer_lines.put_each.Goals as goal

pub loop-activation-init : goal.loop-activation-init
loop-activation-init g c = puts_none g.W.Outside g.met.W.Outside.printed_now c.args.outside.now 0

pub returns-in_err-put_one : goal.returns-in_err-put_one
returns-in_err-put_one g c =
    puts_no_more g.W.Outside g.met.W.Outside.printed_now g.met.W.Outside.fewer_later (map (unended_told c.args.unended)) (map-append (unended_told c.args.unended)) c.args.activations.now c.loop-activation.activation-index 0 c.loop-activation-test.true c.args.outside.now c.loop-activation.outside c.put_one.new.outside 0 c.put_one.result c.from_residual.result (search rules) c.from_residual.ensures.0 c.loop-activation.invariant
    (puts_same g.W.Outside c.loop-activation.outside c.put_one.new.outside _ _ c.put_one.result (ap (λ (line : ReportLine). line ∷ []) c.unended_line.ensures.line) c.put_one.ensures)

pub loop-activation-preserved : goal.loop-activation-preserved
loop-activation-preserved g c =
    puts_well g.W.Outside c.args.outside.now c.put_one.new.outside (map (unended_told c.args.unended) (take _ c.args.activations.now)) c.in_ok-put_one.field-0 0
    (puts_more g.W.Outside g.met.W.Outside.printed_now g.met.W.Outside.fewer_later (map (unended_told c.args.unended)) (map-append (unended_told c.args.unended)) c.args.activations.now c.loop-activation.activation-index 0 c.loop-activation-test.true c.args.outside.now c.loop-activation.outside c.put_one.new.outside 0 (Ok c.in_ok-put_one.field-0) c.loop-activation.invariant
    (puts_same g.W.Outside c.loop-activation.outside c.put_one.new.outside _ _ (Ok c.in_ok-put_one.field-0) (ap (λ (line : ReportLine). line ∷ []) c.unended_line.ensures.line) c.in_ok-put_one.ensures))

pub returns : goal.returns
returns g c =
    puts_same g.W.Outside c.args.outside.now c.loop-activation.outside (map (unended_told c.args.unended) (take c.loop-activation.activation-index c.args.activations.now)) (map (unended_told c.args.unended) c.args.activations.now) _ (ap (map (unended_told c.args.unended)) (take_all c.loop-activation.activation-index c.args.activations.now c.loop-activation-test.false))
    (puts_well g.W.Outside c.args.outside.now c.loop-activation.outside (map (unended_told c.args.unended) (take c.loop-activation.activation-index c.args.activations.now)) 0 tt c.loop-activation.invariant)
