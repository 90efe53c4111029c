use Rattle.drills.proofs.Lemmas.{broken, well, ◌≡◌, ◌∙◌, arith, none-put, put-more}
use Rattle.drills.proofs.drill.put_stops.Goals as goal

pub loop-stops-init : goal.loop-stops-init
loop-stops-init g c = none-put g.W.Outside c.args.job.now c.args.outside.now

pub returns-in-Ok-None : goal.returns-in-Ok-None
returns-in-Ok-None g c = let fewer = rw c.in-Ok-None.field-0-is at c.in-Ok-None.ensures in (c.loop-stops.invariant.0, c.loop-stops.invariant.1, omega (arith, fewer.0), λ below. fewer.1)

pub returns-in-Err-put_pair : goal.returns-in-Err-put_pair
returns-in-Err-put_pair g c =
    (put-more g.W.Outside c.args.job.now g.met.W.Outside.fewer_later c.args.outside.now c.loop-stops.outside c.put_pair.new.outside c.loop-stops.stops c.in-Ok-Some.pair broken c.loop-stops-test.true
    (rw c.in-Ok-Some.field-0-is at c.in-Ok-Some.ensures) c.in-Err-put_pair.ensures.puts c.in-Err-put_pair.ensures.times c.loop-stops.invariant).0

pub loop-stops-preserved : goal.loop-stops-preserved
loop-stops-preserved g c =
    put-more g.W.Outside c.args.job.now g.met.W.Outside.fewer_later c.args.outside.now c.loop-stops.outside c.put_pair.new.outside c.loop-stops.stops c.in-Ok-Some.pair well c.loop-stops-test.true
    (rw c.in-Ok-Some.field-0-is at c.in-Ok-Some.ensures) c.in-Ok.ensures.puts c.in-Ok.ensures.times c.loop-stops.invariant

pub returns : goal.returns
returns g c =
    let same : c.loop-stops.stops ≡ 256 = omega (arith, c.loop-stops-test.false, c.loop-stops.auto.stops-end) in
    (c.loop-stops.invariant.0, c.loop-stops.invariant.1 ∙ same, omega arith, λ below. absurd (omega (arith, below)))
