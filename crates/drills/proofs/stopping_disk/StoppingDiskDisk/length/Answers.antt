use Rattle.drills.proofs.Lemmas.{◌∙◌, call-stops}
use Rattle.outside.specs.declared.refusals.Call.TheVariants as kind
use Rattle.drills.proofs.stopping_disk.StoppingDiskDisk.length.Goals as goal

pub invariant_of-self : goal.invariant_of-self
invariant_of-self c =
    let disk = c.args.self.now in
    let asks = c.length.ensures.asks in
    let (stops, still) = call-stops disk.disk c.length.new.self disk.trace.deeds disk.stops asks.call.origin kind.Length 0 0 c.length.result asks.held asks.writes c.length.ensures.planned.answer c.length.ensures.planned.count in
    record { stops = stops; mirrored = still ∙ disk.mirrored }
