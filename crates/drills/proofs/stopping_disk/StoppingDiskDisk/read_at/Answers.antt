use Rattle.drills.proofs.Lemmas.{◌+◌, ◌∙◌, length, call-stops}
use Rattle.outside.specs.declared.refusals.Call.TheVariants as kind
use Rattle.drills.proofs.stopping_disk.StoppingDiskDisk.read_at.Goals as goal

pub invariant_of-self : goal.invariant_of-self
invariant_of-self c =
    let disk = c.args.self.now in
    let asks = c.read_at.ensures.asks in
    let (stops, still) = call-stops disk.disk c.read_at.new.self disk.trace.deeds disk.stops asks.call.origin kind.Read c.args.at (c.args.at + length c.args.into.now) c.read_at.result asks.held asks.writes c.read_at.ensures.planned.answer c.read_at.ensures.planned.count in
    record { stops = stops; mirrored = still ∙ disk.mirrored }
