use Rattle.drills.proofs.Lemmas.{◌∙◌, IsStopping, call-stops, subst, sym, sync-stops}
use Rattle.outside.specs.declared.refusals.Call.TheVariants as kind
use Rattle.drills.proofs.stopping_disk.StoppingDiskDisk.sync.Goals as goal

pub invariant_of-self : goal.invariant_of-self
invariant_of-self c =
    let disk = c.args.self.now in
    let asks = c.sync.ensures.asks in
    let (stops, still) = call-stops disk.disk c.sync.new.self disk.trace.deeds disk.stops asks.call.origin kind.Sync 0 0 c.sync.result asks.held asks.writes c.sync.ensures.planned.answer c.sync.ensures.planned.count in
    record { stops = stops; mirrored = still ∙ disk.mirrored }

pub invariant_of-self-2 : goal.invariant_of-self-2
invariant_of-self-2 c =
    let disk = c.args.self.now in
    let asks = c.in_ok-sync.ensures.asks in
    let (stops, still) = sync-stops disk.disk c.sync.new.self disk.trace.deeds disk.stops asks.call.origin kind.Sync 0 0 c.in_ok-sync.field-0 asks.held asks.writes c.in_ok-sync.ensures.planned.answer c.in_ok-sync.ensures.planned.count in
    record { stops = subst (IsStopping c.sync.new.self) (sym c.note.ensures) stops; mirrored = still ∙ disk.mirrored }
