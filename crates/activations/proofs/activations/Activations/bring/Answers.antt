use Rattle.activations.proofs.Lemmas.{pages_wanted, wants_of, broken-off}
use Rattle.activations.proofs.activations.Activations.bring.Goals as goal

pub returns-in-Err-clause-brings : goal.returns-in-Err-clause-brings
returns-in-Err-clause-brings g c =
    let broke = broken-off g.W.Outside c.args.store.now c.args.outside.now c.args.self.now c.args.seat (pages_wanted (wants_of c.args.touch.now)) c.args.tally.now.pages
    c.roll_back.new.self c.fetch.new.tally.pages c.fetch.new.self c.fetch.ensures.shape c.roll_back.ensures.shape c.roll_back.ensures.undone c.roll_back.ensures.rolls
    c.in-Err.ensures.fetched in
    record { fetched = tt; broke = broke }
