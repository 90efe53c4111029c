use Rattle.frame_pool.proofs.Lemmas.{sym, slice_index, led-long}
use Rattle.frame_pool.proofs.arrivals.Arrivals.count.Goals as goal

pub returns : goal.returns
returns c = rw (← c.self.view_is) (sym (led-long c.self.inside.next.items c.self.inside.count (slice_index c.self.inside.next.items c.self.inside.pages)))
