use Rattle.storage_unit.proofs.Lemmas.{found, found-lies}
use Rattle.storage_unit.proofs.unit.Unit.write_any.Goals as goal

pub is_in_page-requires : goal.is_in_page-requires
is_in_page-requires c = (found-lies c.args.self.now c.args.wants.now c.from-bytes.result c.locate.result c.in-Ok.first c.from-bytes.ensures c.locate.ensures c.in-Ok.is).within

pub gather_at-requires-clause-located : goal.gather_at-requires-clause-located
gather_at-requires-clause-located c = found c.args.self.now c.args.wants.now c.from-bytes.result c.locate.result c.in-Ok.first c.from-bytes.ensures c.locate.ensures c.in-Ok.is
