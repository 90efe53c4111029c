use Rattle.storage_unit.proofs.Lemmas.{refl, found-answer, found-lies}
use Rattle.storage_unit.proofs.storage.UnitStorage.probe.Goals as goal

pub answer-requires : goal.answer-requires
answer-requires c = found-lies c.args.self.now c.args.wants.now c.from-bytes.result c.locate.result c.in-Ok.first c.from-bytes.ensures c.locate.ensures c.in-Ok.is

pub returns-in-Ok-clause-answer : goal.returns-in-Ok-clause-answer
returns-in-Ok-clause-answer c = found-answer c.args.self.now c.args.wants.now c.from-bytes.result c.locate.result c.in-Ok.first c.from-bytes.ensures c.locate.ensures c.in-Ok.is _ (c.answer.ensures.answer c.args.wants.now refl refl)
