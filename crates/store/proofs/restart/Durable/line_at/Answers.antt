use Rattle.store.proofs.Lemmas.{common_steps, ap, arith, subst, ◌∙◌, BankView, StoreView, ReadsLine, bank_inside}
use Rattle.store.proofs.restart.Durable.line_at.Goals as goal

pub returns : goal.returns
returns g c =
    subst (λ (bank : BankView). ReadsLine g.W.Outside bank c.args.of.now c.args.index c.line_at.new.into c.args.outside.now c.line_at.new.outside c.line_at.result) (c.chosen.ensures ∙ ap (λ (store : StoreView). store.bank) c.self.view_is) c.line_at.ensures

pub line_at-requires-clause-bank : goal.line_at-requires-clause-bank
line_at-requires-clause-bank g c = grind (arith, common_steps, bank_inside c.self.inside.header c.self.inside.banks c.chosen.result.now c.chosen.ensures c.self.invariant, c.requires.store.room)
