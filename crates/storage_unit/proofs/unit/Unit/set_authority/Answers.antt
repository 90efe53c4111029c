use Rattle.storage_unit.proofs.Lemmas.{sym, ◌∙◌, ap, subst, List, length, Option, arith, length-set, Key, Placed, IsOfTable, opened-none}
use Rattle.storage_unit.proofs.unit.Unit.set_authority.Goals as goal

pub set_authority-requires : goal.set_authority-requires
set_authority-requires c = omega (arith, c.requires, c.args.self.now.entries)

pub invariant_of-self-clause-entries : goal.invariant_of-self-clause-entries
invariant_of-self-clause-entries c = ap (λ (table : Placed). length table.entries) c.set_authority.ensures ∙ length-set c.args.self.now.table.entries c.args.page c.args.value ∙ c.args.self.now.entries

pub invariant_of-self-clause-held : goal.invariant_of-self-clause-held
invariant_of-self-clause-held c = ap (λ (table : Placed). table.keys) c.set_authority.ensures ∙ c.args.self.now.held

pub invariant_of-self-clause-remembered : goal.invariant_of-self-clause-remembered
invariant_of-self-clause-remembered c = subst (λ (keys : List (Option Key)). IsOfTable c.args.self.now.buffer keys) (sym (ap (λ (table : Placed). table.keys) c.set_authority.ensures)) c.args.self.now.remembered

pub invariant_of-self-clause-opened : goal.invariant_of-self-clause-opened
invariant_of-self-clause-opened c = let unit = c.args.self.now in opened-none c.forget.new.self unit.directory c.set_authority.new.self unit.registers unit.runner c.forget.ensures
