use Rattle.storage_unit.proofs.Lemmas.{sym, ◌∙◌, ap, subst, List, length, Option, length-map, Key, Placed, cleared_entry, IsOfTable, opened-none}
use Rattle.storage_unit.proofs.unit.Unit.clear_among.Goals as goal

pub invariant_of-self-clause-entries : goal.invariant_of-self-clause-entries
invariant_of-self-clause-entries c = ap (λ (table : Placed). length table.entries) c.clear_among.ensures ∙ length-map c.args.self.now.table.entries (cleared_entry c.args.tid) ∙ c.args.self.now.entries

pub invariant_of-self-clause-held : goal.invariant_of-self-clause-held
invariant_of-self-clause-held c = ap (λ (table : Placed). table.keys) c.clear_among.ensures ∙ c.args.self.now.held

pub invariant_of-self-clause-remembered : goal.invariant_of-self-clause-remembered
invariant_of-self-clause-remembered c = subst (λ (keys : List (Option Key)). IsOfTable c.args.self.now.buffer keys) (sym (ap (λ (table : Placed). table.keys) c.clear_among.ensures)) c.args.self.now.remembered

pub invariant_of-self-clause-opened : goal.invariant_of-self-clause-opened
invariant_of-self-clause-opened c = let unit = c.args.self.now in opened-none c.forget.new.self unit.directory c.clear_among.new.self unit.registers unit.runner c.forget.ensures
