use Rattle.storage_unit.proofs.Lemmas.{PoolFits, fits-settled, ap, subst, sym, ◌∙◌, List, ℕ, arith, Pool, keys_of, AreReady, AreClear, opened-none}
use Rattle.storage_unit.proofs.unit.Unit.settle.Goals as goal

pub settle-requires : goal.settle-requires
settle-requires c = omega (arith, c.requires, c.args.self.now.fits.pages)

pub invariant_of-self : goal.invariant_of-self
invariant_of-self c =
    let unit = c.args.self.now in
    let new = c.settle.ensures in
    record {
      sixteen = unit.sixteen;
      legal = unit.legal;
      fits = subst (PoolFits unit.directory) (sym new) (fits-settled unit.directory unit.pool unit.fits c.args.page c.args.lines c.requires);
      entries = unit.entries;
      held = unit.held ∙ sym (ap (λ (p : Pool). keys_of unit.directory unit.begun p.frames p.page_in) new);
      remembered = unit.remembered;
      selected = unit.selected;
      ready = subst (λ (list : List ℕ). AreReady unit.rows list unit.runner) (sym (ap (λ (p : Pool). p.bytes) new)) unit.ready;
      opened = opened-none c.forget.new.self unit.directory unit.table unit.registers unit.runner c.forget.ensures;
      clear = subst (λ (list : List ℕ). AreClear unit.used list) (sym (ap (λ (p : Pool). p.bytes) new)) unit.clear;
    }
