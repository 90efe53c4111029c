use Rattle.storage_unit.proofs.Lemmas.{PoolFits, fits-stays, pool_emptied, arith, nat_tests, sym, ◌∙◌, ap, subst, List, ℕ, length, Placed, Pair, IsOfTable, Pool, pages_begun, AreReady, AreClear, frames-held, emptied-stays, keys-emptied, none-of_table, opened-none}
use Rattle.storage_unit.proofs.StateLemmas.{fold-seen}
use Rattle.storage_unit.proofs.unit.Unit.empty.Goals as goal

pub leave_all-requires : goal.leave_all-requires
leave_all-requires c = frames-held c.args.self.now

pub invariant_of-self : goal.invariant_of-self
invariant_of-self c =
    let unit = c.args.self.now in
    let pool = unit.pool in
    let stays = emptied-stays pool in
    let new = c.empty.ensures in
    let table = c.leave_all.ensures in
    record {
      sixteen = unit.sixteen;
      legal = unit.legal;
      fits = subst (PoolFits unit.directory) (sym new) (fits-stays unit.directory pool unit.fits (pool_emptied pool) (fold-seen pool.resident pool unit.fits.seen) stays);
      entries = ap (λ (t : Placed). length t.entries) table ∙ unit.entries;
      held =
          grind (arith, nat_tests, unit.held, keys-emptied unit.directory unit.legal pool unit.fits.seen unit.fits.size unit.fits.pages (pages_begun unit.directory.page unit.begun));
      remembered = subst (λ (classes : List (List Pair)). IsOfTable classes c.leave_all.new.table.keys) (sym c.new-self.ensures) (none-of_table c.leave_all.new.table.keys);
      selected = unit.selected;
      ready = subst (λ (list : List ℕ). AreReady unit.rows list unit.runner) (sym (ap (λ (p : Pool). p.bytes) new ∙ stays.bytes)) unit.ready;
      opened = opened-none c.new-self-2.result unit.directory c.leave_all.new.table unit.registers unit.runner c.new-self-2.ensures;
      clear = subst (λ (list : List ℕ). AreClear unit.used list) (sym (ap (λ (p : Pool). p.bytes) new ∙ stays.bytes)) unit.clear;
    }
