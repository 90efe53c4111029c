use Rattle.storage_unit.proofs.Lemmas.{fits-as, ◌≡◌, sym, ◌∙◌, ap, subst, List, ℕ, length, arith, Pool, AreOfPages, keys_of, reach_of, AreReady, AreClear, AreOpened, laid-bytes, clear-kept, ready-kept, unit-sound}
use Rattle.storage_unit.proofs.LaidLemmas.{laid-low}
use Rattle.storage_unit.proofs.unit.Unit.lay_kept.Goals as goal

pub lay_kept-requires : goal.lay_kept-requires
lay_kept-requires c = omega (arith, c.requires, c.args.self.now.fits.pages)

pub invariant_of-self : goal.invariant_of-self
invariant_of-self c =
    let unit = c.args.self.now in
    let new : c.lay_kept.new.self ≡ _ = c.lay_kept.ensures.value ∙ laid-bytes unit.pool c.args.page in
    record {
      sixteen = unit.sixteen;
      legal = unit.legal;
      fits = fits-as unit.directory unit.pool c.lay_kept.new.self unit.fits c.lay_kept.ensures.seen (ap (λ (p : Pool). p.page) new) (ap (λ (p : Pool). length p.frame_of) new)
          (subst (λ (list : List (List ℕ)). AreOfPages list) (sym (ap (λ (p : Pool). p.marked) new)) unit.fits.marks);
      entries = unit.entries;
      held = unit.held ∙ ap (λ (p : Pool). keys_of unit.directory unit.begun p.frames p.page_in) (sym new);
      remembered = unit.remembered;
      selected = unit.selected;
      ready =
          subst (λ (list : List ℕ). AreReady unit.rows list unit.runner) (sym (ap (λ (p : Pool). p.bytes) c.lay_kept.ensures.value))
          (ready-kept unit.rows unit.pool.bytes _ unit.runner unit.selected.few (laid-low (reach_of unit) (unit-sound unit) c.args.page) unit.ready);
      opened = subst (λ (list : List (List ℕ)). AreOpened unit.lines unit.directory unit.table unit.registers list unit.runner) (sym (ap (λ (p : Pool). p.marked) new)) unit.opened;
      clear =
          subst (λ (list : List ℕ). AreClear unit.used list) (sym (ap (λ (p : Pool). p.bytes) c.lay_kept.ensures.value))
          (clear-kept unit.used unit.pool.bytes _ (laid-low (reach_of unit) (unit-sound unit) c.args.page) unit.clear);
    }
