use Rattle.storage_unit.proofs.Lemmas.{PoolFits, fits-stays, fits-settled, gone, seen-gone, sym, ◌∙◌, ap, subst, List, ℕ, length, Option, None, arith, slice_set, option_map_or, Key, Placed, Pool, IsSeen, frame_at, settled, gone-stays, keys_of, pages_begun, AreReady, AreClear, frames-held, keys-gone, without-keys, without-entries, opened-none}
use Rattle.storage_unit.proofs.LeaveLemmas.{seen-settled}
use Rattle.storage_unit.proofs.unit.Unit.undo.Goals as goal

pub leave_frame-requires-clause-room : goal.leave_frame-requires-clause-room
leave_frame-requires-clause-room c = frames-held c.args.self.now

pub undo-requires : goal.undo-requires
undo-requires c = omega (arith, c.requires, c.args.self.now.fits.pages)

pub invariant_of-self : goal.invariant_of-self
invariant_of-self c =
    let unit = c.args.self.now in
    let pool = unit.pool in
    let between = settled pool c.args.page c.args.lines in
    let new = c.undo.ensures in
    let stays = gone-stays between c.args.page in
    let seen : IsSeen between = seen-settled unit.directory pool pool.kept c.args.page c.args.lines unit.fits.seen (omega (arith, c.requires, unit.fits.pages)) in
    let table = c.leave_frame.ensures.table in
    record {
      sixteen = unit.sixteen;
      legal = unit.legal;
      fits = subst (PoolFits unit.directory) (sym new) (fits-stays unit.directory between (fits-settled unit.directory pool unit.fits c.args.page c.args.lines c.requires) (gone between c.args.page) (seen-gone between c.args.page seen) stays);
      entries = ap (λ (t : Placed). length t.entries) table ∙ ap length (without-entries unit.table (frame_at pool c.args.page)) ∙ unit.entries;
      held =
          ap (λ (t : Placed). t.keys) table
          ∙ without-keys unit.table (frame_at pool c.args.page)
          ∙ ap (λ (keys : List (Option Key)). option_map_or (λ frame. slice_set keys frame None) (frame_at pool c.args.page) keys) unit.held
          ∙ keys-gone unit.directory unit.legal between seen unit.fits.size unit.fits.pages (pages_begun unit.directory.page unit.begun) c.args.page
          ∙ ap (λ (p : Pool). keys_of unit.directory unit.begun p.frames p.page_in) (sym new);
      remembered = c.leave_frame.ensures.of_table;
      selected = unit.selected;
      ready = subst (λ (list : List ℕ). AreReady unit.rows list unit.runner) (sym (ap (λ (p : Pool). p.bytes) new ∙ stays.bytes)) unit.ready;
      opened = opened-none c.leave_frame.new.lines unit.directory c.leave_frame.new.table unit.registers unit.runner c.leave_frame.ensures.lines;
      clear = subst (λ (list : List ℕ). AreClear unit.used list) (sym (ap (λ (p : Pool). p.bytes) new ∙ stays.bytes)) unit.clear;
    }
