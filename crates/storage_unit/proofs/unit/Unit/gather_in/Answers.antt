use Rattle.storage_unit.proofs.Lemmas.{fits-part, ◌≡◌, ℕ, ◌+◌, ◌≤◌, List, length, sym, ◌∙◌, ap, subst, arith, page_bytes, stored_bytes, stored_bytes-long, Pool, lines_of_part, put_at, byte_place, keys_of, Lies, reach_of, nat_tests, ◌*◌, AreOpened, found-below, part-long, pool-after, marked-keys, opened-more, unit-sound, stored-part, ready-part, clear-part, spot-within}
use Rattle.storage_unit.proofs.unit.Unit.gather_in.Goals as goal

pub part_mut-requires-clause-frame : goal.part_mut-requires-clause-frame
part_mut-requires-clause-frame c =
    let unit = c.args.self.now in
    found-below (reach_of unit) c.args.first c.args.frame (unit-sound unit) c.requires.frame

pub drop_rows-requires : goal.drop_rows-requires
drop_rows-requires c = record {
  within = λ low.
      spot-within c.args.self.now c.args.first c.args.frame c.from-count.result c.requires.frame (omega (arith, c.from-count.ensures, c.requires.fits.some)) (subst (Lies (reach_of c.args.self.now) c.args.first) (sym c.from-count.ensures) c.requires.lies)
      c.spot_of-spot.result (c.spot_of-spot.ensures ∙ ap (λ size. c.args.frame * page_bytes size + c.args.first.byte) c.page.ensures) low;
}

pub use_bytes-requires-clause-within : goal.use_bytes-requires-clause-within
use_bytes-requires-clause-within c low =
    spot-within c.args.self.now c.args.first c.args.frame c.from-count.result c.requires.frame (omega (arith, c.from-count.ensures, c.requires.fits.some)) (subst (Lies (reach_of c.args.self.now) c.args.first) (sym c.from-count.ensures) c.requires.lies)
    c.spot_of-spot.result (c.spot_of-spot.ensures ∙ ap (λ size. c.args.frame * page_bytes size + c.args.first.byte) c.page.ensures) low

pub gather-requires : goal.gather-requires
gather-requires c = grind (arith, nat_tests, part-long)

pub invariant_of-self : goal.invariant_of-self
invariant_of-self c =
    let unit = c.args.self.now in
    let frame = c.args.frame in
    let n = c.from-count.result in
    let fits : c.args.first.byte + n ≤ page_bytes unit.directory.page = omega (arith, c.requires.within, c.from-count.ensures) in
    let lines : List ℕ = lines_of_part unit.pool.page c.from.result n in
    let part : length c.part_mut.result.now ≡ n = ap length c.part_mut.ensures.value ∙ part-long unit c.args.first frame c.from.result n c.requires.frame c.from.ensures fits in
    let long : length c.gather.new.into ≡ n =
    ap length (c.gather.ensures ∙ ap (λ m. stored_bytes c.args.regs.now m c.args.from) (part ∙ c.from-count.ensures)) ∙ stored_bytes-long c.args.regs.now c.args.bytes c.args.from c.told-regs c.requires.fits ∙ sym c.from-count.ensures in
    let new = pool-after unit c.args.first frame c.from.result n c.requires.frame c.from.ensures fits lines c.gather.new.into long in
    record {
      sixteen = unit.sixteen;
      legal = unit.legal;
      fits = fits-part unit.directory unit.pool unit.fits frame lines _ c.gather.new.into;
      entries = unit.entries;
      held = unit.held ∙ sym (ap (λ (p : Pool). keys_of unit.directory unit.begun p.frames p.page_in) new ∙ marked-keys unit.directory unit.begun unit.pool frame lines);
      remembered = unit.remembered;
      selected = unit.selected;
      ready = ready-part unit c.args.first frame c.from.result n c.requires.frame c.from.ensures fits (omega (arith, c.from-count.ensures, c.requires.fits.some)) (subst (Lies (reach_of unit) c.args.first) (sym c.from-count.ensures) c.requires.lies) c.gather.new.into long
          c.spot_of-spot.result (c.spot_of-spot.ensures ∙ ap (λ size. frame * page_bytes size + c.args.first.byte) c.page.ensures) c.drop_rows.new.rows c.drop_rows.ensures;
      opened = subst (λ (list : List (List ℕ)). AreOpened unit.lines unit.directory unit.table unit.registers list unit.runner) (sym (ap (λ (p : Pool). p.marked) new)) (opened-more unit frame lines);
      clear = clear-part unit c.args.first frame c.from.result n c.requires.frame c.from.ensures fits (omega (arith, c.from-count.ensures, c.requires.fits.some)) (subst (Lies (reach_of unit) c.args.first) (sym c.from-count.ensures) c.requires.lies) c.gather.new.into long
          c.spot_of-spot.result (c.spot_of-spot.ensures ∙ ap (λ size. frame * page_bytes size + c.args.first.byte) c.page.ensures) c.use_bytes.new.used c.use_bytes.ensures.shared c.use_bytes.ensures.private;
    }

pub returns : goal.returns
returns c =
    let unit = c.args.self.now in
    let frame = c.args.frame in
    let n = c.from-count.result in
    let list : List ℕ = stored_bytes c.args.regs.now c.args.bytes c.args.from in
    let fits : c.args.first.byte + n ≤ page_bytes unit.directory.page = omega (arith, c.requires.within, c.from-count.ensures) in
    let part : length c.part_mut.result.now ≡ n = ap length c.part_mut.ensures.value ∙ part-long unit c.args.first frame c.from.result n c.requires.frame c.from.ensures fits in
    let whole : length list ≡ c.args.bytes = stored_bytes-long c.args.regs.now c.args.bytes c.args.from c.told-regs c.requires.fits in
    let is : c.gather.new.into ≡ list = c.gather.ensures ∙ ap (λ m. stored_bytes c.args.regs.now m c.args.from) (part ∙ c.from-count.ensures) in
    stored-part unit c.args.first frame c.from.result n c.requires.frame c.from.ensures fits (omega (arith, c.from-count.ensures, c.requires.fits.some)) (subst (Lies (reach_of unit) c.args.first) (sym c.from-count.ensures) c.requires.lies) c.gather.new.into (ap length is ∙ whole ∙ sym c.from-count.ensures)
    ∙ ap (put_at (reach_of unit) (byte_place unit.directory c.args.first)) is
