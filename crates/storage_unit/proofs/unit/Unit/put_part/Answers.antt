use Rattle.storage_unit.proofs.Lemmas.{fits-part, ℕ, List, length, sym, ◌∙◌, ap, subst, Pool, lines_of_part, put_at, byte_place, keys_of, reach_of, nat_tests, arith, page_bytes, ◌*◌, ◌+◌, common_steps, AreOpened, found-below, found-some, none-of, opened-more, unit-sound, part-long, pool-after, marked-keys, stored-part, ready-part, clear-part, spot-within}
use Rattle.storage_unit.proofs.unit.Unit.put_part.Goals as goal

pub part_mut-requires-clause-frame : goal.part_mut-requires-clause-frame
part_mut-requires-clause-frame c =
    let unit = c.args.self.now in
    found-below (reach_of unit) c.args.first c.in-Some.frame (unit-sound unit) (sym c.frame_at.ensures ∙ c.in-Some.is)

pub drop_rows-requires : goal.drop_rows-requires
drop_rows-requires c = record {
  within = λ low.
      spot-within c.args.self.now c.args.first c.in-Some.frame (length c.args.from.now) (sym c.frame_at.ensures ∙ c.in-Some.is) c.requires.can.some c.requires.can.lies
      c.spot_of-spot.result (c.spot_of-spot.ensures ∙ ap (λ size. c.in-Some.frame * page_bytes size + c.args.first.byte) c.page.ensures) low;
}

pub use_bytes-requires-clause-within : goal.use_bytes-requires-clause-within
use_bytes-requires-clause-within c low =
    spot-within c.args.self.now c.args.first c.in-Some.frame (length c.args.from.now) (sym c.frame_at.ensures ∙ c.in-Some.is) c.requires.can.some c.requires.can.lies
    c.spot_of-spot.result (c.spot_of-spot.ensures ∙ ap (λ size. c.in-Some.frame * page_bytes size + c.args.first.byte) c.page.ensures) low

pub copy_from_slice-requires : goal.copy_from_slice-requires
copy_from_slice-requires c = grind (arith, nat_tests, part-long)

pub invariant_of-self : goal.invariant_of-self
invariant_of-self c =
    let unit = c.args.self.now in
    let frame = c.in-Some.frame in
    let n = length c.args.from.now in
    let is = sym c.frame_at.ensures ∙ c.in-Some.is in
    let lines : List ℕ = lines_of_part unit.pool.page c.from.result n in
    let new = pool-after unit c.args.first frame c.from.result n is c.from.ensures c.requires.within lines c.copy_from_slice.new.self (ap length c.copy_from_slice.ensures.after) in
    record {
      sixteen = unit.sixteen;
      legal = unit.legal;
      fits = fits-part unit.directory unit.pool unit.fits frame lines _ c.copy_from_slice.new.self;
      entries = unit.entries;
      held = unit.held ∙ sym (ap (λ (p : Pool). keys_of unit.directory unit.begun p.frames p.page_in) new ∙ marked-keys unit.directory unit.begun unit.pool frame lines);
      remembered = unit.remembered;
      selected = unit.selected;
      ready = ready-part unit c.args.first frame c.from.result n is c.from.ensures c.requires.within c.requires.can.some c.requires.can.lies c.copy_from_slice.new.self (ap length c.copy_from_slice.ensures.after)
          c.spot_of-spot.result (c.spot_of-spot.ensures ∙ ap (λ size. frame * page_bytes size + c.args.first.byte) c.page.ensures) c.drop_rows.new.rows c.drop_rows.ensures;
      opened = subst (λ (list : List (List ℕ)). AreOpened unit.lines unit.directory unit.table unit.registers list unit.runner) (sym (ap (λ (p : Pool). p.marked) new)) (opened-more unit frame lines);
      clear = clear-part unit c.args.first frame c.from.result n is c.from.ensures c.requires.within c.requires.can.some c.requires.can.lies c.copy_from_slice.new.self (ap length c.copy_from_slice.ensures.after)
          c.spot_of-spot.result (c.spot_of-spot.ensures ∙ ap (λ size. frame * page_bytes size + c.args.first.byte) c.page.ensures) c.use_bytes.new.used c.use_bytes.ensures.shared c.use_bytes.ensures.private;
    }

pub returns-in-Some : goal.returns-in-Some
returns-in-Some c =
    let unit = c.args.self.now in
    stored-part unit c.args.first c.in-Some.frame c.from.result (length c.args.from.now) (sym c.frame_at.ensures ∙ c.in-Some.is) c.from.ensures c.requires.within c.requires.can.some c.requires.can.lies c.copy_from_slice.new.self (ap length c.copy_from_slice.ensures.after)
    ∙ ap (put_at (reach_of unit) (byte_place unit.directory c.args.first)) c.copy_from_slice.ensures.after

pub returns-in_default : goal.returns-in_default
returns-in_default c =
    let unit = c.args.self.now in
    absurd (found-some (reach_of unit) (unit-sound unit) c.args.first (length c.args.from.now) c.requires.can.some c.requires.can.lies c.requires.can.there
    (sym c.frame_at.ensures ∙ (none-of c.frame_at.result c.in_default.not-Some)))

pub frame_at-requires : goal.frame_at-requires
frame_at-requires c = grind (arith, common_steps)
