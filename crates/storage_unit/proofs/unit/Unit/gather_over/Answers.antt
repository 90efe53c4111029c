use Rattle.storage_unit.proofs.Lemmas.{fits-lent, ◌≡◌, ◌+◌, ◌/◌, ◌%◌, ◌≤◌, length, sym, ◌∙◌, ap, subst, FitsFrom, stored_bytes, stored_bytes-long, put_at, byte_place, reach_of, known, after_store, AreUsed, gathered-at, unit-sound, open-room, open-long}
use Rattle.storage_unit.proofs.MarkedLemmas.{stored-over, ready-over, clear-over, open-within}
use Rattle.storage_unit.proofs.unit.Unit.gather_over.Goals.{After-gather, After-spot_mut}
use Rattle.storage_unit.proofs.unit.Unit.gather_over.Goals as goal

pub drop_rows-requires : goal.drop_rows-requires
drop_rows-requires c = record { within = λ low. subst (λ n. c.args.spot % 16384 + n ≤ 16384) (sym c.from-count.ensures) (open-within c.args.self.now c.args.wants.now c.args.spot c.requires.wants.fits.some c.requires.open low) }

pub use_bytes-requires-clause-within : goal.use_bytes-requires-clause-within
use_bytes-requires-clause-within c low = subst (λ n. c.args.spot % 16384 + n ≤ 16384) (sym c.from-count.ensures) (open-within c.args.self.now c.args.wants.now c.args.spot c.requires.wants.fits.some c.requires.open low)

pub spot_mut-requires : goal.spot_mut-requires
spot_mut-requires c = open-room c.args.self.now c.args.wants.now c.args.spot c.requires.wants.fits.some c.requires.open c.from-count.result c.from-count.ensures

lent : (c : After-spot_mut) → length c.spot_mut.result.now ≡ c.args.wants.now.bytes
lent c = ap length c.spot_mut.ensures.value ∙ open-long c.args.self.now c.args.wants.now c.args.spot c.requires.wants.fits.some c.requires.open c.from-count.result c.from-count.ensures ∙ c.from-count.ensures

pub gather-requires : goal.gather-requires
gather-requires c = subst (λ n. FitsFrom n c.args.from) (sym (lent (goal.at.gather-requires c).After-spot_mut)) c.requires.wants.fits

-- the bytes that are written
written : (c : After-gather) → length c.spot_mut.result.now ≡ c.args.wants.now.bytes → c.gather.new.into ≡ stored_bytes c.args.regs.now c.args.wants.now.bytes c.args.from
written c lent = c.gather.ensures ∙ ap (λ n. stored_bytes c.args.regs.now n c.args.from) lent

long : (c : After-gather) → length c.spot_mut.result.now ≡ c.args.wants.now.bytes → length c.gather.new.into ≡ c.args.wants.now.bytes
long c lent = ap length (written c lent) ∙ stored_bytes-long c.args.regs.now c.args.wants.now.bytes c.args.from c.told-regs c.requires.wants.fits

pub invariant_of-self : goal.invariant_of-self
invariant_of-self c =
    let unit = c.args.self.now in
    let wants = c.args.wants.now in
    let spot = c.args.spot in
    let after = (goal.at.invariant_of-self c).After-gather in
    let lent = lent (goal.at.invariant_of-self c).After-spot_mut in
    record {
      sixteen = unit.sixteen;
      legal = unit.legal;
      fits = fits-lent unit.directory unit.pool unit.fits spot c.gather.new.into;
      entries = unit.entries;
      held = unit.held;
      remembered = unit.remembered;
      selected = unit.selected;
      ready = ready-over unit wants spot c.requires.wants.fits.some c.requires.wants.kind c.requires.open c.gather.new.into (long after lent) c.drop_rows.new.rows
          (λ address. c.drop_rows.ensures address ∙ ap (λ m. after_store spot m address (known unit.rows address)) c.from-count.ensures);
      opened = unit.opened;
      clear = clear-over unit wants spot c.requires.wants.fits.some c.requires.wants.kind c.requires.open c.gather.new.into (long after lent) c.use_bytes.new.used c.use_bytes.ensures.shared
          (λ low. subst (λ m. AreUsed unit.used c.use_bytes.new.used (spot / 16384) (spot % 16384 + m)) c.from-count.ensures (c.use_bytes.ensures.private low));
    }

pub returns : goal.returns
returns c =
    let unit = c.args.self.now in
    let wants = c.args.wants.now in
    let after = (goal.at.returns c).After-gather in
    let lent = lent (goal.at.returns c).After-spot_mut in
    stored-over unit wants c.args.spot c.requires.wants.fits.some c.requires.wants.kind c.requires.open c.gather.new.into (long after lent)
    ∙ ap (put_at (reach_of unit) (byte_place unit.directory c.requires.open.first)) (written after lent)
    ∙ gathered-at (reach_of unit) (unit-sound unit) wants.address wants.bytes wants.store c.requires.open.first c.requires.open.opens.located c.args.regs.now c.args.from c.told-regs c.requires.wants.fits
