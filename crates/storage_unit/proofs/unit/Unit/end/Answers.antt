use Rattle.storage_unit.proofs.Lemmas.{◌≡◌, ◌≢◌, ℕ, ◌*◌, ◌<◌, false, List, length, sym, ◌∙◌, ap, arith, Option, None, replicate, slice_set, length-replicate, get_or-set_other, length-set, overlaid, Key, Placed, Registers, Unit, seat_pages, keys_of, pages_begun, nat_tests, seat-room, keys-long, keys-seat, begun-other, holds-none, ready-none, opened-none}
use Rattle.storage_unit.proofs.unit.Unit.end.Goals as goal

pub leave_pages-requires-clause-room : goal.leave_pages-requires-clause-room
leave_pages-requires-clause-room c = grind (arith, nat_tests, seat-room, keys-long)

held : (unit : Unit) (seat at count set : ℕ) (keys : List (Option Key)) → seat < 16 → at ≡ seat * seat_pages unit.directory.page → count ≡ seat_pages unit.directory.page → set ≡ seat
    → keys ≡ overlaid unit.table.keys at (replicate count None)
    → keys ≡ keys_of unit.directory (slice_set unit.begun set false) unit.pool.frames unit.pool.page_in
held unit seat at count set keys few is all also left =
    let pool = unit.pool in
    let inside : seat < length unit.begun = omega (arith, few, unit.sixteen) in
    left
    ∙ ap (λ n. overlaid unit.table.keys n (replicate count None)) is
    ∙ ap (λ n. overlaid unit.table.keys (seat * seat_pages unit.directory.page) (replicate n None)) all
    ∙ ap (λ (keys : List (Option Key)). overlaid keys (seat * seat_pages unit.directory.page) (replicate (seat_pages unit.directory.page) None)) unit.held
    ∙ keys-seat unit.directory (pages_begun unit.directory.page unit.begun) (pages_begun unit.directory.page (slice_set unit.begun seat false)) pool.frames pool.page_in seat (replicate (seat_pages unit.directory.page) None) few
    (length-replicate (seat_pages unit.directory.page) (let none : Option Key = None in none)) (λ index small e. holds-none unit.directory.page unit.begun seat index e inside small) (λ other apart. begun-other unit.directory.page unit.begun seat other false apart)
    ∙ ap (λ n. keys_of unit.directory (slice_set unit.begun n false) pool.frames pool.page_in) (sym also)

pub invariant_of-self : goal.invariant_of-self
invariant_of-self c =
    let unit = c.args.self.now in
    record {
      sixteen = length-set unit.begun c.from.result false ∙ unit.sixteen;
      legal = unit.legal;
      fits = unit.fits;
      entries = ap (λ (t : Placed). length t.entries) c.leave_pages.ensures.table ∙ unit.entries;
      held = held unit c.args.seat c.first_frame.result c.seat_pages.result c.from.result c.leave_pages.new.table.keys c.requires
          (c.first_frame.ensures.value ∙ ap (λ s. c.args.seat * seat_pages s) c.page-page.ensures) (c.seat_pages.ensures.value ∙ ap seat_pages c.page-page.ensures) c.from.ensures (ap (λ (t : Placed). t.keys) c.leave_pages.ensures.table);
      remembered = c.leave_pages.ensures.of_table;
      selected = record { none = λ is. c.none-self.ensures ∙ ap (λ page. (let none : Registers = record { page = page; list = replicate 16 None } in none)) c.page-page.ensures; few = omega arith; seat = λ other is. absurd (omega (arith, is)) };
      ready = ready-none c.forget-then-self-seat.new.self unit.pool.bytes 0 c.forget-then-self-seat.ensures;
      opened = opened-none c.forget.new.self unit.directory c.leave_pages.new.table c.none-self.result 0 c.forget.ensures;
      clear = unit.clear;
    }

pub invariant_of-self-else-self-seat : goal.invariant_of-self-else-self-seat
invariant_of-self-else-self-seat c =
    let unit = c.args.self.now in
    record {
      sixteen = length-set unit.begun c.from.result false ∙ unit.sixteen;
      legal = unit.legal;
      fits = unit.fits;
      entries = ap (λ (t : Placed). length t.entries) c.leave_pages.ensures.table ∙ unit.entries;
      held = held unit c.args.seat c.first_frame.result c.seat_pages.result c.from.result c.leave_pages.new.table.keys c.requires
          (c.first_frame.ensures.value ∙ ap (λ s. c.args.seat * seat_pages s) c.page-page.ensures) (c.seat_pages.ensures.value ∙ ap seat_pages c.page-page.ensures) c.from.ensures (ap (λ (t : Placed). t.keys) c.leave_pages.ensures.table);
      remembered = c.leave_pages.ensures.of_table;
      selected = record {
        none = unit.selected.none;
        few = unit.selected.few;
        seat = λ other is.
            let old = unit.selected.seat other is in
            let apart : other ≢ c.from.result = λ same. c.if-self-seat.false (omega (arith, is, same, c.from.ensures)) in
            (get_or-set_other unit.begun c.from.result other false false apart ∙ old.0, old.1);
      };
      ready = unit.ready;
      opened = opened-none c.forget.new.self unit.directory c.leave_pages.new.table unit.registers unit.runner c.forget.ensures;
      clear = unit.clear;
    }
