use Rattle.storage_unit.proofs.Lemmas.{fits-lent, ◌≡◌, ℕ, ◌+◌, ◌-◌, ◌*◌, ◌<◌, ◌≤◌, Bool, true, false, List, ◌++◌, length, replicate, sym, ◌∙◌, ap, subst, arith, Option, None, inl, inr, cases_eq, nat_tests, get_or_default, get_or-set_same, get_or-set_other, length-set, length-take, length-drop, length-append, length-replicate, overlaid, Key, key_to, Placed, key_in, look_up, Pool, private_frames, with_bytes, with_frame_part, lent-part, reach_of, Unit, private_segment, seat_pages, keys_of, pages_begun, first_keys, slice_index, nat_lt, if◌then◌else◌, slice_set, slice_range, slice_index_or, Some, AreClear, seat-frame, seat-room, key-at, keys-long, held-private, finds-private, keys-seat, first-long, begun-other, holds-first, free-at, all-private, unit-sound, clear-begun, seat-clear, ready-none, opened-none}
use Rattle.storage_unit.proofs.unit.Unit.begin.Goals as goal

-- the seat isn't begun
not-begun : (unit : Unit) (seat : ℕ) → seat < 16 → slice_index_or unit.begun seat true ≡ false → slice_index_or unit.begun seat false ≡ false
not-begun unit seat few fresh = get_or_default unit.begun seat false true (omega (arith, few, unit.sixteen)) ∙ fresh

free : (unit : Unit) (seat index : ℕ) → seat < 16 → index < seat_pages unit.directory.page → slice_index_or unit.begun seat true ≡ false → key_in unit.table.keys (seat * seat_pages unit.directory.page + index) ≡ None
free unit seat index few small fresh =
    let pool = unit.pool in
    let t = pages_begun unit.directory.page unit.begun in
    cc (
      unit.held,
      key-at unit.directory t pool.frames pool.page_in (seat * seat_pages unit.directory.page + index) (omega (arith, seat-frame unit.directory.page seat index few small)),
      held-private unit.directory t pool.page_in (seat * seat_pages unit.directory.page + index) (seat-frame unit.directory.page seat index few small),
      free-at unit.directory.page unit.begun seat index (not-begun unit seat few fresh) small,
    )

absent : (unit : Unit) (seat index : ℕ) → seat < 16 → index < seat_pages unit.directory.page → slice_index_or unit.begun seat true ≡ false → look_up unit.table.keys (key_to (private_segment seat) index) ≡ None
absent unit seat index few small fresh =
    let pool = unit.pool in
    let outside : nat_lt index 0 ≡ false = grind (arith, nat_tests) in
    ap (λ (keys : List (Option Key)). look_up keys (key_to (private_segment seat) index)) unit.held
    ∙ finds-private unit.directory unit.legal pool unit.fits.seen unit.fits.size unit.fits.pages (pages_begun unit.directory.page unit.begun) seat index few small
    ∙ ap (λ (on : Bool). if nat_lt index (if on then seat_pages unit.directory.page else 0) then Some (seat * seat_pages unit.directory.page + index) else None) (not-begun unit seat few fresh)
    ∙ ap (λ (b : Bool). if b then Some (seat * seat_pages unit.directory.page + index) else None) outside

room : (unit : Unit) → length unit.table.keys ≡ private_frames unit.directory.page + unit.pool.frames
room unit = ap length unit.held ∙ keys-long unit.directory (pages_begun unit.directory.page unit.begun) unit.pool.frames unit.pool.page_in

pub enter_pages-requires : goal.enter_pages-requires
enter_pages-requires c = grind (arith, nat_tests, room, seat-room, free, absent)

-- the private bytes of the seat, filled
lent-long : (unit : Unit) (seat : ℕ) → seat < 16 → length (slice_range unit.pool.bytes (seat * 16384) (seat * 16384 + 16384)) ≡ 16384
lent-long unit seat few = simp (length-take, length-drop) (omega (arith, few, all-private (reach_of unit) (unit-sound unit)))

filled : (unit : Unit) (seat : ℕ) (image lent bytes : List ℕ) → seat < 16 → length image ≤ 16384 → lent ≡ slice_range unit.pool.bytes (seat * 16384) (seat * 16384 + 16384)
    → bytes ≡ image ++ replicate (length lent - length image) 0
    → with_frame_part unit.pool (seat * 16384) bytes ≡ with_bytes unit.pool (seat * 16384) (image ++ replicate (16384 - length image) 0)
filled unit seat image lent bytes few short borrowed is =
    let whole : bytes ≡ image ++ replicate (16384 - length image) 0 = is ∙ ap (λ n. image ++ replicate (n - length image) 0) (ap length borrowed ∙ lent-long unit seat few) in
    let long : length bytes ≡ 16384 = ap length whole ∙ length-append image (replicate (16384 - length image) 0) ∙ omega (arith, short, length-replicate {A = ℕ} (16384 - length image) 0) in
    lent-part unit.pool (seat * 16384) bytes (omega (arith, few, long, all-private (reach_of unit) (unit-sound unit)))
    ∙ ap (with_bytes unit.pool (seat * 16384)) whole

pub lay_image-requires-clause-image : goal.lay_image-requires-clause-image
lay_image-requires-clause-image c =
    let unit = c.args.self.now in
    omega (arith, c.requires.image, ap length c.private_mut.ensures.value, lent-long unit c.args.seat c.requires.seat)

pub lay_image-requires-clause-used : goal.lay_image-requires-clause-used
lay_image-requires-clause-used c =
    let unit = c.args.self.now in
    omega (arith, unit.clear.few c.from-place.result, ap length c.private_mut.ensures.value, lent-long unit c.args.seat c.requires.seat)

pub lay_image-requires-clause-clear : goal.lay_image-requires-clause-clear
lay_image-requires-clause-clear c offset past =
    let unit = c.args.self.now in
    ap (λ (list : List ℕ). slice_index list offset) c.private_mut.ensures.value
    ∙ seat-clear unit.used unit.pool.bytes c.args.seat c.requires.seat unit.clear offset (omega (arith, past, ap (slice_index unit.used) c.from-place.ensures))

pub invariant_of-self : goal.invariant_of-self
invariant_of-self c =
    let unit = c.args.self.now in
    let pool = unit.pool in
    let seat = c.args.seat in
    let inside : seat < length unit.begun = omega (arith, c.requires.seat, unit.sixteen) in
    let page = unit.directory.page in
    let at : c.from-place.result ≡ seat = c.from-place.ensures in
    let first : c.first_frame.result ≡ seat * seat_pages page = c.first_frame.ensures.value ∙ ap (λ s. seat * seat_pages s) c.page-page.ensures in
    let count : c.seat_pages.result ≡ seat_pages page = c.seat_pages.ensures.value ∙ ap seat_pages c.page-page.ensures in
    let new = filled unit seat c.args.image.now c.private_mut.result.now c.lay_image.new.bytes c.requires.seat c.requires.image c.private_mut.ensures.value c.lay_image.ensures in
    record {
      sixteen = length-set unit.begun c.from-place.result true ∙ unit.sixteen;
      legal = unit.legal;
      fits = fits-lent unit.directory unit.pool unit.fits _ c.lay_image.new.bytes;
      entries = ap (λ (t : Placed). length t.entries) c.enter_pages.ensures.table ∙ unit.entries;
      held =
          ap (λ (t : Placed). t.keys) c.enter_pages.ensures.table
          ∙ ap (λ n. overlaid unit.table.keys n (first_keys (3840 + c.from.result) c.seat_pages.result)) first
          ∙ ap (λ n. overlaid unit.table.keys (seat * seat_pages page) (first_keys (3840 + n) c.seat_pages.result)) c.from.ensures
          ∙ ap (λ n. overlaid unit.table.keys (seat * seat_pages page) (first_keys (private_segment seat) n)) count
          ∙ ap (λ (keys : List (Option Key)). overlaid keys (seat * seat_pages page) (first_keys (private_segment seat) (seat_pages page))) unit.held
          ∙ keys-seat unit.directory (pages_begun unit.directory.page unit.begun) (pages_begun unit.directory.page (slice_set unit.begun seat true)) pool.frames pool.page_in seat (first_keys (private_segment seat) (seat_pages page)) c.requires.seat
          (first-long (private_segment seat) (seat_pages page)) (λ index small e. holds-first page unit.begun seat index e inside small) (λ other apart. begun-other page unit.begun seat other true apart)
          ∙ ap (λ n. keys_of unit.directory (slice_set unit.begun n true) pool.frames pool.page_in) (sym at)
          ∙ ap (λ (p : Pool). keys_of unit.directory (slice_set unit.begun c.from-place.result true) p.frames p.page_in) (sym new);
      remembered = c.enter_pages.ensures.of_table unit.buffer unit.remembered;
      selected = record {
        none = unit.selected.none;
        few = unit.selected.few;
        seat = λ other is.
            let old = unit.selected.seat other is in (
              elim (cases_eq other c.from-place.result) [
                | inl same ↦
                    ap (λ n. slice_index_or (slice_set unit.begun c.from-place.result true) n false) same
                    ∙ get_or-set_same unit.begun c.from-place.result true false (omega (arith, inside, at))
                | inr apart ↦ get_or-set_other unit.begun c.from-place.result other true false apart ∙ old.0
              ],
              old.1,
            );
      };
      ready = ready-none c.forget.new.self _ unit.runner c.forget.ensures;
      opened = opened-none c.forget-2.new.self unit.directory c.enter_pages.new.table unit.registers unit.runner c.forget-2.ensures;
      clear =
          subst (λ (list : List ℕ). AreClear (slice_set unit.used c.from-place.result (length c.args.image.now)) list) (sym (ap (λ (p : Pool). p.bytes) new))
          (subst (λ n. AreClear (slice_set unit.used n (length c.args.image.now)) (overlaid pool.bytes (seat * 16384) (c.args.image.now ++ replicate (16384 - length c.args.image.now) 0))) (sym at)
          (clear-begun unit.used pool.bytes c.args.image.now seat c.requires.seat c.requires.image (all-private (reach_of unit) (unit-sound unit)) unit.clear));
    }

pub returns : goal.returns
returns c = grind (arith, nat_tests, replicate, filled)
