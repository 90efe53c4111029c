use Rattle.storage_unit.proofs.Lemmas.{fits-brought, ◌≡◌, ℕ, ◌<◌, ◌≤◌, false, List, length, sym, ◌∙◌, ap, subst, arith, Option, Some, None, slice_set, option_and_then, option_map_or, Key, Placed, key_in, look_up, without_frame, IsOfTable, of_table-entered, Pool, private_frames, frame_count, frame_at, page_out, with_room, Brought, IsSeen, has, page_count, length-set, Stays, Unit, key_among, key_of_page, keys_of, pages_begun, nat_tests, AreReady, AreClear, key-at, keys-long, held-store, finds-page, keys-store, frames-held, room-stays, room-none, keys-room, without-keys, without-entries, opened-none, Pair, get_or-set_same}
use Rattle.page_table.proofs.BufferLemmas.{after-of, unremembered}
use Rattle.storage_unit.proofs.Common.{after_found}
use Rattle.storage_unit.proofs.unit.Unit.bring.Goals as goal

module _ (unit : Unit) (page : ℕ) (keep : Option ℕ) where
  abbrev room : Pool
  room = with_room unit.pool keep

  -- the table when it has left
  keys-between : (table : Placed) → table ≡ option_map_or (without_frame unit.table) (option_and_then (frame_at unit.pool) (page_out unit.pool keep)) unit.table
      → table.keys ≡ keys_of unit.directory unit.begun room.frames room.page_in
  keys-between table now =
      grind (
        arith,
        nat_tests,
        without-keys unit.table (option_and_then (frame_at unit.pool) (page_out unit.pool keep)),
        unit.held,
        keys-room unit.directory unit.legal unit.pool unit.fits.seen unit.fits.size unit.fits.pages (pages_begun unit.directory.page unit.begun) keep,
      )

  module _ (new : Pool) (frame : ℕ) (came : Brought unit.pool new page keep frame) (within : page < page_count unit.directory) (absent : has unit.pool.resident page ≡ false) where
    stays : Stays unit.pool room
    stays = (room-stays unit.pool keep unit.fits.seen).1

    seen : IsSeen room
    seen = (room-stays unit.pool keep unit.fits.seen).0

    size : room.page ≡ unit.directory.page
    size = stays.page ∙ unit.fits.size

    pages : length room.frame_of ≡ page_count unit.directory
    pages = stays.frame_of ∙ unit.fits.pages

    above : private_frames unit.directory.page ≤ frame
    above = subst (λ s. private_frames s ≤ frame) unit.fits.size came.above

    below : frame < frame_count unit.directory.page room.frames
    below = omega (arith, subst (λ s. frame < frame_count s unit.pool.frames) unit.fits.size came.below, stays.frames)

    free : key_in (keys_of unit.directory unit.begun room.frames room.page_in) frame ≡ None
    free = grind (arith, nat_tests, key-at unit.directory (pages_begun unit.directory.page unit.begun) room.frames room.page_in frame below, held-store unit.directory (pages_begun unit.directory.page unit.begun) room.page_in frame above)

    unfound : look_up (keys_of unit.directory unit.begun room.frames room.page_in) (key_of_page unit.directory page) ≡ None
    unfound =
        finds-page unit.directory unit.legal room seen size pages (pages_begun unit.directory.page unit.begun) page within
        ∙ room-none unit.pool keep page (grind (arith, nat_tests))

    entered-keys : slice_set (keys_of unit.directory unit.begun room.frames room.page_in) frame (Some (key_of_page unit.directory page)) ≡ keys_of unit.directory unit.begun new.frames new.page_in
    entered-keys =
        keys-store unit.directory (pages_begun unit.directory.page unit.begun) room.frames room.page_in frame (Some page) above below
        (omega (arith, below, subst (λ s. length room.page_in ≡ frame_count s room.frames) size seen.page_in))
        ∙ ap (λ (p : Pool). keys_of unit.directory unit.begun p.frames p.page_in) (sym came.rest)

    -- the table finds the page in its frame
    found : IsSeen new → look_up (keys_of unit.directory unit.begun new.frames new.page_in) (key_of_page unit.directory page) ≡ Some frame
    found seen_now =
        finds-page unit.directory unit.legal new seen_now (ap (λ (p : Pool). p.page) came.rest ∙ size)
        (ap (λ (p : Pool). length p.frame_of) came.rest ∙ length-set room.frame_of page (Some frame) ∙ pages) (pages_begun unit.directory.page unit.begun) page within
        ∙ ap (λ (p : Pool). frame_at p page) came.rest ∙ get_or-set_same room.frame_of page (Some frame) None (omega (arith, within, pages))

pub leave_frame-requires-clause-room : goal.leave_frame-requires-clause-room
leave_frame-requires-clause-room c = frames-held c.args.self.now

pub enter-requires-clause-frame : goal.enter-requires-clause-frame
enter-requires-clause-frame c =
    let unit = c.args.self.now in
    let room = with_room unit.pool c.args.keep in
    let keys = keys-between unit c.args.page c.args.keep c.leave_frame.new.table (c.leave_frame.ensures.table ∙ ap (λ (o : Option ℕ). option_map_or (without_frame unit.table) (option_and_then (frame_at unit.pool) o) unit.table) c.page_out-out.ensures) in
    omega (
      arith,
      ap length keys,
      keys-long unit.directory (pages_begun unit.directory.page unit.begun) room.frames room.page_in,
      below unit c.args.page c.args.keep c.bring-slot.new.self c.bring-slot.result.frame c.bring-slot.ensures.brought c.requires.page c.requires.absent,
    )

pub enter-requires-clause-free : goal.enter-requires-clause-free
enter-requires-clause-free c =
    let unit = c.args.self.now in
    let keys = keys-between unit c.args.page c.args.keep c.leave_frame.new.table (c.leave_frame.ensures.table ∙ ap (λ (o : Option ℕ). option_map_or (without_frame unit.table) (option_and_then (frame_at unit.pool) o) unit.table) c.page_out-out.ensures) in
    ap (λ (list : List (Option Key)). key_in list c.bring-slot.result.frame) keys
    ∙ free unit c.args.page c.args.keep c.bring-slot.new.self c.bring-slot.result.frame c.bring-slot.ensures.brought c.requires.page c.requires.absent

key-is : (unit : Unit) (page : ℕ) (key : Key) (segments : List (ℕ × ℕ)) → key ≡ key_among segments page → segments ≡ unit.directory.segments → key ≡ key_of_page unit.directory page
key-is unit page key segments is of = is ∙ ap (λ (list : List (ℕ × ℕ)). key_among list page) of

pub enter-requires-clause-absent : goal.enter-requires-clause-absent
enter-requires-clause-absent c =
    let unit = c.args.self.now in
    let keys = keys-between unit c.args.page c.args.keep c.leave_frame.new.table (c.leave_frame.ensures.table ∙ ap (λ (o : Option ℕ). option_map_or (without_frame unit.table) (option_and_then (frame_at unit.pool) o) unit.table) c.page_out-out.ensures) in
    ap (λ (list : List (Option Key)). look_up list c.key_among-key.result) keys
    ∙ ap (λ (key : Key). look_up (keys_of unit.directory unit.begun (with_room unit.pool c.args.keep).frames (with_room unit.pool c.args.keep).page_in) key)
    (key-is unit c.args.page c.key_among-key.result c.segments.result.now c.key_among-key.ensures c.segments.ensures.value)
    ∙ unfound unit c.args.page c.args.keep c.bring-slot.new.self c.bring-slot.result.frame c.bring-slot.ensures.brought c.requires.page c.requires.absent

pub remember-requires : goal.remember-requires
remember-requires c =
    let unit = c.args.self.now in
    let keys = keys-between unit c.args.page c.args.keep c.leave_frame.new.table (c.leave_frame.ensures.table ∙ ap (λ (o : Option ℕ). option_map_or (without_frame unit.table) (option_and_then (frame_at unit.pool) o) unit.table) c.page_out-out.ensures) in
    unremembered c.leave_frame.new.buffer c.leave_frame.new.table.keys c.key_among-key.result c.leave_frame.ensures.of_table
    (ap (λ (list : List (Option Key)). look_up list c.key_among-key.result) keys
    ∙ ap (λ (key : Key). look_up (keys_of unit.directory unit.begun (with_room unit.pool c.args.keep).frames (with_room unit.pool c.args.keep).page_in) key)
    (key-is unit c.args.page c.key_among-key.result c.segments.result.now c.key_among-key.ensures c.segments.ensures.value)
    ∙ unfound unit c.args.page c.args.keep c.bring-slot.new.self c.bring-slot.result.frame c.bring-slot.ensures.brought c.requires.page c.requires.absent)

pub invariant_of-self : goal.invariant_of-self
invariant_of-self c =
    let unit = c.args.self.now in
    let new = c.bring-slot.new.self in
    let frame = c.bring-slot.result.frame in
    let came = c.bring-slot.ensures.brought in
    let keys = keys-between unit c.args.page c.args.keep c.leave_frame.new.table (c.leave_frame.ensures.table ∙ ap (λ (o : Option ℕ). option_map_or (without_frame unit.table) (option_and_then (frame_at unit.pool) o) unit.table) c.page_out-out.ensures) in
    let key = key-is unit c.args.page c.key_among-key.result c.segments.result.now c.key_among-key.ensures c.segments.ensures.value in
    let room = with_room unit.pool c.args.keep in
    let left_keys : List (Option Key) = keys_of unit.directory unit.begun room.frames room.page_in in
    let now : c.enter.new.self.keys ≡ slice_set left_keys frame (Some (key_of_page unit.directory c.args.page)) =
    ap (λ (t : Placed). t.keys) c.enter.ensures
    ∙ ap (λ (k : Key). slice_set c.leave_frame.new.table.keys frame (Some k)) key
    ∙ ap (λ (list : List (Option Key)). slice_set list frame (Some (key_of_page unit.directory c.args.page))) keys in
    let old = stays unit c.args.page c.args.keep new frame came c.requires.page c.requires.absent in
    let held = now ∙ entered-keys unit c.args.page c.args.keep new frame came c.requires.page c.requires.absent in
    let there : look_up c.enter.new.self.keys c.key_among-key.result ≡ Some frame =
    ap (λ (list : List (Option Key)). look_up list c.key_among-key.result) held ∙ ap (look_up (keys_of unit.directory unit.begun new.frames new.page_in)) key
    ∙ found unit c.args.page c.args.keep new frame came c.requires.page c.requires.absent c.bring-slot.ensures.seen in
    let before : IsOfTable c.leave_frame.new.buffer c.enter.new.self.keys =
    subst (λ (list : List (Option Key)). IsOfTable c.leave_frame.new.buffer list) (sym now)
    (of_table-entered c.leave_frame.new.buffer left_keys frame (key_of_page unit.directory c.args.page)
    (omega (
      arith,
      keys-long unit.directory (pages_begun unit.directory.page unit.begun) room.frames room.page_in,
      below unit c.args.page c.args.keep new frame came c.requires.page c.requires.absent,
    ))
    (free unit c.args.page c.args.keep new frame came c.requires.page c.requires.absent)
    (unfound unit c.args.page c.args.keep new frame came c.requires.page c.requires.absent)
    (subst (λ (list : List (Option Key)). IsOfTable c.leave_frame.new.buffer list) keys c.leave_frame.ensures.of_table)) in
    record {
      sixteen = unit.sixteen;
      legal = unit.legal;
      fits = fits-brought unit.directory unit.pool unit.fits c.bring-slot.new.self c.args.page c.args.keep frame c.bring-slot.ensures.seen came;
      entries =
          ap (λ (t : Placed). length t.entries) c.enter.ensures
          ∙ ap (λ (t : Placed). length t.entries) c.leave_frame.ensures.table
          ∙ ap length (without-entries unit.table (option_and_then (frame_at unit.pool) c.page_out-out.result)) ∙ unit.entries;
      held = held;
      remembered =
          subst (λ (list : List (List Pair)). IsOfTable list c.enter.new.self.keys) (sym (c.remember.ensures ∙ ap (λ (o : Option ℕ). after_found c.leave_frame.new.buffer o c.key_among-key.result) (sym there)))
          (after-of c.leave_frame.new.buffer c.enter.new.self.keys c.key_among-key.result before);
      selected = unit.selected;
      ready = subst (λ (list : List ℕ). AreReady unit.rows list unit.runner) (sym (ap (λ (p : Pool). p.bytes) came.rest ∙ old.bytes)) unit.ready;
      opened = opened-none c.leave_frame.new.lines unit.directory c.enter.new.self unit.registers unit.runner c.leave_frame.ensures.lines;
      clear = subst (λ (list : List ℕ). AreClear unit.used list) (sym (ap (λ (p : Pool). p.bytes) came.rest ∙ old.bytes)) unit.clear;
    }
