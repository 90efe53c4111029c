-- The lines that a unit knows may be accessed.
use Rattle.storage_unit.proofs.Common.{cases_lt, inl, inr, ◌≡◌, ℕ, ◌+◌, ◌-◌, ◌*◌, ◌/◌, ◌%◌, ◌<◌, ◌≤◌, ◌^◌, ◌⊎◌, Bool, true, false, refl, sym, ◌∙◌, ap, subst, arith, List, Option, Some, None, Ok, not, ◌&&◌, find, option_map, slice_index_or, nat_tests, PageSize, Two, Four, page_bytes, line_bytes, bytes_of, is_named, Layout, length_of, start_of, page_of_line, grant_of, lets, Key, Placed, entry_at, key_of, look_up, SegmentRegister, Virtual, Registers, located_under, located_by, Access, Probe, answered_at, if_permitted, Reach, is_private, offset_of, byte_place, on, table_of, is_kept_from, is_in_frame, refuses_byte, IsReachSound, AreSegmentsLegal, Lies, bytes_shown, bytes_from, byte_at, Unit, reach_of, length, length-take, length-drop, slice_range, has, is_marked, [], marked_in, union, slice_set, get_or-set_same, get_or-set_other, get_or_past, is_in_where-below, page_at, with_marks, option_map_or, put_at, Located, IsRefusal, lets_at, is_marked_at, location, first_of, IsLineOpened, AreOpened, IsOpenAt, IsOpenSpot}
use Rattle.page_table.specs.declared.open_lines.OpenLines.{OpenLines}
use Rattle.page_table.specs.KnownLines.{known, KnowsNoLine, with_known_line}
use Rattle.storage_unit.proofs.AnswerLemmas.{permitted-lines}
use Rattle.storage_unit.proofs.KeyLemmas.{start-whole}
use Rattle.storage_unit.proofs.LineLemmas.{permitted}
use Rattle.storage_unit.proofs.SizeLemmas.{same-page-on, rest-on}
use Rattle.storage_unit.proofs.PlaceLemmas.{Under, under, lies, located-offset, stands, registers-page, private-is, shared-is}
use Rattle.storage_unit.proofs.UnitLemmas.{unit-sound}
use Rattle.storage_unit.proofs.CopyLemmas.{part-shown}
use Rattle.storage_unit.proofs.PartLemmas.{room}
use Rattle.storage_unit.proofs.FoundLemmas.{found-answer, found-bytes, found-lies}

-- a byte so many behind another of its page, and the first byte of the 128 that it is among
abbrev pub moved : Virtual → ℕ → Virtual
moved at past = record at { byte = at.byte + past }

abbrev pub rounded : Virtual → Virtual
rounded at = record at { byte = at.byte / 128 * 128 }

-- 128 bytes from a multiple of 128 on lie in one page, and in one line
part-of-page : (size : PageSize) (o past : ℕ) → o % 128 ≡ 0 → past < 128
    → ((o + past) / page_bytes size ≡ o / page_bytes size) × ((o + past) % page_bytes size ≡ o % page_bytes size + past) × (o % page_bytes size % 128 ≡ 0)
part-of-page size o past whole below = grind (arith, nat_tests)

same-line : (size : PageSize) (start page byte past : ℕ) → start % page_bytes size ≡ 0 → byte % 128 ≡ 0 → past < 128
    → (start + (page * page_bytes size + (byte + past))) / line_bytes size ≡ (start + (page * page_bytes size + byte)) / line_bytes size
same-line size start page byte past from whole below = grind (arith, nat_tests)

-- so they are let alike
lets-same : (d : Layout) (legal : AreSegmentsLegal d.segments) (table : Placed) (runner : ℕ) (at : Virtual) (past : ℕ) (store : Bool) → at.byte % 128 ≡ 0 → past < 128
    → lets_at d table runner (moved at past) store ≡ lets_at d table runner at store
lets-same d legal table runner at past store whole below =
    ap (λ line. lets (grant_of (entry_at table (page_of_line line))) runner (line % 16) store)
    (same-line d.page (start_of d at.segment) at.page at.byte past (start-whole d legal at.segment) whole below)

-- and marked alike
marked-same : (d : Layout) (legal : AreSegmentsLegal d.segments) (marked : List (List ℕ)) (at : Virtual) (past : ℕ) → at.byte % 128 ≡ 0 → past < 128 → is_marked_at d marked (moved at past) ≡ is_marked_at d marked at
marked-same d legal marked at past whole below =
    ap (λ line. has (slice_index_or marked (page_of_line line) []) (line % 16))
    (same-line d.page (start_of d at.segment) at.page at.byte past (start-whole d legal at.segment) whole below)

-- what is located to be stored is to be loaded
weaker : (registers : Registers) (address n : ℕ) (store weak : Bool) (at : Virtual) → (weak && not store) ≡ false → located_by registers address n store ≡ Ok at → located_by registers address n weak ≡ Ok at
weaker registers address n store weak at less is = grind (arith, nat_tests)

none-less : (store : Bool) → (store && not store) ≡ false
none-less store = grind (arith, nat_tests)

-- who may store may load
lets-load : (table : Placed) (d : Layout) (runner : ℕ) (at : Virtual) (write store : Bool) → (store && not write) ≡ false → lets_at d table runner at write ≡ true → lets_at d table runner at store ≡ true
lets-load table d runner at write store less is = grind (arith, nat_tests)

-- a part of the 128 bytes at a multiple of 128 under a register
abbrev StaysInPage : PageSize → (o past : ℕ) → Type 0
StaysInPage page o past = ((o + past) / page_bytes page ≡ o / page_bytes page) × ((o + past) % page_bytes page ≡ o % page_bytes page + past)

part-located :
    (page : PageSize) (r : Option SegmentRegister) (o past n all : ℕ) (write store : Bool) (first : Virtual) → StaysInPage page o past → past + n ≤ all → (store && not write) ≡ false
    → located_under page r o all write ≡ Ok first → located_under page r (o + past) n store ≡ Ok (moved first past)
part-located page r o past n all write store first stays fits less is = grind (arith, nat_tests)

whole-located :
    (page : PageSize) (r : SegmentRegister) (o n : ℕ) (store : Bool) (first : Virtual) → r.bytes % 128 ≡ 0 → 0 < n
    → located_under page (Some r) o n store ≡ Ok first → located_under page (Some r) (o / 128 * 128) 128 store ≡ Ok (rounded first)
whole-located page r o n store first whole some is = grind (arith, nat_tests)

-- segments have whole ones
length-whole : (d : Layout) (segment bytes : ℕ) → length_of d segment ≡ Some bytes → bytes % 128 ≡ 0
length-whole d segment bytes found =
    let pages : (size : PageSize) (n : ℕ) → n * page_bytes size ≡ bytes → bytes % 128 ≡ 0 = λ size n is. grind (arith, nat_tests) in
    let by_found : (o : Option (ℕ × ℕ)) → option_map (bytes_of (page_bytes d.page)) o ≡ Some bytes → bytes % 128 ≡ 0 = λ o is. grind (arith, nat_tests) in
    by_found (find (is_named segment) d.segments) found

-- an access in a block that is located, or in two behind each other
opened-located :
    (registers : Registers) (address n all : ℕ) (store : Bool) (first : Virtual) → address % 128 + n ≤ all → located_by registers (address / 128 * 128) all store ≡ Ok first
    → located_by registers address n store ≡ Ok (moved first (address % 128))
opened-located registers address n all store first fits is =
    let block : address / 128 * 128 / 2 ^ 28 ≡ address / 2 ^ 28 = omega arith in
    let rest : address % 2 ^ 28 ≡ address / 128 * 128 % 2 ^ 28 + address % 128 = omega arith in
    let (same, byte, more) = part-of-page registers.page (address / 128 * 128 % 2 ^ 28) (address % 128) (omega arith) (omega arith) in
    ap (λ o. located_under registers.page (slice_index_or registers.list (address / 2 ^ 28) None) o n store) rest
    ∙ part-located registers.page (slice_index_or registers.list (address / 2 ^ 28) None) (address / 128 * 128 % 2 ^ 28) (address % 128) n all store store first (same, byte) fits (none-less store)
    (ap (λ i. located_under registers.page (slice_index_or registers.list i None) (address / 128 * 128 % 2 ^ 28) all store) (sym block) ∙ is)

pair-located :
    (registers : Registers) (address : ℕ) (store : Bool) (first next : Virtual) → address % 128 ≡ 0 → next.byte ≡ first.byte + 128
    → located_by registers address 128 store ≡ Ok first → located_by registers (address + 128) 128 store ≡ Ok next → located_by registers address 256 store ≡ Ok first
pair-located registers address store first next whole behind here there =
    let low = under registers address 128 store first here in
    let high = under registers (address + 128) 128 store next there in
    let byte : next.byte ≡ (address + 128) % 2 ^ 28 % page_bytes registers.page = ap (λ (v : Virtual). v.byte) high.is in
    let some : 0 < (address + 128) % 2 ^ 28 = above registers.page ((address + 128) % 2 ^ 28) first.byte (sym byte ∙ behind) in
    let window : (address + 128) / 2 ^ 28 ≡ address / 2 ^ 28 = omega (arith, whole, some) in
    let offset : (address + 128) % 2 ^ 28 ≡ address % 2 ^ 28 + 128 = omega (arith, whole, some) in
    let same : high.register ≡ low.register = one (sym high.stands ∙ ap (λ i. slice_index_or registers.list i None) window ∙ low.stands) in
    let fits : address % 2 ^ 28 + 256 ≤ low.register.bytes = omega (arith, high.fits, offset, ap (λ (r : SegmentRegister). r.bytes) same) in
    ap (λ r. located_under registers.page r (address % 2 ^ 28) 256 store) low.stands
    ∙ (grind (arith, nat_tests))
  where
    one : {a b : SegmentRegister} → Some a ≡ Some b → a ≡ b
    one same = cc

    above : (size : PageSize) (o byte : ℕ) → o % page_bytes size ≡ byte + 128 → 0 < o
    above Two o byte is = omega (arith, is)
    above Four o byte is = omega (arith, is)

-- a byte of an access that lies in one page, alone
byte-located :
    (state : Reach) (sound : IsReachSound state) (address n k : ℕ) (store : Bool) (first : Virtual) → k < n → first.byte + n ≤ page_bytes state.directory.page → located_by state.registers address n store ≡ Ok first
    → located_by state.registers (address + k) 1 store ≡ Ok (moved first k)
byte-located state sound address n k store first below within is =
    let told = under state.registers address n store first is in
    let lies = lies state sound address n first told in
    let offset : offset_of state.directory.page first ≡ address % 2 ^ 28 = located-offset state sound address n first told in
    let byte : address % 2 ^ 28 % page_bytes state.registers.page ≡ first.byte = sym (ap (λ (v : Virtual). v.byte) told.is) in
    let inside : address % 2 ^ 28 % page_bytes state.registers.page + k < page_bytes state.registers.page = omega (arith, byte, within, below, ap page_bytes (registers-page state sound)) in
    let small : address % 2 ^ 28 + k < 2 ^ 28 = omega (arith, lies.few, offset, below) in
    let block : (address + k) / 2 ^ 28 ≡ address / 2 ^ 28 = omega (arith, small) in
    let rest : (address + k) % 2 ^ 28 ≡ address % 2 ^ 28 + k = omega (arith, small) in
    grind (
      arith,
      nat_tests,
      part-located state.registers.page (slice_index_or state.registers.list (address / 2 ^ 28) None) (address % 2 ^ 28) k 1 n store store first (same-page-on state.registers.page (address % 2 ^ 28) k inside, rest-on state.registers.page (address % 2 ^ 28) k inside) (omega (arith, below)) (none-less store) is,
    )

-- and its block
module _ (state : Reach) (sound : IsReachSound state) (address n : ℕ) (store : Bool) (at : Virtual) (some : 0 < n) (is : located_by state.registers address n store ≡ Ok at) where
  found : Under state.registers address n at
  found = under state.registers address n store at is

  register-whole : found.register.bytes % 128 ≡ 0
  register-whole =
      let told = stands state sound address n at found in
      grind (arith, nat_tests, told, length-whole state.directory found.register.segment found.register.bytes)

  pub block-located : located_by state.registers (address / 128 * 128) 128 store ≡ Ok (rounded at)
  block-located =
      let block : address / 128 * 128 / 2 ^ 28 ≡ address / 2 ^ 28 = omega arith in
      let rest : address / 128 * 128 % 2 ^ 28 ≡ address % 2 ^ 28 / 128 * 128 = omega arith in
      cc (found.stands, whole-located state.registers.page found.register (address % 2 ^ 28) n store at register-whole some (ap (λ r. located_under state.registers.page r (address % 2 ^ 28) n store) (sym found.stands) ∙ is))

-- the frame of a spot
part-frame : (size : PageSize) (spot frame byte : ℕ) → spot ≡ frame * page_bytes size + byte → byte < page_bytes size → spot / page_bytes size ≡ frame
part-frame size spot frame byte is low = grind (arith, nat_tests)

-- the block of a byte of an access that may be made, from its first byte on, is open
module _ (unit : Unit) (wants : Access) (first : Virtual) (frame past : ℕ) (at : Virtual) (spot : ℕ) (below : past < wants.bytes) (opens : IsOpenAt (reach_of unit) wants first frame) (is-at : at ≡ moved first past)
    (spot-at : spot ≡ frame * page_bytes unit.directory.page + at.byte / 128 * 128) where
  abbrev state : Reach
  state = reach_of unit

  allowed : is_private at.segment ≡ false → lets_at unit.directory unit.table unit.runner at wants.store ≡ true
  allowed own =
      let place = start_of unit.directory first.segment + offset_of unit.directory.page first in
      let other : is_private first.segment ≡ false = ap (λ (v : Virtual). is_private v.segment) (sym is-at) ∙ own in
      let answer =
      ap (λ page. answered_at page (is_in_frame state) (refuses_byte state) wants (Ok first)) (sym (registers-page state (unit-sound unit)))
      ∙ ap (answered_at unit.registers.page (is_in_frame state) (refuses_byte state) wants) (sym opens.located) ∙ opens.permitted in
      let (there, free) = permitted-lines state first wants.bytes wants place refl (shared-is unit.directory first other) answer past below in
      let same : start_of unit.directory first.segment + offset_of unit.directory.page (moved first past) ≡ place + past = omega arith in
      grind (arith, nat_tests, is-at, same, free)

  back : at ≡ moved (rounded at) (at.byte % 128)
  back = ap (λ b. (let v : Virtual = record at { byte = b } in v)) (let same : at.byte ≡ at.byte / 128 * 128 + at.byte % 128 = omega arith in same)

  spot-frame : spot / page_bytes unit.directory.page ≡ frame
  spot-frame = part-frame unit.directory.page spot frame (at.byte / 128 * 128) spot-at (omega (arith, opens.within, below, ap (λ (v : Virtual). v.byte) is-at))

  module _ (store : Bool) (less : (store && not wants.store) ≡ false) (marked : store ≡ true → is_private at.segment ≡ false → is_marked_at unit.directory unit.pool.marked at ≡ true) where
    block-from : located_by unit.registers ((wants.address + past) / 128 * 128) 128 store ≡ Ok (rounded at)
    block-from =
        block-located state (unit-sound unit) (wants.address + past) 1 store at (omega arith)
        (weaker unit.registers (wants.address + past) 1 wants.store store at less
        (byte-located state (unit-sound unit) wants.address wants.bytes past wants.store first below opens.within opens.located ∙ ap (λ v. Ok v) (sym is-at)))

    from : first_of unit.registers ((wants.address + past) / 128) store ≡ rounded at
    from = ap location block-from

    block-opened : IsLineOpened unit.directory unit.table unit.registers unit.pool.marked unit.runner ((wants.address + past) / 128) spot store
    block-opened = record {
      located = block-from ∙ ap (λ v. Ok v) (sym from);
      frame =
          ap (λ (v : Virtual). look_up unit.table.keys (key_of v)) (from ∙ ap rounded is-at)
          ∙ ap (λ (keys : List (Option Key)). look_up keys (key_of first)) unit.held ∙ opens.frame ∙ ap (λ (n : ℕ). Some n) (sym spot-frame);
      is = spot-at ∙ ap (λ n. n * page_bytes unit.directory.page + at.byte / 128 * 128) (sym spot-frame) ∙ ap (λ (v : Virtual). spot / page_bytes unit.directory.page * page_bytes unit.directory.page + v.byte) (sym from);
      allowed = λ own.
          ap (λ v. lets_at unit.directory unit.table unit.runner v store) from
          ∙ lets-load unit.table unit.directory unit.runner (rounded at) wants.store store less
          (sym (lets-same unit.directory unit.legal unit.table unit.runner (rounded at) (at.byte % 128) wants.store (omega arith) (omega arith))
          ∙ ap (λ at. lets_at unit.directory unit.table unit.runner at wants.store) (sym back) ∙ allowed (ap (λ (v : Virtual). is_private v.segment) (sym from) ∙ own));
      written = λ own is.
          ap (is_marked_at unit.directory unit.pool.marked) from
          ∙ sym (marked-same unit.directory unit.legal unit.pool.marked (rounded at) (at.byte % 128) (omega arith) (omega arith))
          ∙ ap (is_marked_at unit.directory unit.pool.marked) (sym back) ∙ marked is (ap (λ (v : Virtual). is_private v.segment) (sym from) ∙ own);
    }

  -- what is known at a block once one was kept
  kept-or : (write store : Bool) (block other : ℕ) (before : Option ℕ) → with_known_line ((wants.address + past) / 128) spot write store block before ≡ Some other
      → ((block ≡ (wants.address + past) / 128) × (other ≡ spot) × ((store && not write) ≡ false)) ⊎ (before ≡ Some other)
  kept-or write store block other before is = grind (arith, nat_tests)

  pub opened-with :
      (write : Bool) → (write ≡ true → wants.store ≡ true) → (write ≡ true → is_private at.segment ≡ false → is_marked_at unit.directory unit.pool.marked at ≡ true)
      → (after : OpenLines) → ((store : Bool) (block : ℕ) → known after store block ≡ with_known_line ((wants.address + past) / 128) spot write store block (known unit.lines store block))
      → AreOpened after unit.directory unit.table unit.registers unit.pool.marked unit.runner
  opened-with write stores marked after left store block other is = elim (kept-or write store block other (known unit.lines store block) (sym (left store block) ∙ is)) [
    | inr old ↦ unit.opened store block other old
    | inl new ↦
        let (same, spots, may) = new in
        subst (λ b. IsLineOpened unit.directory unit.table unit.registers unit.pool.marked unit.runner b other store) (sym same)
        (subst (λ s. IsLineOpened unit.directory unit.table unit.registers unit.pool.marked unit.runner ((wants.address + past) / 128) s store) (sym spots)
        (block-opened store (grind (arith, nat_tests, stores)) (λ is. marked (grind (arith, nat_tests)))))
  ]

-- marks that come beside others leave those
marks-stay : (marked : List (List ℕ)) (page : ℕ) (lines : List ℕ) (p x : ℕ) → x < 16 → has (slice_index_or marked p []) x ≡ true
    → has (slice_index_or (slice_set marked page (union (slice_index_or marked page []) lines)) p []) x ≡ true
marks-stay marked page lines p x few is = grind (arith, nat_tests, get_or-set_same, get_or-set_other, get_or_past, is_in_where-below)

pub opened-more : (unit : Unit) (frame : ℕ) (lines : List ℕ) → AreOpened unit.lines unit.directory unit.table unit.registers (marked_in unit.pool frame lines).marked unit.runner
opened-more unit frame lines = by_page (page_at unit.pool frame)
  where
    by_page : (o : Option ℕ) → AreOpened unit.lines unit.directory unit.table unit.registers (option_map_or (λ page. with_marks unit.pool page lines) o unit.pool).marked unit.runner
    by_page None = unit.opened
    by_page (Some page) = λ store block spot is.
        let told = unit.opened store block spot is in
        record {
          located = told.located;
          frame = told.frame;
          is = told.is;
          allowed = told.allowed;
          written = λ own write. marks-stay unit.pool.marked page lines _ _ (omega arith) (told.written own write);
        }

-- what may be accessed may be after a store
pub open-after : (state : Reach) (place : Located) (bytes : List ℕ) (wants : Access) (first : Virtual) (frame : ℕ) → IsOpenAt state wants first frame → IsOpenAt (put_at state place bytes) wants first frame
open-after state place bytes wants first frame opens = grind (arith, nat_tests)

-- where none is known, all are open
pub opened-none : (lines : OpenLines) (directory : Layout) (table : Placed) (registers : Registers) (runner : ℕ) {marked : List (List ℕ)} → KnowsNoLine lines → AreOpened lines directory table registers marked runner
opened-none lines directory table registers runner none store block spot is = absurd (let clash : None ≡ Some spot = sym (none store block) ∙ is in cc)

-- an access among bytes of one page that are located together, each of which the entry lets, may be made
module _ (unit : Unit) (wants : Access) (first : Virtual) (frame spot all : ℕ) (some : 0 < wants.bytes) (few : wants.bytes ≤ 255) (fits : wants.address % 128 + wants.bytes ≤ all)
    (together : located_by unit.registers (wants.address / 128 * 128) all wants.store ≡ Ok first) (room : first.byte + all ≤ page_bytes unit.directory.page)
    (held : look_up unit.table.keys (key_of first) ≡ Some frame) (spot-at : spot ≡ frame * page_bytes unit.directory.page + first.byte)
    (lets : is_private first.segment ≡ false → (k : ℕ) → k < all → lets_at unit.directory unit.table unit.runner (moved first k) wants.store ≡ true)
    (marks : wants.store ≡ true → is_private first.segment ≡ false → (k : ℕ) → k < all → is_marked_at unit.directory unit.pool.marked (moved first k) ≡ true) where
  abbrev at : Virtual
  at = moved first (wants.address % 128)

  located : located_by unit.registers wants.address wants.bytes wants.store ≡ Ok at
  located = opened-located unit.registers wants.address wants.bytes all wants.store first fits together

  within : at.byte + wants.bytes ≤ page_bytes unit.directory.page
  within = omega (arith, room, fits)

  in-frame : look_up (table_of (reach_of unit)).keys (key_of at) ≡ Some frame
  in-frame = sym (ap (λ (keys : List (Option Key)). look_up keys (key_of at)) unit.held) ∙ held

  further : (k : ℕ) → start_of unit.directory at.segment + offset_of unit.directory.page at + k ≡ start_of unit.directory first.segment + offset_of unit.directory.page (moved first (wants.address % 128 + k))
  further k = omega arith

  kept : (k : ℕ) → k < wants.bytes → is_kept_from (reach_of unit) (on (byte_place unit.directory at) k) wants.store ≡ false
  kept k below =
      let far : wants.address % 128 + k < all = omega (arith, fits, below) in
      grind (arith, nat_tests, private-is unit.directory at, shared-is unit.directory at, further k, far, lets)

  opened-at : IsOpenAt (reach_of unit) wants at frame
  opened-at = record {
    located = located;
    within = within;
    frame = in-frame;
    permitted =
        sym (found-answer unit wants wants.bytes (located_by unit.registers wants.address wants.bytes wants.store) at refl refl located Probe.Permitted
        (permitted (reach_of unit) (unit-sound unit) at wants.bytes some few (found-lies unit wants wants.bytes (located_by unit.registers wants.address wants.bytes wants.store) at refl refl located) wants.store wants refl refl frame in-frame within kept));
  }

  opened-from : IsOpenSpot (reach_of unit) wants (spot + wants.address % 128)
  opened-from = record {
    first = at;
    frame = frame;
    opens = opened-at;
    is = omega (arith, spot-at);
    written = λ stores own past below. ap (is_marked unit.directory unit.pool) (further past) ∙ marks stores own (wants.address % 128 + past) (omega (arith, fits, below));
  }

-- the bytes of a line that is known
module _ (unit : Unit) (block spot : ℕ) (store : Bool) (is : known unit.lines store block ≡ Some spot) where
  told : IsLineOpened unit.directory unit.table unit.registers unit.pool.marked unit.runner block spot store
  told = unit.opened store block spot is

  abbrev line-first : Virtual
  line-first = first_of unit.registers block store

  here : Under unit.registers (block * 128) 128 line-first
  here = under unit.registers (block * 128) 128 store line-first told.located

  line-whole : line-first.byte % 128 ≡ 0
  line-whole = ap (λ (v : Virtual). v.byte % 128) here.is ∙ (part-of-page unit.registers.page (block * 128 % 2 ^ 28) 0 (omega arith) (omega arith)).2

  line-room : line-first.byte + 128 ≤ page_bytes unit.directory.page
  line-room = whole-room unit.directory.page line-first.byte line-whole (lies (reach_of unit) (unit-sound unit) (block * 128) 128 line-first here).within
    where
      whole-room : (size : PageSize) (byte : ℕ) → byte % 128 ≡ 0 → byte < page_bytes size → byte + 128 ≤ page_bytes size
      whole-room size byte whole low = grind (arith, nat_tests)

  line-lets : is_private line-first.segment ≡ false → (k : ℕ) → k < 128 → lets_at unit.directory unit.table unit.runner (moved line-first k) store ≡ true
  line-lets own k below = lets-same unit.directory unit.legal unit.table unit.runner line-first k store line-whole below ∙ told.allowed own

  line-marks : store ≡ true → is_private line-first.segment ≡ false → (k : ℕ) → k < 128 → is_marked_at unit.directory unit.pool.marked (moved line-first k) ≡ true
  line-marks stores own k below = marked-same unit.directory unit.legal unit.pool.marked line-first k line-whole below ∙ told.written own stores

-- an access in a block that is known, to be stored to where it stores, may be made
pub opened-line :
    (unit : Unit) (wants : Access) (spot : ℕ) → 0 < wants.bytes → wants.address % 128 + wants.bytes ≤ 128 → known unit.lines wants.store (wants.address / 128) ≡ Some spot
    → IsOpenSpot (reach_of unit) wants (spot + wants.address % 128)
opened-line unit wants spot some fits is =
    let block = wants.address / 128 in
    let told = unit.opened wants.store block spot is in
    opened-from unit wants (first_of unit.registers block wants.store) (spot / page_bytes unit.directory.page) spot 128 some (omega (arith, fits)) fits told.located (line-room unit block spot wants.store is)
    told.frame told.is (line-lets unit block spot wants.store is) (line-marks unit block spot wants.store is)

-- a block behind another in its page begins behind its last byte
behind-at : (size : PageSize) (a : ℕ) → a % 128 ≡ 0 → a % page_bytes size + 128 < page_bytes size
    → ((a + 128) / 2 ^ 28 ≡ a / 2 ^ 28) × ((a + 128) % 2 ^ 28 ≡ a % 2 ^ 28 + 128) × (a % 2 ^ 28 % page_bytes size + 128 < page_bytes size)
behind-at Two a whole low = (omega (arith, whole, low), omega (arith, whole, low), omega (arith, whole, low))
behind-at Four a whole low = (omega (arith, whole, low), omega (arith, whole, low), omega (arith, whole, low))

behind-is :
    (registers : Registers) (address : ℕ) (store : Bool) (first next : Virtual) → address % 128 ≡ 0 → address % page_bytes registers.page + 128 < page_bytes registers.page
    → located_by registers address 128 store ≡ Ok first → located_by registers (address + 128) 128 store ≡ Ok next → next ≡ moved first 128
behind-is registers address store first next whole low here there =
    let one = under registers address 128 store first here in
    let two = under registers (address + 128) 128 store next there in
    let (window, offset, inside) = behind-at registers.page address whole low in
    let same : two.register ≡ one.register = some-same (sym two.stands ∙ ap (λ i. slice_index_or registers.list i None) window ∙ one.stands) in
    let page = same-page-on registers.page (address % 2 ^ 28) 128 inside in
    let byte = rest-on registers.page (address % 2 ^ 28) 128 inside in
    grind (arith, nat_tests, one.is, two.is, same, offset, page, byte)
  where
    some-same : {a b : SegmentRegister} → Some a ≡ Some b → a ≡ b
    some-same same = cc

-- and one in two blocks of a page that are known
pub opened-pair :
    (unit : Unit) (wants : Access) (spot next : ℕ) → 0 < wants.bytes → wants.bytes ≤ 64 → 128 < wants.address % 128 + wants.bytes
    → wants.address % page_bytes unit.directory.page + wants.bytes ≤ page_bytes unit.directory.page
    → known unit.lines wants.store (wants.address / 128) ≡ Some spot → known unit.lines wants.store (wants.address / 128 + 1) ≡ Some next
    → IsOpenSpot (reach_of unit) wants (spot + wants.address % 128)
opened-pair unit wants spot next some few over page is also =
    let block = wants.address / 128 in
    let first = first_of unit.registers block wants.store in
    let then = first_of unit.registers (block + 1) wants.store in
    let told = unit.opened wants.store block spot is in
    let later : located_by unit.registers (block * 128 + 128) 128 wants.store ≡ Ok then =
    ap (λ a. located_by unit.registers a 128 wants.store) (let sum : block * 128 + 128 ≡ (block + 1) * 128 = omega arith in sum) ∙ (unit.opened wants.store (block + 1) next also).located in
    let low : block * 128 % page_bytes unit.registers.page + 128 < page_bytes unit.registers.page =
    subst (λ size. block * 128 % page_bytes size + 128 < page_bytes size) (sym (registers-page (reach_of unit) (unit-sound unit))) (low-block unit.directory.page wants.address wants.bytes over page) in
    let behind : then ≡ moved first 128 = behind-is unit.registers (block * 128) wants.store first then (omega arith) low told.located later in
    let beyond : (k : ℕ) → 128 ≤ k → moved first k ≡ moved then (k - 128) =
    λ k high. ap (λ b. (let v : Virtual = record first { byte = b } in v)) (let sum : first.byte + k ≡ first.byte + 128 + (k - 128) = omega (arith, high) in sum)
    ∙ ap (λ v. moved v (k - 128)) (sym behind) in
    let byte : then.byte ≡ first.byte + 128 = ap (λ (v : Virtual). v.byte) behind in
    opened-from unit wants first (spot / page_bytes unit.directory.page) spot 256 some (omega (arith, few)) (omega (arith, few))
    (pair-located unit.registers (block * 128) wants.store first then (omega arith) byte told.located later)
    (omega (arith, byte, line-room unit (block + 1) next wants.store also)) told.frame told.is
    (λ own k below. elim (cases_lt k 128) [
      | inl low ↦ line-lets unit block spot wants.store is own k low
      | inr high ↦
          cc (beyond k high, line-lets unit (block + 1) next wants.store also (ap (λ (v : Virtual). is_private v.segment) behind ∙ own) (k - 128) (omega (arith, below, high)))
    ])
    (λ stores own k below. elim (cases_lt k 128) [
      | inl low ↦ line-marks unit block spot wants.store is stores own k low
      | inr high ↦
          cc (beyond k high, line-marks unit (block + 1) next wants.store also stores (ap (λ (v : Virtual). is_private v.segment) behind ∙ own) (k - 128) (omega (arith, below, high)))
    ])
  where
    low-block : (size : PageSize) (a n : ℕ) → 128 < a % 128 + n → a % page_bytes size + n ≤ page_bytes size → a / 128 * 128 % page_bytes size + 128 < page_bytes size
    low-block Two a n over fits = omega (arith, over, fits)
    low-block Four a n over fits = omega (arith, over, fits)

-- its bytes lie there
module _ (unit : Unit) (wants : Access) (first : Virtual) (frame : ℕ) (opens : IsOpenAt (reach_of unit) wants first frame) where
  pub open-lies : Lies (reach_of unit) first wants.bytes
  open-lies = found-lies unit wants wants.bytes (located_by unit.registers wants.address wants.bytes wants.store) first refl refl opens.located

  pub open-bytes : bytes_shown (reach_of unit) (byte_place unit.directory first) wants.bytes ≡ bytes_from (byte_at (reach_of unit)) wants.address wants.bytes
  open-bytes = found-bytes unit wants wants.bytes (located_by unit.registers wants.address wants.bytes wants.store) first refl refl opens.located

  -- each of them alone
  pub open-moved : (k : ℕ) → k < wants.bytes → Lies (reach_of unit) (moved first k) 1
  open-moved k below =
      lies (reach_of unit) (unit-sound unit) (wants.address + k) 1 (moved first k)
      (under unit.registers (wants.address + k) 1 wants.store (moved first k) (byte-located (reach_of unit) (unit-sound unit) wants.address wants.bytes k wants.store first below opens.within opens.located))

  -- and they end below the last address
  pub open-low : (wants.address % 2 ^ 28 + wants.bytes ≤ 2 ^ 22) × (first.byte + wants.bytes ≤ 4096)
  open-low =
      let by_size : (size : PageSize) → first.byte + wants.bytes ≤ page_bytes size → first.byte + wants.bytes ≤ 4096 = λ size within. grind (arith, nat_tests) in
      let offset : offset_of unit.directory.page first ≡ wants.address % 2 ^ 28 = located-offset (reach_of unit) (unit-sound unit) wants.address wants.bytes first (under unit.registers wants.address wants.bytes wants.store first opens.located) in
      (omega (arith, offset, open-lies.few), by_size unit.directory.page opens.within)

-- and at its spot those bytes are in the frames
module _ (unit : Unit) (wants : Access) (spot : ℕ) (some : 0 < wants.bytes) (opens : IsOpenSpot (reach_of unit) wants spot) (n : ℕ) (same : n ≡ wants.bytes) where
  pub spot-is : spot ≡ opens.frame * page_bytes unit.pool.page + opens.first.byte
  spot-is = opens.is ∙ ap (λ size. opens.frame * page_bytes size + opens.first.byte) (sym unit.fits.size)

  pub open-room : spot + n ≤ length unit.pool.bytes
  open-room = omega (arith, spot-is, same, room unit opens.first opens.frame opens.first.byte wants.bytes opens.opens.frame refl opens.opens.within)

  pub open-long : length (slice_range unit.pool.bytes spot (spot + n)) ≡ n
  open-long = simp (length-take, length-drop) (omega (arith, open-room))

  pub open-part : slice_range unit.pool.bytes spot (spot + n) ≡ bytes_from (byte_at (reach_of unit)) wants.address wants.bytes
  open-part =
      cc (
        part-shown (reach_of unit) (unit-sound unit) opens.first wants.bytes some (open-lies unit wants opens.first opens.frame opens.opens) opens.frame opens.opens.frame opens.opens.within,
        open-bytes unit wants opens.first opens.frame opens.opens,
      )

-- what is refused stays
pub refused-stays : {A : Type 0} (probe : Probe) (after before : A) → IsRefusal probe → before ≡ if_permitted probe after before
refused-stays probe after before is = grind (arith, nat_tests)

-- an access that lies in one page may be made where it is permitted
pub opens-when :
    (unit : Unit) (wants : Access) (first : Virtual) (frame : ℕ) → located_by unit.registers wants.address wants.bytes wants.store ≡ Ok first → first.byte + wants.bytes ≤ page_bytes unit.directory.page
    → look_up (table_of (reach_of unit)).keys (key_of first) ≡ Some frame → Probe.Permitted ≡ answered_at unit.directory.page (is_in_frame (reach_of unit)) (refuses_byte (reach_of unit)) wants (Ok first)
    → IsOpenAt (reach_of unit) wants first frame
opens-when unit wants first frame located within found answer = record {
  located = located;
  within = within;
  frame = found;
  permitted = sym (found-answer unit wants wants.bytes (located_by unit.registers wants.address wants.bytes wants.store) first refl refl located Probe.Permitted answer);
}
