-- A store to lines that are marked leaves the marks.
use Rattle.storage_unit.proofs.Common.{◌≡◌, ◌^◌, ℕ, Bool, ◌+◌, ◌-◌, ◌*◌, ◌/◌, ◌%◌, ◌<◌, ◌≤◌, ◌==◌, ◌&&◌, ◌||◌, nat_le, if◌then◌else◌, true, false, List, [], length, sym, ◌∙◌, ap, subst, arith, nat_tests, Option, Some, inl, inr, cases_Bool, option_map_or, slice_set, page_bytes, line_bytes, start_of, line_of, page_of, page_of_line, between, where-alike, is_in_where-below, has, Virtual, key_of, look_up, Pool, marks_at, marked_in, with_marks, with_bytes, lines_of_part, with_frame_part, lent-part, refl, Access, Unit, Reach, is_private, offset_of, byte_place, put_at, seat_pages, table_of, IsReachSound, Lies, reach_of, set-get_or, AreMarked, IsOpenSpot, ReadyRows, known, AreReady, after_store, AreClear, AreUsed}
use Rattle.storage_unit.proofs.SizeLemmas.{seat-frame, seat-page, page-of-line, same-page-on, line-in, rest-on}
use Rattle.storage_unit.proofs.PlaceLemmas.{finds-own, place-byte}
use Rattle.storage_unit.proofs.LineLemmas.{lies-one, page-found}
use Rattle.storage_unit.proofs.OpenLemmas.{byte-of-line}
use Rattle.storage_unit.proofs.PartLemmas.{pool-after}
use Rattle.storage_unit.proofs.StoreLemmas.{private-none}
use Rattle.storage_unit.proofs.UnitLemmas.{unit-sound}
use Rattle.storage_unit.proofs.OpenedLemmas.{open-lies, open-room, spot-is}
use Rattle.storage_unit.proofs.WrittenLemmas.{stored-part, ready-part, clear-part, spot-within}

both : (a b : Bool) → (a && b) ≡ true → (a ≡ true) × (b ≡ true)
both a b is = grind (arith, nat_tests)

either : (a b : Bool) → (b ≡ true → a ≡ true) → (a || b) ≡ a
either a b is = grind (arith, nat_tests)

order : (a b : ℕ) → nat_le a b ≡ true → a ≤ b
order a b is = grind (arith, nat_tests)

module _ (state : Reach) (sound : IsReachSound state) (at : Virtual) (n : ℕ) (some : 0 < n) (lies : Lies state at n) (within : at.byte + n ≤ page_bytes state.directory.page)
    (frame : ℕ) (found : look_up (table_of state).keys (key_of at) ≡ Some frame) (marked : AreMarked state at n) where
  abbrev place : ℕ
  place = start_of state.directory at.segment + offset_of state.directory.page at

  among : is_private at.segment ≡ false → (x : ℕ) → x < 16 → has (lines_of_part state.directory.page at.byte n) x ≡ true → has (marks_at state.pool (page_of state.directory place)) x ≡ true
  among other x few inside =
      let low = at.byte / line_bytes state.directory.page in
      let high = (at.byte + n - 1) / line_bytes state.directory.page in
      let none : (n == 0) ≡ false = grind (arith, nat_tests, some) in
      let (above, below) = both (nat_le low x) (nat_le x high)
      (sym (is_in_where-below (λ y. nat_le low y && nat_le y high) x few) ∙ sym (ap (λ (b : Bool). has (if b then [] else between low high) x) none) ∙ inside) in
      let last : at.byte + (n - 1) ≡ at.byte + n - 1 = omega (arith, some) in
      let (k, less, is) = byte-of-line state.directory.page at.byte (n - 1) x (order low x above) (subst (λ m. x ≤ m / line_bytes state.directory.page) (sym last) (order x high below)) in
      let byte : place % page_bytes state.directory.page ≡ at.byte = place-byte state sound at n some lies in
      let inside : place % page_bytes state.directory.page + k < page_bytes state.directory.page = omega (arith, byte, within, less, some) in
      let page : page_of_line (line_of state.directory (place + k)) ≡ page_of state.directory place = page-of-line state.directory.page (place + k) ∙ same-page-on state.directory.page place k inside in
      let line : line_of state.directory (place + k) % 16 ≡ x = line-in state.directory.page (place + k) (at.byte + k) (rest-on state.directory.page place k inside ∙ ap (λ m. m + k) byte) ∙ is in
      ap (λ p. has (marks_at state.pool p) x) (sym page)
      ∙ ap (has (marks_at state.pool (page_of_line (line_of state.directory (place + k))))) (sym line)
      ∙ marked other k (omega (arith, less, some))

  pub marks-same : marked_in state.pool frame (lines_of_part state.pool.page at.byte n) ≡ state.pool
  marks-same = elim (cases_Bool (is_private at.segment)) [
    | inl own ↦
        let (seat, runner, few, segment, begun, fits) = lies.private own in
        let same : seat * seat_pages state.directory.page + at.page ≡ frame = one (sym (finds-own state sound at n some lies seat runner own) ∙ found) in
        let low = seat-frame state.directory.page seat at.page few (seat-page state.directory.page at.page at.byte n some fits) in
        ap (λ (o : Option ℕ). option_map_or (λ page. with_marks state.pool page (lines_of_part state.pool.page at.byte n)) o state.pool) (private-none state sound frame (omega (arith, same, low)))
    | inr other ↦
        let page = page_of state.directory place in
        ap (λ (o : Option ℕ). option_map_or (λ page. with_marks state.pool page (lines_of_part state.pool.page at.byte n)) o state.pool) (page-found state sound at frame (lies-one state at n some lies) other found)
        ∙ ap (λ size. with_marks state.pool page (lines_of_part size at.byte n)) sound.fits.size
        ∙ ap (λ (list : List (List ℕ)). (let now : Pool = record state.pool { marked = list } in now))
        (ap (slice_set state.pool.marked page)
        (where-alike (λ x. has (marks_at state.pool page) x || has (lines_of_part state.directory.page at.byte n) x) (λ x. has (marks_at state.pool page) x)
        (λ x few. either (has (marks_at state.pool page) x) (has (lines_of_part state.directory.page at.byte n) x) (among other x few))
        ∙ sound.fits.marks page)
        ∙ set-get_or state.pool.marked page [])
  ]
    where
      one : {a b : ℕ} → Some a ≡ Some b → a ≡ b
      one same = cc

-- the unit when bytes at the spot of a line that is known were written
module _ (unit : Unit) (wants : Access) (spot : ℕ) (some : 0 < wants.bytes) (stores : wants.store ≡ true) (opens : IsOpenSpot (reach_of unit) wants spot)
    (part : List ℕ) (long : length part ≡ wants.bytes) where
  lies : Lies (reach_of unit) opens.first wants.bytes
  lies = open-lies unit wants opens.first opens.frame opens.opens

  over-same : with_frame_part unit.pool spot part
      ≡ with_frame_part (marked_in unit.pool opens.frame (lines_of_part unit.pool.page opens.first.byte wants.bytes)) (opens.frame * page_bytes unit.pool.page + opens.first.byte) part
  over-same =
      lent-part unit.pool spot part (omega (arith, long, open-room unit wants spot some opens wants.bytes refl))
      ∙ ap (λ at. with_bytes unit.pool at part) (spot-is unit wants spot some opens wants.bytes refl)
      ∙ ap (λ (p : Pool). with_bytes p (opens.frame * page_bytes unit.pool.page + opens.first.byte) part)
      (sym (marks-same (reach_of unit) (unit-sound unit) opens.first wants.bytes some lies opens.opens.within opens.frame opens.opens.frame (opens.written stores)))
      ∙ sym (pool-after unit opens.first opens.frame opens.first.byte wants.bytes opens.opens.frame refl opens.opens.within (lines_of_part unit.pool.page opens.first.byte wants.bytes) part long)

  pub stored-over : (let now : Reach = record (reach_of unit) { pool = with_frame_part unit.pool spot part } in now) ≡ put_at (reach_of unit) (byte_place unit.directory opens.first) part
  stored-over =
      ap (λ (p : Pool). (let now : Reach = record (reach_of unit) { pool = p } in now)) over-same
      ∙ stored-part unit opens.first opens.frame opens.first.byte wants.bytes opens.opens.frame refl opens.opens.within some lies part long

  pub ready-over : (after : ReadyRows) → ((address : ℕ) → known after address ≡ after_store spot wants.bytes address (known unit.rows address))
      → AreReady after (with_frame_part unit.pool spot part).bytes unit.runner
  ready-over after left =
      subst (λ (list : List ℕ). AreReady after list unit.runner) (sym (ap (λ (p : Pool). p.bytes) over-same))
      (ready-part unit opens.first opens.frame opens.first.byte wants.bytes opens.opens.frame refl opens.opens.within some lies part long spot opens.is after left)

  pub clear-over : (after : List ℕ) → (2 ^ 18 ≤ spot → after ≡ unit.used) → (spot < 2 ^ 18 → AreUsed unit.used after (spot / 16384) (spot % 16384 + wants.bytes))
      → AreClear after (with_frame_part unit.pool spot part).bytes
  clear-over after stays more =
      subst (λ (list : List ℕ). AreClear after list) (sym (ap (λ (p : Pool). p.bytes) over-same))
      (clear-part unit opens.first opens.frame opens.first.byte wants.bytes opens.opens.frame refl opens.opens.within some lies part long spot opens.is after stays more)

-- and those bytes lie in one seat's, where they are private
pub open-within : (unit : Unit) (wants : Access) (spot : ℕ) → 0 < wants.bytes → IsOpenSpot (reach_of unit) wants spot → spot < 2 ^ 18 → spot % 16384 + wants.bytes ≤ 16384
open-within unit wants spot some opens low =
    spot-within unit opens.first opens.frame wants.bytes opens.opens.frame some (open-lies unit wants opens.first opens.frame opens.opens) spot opens.is low
