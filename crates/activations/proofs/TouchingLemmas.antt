-- The lines that an access touches, page by page, and how many will have been written with them.
use Rattle.activations.proofs.Common.{◌==◌, range_with_len, nat_tests, passing, between, append-nil, get_or-map-range_with_len, flat_lines, lines_wanted, lines_between, pages_of, ◌≡◌, ℕ, ◌+◌, ◌-◌, ◌*◌, ◌/◌, ◌%◌, ◌<◌, ◌≤◌, Bool, true, false, List, [], ◌∷◌, ◌++◌, refl, sym, ◌∙◌, ap, arith, map, get_or, or_parts, subst, eq-eqb, ne_eqb, both_ways, length-range_with_len, sum_by-le, All-nil, All-cons, All-head, All-get_or, All-from_get_or, PageSize, Two, Four, Layout, start_of, length_of, byte_count, page_count, AreSegmentsLegal, line_of, line_count, difference, IsOfPage, line_bytes, of_page_where, line-below, segment-within, has, Lines, no_lines, Want, nothing, write_count, of_seat, held_at, Program, in_segment, in_register, located, lines_at, Registers, located_by, virtual_at, Access, lines_of_access, registers_of_program, AreDistinct, filter-short, AreOfPage, private_segment, is_private, offset_of, place_at, Activity, live_in, program_in, AreHeldOfPages, IsActivitySound, lines_with, TouchedLines, pages_wanted, wants_of, AreWanted, zero, suc, ◌^◌, ◌||◌, ◌&&◌, nat_le, if◌then◌else◌, length, Option, Some, None, Result, Ok, Err, Located, Private, Shared, Refused}
use Rattle.flat_machine.specs.declared.machine.Window.{Window}
use Rattle.page_table.specs.declared.segment_regs.Check.{Check}
use Rattle.page_table.specs.declared.segment_regs.Virtual.{Virtual}
use Rattle.storage_unit.proofs.PlaceLemmas.{under, offset-is}
use Rattle.storage_unit.proofs.LocatedLemmas.{lies-where}
use Rattle.activations.proofs.HoldingLemmas.{written-none, written-one, written-two}
use Rattle.activations.proofs.GrantLemmas.{apart-one, apart-two}

-- two functions that are the same on the first numbers, as a table of them tells
tabled : (f g : ℕ → List ℕ) (n i : ℕ) → map f (range_with_len 0 n) ≡ map g (range_with_len 0 n) → i < n → f i ≡ g i
tabled f g n i same below = sym (get_or-map-range_with_len f 0 n i i [] below (omega arith)) ∙ ap (λ (values : List (List ℕ)). get_or values i []) same ∙ get_or-map-range_with_len g 0 n i i [] below (omega arith)

between-one : (line : ℕ) → line < 16 → between line line ≡ line ∷ []
unfolding passing
between-one line small = tabled (λ line. between line line) (λ line. line ∷ []) 16 line refl small

between-two : (line : ℕ) → line + 1 < 16 → between line (line + 1) ≡ line ∷ (line + 1) ∷ []
unfolding passing
between-two line small = tabled (λ line. between line (line + 1)) (λ line. line ∷ (line + 1) ∷ []) 15 line refl (omega (arith, small))

-- one line, or two neighbours in a page, are its lines of that page
pub flat-between : (first last : ℕ) → first ≤ last → last ≤ first + 1 → first / 16 ≡ last / 16
    → flat_lines (first / 16) (between (first % 16) (last % 16)) ≡ range_with_len first (last + 1 - first)
flat-between first last order near one = by_test (last == first) refl
  where
    by_test : (same : Bool) → (last == first) ≡ same → flat_lines (first / 16) (between (first % 16) (last % 16)) ≡ range_with_len first (last + 1 - first)
    by_test true e =
        let count : last + 1 - first ≡ 1 = grind (arith, nat_tests) in
        let at : last % 16 ≡ first % 16 = grind (arith, nat_tests) in
        let whole : first / 16 * 16 + first % 16 ≡ first = omega arith in
        ap (λ (n : ℕ). flat_lines (first / 16) (between (first % 16) n)) at
        ∙ ap (flat_lines (first / 16)) (between-one (first % 16) (omega arith)) ∙ ap (λ (n : ℕ). n ∷ []) whole
        ∙ sym (ap (λ (n : ℕ). range_with_len first n) count)
    by_test false e =
        let count : last + 1 - first ≡ 2 = grind (arith, nat_tests) in
        let at : last % 16 ≡ first % 16 + 1 = grind (arith, nat_tests) in
        let whole : first / 16 * 16 + first % 16 ≡ first = omega arith in
        let next : first / 16 * 16 + (first % 16 + 1) ≡ first + 1 = omega arith in
        ap (λ (n : ℕ). flat_lines (first / 16) (between (first % 16) n)) at
        ∙ ap (flat_lines (first / 16)) (between-two (first % 16) (grind (arith, nat_tests)))
        ∙ (λ i. whole i ∷ next i ∷ []) ∙ sym (ap (λ (n : ℕ). range_with_len first n) count)

-- what is wanted of one page, and of two, in flat lines
wanted-flat : (page : ℕ) (reads writes : List ℕ)
    → lines_wanted (record { page = page; reads = reads; writes = writes } ∷ []) ≡ record { reads = flat_lines page reads; writes = flat_lines page writes }
wanted-flat page reads writes i = record { reads = append-nil (flat_lines page reads) i; writes = append-nil (flat_lines page writes) i }

-- the lines from a first to a last of one page, as those to read and those to write
abbrev pub sets_between : (first last : ℕ) → Bool → List ℕ × List ℕ
sets_between first last true = ([], between (first % 16) (last % 16))
sets_between first last false = (between (first % 16) (last % 16), [])

pub one-page : (first last : ℕ) (store : Bool) (sets : List ℕ × List ℕ) → first ≤ last → last ≤ first + 1 → first / 16 ≡ last / 16 → sets ≡ sets_between first last store
    → lines_wanted (record { page = first / 16; reads = sets.0; writes = sets.1 } ∷ []) ≡ lines_between first last store
one-page first last true sets order near one is =
    ap (λ (pair : List ℕ × List ℕ). lines_wanted (record { page = first / 16; reads = pair.0; writes = pair.1 } ∷ [])) is
    ∙ wanted-flat (first / 16) [] (between (first % 16) (last % 16)) ∙ ap (λ (lines : List ℕ). record { reads = []; writes = lines }) (flat-between first last order near one)
one-page first last false sets order near one is =
    ap (λ (pair : List ℕ × List ℕ). lines_wanted (record { page = first / 16; reads = pair.0; writes = pair.1 } ∷ [])) is
    ∙ wanted-flat (first / 16) (between (first % 16) (last % 16)) [] ∙ ap (λ (lines : List ℕ). record { reads = lines; writes = [] }) (flat-between first last order near one)

-- one line, or two neighbours in a page, have that page
same_page : (first last : ℕ) → first ≤ last → last ≤ first + 1 → first / 16 ≡ last / 16 → pages_of (range_with_len first (last + 1 - first)) ≡ first / 16 ∷ []
same_page first last order near one =
    let alone = λ (same : last ≡ first). let count : last + 1 - first ≡ 1 = omega arith in ap (λ (n : ℕ). pages_of (range_with_len first n)) count in
    let both = λ (apart : last ≡ first → ⊥). let count : last + 1 - first ≡ 2 = omega arith in ap (λ (n : ℕ). pages_of (range_with_len first n)) count in
    let next = λ (apart : last ≡ first → ⊥). let is : (first + 1) / 16 ≡ first / 16 = omega arith in is in grind (arith, nat_tests, alone, both, next)

pub page-between : (first last : ℕ) (store : Bool) → first ≤ last → last ≤ first + 1 → first / 16 ≡ last / 16
    → first / 16 ∷ [] ≡ pages_of ((lines_between first last store).reads ++ (lines_between first last store).writes)
page-between first last store order near one = grind (arith, append-nil (range_with_len first (last + 1 - first)), same_page first last order near one)

-- no line is a set of lines
of-none : IsOfPage []
unfolding passing
of-none = refl

-- the lines from a first to a last of one page are sets of it
pub sets-one : (page first last : ℕ) (store : Bool) (sets : List ℕ × List ℕ) → sets ≡ sets_between first last store
    → AreOfPage (record { page = page; reads = sets.0; writes = sets.1 } ∷ [])
sets-one page first last store sets is =
    subst (λ (pair : List ℕ × List ℕ). AreOfPage (record { page = page; reads = pair.0; writes = pair.1 } ∷ [])) (sym is) (by_store store)
  where
    alone : (want : Want) → IsOfPage want.reads → IsOfPage want.writes → AreOfPage (want ∷ [])
    alone want reads writes = record {
      reads = All-cons (λ (w : Want). IsOfPage w.reads) want [] reads (All-nil (λ (w : Want). IsOfPage w.reads));
      writes = All-cons (λ (w : Want). IsOfPage w.writes) want [] writes (All-nil (λ (w : Want). IsOfPage w.writes));
    }

    by_store : (store : Bool) → AreOfPage (record { page = page; reads = (sets_between first last store).0; writes = (sets_between first last store).1 } ∷ [])
    by_store true = alone (record { page = page; reads = []; writes = between (first % 16) (last % 16) }) of-none (of_page_where (λ line. nat_le (first % 16) line && nat_le line (last % 16)))
    by_store false = alone (record { page = page; reads = between (first % 16) (last % 16); writes = [] }) (of_page_where (λ line. nat_le (first % 16) line && nat_le line (last % 16))) of-none

-- lines of one page of the store
pub wanted-one : (d : Layout) (want : Want) (first last : ℕ) (store : Bool) → want.page ≡ first / 16 → AreOfPage (want ∷ [])
    → lines_wanted (want ∷ []) ≡ lines_between first last store → first ≤ last → last ≤ first + 1 → first / 16 ≡ last / 16 → last < line_count d
    → AreWanted d (want ∷ [])
wanted-one d want first last store page sets lines order near one below = record {
  within = All-cons (λ (w : Want). w.page < page_count d) want [] (omega (arith, page, order, below)) (All-nil (λ (w : Want). w.page < page_count d));
  sets = sets;
  apart = apart-one want sets;
  once = (refl, tt);
  pages = ap (λ (p : ℕ). p ∷ []) page ∙ page-between first last store order near one ∙ ap (λ (l : Lines). pages_of (l.reads ++ l.writes)) (sym lines);
}

-- two neighbours on different pages have these pages
two-pages : (first last : ℕ) → first ≤ last → last ≤ first + 1 → (first / 16 ≡ last / 16 → ⊥) → first / 16 ∷ last / 16 ∷ [] ≡ pages_of (range_with_len first (last + 1 - first))
two-pages first last order near differs =
    let next : last ≡ first + 1 = omega arith in let count : last + 1 - first ≡ 2 = omega arith in grind (arith, nat_tests, next, count, differs)

two-between : (first last : ℕ) (store : Bool) → first ≤ last → last ≤ first + 1 → (first / 16 ≡ last / 16 → ⊥)
    → first / 16 ∷ last / 16 ∷ [] ≡ pages_of ((lines_between first last store).reads ++ (lines_between first last store).writes)
two-between first last store order near differs = grind (arith, append-nil (range_with_len first (last + 1 - first)), two-pages first last order near differs)

-- lines of two pages of the store
pub wanted-two : (d : Layout) (one two : Want) (first last : ℕ) (store : Bool) → one.page ≡ first / 16 → two.page ≡ last / 16 → AreOfPage (one ∷ []) → AreOfPage (two ∷ [])
    → lines_wanted (one ∷ two ∷ []) ≡ lines_between first last store → first ≤ last → last ≤ first + 1 → (first / 16 ≡ last / 16 → ⊥) → last < line_count d
    → AreWanted d (one ∷ two ∷ [])
wanted-two d one two first last store page page' set set' lines order near differs below = record {
  within = All-cons (λ (w : Want). w.page < page_count d) one (two ∷ []) (omega (arith, page, order, below))
      (All-cons (λ (w : Want). w.page < page_count d) two [] (omega (arith, page', below)) (All-nil (λ (w : Want). w.page < page_count d)));
  sets = sets;
  apart = apart-two one two sets others;
  once = (ap (λ (same : Bool). same || false) (ne_eqb two.page one.page (λ same. others (sym same))), (refl, tt));
  pages = (λ i. page i ∷ page' i ∷ []) ∙ two-between first last store order near differs
      ∙ ap (λ (l : Lines). pages_of (l.reads ++ l.writes)) (sym lines);
}
  where
    others : one.page ≡ two.page → ⊥
    others same = differs (sym page ∙ same ∙ page')

    sets : AreOfPage (one ∷ two ∷ [])
    sets = record {
      reads = All-cons (λ (w : Want). IsOfPage w.reads) one (two ∷ []) (All-head (λ (w : Want). IsOfPage w.reads) one [] set.reads) set'.reads;
      writes = All-cons (λ (w : Want). IsOfPage w.writes) one (two ∷ []) (All-head (λ (w : Want). IsOfPage w.writes) one [] set.writes) set'.writes;
    }

-- few bytes lie in one line or two
near : (page : PageSize) (at bytes : ℕ) → 0 < bytes → bytes ≤ 64 → at + bytes ≤ 2 ^ 22
    → (at / line_bytes page ≤ (at + bytes - 1) / line_bytes page) × ((at + bytes - 1) / line_bytes page ≤ at / line_bytes page + 1)
    × ((at + bytes - 1) / line_bytes page < 2 ^ 20)
near Two at bytes some few small = (omega (arith, some), omega (arith, some, few), omega (arith, some, small))
near Four at bytes some few small = (omega (arith, some), omega (arith, some, few), omega (arith, some, small))

pub near-lines : (d : Layout) (at bytes : ℕ) → 0 < bytes → bytes ≤ 64 → at + bytes ≤ byte_count d → byte_count d ≤ 2 ^ 22
    → (line_of d at ≤ line_of d (at + bytes - 1)) × (line_of d (at + bytes - 1) ≤ line_of d at + 1) × (line_of d (at + bytes - 1) < 2 ^ 20)
    × (line_of d (at + bytes - 1) < line_count d)
near-lines d at bytes some few within small =
    let (order, next, low) = near d.page at bytes some few (omega (arith, within, small)) in
    (order, next, low, line-below d (at + bytes - 1) (omega (arith, some, within)))

-- what lies in the store ends there
in-store : (d : Layout) (w : Window) (long : Option ℕ) (offset bytes : ℕ) (store : Bool) (at : ℕ) → length_of d w.segment ≡ long
    → in_segment d w long offset bytes store ≡ Shared at → at + bytes ≤ byte_count d
in-store d w None offset bytes store at found is = absurd (cc)
in-store d w (Some long) offset bytes store at found is = let within = segment-within d w.segment long found in grind (arith, nat_tests, within)

shared-ends : (p : Program) (d : Layout) (i offset bytes : ℕ) (store : Bool) (at : ℕ) → in_register p d i offset bytes store ≡ Shared at → at + bytes ≤ byte_count d
shared-ends p d zero offset bytes store at is = grind arith
shared-ends p d (suc i) offset bytes store at is = let ends = in-store d in grind (arith, ends, is)

lines-of : (d : Layout) (at bytes : ℕ) → 0 < bytes → range_with_len (line_of d at) (line_of d (at + bytes - 1) + 1 - line_of d at) ≡ lines_at d (Shared at) bytes
lines-of d at zero some = absurd (omega (arith, some))
lines-of d at (suc more) some = ap (λ n. range_with_len (line_of d at) (line_of d n + 1 - line_of d at)) (omega arith)

-- the lines of an access by where it lies
abbrev by_store : Bool → List ℕ → Lines
by_store store lines = if store then record { reads = []; writes = lines } else record { reads = lines; writes = [] }

empty : (store : Bool) → no_lines ≡ by_store store []
empty true = refl
empty false = refl

-- The access of who sits in a seat.
module _ (a : Activity) (seat : ℕ) (sound : IsActivitySound a) (taken : has a.seating.taken seat ≡ true) (legal : AreSegmentsLegal a.reach.directory.segments) (access : Access) where
  found-where : (found : Result Virtual Check) → located_by (live_in a seat).registers access.address access.bytes access.store ≡ found
      → place_at a.reach.directory found ≡ located (program_in a seat) a.reach.directory access.address access.bytes access.store
  found-where found is =
      let here : seat + 1 - 1 ≡ seat = omega arith in ap (place_at a.reach.directory) (sym is)
      ∙ lies-where (record a.reach { registers = (live_in a seat).registers; runner = seat + 1 }) (program_in a seat) legal
      (record { selected = omega arith; registers = (sound.set_up seat taken).registers ∙ ap (λ (s : ℕ). registers_of_program (program_in a seat) a.reach.directory (private_segment s)) (sym here) })
      access.address access.bytes access.store

  nowhere : (place : Located) → located (program_in a seat) a.reach.directory access.address access.bytes access.store ≡ place → lines_at a.reach.directory place access.bytes ≡ []
      → no_lines ≡ lines_of_access (program_in a seat) a.reach.directory access
  nowhere place is none = empty access.store ∙ sym (ap (by_store access.store) none)
      ∙ sym (ap (λ (at : Located). by_store access.store (lines_at a.reach.directory at access.bytes)) is)

  -- it touches none where it is refused, or lies in private storage
  pub touches-refused : (check : Check) → located_by (live_in a seat).registers access.address access.bytes access.store ≡ Err check
      → no_lines ≡ lines_of_access (program_in a seat) a.reach.directory access
  touches-refused check is = nowhere (Refused check.0) (sym (found-where (Err check) is)) refl

  module _ (first : Virtual) (is : located_by (live_in a seat).registers access.address access.bytes access.store ≡ Ok first) where
    pub touches-private : is_private first.segment ≡ true → no_lines ≡ lines_of_access (program_in a seat) a.reach.directory access
    touches-private own = nowhere (Private (offset_of a.reach.directory.page first))
        (sym (found-where (Ok first) is) ∙ ap (λ (b : Bool). if b then Private (offset_of a.reach.directory.page first) else Shared (start_of a.reach.directory first.segment + offset_of a.reach.directory.page first)) own) refl

    -- the offset of its first byte is what its address has below the register's number
    kept : offset_of a.reach.directory.page first ≡ access.address % 2 ^ 28
    kept =
        let lies = under (live_in a seat).registers access.address access.bytes access.store first is in
        let page : (live_in a seat).registers.page ≡ a.reach.directory.page = ap (λ (registers : Registers). registers.page) (sound.set_up seat taken).registers in
        ap (offset_of a.reach.directory.page) (lies.is ∙ ap (λ (page : PageSize). virtual_at page lies.register.segment (access.address % 2 ^ 28)) page)
        ∙ offset-is a.reach.directory.page lies.register.segment (access.address % 2 ^ 28)

    abbrev place : ℕ
    place = start_of a.reach.directory first.segment + access.address % 2 ^ 28

    module _ (low : is_private first.segment ≡ false) where
      shared : located (program_in a seat) a.reach.directory access.address access.bytes access.store ≡ Shared place
      shared =
          let start = start_of a.reach.directory first.segment in sym (found-where (Ok first) is)
          ∙ ap (λ (b : Bool). if b then Private (offset_of a.reach.directory.page first) else Shared (start + offset_of a.reach.directory.page first)) low
          ∙ ap (λ (offset : ℕ). Shared (start + offset)) kept

      -- and else those from its first byte's to its last byte's, all in the store
      pub touches-shared : 0 < access.bytes
          → lines_between (line_of a.reach.directory place) (line_of a.reach.directory (place + access.bytes - 1)) access.store ≡ lines_of_access (program_in a seat) a.reach.directory access
      touches-shared some = ap (by_store access.store) (lines-of a.reach.directory place access.bytes some)
          ∙ sym (ap (λ (at : Located). by_store access.store (lines_at a.reach.directory at access.bytes)) shared)

      pub touches-within : place + access.bytes ≤ byte_count a.reach.directory
      touches-within = shared-ends (program_in a seat) a.reach.directory (access.address / 2 ^ 28) (access.address % 2 ^ 28) access.bytes access.store place shared

-- a set of a page has at most sixteen lines
few-of-page : (set : List ℕ) → IsOfPage set → length set ≤ 16
unfolding passing
few-of-page set of =
    let all = length-range_with_len 0 16 in let kept = filter-short (λ line. has set line) (range_with_len 0 16) in
    let same = ap length of in omega (arith, all, kept, same)

-- so what is held of so few pages is few
pub few-written : (pages : List (List ℕ × List ℕ)) → AreHeldOfPages pages → length pages ≤ 1024 → write_count pages ≤ 16384
few-written pages of few =
    omega (
      arith,
      few,
      sum_by-le (λ (held : List ℕ × List ℕ). length held.1) 16 pages
          (All-from_get_or (λ (held : List ℕ × List ℕ). length held.1 ≤ 16) pages nothing (λ page below. few-of-page _ (of.writes page))),
    )

-- How many lines will have been written, with those of a touch.
module _ (a : Activity) (seat : ℕ) (sound : IsActivitySound a) where
  abbrev pages : List (List ℕ × List ℕ)
  pages = of_seat a.seating.holding seat

  pub few-held : AreSegmentsLegal a.reach.directory.segments → seat < 16 → write_count pages ≤ 16384
  few-held legal below =
      let long : length pages ≡ a.seating.holding.pages =
      All-get_or (λ (held : List (List ℕ × List ℕ)). length held ≡ a.seating.holding.pages) a.seating.holding.seats seat [] (omega (arith, below, sound.seating.whole.0)) sound.seating.whole.1 in
      few-written pages (sound.lines seat) (omega (arith, long, sound.pages, legal.pages))

  pub counts-none : (touch : TouchedLines) → touch ≡ TouchedLines.Nothing → write_count pages ≡ lines_with a seat (wants_of touch)
  counts-none touch is =
      sym (written-none pages (sound.lines seat) (record { reads = All-nil (λ (w : Want). IsOfPage w.reads); writes = All-nil (λ (w : Want). IsOfPage w.writes) }))
      ∙ ap (λ (t : TouchedLines). lines_with a seat (wants_of t)) (sym is)

  module _ (touch : TouchedLines) (wanted : AreWanted a.reach.directory (wants_of touch)) where
    pub counts-one : (want : Want) → touch ≡ TouchedLines.One want
        → write_count pages + length (difference want.writes (held_at a.seating.holding seat want.page).1) ≡ lines_with a seat (wants_of touch)
    counts-one want is =
        sym (written-one pages (sound.lines seat) want (subst (λ (t : TouchedLines). AreOfPage (wants_of t)) is wanted.sets))
        ∙ ap (λ (t : TouchedLines). lines_with a seat (wants_of t)) (sym is)

    module _ (first second : Want) (is : touch ≡ TouchedLines.Two first second) where
      pub counts-two : write_count pages
          + (length (difference first.writes (held_at a.seating.holding seat first.page).1) + length (difference second.writes (held_at a.seating.holding seat second.page).1))
          ≡ lines_with a seat (wants_of touch)
      counts-two =
          sym (written-two pages (sound.lines seat) first second (subst (λ (t : TouchedLines). AreOfPage (wants_of t)) is wanted.sets) others)
          ∙ ap (λ (t : TouchedLines). lines_with a seat (wants_of t)) (sym is)
        where
          others : first.page ≡ second.page → ⊥
          others same = both_ways (second.page == first.page)
              (or_parts (second.page == first.page) false (subst (λ (t : TouchedLines). AreDistinct (pages_wanted (wants_of t))) is wanted.once).0).0 (eq-eqb second.page first.page (sym same))
