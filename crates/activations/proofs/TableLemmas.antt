-- The authority of pages under identifiers of seats, and a seat that is left: its entry goes, and its pages are nobody's.
use Rattle.activations.proofs.Common.{not-false, ◌≡◌, refl, ℕ, suc, ◌+◌, ◌*◌, ◌/◌, ◌%◌, ◌<◌, ◌==◌, Bool, true, false, List, slice_index_or, arith, ap, sym, ◌∙◌, inl, inr, nat_tests, get_or_past, get_or-map-range_with_len, length-map-range_with_len, passing, has, page_of_line, permits, flat_lines, has-page, Authority, grant_of, lets, unowned, nobody, IsThere, StandsFor, NumbersAscend, permitted-told, seat-told, sitter, IsOpenLine, Activity, flat_authority, authority_at, authority_under, number_under, entry_in, entries, desk_over, IsActivitySound, KeepsDesk, IsIdentified, Grant, zero, ◌≤◌, not, if◌then◌else◌, [], ◌∷◌, length, map, slice_set, range_with_len, subst, get_or-set_same, get_or-set_other, eqb-false, and_parts, and_from, not-true, length-map, length-set, get_or-map, All-filter, IsOfPage, has-filter, cleared_entry, owners_told, freed-told, others, told-others, number_in, seat_left, taken-below, kept-left, same-with, other-with, of_page, nothing, of_seat, no_lines_of, released, authority_told, AreHeldOfPages, vacated, cond_both, map-map, cases_lt}
use Rattle.desk_law.proofs.Entries.{between}
use Rattle.activations.proofs.SittingLemmas.{each_seat}

pub nobody-page : (page : ℕ) → flat_authority page (grant_of unowned) ≡ nobody
unfolding passing
nobody-page page = refl

-- the authority of each page is told of its entry; beyond the store it is nobody's
pub under-page : (owned : List Authority) (page : ℕ) → slice_index_or (authority_under owned) page nobody ≡ authority_at owned page
under-page owned page = grind (arith, nat_tests, nobody-page, get_or-map-range_with_len, length-map-range_with_len, get_or_past)

-- what the entry of a page permits to an identifier, in flat lines
pub permits-flat : (owned : List Authority) (line tid : ℕ) (store : Bool)
    → lets (slice_index_or (authority_under owned) (page_of_line line) nobody) tid line store
    ≡ lets (grant_of (slice_index_or owned (page_of_line line) unowned)) tid (line % 16) store
permits-flat owned line tid store =
    let whole : line ≡ line / 16 * 16 + line % 16 = omega arith in
    ap (λ (one : Grant). lets one tid line store) (under-page owned (line / 16))
    ∙ ap (λ (bit : Bool). permits ((grant_of (slice_index_or owned (line / 16) unowned)).owner == tid) (grant_of (slice_index_or owned (line / 16) unowned)).write bit store)
    (ap (has (flat_lines (line / 16) (grant_of (slice_index_or owned (line / 16) unowned)).lines)) whole
    ∙ has-page (line / 16) (line % 16) (grant_of (slice_index_or owned (line / 16) unowned)).lines)

module _ (a : Activity) (sound : IsActivitySound a) (committed : List ℕ) (ascend : NumbersAscend 0 (entries a) a.next) where
  -- those that sit have numbers from 1 on
  pub number-some : (seat : ℕ) → has a.seating.taken seat ≡ true → 0 < (sitter a.seating seat).number
  number-some seat taken = (between 0 a.next (entries a) (entry_in a seat) ascend (seat-told a.seating.taken (entry_in a) seat taken)).0

  -- on each page the identifier of a taken seat stands where its number is told
  pub stands-for : (seat : ℕ) → has a.seating.taken seat ≡ true → StandsFor (number_under a) (seat + 1) (sitter a.seating seat).number (authority_under a.reach.entries)
  stands-for seat taken = record {
    is = let next : seat + 1 ≡ suc seat = omega arith in ap (number_under a) next;
    alone = λ page. ap (λ (one : Grant). one.owner == seat + 1) (under-page a.reach.entries page)
        ∙ by_owner (slice_index_or a.reach.entries page unowned) (sound.identified page)
        ∙ sym (ap (λ (one : Grant). number_under a one.owner == (sitter a.seating seat).number) (under-page a.reach.entries page));
  }
    where
      by_owner : (one : Authority) → IsIdentified a.seating.taken one → (one.tid == seat + 1) ≡ (number_under a one.tid == (sitter a.seating seat).number)
      by_owner one (inl none) = let some = number-some seat taken in grind (arith, nat_tests, none, some)
      by_owner one (inr (other, inside, is)) =
          let next : other + 1 ≡ suc other = omega arith in let at = ap (number_under a) (is ∙ next) in let apart = sound.seats.apart other seat inside taken in
          grind (arith, nat_tests, is, at, apart)

module _ (a : Activity) (sound : IsActivitySound a) (committed : List ℕ) (follows : KeepsDesk a committed) where
  -- a line that is open to the selected seat is there for its activation
  pub there : (seat : ℕ) (order : List (ℕ × ℕ)) (line : ℕ) (store : Bool) → has a.seating.taken seat ≡ true → a.reach.runner ≡ seat + 1
      → IsOpenLine a.reach line store → IsThere (desk_over a committed order) (sitter a.seating seat).number line store
  there seat order line store taken runner is = record {
    resident = is.resident;
    permits =
        permitted-told (number_under a) refl (seat + 1) (sitter a.seating seat).number (authority_under a.reach.entries) (page_of_line line) line store (stands-for a sound committed follows.orderly.active.ascend seat taken)
        ∙ permits-flat a.reach.entries line (seat + 1) store
        ∙ ap (λ (tid : ℕ). lets (grant_of (slice_index_or a.reach.entries (page_of_line line) unowned)) tid (line % 16) store) (sym runner)
        ∙ not-false (lets (grant_of (slice_index_or a.reach.entries (page_of_line line) unowned)) a.reach.runner (line % 16) store) is.permits;
  }

-- an entry that is cleared is told as a page that is freed
cleared-told : (page tid : ℕ) (one : Authority) → flat_authority page (grant_of (cleared_entry tid one)) ≡ (if (flat_authority page (grant_of one)).owner == tid then nobody else flat_authority page (grant_of one))
cleared-told page tid one = grind (arith, nobody-page)

pub map-range : (f g : ℕ → Grant) (from count : ℕ) → ((page : ℕ) → from ≤ page → page < from + count → f page ≡ g page) → map f (range_with_len from count) ≡ map g (range_with_len from count)
map-range f g from zero same = refl
map-range f g from (suc count) same =
    λ i. same from (omega arith) (omega arith) i ∷ map-range f g (from + 1) count (λ page above below. same page (omega (arith, above)) (omega (arith, below))) i

-- the pages of an identifier that is cleared are nobody's
pub cleared-under : (owned : List Authority) (tid : ℕ) → authority_under (map (cleared_entry tid) owned) ≡ map (λ (one : Grant). if one.owner == tid then nobody else one) (authority_under owned)
cleared-under owned tid =
    ap (λ (n : ℕ). map (authority_at (map (cleared_entry tid) owned)) (range_with_len 0 n)) (length-map owned (cleared_entry tid))
    ∙ map-range (authority_at (map (cleared_entry tid) owned)) (λ page. if (authority_at owned page).owner == tid then nobody else authority_at owned page) 0 (length owned)
    (λ page above below. ap (λ (one : Authority). flat_authority page (grant_of one)) (get_or-map (cleared_entry tid) owned page unowned unowned (omega (arith, below))) ∙ cleared-told page tid (slice_index_or owned page unowned))
    ∙ sym (map-map (λ (one : Grant). if one.owner == tid then nobody else one) (authority_at owned) (range_with_len 0 (length owned)))

-- nothing is of pages
pub none-of-page : (pages page : ℕ) → of_page (no_lines_of pages) page ≡ nothing
none-of-page zero page = refl
none-of-page (suc pages) zero = refl
none-of-page (suc pages) (suc page) = none-of-page pages page

no-line-of-page : IsOfPage []
unfolding passing
no-line-of-page = refl

pub none-of-pages : (pages : ℕ) → AreHeldOfPages (no_lines_of pages)
none-of-pages pages = record {
  reads = λ page. subst (λ (held : List ℕ × List ℕ). IsOfPage held.0) (sym (none-of-page pages page)) no-line-of-page;
  writes = λ page. subst (λ (held : List ℕ × List ℕ). IsOfPage held.1) (sym (none-of-page pages page)) no-line-of-page;
}

module _ (a : Activity) (seat : ℕ) (sound : IsActivitySound a) (taken : has a.seating.taken seat ≡ true) where
  below : seat < 16
  below = taken-below a.seating sound.seating seat taken

  -- those that are left
  pub left-taken : (at : ℕ) → has (seat_left a.seating seat).taken at ≡ true → (has a.seating.taken at ≡ true) × ((at == seat) ≡ false)
  left-taken at inside =
      let parts = and_parts (has a.seating.taken at) (not (at == seat)) (sym (has-filter (λ other. not (other == seat)) a.seating.taken at) ∙ inside) in
      (parts.0, not-true (at == seat) parts.1)

  pub entries-left : entries (vacated a seat) ≡ others (entry_in a seat) (entries a)
  entries-left = told-others a.seating.taken (entry_in a) seat (λ at inside. sound.seats.apart at seat inside taken)

  pub authority-left : StandsFor (number_under a) (seat + 1) (sitter a.seating seat).number (authority_under a.reach.entries)
      → authority_told (vacated a seat) ≡ map (λ (one : Grant). if one.owner == (sitter a.seating seat).number then nobody else one) (authority_told a)
  authority-left stands = ap (owners_told (number_under a)) (cleared-under a.reach.entries (seat + 1))
      ∙ freed-told (number_under a) refl (seat + 1) (sitter a.seating seat).number (authority_under a.reach.entries) stands

  begun-other : (at : ℕ) → (at == seat) ≡ false → slice_index_or (slice_set a.reach.begun seat false) at false ≡ slice_index_or a.reach.begun at false
  begun-other at differs = get_or-set_other a.reach.begun seat at false false (eqb-false at seat differs)

  identified-left : (one : Authority) → IsIdentified a.seating.taken one → IsIdentified (seat_left a.seating seat).taken (cleared_entry (seat + 1) one)
  identified-left one (inl none) = inl (grind arith)
  identified-left one (inr (other, inside, same)) = cond_both (one.tid == seat + 1) _ _ (IsIdentified (seat_left a.seating seat).taken) (λ _. inl refl) (λ e.
      let differs : (other == seat) ≡ false = grind (arith, nat_tests, e, same) in
      inr (other, has-filter (λ other. not (other == seat)) a.seating.taken other ∙ and_from (has a.seating.taken other) (not (other == seat)) inside (ap not differs), same))

  pub sound-left : IsActivitySound (vacated a seat)
  sound-left = record {
    seating = kept-left a.seating sound.seating seat below;
    seats = record { apart = λ at other inside there. sound.seats.apart at other (left-taken at inside).0 (left-taken other there).0 };
    numbers = All-filter (λ other. not (other == seat)) (λ at. number_in a.seating at < a.next) a.seating.taken sound.numbers;
    live = sound.live;
    pages = sound.pages;
    lines = each_seat {P = λ at. AreHeldOfPages (of_seat (released a.seating.holding seat) at)} seat
        (subst AreHeldOfPages (sym (same-with a.seating.holding seat (no_lines_of a.seating.holding.pages) sound.seating.whole below)) (none-of-pages a.seating.holding.pages))
        (λ at e. subst AreHeldOfPages (sym (other-with a.seating.holding seat (no_lines_of a.seating.holding.pages) sound.seating.whole at e)) (sound.lines at));
    requests = λ at request inside waits. sound.requests at request (left-taken at inside).0 waits;
    begun = length-set a.reach.begun seat false ∙ sound.begun;
    entries = length-map a.reach.entries (cleared_entry (seat + 1)) ∙ sound.entries;
    set_up = λ at inside.
        let (there, differs) = left-taken at inside in let was = sound.set_up at there in
        record { program = was.program; begun = begun-other at differs ∙ was.begun; registers = was.registers; printed = was.printed; few = was.few };
    free = λ at gone.
        let there = get_or-set_same a.reach.begun seat false false (omega (arith, sound.begun, below)) in
        let is = has-filter (λ other. not (other == seat)) a.seating.taken at in let was = sound.free at in
        let other = begun-other at in grind (arith, nat_tests, there, is, was, other);
    identified = λ page. elim (cases_lt page (length a.reach.entries)) [
      | inl below ↦
          subst (IsIdentified (seat_left a.seating seat).taken) (sym (get_or-map (cleared_entry (seat + 1)) a.reach.entries page unowned unowned below)) (identified-left (slice_index_or a.reach.entries page unowned) (sound.identified page))
      | inr out ↦ inl (get_or_past (map (cleared_entry (seat + 1)) a.reach.entries) page unowned (let long = length-map a.reach.entries (cleared_entry (seat + 1)) in omega (arith, out, long)))
    ];
  }
