-- Pages that are refused and granted, and what a seat holds once it has taken what it asked for.
use Rattle.activations.proofs.Common.{length-map, ◌≡◌, refl, ℕ, zero, suc, ◌+◌, ◌*◌, ◌<◌, ◌≤◌, ◌==◌, if◌then◌else◌, Bool, true, false, List, [], ◌∷◌, filter, length, map, slice_set, range_with_len, arith, ap, sym, ◌∙◌, get_or-set_same, get_or-set_other, eqb-false, nat_tests, length-set, is_fine_page, passing, IsOfPage, has, within_page, is_whole_page, flat_lines, IsFlat, of_seat, held_at, Authority, unowned, grant_by, fine_grant_by, authority_given, authority_to_read, Activity, authority_at, authority_under, locks_in, IsActivitySound, flat_authority, Grant, grant_of, slice_index_or, subst, inr, eq-eqb, or_left, or_right, All-cons, All-head, All-tail, Layout, of_page_where, Want, AreWithin, of_page, together, with_want, with_wants, taken-below, kept-took, same-with, other-with, TouchedLines, AreHeldOfPages, IsIdentified, AreSet, AreGranted, AreLowered, locked, with_entries, each_refused, pages_picked, pages_refused, stores_into, wants_of, with_whole_page, lowered-alike, granted-alike, ◌/◌, ◌%◌, ◌&&◌, ◌||◌, not, list_any-append, Lines, both, pages_of, with_whole_pages, has-append, has-filter, list_any, reaches, has-whole_pages, lines_wanted, flat-taken, AreAlike, owners_told, granted-told, lowered-told, alike-then, sitter, AreOfPage, number_under, is_lowered, pages_lowered, pages_wanted, InFlight, granted, lowered, or-false, ◌≢◌, All, All-nil, page_of_line, permits, has-page, nobody, refuses, refused_pages, touched_pages, lines_within, NumbersAscend, refused-told, entries, desk_over, refuses_want, IsWantApart, lets, flat_map}
use Rattle.seats.specs.Holding.{taken as holding_more}
use Rattle.desk.specs.Instruction.{given_by_locks, with_each, to_read, lowered_pages}
use Rattle.desk_law.proofs.EachPage.{each-alike}
use Rattle.activations.proofs.HoldingLemmas.{held-flat, asked-alike, has-pages_wanted, whole-of-page, has-wanted}
use Rattle.activations.proofs.TableLemmas.{map-range, under-page, stands-for}
use Rattle.activations.proofs.SittingLemmas.{each_seat, sound-beside}

-- the lines of a page that pass a test, as flat lines
flat-filter : (base : ℕ) (p q : ℕ → Bool) (from n : ℕ) → ((x : ℕ) → from ≤ x → x < from + n → q (base + x) ≡ p x)
    → map (λ x. base + x) (filter p (range_with_len from n)) ≡ filter q (range_with_len (base + from) n)
flat-filter base p q from zero same = refl
flat-filter base p q from (suc n) same =
    let next : base + (from + 1) ≡ base + from + 1 = omega arith in let here = same from (omega arith) (omega arith) in
    let rest = flat-filter base p q (from + 1) n (λ x low high. same x (omega (arith, low)) (omega (arith, high))) in
    grind (arith, next, here, rest)

-- a set of lines of a page is the flat lines that lie in it
pub flat-within : (page : ℕ) (set lines : List ℕ) → IsOfPage set → ((x : ℕ) → x < 16 → has lines (page * 16 + x) ≡ has set x) → flat_lines page set ≡ within_page page lines
unfolding passing
flat-within page set lines of same =
    let whole : page * 16 + 0 ≡ page * 16 = omega arith in ap (flat_lines page) (sym of)
    ∙ flat-filter (page * 16) (has set) (has lines) 0 16 (λ x low high. same x high)
    ∙ ap (λ (k : ℕ). filter (has lines) (range_with_len k 16)) whole

flat-granted : (page tid : ℕ) (reads writes : List ℕ) → flat_authority page (grant_by tid reads writes) ≡ grant_by tid (flat_lines page reads) (flat_lines page writes)
flat-granted page tid reads [] = refl
flat-granted page tid reads (line ∷ lines) = refl

-- as many flat lines as lines
flat-whole : (page : ℕ) (set : List ℕ) → is_whole_page (flat_lines page set) ≡ is_whole_page set
flat-whole page set = ap (λ (n : ℕ). n == 16) (length-map set (λ line. page * 16 + line))

flat-fine : (page tid : ℕ) (storing : Bool) (reads writes : List ℕ) → flat_authority page (fine_grant_by tid storing reads writes) ≡ fine_grant_by tid storing (flat_lines page reads) (flat_lines page writes)
flat-fine page tid true reads writes = refl
flat-fine page tid false reads writes = grind (arith, flat-whole, flat-granted)

module _ (a : Activity) (seat page : ℕ) (sound : IsActivitySound a) where
  flat : IsFlat (of_seat a.seating.holding seat) (locks_in a seat)
  flat = held-flat (of_seat a.seating.holding seat) (sound.lines seat)

  pub reads-are : flat_lines page (held_at a.seating.holding seat page).0 ≡ within_page page (locks_in a seat).reads
  reads-are = flat-within page (held_at a.seating.holding seat page).0 (locks_in a seat).reads ((sound.lines seat).reads page) (λ x below. sym (flat.reads page x below))

  writes-are : flat_lines page (held_at a.seating.holding seat page).1 ≡ within_page page (locks_in a seat).writes
  writes-are = flat-within page (held_at a.seating.holding seat page).1 (locks_in a seat).writes ((sound.lines seat).writes page) (λ x below. sym (flat.writes page x below))

  -- What a grant makes of the entry of a page: the authority by the locks that are held in it, and whether the row stores into it.
  pub granted-page : (storing : Bool) → flat_authority page (authority_given a seat storing page)
      ≡ (if is_fine_page a.reach.directory page
      then fine_grant_by (seat + 1) storing (within_page page (locks_in a seat).reads) (within_page page (locks_in a seat).writes)
      else grant_by (seat + 1) (within_page page (locks_in a seat).reads) (within_page page (locks_in a seat).writes))
  granted-page storing = grind (arith, flat-fine, flat-granted, reads-are, writes-are)

  -- and with the write bit off
  pub lowered-page : flat_authority page (authority_to_read a seat page) ≡ record { owner = seat + 1; write = false; lines = within_page page (locks_in a seat).reads }
  lowered-page = ap (λ (lines : List ℕ). record { owner = seat + 1; write = false; lines = lines }) reads-are

  -- all its lines are held to read where so many are
  pub held-whole : is_whole_page (held_at a.seating.holding seat page).0 ≡ is_whole_page (within_page page (locks_in a seat).reads)
  held-whole = sym (flat-whole page (held_at a.seating.holding seat page).0) ∙ ap is_whole_page reads-are

-- one of a range set
set-range : (f g : ℕ → Grant) (from n k : ℕ) (value : Grant) → g (from + k) ≡ value → ((x : ℕ) → (x == from + k) ≡ false → g x ≡ f x)
    → map g (range_with_len from n) ≡ slice_set (map f (range_with_len from n)) k value
set-range f g from zero k value at other = refl
set-range f g from (suc n) zero value at other =
    let whole : from + 0 ≡ from = omega arith in
    λ i. (ap g (sym whole) ∙ at) i ∷ map-range g f (from + 1) n (λ x low high. other x (grind (arith, nat_tests, low))) i
set-range f g from (suc n) (suc k) value at other =
    let next : from + 1 + k ≡ from + suc k = omega arith in λ i. other from (grind (arith, nat_tests)) i
    ∷ set-range f g (from + 1) n k value (ap g next ∙ at) (λ x differs. other x (ap (λ (y : ℕ). x == y) (sym next) ∙ differs)) i

-- one entry set is one authority set
pub under-set : (owned : List Authority) (page : ℕ) (one : Authority) → page < length owned → authority_under (slice_set owned page one) ≡ slice_set (authority_under owned) page (flat_authority page (grant_of one))
under-set owned page one within =
    let whole : 0 + page ≡ page = omega arith in
    ap (λ (n : ℕ). map (authority_at (slice_set owned page one)) (range_with_len 0 n)) (length-set owned page one)
    ∙ set-range (authority_at owned) (authority_at (slice_set owned page one)) 0 (length owned) page (flat_authority page (grant_of one))
    (ap (authority_at (slice_set owned page one)) whole ∙ ap (λ (one : Authority). flat_authority page (grant_of one)) (get_or-set_same owned page one unowned within))
    (λ x differs. ap (λ (one : Authority). flat_authority x (grant_of one)) (get_or-set_other owned page x one unowned (eqb-false x page (sym (ap (λ (y : ℕ). x == y) whole) ∙ differs))))

-- what is set is there, or what was
set-keeps : {A : Type 0} (P : A → Type 0) (xs : List A) (place at : ℕ) (value other : A) → P value → P (slice_index_or xs at other) → P (slice_index_or (slice_set xs place value) at other)
set-keeps P [] place at value other new old = old
set-keeps P (x ∷ xs) zero zero value other new old = new
set-keeps P (x ∷ xs) zero (suc at) value other new old = old
set-keeps P (x ∷ xs) (suc place) zero value other new old = old
set-keeps P (x ∷ xs) (suc place) (suc at) value other new old = set-keeps P xs place at value other new old

-- what is held of a page and wanted of it are lines of it
more-of-pages : (pages : List (List ℕ × List ℕ)) (wants : List Want) → AreHeldOfPages pages → AreHeldOfPages (with_wants pages wants)
more-of-pages pages [] of = of
more-of-pages pages (want ∷ wants) of = more-of-pages (with_want pages want) wants (record {
  reads = λ page. set-keeps (λ held. IsOfPage held.0) pages want.page page (together (of_page pages want.page) want) ([], []) (of_page_where _) (of.reads page);
  writes = λ page. set-keeps (λ held. IsOfPage held.1) pages want.page page (together (of_page pages want.page) want) ([], []) (of_page_where _) (of.writes page);
})

-- with its whole page where one is written, a want is of the same page
pub within-whole : (directory : Layout) (pages : ℕ) (wants : List Want) → AreWithin pages wants → AreWithin pages (map (with_whole_page directory) wants)
within-whole directory pages [] within = within
within-whole directory pages (want ∷ wants) within =
    All-cons (λ (w : Want). w.page < pages) (with_whole_page directory want) (map (with_whole_page directory) wants)
    (let first = All-head (λ (w : Want). w.page < pages) want wants within in grind arith)
    (within-whole directory pages wants (All-tail (λ (w : Want). w.page < pages) want wants within))

-- the pages of a touch are within those of the store
pub one_within : (pages : ℕ) (touch : TouchedLines) (want : Want) → AreWithin pages (wants_of touch) → touch ≡ TouchedLines.One want → want.page < pages
one_within pages touch want within is = All-head (λ (w : Want). w.page < pages) want [] (subst (λ (t : TouchedLines). AreWithin pages (wants_of t)) is within)

pub first_within : (pages : ℕ) (touch : TouchedLines) (first second : Want) → AreWithin pages (wants_of touch) → touch ≡ TouchedLines.Two first second → first.page < pages
first_within pages touch first second within is = All-head (λ (w : Want). w.page < pages) first (second ∷ []) (subst (λ (t : TouchedLines). AreWithin pages (wants_of t)) is within)

pub second_within : (pages : ℕ) (touch : TouchedLines) (first second : Want) → AreWithin pages (wants_of touch) → touch ≡ TouchedLines.Two first second → second.page < pages
second_within pages touch first second within is = All-head (λ (w : Want). w.page < pages) second []
    (All-tail (λ (w : Want). w.page < pages) first (second ∷ []) (subst (λ (t : TouchedLines). AreWithin pages (wants_of t)) is within))

-- entries that are set look at what is told of each page alone
pub set-same : (of other : ℕ → Grant) (pages : List ℕ) (old new : List Authority) → ((page : ℕ) → has pages page ≡ true → of page ≡ other page) → AreSet of pages old new → AreSet other pages old new
set-same of other [] old new same is = is
set-same of other (page ∷ pages) old new same (one, entry, rest) = (
  one,
  entry ∙ same page (or_left (page == page) (has pages page) (eq-eqb page page refl)),
  set-same of other pages (slice_set old page one) new (λ at inside. same at (or_right (page == at) (has pages at) inside)) rest,
)

-- grants look at what is held alone
pub granted-same : (a other : Activity) (seat : ℕ) (wants : List Want) (pages : List ℕ) (old new : List Authority) → a.seating ≡ other.seating → a.reach.directory ≡ other.reach.directory
    → AreGranted a seat wants pages old new → AreGranted other seat wants pages old new
granted-same a other seat wants pages old new same directory is =
    set-same (λ page. authority_given a seat (stores_into wants page) page) (λ page. authority_given other seat (stores_into wants page) page) pages old new
    (λ page inside i.
    if is_fine_page (directory i) page
    then fine_grant_by (seat + 1) (stores_into wants page) (held_at (same i).holding seat page).0 (held_at (same i).holding seat page).1
    else grant_by (seat + 1) (held_at (same i).holding seat page).0 (held_at (same i).holding seat page).1)
    is

set-length : (of : ℕ → Grant) (pages : List ℕ) (old new : List Authority) → AreSet of pages old new → length new ≡ length old
set-length of [] old new is = ap length is
set-length of (page ∷ pages) old new (one, entry, rest) = set-length of pages (slice_set old page one) new rest ∙ length-set old page one

pub granted-owner : (tid : ℕ) (reads writes : List ℕ) → (grant_by tid reads writes).owner ≡ tid
granted-owner tid reads [] = refl
granted-owner tid reads (line ∷ lines) = refl

pub fine-owner : (tid : ℕ) (storing : Bool) (reads writes : List ℕ) → (fine_grant_by tid storing reads writes).owner ≡ tid
fine-owner tid true reads writes = refl
fine-owner tid false reads writes = granted-owner tid reads _

given-owner : (a : Activity) (seat : ℕ) (storing : Bool) (page : ℕ) → (authority_given a seat storing page).owner ≡ seat + 1
given-owner a seat storing page = grind (arith, granted-owner)

-- each entry is nobody's or a taken seat's, also once some are a taken seat's
set-identified : (taken : List ℕ) (seat : ℕ) (of : ℕ → Grant) (pages : List ℕ) (old new : List Authority) → has taken seat ≡ true → ((page : ℕ) → (of page).owner ≡ seat + 1) → AreSet of pages old new
    → ((page : ℕ) → IsIdentified taken (slice_index_or old page unowned)) → (page : ℕ) → IsIdentified taken (slice_index_or new page unowned)
set-identified taken seat of [] old new inside owner is was = λ page. subst (λ (entries : List Authority). IsIdentified taken (slice_index_or entries page unowned)) (sym is) (was page)
set-identified taken seat of (page ∷ pages) old new inside owner (one, entry, rest) was =
    set-identified taken seat of pages (slice_set old page one) new inside owner rest
    (λ other. set-keeps (IsIdentified taken) old page other one unowned (inr (seat, inside, ap (λ (e : Grant). e.owner) entry ∙ owner page)) (was other))

-- Pages that a taken seat gets leave all sound.
pub set-sound : (a : Activity) (seat : ℕ) (of : ℕ → Grant) (pages : List ℕ) (owned : List Authority) → IsActivitySound a → has a.seating.taken seat ≡ true → ((page : ℕ) → (of page).owner ≡ seat + 1)
    → AreSet of pages a.reach.entries owned → IsActivitySound (with_entries a owned)
set-sound a seat of pages owned sound taken owner is =
    sound-beside a a.next a.reach.pool owned a.reach.registers a.reach.runner sound sound.numbers (set-length of pages a.reach.entries owned is ∙ sound.entries)
    (set-identified a.seating.taken seat of pages a.reach.entries owned taken owner is sound.identified)

-- one page
pub one-sound : (a : Activity) (seat page : ℕ) (one : Authority) → IsActivitySound a → has a.seating.taken seat ≡ true → (grant_of one).owner ≡ seat + 1 → IsActivitySound (with_entries a (slice_set a.reach.entries page one))
one-sound a seat page one sound taken owner = set-sound a seat (λ _. grant_of one) (page ∷ []) (slice_set a.reach.entries page one) sound taken (λ _. owner) (one, refl, refl)

-- Who holds what he asked for, with the pages that are granted, leaves all sound.
pub taken-sound : (a : Activity) (seat : ℕ) (wants : List Want) (pages : List ℕ) (owned : List Authority) → IsActivitySound a → has a.seating.taken seat ≡ true
    → AreGranted (locked a seat wants owned) seat wants pages a.reach.entries owned → IsActivitySound (locked a seat wants owned)
taken-sound a seat wants pages owned sound taken is =
    let below : seat < 16 = taken-below a.seating sound.seating seat taken in
    let more : List (List ℕ × List ℕ) = with_wants (of_seat a.seating.holding seat) (map (with_whole_page a.reach.directory) wants) in
    record {
      seating = kept-took a.seating sound.seating seat (map (with_whole_page a.reach.directory) wants) taken;
      seats = sound.seats;
      numbers = sound.numbers;
      live = sound.live;
      pages = sound.pages;
      lines = each_seat {P = λ at. AreHeldOfPages (of_seat (holding_more a.seating.holding seat (map (with_whole_page a.reach.directory) wants)) at)} seat
          (subst AreHeldOfPages (sym (same-with a.seating.holding seat more sound.seating.whole below)) (more-of-pages (of_seat a.seating.holding seat) (map (with_whole_page a.reach.directory) wants) (sound.lines seat)))
          (λ at e. subst AreHeldOfPages (sym (other-with a.seating.holding seat more sound.seating.whole at e)) (sound.lines at));
      requests = sound.requests;
      begun = sound.begun;
      entries = set-length (λ page. authority_given (locked a seat wants owned) seat (stores_into wants page) page) pages a.reach.entries owned is ∙ sound.entries;
      set_up = λ at inside. let was = sound.set_up at inside in record { program = was.program; begun = was.begun; registers = was.registers; printed = was.printed; few = was.few };
      free = sound.free;
      identified =
          set-identified a.seating.taken seat (λ page. authority_given (locked a seat wants owned) seat (stores_into wants page) page) pages a.reach.entries owned taken
          (λ page. given-owner (locked a seat wants owned) seat (stores_into wants page) page) is sound.identified;
    }

-- The pages of a touch that are picked where its entry refuses them are those that are refused.
pub picked-refused : (owned : List Authority) (tid : ℕ) (touch : TouchedLines) → pages_picked touch (each_refused owned tid touch) ≡ pages_refused owned tid (wants_of touch)
picked-refused owned tid TouchedLines.Nothing = refl
picked-refused owned tid (TouchedLines.One want) = grind arith
picked-refused owned tid (TouchedLines.Two first second) = grind arith

-- two sets of flat lines of the same pages are alike
pub flat-alike : (pages : List (List ℕ × List ℕ)) (one other : Lines) → IsFlat pages one → IsFlat pages other → AreAlike one other
flat-alike pages one other first second = record {
  reads = λ line. let whole : line / 16 * 16 + line % 16 ≡ line = omega arith in
      sym (ap (has one.reads) whole) ∙ sym (first.reads (line / 16) (line % 16) (omega arith)) ∙ second.reads (line / 16) (line % 16) (omega arith) ∙ ap (has other.reads) whole;
  writes = λ line. let whole : line / 16 * 16 + line % 16 ≡ line = omega arith in
      sym (ap (has one.writes) whole) ∙ sym (first.writes (line / 16) (line % 16) (omega arith)) ∙ second.writes (line / 16) (line % 16) (omega arith) ∙ ap (has other.writes) whole;
}

both-alike : (a b c d : Lines) → AreAlike a b → AreAlike c d → AreAlike (both a c) (both b d)
both-alike a b c d first second = record {
  reads = λ line. has-append a.reads c.reads line ∙ (λ i. first.reads line i || second.reads line i) ∙ sym (has-append b.reads d.reads line);
  writes = λ line. has-append a.writes c.writes line ∙ (λ i. first.writes line i || second.writes line i) ∙ sym (has-append b.writes d.writes line);
}

or-parts : (p q r s : Bool) → ((p || q) || (r || s)) ≡ ((p || r) || (q || s))
or-parts p q r s = grind arith

-- whole pages of both are both with whole pages
whole-both : (fine : ℕ → Bool) (one other : Lines) → AreAlike (both (with_whole_pages fine one) (with_whole_pages fine other)) (with_whole_pages fine (both one other))
whole-both fine one other = record {
  reads = λ line.
      has-append (with_whole_pages fine one).reads (with_whole_pages fine other).reads line
      ∙ (λ i. has-whole_pages fine one line i || has-whole_pages fine other line i)
      ∙ or-parts (has one.reads line) (list_any (reaches fine line) one.writes) (has other.reads line) (list_any (reaches fine line) other.writes)
      ∙ sym (λ i. has-append one.reads other.reads line i || list_any-append (reaches fine line) one.writes other.writes i)
      ∙ sym (has-whole_pages fine (both one other) line);
  writes = λ line. refl;
}

-- what is taken is held beside what was held,
pub taken-both : (a : Activity) (seat : ℕ) (wants : List Want) (entries : List Authority) → IsActivitySound a → seat < 16
    → AreOfPage wants → AreWithin (length (of_seat a.seating.holding seat)) (map (with_whole_page a.reach.directory) wants)
    → AreHeldOfPages (of_seat (locked a seat wants entries).seating.holding seat)
    → AreAlike (locks_in (locked a seat wants entries) seat) (both (locks_in a seat) (lines_wanted (map (with_whole_page a.reach.directory) wants)))
taken-both a seat wants entries sound below sets inside of =
    flat-alike (with_wants (of_seat a.seating.holding seat) (map (with_whole_page a.reach.directory) wants)) (locks_in (locked a seat wants entries) seat) (both (locks_in a seat) (lines_wanted (map (with_whole_page a.reach.directory) wants)))
    (subst (λ (pages : List (List ℕ × List ℕ)). IsFlat pages (locks_in (locked a seat wants entries) seat)) holds (held-flat (of_seat (locked a seat wants entries).seating.holding seat) of))
    (flat-taken (of_seat a.seating.holding seat) (locks_in a seat) (map (with_whole_page a.reach.directory) wants) (held-flat (of_seat a.seating.holding seat) (sound.lines seat)) inside (whole-of-page a.reach.directory wants sets).reads (whole-of-page a.reach.directory wants sets).writes)
  where
    holds : of_seat (locked a seat wants entries).seating.holding seat ≡ with_wants (of_seat a.seating.holding seat) (map (with_whole_page a.reach.directory) wants)
    holds = same-with a.seating.holding seat (with_wants (of_seat a.seating.holding seat) (map (with_whole_page a.reach.directory) wants)) sound.seating.whole below

-- with the whole pages that are written into
pub taken-alike : (a : Activity) (seat : ℕ) (wants : List Want) (entries : List Authority) (within : Lines) → IsActivitySound a → seat < 16
    → AreOfPage wants → AreWithin (length (of_seat a.seating.holding seat)) (map (with_whole_page a.reach.directory) wants)
    → AreHeldOfPages (of_seat (locked a seat wants entries).seating.holding seat)
    → AreAlike (locks_in a seat) (with_whole_pages (is_fine_page a.reach.directory) within)
    → AreAlike (locks_in (locked a seat wants entries) seat) (with_whole_pages (is_fine_page a.reach.directory) (both within (lines_wanted wants)))
taken-alike a seat wants entries within sound below sets inside of alike =
    alike-then (locks_in (locked a seat wants entries) seat) (both (locks_in a seat) (lines_wanted (map (with_whole_page a.reach.directory) wants))) (with_whole_pages (is_fine_page a.reach.directory) (both within (lines_wanted wants)))
    (taken-both a seat wants entries sound below sets inside of)
    (alike-then (both (locks_in a seat) (lines_wanted (map (with_whole_page a.reach.directory) wants))) (both (with_whole_pages (is_fine_page a.reach.directory) within) (with_whole_pages (is_fine_page a.reach.directory) (lines_wanted wants))) (with_whole_pages (is_fine_page a.reach.directory) (both within (lines_wanted wants)))
    (both-alike (locks_in a seat) (with_whole_pages (is_fine_page a.reach.directory) within) (lines_wanted (map (with_whole_page a.reach.directory) wants)) (with_whole_pages (is_fine_page a.reach.directory) (lines_wanted wants)) alike (asked-alike a.reach.directory wants sets))
    (whole-both (is_fine_page a.reach.directory) within (lines_wanted wants)))

-- Where entries are set, authorities in flat lines are set, under the seat's identifier.
set-under : (of : ℕ → Grant) (told : ℕ → Grant) (pages : List ℕ) (old new : List Authority) → ((page : ℕ) → has pages page ≡ true → page < length old)
    → ((page : ℕ) → has pages page ≡ true → flat_authority page (of page) ≡ told page)
    → AreSet of pages old new → authority_under new ≡ with_each told pages (authority_under old)
set-under of told [] old new below same is = ap authority_under is
set-under of told (page ∷ pages) old new below same (one, entry, rest) =
    set-under of told pages (slice_set old page one) new
    (λ other inside. subst (λ (n : ℕ). other < n) (sym (length-set old page one)) (below other (or_right (page == other) (has pages other) inside)))
    (λ other inside. same other (or_right (page == other) (has pages other) inside)) rest ∙ ap (with_each told pages)
    (under-set old page one (below page (or_left (page == page) (has pages page) (eq-eqb page page refl)))
    ∙ ap (slice_set (authority_under old) page) (ap (flat_authority page) entry ∙ same page (or_left (page == page) (has pages page) (eq-eqb page page refl))))

module _ (a : Activity) (seat : ℕ) (attempt : InFlight) (locks : Lines) (wants : List Want) (sound : IsActivitySound a) (number : attempt.entry.number ≡ (sitter a.seating seat).number)
    (lines : attempt.lines ≡ lines_wanted wants) (sets : AreOfPage wants) (alike : AreAlike (locks_in a seat) locks) where
  abbrev under : InFlight
  under = record attempt { entry = record attempt.entry { number = seat + 1 } }

  number-is : number_under a (seat + 1) ≡ attempt.entry.number
  number-is = let next : seat + 1 ≡ suc seat = omega arith in ap (number_under a) next ∙ sym number

  -- a page is stored into where one of its lines is written
  stores : (page : ℕ) → stores_into wants page ≡ has (pages_of attempt.lines.writes) page
  stores page = sym (has-pages_wanted wants page sets.writes) ∙ ap (λ (l : Lines). has (pages_of l.writes) page) (sym lines)

  -- Grants of entries are grants of the desk.
  pub granted-all : (pages : List ℕ) (old new : List Authority) → ((page : ℕ) → has pages page ≡ true → page < length old) → AreGranted a seat wants pages old new
      → owners_told (number_under a) (authority_under new) ≡ granted (is_fine_page a.reach.directory) attempt locks pages (owners_told (number_under a) (authority_under old))
  granted-all pages old new below is = ap (owners_told (number_under a))
      (set-under (λ page. authority_given a seat (stores_into wants page) page) (given_by_locks (is_fine_page a.reach.directory) (record attempt { entry = record attempt.entry { number = seat + 1 } }) (locks_in a seat)) pages old new below
      (λ page inside.
      granted-page a seat page sound (stores_into wants page) ∙ ap
      (λ (storing : Bool).
      if is_fine_page a.reach.directory page
      then fine_grant_by (seat + 1) storing (within_page page (locks_in a seat).reads) (within_page page (locks_in a seat).writes)
      else grant_by (seat + 1) (within_page page (locks_in a seat).reads) (within_page page (locks_in a seat).writes))
      (stores page))
      is)
      ∙ granted-told (number_under a) refl (is_fine_page a.reach.directory) (seat + 1) attempt (locks_in a seat) pages (authority_under old) number-is
      ∙ granted-alike (is_fine_page a.reach.directory) attempt (locks_in a seat) locks pages (owners_told (number_under a) (authority_under old)) alike

  -- The pages whose write bits go off are the desk's,
  lowered-pages : (page : ℕ) → has (pages_lowered a seat wants) page ≡ has (lowered_pages (is_fine_page a.reach.directory) attempt (locks_in a seat)) page
  lowered-pages page = each wants
      ∙ (λ i. stores page i && (is_fine_page a.reach.directory page && not (held-whole a seat page sound i)))
      ∙ sym (has-filter (λ at. is_fine_page a.reach.directory at && not (is_whole_page (within_page at (locks_in a seat).reads))) (pages_of attempt.lines.writes) page)
    where
      each : (wants : List Want) → has (pages_wanted (filter (λ want. not (length want.writes == 0) && is_lowered a seat want.page) wants)) page ≡ (stores_into wants page && is_lowered a seat page)
      each [] = refl
      each (want ∷ wants) = grind (arith, nat_tests, each wants)

  -- and so are they.
  pub lowered-all : (old new : List Authority) → ((page : ℕ) → has (pages_lowered a seat wants) page ≡ true → page < length old) → AreLowered a seat (pages_lowered a seat wants) old new
      → owners_told (number_under a) (authority_under new) ≡ lowered (is_fine_page a.reach.directory) attempt locks (owners_told (number_under a) (authority_under old))
  lowered-all old new below is = ap (owners_told (number_under a))
      (set-under (authority_to_read a seat) (to_read (record attempt { entry = record attempt.entry { number = seat + 1 } }) (locks_in a seat)) (pages_lowered a seat wants) old new below
      (λ page inside. lowered-page a seat page sound) is
      ∙ each-alike (to_read (record attempt { entry = record attempt.entry { number = seat + 1 } }) (locks_in a seat)) (pages_lowered a seat wants) (lowered_pages (is_fine_page a.reach.directory) attempt (locks_in a seat)) (authority_under old) lowered-pages)
      ∙ lowered-told (number_under a) refl (is_fine_page a.reach.directory) (seat + 1) attempt (locks_in a seat) (authority_under old) number-is
      ∙ lowered-alike (is_fine_page a.reach.directory) attempt (locks_in a seat) locks (owners_told (number_under a) (authority_under old)) alike

-- whether an entry refuses a flat line of its page, or a line of it
any-refused : (page tid : ℕ) (entry : Grant) (store : Bool) (set : List ℕ)
    → list_any (λ line. not (permits (entry.owner == tid) entry.write (has (flat_lines page entry.lines) line) store)) (flat_lines page set)
    ≡ list_any (λ line. not (lets entry tid line store)) set
any-refused page tid entry store [] = refl
any-refused page tid entry store (line ∷ set) =
    λ i. not (permits (entry.owner == tid) entry.write (has-page page line entry.lines i) store) || any-refused page tid entry store set i

-- one page
refused-one : (owned : List Authority) (tid : ℕ) (wants : List Want) (want : Want) → IsWantApart wants want → IsOfPage want.reads → IsOfPage want.writes
    → refuses (slice_index_or (authority_under owned) want.page nobody) tid (lines_within want.page (lines_wanted wants)) ≡ refuses_want owned tid want
refused-one owned tid wants want apart reads writes =
    let writes-are : flat_lines want.page want.writes ≡ within_page want.page (lines_wanted wants).writes = flat-within want.page want.writes (lines_wanted wants).writes writes apart.writes in
    ap (λ (one : Grant). refuses one tid (lines_within want.page (lines_wanted wants))) (under-page owned want.page)
    ∙ (λ i. refuses (authority_at owned want.page) tid (record { reads = sym (flat-within want.page want.reads (lines_wanted wants).reads reads apart.reads) i; writes = sym writes-are i }))
    ∙ (λ i. any-refused want.page tid (grant_of (slice_index_or owned want.page unowned)) false want.reads i || any-refused want.page tid (grant_of (slice_index_or owned want.page unowned)) true want.writes i)

-- and each of some
refused-some : (owned : List Authority) (tid : ℕ) (wants some : List Want) → All (IsWantApart wants) some → All (λ want. IsOfPage want.reads) some → All (λ want. IsOfPage want.writes) some
    → filter (λ page. refuses (slice_index_or (authority_under owned) page nobody) tid (lines_within page (lines_wanted wants))) (pages_wanted some) ≡ pages_refused owned tid some
refused-some owned tid wants [] apart reads writes = refl
refused-some owned tid wants (want ∷ some) apart reads writes =
    step (refuses (slice_index_or (authority_under owned) want.page nobody) tid (lines_within want.page (lines_wanted wants))) (refuses_want owned tid want)
    (refused-one owned tid wants want (All-head (IsWantApart wants) want some apart) (All-head (λ (w : Want). IsOfPage w.reads) want some reads) (All-head (λ (w : Want). IsOfPage w.writes) want some writes))
    (refused-some owned tid wants some (All-tail (IsWantApart wants) want some apart) (All-tail (λ (w : Want). IsOfPage w.reads) want some reads) (All-tail (λ (w : Want). IsOfPage w.writes) want some writes))
  where
    step : (a b : Bool) → a ≡ b
        → filter (λ page. refuses (slice_index_or (authority_under owned) page nobody) tid (lines_within page (lines_wanted wants))) (pages_wanted some) ≡ pages_refused owned tid some
        → (if a then (want.page ∷ filter (λ page. refuses (slice_index_or (authority_under owned) page nobody) tid (lines_within page (lines_wanted wants))) (pages_wanted some)) else filter (λ page. refuses (slice_index_or (authority_under owned) page nobody) tid (lines_within page (lines_wanted wants))) (pages_wanted some))
        ≡ pages_wanted (if b then (want ∷ filter (refuses_want owned tid) some) else filter (refuses_want owned tid) some)
    step a b e rest = grind (arith, e, rest)

-- The pages that the desk refuses are those that the entries refuse the seat.
pub refused-are : (a : Activity) (seat : ℕ) (committed : List ℕ) (order : List (ℕ × ℕ)) (attempt : InFlight) (wants : List Want) → IsActivitySound a → NumbersAscend 0 (entries a) a.next
    → has a.seating.taken seat ≡ true → attempt.entry.number ≡ (sitter a.seating seat).number → attempt.lines ≡ lines_wanted wants → touched_pages attempt ≡ pages_wanted wants
    → All (IsWantApart wants) wants → AreOfPage wants
    → refused_pages attempt (desk_over a committed order) ≡ pages_refused a.reach.entries (seat + 1) wants
refused-are a seat committed order attempt wants sound ascend taken number lines pages apart sets =
    (λ i. filter (λ page. refuses (slice_index_or (desk_over a committed order).authority page nobody) (number i) (lines_within page (lines i))) (pages i))
    ∙ refused-told (number_under a) refl (seat + 1) (sitter a.seating seat).number (authority_under a.reach.entries) (lines_wanted wants) (pages_wanted wants) (stands-for a sound committed ascend seat taken)
    ∙ refused-some a.reach.entries (seat + 1) wants wants apart sets.reads sets.writes

-- a line of a page, and its place in it
at-page : (page line : ℕ) (set : List ℕ) → line < 16 → ((page == page_of_line (page * 16 + line)) && has set ((page * 16 + line) % 16)) ≡ has set line
at-page page line set below =
    let lies : (page * 16 + line) / 16 ≡ page = omega (arith, below) in
    let place : (page * 16 + line) % 16 ≡ line = omega (arith, below) in grind (arith, nat_tests, lies, place)

off-page : (other page line : ℕ) (set : List ℕ) → line < 16 → other ≢ page → ((other == page_of_line (page * 16 + line)) && has set ((page * 16 + line) % 16)) ≡ false
off-page other page line set below differs =
    let lies : (page * 16 + line) / 16 ≡ page = omega (arith, below) in grind (arith, nat_tests, lies, differs)

-- one want is apart
pub apart-one : (want : Want) → AreOfPage (want ∷ []) → All (IsWantApart (want ∷ [])) (want ∷ [])
apart-one want sets = All-cons (IsWantApart (want ∷ [])) want [] (record {
  reads = λ line below. has-wanted (λ w. w.reads) (want ∷ []) (want.page * 16 + line) sets.reads ∙ or-false _ ∙ at-page want.page line want.reads below;
  writes = λ line below. has-wanted (λ w. w.writes) (want ∷ []) (want.page * 16 + line) sets.writes ∙ or-false _ ∙ at-page want.page line want.writes below;
}) (All-nil (IsWantApart (want ∷ [])))

-- and two of different pages are
pub apart-two : (first second : Want) → AreOfPage (first ∷ second ∷ []) → first.page ≢ second.page → All (IsWantApart (first ∷ second ∷ [])) (first ∷ second ∷ [])
apart-two first second sets differs =
    All-cons (IsWantApart (first ∷ second ∷ [])) first (second ∷ []) (record { reads = one (λ w. w.reads) sets.reads; writes = one (λ w. w.writes) sets.writes })
    (All-cons (IsWantApart (first ∷ second ∷ [])) second [] (record { reads = other (λ w. w.reads) sets.reads; writes = other (λ w. w.writes) sets.writes }) (All-nil (IsWantApart (first ∷ second ∷ []))))
  where
    one : (part : Want → List ℕ) → All (λ w. IsOfPage (part w)) (first ∷ second ∷ []) → (line : ℕ) → line < 16
        → has (flat_map (λ w. flat_lines w.page (part w)) (first ∷ second ∷ [])) (first.page * 16 + line) ≡ has (part first) line
    one part of line below = has-wanted part (first ∷ second ∷ []) (first.page * 16 + line) of
        ∙ (λ i. at-page first.page line (part first) below i || (off-page second.page first.page line (part second) below (λ same. differs (sym same)) i || false)) ∙ or-false (has (part first) line)

    other : (part : Want → List ℕ) → All (λ w. IsOfPage (part w)) (first ∷ second ∷ []) → (line : ℕ) → line < 16
        → has (flat_map (λ w. flat_lines w.page (part w)) (first ∷ second ∷ [])) (second.page * 16 + line) ≡ has (part second) line
    other part of line below = has-wanted part (first ∷ second ∷ []) (second.page * 16 + line) of
        ∙ (λ i. off-page first.page second.page line (part first) below differs i || (at-page second.page line (part second) below i || false)) ∙ or-false (has (part second) line)
