-- What a seat holds and what an access asks for, page by page and as flat lines, and how many lines will have been written.
use Rattle.activations.proofs.Common.{◌≡◌, ◌≢◌, refl, ℕ, zero, suc, ◌+◌, ◌*◌, ◌<◌, ◌≤◌, ◌||◌, true, false, List, [], length, flat_map, range_with_len, arith, ap, sym, ◌∙◌, nat_tests, get_or_past, of_page-below, has, has-append, of_page, nothing, flat_lines, IsFlat, has-page, has-other_page, lines_held, AreHeldOfPages, inl, inr, cases_lt, and-false, ◌/◌, ◌%◌, ◌==◌, ◌&&◌, not, nat_le, ◌∷◌, All, map, list_any, All-cons, All-head, All-tail, list_any-append, Layout, is_fine_page, IsOfPage, between, of_page_where, is_in_where-below, page_of_line, pages_of, with_whole_pages, has-pages_of, any-or, has-whole_pages, Want, lines_wanted, AreAlike, AreOfPage, with_whole_page, cond_both, ◌++◌, filter, sum_by, eqb-true, and_parts, append-nil, length-map, sum_by-cons, All-nil, passing, difference, distinct, size, has-filter, size-alike, size-apart, size-append, size-counted, write_count, and_left}

-- lines of pages from a first on, none of which is this page
pub flat-apart : (sets : ℕ → List ℕ) (from n page line : ℕ) → ((p x : ℕ) → has (sets p) x ≡ true → x < 16) → line < 16 → ((p : ℕ) → from ≤ p → p < from + n → page ≢ p)
    → has (flat_map (λ p. flat_lines p (sets p)) (range_with_len from n)) (page * 16 + line) ≡ false
flat-apart sets from zero page line few below apart = refl
flat-apart sets from (suc n) page line few below apart =
    has-append (flat_lines from (sets from)) (flat_map (λ p. flat_lines p (sets p)) (range_with_len (from + 1) n)) (page * 16 + line)
    ∙ (λ i. has-other_page from page line (sets from) (apart from (omega arith) (omega arith)) below (few from) i
    || flat-apart sets (from + 1) n page line few below (λ p low high. apart p (omega (arith, low)) (omega (arith, high))) i)

-- and one of them
flat-among : (sets : ℕ → List ℕ) (from n page line : ℕ) → ((p x : ℕ) → has (sets p) x ≡ true → x < 16) → line < 16 → from ≤ page → page < from + n
    → has (flat_map (λ p. flat_lines p (sets p)) (range_with_len from n)) (page * 16 + line) ≡ has (sets page) line
flat-among sets from zero page line few below first last = absurd (omega (arith, first, last))
flat-among sets from (suc n) page line few below first last =
    let more = has-append (flat_lines from (sets from)) (flat_map (λ p. flat_lines p (sets p)) (range_with_len (from + 1) n)) (page * 16 + line) in
    let here = has-page from line (sets from) in
    let others = λ (is : page ≡ from). flat-apart sets (from + 1) n page line few below (λ p low high same. absurd (omega (arith, is, low, same))) in
    let apart = λ (is : page ≢ from). has-other_page from page line (sets from) is below (few from) in
    let rest = λ (above : from + 1 ≤ page). flat-among sets (from + 1) n page line few below above (omega (arith, last)) in
    grind (arith, nat_tests, more, here, others, apart, rest)

-- what is held page by page is these flat lines
pub held-flat : (pages : List (List ℕ × List ℕ)) → AreHeldOfPages pages → IsFlat pages (lines_held pages)
held-flat pages few = record {
  reads = λ page line below. one (λ held. held.0) refl (λ p x inside. of_page-below (of_page pages p).0 (few.reads p) x inside) page line below;
  writes = λ page line below. one (λ held. held.1) refl (λ p x inside. of_page-below (of_page pages p).1 (few.writes p) x inside) page line below;
}
  where
    one : (part : List ℕ × List ℕ → List ℕ) → part nothing ≡ [] → ((p x : ℕ) → has (part (of_page pages p)) x ≡ true → x < 16) → (page line : ℕ) → line < 16
        → has (part (of_page pages page)) line ≡ has (flat_map (λ p. flat_lines p (part (of_page pages p))) (range_with_len 0 (length pages))) (page * 16 + line)
    one part none small page line below = elim (cases_lt page (length pages)) [
      | inl inside ↦ sym (flat-among (λ p. part (of_page pages p)) 0 (length pages) page line small below (omega arith) (omega (arith, inside)))
      | inr out ↦
          ap (λ (held : List ℕ × List ℕ). has (part held) line) (get_or_past pages page nothing out)
          ∙ ap (λ (set : List ℕ). has set line) none
          ∙ sym (flat-apart (λ p. part (of_page pages p)) 0 (length pages) page line small below (λ p low high same. absurd (omega (arith, out, high, same))))
    ]

-- a line is one of these of a page
pub has-flat : (page : ℕ) (set : List ℕ) (line : ℕ) → IsOfPage set → has (flat_lines page set) line ≡ ((page == page_of_line line) && has set (line % 16))
has-flat page set line of =
    let whole : line / 16 * 16 + line % 16 ≡ line = omega arith in let there = has-page page (line % 16) set in
    let other = λ (apart : line / 16 ≡ page → ⊥). has-other_page page (line / 16) (line % 16) set apart (omega arith) (λ x inside. of_page-below set of x inside) in
    grind (arith, nat_tests, whole, there, other)

-- a line is wanted where it is wanted of its page
pub has-wanted : (part : Want → List ℕ) (wants : List Want) (line : ℕ) → All (λ want. IsOfPage (part want)) wants
    → has (flat_map (λ want. flat_lines want.page (part want)) wants) line ≡ list_any (λ want. (want.page == page_of_line line) && has (part want) (line % 16)) wants
has-wanted part [] line of = refl
has-wanted part (want ∷ wants) line of =
    has-append (flat_lines want.page (part want)) (flat_map (λ w. flat_lines w.page (part w)) wants) line
    ∙ (λ i. has-flat want.page (part want) line (All-head (λ (w : Want). IsOfPage (part w)) want wants of) i || has-wanted part wants line (All-tail (λ (w : Want). IsOfPage (part w)) want wants of) i)

-- flat lines of a page lie in it
in-page : (at page : ℕ) (set : List ℕ) → ((x : ℕ) → has set x ≡ true → x < 16) → list_any (λ line. page_of_line line == page) (flat_lines at set) ≡ ((at == page) && not (length set == 0))
in-page at page [] few = sym (and-false (at == page))
in-page at page (x ∷ set) few =
    let small : x < 16 = few x (grind (arith, nat_tests)) in
    let lies : (at * 16 + x) / 16 ≡ at = omega (arith, small) in
    let rest = in-page at page set (λ y inside. few y (grind arith)) in grind (arith, nat_tests, lies, rest)

-- a page is written into where some line of it is wanted to write
pub has-pages_wanted : (wants : List Want) (page : ℕ) → All (λ want. IsOfPage want.writes) wants
    → has (pages_of (lines_wanted wants).writes) page ≡ list_any (λ want. (want.page == page) && not (length want.writes == 0)) wants
has-pages_wanted wants page of = has-pages_of (lines_wanted wants).writes page ∙ each wants of
  where
    each : (wants : List Want) → All (λ want. IsOfPage want.writes) wants
        → list_any (λ line. page_of_line line == page) (lines_wanted wants).writes ≡ list_any (λ want. (want.page == page) && not (length want.writes == 0)) wants
    each [] of = refl
    each (want ∷ wants) of =
        list_any-append (λ line. page_of_line line == page) (flat_lines want.page want.writes) (lines_wanted wants).writes
        ∙ (λ i. in-page want.page page want.writes (of_page-below want.writes (All-head (λ (w : Want). IsOfPage w.writes) want wants of)) i
        || each wants (All-tail (λ (w : Want). IsOfPage w.writes) want wants of) i)

all-has : (line : ℕ) → line < 16 → has (between 0 15) line ≡ true
all-has line below = is_in_where-below (λ x. nat_le 0 x && nat_le x 15) line below ∙ grind (arith, nat_tests)

-- with its whole page where one is written, a want is of lines of a page too
pub whole-of-page : (directory : Layout) (wants : List Want) → AreOfPage wants → AreOfPage (map (with_whole_page directory) wants)
whole-of-page directory wants sets = record { reads = reads wants sets.reads; writes = writes wants sets.writes }
  where
    reads : (wants : List Want) → All (λ want. IsOfPage want.reads) wants → All (λ want. IsOfPage want.reads) (map (with_whole_page directory) wants)
    reads [] of = of
    reads (want ∷ wants) of = All-cons (λ (w : Want). IsOfPage w.reads) (with_whole_page directory want) (map (with_whole_page directory) wants) (let old = All-head (λ (w : Want). IsOfPage w.reads) want wants of in cond_both (length want.writes == 0) _ _ (λ (w : Want). IsOfPage w.reads) (λ _. old) (λ _. cond_both (is_fine_page directory want.page) _ _ IsOfPage (λ _. of_page_where _) (λ _. of_page_where _))) (reads wants (All-tail (λ (w : Want). IsOfPage w.reads) want wants of))

    writes : (wants : List Want) → All (λ want. IsOfPage want.writes) wants → All (λ want. IsOfPage want.writes) (map (with_whole_page directory) wants)
    writes [] of = of
    writes (want ∷ wants) of = All-cons (λ (w : Want). IsOfPage w.writes) (with_whole_page directory want) (map (with_whole_page directory) wants) (cond_both (length want.writes == 0) _ _ (λ (w : Want). IsOfPage w.writes) (λ _. All-head (λ (w : Want). IsOfPage w.writes) want wants of) (λ _. All-head (λ (w : Want). IsOfPage w.writes) want wants of)) (writes wants (All-tail (λ (w : Want). IsOfPage w.writes) want wants of))

-- What is asked for is what is touched, with each line that is written read, and the whole pages that are not fine and are written into.
pub asked-alike : (directory : Layout) (wants : List Want) → AreOfPage wants
    → AreAlike (lines_wanted (map (with_whole_page directory) wants)) (with_whole_pages (is_fine_page directory) (lines_wanted wants))
asked-alike directory wants sets = record {
  reads = λ line.
      has-wanted (λ want. want.reads) (map (with_whole_page directory) wants) line (whole-of-page directory wants sets).reads
      ∙ each line wants ∙ sym
      (has-whole_pages (is_fine_page directory) (lines_wanted wants) line
      ∙ (λ i.
      has-wanted (λ want. want.reads) wants line sets.reads i
      || (any-or (is_fine_page directory) line (lines_wanted wants).writes
      ∙ (λ j.
      has-wanted (λ want. want.writes) wants line sets.writes j
      || ((sym (has-pages_of (lines_wanted wants).writes (page_of_line line)) ∙ has-pages_wanted wants (page_of_line line) sets.writes) j && not (is_fine_page directory (page_of_line line)))))
      i));
  writes = λ line.
      has-wanted (λ want. want.writes) (map (with_whole_page directory) wants) line (whole-of-page directory wants sets).writes
      ∙ same line wants ∙ sym (has-wanted (λ want. want.writes) wants line sets.writes);
}
  where
    no-writes : (set : List ℕ) (x : ℕ) → (length set == 0) ≡ true → has set x ≡ false
    no-writes [] x none = refl
    no-writes (y ∷ set) x none = grind (arith, nat_tests)

    one : (line : ℕ) (want : Want) → ((want.page == page_of_line line) && has (with_whole_page directory want).reads (line % 16))
        ≡ (((want.page == page_of_line line) && has want.reads (line % 16))
        || (((want.page == page_of_line line) && has want.writes (line % 16)) || (((want.page == page_of_line line) && not (length want.writes == 0)) && not (is_fine_page directory (page_of_line line)))))
    one line want =
        let joined = is_in_where-below (λ x. list_any (λ y. y == x) want.reads || list_any (λ y. y == x) want.writes) (line % 16) (omega arith) in
        let none = no-writes want.writes (line % 16) in let all = all-has (line % 16) (omega arith) in
        grind (arith, nat_tests, joined, none, all)

    page-same : (want : Want) → (with_whole_page directory want).page ≡ want.page
    page-same want = grind arith

    writes-same : (want : Want) → (with_whole_page directory want).writes ≡ want.writes
    writes-same want = grind arith

    each : (line : ℕ) (wants : List Want) → list_any (λ want. (want.page == page_of_line line) && has want.reads (line % 16)) (map (with_whole_page directory) wants)
        ≡ (list_any (λ want. (want.page == page_of_line line) && has want.reads (line % 16)) wants
        || (list_any (λ want. (want.page == page_of_line line) && has want.writes (line % 16)) wants
        || (list_any (λ want. (want.page == page_of_line line) && not (length want.writes == 0)) wants && not (is_fine_page directory (page_of_line line)))))
    each line [] = refl
    each line (want ∷ wants) = grind (arith, page-same want, one line want, each line wants)

    same : (line : ℕ) (wants : List Want) → list_any (λ want. (want.page == page_of_line line) && has want.writes (line % 16)) (map (with_whole_page directory) wants)
        ≡ list_any (λ want. (want.page == page_of_line line) && has want.writes (line % 16)) wants
    same line [] = refl
    same line (want ∷ wants) = λ i. ((page-same want i == page_of_line line) && has (writes-same want i) (line % 16)) || same line wants i

-- numbers moved on are as many
has-moved : (base : ℕ) (xs : List ℕ) (x : ℕ) → has (map (λ y. base + y) xs) (base + x) ≡ has xs x
has-moved base [] x = refl
has-moved base (y ∷ xs) x = grind (arith, nat_tests, has-moved base xs x)

distinct-moved : (base : ℕ) (xs : List ℕ) → distinct (map (λ y. base + y) xs) ≡ map (λ y. base + y) (distinct xs)
distinct-moved base [] = refl
distinct-moved base (x ∷ xs) = grind (arith, has-moved base xs x, distinct-moved base xs)

-- the flat lines of a set of a page are as many as the set has
pub size-flat : (page : ℕ) (set : List ℕ) → IsOfPage set → size (flat_lines page set) ≡ length set
unfolding passing
size-flat page set of = ap length (distinct-moved (page * 16) set) ∙ length-map (distinct set) (λ y. page * 16 + y)
    ∙ size-counted set 16 (λ x inside. of_page-below set of x inside) ∙ ap length of

-- what is held page by page is as many lines as are counted
size-blocks : (sets : ℕ → List ℕ) → ((p : ℕ) → IsOfPage (sets p)) → (from n : ℕ)
    → size (flat_map (λ p. flat_lines p (sets p)) (range_with_len from n)) ≡ sum_by (λ p. length (sets p)) (range_with_len from n)
size-blocks sets of from zero = refl
size-blocks sets of from (suc n) =
    size-apart (flat_lines from (sets from)) (flat_map (λ p. flat_lines p (sets p)) (range_with_len (from + 1) n)) (λ x inside. elsewhere x inside)
    ∙ (λ i. size-flat from (sets from) (of from) i + size-blocks sets of (from + 1) n i)
    ∙ sym (sum_by-cons (λ p. length (sets p)) from (range_with_len (from + 1) n))
  where
    elsewhere : (x : ℕ) → has (flat_lines from (sets from)) x ≡ true → has (flat_map (λ p. flat_lines p (sets p)) (range_with_len (from + 1) n)) x ≡ false
    elsewhere x inside =
        let parts = and_parts (from == page_of_line x) (has (sets from) (x % 16)) (sym (has-flat from (sets from) x (of from)) ∙ inside) in
        let here : from ≡ x / 16 = eqb-true from (page_of_line x) parts.0 in
        let whole : x / 16 * 16 + x % 16 ≡ x = omega arith in
        ap (has (flat_map (λ p. flat_lines p (sets p)) (range_with_len (from + 1) n))) (sym whole)
        ∙ flat-apart sets (from + 1) n (x / 16) (x % 16) (λ p y there. of_page-below (sets p) (of p) y there) (omega arith) (λ p low high same. absurd (omega (arith, here, low, same)))

counted-from : (f : List ℕ × List ℕ → ℕ) (xs : List (List ℕ × List ℕ)) (g : ℕ → List ℕ × List ℕ) (from : ℕ) → ((k : ℕ) → k < length xs → g (from + k) ≡ of_page xs k)
    → sum_by (λ p. f (g p)) (range_with_len from (length xs)) ≡ sum_by f xs
counted-from f [] g from same = refl
counted-from f (x ∷ xs) g from same =
    let first : from + 0 ≡ from = omega arith in sum_by-cons (λ p. f (g p)) from (range_with_len (from + 1) (length xs))
    ∙ (λ i. f ((ap g (sym first) ∙ same 0 (omega arith)) i)
    + counted-from f xs g (from + 1) (λ k below. let next : from + 1 + k ≡ from + suc k = omega arith in ap g next ∙ same (suc k) (omega (arith, below))) i)
    ∙ sym (sum_by-cons f x xs)

pub size-held : (pages : List (List ℕ × List ℕ)) → AreHeldOfPages pages → size (lines_held pages).writes ≡ write_count pages
size-held pages of = size-blocks (λ p. (of_page pages p).1) of.writes 0 (length pages)
    ∙ counted-from (λ held. length held.1) pages (of_page pages) 0 (λ k below. let whole : 0 + k ≡ k = omega arith in ap (of_page pages) whole)

-- the lines that are wanted to write and aren't held to write yet
abbrev pub new_lines : List (List ℕ × List ℕ) → Want → List ℕ
new_lines pages want = difference want.writes (of_page pages want.page).1

new-of-page : (pages : List (List ℕ × List ℕ)) (want : Want) → IsOfPage (new_lines pages want)
new-of-page pages want = of_page_where (λ x. has want.writes x && not (has (of_page pages want.page).1 x))

all-new : (pages : List (List ℕ × List ℕ)) (wants : List Want) → All (λ want. IsOfPage (new_lines pages want)) wants
all-new pages [] = All-nil (λ (want : Want). IsOfPage (new_lines pages want))
all-new pages (want ∷ wants) = All-cons (λ (want : Want). IsOfPage (new_lines pages want)) want wants (new-of-page pages want) (all-new pages wants)

-- those wanted lines that aren't held are the new ones
new-are : (pages : List (List ℕ × List ℕ)) (wants : List Want) → AreHeldOfPages pages → AreOfPage wants
    → size (filter (λ line. not (has (lines_held pages).writes line)) (lines_wanted wants).writes) ≡ size (flat_map (λ want. flat_lines want.page (new_lines pages want)) wants)
new-are pages wants of sets =
    size-alike (filter (λ line. not (has (lines_held pages).writes line)) (lines_wanted wants).writes) (flat_map (λ want. flat_lines want.page (new_lines pages want)) wants)
    (record { among = λ line inside. sym (same line) ∙ inside }) (record { among = λ line inside. same line ∙ inside })
  where
    held : (line : ℕ) → has (lines_held pages).writes line ≡ has (of_page pages (page_of_line line)).1 (line % 16)
    held line = let whole : line / 16 * 16 + line % 16 ≡ line = omega arith in sym ((held-flat pages of).writes (line / 16) (line % 16) (omega arith) ∙ ap (has (lines_held pages).writes) whole)

    one : (line : ℕ) (want : Want) → ((want.page == page_of_line line) && has (new_lines pages want) (line % 16))
        ≡ (((want.page == page_of_line line) && has want.writes (line % 16)) && not (has (of_page pages (page_of_line line)).1 (line % 16)))
    one line want =
        let new = is_in_where-below (λ x. has want.writes x && not (has (of_page pages want.page).1 x)) (line % 16) (omega arith) in
        grind (arith, nat_tests, new)

    each : (line : ℕ) (wants : List Want)
        → list_any (λ want. (want.page == page_of_line line) && has (new_lines pages want) (line % 16)) wants
        ≡ (list_any (λ want. (want.page == page_of_line line) && has want.writes (line % 16)) wants && not (has (of_page pages (page_of_line line)).1 (line % 16)))
    each line [] = refl
    each line (want ∷ wants) = grind (arith, one line want, each line wants)

    same : (line : ℕ) → has (filter (λ line. not (has (lines_held pages).writes line)) (lines_wanted wants).writes) line ≡ has (flat_map (λ want. flat_lines want.page (new_lines pages want)) wants) line
    same line = has-filter (λ line. not (has (lines_held pages).writes line)) (lines_wanted wants).writes line
        ∙ (λ i. has-wanted (λ want. want.writes) wants line sets.writes i && not (held line i)) ∙ sym (each line wants)
        ∙ sym (has-wanted (new_lines pages) wants line (all-new pages wants))

-- How many lines are written with those of no want, of one, and of two of different pages.
module _ (pages : List (List ℕ × List ℕ)) (of : AreHeldOfPages pages) where
  with-new : (wants : List Want) → AreOfPage wants
      → size ((lines_held pages).writes ++ (lines_wanted wants).writes) ≡ write_count pages + size (flat_map (λ want. flat_lines want.page (new_lines pages want)) wants)
  with-new wants sets = size-append (lines_held pages).writes (lines_wanted wants).writes ∙ (λ i. size-held pages of i + new-are pages wants of sets i)

  pub written-none : AreOfPage [] → size ((lines_held pages).writes ++ (lines_wanted []).writes) ≡ write_count pages
  written-none sets = let whole : write_count pages + 0 ≡ write_count pages = omega arith in with-new [] sets ∙ whole

  pub written-one : (want : Want) → AreOfPage (want ∷ []) → size ((lines_held pages).writes ++ (lines_wanted (want ∷ [])).writes) ≡ write_count pages + length (new_lines pages want)
  written-one want sets = with-new (want ∷ []) sets
      ∙ ap (λ (n : ℕ). write_count pages + n) (ap size (append-nil (flat_lines want.page (new_lines pages want))) ∙ size-flat want.page (new_lines pages want) (new-of-page pages want))

  pub written-two : (first second : Want) → AreOfPage (first ∷ second ∷ []) → first.page ≢ second.page
      → size ((lines_held pages).writes ++ (lines_wanted (first ∷ second ∷ [])).writes) ≡ write_count pages + (length (new_lines pages first) + length (new_lines pages second))
  written-two first second sets differs = with-new (first ∷ second ∷ []) sets ∙ ap (λ (n : ℕ). write_count pages + n)
      (size-apart (flat_lines first.page (new_lines pages first)) (flat_lines second.page (new_lines pages second) ++ []) elsewhere
      ∙ (λ i. size-flat first.page (new_lines pages first) (new-of-page pages first) i + (ap size (append-nil (flat_lines second.page (new_lines pages second))) ∙ size-flat second.page (new_lines pages second) (new-of-page pages second)) i))
    where
      elsewhere : (line : ℕ) → has (flat_lines first.page (new_lines pages first)) line ≡ true → has (flat_lines second.page (new_lines pages second) ++ []) line ≡ false
      elsewhere line inside =
          let parts = and_parts (first.page == page_of_line line) (has (new_lines pages first) (line % 16)) (sym (has-flat first.page (new_lines pages first) line (new-of-page pages first)) ∙ inside) in
          ap (λ (lines : List ℕ). has lines line) (append-nil (flat_lines second.page (new_lines pages second)))
          ∙ has-flat second.page (new_lines pages second) line (new-of-page pages second)
          ∙ and_left (second.page == page_of_line line) _ (grind (arith, nat_tests, parts.0, differs))
