-- What is in lines, pages and locks.
use Rattle.lines.proofs.Common.{◌≡◌, refl, ℕ, ◌*◌, ◌==◌, ◌||◌, ◌&&◌, not, ◌≤◌, Bool, true, false, List, [], ◌∷◌, length, map, filter, flat_map, list_any, arith, ap, sym, ◌∙◌, inl, inr, eqb-true, eq-eqb, or_cases, or_left, or_right, nat_tests, has, meets, page_of_line, pages_of, lines_of_page, within_page, is_whole_page, Lines, both, with_whole_pages}
use Rattle.lines.proofs.SetLemmas.{has-append, has_left, has-filter, has-distinct, has-range, any-at, any-some}
use Rattle.lines.proofs.SizeLemmas.{IsPart}

-- the lines of a page
pub has-lines_of_page : (page x : ℕ) → has (lines_of_page page) x ≡ (page == page_of_line x)
has-lines_of_page page x = has-range (page * 16) 16 x ∙ grind (arith, nat_tests)

-- the lines of some pages
pub has-pages_lines : (pages : List ℕ) (x : ℕ) → has (flat_map lines_of_page pages) x ≡ has pages (page_of_line x)
has-pages_lines [] x = refl
has-pages_lines (page ∷ pages) x = grind (arith, nat_tests, has-pages_lines pages x, has-append (lines_of_page page) (flat_map lines_of_page pages) x, has-lines_of_page page x)

has-map : (f : ℕ → ℕ) (xs : List ℕ) (y : ℕ) → has (map f xs) y ≡ list_any (λ x. f x == y) xs
has-map f [] y = refl
has-map f (x ∷ xs) y = ap (λ b. f x == y || b) (has-map f xs y)

-- the pages of some lines
pub has-pages_of : (lines : List ℕ) (page : ℕ) → has (pages_of lines) page ≡ list_any (λ line. page_of_line line == page) lines
has-pages_of lines page = has-distinct (map page_of_line lines) page ∙ has-map page_of_line lines page

-- a line's page is one of the pages
pub pages_of-line : (lines : List ℕ) (x : ℕ) → has lines x ≡ true → has (pages_of lines) (page_of_line x) ≡ true
pages_of-line lines x inside = grind (arith, nat_tests, has-pages_of, any-at)

-- whether a line that is written is a cause to read another: it is that one, or in its page, which is not fine
abbrev pub reaches : (fine : ℕ → Bool) → (x w : ℕ) → Bool
reaches fine x w = w == x || ((page_of_line w == page_of_line x) && not (fine (page_of_line x)))

pub reaches-coarse : (fine : ℕ → Bool) (x w : ℕ) → page_of_line w ≡ page_of_line x → fine (page_of_line x) ≡ false → reaches fine x w ≡ true
reaches-coarse fine x w same coarse = grind (arith, nat_tests)

-- some line that is written reaches another
pub any-or : (fine : ℕ → Bool) (x : ℕ) (writes : List ℕ)
    → list_any (reaches fine x) writes ≡ (has writes x || (list_any (λ w. page_of_line w == page_of_line x) writes && not (fine (page_of_line x))))
any-or fine x [] = refl
any-or fine x (w ∷ writes) = grind (arith, any-or fine x writes)

-- the lines read with whole pages: those read, and those that a line reaches that is written
pub has-whole_pages :
    (fine : ℕ → Bool) (lines : Lines) (x : ℕ) → has (with_whole_pages fine lines).reads x ≡ (has lines.reads x || list_any (reaches fine x) lines.writes)
has-whole_pages fine lines x = grind (arith, nat_tests, has-append, has-pages_lines, has-filter, has-pages_of, any-or)

-- a line that is written is read, and so is each that it reaches
pub whole-reached : (fine : ℕ → Bool) (lines : Lines) (x w : ℕ) → has lines.writes w ≡ true → reaches fine x w ≡ true → has (with_whole_pages fine lines).reads x ≡ true
whole-reached fine lines x w written reached = grind (arith, nat_tests, has-whole_pages, any-at)

-- the lines of a page that are among some
pub has-within_page : (page : ℕ) (lines : List ℕ) (x : ℕ) → has (within_page page lines) x ≡ ((page == page_of_line x) && has lines x)
has-within_page page lines x = grind (arith, nat_tests, has-filter (has lines) (lines_of_page page) x, has-lines_of_page page x)

filter-short : (p : ℕ → Bool) (xs : List ℕ) → length (filter p xs) ≤ length xs
filter-short p [] = omega arith
filter-short p (y ∷ ys) = grind (arith, filter-short p ys)

-- where a filter keeps all, each passes
filter-full : (p : ℕ → Bool) (xs : List ℕ) → length (filter p xs) ≡ length xs → (x : ℕ) → has xs x ≡ true → p x ≡ true
filter-full p [] full x inside = absurd (cc)
filter-full p (y ∷ ys) full x inside = grind (arith, nat_tests, filter-full p ys, filter-short p ys)

-- where each passes, a filter keeps all
filter-all : (p : ℕ → Bool) (xs : List ℕ) → ((x : ℕ) → has xs x ≡ true → p x ≡ true) → length (filter p xs) ≡ length xs
filter-all p [] each = refl
filter-all p (y ∷ ys) each = grind (arith, nat_tests, each, filter-all p ys (λ x inside. each x (grind arith)))

-- all lines of a page are among some exactly where so many of it are
pub whole-has : (page : ℕ) (lines : List ℕ) → is_whole_page (within_page page lines) ≡ true → (x : ℕ) → page_of_line x ≡ page → has lines x ≡ true
whole-has page lines whole x here = grind (arith, nat_tests, filter-full (has lines) (lines_of_page page) (eqb-true (length (within_page page lines)) 16 whole) x (has-lines_of_page page x ∙ eq-eqb page (page_of_line x) (sym here)), has-lines_of_page page x)

pub has-whole : (page : ℕ) (lines : List ℕ) → ((x : ℕ) → page_of_line x ≡ page → has lines x ≡ true) → is_whole_page (within_page page lines) ≡ true
has-whole page lines each = grind (arith, nat_tests, filter-all (has lines) (lines_of_page page) (λ x inside. each x (sym (eqb-true page (page_of_line x) (sym (has-lines_of_page page x) ∙ inside)))))

-- lines that are among other lines
pub record ArePart (lines other : Lines) : Type 0 where
  pub reads : IsPart lines.reads other.reads
  pub writes : IsPart lines.writes other.writes

-- lines are among those of both
pub part-both : (first second : Lines) → ArePart first (both first second)
part-both first second = grind (arith, nat_tests, has_left)

-- whole pages keep it
pub part-whole_pages : (fine : ℕ → Bool) (lines other : Lines) → ArePart lines other → ArePart (with_whole_pages fine lines) (with_whole_pages fine other)
part-whole_pages fine lines other part =
    record { reads = record { among = λ x inside. reads x inside }; writes = part.writes }
  where
    reached : (x : ℕ) → list_any (reaches fine x) lines.writes ≡ true → list_any (reaches fine x) other.writes ≡ true
    reached x inside =
        let (w, written, here) = any-some (reaches fine x) lines.writes inside in
        any-at (reaches fine x) other.writes w (part.writes.among w written) here

    reads : (x : ℕ) → has (with_whole_pages fine lines).reads x ≡ true → has (with_whole_pages fine other).reads x ≡ true
    reads x inside =
        has-whole_pages fine other x
        ∙ elim (or_cases (has lines.reads x) (list_any (reaches fine x) lines.writes) (sym (has-whole_pages fine lines x) ∙ inside)) [
          | inl read ↦ or_left (has other.reads x) (list_any (reaches fine x) other.writes) (part.reads.among x read)
          | inr written ↦ or_right (has other.reads x) (list_any (reaches fine x) other.writes) (reached x written)
        ]

-- sets with a number in common meet
pub meets-at : (set other : List ℕ) (x : ℕ) → has set x ≡ true → has other x ≡ true → meets set other ≡ true
meets-at set other x first second = any-at (has other) set x first second
