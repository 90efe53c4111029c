-- What a seat holds page by page, and what it holds in flat lines.
use Rattle.seats.proofs.Common.{flat_map, list_any, ◌⊎◌, arith, ap, sym, ◌∙◌, get_or-set_same, get_or-set_other, eqb-true, eqb-false, or_right, nat_tests, append-nil, append_assoc, length-set, All-head, All-tail, list_any-append, has, meets, has-append, IsOfPage, union, of_page-below, is_in_where-below, Want, of_page, together, with_want, with_wants, AreWithin, some_conflict, ◌≡◌, ◌≢◌, refl, ℕ, ◌+◌, ◌*◌, ◌<◌, ◌==◌, ◌||◌, Bool, true, false, List, [], ◌∷◌, ◌++◌, length, All, Lines, both, conflicts, flat_lines, lines_wanted, IsFlat}

-- lines of a page meet flat lines as they meet what these are of the page
meets-page :
    (page : ℕ) (held flat lines : List ℕ) → ((line : ℕ) → line < 16 → has held line ≡ has flat (page * 16 + line))
    → ((line : ℕ) → has lines line ≡ true → line < 16) → meets (flat_lines page lines) flat ≡ meets lines held
meets-page page held flat [] same below = refl
meets-page page held flat (x ∷ xs) same below =
    grind (arith, nat_tests, same x, below x, meets-page page held flat xs same (λ line inside. below line (or_right (x == line) (has xs line) inside)))

-- the lines of some wants meet flat lines where those of one of them do
meets-wants :
    (wanted held : Want → List ℕ) (flat : List ℕ)
    → ((want : Want) (line : ℕ) → line < 16 → has (held want) line ≡ has flat (want.page * 16 + line))
    → (wants : List Want) → All (λ want. IsOfPage (wanted want)) wants
    → meets (flat_map (λ want. flat_lines want.page (wanted want)) wants) flat ≡ list_any (λ want. meets (wanted want) (held want)) wants
meets-wants wanted held flat same [] sets = refl
meets-wants wanted held flat same (want ∷ wants) sets =
    let set : IsOfPage (wanted want) = All-head (λ (w : Want). IsOfPage (wanted w)) want wants sets in
    rw (list_any-append, meets-page want.page (held want) flat (wanted want) (same want) (of_page-below (wanted want) set))
    (ap (λ c. meets (wanted want) (held want) || c) (meets-wants wanted held flat same wants (All-tail (λ (w : Want). IsOfPage (wanted w)) want wants sets)))

any-or : (p q : Want → Bool) (wants : List Want) → (list_any p wants || list_any q wants) ≡ list_any (λ want. p want || q want) wants
any-or p q [] = refl
any-or p q (want ∷ wants) = grind (arith, any-or p q wants)

-- a request conflicts with what a seat holds, page by page, exactly where its flat lines conflict with the seat's
pub conflict-flat :
    (pages : List (List ℕ × List ℕ)) (lines : Lines) (wants : List Want) → IsFlat pages lines
    → All (λ want. IsOfPage want.reads) wants → All (λ want. IsOfPage want.writes) wants
    → conflicts (lines_wanted wants) lines ≡ some_conflict pages wants
conflict-flat pages lines wants flat reads writes =
    ap (λ c. c || meets (lines_wanted wants).reads lines.writes) (meets-wants (λ want. want.writes) all_of (lines.reads ++ lines.writes) same wants writes)
    ∙ ap (λ c. list_any (λ want. meets want.writes (all_of want)) wants || c)
    (meets-wants (λ want. want.reads) (λ want. (of_page pages want.page).1) lines.writes (λ want. flat.writes want.page) wants reads)
    ∙ any-or (λ want. meets want.writes (all_of want)) (λ want. meets want.reads (of_page pages want.page).1) wants
  where
    all_of : Want → List ℕ
    all_of want = (of_page pages want.page).0 ++ (of_page pages want.page).1

    same : (want : Want) (line : ℕ) → line < 16 → has (all_of want) line ≡ has (lines.reads ++ lines.writes) (want.page * 16 + line)
    same want line below = grind (arith, nat_tests, has-append)

-- a line of the page is among the flat lines
pub has-page : (page line : ℕ) (wanted : List ℕ) → has (flat_lines page wanted) (page * 16 + line) ≡ has wanted line
has-page page line [] = refl
has-page page line (x ∷ xs) = grind (arith, nat_tests, has-page page line xs)

-- a line of another page isn't
pub has-other_page :
    (page other line : ℕ) (wanted : List ℕ) → other ≢ page → line < 16 → ((x : ℕ) → has wanted x ≡ true → x < 16)
    → has (flat_lines page wanted) (other * 16 + line) ≡ false
has-other_page page other line [] apart below few = refl
has-other_page page other line (x ∷ xs) apart below few =
    let small : x < 16 = few x (grind (arith, nat_tests)) in
    let first : (page * 16 + x == other * 16 + line) ≡ false = grind (arith, nat_tests) in
    let rest = has-other_page page other line xs apart below (λ y inside. few y (grind arith)) in
    grind (arith, first, rest)

-- the other pages
taken-there :
    (page other line : ℕ) (held wanted flat : List ℕ) → line < 16 → other ≢ page → IsOfPage wanted → has held line ≡ has flat (other * 16 + line)
    → has held line ≡ has (flat ++ flat_lines page wanted) (other * 16 + line)
taken-there page other line held wanted flat below apart set same =
    let none = has-other_page page other line wanted apart below (of_page-below wanted set) in grind (arith, has-append, none)

-- a page of a seat that took something
page-taken :
    (pages : List (List ℕ × List ℕ)) (want : Want) (page : ℕ) → want.page < length pages
    → ((page ≡ want.page) × (of_page (with_want pages want) page ≡ together (of_page pages page) want))
    ⊎ ((page ≢ want.page) × (of_page (with_want pages want) page ≡ of_page pages page))
page-taken pages want page within = grind (arith, nat_tests, eqb-true, get_or-set_same, eqb-false, get_or-set_other)

-- one want
-- lines to read, or to write, of one want
taken-lines :
    (pages : List (List ℕ × List ℕ)) (want : Want) (part : List ℕ × List ℕ → List ℕ) (wanted set : List ℕ) → want.page < length pages → IsOfPage wanted → ((held : List ℕ × List ℕ) → part (together held want) ≡ union (part held) wanted)
    → (page line : ℕ) → line < 16 → ((page : ℕ) → has (part (of_page pages page)) line ≡ has set (page * 16 + line))
    → has (part (of_page (with_want pages want) page)) line ≡ has (set ++ flat_lines want.page wanted) (page * 16 + line)
taken-lines pages want part wanted set within of_page_is joins page line below flat =
    grind (arith, nat_tests, page-taken, is_in_where-below, has-page, has-append, taken-there, part, joins, flat)

-- one want
taken-one :
    (pages : List (List ℕ × List ℕ)) (lines : Lines) (want : Want) → want.page < length pages → IsFlat pages lines
    → IsOfPage want.reads → IsOfPage want.writes
    → IsFlat (with_want pages want) (record {
      reads = lines.reads ++ flat_lines want.page want.reads;
      writes = lines.writes ++ flat_lines want.page want.writes;
    })
taken-one pages lines want within flat reads writes = record {
  reads = λ page line below. taken-lines pages want (λ held. held.0) want.reads lines.reads within reads (λ held. refl) page line below (λ page. flat.reads page line below);
  writes = λ page line below. taken-lines pages want (λ held. held.1) want.writes lines.writes within writes (λ held. refl) page line below (λ page. flat.writes page line below);
}

-- equal flat lines
flat-again :
    (pages : List (List ℕ × List ℕ)) (lines other : Lines) → lines.reads ≡ other.reads → lines.writes ≡ other.writes
    → IsFlat pages lines → IsFlat pages other
flat-again pages lines other reads writes flat = grind (arith, nat_tests, flat.reads, flat.writes)

-- a seat that took what is wanted has its flat lines and those that are wanted
pub flat-taken :
    (pages : List (List ℕ × List ℕ)) (lines : Lines) (wants : List Want) → IsFlat pages lines → AreWithin (length pages) wants
    → All (λ want. IsOfPage want.reads) wants → All (λ want. IsOfPage want.writes) wants
    → IsFlat (with_wants pages wants) (both lines (lines_wanted wants))
flat-taken pages lines [] flat within reads writes =
    flat-again pages lines (both lines (lines_wanted [])) (sym (append-nil lines.reads)) (sym (append-nil lines.writes)) flat
flat-taken pages lines (want ∷ wants) flat within reads writes =
    let next : Lines = record { reads = lines.reads ++ flat_lines want.page want.reads; writes = lines.writes ++ flat_lines want.page want.writes } in
    let rest : IsFlat (with_wants (with_want pages want) wants) (both next (lines_wanted wants)) =
    flat-taken (with_want pages want) next wants
    (taken-one pages lines want (All-head (λ (w : Want). w.page < length pages) want wants within) flat
    (All-head (λ (w : Want). IsOfPage w.reads) want wants reads) (All-head (λ (w : Want). IsOfPage w.writes) want wants writes))
    (rw length-set (All-tail (λ (w : Want). w.page < length pages) want wants within))
    (All-tail (λ (w : Want). IsOfPage w.reads) want wants reads) (All-tail (λ (w : Want). IsOfPage w.writes) want wants writes) in
    flat-again (with_wants (with_want pages want) wants) (both next (lines_wanted wants)) (both lines (lines_wanted (want ∷ wants)))
    (append_assoc lines.reads (flat_lines want.page want.reads) (lines_wanted wants).reads)
    (append_assoc lines.writes (flat_lines want.page want.writes) (lines_wanted wants).writes)
    rest
