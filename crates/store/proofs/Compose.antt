-- A page whose home lines have the newest lines over them.
use Rattle.store.proofs.Common.{◌≡◌, inl, inr, ℕ, ◌+◌, ◌*◌, ◌-◌, ◌<◌, ◌≤◌, List, length, take, drop, get_or, refl, sym, ◌∙◌, ap, arith, Option, None, Some, IfSome, fold, slice_range, is_some, false, drop-drop, drop-take, take-take, length-drop, length-take-le, places, page_count, line_count, PageSize, page-lines, line_bytes, Header, home_at, laid, home_of, stands, stands_is, bytes_at, StoreView, Shows, page_in, newest_over, list_any, nat_tests, ◌++◌, append_assoc, newest_place, cases_eq, lines-below, lines-within, overlaid}
use Rattle.store.proofs.Newest.{bytes_of_line, newest_bytes, same_line, other_line, same_lines, Agree, store_agrees}
use Rattle.std.proofs.lemmas.List.Folds.{list_any_at}
use Rattle.store.proofs.ShowLemmas.{shown_store}

-- a part of a list written over in place
pub spliced : (count : ℕ) (page front rest line tail part : List ℕ) (at : ℕ) → front ≡ take at page → rest ≡ drop at page → tail ≡ drop count rest → line ≡ part → length part ≡ count → front ++ (line ++ tail) ≡ overlaid page at part
spliced count page front rest line tail part at is_front is_rest is_tail is_line long = grind (arith, nat_tests, drop-drop, append_assoc)

-- the lines up to one are the newest, and those from it on are at home
pub record Composed (size : PageSize) (image home : List ℕ) (newest : List (Option ℕ)) (first i : ℕ) (page : List ℕ) : Type 0 where
  pub done : (k : ℕ) → k < i → bytes_of_line size k page ≡ newest_bytes size image home (first + k) (get_or newest (first + k) None)
  pub left : (k : ℕ) → i ≤ k → k < 16 → bytes_of_line size k page ≡ bytes_of_line size (first + k) home

-- a line of a part of a list
line_of_part : (size : PageSize) (bytes : List ℕ) (at k : ℕ) → k < 16 → bytes_of_line size k (take (16 * line_bytes size) (drop at bytes)) ≡ take (line_bytes size) (drop (at + k * line_bytes size) bytes)
line_of_part size bytes at k few =
    let whole : (16 * line_bytes size) ≡ k * line_bytes size + ((16 * line_bytes size) - k * line_bytes size) = omega (arith, lines-below size k 16 few) in
    cc (whole, drop-take (k * line_bytes size) ((16 * line_bytes size) - k * line_bytes size) (drop at bytes), take-take (line_bytes size) ((16 * line_bytes size) - k * line_bytes size) (drop (k * line_bytes size) (drop at bytes)) (omega (arith, lines-below size k 16 few)), drop-drop (k * line_bytes size) at bytes)

pub composed_none : (image : List ℕ) (header : Header) (newest : List (Option ℕ)) (first : ℕ) (page : List ℕ) → page ≡ bytes_at image (home_at header first) (16 * line_bytes header.directory.page) → Composed header.directory.page image (home_of image header) newest first 0 page
composed_none image header newest first page is = grind (arith, nat_tests, line_of_part, drop-drop)

pub composed_more : (size : PageSize) (image home : List ℕ) (newest : List (Option ℕ)) (first i : ℕ) (page new : List ℕ) (place : Option ℕ) → i < 16 → length page ≡ (16 * line_bytes size) → place ≡ get_or newest (first + i) None
    → ((at : ℕ) → place ≡ Some at → at + line_bytes size ≤ length image) → new ≡ newest_over (line_bytes size) image place page (i * line_bytes size) → Composed size image home newest first i page → Composed size image home newest first (i + 1) new
composed_more size image home newest first i page new None more long place_is within is composed = record {
  done = λ k few. elim (cases_eq k i) [
    | inl same ↦ grind (arith, is, same, place_is, composed.left)
    | inr other ↦ ap (bytes_of_line size k) is ∙ composed.done k (omega (arith, few, other))
  ];
  left = λ k past few. ap (bytes_of_line size k) is ∙ composed.left k (omega (arith, past)) few;
}
composed_more size image home newest first i page new (Some at) more long place_is within is composed =
    let fits : i * line_bytes size + line_bytes size ≤ length page = omega (arith, long, lines-below size i 16 more) in
    let part = bytes_at image at (line_bytes size) in
    let whole : length part ≡ line_bytes size = length-take-le (line_bytes size) (drop at image) (omega (arith, length-drop at image, within at refl)) in
    record {
      done = λ k few. elim (cases_eq k i) [
        | inl same ↦ grind (arith, is, same, place_is, same_line size page part i whole fits)
        | inr other ↦ ap (bytes_of_line size k) is ∙ other_line size page part i k whole fits other ∙ composed.done k (omega (arith, few, other))
      ];
      left = λ k past few. ap (bytes_of_line size k) is ∙ other_line size page part i k whole fits (λ same. omega (arith, past, same)) ∙ composed.left k (omega (arith, past)) few;
    }

-- no place of a part in which none is
nowhere : (newest : List (Option ℕ)) (first k : ℕ) → first + 16 ≤ length newest → list_any is_some (slice_range newest first (first + 16)) ≡ false → k < 16 → get_or newest (first + k) None ≡ None
nowhere newest first k long none few = grind (arith, nat_tests, places, list_any_at is_some (slice_range newest first (first + 16)) k None)

-- where none of the sixteen lines is in the bank, the page at home is that of the store
pub composed_at_home : (size : PageSize) (image home : List ℕ) (newest : List (Option ℕ)) (first : ℕ) (page : List ℕ) → first + 16 ≤ length newest → list_any is_some (slice_range newest first (first + 16)) ≡ false → Composed size image home newest first 0 page → Composed size image home newest first 16 page
composed_at_home size image home newest first page long none composed = grind (arith, nat_tests, nowhere)

-- with all sixteen lines the page is that of the store
pub composed_all : (size : PageSize) (image home bytes : List ℕ) (newest : List (Option ℕ)) (places : ℕ → Option ℕ) (bound page_number : ℕ) (page : List ℕ) → Agree size bound image home bytes places → ((k : ℕ) → k < bound → get_or newest k None ≡ places k) → page_number * 16 + 16 ≤ bound → length page ≡ (16 * line_bytes size)
    → Composed size image home newest (page_number * 16) 16 page → page ≡ take (16 * line_bytes size) (drop (page_number * (16 * line_bytes size)) bytes)
composed_all size image home bytes newest places bound page_number page agree same within long composed =
    same_lines size 16 page (take (16 * line_bytes size) (drop (page_number * (16 * line_bytes size)) bytes)) long (length-take-le (16 * line_bytes size) (drop (page_number * (16 * line_bytes size)) bytes) (omega (arith, length-drop (page_number * (16 * line_bytes size)) bytes, agree.long, lines-within size (page_number * 16 + 16) bound within)))
    (λ k few.
    let place : page_number * (16 * line_bytes size) + k * line_bytes size ≡ (page_number * 16 + k) * line_bytes size = omega arith in
    composed.done k few
    ∙ ap (newest_bytes size image home (page_number * 16 + k)) (same (page_number * 16 + k) (omega (arith, within)))
    ∙ sym (agree.each (page_number * 16 + k) (omega (arith, within)))
    ∙ ap (λ (n : ℕ). take (line_bytes size) (drop n bytes)) (sym place)
    ∙ sym (line_of_part size bytes (page_number * (16 * line_bytes size)) k few))

-- the page of a store that shows the bytes
pub shown_page : (held : List ℕ) (store : StoreView) (shows : Shows held store) (page : List ℕ) (page_number : ℕ) → page_number < page_count store.header.directory → length page ≡ (16 * line_bytes store.header.directory.page)
    → Composed store.header.directory.page held (home_of held store.header) store.bank.newest (page_number * 16) 16 page → page ≡ page_in (stands held) page_number
shown_page held store shows page page_number within long composed =
    let is = shown_store held store shows in
    let bytes = fold (laid store.header.directory.page) (home_of held store.header) shows.read.records in
    cc (composed_all store.header.directory.page held (home_of held store.header) bytes store.bank.newest (λ k. newest_place k shows.read.records) (line_count store.header.directory) page_number page (store_agrees held store.header store.bank.which store.bank.base store.bank.gate shows.read.records is) (λ k below. shows.read.newest k (omega (arith, below, shows.fits.lines))) (omega (arith, within)) long composed, page-lines store.header.directory.page, stands_is held store.header store.bank.which store.bank.base store.bank.gate shows.read.records is)

pub placed_at : (size : PageSize) (place : Option ℕ) (at end : ℕ) → place ≡ Some at → IfSome place (λ those. those + line_bytes size ≤ end) → at + line_bytes size ≤ end
placed_at size place at end is within = grind (arith, nat_tests)
