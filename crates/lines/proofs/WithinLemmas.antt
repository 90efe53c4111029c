-- Segments lie within the store.
use Rattle.lines.proofs.Common.{prefix_len, arith, sum_by-cons, div_below, PageSize, page_bytes, line_bytes, bytes_of, Layout, length_of, start_of, byte_count, page_count, nat_tests, ◌≡◌, ℕ, ◌+◌, ◌*◌, ◌<◌, ◌≤◌, Bool, true, false, not, List, [], ◌∷◌, Some, find, take, take_while, option_map, sum_by, cond}
use Rattle.std.proofs.Math.Nat.{mul_assoc, add-mul}
use Rattle.lines.specs.FlatLines.{line_of, line_count}

-- a line has bytes
pub line-bytes-pos : (directory : Layout) → 0 < line_bytes directory.page
line-bytes-pos directory = grind (arith, nat_tests)

-- the items before the first that passes, and that one, are a part of all
found-within :
    {X : Type 0} (f : X → ℕ) (test : X → Bool) (xs : List X) (n : ℕ)
    → option_map f (find test xs) ≡ Some n → sum_by f (take_while (λ x. not (test x)) xs) + n ≤ sum_by f xs
found-within f test [] n found = absurd (cc)
found-within {X} f test (x ∷ xs) n found = by_test (test x) (found-within f test xs n) found
  where
    before : ℕ
    before = prefix_len (λ y. not (test y)) xs

    by_test :
        (passes : Bool) → (option_map f (find test xs) ≡ Some n → sum_by f (take before xs) + n ≤ sum_by f xs)
        → option_map f (cond passes (Some x) (find test xs)) ≡ Some n
        → sum_by f (take (cond (not passes) (1 + before) 0) (x ∷ xs)) + n ≤ sum_by f (x ∷ xs)
    by_test true inner found = grind (arith, nat_tests, sum_by-cons)
    by_test false inner found = grind (arith, nat_tests, sum_by-cons, inner)

-- a segment ends within the store
pub segment-within :
    (directory : Layout) (identifier bytes : ℕ)
    → length_of directory identifier ≡ Some bytes → start_of directory identifier + bytes ≤ byte_count directory
segment-within directory identifier bytes found = grind (arith, nat_tests, found-within)

-- a page has sixteen lines
pub page-lines : (page : PageSize) → page_bytes page ≡ 16 * line_bytes page
page-lines page = grind (arith, nat_tests)

sum-pages : (bytes : ℕ) (segments : List (ℕ × ℕ)) → sum_by (bytes_of bytes) segments ≡ sum_by (λ segment. segment.1) segments * bytes
sum-pages bytes [] = omega arith
sum-pages bytes (segment ∷ rest) = grind (arith, nat_tests, sum-pages bytes rest, sum_by-cons (bytes_of bytes) segment rest, sum_by-cons (λ segment. segment.1) segment rest, add-mul segment.1 (sum_by (λ segment. segment.1) rest) bytes)

-- the store's bytes are those of its pages
pub byte_count_pages : (directory : Layout) → byte_count directory ≡ page_count directory * page_bytes directory.page
byte_count_pages directory = sum-pages (page_bytes directory.page) directory.segments

-- the store's bytes are those of its lines
pub byte_count-lines : (directory : Layout) → byte_count directory ≡ line_count directory * line_bytes directory.page
byte_count-lines directory = grind (arith, nat_tests, sum-pages, page-lines, mul_assoc)

-- a byte of the store lies in one of its lines
pub line-below : (directory : Layout) (at : ℕ) → at < byte_count directory → line_of directory at < line_count directory
line-below directory at below = grind (arith, nat_tests, byte_count-lines, div_below, line-bytes-pos)
