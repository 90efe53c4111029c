-- Some of the sixteen lines of a page, as the list of them, ascending.
use Rattle.std.specs.Prelude.{◌≡◌, ℕ, ◌+◌, ◌^◌, ◌==◌, ◌||◌, ◌&&◌, nat_le, not, Bool, List, [], ◌∷◌, filter}
use Rattle.std.specs.List.{range_with_len, list_any}
use Rattle.std.specs.Int.{bit_at}

-- the numbers below another that pass a test, ascending
unfoldable pub passing : ℕ → (ℕ → Bool) → List ℕ
passing count test = filter test (range_with_len 0 count)

-- the lines of a page that pass a test
abbrev pub lines_where : (ℕ → Bool) → List ℕ
lines_where test = passing 16 test

-- the lines whose bit is on
abbrev pub lines_of_bits : ℕ → List ℕ
lines_of_bits bits = lines_where (λ line. bit_at bits line == 1)

-- the lines that are in one set or the other
abbrev pub union : List ℕ → List ℕ → List ℕ
union set other = lines_where (λ line. list_any (λ x. x == line) set || list_any (λ x. x == line) other)

-- the lines that are in one set and not in the other
abbrev pub difference : List ℕ → List ℕ → List ℕ
difference set other = lines_where (λ line. list_any (λ x. x == line) set && not (list_any (λ x. x == line) other))

-- the lines from a first to a last
abbrev pub between : (first last : ℕ) → List ℕ
between first last = lines_where (λ line. nat_le first line && nat_le line last)

-- what a set of lines is: those lines of a page that are in it, ascending
abbrev pub IsOfPage : List ℕ → Type 0
IsOfPage set = lines_where (λ line. list_any (λ x. x == line) set) ≡ set

-- the number whose bits are on at these lines
abbrev pub bits_of : List ℕ → ℕ
bits_of [] = 0
bits_of (line ∷ lines) = 2 ^ line + bits_of lines
