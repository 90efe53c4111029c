-- The rows of bytes, and of bytes and more.
use Rattle.listing.proofs.Common.{◌≡◌, ℕ, zero, suc, ◌+◌, ◌*◌, ◌≤◌, List, [], ◌∷◌, ◌++◌, length, take, drop, refl, sym, ◌∙◌, ap, append_assoc, arith, add-zero, length-append, length-drop, div_ceil, flat_map, range_with_len, drop-drop, take-append-le, drop-append-le, row_line, row_lines}

-- the row with this number
abbrev line_at : ℕ → List ℕ → ℕ → List ℕ
line_at first bytes row = row_line (first + 16 * row) (take 16 (drop (16 * row) bytes))

-- it is the row before of the bytes behind the first sixteen
next_row : (first : ℕ) (bytes : List ℕ) (row : ℕ) → line_at first bytes (row + 1) ≡ line_at (first + 16) (drop 16 bytes) row
next_row first bytes row =
    let place : first + 16 * (row + 1) ≡ first + 16 + 16 * row = omega arith in
    let same : 16 * (row + 1) ≡ 16 + 16 * row = omega arith in
    ap (λ (n : ℕ). row_line n (take 16 (drop (16 * (row + 1)) bytes))) place
    ∙ ap (λ (these : List ℕ). row_line (first + 16 + 16 * row) (take 16 these)) (ap (λ (n : ℕ). drop n bytes) same ∙ sym (drop-drop (16 * row) 16 bytes))

later_rows : (first : ℕ) (bytes : List ℕ) (from count : ℕ) → flat_map (line_at first bytes) (range_with_len (from + 1) count) ≡ flat_map (line_at (first + 16) (drop 16 bytes)) (range_with_len from count)
later_rows first bytes from zero = refl
later_rows first bytes from (suc count) =
    ap (λ (line : List ℕ). line ++ flat_map (line_at first bytes) (range_with_len (from + 1 + 1) count)) (next_row first bytes from)
    ∙ ap (λ (lines : List ℕ). line_at (first + 16) (drop 16 bytes) from ++ lines) (later_rows first bytes (from + 1) count)

-- a row of sixteen bytes, and the rows of the others
one_row : (first : ℕ) (bytes : List ℕ) → 16 ≤ length bytes → row_lines first bytes ≡ row_line first (take 16 bytes) ++ row_lines (first + 16) (drop 16 bytes)
one_row first bytes long =
    let rest = div_ceil (length (drop 16 bytes)) 16 in
    let rows : div_ceil (length bytes) 16 ≡ suc rest = omega (arith, length-drop 16 bytes) in
    ap (λ (n : ℕ). flat_map (line_at first bytes) (range_with_len 0 n)) rows
    ∙ ap (λ (n : ℕ). row_line n (take 16 bytes) ++ flat_map (line_at first bytes) (range_with_len (0 + 1) rest)) (add-zero first)
    ∙ ap (λ (lines : List ℕ). row_line first (take 16 bytes) ++ lines) (later_rows first bytes 0 rest)

-- the rows of so many times sixteen bytes, and those of the others
pub rows_on : (count first : ℕ) (front back : List ℕ) → length front ≡ 16 * count → row_lines first (front ++ back) ≡ row_lines first front ++ row_lines (first + 16 * count) back
rows_on zero first [] back long = ap (λ (n : ℕ). row_lines n back) (sym (add-zero first))
rows_on zero first (byte ∷ front) back long = absurd (omega (arith, long))
rows_on (suc count) first front back long =
    let few : 16 ≤ length front = omega (arith, long) in
    let whole : 16 ≤ length (front ++ back) = omega (arith, few, length-append front back) in
    let rest : length (drop 16 front) ≡ 16 * count = omega (arith, long, length-drop 16 front) in
    let place : first + 16 + 16 * count ≡ first + 16 * suc count = omega arith in
    one_row first (front ++ back) whole
    ∙ ap (λ (line : List ℕ). row_line first line ++ row_lines (first + 16) (drop 16 (front ++ back))) (take-append-le 16 front back few)
    ∙ ap (λ (these : List ℕ). row_line first (take 16 front) ++ row_lines (first + 16) these) (drop-append-le 16 front back few)
    ∙ ap (λ (lines : List ℕ). row_line first (take 16 front) ++ lines) (rows_on count (first + 16) (drop 16 front) back rest)
    ∙ ap (λ (n : ℕ). row_line first (take 16 front) ++ (row_lines (first + 16) (drop 16 front) ++ row_lines n back)) place
    ∙ sym (append_assoc (row_line first (take 16 front)) (row_lines (first + 16) (drop 16 front)) (row_lines (first + 16 * suc count) back))
    ∙ ap (λ (lines : List ℕ). lines ++ row_lines (first + 16 * suc count) back) (sym (one_row first front few))
