-- All lines as they are now, end to end.
use Rattle.desk_law.proofs.Common.{if◌then◌else◌, ◌≡◌, ℕ, zero, suc, ◌+◌, ◌*◌, ◌<◌, ◌≤◌, List, [], length, take, drop, slice_range, flat_map, range_with_len, arith, sym, ◌∙◌, length-append, same_number_lists, length-take, length-drop, take_at, line_bytes, Layout, byte_count, FlatStore, IsWholeStore, line_count, flat_line, after-whole, in_line, Desk, Active, has, laid_lines, IsCurrent, current_bytes, nat_tests, drop-append-add, take-nil}
use Rattle.std.proofs.Math.ListN.{drop_of_length-le}
use Rattle.std.proofs.Math.Nat.{mul-le-mul_right}
use Rattle.lines.proofs.WithinLemmas.{byte_count-lines, line-bytes-pos}

-- a line of a list of bytes
line-part : (lb line : ℕ) (xs : List ℕ) → slice_range xs (line * lb) (line * lb + lb) ≡ take lb (drop (line * lb) xs)
line-part lb line xs = grind (arith, nat_tests)

-- the length of pieces of one length
pieces-long : (lb : ℕ) (f : ℕ → List ℕ) (low n : ℕ) → ((line : ℕ) → low ≤ line → line < low + n → length (f line) ≡ lb) → length (flat_map f (range_with_len low n)) ≡ n * lb
pieces-long lb f low zero each = omega arith
pieces-long lb f low (suc n) each = grind (arith, nat_tests, length-append, pieces-long lb f (low + 1) n)

-- one of the pieces
piece-at : (lb : ℕ) (f : ℕ → List ℕ) (low n k : ℕ) → ((line : ℕ) → low ≤ line → line < low + n → length (f line) ≡ lb) → k < n
    → take lb (drop (k * lb) (flat_map f (range_with_len low n))) ≡ f (low + k)
piece-at lb f low zero k each below = absurd (omega (arith, below))
piece-at lb f low (suc n) zero each below = grind (arith, nat_tests, take_at)
piece-at lb f low (suc n) (suc k) each below = grind (arith, nat_tests, drop-append-add, piece-at lb f (low + 1) n k)

-- a line within has all its bytes, and one beyond has none
line-long : (d : Layout) (xs : List ℕ) (line : ℕ) → length xs ≡ byte_count d → line < line_count d → length (flat_line d xs line) ≡ line_bytes d.page
line-long d xs line whole below = grind (arith, nat_tests, mul-le-mul_right, line-part, length-take, length-drop, byte_count-lines)

line-beyond : (d : Layout) (xs : List ℕ) (line : ℕ) → length xs ≡ byte_count d → line_count d ≤ line → flat_line d xs line ≡ []
line-beyond d xs line whole beyond = grind (arith, nat_tests, mul-le-mul_right, line-part, drop_of_length-le, byte_count-lines, take-nil)

-- pieces that are lines, end to end
pub lines-joined : (d : Layout) (f : ℕ → List ℕ) → ((line : ℕ) → line < line_count d → length (f line) ≡ line_bytes d.page) → ((line : ℕ) → line_count d ≤ line → f line ≡ [])
    → (length (flat_map f (range_with_len 0 (line_count d))) ≡ byte_count d) × ((line : ℕ) → flat_line d (flat_map f (range_with_len 0 (line_count d))) line ≡ f line)
lines-joined d f full none = grind (arith, nat_tests, line-part, piece-at, line-beyond, pieces-long, byte_count-lines)

-- bytes of a store that have the same lines are the same
pub same-lines : (d : Layout) (bytes other : List ℕ) → length bytes ≡ byte_count d → length other ≡ byte_count d → ((line : ℕ) → flat_line d bytes line ≡ flat_line d other line) → bytes ≡ other
same-lines d bytes other long also same =
    grind (arith, nat_tests, same_number_lists bytes other, in_line (line_bytes d.page), line-bytes-pos d)

pub bytes-current : (desk : Desk) → IsWholeStore desk.committed → IsCurrent desk.committed desk.active (current_bytes desk)
bytes-current desk whole = grind (arith, nat_tests, lines-joined, line-long, line-beyond, after-whole)

-- two lists of bytes that are current are one
pub one-current : (store : FlatStore) (entries : List Active) (bytes other : List ℕ) → IsCurrent store entries bytes → IsCurrent store entries other → bytes ≡ other
one-current store entries bytes other is also = same-lines store.directory bytes other is.long also.long (λ line. is.lines line ∙ sym (also.lines line))

-- bytes with some lines from others
pub laid-is : (d : Layout) (lines from onto new : List ℕ) → length from ≡ byte_count d → length onto ≡ byte_count d → length new ≡ byte_count d
    → ((line : ℕ) → flat_line d new line ≡ (if has lines line then flat_line d from line else flat_line d onto line)) → laid_lines d lines from onto ≡ new
laid-is d lines from onto new from_long onto_long long each =
    grind (arith, nat_tests, lines-joined d, line-long, line-beyond, same-lines d)
