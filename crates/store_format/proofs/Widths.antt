-- Sums of lines and of entries, by the size of a page.
use Rattle.store_format.proofs.Common.{ℕ, ◌+◌, ◌*◌, ◌<◌, ◌≤◌, arith, line_bytes, PageSize, entry_bytes, nat_tests}

pub line-some : (page : PageSize) → 128 ≤ line_bytes page
line-some page = grind (arith, nat_tests)

pub line-few : (page : PageSize) → line_bytes page ≤ 256
line-few page = grind (arith, nat_tests)

-- an entry behind others, of so many
pub entries-below : (page : PageSize) (i count : ℕ) → i < count → entry_bytes page * i + entry_bytes page ≤ entry_bytes page * count
entries-below page i count below = grind (arith, nat_tests)

-- a line behind others, of so many
pub lines-below : (page : PageSize) (k bound : ℕ) → k < bound → k * line_bytes page + line_bytes page ≤ bound * line_bytes page
lines-below page k bound below = grind (arith, nat_tests)

-- lines of no more
pub lines-within : (page : PageSize) (n bound : ℕ) → n ≤ bound → n * line_bytes page ≤ bound * line_bytes page
lines-within page n bound few = grind (arith, nat_tests)
