-- Tags that are zeros.
use Rattle.std.proofs.Common.{replicate}
use Rattle.page_table.proofs.Common.{◌≡◌, ℕ, List, None, ◌≤◌, ◌<◌, inl, inr, arith, nat_tests, get_or-replicate, get_or_past, length-replicate, cases_lt, line_in}
use Rattle.std.specs.Prelude.{slice_index, ◌^◌}
use Rattle.page_table.specs.LinePlaces.{block_place}

-- each tag is zero
pub zero-at : (n k : ℕ) → slice_index (replicate n 0) k ≡ 0
zero-at n k = elim (cases_lt k n) [ inl below ↦ get_or-replicate n k 0 0 below | inr past ↦ get_or_past (replicate n 0) k 0 (omega (arith, past, length-replicate {A = ℕ} n 0)) ]

-- which is no time
pub none-at : (time block : ℕ) (spots : List ℕ) → 2 ^ 32 ≤ time → line_in time (replicate 64 0) spots block ≡ None
none-at time block spots begun = grind (arith, nat_tests, zero-at 64 (block_place block))

-- nor is a tag of an earlier one
pub none-before : (time block : ℕ) (tags spots : List ℕ) → ((place : ℕ) → slice_index tags place < time) → line_in time tags spots block ≡ None
none-before time block tags spots past = grind (arith, nat_tests, past (block_place block))
