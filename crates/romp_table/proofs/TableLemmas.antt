-- The rules of the table at each row, from what was computed over all rows.
use Rattle.romp_table.proofs.Common.{nat_tests, get_or-range_with_len, slice_get-map, nat_lt, range_with_len, position_or_len, slice_get, option_map, number_unit, has_number, row_numbered, is_row_at, op_place, row_of, Op, Format, Row, TABLE, PLACES, ◌≡◌, ℕ, ◌+◌, ◌*◌, ◌/◌, ◌%◌, ◌^◌, ◌<◌, ◌==◌, true, List, Some, sym, ap, ◌∙◌, map, find, slice_index, zero-add, arith}
use mathlib.Core.Path.{fun_ext}
use denote.Enum.Bare.{tag_one}
use denote.Enum.Declared.{variants}
use denote.Enum.Enum.{tag_below}
use Rattle.romp_table.specs.contracts.inst.Op.{the_type}
use Rattle.std.proofs.lemmas.List.Folds.{find_at}
use Rattle.romp_table.proofs.Computed.{span, has_high, leads_back, places_computed, highs_computed, order_computed, ops_computed, widths_computed}
use Rattle.romp_table.proofs.Lists.{find_passes, all_at, value_at, range_at, range_found}

==-same : (m n : ℕ) → (m == n) ≡ true → m ≡ n
==-same m n e = grind (arith, nat_tests)

high_of : (format : Format) (first : ℕ) → first / number_unit format ≡ first / 2 ^ 8 / span format
high_of Format.J first = omega arith
high_of _ first = omega arith

-- whether a halfword has a row's number is a matter of its high byte
has_number_high : (first : ℕ) → has_number first ≡ has_high (first / 2 ^ 8)
has_number_high first = fun_ext (λ row. ap (λ n. n == row.number) (high_of row.format first))

numbered_in : (rows : List Row) (places : List ℕ) → map (λ high. position_or_len (has_high high) rows) (range_with_len 0 256) ≡ places → (first : ℕ) → first < 2 ^ 16 → find (has_number first) rows ≡ slice_get rows (slice_index places (first / 2 ^ 8))
numbered_in rows places computed first small = cc (has_number_high first, find_at (has_high (first / 2 ^ 8)) rows, value_at (λ high. position_or_len (has_high high) rows) 256 places computed (first / 2 ^ 8) (omega arith))

-- one look-up finds the row whose number a halfword has
pub row_by_place : (first : ℕ) → first < 2 ^ 16 → row_numbered first ≡ slice_get TABLE (slice_index PLACES (first / 2 ^ 8))
unfolding row_numbered
row_by_place first small = numbered_in TABLE PLACES places_computed first small

pub place_below : (op : Op) → op_place op < 85
place_below op = tag_below (variants the_type) (the_type.to op)

-- a row stands at the place of its operation
pub own_place : (i : ℕ) (row : Row) → slice_get TABLE i ≡ Some row → op_place row.op ≡ i
own_place i row e =
    let here : slice_get (map (λ row. op_place row.op) TABLE) i ≡ Some (op_place row.op) = slice_get-map (λ row. op_place row.op) TABLE i ∙ ap (option_map (λ row. op_place row.op)) e in
    cc (range_at 0 85 i (op_place row.op) (sym (ap (λ places. slice_get places i) order_computed) ∙ here), zero-add i)

-- one look-up finds the row of an operation
pub row_of_place : (op : Op) → row_of op ≡ slice_get TABLE (op_place op)
unfolding row_of
row_of_place op =
    find_at (is_row_at (op_place op)) TABLE
    ∙ ap (slice_get TABLE) (value_at (λ place. position_or_len (is_row_at place) TABLE) 85 (range_with_len 0 85) ops_computed (op_place op) (place_below op)
    ∙ get_or-range_with_len 0 85 (op_place op) 0 (place_below op) ∙ zero-add (op_place op))

-- a row is that of its operation
pub row_of_own : (i : ℕ) (row : Row) → slice_get TABLE i ≡ Some row → row_of row.op ≡ Some row
row_of_own i row e = row_of_place row.op ∙ ap (slice_get TABLE) (own_place i row e) ∙ e

-- the row at the place of an operation is its row
pub op_at_place : (op : Op) (row : Row) → slice_get TABLE (op_place op) ≡ Some row → row.op ≡ op
op_at_place op row e = tag_one the_type tt row.op op (own_place (op_place op) row e)

high_split : (format : Format) (first number : ℕ) → first / number_unit format ≡ number → number * span format + first / 2 ^ 8 % span format ≡ first / 2 ^ 8
high_split Format.J first number e = omega arith
high_split _ first number e = omega arith

low_below : (format : Format) (high : ℕ) → high % span format < span format
low_below Format.J high = omega arith
low_below _ high = omega arith

leads : (places : List ℕ) (row : Row) → leads_back places row ≡ true → (first : ℕ) → first / number_unit row.format ≡ row.number → slice_index places (first / 2 ^ 8) ≡ op_place row.op
leads places row back first e =
    let low = first / 2 ^ 8 % span row.format in
    let at = range_found 0 (span row.format) low (low_below row.format (first / 2 ^ 8)) ∙ ap Some (zero-add low) in
    cc (high_split row.format first row.number e, ==-same _ _ (all_at (λ low. slice_index places (row.number * span row.format + low) == op_place row.op) (range_with_len 0 (span row.format)) low low back at))

-- no two rows share bits: a row whose number a halfword has is the one that is found
pub row_unique : (first : ℕ) → first < 2 ^ 16 → (i : ℕ) (row : Row) → slice_get TABLE i ≡ Some row → first / number_unit row.format ≡ row.number → row_numbered first ≡ Some row
row_unique first small i row e numbered = cc (row_by_place first small, leads PLACES row (all_at (leads_back PLACES) TABLE i row highs_computed e) first numbered, own_place i row e, e)

-- a row that is found is that of its operation, and has its number in the halfword
pub row_found : (first : ℕ) → first < 2 ^ 16 → (row : Row) → row_numbered first ≡ Some row → (row_of row.op ≡ Some row) × (first / number_unit row.format ≡ row.number)
unfolding row_numbered
row_found first small row e =
    (row_of_own (slice_index PLACES (first / 2 ^ 8)) row (sym (row_by_place first small) ∙ e), ==-same _ _ (find_passes (has_number first) TABLE row e))

-- the number of a row has the width of its format
pub number_fits : (i : ℕ) (row : Row) → slice_get TABLE i ≡ Some row → row.number < 2 ^ 16 / number_unit row.format
number_fits i row e =
    let passes = all_at (λ row. nat_lt row.number (2 ^ 16 / number_unit row.format)) TABLE i row widths_computed e in
    below _ _ passes
  where
    below : (m n : ℕ) → nat_lt m n ≡ true → m < n
    below m n e = grind (arith, nat_tests)
