-- What the checker computes over the whole table, once.
use Rattle.romp_table.proofs.Common.{range_with_len, position_or_len, list_all, number_unit, is_row_at, op_place, op_named, mnemonic, slot_of, Format, Row, TABLE, PLACES, NAMES, SLOTS, ◌≡◌, ℕ, ◌+◌, ◌*◌, ◌/◌, ◌^◌, ◌==◌, Bool, true, List, map, refl, Some, nat_lt, slice_index}

-- how many high bytes a row of this format has
abbrev pub span : Format → ℕ
span format = number_unit format / 2 ^ 8

-- whether a row has a high byte
abbrev pub has_high : ℕ → Row → Bool
has_high high row = high / span row.format == row.number

-- whether the high bytes of a row all lead to its own place
abbrev pub leads_back : List ℕ → Row → Bool
leads_back places row =
    list_all (λ low. slice_index places (row.number * span row.format + low) == op_place row.op) (range_with_len 0 (span row.format))

-- each high byte has its first row at the place that is written for it
pub places_computed : map (λ high. position_or_len (has_high high) TABLE) (range_with_len 0 256) ≡ PLACES
places_computed = refl

-- no high byte has two rows
pub highs_computed : list_all (leads_back PLACES) TABLE ≡ true
highs_computed = refl

-- the rows stand in the order of the operations
pub order_computed : map (λ row. op_place row.op) TABLE ≡ range_with_len 0 85
order_computed = refl

-- each operation has its first row at its own place
pub ops_computed : map (λ place. position_or_len (is_row_at place) TABLE) (range_with_len 0 85) ≡ range_with_len 0 85
ops_computed = refl

-- the mnemonics stand in the order of the operations
pub names_ordered : map (λ name. name.now) NAMES ≡ map (λ row. mnemonic row.op) TABLE
unfolding mnemonic
names_ordered = refl

-- each mnemonic is that of its own operation alone
pub names_computed : map (λ row. op_named (mnemonic row.op)) TABLE ≡ map (λ row. Some row.op) TABLE
unfolding mnemonic op_named
names_computed = refl

-- the slot of each mnemonic leads to its own row
pub slots_computed : map (λ row. slice_index SLOTS (slot_of (mnemonic row.op))) TABLE ≡ map (λ row. op_place row.op) TABLE
unfolding mnemonic
slots_computed = refl

-- each number has the width of its format
pub widths_computed : list_all (λ row. nat_lt row.number (2 ^ 16 / number_unit row.format)) TABLE ≡ true
widths_computed = refl
