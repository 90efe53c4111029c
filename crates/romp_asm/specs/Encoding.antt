-- The bytes of a statement.
use Rattle.std.specs.Prelude.{ℕ, ℤ, ◌^◌, ◌-◌, ◌==◌, if◌then◌else◌, List, [], ◌∷◌, take, replicate, Option, Some, None, Result, Ok, Err}
use Rattle.romp_asm.specs.Below.{field_bits, Body, Data, encoded, Entry, Export, form_of, Inst, Nothing, option_map, Space, Window}
use Rattle.std.specs.Int.{to_be_bytes, w16, w32}
use Rattle.romp_table.specs.declared.inst.Code.{Code}
use Rattle.romp_asm.specs.Value.{is_between, knowns_of, value_of}
use Rattle.romp_asm.specs.Field.{even_at_most}
use Rattle.romp_asm.specs.Instruction.{inst_by}

-- what stands in its range; anything else is kind 7
abbrev pub in_range : {A : Type 0} → Option A → Result A ℕ
in_range (Some value) = Ok value
in_range None = Err 7

-- what a value gives, if there is one
abbrev pub then_value : {A B : Type 0} → (A → Result B ℕ) → Result A ℕ → Result B ℕ
then_value next (Ok value) = next value
then_value next (Err kind) = Err kind

-- the bytes of an instruction's code
abbrev pub code_bytes : Code → List ℕ
code_bytes code = take code.len code.bytes

-- a value as so many bytes, the highest first: 4, 2 or 1, if they hold it with or without a sign
abbrev pub data_bytes : ℕ → ℤ → Option (List ℕ)
data_bytes count value =
    if count == 4 then (if is_between (2 ^ 31) (2 ^ 32 - 1) value then Some (to_be_bytes w32 (field_bits 32 value)) else None)
    else if count == 2 then (if is_between 32768 65535 value then Some (to_be_bytes w16 (field_bits 16 value)) else None)
    else if count == 1 then (if is_between 128 255 value then Some (field_bits 8 value ∷ []) else None)
    else None

-- the bytes of a statement at an address, by the addresses of the labels: kind 6 for an unknown label, 7 for a value that is out of its range
abbrev pub encoding_of : (List ℕ → Option ℤ) → ℕ → Body → Result (List ℕ) ℕ
encoding_of addresses at Nothing = Ok []
encoding_of addresses at (Inst op operands) =
    then_value (λ knowns. in_range (option_map (λ inst. code_bytes (encoded inst)) (inst_by op (form_of op) at knowns))) (knowns_of addresses operands.items)
encoding_of addresses at (Data count value) = then_value (λ number. in_range (data_bytes count number)) (value_of addresses value)
encoding_of addresses at (Space count) = Ok (replicate count 0)
encoding_of addresses at (Window register segment write) = Ok []
encoding_of addresses at (Entry value) =
    then_value (λ number. in_range (option_map (λ entry. []) (even_at_most 16382 number))) (value_of addresses value)
encoding_of addresses at (Export word) = Ok []
