-- Labels and the values of expressions.
use Rattle.std.specs.Prelude.{ℕ, ℤ, pos, negsuc, suc, ◌+◌, ◌^◌, ◌-◌, ◌+ℤ◌, nat_le, min, if◌then◌else◌, Bool, false, List, [], ◌∷◌, Option, Some, None, Result, Ok, Err}
use Rattle.romp_asm.specs.Below.{bytes_eq, Expr, Operand, option_map, option_map_or, Statement}
use Rattle.asm_parse.specs.declared.statement.Operand.TheVariants as operand
use Rattle.asm_parse.specs.declared.statement.Expr.TheVariants as expr
use Rattle.romp_asm.specs.Size.{size_of}
use Rattle.romp_asm.specs.declared.value.Known.{Known}
use Rattle.romp_asm.specs.declared.value.Known.TheVariants as known

-- whether a statement has this label
abbrev pub is_labelled : List ℕ → Statement → Bool
is_labelled word statement = option_map_or (λ label. bytes_eq label word) statement.label false

-- the address of a label: that of the first statement that has it, where the first of these statements stands at an address
unfoldable pub address_from : ℕ → List Statement → List ℕ → Option ℕ
address_from at [] word = None
address_from at (statement ∷ statements) word =
    if is_labelled word statement then Some at else address_from (at + size_of statement.body) statements word

-- the address of a label: the sum of the sizes before the first statement that has it
abbrev pub address_of : List Statement → List ℕ → Option ℕ
address_of statements word = address_from 0 statements word

-- the addresses of labels as numbers with sign
abbrev pub addresses_of : List Statement → List ℕ → Option ℤ
addresses_of statements word = option_map pos (address_of statements word)

-- whether a number lies from -below to above
abbrev pub is_between : ℕ → ℕ → ℤ → Bool
is_between below above (pos n) = nat_le n above
is_between below above (negsuc n) = nat_le (suc n) below

-- a number, if 64 bits hold it with its sign; any other is kind 7
abbrev pub within_reach : ℤ → Result ℤ ℕ
within_reach value = if is_between (2 ^ 63) (2 ^ 63 - 1) value then Ok value else Err 7

-- an address and what is added to it; an unknown label is kind 6
abbrev pub moved_by : ℤ → Option ℤ → Result ℤ ℕ
moved_by more (Some address) = within_reach (address +ℤ more)
moved_by more None = Err 6

-- the value of an expression, by the addresses of the labels
abbrev pub value_of : (List ℕ → Option ℤ) → Expr → Result ℤ ℕ
value_of addresses (expr.Number number) = Ok number
value_of addresses (expr.Label word more) = moved_by more (addresses word)

-- what is made of a value
abbrev pub result_map : {A B : Type 0} → (A → B) → Result A ℕ → Result B ℕ
result_map f (Ok value) = Ok (f value)
result_map f (Err kind) = Err kind

-- an operand with its value
abbrev pub known_of : (List ℕ → Option ℤ) → Operand → Result Known ℕ
known_of addresses (operand.Register register) = Ok (known.Register register)
known_of addresses (operand.Condition condition) = Ok (known.Condition condition)
known_of addresses (operand.Value value) = result_map known.Value (value_of addresses value)
known_of addresses (operand.Place displacement register) = result_map (λ value. known.Place value register) (value_of addresses displacement)

-- the lesser of the kinds of two faults, of which the first may be none
abbrev pub least_kind : Option ℕ → ℕ → ℕ
least_kind (Some other) kind = min other kind
least_kind None kind = kind

-- one operand before others, or the least kind of those that have no value
abbrev pub known_before : Result Known ℕ → Result (List Known) ℕ → Result (List Known) ℕ
known_before (Ok first) (Ok others) = Ok (first ∷ others)
known_before (Ok first) (Err kind) = Err kind
known_before (Err kind) (Ok others) = Err kind
known_before (Err kind) (Err other) = Err (min kind other)

-- operands with their values, or the least kind of those that have none
abbrev pub knowns_of : (List ℕ → Option ℤ) → List Operand → Result (List Known) ℕ
knowns_of addresses [] = Ok []
knowns_of addresses (first ∷ others) = known_before (known_of addresses first) (knowns_of addresses others)
