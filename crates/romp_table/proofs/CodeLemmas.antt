-- Reading and writing instructions are inverse.
use Rattle.romp_table.proofs.Common.{◌≡◌, ℕ, ◌/◌, ◌^◌, ◌<◌, false, cond, Option, Some, None, refl, sym, ap, ◌∙◌, subst, IsSomeAnd, IfNone, IsTrue, option_and_then, option_map_or, number_unit, instruction_by, row_numbered, has_uses, if_used, decoded, op_place, row_of, HasWidths, IsLegal, IsRowOf, op_of, format_of, op_number, first_of, second_of, encoded, BeginWith, Inst, Row, nat_tests, arith}
use Rattle.romp_table.specs.declared.inst.Code.{Code}
use Rattle.romp_table.proofs.TableLemmas.{number_fits, row_of_place, op_at_place, row_unique, row_found}
use Rattle.romp_table.proofs.FieldLemmas.{numbered, read-written, written-read, first_told, read_alike, op_kept, format_kept}

-- the row of a legal instruction
found_row : (inst : Inst) (o : Option Row) → IsSomeAnd o (IsRowOf inst) → (row : Row) × (o ≡ Some row) × IsRowOf inst row
found_row inst None h = absurd h
found_row inst (Some row) h = (row, refl, h)

if_true : (row : Row) (inst : Inst) → IsTrue (has_uses row inst) → if_used row inst ≡ Some inst
if_true row inst uses = ap (λ test. cond test (Some inst) None) uses

-- halfwords that begin with the bytes of a legal instruction are read as it
pub decoded_of : (inst : Inst) → IsLegal inst → (first second : ℕ) → first < 2 ^ 16 → BeginWith first second (encoded inst) → decoded first second ≡ Some inst
decoded_of inst legal first second small begins =
    let (row, is_row, (same_format, uses)) = found_row inst (row_of (op_of inst)) legal.of_row in
    let same_number : op_number (op_of inst) ≡ row.number = ap (λ o. option_map_or (λ row. row.number) o 0) is_row in
    let stands = sym (row_of_place (op_of inst)) ∙ is_row in
    let has_number : first / number_unit row.format ≡ row.number =
    ap (λ format. first / number_unit format) same_format
    ∙ ap (λ n. n / number_unit (format_of inst)) (first_told inst first (first_of inst) second (second_of inst) begins)
    ∙ numbered inst (op_number (op_of inst)) legal.widths
    ∙ same_number in
    let is_op : row.op ≡ op_of inst = op_at_place (op_of inst) row stands in
    ap (option_and_then (λ row. if_used row (instruction_by row.op row.format first second))) (row_unique first small (op_place (op_of inst)) row stands has_number)
    ∙ ap (if_used row) ((λ i. instruction_by (is_op i) (same_format i) first second)
    ∙ read_alike inst (op_of inst) first (first_of inst) second (second_of inst) begins
    ∙ read-written inst (op_number (op_of inst)) legal.widths)
    ∙ if_true row inst uses

-- halfwords that begin with the bytes of a legal instruction have a row, and their fields are as it uses them
pub begins_found : (inst : Inst) → IsLegal inst → (first second : ℕ) → first < 2 ^ 16 → BeginWith first second (encoded inst) → (o : Option Inst) → decoded first second ≡ o → IfNone o ⊥
begins_found inst legal first second small begins o is = subst (λ o. IfNone o ⊥) (sym (decoded_of inst legal first second small begins) ∙ is) tt

-- halfwords without a row begin with the bytes of no legal instruction
pub none_numbered : (first second : ℕ) → first < 2 ^ 16 → row_numbered first ≡ None → (inst : Inst) → IsLegal inst → BeginWith first second (encoded inst) → ⊥
none_numbered first second small none inst legal begins =
    begins_found inst legal first second small begins None
    (ap (option_and_then (λ row. if_used row (instruction_by row.op row.format first second))) none)

-- nor do those whose fields are not as their row uses them
pub none_used : (first second : ℕ) → first < 2 ^ 16 → (row : Row) → row_numbered first ≡ Some row → has_uses row (instruction_by row.op row.format first second) ≡ false → (inst : Inst) → IsLegal inst → BeginWith first second (encoded inst) → ⊥
none_used first second small row found unused inst legal begins =
    begins_found inst legal first second small begins None
    (ap (option_and_then (λ row. if_used row (instruction_by row.op row.format first second))) found
    ∙ ap (λ test. cond test (Some (instruction_by row.op row.format first second)) None) unused)

-- what is read of a row's halfwords is legal
pub legal_of : (first second : ℕ) → first < 2 ^ 16 → (row : Row) → row_numbered first ≡ Some row → (inst : Inst) → inst ≡ instruction_by row.op row.format first second → HasWidths inst → IsTrue (has_uses row inst) → IsLegal inst
legal_of first second small row found inst is widths uses =
    let is_row : row_of (op_of inst) ≡ Some row = ap row_of (ap op_of is ∙ op_kept row.op row.format first second) ∙ (row_found first small row found).0 in
    let same : row.format ≡ format_of inst = sym (ap format_of is ∙ format_kept row.op row.format first second) in
    record { widths = widths; of_row = subst (λ o. IsSomeAnd o (IsRowOf inst)) (sym is_row) (same, uses) }

-- the halfwords begin with the bytes of what is read of them
pub begins_of : (first second : ℕ) → first < 2 ^ 16 → second < 2 ^ 16 → (row : Row) → row_numbered first ≡ Some row → BeginWith first second (encoded (instruction_by row.op row.format first second))
begins_of first second small small' row found = grind (arith, nat_tests, row_found, op_kept, written-read)

pub if_none : {A : Type 0} {P : Type 0} (o : Option A) → P → IfNone o P
if_none None h = h
if_none (Some x) h = tt

-- the number of a legal instruction's row has the width of its format
pub legal_number : (inst : Inst) → IsLegal inst → (row : Row) → row_of (op_of inst) ≡ Some row → row.number < 2 ^ 16 / number_unit (format_of inst)
legal_number inst legal row is = grind (arith, nat_tests, number_fits, row_of_place)

pub read_back : (inst : Inst) → IsLegal inst → (code : Code) → code ≡ encoded inst → (first second : ℕ) → first < 2 ^ 16 → BeginWith first second code → decoded first second ≡ Some inst
read_back inst legal code is first second small begins = decoded_of inst legal first second small (subst (BeginWith first second) is begins)
