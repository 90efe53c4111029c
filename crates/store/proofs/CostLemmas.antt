-- What a record costs.
use Rattle.store.proofs.Common.{◌≡◌, ℕ, ◌+◌, ◌∷◌, [], ◌++◌, length, refl, arith, body_deeds, gate_deeds, bytes_written, RecordCosts}

pub record_costs : RecordCosts
record_costs bank body is =
    let all : bytes_written (body_deeds bank.gate body ++ gate_deeds bank.gate) ≡ length body + (length {A = ℕ} (165 ∷ []) + 0) = refl in
    let one : length {A = ℕ} (165 ∷ []) ≡ 1 = refl in
    (refl, omega (arith, one, all, is.bytes))
