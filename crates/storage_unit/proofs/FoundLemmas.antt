-- An access that was located: where it lies, what is answered to it, and its bytes.
use Rattle.storage_unit.proofs.Common.{◌≡◌, ℕ, sym, ◌∙◌, ap, Result, Ok, Check, Virtual, located_by, Access, Probe, answer_in, answered_at, bytes_from, byte_place, byte_at, is_in_frame, refuses_byte, Lies, bytes_shown, Unit, reach_of}
use Rattle.storage_unit.proofs.AfterLemmas.{range-shown}
use Rattle.storage_unit.proofs.PlaceLemmas.{under, lies, registers-page}
use Rattle.storage_unit.proofs.UnitLemmas.{unit-sound}

module _
    (unit : Unit) (wants : Access) (count : ℕ) (located : Result Virtual Check) (first : Virtual)
    (same : count ≡ wants.bytes) (is : located ≡ located_by unit.registers wants.address count wants.store) (at : located ≡ Ok first) where
  pub found : located_by unit.registers wants.address wants.bytes wants.store ≡ Ok first
  found = ap (λ n. located_by unit.registers wants.address n wants.store) (sym same) ∙ sym is ∙ at

  pub found-lies : Lies (reach_of unit) first wants.bytes
  found-lies = lies (reach_of unit) (unit-sound unit) wants.address wants.bytes first (under unit.registers wants.address wants.bytes wants.store first found)

  pub found-answer : (answer : Probe) → answer ≡ answered_at unit.directory.page (is_in_frame (reach_of unit)) (refuses_byte (reach_of unit)) wants (Ok first)
      → answer ≡ answer_in (λ state. state.registers) is_in_frame refuses_byte (reach_of unit) wants
  found-answer answer told = cc (registers-page (reach_of unit) (unit-sound unit))

  pub found-bytes : bytes_shown (reach_of unit) (byte_place unit.directory first) wants.bytes ≡ bytes_from (byte_at (reach_of unit)) wants.address wants.bytes
  found-bytes = range-shown (reach_of unit) (unit-sound unit) wants.address wants.bytes first (under unit.registers wants.address wants.bytes wants.store first found)
