-- Where an access that is permitted begins.
use Rattle.storage_unit.proofs.Common.{◌≡◌, ℕ, Bool, false, sym, ◌∙◌, subst, Ok, Virtual, located_by, Probe, answered, access_to, Reach, is_in_frame, refuses_byte, IsReachSound, Lies, AreThere}
use Rattle.storage_unit.proofs.PlaceLemmas.{Under, under, lies, first-byte}
use Rattle.storage_unit.proofs.AnswerLemmas.{permitted-located, permitted-bytes}

-- its bytes lie there, in frames
pub record Begins (state : Reach) (address n : ℕ) (at : Virtual) : Type 0 where
  pub under : Under state.registers address n at
  pub lies : Lies state at n
  pub there : AreThere state at n

module _ (state : Reach) (sound : IsReachSound state) (address n : ℕ) (store : Bool) where
  found : answered state.registers (is_in_frame state) (refuses_byte state) (access_to address n store) ≡ Probe.Permitted → (at : Virtual) × (located_by state.registers address n store ≡ Ok at)
  found permitted = permitted-located state.registers (is_in_frame state) (refuses_byte state) (access_to address n store) permitted

  pub begins : (at : Virtual) → answered state.registers (is_in_frame state) (refuses_byte state) (access_to address n store) ≡ Probe.Permitted → located_by state.registers address 0 false ≡ Ok at → Begins state address n at
  begins at permitted is =
      let (v, lies_at) = found permitted in
      let here = sym (first-byte state sound address n store v lies_at) ∙ is in
      let same : v ≡ at = cc in
      subst (Begins state address n) same
      (record {
        under = under state.registers address n store v lies_at;
        lies = lies state sound address n v (under state.registers address n store v lies_at);
        there = permitted-bytes state sound (access_to address n store) v permitted lies_at;
      })
