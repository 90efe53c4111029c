-- Which calls of a disk in memory are refused.
use Rattle.std.specs.Prelude.{ℕ, ◌-◌, max, min, List, Bool, true, false, ◌&&◌, ◌==◌, not, nat_lt, if◌then◌else◌}
use Rattle.std.specs.List.{list_any, retain_mut}
use Rattle.outside.specs.declared.refusals.Call.{Call}
use Rattle.outside.specs.declared.refusals.Call.TheVariants.{Length, Read, Write, Sync}
use Rattle.outside.specs.declared.refusals.Refusal.{Refusal}

-- one kind, and for a read or a write a byte that both ranges have
abbrev pub is_met : Call → Call → Bool → Bool
is_met Length Length shared = true
is_met Sync Sync shared = true
is_met Read Read shared = shared
is_met Write Write shared = shared
is_met _ _ shared = false

-- the refusal speaks of a call of this kind over these bytes
abbrev pub concerns : Call → ℕ → ℕ → Refusal → Bool
concerns call start end refusal = is_met refusal.call call (nat_lt (max refusal.from start) (min refusal.to end))

-- and has skipped as many as it is to skip
abbrev pub is_due : Call → ℕ → ℕ → Refusal → Bool
is_due call start end refusal = concerns call start end refusal && refusal.skip == 0

-- some refusal is due
abbrev pub is_call_refused : Call → ℕ → ℕ → List Refusal → Bool
is_call_refused call start end refusals = list_any (is_due call start end) refusals

-- one call fewer to skip
abbrev pub skipping_one : Call → ℕ → ℕ → Refusal → Refusal
skipping_one call start end refusal = if concerns call start end refusal then record { call = refusal.call; from = refusal.from; to = refusal.to; skip = refusal.skip - 1 } else refusal

-- the refusals after such a call: those that refused it are gone, and the others that it concerns have one fewer to skip
abbrev pub used_up : Call → ℕ → ℕ → List Refusal → List Refusal
used_up call start end refusals = retain_mut (λ refusal. not (is_due call start end refusal)) (skipping_one call start end) refusals
