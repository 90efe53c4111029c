-- How lines were put, by the status.
use Rattle.std.specs.Prelude.{◌≡◌, ℕ, ◌+◌, List, Option, IsSome, Result, Ok, Err}
use Rattle.outside.specs.declared.world.Outside.{Ghosts}
use Rattle.outside.specs.declared.failed.Failed.{Failed}
use Rattle.outside.specs.Bytes.{Prints}
use Rattle.call_status.specs.declared.status.Status.{Status}
use Rattle.call_status.specs.declared.status.Status.TheVariants as status

-- puts that went well, and one that failed
abbrev pub well : Result (Unit {0}) Failed
well = Ok tt

abbrev pub broken : Result (Unit {0}) Failed
broken = Err (record {})

-- how the puts went, by the status
abbrev pub put_of : Status → Result (Unit {0}) Failed
put_of status.PutFault = broken
put_of _ = well

-- how bytes were printed, by the status: all of them, or a prefix
abbrev pub PrintsBy : Option (List ℕ) → Option (List ℕ) → List ℕ → Status → Type 0
PrintsBy old new bytes status.Done = Prints {T = Unit {0}} old new bytes (Ok tt)
PrintsBy old new bytes _ = Prints {T = Unit {0}} old new bytes (Err (record {}))

-- one put was recorded, where the printed bytes are told
abbrev pub PutsOnce : {W : Type 0} → Ghosts W → W → W → Type 0
PutsOnce G before after = IsSome (G.printed before) → (G.moment after).puts ≡ (G.moment before).puts + 1
