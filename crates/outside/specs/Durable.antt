-- What is sure to be on the disk.
use Rattle.std.specs.Prelude.{◌≡◌, ℕ, ◌+◌, List, Some, IsTrue, IsSome}
use Rattle.std.specs.Option.{option_map}
use Rattle.outside.specs.declared.world.Outside.{Ghosts}
use Rattle.outside.specs.Bytes.{written}
use Rattle.outside.specs.Moments.{IsDurable}
use Rattle.outside.specs.Runs.{held_of}

-- the outside is honest and tells its bytes, and a crash leaves them
pub record IsSure {W : Type 0} (G : Ghosts W) (outside : W) : Type 0 where
  pub honest : IsTrue (G.is_honest outside)
  pub told : IsSome (G.held outside)
  pub durable : IsDurable G.moment G.left_since G.held outside

-- what was honest and told its bytes is sure
abbrev pub MakesSure : {W : Type 0} → Ghosts W → W → W → Type 0
MakesSure G old new = IsTrue (G.is_honest old) → IsSome (G.held old) → IsSure G new

-- the bytes are held at the offset and a crash leaves them; one write more succeeded
pub record IsWritten {W : Type 0} (G : Ghosts W) (at : ℕ) (bytes : List ℕ) (old new : W) : Type 0 where
  pub held : G.held new ≡ Some (written (held_of G old) at bytes)
  pub sure : IsSure G new
  pub writes : G.writes new ≡ option_map (λ count. count + 1) (G.writes old)
