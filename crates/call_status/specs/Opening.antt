-- What the bytes of a disk say of an opening.
use Rattle.std.specs.Prelude.{◌≡◌, ℕ, ◌⊎◌, List, take, IsSome, IsTrue}
use Rattle.lines.specs.FlatStore.{FlatStore}
use Rattle.outside.specs.declared.world.Outside.{Ghosts}
use Rattle.outside.specs.Bytes.{AreTold}
use Rattle.outside.specs.Runs.{Leaves, held_of}
use Rattle.store_format.specs.Header.{header_of}
use Rattle.store_format.specs.Bank.{Faulty, bank_of}
use Rattle.store_format.specs.Stands.{Stands, NotAStore, Damaged, stands, chosen}

-- the bytes stand for a number and a store
abbrev pub IsStanding : List ℕ → Type 0
IsStanding held = (number : ℕ) × (store : FlatStore) × (stands held ≡ Stands number store)

-- the bytes stand for nothing, from this offset on
abbrev pub IsFaultAt : List ℕ → ℕ → Type 0
IsFaultAt held offset = (stands held ≡ NotAStore offset) ⊎ (stands held ≡ Damaged offset)

-- the bytes held now have this fault in the chosen bank, under the header of the bytes held before
abbrev pub IsFaultSince : (before now : List ℕ) → ℕ → Type 0
IsFaultSince before now offset = bank_of now (header_of (take 128 before)) (chosen now) ≡ Faulty offset

-- An honest disk tells its bytes, and they stand for this number and this store.
pub record TellsStore {W : Type 0} (G : Ghosts W) (outside : W) (number : ℕ) (store : FlatStore) : Type 0 where
  pub honest : IsTrue (G.is_honest outside)
  pub told : IsSome (G.held outside)
  pub stood : stands (held_of G outside) ≡ Stands number store

-- the image is one that a crash leaves at the start, and nothing was printed since
abbrev pub IsOfStart : {W : Type 0} → Ghosts W → W → (image seen : List ℕ) → Type 0
IsOfStart G start image seen = G.left_since start (G.moment start) image seen × AreTold (G.printed start) seen

-- An honest disk tells its bytes, and they and each image of it stand for this number and this store.
pub record StandsAt {W : Type 0} (G : Ghosts W) (outside : W) (number : ℕ) (store : FlatStore) : Type 0 where
  pub honest : IsTrue (G.is_honest outside)
  pub told : IsSome (G.held outside)
  pub stood : stands (held_of G outside) ≡ Stands number store
  pub images : Leaves G (λ image seen. stands image ≡ Stands number store) outside outside
