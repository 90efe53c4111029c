-- Pages in the order in which they came, and chains of places.
use Rattle.std.specs.Prelude.{◌≡◌, ℕ, zero, suc, List, [], ◌∷◌, ◌++◌, slice_index}
use Rattle.lines.specs.Resident.{taken_out}

-- some of so many pages, in the order in which they came
pub record Arrived : Type 0 where
  pub pages : ℕ
  pub order : List ℕ

-- none of them
abbrev pub none_came : ℕ → Arrived
none_came pages = record { pages = pages; order = [] }

-- a page came, last
abbrev pub one_came : Arrived → ℕ → Arrived
one_came arrived page = record arrived { order = arrived.order ++ page ∷ [] }

-- a page is no longer among them
abbrev pub one_left : Arrived → ℕ → Arrived
one_left arrived page = record arrived { order = taken_out (page ∷ []) arrived.order }

-- so many places, from one on, each the next of the one before it
abbrev pub led : List ℕ → ℕ → ℕ → List ℕ
led next zero at = []
led next (suc count) at = at ∷ led next count (slice_index next at)

-- a place is the next of another, and that is the one before it
abbrev pub IsStep : (next before : List ℕ) (from to : ℕ) → Type 0
IsStep next before from to = (slice_index next from ≡ to) × (slice_index before to ≡ from)

-- from one place to another it goes over these, step by step
abbrev pub IsChain : (next before : List ℕ) (from : ℕ) → List ℕ → (to : ℕ) → Type 0
IsChain next before from [] to = IsStep next before from to
IsChain next before from (x ∷ xs) to = IsStep next before from x × IsChain next before x xs to
