-- What calls of a disk that may write keep, and a body behind a gate.
use Rattle.std.specs.Prelude.{◌≡◌, ℕ, ◌+◌, ◌≤◌, List, length, Option, Some, IsSome, IsTrue, Result, OnOk, ◌==◌, Bool, true, false, take, drop, slice_index, [], ◌∷◌}
use Rattle.store.specs.Below.{Carries, sure_deeds, Wrote, CallsDisk, CountsWrite, Failed, FailsOnlyCounted, ForSome, Ghosts, Leaves, LeavesStep, option_map, Torn, Writes, held_of, IsSure, IsWritten}

-- where the bytes are told, at least so many are held
abbrev pub HoldsAtLeast : {W : Type 0} → Ghosts W → ℕ → W → Type 0
HoldsAtLeast G count outside = ForSome (G.held outside) (λ bytes. count ≤ length bytes)

-- a number that is told stays told, and rises by at least so much
abbrev pub IsMoreBy : ℕ → Option ℕ → Option ℕ → Type 0
IsMoreBy count old new = (before : ℕ) → old ≡ Some before → (now : ℕ) × (new ≡ Some now) × (before + count ≤ now)

-- calls that ask the disk and write it: told bytes stay told and get no fewer, and the number of writes doesn't fall
pub record OnlyWrites {W : Type 0} (G : Ghosts W) (old new : W) : Type 0 where
  pub calls : CallsDisk G old new
  pub told : IsSome (G.held old) → IsSome (G.held new)
  pub longer : (count : ℕ) → HoldsAtLeast G count old → HoldsAtLeast G count new
  pub writes : IsMoreBy 0 (G.writes old) (G.writes new)

-- one write of these bytes at an offset
pub record WritesOnce {W : Type 0} (G : Ghosts W) {T : Type 0} (at : ℕ) (bytes : List ℕ) (old new : W) (result : Result T Failed) : Type 0 where
  pub only : OnlyWrites G old new
  pub written : Writes (G.held old) (G.held new) at bytes result
  pub counted : CountsWrite (G.writes old) (G.writes new) result
  pub crash : IsTrue (G.is_honest old) → IsSome (G.held old) → LeavesStep (Torn at (length bytes)) G.moment G.left_since old new
  pub cause : FailsOnlyCounted (G.disk_faults old) (G.disk_faults new) result
  pub deeds : Carries (G.deeds old) (G.deeds new) (Wrote at bytes ∷ []) result

-- So many bytes are written over such that are held, and where nothing fails they are sure. From the start on a crash may leave anything in their range.
pub record WritesSure {W : Type 0} (G : Ghosts W) {T : Type 0} (at : ℕ) (bytes : List ℕ) (old new : W) (result : Result T Failed) : Type 0 where
  pub only : OnlyWrites G old new
  pub crash : IsSure G old → Leaves G (λ image seen. Torn at (length bytes) (held_of G old) image) old new
  pub done : OnOk result (IsSure G old → IsWritten G at bytes old new)
  pub writes : OnOk result (G.writes new ≡ option_map (λ count. count + 1) (G.writes old))
  pub cause : FailsOnlyCounted (G.disk_faults old) (G.disk_faults new) result
  pub deeds : Carries (G.deeds old) (G.deeds new) (sure_deeds at bytes) result

-- whether the gate at an offset is open
abbrev pub is_open : ℕ → List ℕ → Bool
is_open gate image = slice_index image gate == 0xA5

-- the body stands behind the gate
abbrev pub HasBody : ℕ → List ℕ → List ℕ → Type 0
HasBody gate body image = take (length body) (drop (gate + 1) image) ≡ body

-- the bytes are sure, with this gate shut
pub record IsGateShut {W : Type 0} (G : Ghosts W) (gate : ℕ) (outside : W) : Type 0 where
  pub sure : IsSure G outside
  pub shut : is_open gate (held_of G outside) ≡ false

-- The image is the old one but for the gate and the range of the body, and an open gate has the whole body behind it.
pub record IsSafe (gate : ℕ) (body old image : List ℕ) : Type 0 where
  pub front : take gate image ≡ take gate old
  pub behind : drop (gate + 1 + length body) image ≡ drop (gate + 1 + length body) old
  pub long : length image ≡ length old
  pub whole : is_open gate image ≡ true → HasBody gate body image

-- the gate is open on the disk, with the body behind it
pub record IsGateOpen {W : Type 0} (G : Ghosts W) (gate : ℕ) (body : List ℕ) (old new : W) : Type 0 where
  pub sure : IsSure G new
  pub safe : IsSafe gate body (held_of G old) (held_of G new)
  pub shown : is_open gate (held_of G new) ≡ true
