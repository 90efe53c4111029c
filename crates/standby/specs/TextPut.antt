-- What putting bytes does to an outside.
use Rattle.std.specs.Prelude.{◌≡◌, ℕ, ◌+◌, List, ◌++◌, take, Option, Result, IfSome, IsSome}
use Rattle.standby.specs.Below.{Failed, Ghosts, IsOnePut, OnlyPuts, Prints}
use Rattle.outside.specs.Moments.{ShowsPrefix}

-- where the bytes printed are told, what was seen is these with a first part of more
abbrev pub SeesPart : (printed : Option (List ℕ)) → (bytes seen : List ℕ) → Type 0
SeesPart printed bytes seen = IfSome printed (λ shown. (count : ℕ) × (seen ≡ shown ++ take count bytes))

-- so many puts were recorded, where the bytes printed are told
abbrev pub CountsPuts : {W : Type 0} → Ghosts W → ℕ → W → W → Type 0
CountsPuts G count old new = IsSome (G.printed old) → (G.moment new).puts ≡ (G.moment old).puts + count

-- These bytes are put by one put, or a prefix of them where it failed, and that only where the screen's count rose. The disk is left alone. A
-- crash since then leaves an image of the start, and what was printed then with a prefix of these bytes.
pub record PutsAtOnce {W T : Type 0} (G : Ghosts W) (bytes : List ℕ) (old new : W) (result : Result T Failed) : Type 0 where
  pub only : OnlyPuts G old new result
  pub printed : Prints (G.printed old) (G.printed new) bytes result
  pub crash : ShowsPrefix bytes G.moment G.left_since old new
  pub once : IsOnePut (G.printed old) (G.moment old) (G.moment new) result
