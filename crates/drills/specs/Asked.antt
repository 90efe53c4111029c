-- What was asked of a disk while something happened, by what its deeds leave of the bytes that it held first.
use Rattle.std.specs.Prelude.{◌≡◌, ℕ, ◌<◌, ◌≤◌, List, [], ◌∷◌, ◌++◌, length}
use Rattle.desk.specs.Asked.{EventAsks}
use Rattle.desk.specs.Run.{Happening}
use Rattle.outside.specs.Deeds.{Deed, Synced, Tore, Wrote}

-- What was asked behind earlier deeds while these happened, in order: each asks by the bytes that the deeds before it left.
abbrev pub HappenedAsks : (left : List Deed → List ℕ) (earlier : List Deed) → List Happening → (later : List Deed) → Type 0
HappenedAsks left earlier [] later = later ≡ []
HappenedAsks left earlier (one ∷ others) later =
    (here rest : List Deed) × (later ≡ here ++ rest) × EventAsks (left earlier) one here × HappenedAsks left (earlier ++ here) others rest

-- the same of all deeds: one sync opens the store, and behind it stands what happened asks
abbrev pub OpenedWith : (left : List Deed → List ℕ) (deeds : List Deed) → List Happening → Type 0
OpenedWith left deeds these = (later : List Deed) × (deeds ≡ Synced ∷ later) × HappenedAsks left (Synced ∷ []) these later

-- a write has bytes, and lies behind a header
abbrev pub WritesSome : Deed → Type 0
WritesSome (Wrote at bytes) = (128 ≤ at) × (0 < length bytes)
WritesSome (Tore at bytes) = (128 ≤ at) × (0 < length bytes)
WritesSome _ = Unit {0}

-- so does each of these
abbrev pub AreSome : List Deed → Type 0
AreSome [] = Unit {0}
AreSome (deed ∷ deeds) = WritesSome deed × AreSome deeds
