-- A list that is cut at the first element that passes a test.
use Rattle.std.specs.Prelude.{nat_lt, if◌then◌else◌, Bool, List, length, Option, Some, None}
use Rattle.std.specs.List.{after_first, position_or_len}

-- what stands behind the first element that passes, if there is one
abbrev pub behind_first : {X : Type 0} → (X → Bool) → List X → Option (List X)
behind_first test xs = if nat_lt (position_or_len test xs) (length xs) then Some (after_first test xs) else None
