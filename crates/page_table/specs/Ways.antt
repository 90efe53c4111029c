-- The two ways of a class, as the list of its pairs.
use Rattle.std.specs.Prelude.{◌==◌, if◌then◌else◌, ℕ, List, ◌++◌, All, map, option_to_list, Option, Some, None}
use Rattle.page_table.specs.declared.tlb_model.Pair.{Pair}
use Rattle.page_table.specs.declared.tlb_model.Ways.{Ways}
use Rattle.page_table.specs.Buffer.{AreApart, ArePlaced}

-- the pairs of a class, the older first
abbrev pub pairs_of : Ways → List Pair
pairs_of ways = option_to_list ways.older ++ option_to_list ways.newer

-- each pair is in the class of its page, and no two are of the same page
pub record AreClasses (classes : List Ways) : Type 0 where
  pub apart : All AreApart (map pairs_of classes)
  pub placed : ArePlaced (map pairs_of classes)

-- a pair, if it isn't of a frame
abbrev pub unless_of : ℕ → Option Pair → Option Pair
unless_of frame None = None
unless_of frame (Some pair) = if pair.frame == frame then None else Some pair

-- the ways of a class without the pairs of a frame
abbrev pub ways_without : ℕ → Ways → Ways
ways_without frame ways = record { older = unless_of frame ways.older; newer = unless_of frame ways.newer }
