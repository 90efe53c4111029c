-- Statements as they are kept: those that are a label alone by it, and the others whole.
use Rattle.std.specs.Prelude.{◌≡◌, ℕ, ◌<◌, ◌≤◌, List, length, slice_index_or, Some, None}
use Rattle.std.specs.List.{AllByRecursion}
use Rattle.std.specs.Option.{option_map}
use Rattle.asm_parse.specs.declared.head.Head.{Head}
use Rattle.asm_parse.specs.declared.head.Head.TheVariants.{Bare, Whole}
use Rattle.asm_parse.specs.declared.head.Part.{Part}
use Rattle.asm_parse.specs.declared.statement.Statement.{Statement}
use Rattle.asm_parse.specs.declared.statement.Body.{Body}
use Rattle.asm_parse.specs.declared.statement.Body.TheVariants.{Nothing}

-- the statement that a head stands for, among those that are kept whole
abbrev pub stated_by : List Statement → Head → Statement
stated_by wholes (Bare line label) = record { line = line; label = Some label; body = Nothing }
stated_by wholes (Whole place) = slice_index_or wholes place (record { line = 0; label = None; body = Nothing })

-- a head's statement is one of so many that are kept whole, or needs none
abbrev pub IsHeadKept : ℕ → Head → Type 0
IsHeadKept count (Bare line label) = Unit {0}
IsHeadKept count (Whole place) = place < count

-- nothing is nothing, each head has its statement, and there are no more whole statements than heads
pub record AreHeadsKept (nothing : Body) (wholes : List Statement) (heads : List Head) : Type 0 where
  pub nothing_said : nothing ≡ Nothing
  pub each : AllByRecursion (IsHeadKept (length wholes)) heads
  pub few : length wholes ≤ length heads

-- the statement that these are the parts of
abbrev pub stated : Part → Statement
stated part = record { line = part.line; label = option_map (λ label. label.now) part.label; body = part.body.now }
