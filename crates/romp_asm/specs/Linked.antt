-- The program of several sources, or its first fault.
use Rattle.std.specs.Prelude.{ℕ, nat_lt, if◌then◌else◌, Bool, false, List, [], ◌∷◌, ◌++◌, option_and_then, Option, Some, None, Result, Ok, Err}
use Rattle.romp_asm.specs.Below.{Body, bytes_eq, Export, list_any, option_map, option_map_or, option_or, position_from, Statement}
use Rattle.romp_asm.specs.Layout.{Parts, assembled}
use Rattle.romp_asm.specs.Sources.{defines, joined}

-- the label that a line exports, if it does
abbrev pub exported : Body → Option (List ℕ)
exported (Export label) = Some label
exported _ = None

-- whether a line exports this label
abbrev pub gives : List ℕ → Body → Bool
gives word body = option_map_or (λ label. bytes_eq label word) (exported body) false

-- whether one of these statements exports a label
abbrev pub export : List Statement → List ℕ → Bool
export statements word = list_any (λ statement. gives word statement.body) statements

-- the source that a label means where its own lacks it: the first that exports it, by its number from 0
abbrev pub exporter : List (List Statement) → List ℕ → Option ℕ
exporter sources word = position_from (λ source. export source word) 0 sources

-- the kind of the fault of a line of a source, behind all lines before it: 15 for an export of a label that the source lacks, 16 for one of a label that an earlier line exports, in whichever source
abbrev pub export_kind : (source before : List Statement) → Body → Option ℕ
export_kind source before body =
    option_and_then (λ label. if defines source label then (if export before label then Some 16 else None) else Some 15) (exported body)

-- the first such fault of statements of a source, with its line, behind all lines before them
unfoldable pub fault_among : (source before statements : List Statement) → Option (ℕ × ℕ)
fault_among source before [] = None
fault_among source before (statement ∷ statements) =
    option_or (option_map (λ kind. (statement.line, kind)) (export_kind source before statement.body)) (fault_among source (before ++ statement ∷ []) statements)

-- the first such fault of sources, behind all lines before them
unfoldable pub fault_behind : List Statement → List (List Statement) → Option (ℕ × ℕ)
fault_behind before [] = None
fault_behind before (source ∷ sources) = option_or (fault_among source before source) (fault_behind (before ++ source) sources)

-- a program, where there is no fault of an export; otherwise the fault of the first line that has one, and of that line's the least
abbrev pub with_exports : Option (ℕ × ℕ) → Result Parts (ℕ × ℕ) → Result Parts (ℕ × ℕ)
with_exports None made = made
with_exports (Some fault) (Ok parts) = Err fault
with_exports (Some fault) (Err other) = Err (if nat_lt fault.0 other.0 then fault else other)

-- the parts of the program that sources make, or their first fault as its line and kind
abbrev pub linked : List (List Statement) → Result Parts (ℕ × ℕ)
linked sources = with_exports (fault_behind [] sources) (assembled (joined (exporter sources) sources))
