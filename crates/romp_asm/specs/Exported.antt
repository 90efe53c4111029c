-- What is kept of exports.
use Rattle.std.specs.Prelude.{◌≡◌, ℕ, List, [], Option, is_some, length, Bool, ◌++◌, if◌then◌else◌, ◌∷◌, Some, None}
use Rattle.romp_asm.specs.Below.{BTreeMap, option_map, Statement, option_or, bytes_eq}
use Rattle.romp_asm.specs.Labels.{LabelKey, found_in}
use Rattle.romp_asm.specs.Sources.{defines}
use Rattle.romp_asm.specs.Linked.{exporter, fault_behind}
use Rattle.romp_asm.specs.declared.exports.Exports.{Exports}
use Rattle.romp_asm.specs.declared.exports.ExportFault.{ExportFault}

-- a fault as its line and kind
abbrev pub export_told : Option ExportFault → Option (ℕ × ℕ)
export_told fault = option_map (λ fault. (fault.line, fault.kind)) fault

-- they are the exports of sources
pub record AreExports (exports : Exports) (sources : List (List Statement)) : Type 0 where
  pub givers : (word : List ℕ) → found_in exports.givers word ≡ exporter sources word
  pub fault : export_told exports.fault ≡ fault_behind [] sources

-- a set has the labels of statements
abbrev pub HasLabels : {V : Type 0} → BTreeMap LabelKey V → List Statement → Type 0
HasLabels labels statements = (word : List ℕ) → is_some (found_in labels word) ≡ defines statements word

-- the exports of a source were added to those of as many sources as its number
abbrev pub AddsExports : (source : ℕ) → List Statement → (old new : Exports) → Type 0
AddsExports source statements old new =
    (before : List (List Statement)) → length before ≡ source → AreExports old before → AreExports new (before ++ statements ∷ [])

-- a label is given by a source, unless an earlier one gives it
abbrev pub Gives : (source : ℕ) → (label : List ℕ) → (old new : BTreeMap LabelKey ℕ) → Type 0
Gives source label old new = (word : List ℕ) → found_in new word ≡ option_or (found_in old word) (if bytes_eq label word then Some source else None)

-- why a line can't export a label: its source lacks it, or an earlier line exports it
abbrev pub export_fault : (line : ℕ) → (known again : Bool) → Option (ℕ × ℕ)
export_fault line known again = if known then (if again then Some (line, 16) else None) else Some (line, 15)

-- the first fault of exports after that of a label by a line, by the labels of its source
abbrev pub Faults : {V : Type 0} → BTreeMap LabelKey V → (line : ℕ) → (label : List ℕ) → (old new : Exports) → Type 0
Faults labels line label old new =
    export_told new.fault ≡ option_or (export_told old.fault) (export_fault line (is_some (found_in labels label)) (is_some (found_in old.givers label)))
