-- What is laid, statement by statement.
use Rattle.std.specs.Prelude.{◌≡◌, ℕ, ℤ, ◌++◌, List, [], length, take, Bool, Option, slice_index_or, ◌<◌, Result, Ok, Err, None, false, replicate, unwrap_or, MatchResult}
use Rattle.romp_asm.specs.Below.{Body, Statement, at_line}
use Rattle.romp_asm.specs.Labels.{addresses_in, repeated_in, AreAlone}
use Rattle.romp_asm.specs.Layout.{entry_of, has_label_of, image_behind, piece_of, windows_of, entry_after, with_window, assembled}
use Rattle.romp_asm.specs.Size.{size_of, total_size}
use Rattle.romp_asm.specs.Value.{addresses_of}
use Rattle.flat_machine.specs.declared.machine.Window.{Window as Sight}
use Rattle.romp_asm.specs.declared.output.Output.{Output}
use Rattle.romp_asm.specs.declared.value.Scope.{Scope}
use Rattle.flat_machine.specs.declared.machine.Program.{Program}
use Rattle.asm_parse.specs.declared.asm_fault.LineFault.{LineFault}
use Rattle.asm_parse.specs.declared.asm_fault.AsmFault.{AsmFault}
use Rattle.asm_parse.specs.Answers.{IsFaultOf, IsTextFaultOf}

-- the bytes of a statement were laid behind the others, and its entry address or window was noted
pub record Lays (addresses : List ℕ → Option ℤ) (old new : Output) (body : Body) (bytes : List ℕ) : Type 0 where
  pub image : new.image.items ≡ old.image.items ++ bytes
  pub size : length bytes ≡ size_of body
  pub entry : new.entry ≡ entry_after addresses old.entry body
  pub windows : new.windows ≡ with_window old.windows body

-- what a reading of a statement gives was laid
abbrev pub IsLaid : (List ℕ → Option ℤ) → Output → Output → Body → Result (List ℕ) ℕ → Type 0
IsLaid addresses old new body (Ok bytes) = Lays addresses old new body bytes
IsLaid addresses old new body (Err kind) = ⊥

-- bytes before those of statements
abbrev pub image_joined : List ℕ → Result (List ℕ) (ℕ × ℕ) → Result (List ℕ) (ℕ × ℕ)
image_joined image (Ok others) = Ok (image ++ others)
image_joined image (Err fault) = Err fault

-- of all statements some were laid, and the rest is to be laid behind them
pub record LaidTo (all before rest : List Statement) (output : Output) : Type 0 where
  pub so_far : image_joined output.image.items (image_behind all before rest) ≡ image_behind all [] all
  pub size : length output.image.items ≡ total_size before
  pub entry : output.entry ≡ entry_of (addresses_of all) before
  pub windows : output.windows ≡ windows_of before

-- a statement that is read with these addresses, and whether its label is repeated, is another one among all, which stands behind some
pub record IsReadAs (addresses : List ℕ → Option ℤ) (repeated : Bool) (statement : Statement) (all before : List Statement) (named : Statement) : Type 0 where
  pub line : statement.line ≡ named.line
  pub piece : (at : ℕ) (entry : Option ℕ) (windows : List (Option Sight)) → piece_of addresses repeated at entry windows statement.body ≡ piece_of (addresses_of all) (has_label_of before named) at entry windows named.body
  pub size : size_of statement.body ≡ size_of named.body
  pub entry : (entry : Option ℕ) → entry_after addresses entry statement.body ≡ entry_after (addresses_of all) entry named.body
  pub windows : (windows : List (Option Sight)) → with_window windows statement.body ≡ with_window windows named.body

-- statements of a source are others, one by one, which stand behind some
pub record AreReadAs (scope : Scope) (statements all before named : List Statement) : Type 0 where
  pub many : length statements ≡ length named
  pub each : (index : ℕ) (one other : Statement) → index < length statements → one ≡ slice_index_or statements index one → other ≡ slice_index_or named index other → IsReadAs (addresses_in scope) (repeated_in scope.own.now.labels index one) one all (before ++ take index named) other

-- nothing is laid yet, with fifteen windows that are none
pub record IsNothingLaid (output : Output) : Type 0 where
  pub image : output.image.items ≡ []
  pub entry : output.entry ≡ None
  pub windows : output.windows ≡ replicate 15 None

-- the entry address or window of a statement was noted, where it has one
pub record IsNoted (scope : Scope) (body : Body) (old new : Output) : Type 0 where
  pub image : new.image ≡ old.image
  pub entry : new.entry ≡ entry_after (addresses_in scope) old.entry body
  pub windows : new.windows ≡ with_window old.windows body

-- a program is what was laid; without an entry address it begins at 0
pub record IsProgramOf (output : Output) (program : Program) : Type 0 where
  pub image : program.image ≡ output.image.items
  pub entry : program.entry ≡ unwrap_or output.entry 0
  pub windows : program.windows ≡ output.windows

-- a statement was laid behind the others, or there is its fault; it says whether its label stood before
abbrev pub AddsOne : {A : Type 0} → Scope → (repeated : Bool) → Body → (old new : Output) → Result A LineFault → Type 0
AddsOne scope repeated body old new result =
    let reading = piece_of (addresses_in scope) repeated (length old.image.items) old.entry old.windows body in
    MatchResult result (λ _. IsLaid (addresses_in scope) old new body reading) (λ fault. IsFaultOf fault reading)

-- the same of the statement with a number of its source, and its line
abbrev pub LaysOne : {A : Type 0} → Scope → (index : ℕ) → Statement → (old new : Output) → Result A AsmFault → Type 0
LaysOne scope index statement old new result =
    let repeated = repeated_in scope.own.now.labels index statement in
    let reading = piece_of (addresses_in scope) repeated (length old.image.items) old.entry old.windows statement.body in
    MatchResult result (λ _. IsLaid (addresses_in scope) old new statement.body reading) (λ fault. IsTextFaultOf fault (at_line statement.line reading))

-- statements of a source were laid behind others, or there is the fault of all statements
abbrev pub LaysAll : {A : Type 0} → Scope → List Statement → (old new : Output) → Result A AsmFault → Type 0
LaysAll scope statements old new result =
    (all before rest named : List Statement) → AreReadAs scope statements all before named → LaidTo all before (named ++ rest) old
    → MatchResult result (λ _. LaidTo all (before ++ named) rest new) (λ fault. IsTextFaultOf fault (assembled all))

-- no statement's label stands before it, where the table has none twice
abbrev pub MayRepeat : Scope → List Statement → Type 0
MayRepeat scope statements = scope.own.now.repeats ≡ false → AreAlone scope.own.now.labels statements (length statements)

-- the label of the statement with a number doesn't, where the table has none twice
abbrev pub MayRepeatAt : Scope → (index : ℕ) → Statement → Type 0
MayRepeatAt scope index statement = scope.own.now.repeats ≡ false → repeated_in scope.own.now.labels index statement ≡ false
