-- The program of statements, or their first fault.
use Rattle.std.specs.Prelude.{ℕ, ℤ, ◌+◌, ◌-◌, nat_lt, nat_le, ◌&&◌, ◌||◌, is_some, is_none, if◌then◌else◌, Bool, true, false, List, [], ◌∷◌, ◌++◌, slice_get, slice_set, replicate, fold, unwrap_or, Option, Some, None, Result, Ok, Err}
use Rattle.romp_asm.specs.Below.{Body, Entry, option_map_or, Statement, Window}
use Rattle.flat_machine.specs.declared.machine.Program.{Program}
use Rattle.flat_machine.specs.declared.machine.Window.{Window as Sight}
use Rattle.romp_asm.specs.Size.{size_of, total_size}
use Rattle.romp_asm.specs.Value.{address_of, addresses_of, value_of}
use Rattle.romp_asm.specs.Field.{even_at_most}
use Rattle.romp_asm.specs.Encoding.{encoding_of}

-- what a program is made of: image, entry address, and the windows under registers 1 to 15
pub record Parts : Type 0 where
  pub image : List ℕ
  pub entry : ℕ
  pub windows : List (Option Sight)

-- the parts of a program
abbrev pub parts_of : Program → Parts
parts_of program = record { image = program.image; entry = program.entry; windows = program.windows }

-- an address as a program's entry: even and at most 16,382
abbrev pub entry_by : Result ℤ ℕ → Option ℕ
entry_by (Ok value) = even_at_most 16382 value
entry_by (Err kind) = None

-- the entry address after a statement
abbrev pub entry_after : (List ℕ → Option ℤ) → Option ℕ → Body → Option ℕ
entry_after addresses entry (Entry value) = entry_by (value_of addresses value)
entry_after addresses entry _ = entry

-- the entry address that statements give, if one does
abbrev pub entry_of : (List ℕ → Option ℤ) → List Statement → Option ℕ
entry_of addresses statements = fold (λ entry statement. entry_after addresses entry statement.body) None statements

-- the windows after a statement
abbrev pub with_window : List (Option Sight) → Body → List (Option Sight)
with_window windows (Window register segment write) = slice_set windows (register - 1) (Some (record { segment = segment; write = write }))
with_window windows _ = windows

-- the windows that statements give
abbrev pub windows_of : List Statement → List (Option Sight)
windows_of statements = fold (λ windows statement. with_window windows statement.body) (replicate 15 None) statements

-- whether the place of a window is there and free
abbrev pub is_free : Option (Option Sight) → Bool
is_free (Some place) = is_none place
is_free None = false

-- whether a statement may stand behind these windows: a window's register is 1 to 15 and not used yet, its segment 1 to 3839
abbrev pub takes_window : List (Option Sight) → Body → Bool
takes_window windows (Window register segment write) =
    nat_le 1 register && is_free (slice_get windows (register - 1)) && nat_le 1 segment && nat_le segment 3839
takes_window windows _ = true

-- whether a statement is `.entry`
abbrev pub is_entry : Body → Bool
is_entry (Entry value) = true
is_entry _ = false

-- whether a statement's label stands before it too
abbrev pub has_label_of : List Statement → Statement → Bool
has_label_of before statement = option_map_or (λ label. is_some (address_of before label)) statement.label false

-- the bytes of a statement that stands behind others, once its values are known: kind 8 where it passes 16,384, 9 for a window that may not be
abbrev pub fitted : ℕ → List (Option Sight) → Body → Result (List ℕ) ℕ → Result (List ℕ) ℕ
fitted at windows body (Ok bytes) = if nat_lt 16384 (at + size_of body) then Err 8 else if takes_window windows body then Ok bytes else Err 9
fitted at windows body (Err kind) = Err kind

-- the bytes of a statement at an address, by the addresses of the labels, whether its label is repeated, and the entry and the windows before it; or the least kind of fault that it has, where 5 is a label or `.entry` that is repeated
abbrev pub piece_of : (List ℕ → Option ℤ) → Bool → ℕ → Option ℕ → List (Option Sight) → Body → Result (List ℕ) ℕ
piece_of addresses repeated at entry windows body =
    if repeated || (is_entry body && is_some entry) then Err 5 else fitted at windows body (encoding_of addresses at body)

-- a statement's bytes before those of others; a fault is told with its line
abbrev pub piece_before : ℕ → Result (List ℕ) ℕ → Result (List ℕ) (ℕ × ℕ) → Result (List ℕ) (ℕ × ℕ)
piece_before line (Ok bytes) (Ok others) = Ok (bytes ++ others)
piece_before line (Ok bytes) (Err fault) = Err fault
piece_before line (Err kind) others = Err (line, kind)

-- the bytes of statements that stand behind others, among all; or the first line that has a fault of kinds 5 to 9, and its least kind
unfoldable pub image_behind : List Statement → List Statement → List Statement → Result (List ℕ) (ℕ × ℕ)
image_behind all before [] = Ok []
image_behind all before (statement ∷ statements) =
    piece_before statement.line
    (piece_of (addresses_of all) (has_label_of before statement) (total_size before) (entry_of (addresses_of all) before) (windows_of before) statement.body)
    (image_behind all (before ++ statement ∷ []) statements)

-- the parts of a program with this image
abbrev pub with_image : List Statement → Result (List ℕ) (ℕ × ℕ) → Result Parts (ℕ × ℕ)
with_image all (Ok image) = Ok (record { image = image; entry = unwrap_or (entry_of (addresses_of all) all) 0; windows = windows_of all })
with_image all (Err fault) = Err fault

-- the parts of the program that statements make, or their first fault
abbrev pub assembled : List Statement → Result Parts (ℕ × ℕ)
assembled all = with_image all (image_behind all [] all)
