-- What opens files was asked for.
use Rattle.std.specs.Prelude.{ℕ, zero, suc, List, []}
use Rattle.real_files.specs.Deeds.{Deed, Wrote}
use Rattle.real_files.specs.declared.std_file.FileUse.{FileUse}
use Rattle.real_files.specs.declared.std_file.FileUse.TheVariants.{Look, Change, Make}

-- the number of what a file is opened for, and what such a number stands for
abbrev pub use_number : FileUse → ℕ
use_number Look = 0
use_number Change = 1
use_number Make = 2

abbrev pub use_of : ℕ → FileUse
use_of zero = Look
use_of (suc zero) = Change
use_of (suc (suc more)) = Make

-- a note of an opening has the path in the place of bytes, and what for in that of an offset
abbrev pub opening_of : Deed → List ℕ × FileUse
opening_of (Wrote wanted path) = (path, use_of wanted)
opening_of _ = ([], Look)
