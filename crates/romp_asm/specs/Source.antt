-- The program of a source.
use Rattle.std.specs.Prelude.{ℕ, List, Result, Ok, Err}
use Rattle.romp_asm.specs.Below.{parsed, Statement}
use Rattle.romp_asm.specs.Layout.{Parts, assembled}

-- the program of statements, if a text has them
abbrev pub then_assembled : Result (List Statement) (ℕ × ℕ) → Result Parts (ℕ × ℕ)
then_assembled (Ok statements) = assembled statements
then_assembled (Err fault) = Err fault

-- the parts of the program that a source makes, or its first fault: the first line with a fault of kinds 1 to 4, and only if there is none the first statement with one of kinds 5 to 9
unfoldable pub source_of : List ℕ → Result Parts (ℕ × ℕ)
source_of text = then_assembled (parsed text)
