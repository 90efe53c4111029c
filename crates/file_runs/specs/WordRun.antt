-- What the words were run on, and what came of it.
use Rattle.std.specs.Prelude.{◌≡◌, true, List, [], ◌∷◌, map, slice_index_or, String, string_bytes, ℕ}
use Rattle.console.specs.Below.{Global}
use Rattle.console.specs.Wants.{disk_for}
use Rattle.console.specs.Words.{IsForm}
use Rattle.console.specs.declared.command_words.Command.{Command}
use Rattle.console.specs.declared.command_words.Command.TheVariants as command
use Rattle.console.specs.declared.wants.DiskKind.{DiskKind}
use Rattle.console.specs.declared.wants.DiskKind.TheVariants.{Looked, Changed, Made}
use Rattle.file_runs.specs.Below.{Deed, Ended, Given, StopsAtFailure}
use Rattle.file_runs.specs.FileWords.{DidOnFile, IsOnFile, WhyEnded}
use Rattle.file_runs.specs.ScreenWords.{DidOnScreen}
use Rattle.file_runs.specs.declared.word_run.RanOn.{RanOn}
use Rattle.file_runs.specs.declared.word_run.RanOn.TheVariants.{File, Nothing, Memory}
use Rattle.real_files.specs.declared.std_file.FileUse.{FileUse}
use Rattle.real_files.specs.declared.std_file.FileUse.TheVariants.{Look, Change, Make}
use Rattle.store_calls.specs.TryStore.{try_layout}
use Rattle.store_format.specs.Header.{fresh}

-- the path that the words name is the second of them
abbrev pub path_in : List (String Global) → List ℕ
path_in words = slice_index_or (map string_bytes words) 1 []

-- the file at a path is opened once, to look, to change or to be made; and for the words without a file none is
abbrev pub openings_by : DiskKind → (path : List ℕ) → List (List ℕ × FileUse)
openings_by Looked path = (path, Look) ∷ []
openings_by Changed path = (path, Change) ∷ []
openings_by Made path = (path, Make) ∷ []
openings_by _ path = []

abbrev pub openings_for : Command → (path : List ℕ) → List (List ℕ × FileUse)
openings_for form path = openings_by (disk_for form) path

-- the bytes of the disk in memory: the store of `try`, or none
abbrev pub bytes_for : Command → List ℕ
bytes_for command.Try = fresh try_layout
bytes_for (command.Big transfers) = fresh try_layout
bytes_for _ = []

-- The words were run on a file with these bytes and deeds, which stopped at a failure; on none, since it couldn't be opened; or, where they are words without a
-- file, on a disk in memory that held the bytes for them. In each case why they ended so, and what they did.
abbrev pub RanAs : {F : Type 0} → (first_of : F → List ℕ) (deeds_of : F → List Deed) (words : List (String Global)) → Given → RanOn F → (puts : List Deed) → Ended → Type 0
RanAs first_of deeds_of words given (File file starved) puts ended =
    WhyEnded words given (first_of file) (deeds_of file) puts starved ended × StopsAtFailure (deeds_of file)
    × ((form : Command) → IsForm form words → IsOnFile form × DidOnFile starved form given (first_of file) (deeds_of file) puts ended)
RanAs first_of deeds_of words given Nothing puts ended =
    WhyEnded words given [] [] puts true ended × ((form : Command) → IsForm form words → IsOnFile form × DidOnFile true form given [] [] puts ended)
RanAs first_of deeds_of words given (Memory starved) puts ended =
    (bytes : List ℕ) × WhyEnded words given bytes [] puts starved ended
    × ((form : Command) → IsForm form words → (¬ (IsOnFile form)) × (bytes ≡ bytes_for form) × DidOnScreen starved form given bytes puts ended)
