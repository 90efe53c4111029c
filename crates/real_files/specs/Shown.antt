-- What a list of puts printed.
use Rattle.std.specs.Prelude.{ℕ, ◌+◌, List, [], ◌∷◌, ◌++◌, length}
use Rattle.outside.specs.declared.screen.PutMark.{PutMark}
use Rattle.outside.specs.Clock.{LeftAt}
use Rattle.outside.specs.Moments.{Moment}
use Rattle.real_files.specs.Deeds.{Deed, Wrote, Tore, Synced, Unsynced, file_images_at}

-- the bytes of a put, and its number
abbrev pub bytes_put : Deed → List ℕ
bytes_put (Wrote at bytes) = bytes
bytes_put (Tore at bytes) = bytes
bytes_put Synced = []
bytes_put Unsynced = []

abbrev pub deed_number : Deed → ℕ
deed_number (Wrote at bytes) = at
deed_number (Tore at bytes) = at
deed_number Synced = 0
deed_number Unsynced = 0

-- all bytes
abbrev pub printed_of : List Deed → List ℕ
printed_of [] = []
printed_of (put ∷ puts) = bytes_put put ++ printed_of puts

-- the marks of the puts, behind so many bytes
abbrev pub marks_of : ℕ → List Deed → List PutMark
marks_of before [] = []
marks_of before (put ∷ puts) = record { at = deed_number put; before = before } ∷ marks_of (before + length (bytes_put put)) puts

-- what a crash leaves of a file and a screen: the pairs that follow from the file's deeds and the screen's puts
abbrev pub LeftBy : (first : List ℕ) → (deeds puts : List Deed) → Moment → (image seen : List ℕ) → Type 0
LeftBy first deeds puts = LeftAt (length deeds) (file_images_at first deeds) (marks_of 0 puts) (printed_of puts)
