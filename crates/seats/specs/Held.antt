-- What one seat holds, page by page: of each page the lines to read and the lines to write.
use Rattle.std.specs.Prelude.{ℕ, ◌<◌, ◌==◌, ◌||◌, not, Bool, List, [], length, fold, sum_by, slice_set, slice_index_or, All}
use Rattle.std.specs.List.{list_any}
use Rattle.lines.specs.Conflicts.{conflicts}
use Rattle.lines.specs.LineSets.{union}
use Rattle.seats.specs.declared.request.Want.{Want}

-- nothing of a page
abbrev pub nothing : List ℕ × List ℕ
nothing = ([], [])

-- what is held of a page
abbrev pub of_page : List (List ℕ × List ℕ) → ℕ → List ℕ × List ℕ
of_page pages page = slice_index_or pages page nothing

-- whether something is held of a page
abbrev pub holds_some : List ℕ × List ℕ → Bool
holds_some held = not (length held.0 == 0) || not (length held.1 == 0)

-- how many lines are held to write, over all pages
abbrev pub write_count : List (List ℕ × List ℕ) → ℕ
write_count pages = sum_by (λ held. length held.1) pages

-- each page of which something is wanted is one of so many
abbrev pub AreWithin : ℕ → List Want → Type 0
AreWithin pages wants = All (λ want. want.page < pages) wants

-- what is held of a page together with what is wanted of it
abbrev pub together : List ℕ × List ℕ → Want → List ℕ × List ℕ
together held want = (union held.0 want.reads, union held.1 want.writes)

-- the wanted page has what is wanted of it too, and the others stay
abbrev pub with_want : List (List ℕ × List ℕ) → Want → List (List ℕ × List ℕ)
with_want pages want = slice_set pages want.page (together (of_page pages want.page) want)

-- the same of each thing that is wanted
abbrev pub with_wants : List (List ℕ × List ℕ) → List Want → List (List ℕ × List ℕ)
with_wants pages wants = fold with_want pages wants

-- whether what is wanted of a page conflicts with what is held of it: it writes a line that is held, or reads one that is
-- held for writing
abbrev pub conflicts_in : Want → List ℕ × List ℕ → Bool
conflicts_in want held = conflicts (record { reads = want.reads; writes = want.writes }) (record { reads = held.0; writes = held.1 })

-- whether that is so of some wanted page
abbrev pub some_conflict : List (List ℕ × List ℕ) → List Want → Bool
some_conflict pages wants = list_any (λ want. conflicts_in want (of_page pages want.page)) wants
