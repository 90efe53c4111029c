-- Small cases of each rule, worked out by hand.
use Rattle.lines.proofs.Common.{◌≡◌, refl, ℕ, Bool, true, false, ◌==◌, ◌&&◌, ◌||◌, Some, None, [], ◌∷◌, Lines, conflicts, with_whole_pages, within_page, size, shown_cycle, victim_of}
use Rattle.lines.specs.Access.{permits}
use Rattle.lines.specs.Resident.{brought, taken_out}

-- 3 waits for 1, which waits for 2, which waits for 3
abbrev ring : ℕ → ℕ → Bool
ring from to = (from == 3 && to == 1) || (from == 1 && to == 2) || (from == 2 && to == 3)

three : shown_cycle ring (1 ∷ 2 ∷ 3 ∷ []) 3 ≡ Some (3 ∷ 1 ∷ 2 ∷ 3 ∷ [])
three = refl

three_victim : victim_of (3 ∷ 1 ∷ 2 ∷ 3 ∷ []) ≡ 3
three_victim = refl

-- 4 waits for 1, 2 and 3; 2 and 3 wait for 4, and 1 for nobody
abbrev fork : ℕ → ℕ → Bool
fork from to = (from == 4 && (to == 1 || to == 2 || to == 3)) || ((from == 2 || from == 3) && to == 4)

-- the least that leads back, and no way back
forks : shown_cycle fork (1 ∷ 2 ∷ 3 ∷ 4 ∷ []) 4 ∷ shown_cycle fork (1 ∷ 2 ∷ 3 ∷ 4 ∷ []) 1 ∷ [] ≡ Some (4 ∷ 2 ∷ 4 ∷ []) ∷ None ∷ []
forks = refl

-- a load and a store under each entry: a full one, an unlocked line, a line to read, a line that isn't granted, the entry of another
permitted :
    permits true true true false ∷ permits true true true true
    ∷ permits true true false false ∷ permits true true false true
    ∷ permits true false true false ∷ permits true false true true
    ∷ permits true false false false ∷ permits true false false true
    ∷ permits false true true false ∷ permits false true true true ∷ []
    ≡ true ∷ true ∷ true ∷ false ∷ true ∷ false ∷ false ∷ false ∷ false ∷ false ∷ []
permitted = refl

abbrev reading : ℕ → Lines
reading line = record { reads = line ∷ []; writes = [] }

abbrev writing : ℕ → Lines
writing line = record { reads = []; writes = line ∷ [] }

-- two readers, a writer who meets a reader, and a reader who meets a writer
meetings : conflicts (reading 3) (reading 3) ∷ conflicts (writing 3) (reading 3) ∷ conflicts (reading 3) (writing 3) ∷ [] ≡ false ∷ true ∷ true ∷ []
meetings = refl

-- whether a page is the second
abbrev second : ℕ → Bool
second page = page == 1

abbrev none : ℕ → Bool
none page = false

-- one page, two lines: a writer holds the whole page to read, and no other; its own line alone where the page is fine; and each page by itself
writers :
    conflicts (writing 16) (with_whole_pages none (writing 31))
    ∷ conflicts (writing 32) (with_whole_pages none (writing 31))
    ∷ conflicts (writing 16) (with_whole_pages second (writing 31))
    ∷ conflicts (with_whole_pages second (reading 31)) (with_whole_pages second (writing 31))
    ∷ conflicts (writing 32) (with_whole_pages second (record { reads = []; writes = 31 ∷ 33 ∷ [] })) ∷ []
    ≡ true ∷ false ∷ false ∷ true ∷ true ∷ []
writers = refl

-- what a writer holds of a fine page to read, the lines of a page in order and each once, and how many there are
lines : (with_whole_pages second (writing 31)).reads ∷ within_page 1 (40 ∷ 31 ∷ 16 ∷ 31 ∷ []) ∷ (size (5 ∷ 6 ∷ 5 ∷ []) ∷ []) ∷ [] ≡ (31 ∷ []) ∷ (16 ∷ 31 ∷ []) ∷ (2 ∷ []) ∷ []
lines = refl

-- pages that come in, of at most two or three: the oldest goes out, a touched one stays, there is room; and pages that are taken out
pages : brought 2 [] (5 ∷ 6 ∷ []) 7 ∷ brought 2 (5 ∷ []) (5 ∷ 6 ∷ []) 7 ∷ brought 3 [] (5 ∷ 6 ∷ []) 7 ∷ taken_out (5 ∷ 9 ∷ []) (5 ∷ 6 ∷ []) ∷ []
    ≡ (6 ∷ 7 ∷ []) ∷ (5 ∷ 7 ∷ []) ∷ (5 ∷ 6 ∷ 7 ∷ []) ∷ (6 ∷ []) ∷ []
pages = refl
