-- The job of a text, as its lines are read one after the other.
use Rattle.job_text.proofs.Common.{◌≡◌, ℕ, ◌+◌, ◌<◌, List, [], ◌∷◌, length, Option, Some, None, Result, Ok, refl, sym, ap, ◌∙◌, arith, before_first, take_all, nat_tests, is_feed, text_lines, JobFault, Content, job_of, last_part, read_from, then_read, IsJobFaultOf, Reading, line_read}
use Rattle.asm_parse.specs.Cut.{behind_first}
use Rattle.asm_parse.proofs.TextLemmas.{behind_shorter, cut}

-- a line and what follows it
pub read_line : (reading : Reading) (number : ℕ) (line : List ℕ) (next : List ℕ) (lines others : List (List ℕ)) → others ≡ next ∷ lines → read_from reading number (line ∷ others) ≡ then_read (λ more. read_from more (number + 1) others) (line_read reading.stage reading number line)
unfolding read_from
read_line reading number line next lines others some = rw some refl

-- a text's job by its first line
pub by_line : (reading : Reading) (number : ℕ) (left line behind : List ℕ) → text_lines left ≡ line ∷ text_lines behind → read_from reading number (text_lines left) ≡ then_read (λ more. read_from more (number + 1) (text_lines behind)) (line_read reading.stage reading number line)
by_line reading number left line behind split =
    ap (read_from reading number) split ∙ read_line reading number line _ _ (text_lines behind) (cut is_feed behind)

-- one line more was read
pub line_more : (old new : Reading) (number : ℕ) (left line behind text : List ℕ) → text_lines left ≡ line ∷ text_lines behind → line_read old.stage old number line ≡ Ok new → read_from old number (text_lines left) ≡ job_of text → read_from new (number + 1) (text_lines behind) ≡ job_of text
line_more old new number left line behind text split read so_far = cc (by_line old number left line behind split)

faulty : (next : Reading → Result Content (ℕ × ℕ)) (answer : Result Reading (ℕ × ℕ)) (whole : Result Content (ℕ × ℕ)) (fault : JobFault) → IsJobFaultOf fault answer → then_read next answer ≡ whole → IsJobFaultOf fault whole
faulty next answer whole fault told so_far = grind (arith, nat_tests)

-- a line has a fault
pub line_faulty : (old : Reading) (number : ℕ) (left line behind text : List ℕ) (fault : JobFault) → text_lines left ≡ line ∷ text_lines behind → IsJobFaultOf fault (line_read old.stage old number line) → read_from old number (text_lines left) ≡ job_of text → IsJobFaultOf fault (job_of text)
line_faulty old number left line behind text fault split told so_far =
    faulty (λ more. read_from more (number + 1) (text_lines behind)) (line_read old.stage old number line) (job_of text) fault told (sym (by_line old number left line behind split) ∙ so_far)

-- only what stands behind the last line feed is left
pub last_left : (reading : Reading) (number : ℕ) (left text : List ℕ) → text_lines left ≡ left ∷ [] → read_from reading number (text_lines left) ≡ job_of text → last_part reading number left ≡ job_of text
unfolding read_from
last_left reading number left text split so_far = rw split at so_far

-- the first line, where there is a line feed
pub first_cut : (text line behind : List ℕ) (rest : Option (List ℕ)) → line ≡ before_first is_feed text → rest ≡ behind_first is_feed text → rest ≡ Some behind → text_lines text ≡ line ∷ text_lines behind
first_cut text line behind rest first after some = cut is_feed text ∙ rw (← first, ← after, some) refl

-- what stands behind it is shorter
pub first_shorter : (text behind : List ℕ) (rest : Option (List ℕ)) → rest ≡ behind_first is_feed text → rest ≡ Some behind → length behind < length text
first_shorter text behind rest after some = grind (arith, behind_shorter text rest after)

-- the only part, where there is no line feed
pub only_part : (text : List ℕ) (rest : Option (List ℕ)) → rest ≡ behind_first is_feed text → rest ≡ None → text_lines text ≡ text ∷ []
only_part text rest after none = grind (arith, nat_tests, cut is_feed text, take_all, after, none)
