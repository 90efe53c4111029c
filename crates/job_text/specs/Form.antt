-- The form of a job's text: which lines stand in it, one after another, and what they say.
use Rattle.std.specs.Prelude.{◌≡◌, ◌⊎◌, ◌↔◌, ℕ, ◌+◌, ◌≤◌, true, List, [], ◌∷◌, ◌++◌, length, map, codes, Some, None, Ok, Err}
use Rattle.job_text.specs.Below.{AllByRecursion, Begin, Checkpoint, Crash, Event, is_label, text_lines, linked, Number, Parts, place_among, Statement, statements_from, Token, tokens, Turn, Word}
use Rattle.job_text.specs.Grammar.{Content, job_of}
use Rattle.job_text.specs.Reading.{four_of, rounds_of}

-- nothing but blanks and a comment
abbrev pub IsBlank : List ℕ → Type 0
IsBlank line = tokens line ≡ Ok []

-- lines of which each is so
abbrev pub AreBlank : List (List ℕ) → Type 0
AreBlank lines = AllByRecursion IsBlank lines

-- this word alone
abbrev pub IsOnly : List ℕ → List ℕ → Type 0
IsOnly word line = tokens line ≡ Ok (Word word ∷ [])

-- no line is `end` or `.part` alone
abbrev pub HaveNoMark : List (List ℕ) → Type 0
HaveNoMark lines = AllByRecursion (λ line. (¬ (IsOnly (codes "end") line)) × (¬ (IsOnly (codes ".part") line))) lines

-- source lines and the statements of their sources, with a `.part` alone between two; the first line has this number
abbrev pub HasSources : (number : ℕ) → (lines : List (List ℕ)) → List (List Statement) → Type 0
HasSources number lines [] = ⊥
HasSources number lines (statements ∷ []) = HaveNoMark lines × (statements_from number lines ≡ Ok statements)
HasSources number lines (statements ∷ next ∷ others) =
    (first : List (List ℕ)) × (mark : List ℕ) × (rest : List (List ℕ)) × (lines ≡ first ++ mark ∷ rest) × HaveNoMark first × (statements_from number first ≡ Ok statements)
    × IsOnly (codes ".part") mark × HasSources (number + length first + 1) rest (next ∷ others)

-- `frames FRAMES`, from 2 to 1,024
pub record IsFramesLine (frames : ℕ) (line : List ℕ) : Type 0 where
  pub says : tokens line ≡ Ok (Word (codes "frames") ∷ Number frames ∷ [])
  pub range : (2 ≤ frames) × (frames ≤ 1024)

-- blank lines, `program NAME`, lines of one to 16 sources whose program these parts are, and `end`; the first line has this number
pub record IsProgram (number : ℕ) (name : List ℕ) (parts : Parts) (lines : List (List ℕ)) : Type 0 where
  pub blank : List (List ℕ)
  pub head : List ℕ
  pub source : List (List ℕ)
  pub last : List ℕ
  pub all : lines ≡ blank ++ (head ∷ source ++ (last ∷ []))
  pub blanks : AreBlank blank
  pub says : tokens head ≡ Ok (Word (codes "program") ∷ Word name ∷ [])
  pub label : is_label name ≡ true
  pub sources : List (List Statement)
  pub parted : HasSources (number + length blank + 1) source sources
  pub few_sources : length sources ≤ 16
  pub makes : linked sources ≡ Ok parts
  pub ends : IsOnly (codes "end") last

-- programs with their names, one after another and behind others, whose names are no names of theirs; then blank lines
abbrev pub HasPrograms : (others : List (List ℕ)) → (number : ℕ) → (names : List (List ℕ)) → List Parts → (lines : List (List ℕ)) → Type 0
HasPrograms others number [] [] lines = AreBlank lines
HasPrograms others number (name ∷ names) (parts ∷ programs) lines =
    (first : List (List ℕ)) × (rest : List (List ℕ)) × (lines ≡ first ++ rest) × IsProgram number name parts first × (place_among others name ≡ None)
    × HasPrograms (others ++ name ∷ []) (number + length first) names programs rest
HasPrograms others number _ _ lines = ⊥

-- `begin NAME v ..`: a known program and none to four values
pub record IsBeginLine (names : List (List ℕ)) (found : List Token) (events : List Event) : Type 0 where
  pub name : List ℕ
  pub program : ℕ
  pub values : List ℕ
  pub says : found ≡ Word (codes "begin") ∷ Word name ∷ map Number values
  pub label : is_label name ≡ true
  pub known : place_among names name ≡ Some program
  pub few : length values ≤ 4
  pub gives : events ≡ Begin program (four_of values) ∷ []

-- a limit of instructions
abbrev pub IsLimit : ℕ → Type 0
IsLimit limit = (1 ≤ limit) × (limit ≤ 1000000)

-- `turn ACTIVATION ROWS`: an activation of one of so many begins before
pub record IsTurn (begins : ℕ) (found : List Token) (events : List Event) : Type 0 where
  pub activation : ℕ
  pub limit : ℕ
  pub says : found ≡ Word (codes "turn") ∷ Number activation ∷ Number limit ∷ []
  pub known : (1 ≤ activation) × (activation ≤ begins)
  pub small : IsLimit limit
  pub gives : events ≡ Turn activation limit ∷ []

-- `drain ROUNDS ROWS`: so many rounds of a turn for each of the begins before
pub record IsDrain (begins : ℕ) (found : List Token) (events : List Event) : Type 0 where
  pub rounds : ℕ
  pub limit : ℕ
  pub says : found ≡ Word (codes "drain") ∷ Number rounds ∷ Number limit ∷ []
  pub some : (1 ≤ rounds) × (rounds ≤ 10000)
  pub small : IsLimit limit
  pub gives : events ≡ rounds_of limit begins rounds

-- `checkpoint` or `crash`
abbrev pub IsSingle : List Token → List Event → Type 0
IsSingle found events =
    ((found ≡ Word (codes "checkpoint") ∷ []) × (events ≡ Checkpoint ∷ []))
    ⊎ ((found ≡ Word (codes "crash") ∷ []) × (events ≡ Crash ∷ []))

-- a line of the schedule that is no begin: blank, a turn, a drain or a single word
abbrev pub IsNoBegin : (begins : ℕ) → List Token → List Event → Type 0
IsNoBegin begins found events = ((found ≡ []) × (events ≡ [])) ⊎ IsTurn begins found events ⊎ IsDrain begins found events ⊎ IsSingle found events

-- a line of the schedule and its events, where so many begins stand before it and so many behind
abbrev pub IsEventLine : (names : List (List ℕ)) → (begins after : ℕ) → List Token → List Event → Type 0
IsEventLine names begins after found events =
    (IsBeginLine names found events × (after ≡ begins + 1)) ⊎ (IsNoBegin begins found events × (after ≡ begins))

-- lines of a schedule and their events in order, where so many begins stand before
abbrev pub HasEvents : (names : List (List ℕ)) → (begins : ℕ) → (lines : List (List ℕ)) → List Event → Type 0
HasEvents names begins [] events = events ≡ []
HasEvents names begins (line ∷ lines) events =
    (found : List Token) × (here : List Event) × (later : List Event) × (after : ℕ) × (tokens line ≡ Ok found) × (events ≡ here ++ later)
    × IsEventLine names begins after found here × HasEvents names after lines later

-- a text and the job that it is: frames, programs, `schedule`, events and `end`, with blank lines everywhere, and a line feed behind the last line
pub record IsJobText (text : List ℕ) (content : Content) : Type 0 where
  pub blank : List (List ℕ)
  pub frames_line : List ℕ
  pub program_lines : List (List ℕ)
  pub schedule_line : List ℕ
  pub event_lines : List (List ℕ)
  pub end_line : List ℕ
  pub tail : List (List ℕ)
  pub all : text_lines text ≡ blank ++ (frames_line ∷ program_lines ++ (schedule_line ∷ event_lines ++ (end_line ∷ tail ++ ([] ∷ []))))
  pub blanks : AreBlank blank
  pub frames : IsFramesLine content.frames frames_line
  pub programs : HasPrograms [] (length blank + 2) content.names content.programs program_lines
  pub few_programs : length content.names ≤ 64
  pub schedule : IsOnly (codes "schedule") schedule_line
  pub events : HasEvents content.names 0 event_lines content.events
  pub few_events : length content.events ≤ 10000
  pub ends : IsOnly (codes "end") end_line
  pub tail_blanks : AreBlank tail

-- a text is a job exactly where it has the form of one, and then it is that job
abbrev pub JobsHaveTheirForm : Type 0
JobsHaveTheirForm = (text : List ℕ) (content : Content) → (job_of text ≡ Ok content) ↔ IsJobText text content

-- a fault ends the reading: it is kind 10 of what stands behind a text's last line feed, or each text that begins with all its lines has it
abbrev pub FaultsEndTheReading : Type 0
FaultsEndTheReading =
    (text other : List ℕ) (lines more : List (List ℕ)) (last next : List ℕ) (fault : ℕ × ℕ) → text_lines text ≡ lines ++ (last ∷ []) → text_lines other ≡ lines ++ (next ∷ more) → job_of text ≡ Err fault
    → (fault ≡ (length lines + 1, 10)) ⊎ (job_of other ≡ Err fault)
