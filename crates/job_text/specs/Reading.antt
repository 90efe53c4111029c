-- What has been read of a job's text, line by line.
use Rattle.std.specs.Prelude.{ℕ, ◌+◌, ◌*◌, zero, suc, nat_lt, nat_le, ◌&&◌, is_some, if◌then◌else◌, Bool, false, List, [], ◌∷◌, ◌++◌, length, slice_index, codes, Option, Some, None, Result, Ok, Err}
use Rattle.job_text.specs.Below.{at_line, Begin, bytes_eq, Checkpoint, Crash, Event, is_label, line_meaning, linked, Number, Parts, place_among, Statement, Token, tokens, Turn, Word}
use Rattle.job_text.specs.declared.stage.Stage.{Stage}
use Rattle.job_text.specs.declared.stage.Stage.TheVariants.{Frames, Programs, Source, Schedule, Ended}

-- what has been read: which lines are due, the frames, the names and programs so far, of the program that is being read the statements of each source that has ended and those of the one at hand, the events so far and how many of them are begins
pub record Reading : Type 0 where
  pub stage : Stage
  pub frames : ℕ
  pub names : List (List ℕ)
  pub programs : List Parts
  pub sources : List (List Statement)
  pub statements : List Statement
  pub events : List Event
  pub begins : ℕ

-- nothing has been read
abbrev pub nothing_read : Reading
nothing_read = record { stage = Frames; frames = 0; names = []; programs = []; sources = []; statements = []; events = []; begins = 0 }

-- `frames FRAMES`, from 2 to 1,024
abbrev pub frames_line : Reading → List Token → Result Reading ℕ
frames_line reading [] = Ok reading
frames_line reading (Word word ∷ Number count ∷ []) =
    if bytes_eq word (codes "frames")
    then (if nat_le 2 count && nat_le count 1024 then Ok (record reading { stage = Programs; frames = count }) else Err 11)
    else Err 10
frames_line reading _ = Err 10

-- a program of a name that begins; 13 is a name that stands already, 11 a 65th program
abbrev pub program_begins : Reading → List ℕ → Result Reading ℕ
program_begins reading name =
    if is_some (place_among reading.names name) then Err 13
    else if nat_lt (length reading.names) 64
    then Ok (record reading { stage = Source; names = reading.names ++ name ∷ []; sources = []; statements = [] })
    else Err 11

-- `program NAME` or `schedule`
abbrev pub programs_line : Reading → List Token → Result Reading ℕ
programs_line reading [] = Ok reading
programs_line reading (Word word ∷ []) = if bytes_eq word (codes "schedule") then Ok (record reading { stage = Schedule }) else Err 10
programs_line reading (Word word ∷ Word name ∷ []) =
    if bytes_eq word (codes "program") && is_label name then program_begins reading name else Err 10
programs_line reading _ = Err 10

-- whether a line is `end` alone
abbrev pub is_end : Result (List Token) ℕ → Bool
is_end (Ok (Word word ∷ [])) = bytes_eq word (codes "end")
is_end _ = false

-- whether a line is `.part` alone
abbrev pub is_part : Result (List Token) ℕ → Bool
is_part (Ok (Word word ∷ [])) = bytes_eq word (codes ".part")
is_part _ = false

-- a source ends and the next begins; a `.part` with which 16 sources are passed is kind 11
abbrev pub source_ends : Reading → Result Reading ℕ
source_ends reading =
    if nat_lt (length reading.sources) 15 then Ok (record reading { sources = reading.sources ++ reading.statements ∷ []; statements = [] }) else Err 11

-- the sources of the program that is being read
abbrev pub sources_of : Reading → List (List Statement)
sources_of reading = reading.sources ++ reading.statements ∷ []

-- a program at its `end`
abbrev pub program_ends : Reading → Result Parts (ℕ × ℕ) → Result Reading (ℕ × ℕ)
program_ends reading (Ok parts) = Ok (record reading { stage = Programs; programs = reading.programs ++ parts ∷ []; sources = []; statements = [] })
program_ends reading (Err fault) = Err fault

-- a source line of a program
abbrev pub source_goes_on : Reading → Result (Option Statement) (ℕ × ℕ) → Result Reading (ℕ × ℕ)
source_goes_on reading (Ok (Some statement)) = Ok (record reading { statements = reading.statements ++ statement ∷ [] })
source_goes_on reading (Ok None) = Ok reading
source_goes_on reading (Err fault) = Err fault

-- a line between `program` and its `end`
abbrev pub source_line : Reading → ℕ → List ℕ → Result Reading (ℕ × ℕ)
source_line reading number line =
    if is_end (tokens line) then program_ends reading (linked (sources_of reading))
    else if is_part (tokens line) then at_line number (source_ends reading)
    else source_goes_on reading (at_line number (line_meaning number line))

-- one event more; with more than 10,000 it is kind 11
abbrev pub with_event : Reading → Event → Result Reading ℕ
with_event reading event =
    if nat_lt (length reading.events) 10000 then Ok (record reading { events = reading.events ++ event ∷ [] }) else Err 11

-- the values of a begin: none to four numbers
abbrev pub values_of : List Token → Option (List ℕ)
values_of [] = Some []
values_of (Number a ∷ []) = Some (a ∷ [])
values_of (Number a ∷ Number b ∷ []) = Some (a ∷ b ∷ [])
values_of (Number a ∷ Number b ∷ Number c ∷ []) = Some (a ∷ b ∷ c ∷ [])
values_of (Number a ∷ Number b ∷ Number c ∷ Number d ∷ []) = Some (a ∷ b ∷ c ∷ d ∷ [])
values_of _ = None

-- four values, of which those that don't stand are 0
abbrev pub four_of : List ℕ → List ℕ
four_of values = slice_index values 0 ∷ slice_index values 1 ∷ slice_index values 2 ∷ slice_index values 3 ∷ []

-- a begin of a program; an unknown one is kind 12
abbrev pub begin_of : Reading → List ℕ → Option ℕ → Result Reading ℕ
begin_of reading values (Some program) = with_event (record reading { begins = reading.begins + 1 }) (Begin program (four_of values))
begin_of reading values None = Err 12

-- `begin NAME v ..`
abbrev pub begin_line : Reading → List ℕ → Option (List ℕ) → Result Reading ℕ
begin_line reading name (Some values) = begin_of reading values (place_among reading.names name)
begin_line reading name None = Err 10

-- whether a number is a turn's limit
abbrev pub is_limit : ℕ → Bool
is_limit limit = nat_le 1 limit && nat_le limit 1000000

-- `turn ACTIVATION ROWS`: 14 where the activation is 0 or above the begins so far, 11 where the rows are out of their range
abbrev pub turn_line : Reading → ℕ → ℕ → Result Reading ℕ
turn_line reading activation limit =
    if nat_le 1 activation && nat_le activation reading.begins
    then (if is_limit limit then with_event reading (Turn activation limit) else Err 11)
    else Err 14

-- a turn with this limit for each activation from 1 to a number
unfoldable pub turns_to : ℕ → ℕ → List Event
turns_to limit zero = []
turns_to limit (suc n) = turns_to limit n ++ Turn (n + 1) limit ∷ []

-- so many rounds of a turn for each activation from 1 to a number
unfoldable pub rounds_of : ℕ → ℕ → ℕ → List Event
rounds_of limit n zero = []
rounds_of limit n (suc rounds) = rounds_of limit n rounds ++ turns_to limit n

-- `drain ROUNDS ROWS`, written out; 11 where a number is out of its range or 10,000 events are passed
abbrev pub drain_line : Reading → ℕ → ℕ → Result Reading ℕ
drain_line reading rounds limit =
    if nat_le 1 rounds && nat_le rounds 10000 && is_limit limit && nat_le (length reading.events + rounds * reading.begins) 10000
    then Ok (record reading { events = reading.events ++ rounds_of limit reading.begins rounds })
    else Err 11

-- `end`, `checkpoint` or `crash`
abbrev pub single_line : Reading → List ℕ → Result Reading ℕ
single_line reading word =
    if bytes_eq word (codes "end") then Ok (record reading { stage = Ended })
    else if bytes_eq word (codes "checkpoint") then with_event reading Checkpoint
    else if bytes_eq word (codes "crash") then with_event reading Crash
    else Err 10

-- an event, or the `end` of the schedule
abbrev pub schedule_line : Reading → List Token → Result Reading ℕ
schedule_line reading [] = Ok reading
schedule_line reading (Word word ∷ []) = single_line reading word
schedule_line reading (Word word ∷ Number first ∷ Number second ∷ []) =
    if bytes_eq word (codes "turn") then turn_line reading first second
    else if bytes_eq word (codes "drain") then drain_line reading first second
    else Err 10
schedule_line reading (Word word ∷ Word name ∷ values) =
    if bytes_eq word (codes "begin") && is_label name then begin_line reading name (values_of values) else Err 10
schedule_line reading _ = Err 10

-- nothing behind the schedule's `end`
abbrev pub ended_line : Reading → List Token → Result Reading ℕ
ended_line reading [] = Ok reading
ended_line reading _ = Err 10

-- what a line's tokens give; a bad one makes the line one of another form
abbrev pub by_tokens : (List Token → Result Reading ℕ) → Result (List Token) ℕ → Result Reading ℕ
by_tokens meaning (Ok found) = meaning found
by_tokens meaning (Err kind) = Err 10

-- the kind of a line whose token is bad: the token's between `program` and its `end`, and otherwise that of another form
abbrev pub bad_token : Stage → ℕ → ℕ
bad_token Source kind = kind
bad_token _ kind = 10

-- what has been read after one line more, or the fault that it has
abbrev pub line_read : Stage → Reading → ℕ → List ℕ → Result Reading (ℕ × ℕ)
line_read Frames reading number line = at_line number (by_tokens (frames_line reading) (tokens line))
line_read Programs reading number line = at_line number (by_tokens (programs_line reading) (tokens line))
line_read Source reading number line = source_line reading number line
line_read Schedule reading number line = at_line number (by_tokens (schedule_line reading) (tokens line))
line_read Ended reading number line = at_line number (by_tokens (ended_line reading) (tokens line))
