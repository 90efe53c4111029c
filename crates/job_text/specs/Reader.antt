-- What a reader of jobs has read.
use Rattle.std.specs.Prelude.{◌≡◌, ℕ, ◌+◌, if◌then◌else◌, List, length, sum_by, map, Result, Ok, Err, ◌∷◌, ◌<◌}
use Rattle.job_text.specs.Below.{ArrayVec, at_line, linked, parts_of, statement_by, Token, text_lines}
use Rattle.asm_parse.specs.declared.asm_fault.LineFault.{LineFault}
use Rattle.asm_parse.specs.Answers.{IsFaultOf}
use Rattle.job_text.specs.declared.job.JobFault.{JobFault}
use Rattle.job_text.specs.declared.reader.Reader.{Reader}
use Rattle.job_text.specs.declared.stage.Stage.{Stage}
use Rattle.job_text.specs.declared.stage.Stage.TheVariants.{Frames, Programs, Source, Schedule, Ended}
use Rattle.job_text.specs.JobAnswers.{IsJobFaultOf}
use Rattle.job_text.specs.Reading.{Reading, by_tokens, ended_line, frames_line, is_end, is_part, program_ends, programs_line, schedule_line, source_ends, source_goes_on, sources_of}

-- what a reader has read
abbrev pub reading_of : Reader → Reading
reading_of reader = record {
  stage = reader.stage;
  frames = reader.frames;
  names = map (λ (name : ArrayVec ℕ). name.items) reader.names.items;
  programs = map parts_of reader.programs.items;
  sources = reader.sources.items;
  statements = reader.statements;
  events = reader.events.items;
  begins = reader.begins;
}

-- how many statements a reader holds
abbrev pub held : Reader → ℕ
held reader = sum_by (λ source. length source) reader.sources.items + length reader.statements

-- what tokens give where no source line is due
abbrev pub tokens_read : Stage → Reading → List Token → Result Reading ℕ
tokens_read Frames reading tokens = frames_line reading tokens
tokens_read Programs reading tokens = programs_line reading tokens
tokens_read Source reading tokens = Ok reading
tokens_read Schedule reading tokens = schedule_line reading tokens
tokens_read Ended reading tokens = ended_line reading tokens

-- what the tokens of a line between `program` and its `end` give, or the kind of the first that is bad
abbrev pub source_found : Reading → ℕ → Result (List Token) ℕ → Result Reading (ℕ × ℕ)
source_found reading number found =
    if is_end found then program_ends reading (linked (sources_of reading))
    else if is_part found then at_line number (source_ends reading)
    else source_goes_on reading (at_line number (statement_by number found))

-- what the tokens of a line give, by which lines are due
abbrev pub found_read : Stage → Reading → ℕ → Result (List Token) ℕ → Result Reading (ℕ × ℕ)
found_read Frames reading number found = at_line number (by_tokens (frames_line reading) found)
found_read Programs reading number found = at_line number (by_tokens (programs_line reading) found)
found_read Source reading number found = source_found reading number found
found_read Schedule reading number found = at_line number (by_tokens (schedule_line reading) found)
found_read Ended reading number found = at_line number (by_tokens (ended_line reading) found)

-- a reader has read what a line's tokens give, or the fault is theirs
abbrev pub AreTokensRead : {A : Type 0} → Result A LineFault → Reader → Result Reading ℕ → Type 0
AreTokensRead (Ok value) new reading = reading ≡ Ok (reading_of new)
AreTokensRead (Err fault) new reading = IsFaultOf fault reading

-- a reader has read what a line gives, or the fault is the line's
abbrev pub IsReadingOf : {A : Type 0} → Result A JobFault → Reader → Result Reading (ℕ × ℕ) → Type 0
IsReadingOf (Ok value) new reading = reading ≡ Ok (reading_of new)
IsReadingOf (Err fault) new reading = IsJobFaultOf fault reading

-- the lines of a text are a first one and those of the rest, which is shorter
abbrev pub IsCut : (text line rest : List ℕ) → Type 0
IsCut text line rest = (text_lines text ≡ line ∷ text_lines rest) × (length rest < length text)
