-- The job that a text is, or its first fault.
use Rattle.std.specs.Prelude.{ℕ, ◌+◌, List, [], ◌∷◌, map, Result, Ok, Err}
use Rattle.job_text.specs.Below.{ArrayVec, Event, text_lines, Parts, parts_of}
use Rattle.job_text.specs.declared.stage.Stage.{Stage}
use Rattle.job_text.specs.declared.stage.Stage.TheVariants.{Ended}
use Rattle.job_text.specs.declared.job.Job.{Job}
use Rattle.job_text.specs.Reading.{Reading, line_read, nothing_read}

-- what a job says: the frames, the names and programs, and the events in order
pub record Content : Type 0 where
  pub frames : ℕ
  pub names : List (List ℕ)
  pub programs : List Parts
  pub events : List Event

-- what a job says
abbrev pub content_of : Job → Content
content_of job = record {
  frames = job.frames;
  names = map (λ (name : ArrayVec ℕ). name.items) job.names.items;
  programs = map parts_of job.programs.items;
  events = job.events.items;
}

-- what has been read at the end of a text; a line that is owed is a fault of kind 10 of the line after the last
abbrev pub whole_job : Stage → Reading → ℕ → Result Content (ℕ × ℕ)
whole_job Ended reading number =
    Ok (record { frames = reading.frames; names = reading.names; programs = reading.programs; events = reading.events })
whole_job _ reading number = Err (number, 10)

-- what stands behind the last line feed: nothing, or a fault of kind 10
abbrev pub last_part : Reading → ℕ → List ℕ → Result Content (ℕ × ℕ)
last_part reading number [] = whole_job reading.stage reading number
last_part reading number (byte ∷ bytes) = Err (number, 10)

-- what a reading gives, if there is one
abbrev pub then_read : (Reading → Result Content (ℕ × ℕ)) → Result Reading (ℕ × ℕ) → Result Content (ℕ × ℕ)
then_read next (Ok reading) = next reading
then_read next (Err fault) = Err fault

-- the job of lines that follow others, of which the first has this number; the last of them is what stands behind the last line feed
unfoldable pub read_from : Reading → ℕ → List (List ℕ) → Result Content (ℕ × ℕ)
read_from reading number [] = Err (number, 10)
read_from reading number (last ∷ []) = last_part reading number last
read_from reading number (line ∷ next ∷ lines) =
    then_read (λ more. read_from more (number + 1) (next ∷ lines)) (line_read reading.stage reading number line)

-- what the job of a text says, or the text's first fault as its line and kind
abbrev pub job_of : List ℕ → Result Content (ℕ × ℕ)
job_of text = read_from nothing_read 1 (text_lines text)
