-- What a schedule's run needs of a job.
use Rattle.std.specs.Prelude.{◌≡◌, ◌≢◌, ℕ, ◌<◌, ◌≤◌, ◌==◌, ◌||◌, true, List, [], ◌∷◌, length, All}
use Rattle.std.specs.Char.{is_ascii_alphabetic}
use Rattle.job_text.specs.Below.{ArrayVec, Begin, Checkpoint, continues_word, Crash, Event, list_all, Turn}
use Rattle.job_text.specs.declared.job.Job.{Job}

-- a begin is of one of so many programs, and a turn has a limit of at most 1,000,000
abbrev pub IsEventAmong : ℕ → Event → Type 0
IsEventAmong programs (Begin program args) = program < programs
IsEventAmong programs (Turn activation limit) = limit ≤ 1000000
IsEventAmong programs Checkpoint = Unit {0}
IsEventAmong programs Crash = Unit {0}

-- a name: a letter or `_`, and behind it letters, digits and `_`; at most 31 bytes in all
abbrev pub IsName : List ℕ → Type 0
IsName [] = ⊥
IsName (byte ∷ bytes) =
    ((is_ascii_alphabetic byte || byte == 95) ≡ true) × (list_all continues_word bytes ≡ true) × (length (byte ∷ bytes) ≤ 31)

-- no byte of a name is a line feed
abbrev pub NamesHaveNoFeed : Type 0
NamesHaveNoFeed = (name : List ℕ) → IsName name → All (λ byte. byte ≢ 10) name

-- there are 2 to 1,024 frames, each program has a name, names are such as the grammar has, each event can be run, and there are at most 10,000
pub record IsReady (job : Job) : Type 0 where
  pub frames : (2 ≤ job.frames) × (job.frames ≤ 1024)
  pub named : length job.names.items ≡ length job.programs.items
  pub names : All (λ (name : ArrayVec ℕ). IsName name.items) job.names.items
  pub events : All (IsEventAmong (length job.programs.items)) job.events.items
  pub few : length job.events.items ≤ 10000
