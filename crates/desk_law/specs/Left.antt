-- What a crash leaves of a run.
use Rattle.std.specs.Prelude.{◌≡◌, ℕ, ◌+◌, ◌≤◌, false, List, [], ◌∷◌, ◌++◌, length, map, take}
use Rattle.desk_law.specs.Below.{commits_seen, Desk, Doubt, Event, IsRunOf, Program, run, standing_of, stands, DiskWord}

-- the last of these events ended in doubt
abbrev pub EndsInDoubt : List (Event × DiskWord) → Type 0
EndsInDoubt taken = (front : List (Event × DiskWord)) × (event : Event) × (taken ≡ front ++ (event, Doubt) ∷ [])

-- A crash in a run left this image. There is a run of the first of its events, all of whose desks are open, and whose order is the first part
-- of the run's. The image stands for where that run ends.
pub record IsStage (programs : List Program) (number : ℕ) (start : Desk) (taken : List (Event × DiskWord)) (image : List ℕ) : Type 0 where
  pub stage : List (Event × DiskWord)
  pub after : List Event
  pub is_run : IsRunOf programs (map (λ event. event.0) taken) start stage after
  pub still_open : (run programs stage start).closed ≡ false
  pub later : List (ℕ × ℕ)
  pub order_is : (run programs stage start).order ++ later ≡ (run programs taken start).order
  pub stood : stands image ≡ standing_of number (run programs stage start)

-- And these printed bytes, of which some stood before the run. What was printed since is the first part of the run's text, and has a commit line
-- for each commit of the stage, or for all but its last.
pub record IsLeft (programs : List Program) (number : ℕ) (start : Desk) (taken : List (Event × DiskWord)) (text printed image seen : List ℕ) : Type 0 where
  pub at : IsStage programs number start taken image
  pub count : ℕ
  pub seen_is : seen ≡ printed ++ take count text
  pub told : length start.order + commits_seen (take count text) ≤ length (run programs at.stage start).order
  pub most : length (run programs at.stage start).order ≤ length start.order + commits_seen (take count text) + 1
