-- What a call was given, and how it ended.
use Rattle.std.specs.Prelude.{ℕ, List, Option}
use Rattle.outside.specs.declared.source.Source as source
use Rattle.call_status.specs.declared.status.Status.{Status}

-- what a call was given of a source: the bytes that the source had left at its start and has now, where they are told, and its counts of faults
pub record Given : Type 0 where
  pub left : Option (List ℕ)
  pub left_now : Option (List ℕ)
  pub faults : ℕ
  pub faults_now : ℕ

-- how a call ended: the disk and the screen at its start and now, the commits that it answers, in order, and its status
pub record Called (W : Type 0) : Type 0 where
  pub before : W
  pub after : W
  pub order : List (ℕ × ℕ)
  pub status : Status

-- what was given of a source from one state of it to another
abbrev pub given : {S : Type 0} → source.Ghosts S → S → S → Given
given S before now = record { left = S.left before; left_now = S.left now; faults = S.faults before; faults_now = S.faults now }

-- a call that found this and left that, with these commits and this status
abbrev pub call : {W : Type 0} → W → W → List (ℕ × ℕ) → Status → Called W
call before after order status = record { before = before; after = after; order = order; status = status }
