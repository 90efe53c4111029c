-- What a call of a supervisor keeps of it and of the outside, and what its answer tells of the disk.
use Rattle.std.specs.Prelude.{◌≡◌, ◌↔◌, ℕ, Bool, true, false, List}
use Rattle.desk.specs.Below.{CallsDisk, Ghosts, Header, Program, Rose}
use Rattle.desk.specs.declared.answers.Stored.{Stored}
use Rattle.desk.specs.declared.answers.Stored.TheVariants as stored
use Rattle.desk.specs.declared.answers.Reopened.{Reopened}
use Rattle.desk.specs.declared.answers.Reopened.TheVariants as reopened
use Rattle.desk.specs.Kept.{HoldsStore, StillTold}

-- What only an opening sets: the programs that may begin, by their places, the store's number then, its header, and how many begins there
-- is room for, in all.
pub record Fixed : Type 0 where
  pub programs : List Program
  pub opened : ℕ
  pub header : Header
  pub begins : ℕ

-- only the disk was called, bytes that were told are told, and those are enough for a store with this header
pub record CallsStore {W : Type 0} (G : Ghosts W) (header : Header) (before after : W) : Type 0 where
  pub calls : CallsDisk G before after
  pub told : StillTold G before after
  pub bytes : HoldsStore G header after

-- just one that was closed is told that it is shut, and then all is the same
pub record StaysShut (closed : Bool) (told same : Type 0) : Type 0 where
  pub shut : told ↔ (closed ≡ true)
  pub unchanged : closed ≡ true → same

-- the disk's count of faults rose where the answer tells of a disk that failed, and stayed where it doesn't
abbrev pub FailsCounted : (fails : Bool) → (before after : ℕ) → Type 0
FailsCounted true before after = Rose before after
FailsCounted false before after = after ≡ before

-- whether the answer to a checkpoint tells of a disk that failed
abbrev pub stored_fails : Stored → Bool
stored_fails stored.Closed = true
stored_fails _ = false

-- and that to a crash
abbrev pub reopened_fails : Reopened → Bool
reopened_fails reopened.DiskFault = true
reopened_fails _ = false
