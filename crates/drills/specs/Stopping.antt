-- A disk in memory that stops within one of its writes, and fails at nothing else.
use Rattle.std.specs.Prelude.{◌≡◌, ℕ, ◌+◌, ◌^◌, ◌<◌, ◌≤◌, Bool, true, false, List, [], ◌∷◌, ◌++◌, length, take, count_by, Option, None, Some}
use Rattle.drills.specs.Below.{disk_faults, disk_first, disk_held, disk_plan, disk_writes, is_disk_starved, MemoryDisk, outcome_of, DiskPlan}
use Rattle.outside.specs.Bytes.{written}
use Rattle.outside.specs.Deeds.{Deed, Tore}
use Rattle.real_files.specs.Deeds.{deed_failed, deed_writes, file_by}

-- What a deed leaves of the bytes before it: a write that failed has left the outcome at the front of its range, cut to its bytes; and any other what it
-- leaves of a file.
abbrev pub left_by : (outcome : List ℕ) → Deed → (held : List ℕ) → List ℕ
left_by outcome (Tore at bytes) held = written held at (take (length bytes) outcome)
left_by outcome deed held = file_by deed held

-- the same of these, in order
abbrev pub left_after : (outcome held : List ℕ) → List Deed → List ℕ
left_after outcome held [] = held
left_after outcome held (deed ∷ deeds) = left_after outcome (left_by outcome deed held) deeds

-- The write with this number failed, and was the last of what was asked; in front of it nothing failed, and one write fewer was made.
pub record AreStopped (write : ℕ) (deeds : List Deed) : Type 0 where
  pub front : List Deed
  pub at : ℕ
  pub bytes : List ℕ
  pub deeds_are : deeds ≡ front ++ Tore at bytes ∷ []
  pub well : count_by deed_failed front ≡ 0
  pub number : count_by deed_writes front + 1 ≡ write

-- nothing failed, and fewer writes than this number were made
pub record AreFewer (write : ℕ) (deeds : List Deed) : Type 0 where
  pub well : count_by deed_failed deeds ≡ 0
  pub fewer : count_by deed_writes deeds < write

-- the number of the write at which a disk is to stop
abbrev pub stop_number : Option (ℕ × List ℕ) → ℕ
stop_number None = 0
stop_number (Some fuse) = fuse.0

-- A disk's plan is to stop within a write, and its bytes, its counts and what was asked of it keep to that: until it stops only want of memory counts a fault,
-- and nothing that was asked failed; once it has stopped it stopped there.
pub record KeepsTo (plan : DiskPlan) (first held : List ℕ) (writes faults : ℕ) (starved : Bool) (deeds : List Deed) : Type 0 where
  pub fused : plan.fuse ≡ Some (stop_number plan.fuse, outcome_of plan.fuse)
  pub small : stop_number plan.fuse < 2 ^ 32
  pub unrefused : plan.refusals ≡ []
  pub few : plan.stopped ≡ false → plan.tries < stop_number plan.fuse
  pub counted : plan.stopped ≡ false → writes ≡ plan.tries
  pub made : count_by deed_writes deeds ≡ writes
  pub left : held ≡ left_after (outcome_of plan.fuse) first deeds
  pub well : plan.stopped ≡ false → count_by deed_failed deeds ≡ 0
  pub calm : plan.stopped ≡ false → starved ≡ false → faults ≡ 0
  pub stopped : plan.stopped ≡ true → ∥ AreStopped (stop_number plan.fuse) deeds ∥₁
  pub failed : plan.stopped ≡ true → 1 ≤ faults

-- a disk in memory of which this was asked does
abbrev pub IsStopping : MemoryDisk → List Deed → Type 0
IsStopping disk deeds = KeepsTo (disk_plan disk) (disk_first disk) (disk_held disk) (disk_writes disk) (disk_faults disk) (is_disk_starved disk) deeds
