-- How a disk in memory is to fail.
use Rattle.std.specs.Prelude.{ℕ, ◌+◌, ◌-◌, ◌^◌, min, List, [], length, take, Bool, true, false, ◌||◌, ◌==◌, if◌then◌else◌, Option, None, Some}
use Rattle.outside.specs.declared.refusals.Call.{Call}
use Rattle.outside.specs.declared.refusals.Call.TheVariants.{Write}
use Rattle.outside.specs.declared.refusals.Refusal.{Refusal}
use Rattle.outside.specs.declared.call_record.Fate.{Fate}
use Rattle.outside.specs.declared.call_record.Fate.TheVariants.{Whole, Refused, Cut, Stopped}
use Rattle.outside.specs.Bytes.{written}
use Rattle.outside.specs.Refusals.{is_call_refused, used_up}

-- The refusals to come, the write at which the disk stops and what it then leaves there, the number of writes so far,
-- and whether it has stopped.
pub record DiskPlan : Type 0 where
  pub refusals : List Refusal
  pub fuse : Option (ℕ × List ℕ)
  pub tries : ℕ
  pub stopped : Bool

-- of a new disk
abbrev pub first_plan : List Refusal → DiskPlan
first_plan refusals = record { refusals = refusals; fuse = None; tries = 0; stopped = false }

-- with a fuse at the write with this number
abbrev pub fused : DiskPlan → ℕ → List ℕ → DiskPlan
fused plan write outcome = record { refusals = plan.refusals; fuse = Some (write, outcome); tries = plan.tries; stopped = plan.stopped }

-- a length, a read or a sync fails on a disk that has stopped, and where it is refused
abbrev pub is_failing : DiskPlan → Call → ℕ → ℕ → Bool
is_failing plan call start end = plan.stopped || is_call_refused call start end plan.refusals

-- and afterwards it is used up
abbrev pub after_call : DiskPlan → Call → ℕ → ℕ → DiskPlan
after_call plan call start end = record { refusals = used_up call start end plan.refusals; fuse = plan.fuse; tries = plan.tries; stopped = plan.stopped }

-- the disk stops at the write with this number
abbrev pub is_last : Option (ℕ × List ℕ) → ℕ → Bool
is_last None number = false
is_last (Some fuse) number = fuse.0 == number

-- what it then leaves there, from the front of the range
abbrev pub outcome_of : Option (ℕ × List ℕ) → List ℕ
outcome_of None = []
outcome_of (Some fuse) = fuse.1

-- how the next write over these bytes goes
abbrev pub fate_of : DiskPlan → ℕ → ℕ → Fate
fate_of plan start end =
    if plan.stopped then Stopped else if is_last plan.fuse (plan.tries + 1) then Cut else if is_call_refused Write start end plan.refusals then Refused else Whole

-- the bytes held after a write that goes so: those that the outcome covers are its own, and the rest stay
abbrev pub held_by_fate : Fate → List ℕ → ℕ → List ℕ → List ℕ → List ℕ
held_by_fate Whole outcome at bytes held = written held at bytes
held_by_fate Cut outcome at bytes held = written held at (take (length bytes) outcome)
held_by_fate Refused outcome at bytes held = held
held_by_fate Stopped outcome at bytes held = held

-- only a whole write succeeds
abbrev pub is_failed : Fate → Bool
is_failed Whole = false
is_failed _ = true

-- after it the disk has stopped
abbrev pub stops : Fate → Bool
stops Cut = true
stops Stopped = true
stops _ = false

-- afterwards it is counted, and the disk may have stopped
abbrev pub after_write : DiskPlan → ℕ → ℕ → DiskPlan
after_write plan start end = record {
  refusals = used_up Write start end plan.refusals;
  fuse = plan.fuse;
  tries = min (plan.tries + 1) (2 ^ 64 - 1);
  stopped = stops (fate_of plan start end);
}
