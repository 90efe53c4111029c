-- What the status of a call tells of faults.
use Rattle.std.specs.Prelude.{◌≡◌, ◌⊎◌, []}
use Rattle.outside.specs.Causes.{Rose}
use Rattle.outside.specs.declared.source.Source as source
use Rattle.outside.specs.declared.world.Outside.{Ghosts}
use Rattle.call_status.specs.declared.status.Status.{Status}
use Rattle.call_status.specs.Call.{Called, Given, call, given}

-- a disk or a screen that failed is told only where its count rose in the call, and a call that is done left the screen's count
pub record FaultsBy {W : Type 0} (G : Ghosts W) (before now : W) (status : Status) : Type 0 where
  pub disk : status ≡ Status.DiskFault → Rose (G.disk_faults before) (G.disk_faults now)
  pub put : status ≡ Status.PutFault → Rose (G.put_faults before) (G.put_faults now)
  pub unfailed : status ≡ Status.Done → G.put_faults now ≡ G.put_faults before

-- the same of a call that reads a source: one that is done left the source's count too
pub record ReadFaultsBy {W : Type 0} (G : Ghosts W) (given : Given) (before now : W) (status : Status) : Type 0 where
  pub source : status ≡ Status.Done → given.faults_now ≡ given.faults
  pub outside : FaultsBy G before now status

-- a room's call did this, has no order, ends with one of these statuses, and tells of the faults in it
pub record RoomEnds {W : Type 0} (G : Ghosts W) (Did : Called W → Type 0) (IsOne : Status → Type 0) (before now : W) (status : Status) : Type 0 where
  pub did : Did (call before now [] status)
  pub only : IsOne status
  pub faults : FaultsBy G before now status

-- the same of one that reads a source
pub record RoomReads {S W : Type 0} (F : source.Ghosts S) (G : Ghosts W) (Did : Given → Called W → Type 0) (IsOne : Status → Type 0) (old new : S) (before now : W) (status : Status) : Type 0 where
  pub did : Did (given F old new) (call before now [] status)
  pub only : IsOne status
  pub faults : ReadFaultsBy G (given F old new) before now status

-- a call is done or has no memory where neither the source nor the screen failed in it
abbrev pub DoneIfCalm : {S W : Type 0} → source.Ghosts S → Ghosts W → (old new : S) → (before now : W) → Status → Type 0
DoneIfCalm F G old new before now status =
    (¬ (Rose (F.faults old) (F.faults new))) → (¬ (Rose (G.put_faults before) (G.put_faults now))) → (status ≡ Status.Done) ⊎ (status ≡ Status.NoMemory)
