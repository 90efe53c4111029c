-- What is left of a row once registers and status are as it makes them.
use Rattle.std.specs.Prelude.{◌≡◌, ℕ, ◌<◌, List, length, Some, None}
use Rattle.std.specs.Option.{ForSome}
use Rattle.flat_machine.specs.declared.machine.Pending.{Pending}
use Rattle.flat_machine.specs.declared.ready.Rest.{Rest}
use Rattle.flat_machine.specs.Access.{IsAccess}
use Rattle.flat_machine.specs.Below.{Inst}
use Rattle.flat_machine.specs.declared.machine.Act.{Act}
use Rattle.flat_machine.specs.declared.machine.Cs.{Cs}
use Rattle.flat_machine.specs.Plans.{Plan, Does, Fails, Work}
use Rattle.flat_machine.specs.declared.machine.Branch.{Branch}
use Rattle.flat_machine.specs.Effect.{worked}
use Rattle.flat_machine.specs.Work.{work_of}
use Rattle.flat_machine.specs.Row.{goes_by}

-- the plan of a row: registers and status as it makes them, and what is left of it
abbrev pub planned : List ℕ → Cs → Pending → Plan
planned registers status (Pending.Does act next link) = Does registers status act next link
planned registers status (Pending.Fails code) = Fails code

-- what is left of a row made ready, as what is left of any row
abbrev pub pending_of : Rest → Pending
pending_of (Rest.On next) = Pending.Does Act.Nothing next None
pending_of (Rest.Link to register after) = Pending.Does Act.Nothing to (Some (register, after))
pending_of (Rest.Load address bytes to sign next) = Pending.Does (Act.Load address bytes to sign) next None
pending_of (Rest.Store address bytes from next) = Pending.Does (Act.Store address bytes from) next None
pending_of (Rest.Trap next) = Pending.Does (Act.Check 3) next None

-- registers and status are as before where something is wanted beside them
abbrev pub StaysIfWanting : Act → (old new : List ℕ) → (before after : Cs) → Type 0
StaysIfWanting Act.Nothing old new before after = Unit {0}
StaysIfWanting _ old new before after = (new ≡ old) × (after ≡ before)

-- the same of a row: also where its fetch fails
abbrev pub StaysIfPending : Pending → (old new : List ℕ) → (before after : Cs) → Type 0
StaysIfPending (Pending.Does act next link) old new before after = StaysIfWanting act old new before after
StaysIfPending (Pending.Fails code) old new before after = (new ≡ old) × (after ≡ before)

-- its access and its link name registers that there are
abbrev pub IsSoundPending : Pending → Type 0
IsSoundPending (Pending.Does act next link) = IsAccess act × ForSome link (λ written. written.0 < 16)
IsSoundPending (Pending.Fails code) = Unit {0}

-- what a row's own work did to registers and status, and what it wants beside them, of which nothing was done
pub record WorksBy (work : Work) (old new : List ℕ) (before after : Cs) (act : Act) : Type 0 where
  pub value : worked old before work ≡ record { registers = new; status = after; act = act }
  pub stays : StaysIfWanting act old new before after
  pub access : IsAccess act

-- the same of a row that neither branches nor jumps
abbrev pub Works : Inst → (old new : List ℕ) → (before after : Cs) → Act → Type 0
Works inst old new before after act = WorksBy (work_of inst old before) old new before after act

-- a row was begun, by what it is to do with registers and status at an address: these are as it makes them, and this is left of it
pub record BeginsRow (plan : List ℕ → Cs → ℕ → Plan) (iar : ℕ) (old new : List ℕ) (before after : Cs) (left : Pending) : Type 0 where
  pub value : plan old before iar ≡ planned new after left
  pub stays : StaysIfPending left old new before after
  pub sound : IsSoundPending left
  pub long : length new ≡ 16

-- what is left of a row whose own work wants this, once control goes where a branch says
pub record IsLeftOf (way : Branch) (act : Act) (after : ℕ) (left : Pending) : Type 0 where
  pub value :
      (registers : List ℕ) (status : Cs)
      → goes_by way (record { registers = registers; status = status; act = act }) after ≡ planned registers status left
  pub stays : (old new : List ℕ) (before now : Cs) → StaysIfWanting act old new before now → StaysIfPending left old new before now
  pub sound : IsSoundPending left
