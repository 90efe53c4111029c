-- What an access does that is probed and made in one go.
use Rattle.std.specs.Prelude.{◌≡◌, ℕ, Bool, true, if◌then◌else◌, List, Ok}
use Rattle.storage_unit.specs.Below.{Access, answered_at, bytes_from, filled, if_permitted, Probe, stored_bytes, Virtual}
use Rattle.storage_unit.specs.declared.unit_model.Reach.{Reach}
use Rattle.storage_unit.specs.declared.unit.Unit.{Unit}
use Rattle.storage_unit.specs.Reach.{answer_to, byte_at, is_in_frame, refuses_byte, stored}
use Rattle.storage_unit.specs.View.{reach_of}

-- an access of so many bytes that begins at a byte is answered so, whatever its address
abbrev pub AnswersAt : Reach → Virtual → (bytes : ℕ) → (store : Bool) → Probe → Type 0
AnswersAt state first bytes store told =
    (access : Access) → access.bytes ≡ bytes → access.store ≡ store → told ≡ answered_at state.directory.page (is_in_frame state) (refuses_byte state) access (Ok first)

-- registers filled with the bytes of an access
abbrev pub loaded : Reach → Access → (to : ℕ) → (sign : Bool) → List ℕ → List ℕ
loaded state wants to sign registers = filled to sign (bytes_from (byte_at state) wants.address wants.bytes) registers

-- and the bytes of registers stored
abbrev pub saved : Reach → Access → (from : ℕ) → List ℕ → Reach
saved state wants from registers = stored state wants.address (stored_bytes registers wants.bytes from)

-- registers are filled with bytes, as they are probed and loaded
pub record IsLoaded (old new : Unit) (wants : Access) (to : ℕ) (sign : Bool) (registers after : List ℕ) (told : Probe) : Type 0 where
  pub answer : told ≡ answer_to (reach_of old) wants
  pub state : reach_of new ≡ reach_of old
  pub filled : after ≡ if_permitted told (loaded (reach_of old) wants to sign registers) registers

-- the bytes of registers are stored, as they are probed
pub record AreStored (old new : Unit) (wants : Access) (from : ℕ) (registers : List ℕ) (told : Probe) : Type 0 where
  pub answer : told ≡ answer_to (reach_of old) wants
  pub state : reach_of new ≡ if_permitted told (saved (reach_of old) wants from registers) (reach_of old)

-- registers are filled with bytes, which may be accessed, where that is answered; else they stay
pub record IsReadIf (did : Bool) (unit : Unit) (wants : Access) (to : ℕ) (sign : Bool) (registers after : List ℕ) : Type 0 where
  pub permitted : did ≡ true → answer_to (reach_of unit) wants ≡ Probe.Permitted
  pub filled : after ≡ (if did then loaded (reach_of unit) wants to sign registers else registers)

-- the bytes of registers are stored, which may be accessed, where that is answered; else all stays
pub record IsWrittenIf (did : Bool) (old new : Unit) (wants : Access) (from : ℕ) (registers : List ℕ) : Type 0 where
  pub permitted : did ≡ true → answer_to (reach_of old) wants ≡ Probe.Permitted
  pub state : reach_of new ≡ (if did then saved (reach_of old) wants from registers else reach_of old)
