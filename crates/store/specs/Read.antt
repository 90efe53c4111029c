-- What a read of a gate says.
use Rattle.std.specs.Prelude.{◌≡◌, ℕ, ◌+◌, ◌*◌, ◌==◌, ◌<◌, ◌≤◌, List, length, drop, fold, slice_index, Option, None, Result}
use Rattle.store.specs.Below.{Failed, Ghosts, number_at, PageSize, ReadsTold, RecordLine}
use Rattle.store_format.specs.Bank as format
use Rattle.store.specs.declared.bank_reading.GateFound.{GateFound}
use Rattle.store.specs.declared.bank_reading.GateFound.TheVariants.{Closed, Wrong, Sound}
use Rattle.store.specs.declared.bank_reading.BankFound.{BankFound}
use Rattle.store.specs.declared.bank_reading.BankFound.TheVariants.{Holds, Faulty}
use Rattle.store.specs.Kept.{noted}

-- a next gate lies a record behind this one, in an area with this end
abbrev pub IsNext : (gate end : ℕ) → GateFound → Type 0
IsNext gate end Closed = Unit {0}
IsNext gate end (Wrong offset) = Unit {0}
IsNext gate end (Sound next) = (gate + 11 ≤ next) × (next < end)

-- a closed gate lies in the area, behind as many records as there are
abbrev pub IsClosedIn : (start end : ℕ) → BankFound → Type 0
IsClosedIn start end (Holds base gate count) = (start + 11 * count ≤ gate) × (gate < end)
IsClosedIn start end (Faulty offset) = Unit {0}

-- the gate is what was read, and the lines of a sound record are noted
abbrev pub IsGate : GateFound → (gate : ℕ) (old new : List (Option ℕ)) → format.Gate → Type 0
IsGate Closed gate old new at = (at ≡ format.Closed gate) × (new ≡ old)
IsGate (Wrong offset) gate old new at = at ≡ format.Wrong offset
IsGate (Sound next) gate old new at = (lines : List RecordLine) × (at ≡ format.Sound lines next) × (new ≡ noted old lines)

-- A bank is what was read, and the lines of its records are noted.
pub record AreRead (gate count : ℕ) (old new : List (Option ℕ)) (bank : format.BankContent) : Type 0 where
  pub records : List (List RecordLine)
  pub holds : bank ≡ format.Holds gate records
  pub count_is : length records ≡ count
  pub noted : new ≡ fold noted old records

abbrev pub IsBank : BankFound → (old new : List (Option ℕ)) → (base : ℕ) → format.BankContent → Type 0
IsBank (Holds base gate count) old new from bank = (base ≡ from) × AreRead gate count old new bank
IsBank (Faulty offset) old new from bank = bank ≡ format.Faulty offset

-- a reading of a bank, of a gate and of lines: what the bytes that are told hold there is found, and noted
abbrev pub ReadsBank : {W : Type 0} → Ghosts W → PageSize → (at bank_bytes : ℕ) → (old new : List (Option ℕ)) → W → Result BankFound Failed → Type 0
ReadsBank G page at bank_bytes old new before result =
    ReadsTold G before (λ held found. IsBank found old new (number_at held at 8) (format.bank_held held page (length old) at bank_bytes)) result

abbrev pub ReadsGate : {W : Type 0} → Ghosts W → PageSize → (end due gate : ℕ) → (old new : List (Option ℕ)) → W → Result GateFound Failed → Type 0
ReadsGate G page end due gate old new before result =
    ReadsTold G before (λ held found.
    IsGate found gate old new (format.gate_if page (slice_index held gate == 0xA5) (length old) end due gate (drop gate held))) result

abbrev pub ReadsLines : {W : Type 0} → Ghosts W → PageSize → (count at : ℕ) → (old new : List (Option ℕ)) → W → Result (Option ℕ) Failed → Type 0
ReadsLines G page count at old new before result =
    ReadsTold G before (λ held fault. (fault ≡ format.wrong_line (length old) 0 (format.lines_from page count at (drop at held)))
    × (fault ≡ None → new ≡ noted old (format.lines_from page count at (drop at held)))) result
