-- What a row comes to, as contracts speak of it: what runs does it at once, and copies no register.
use Rattle.std.specs.Prelude.{ℕ, List, Option}
use Rattle.flat_machine.specs.declared.machine.Act.{Act}
use Rattle.flat_machine.specs.declared.machine.Cs.{Cs}

-- What a row that neither branches nor jumps computes from registers and status.
pub data Work : Type 0 where
  -- a register gets a value, and the status stays
  Put : (b value : ℕ) → Work
  -- a register gets a value, and less, equal and greater tell its sign
  Signed : (b value : ℕ) → Work
  -- a register gets the sum of two words and a carry, and the whole status tells of the sum
  Sum : (b x y carry : ℕ) → Work
  -- less, equal and greater tell how one number stands to another
  Compare : (x y : ℕ) → Work
  -- registers and status stay
  Want : (act : Act) → Work

-- What the next row is to do: registers and status as the row makes them, what it wants beside them, the address of the row after it and, written last, a
-- register with its link; or a check of its fetch with its code.
pub data Plan : Type 0 where
  Does : (registers : List ℕ) (status : Cs) (act : Act) (next : ℕ) (link : Option (ℕ × ℕ)) → Plan
  Fails : (code : ℕ) → Plan
