-- What the calls of a unit leave.
use Rattle.std.specs.Prelude.{ℕ, ◌+◌, ◌*◌, ◌-◌, ◌==◌, if◌then◌else◌, List, ◌++◌, length, map, replicate, slice_set, true, false, None}
use Rattle.storage_unit.specs.Below.{cleared_entry, Layout, page_count, Registers, unowned}
use Rattle.frame_pool.specs.Pool as pool
use Rattle.page_table.specs.declared.lockbit_rules.Authority.{Authority}
use Rattle.storage_unit.specs.declared.unit_model.Reach.{Reach}

-- a unit that has just been made
abbrev pub made : Layout → (frames : ℕ) → Reach
made directory frames =
    record {
      pool = pool.fresh_pool directory.page frames (page_count directory);
      entries = replicate (page_count directory) unowned;
      begun = replicate 16 false;
      directory = directory;
      registers = record { page = directory.page; list = replicate 16 None };
      runner = 0;
    }

-- a seat is begun, its private bytes an image and zeros after it
abbrev pub seat_begun : Reach → (seat : ℕ) → List ℕ → Reach
seat_begun state seat image =
    record state {
      pool = pool.with_bytes state.pool (seat * 16384) (image ++ replicate (16384 - length image) 0);
      begun = slice_set state.begun seat true;
    }

-- a seat has ended; if it was selected, none is
abbrev pub seat_ended : Reach → (seat : ℕ) → Reach
seat_ended state seat =
    record state {
      begun = slice_set state.begun seat false;
      registers = if state.runner == seat + 1 then record { page = state.directory.page; list = replicate 16 None } else state.registers;
      runner = if state.runner == seat + 1 then 0 else state.runner;
    }

-- a seat is selected, with these registers
abbrev pub selected : Reach → (seat : ℕ) → Registers → Reach
selected state seat registers = record state { registers = registers; runner = seat + 1 }

-- the entry of a page is set
abbrev pub with_granted : Reach → (page : ℕ) → Authority → Reach
with_granted state page value = record state { entries = slice_set state.entries page value }

-- all entries of an identifier are nobody's
abbrev pub entries_released : Reach → (tid : ℕ) → Reach
entries_released state tid = record state { entries = map (cleared_entry tid) state.entries }
