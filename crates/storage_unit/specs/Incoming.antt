-- A page that comes in, with the bytes that were read of it.
use Rattle.std.specs.Prelude.{◌≡◌, ◌⊎◌, ℕ, List, [], length, Option, option_to_list, Result, IsOk, OnOk, OnErr}
use Rattle.storage_unit.specs.Below.{Brought, pool_emptied, marks_at, page_bytes, Pool, range_with_len}
use Rattle.lines.specs.Resident.{brought}
use Rattle.storage_unit.specs.declared.incoming.Pages.{Ghosts}
use Rattle.storage_unit.specs.declared.unit_model.Reach.{Reach}
use Rattle.storage_unit.specs.declared.unit.Unit.{Unit}
use Rattle.storage_unit.specs.PoolLaws.{PoolFits, frame_filled}
use Rattle.storage_unit.specs.View.{reach_of}

-- A page came into a frame, in the place of another where it must; these bytes fill the frame, and the page's kept lines lie over them. All else
-- of the pool is as it was then.
pub record IsFilled (old : Reach) (page : ℕ) (keep : Option ℕ) (bytes : List ℕ) (new : Pool) : Type 0 where
  pub frame : ℕ
  pub room : Pool
  pub came : Brought old.pool room page keep frame
  pub fits : PoolFits old.directory room
  pub long : length bytes ≡ page_bytes old.directory.page
  pub is : new ≡ frame_filled room page frame bytes
  pub resident : new.resident ≡ brought old.pool.frames (option_to_list keep) old.pool.resident page

-- A page came in of which each line is kept: nothing was read of it, and with whichever bytes its frame had been filled, the pool would be as it is.
pub record IsAllKept (old : Reach) (page : ℕ) (keep : Option ℕ) (new : Pool) : Type 0 where
  pub whole : marks_at old.pool page ≡ range_with_len 0 16
  pub any : (bytes : List ℕ) → length bytes ≡ page_bytes old.directory.page → IsFilled old page keep bytes new

-- A page couldn't be read: whatever its frame was filled with, all pages have gone out.
pub record HasGoneOut (old : Reach) (page : ℕ) (keep : Option ℕ) (new : Pool) : Type 0 where
  pub bytes : List ℕ
  pub between : Pool
  pub was : IsFilled old page keep bytes between
  pub out : new ≡ pool_emptied between
  pub none : new.resident ≡ []

-- Bringing a page in: its bytes were read, or each of its lines is kept and nothing was asked; where it can't be read, all pages go out.
pub record BringsIn {P W E T : Type 0}
    (G : Ghosts P W E) (pages : P) (before after : W) (old new : Unit) (page : ℕ) (keep : Option ℕ) (result : Result T E) : Type 0 where
  pub rest : reach_of new ≡ record (reach_of old) { pool = new.pool }
  pub came : OnOk result (((bytes : List ℕ) × G.read pages before page bytes after × IsFilled (reach_of old) page keep bytes new.pool)
      ⊎ ((after ≡ before) × IsAllKept (reach_of old) page keep new.pool))
  pub kept : marks_at old.pool page ≡ range_with_len 0 16 → IsOk result × (after ≡ before)
  pub unread : OnErr result (G.unread before after)
  pub out : OnErr result (HasGoneOut (reach_of old) page keep new.pool)
