-- What keeps a pool one of its store.
use Rattle.storage_unit.proofs.Common.{◌≡◌, ℕ, ◌<◌, List, length, sym, ◌∙◌, ap, subst, refl, arith, Option, Some, length-set, Layout, page_count, Pool, IsSeen, Stays, Brought, marks_at, marked_in, settled, with_frame_part, with_room, seen-lent, seen-marked, AreOfPages, PoolFits}
use Rattle.storage_unit.proofs.LeaveLemmas.{seen-settled}
use Rattle.storage_unit.proofs.PartLemmas.{marked-same}
use Rattle.storage_unit.proofs.StateLemmas.{marks-settled, room-stays}
use Rattle.storage_unit.proofs.StoreLemmas.{marked-of_pages}

-- a pool with the same pages, and marks of pages
pub fits-as : (d : Layout) (old new : Pool) → PoolFits d old → IsSeen new → new.page ≡ old.page → length new.frame_of ≡ length old.frame_of → AreOfPages new.marked → PoolFits d new
fits-as d old new fits seen size pages marks = record { seen = seen; size = size ∙ fits.size; pages = pages ∙ fits.pages; marks = marks }

module _ (d : Layout) (pool : Pool) (fits : PoolFits d pool) where
  -- other bytes lie over those of frames
  pub fits-lent : (at : ℕ) (part : List ℕ) → PoolFits d (with_frame_part pool at part)
  fits-lent at part = fits-as d pool (with_frame_part pool at part) fits (seen-lent pool at part fits.seen) refl refl fits.marks

  -- lines are no longer marked
  pub fits-settled : (page : ℕ) (lines : List ℕ) → page < page_count d → PoolFits d (settled pool page lines)
  fits-settled page lines below =
      fits-as d pool (settled pool page lines) fits (seen-settled d pool pool.kept page lines fits.seen (omega (arith, below, fits.pages))) refl refl (marks-settled pool.marked page (marks_at pool page) lines fits.marks)

  -- pages go out
  pub fits-stays : (new : Pool) → IsSeen new → Stays pool new → PoolFits d new
  fits-stays new seen stays = fits-as d pool new fits seen stays.page stays.frame_of (subst (λ (list : List (List ℕ)). AreOfPages list) (sym stays.marked) fits.marks)

  -- and one comes in
  pub fits-brought : (new : Pool) (page : ℕ) (keep : Option ℕ) (frame : ℕ) → IsSeen new → Brought pool new page keep frame → PoolFits d new
  fits-brought new page keep frame seen came =
      let old = (room-stays pool keep fits.seen).1 in
      fits-as d pool new fits seen (ap (λ (p : Pool). p.page) came.rest ∙ old.page)
      (ap (λ (p : Pool). length p.frame_of) came.rest ∙ length-set (with_room pool keep).frame_of page (Some frame) ∙ old.frame_of)
      (subst (λ (list : List (List ℕ)). AreOfPages list) (sym (ap (λ (p : Pool). p.marked) came.rest ∙ old.marked)) fits.marks)

-- a part of a frame is written, and its lines are marked
pub fits-part : (d : Layout) (pool : Pool) → PoolFits d pool → (frame : ℕ) (lines : List ℕ) (at : ℕ) (part : List ℕ) → PoolFits d (with_frame_part (marked_in pool frame lines) at part)
fits-part d pool fits frame lines =
    let same = marked-same pool frame lines in
    let marks = marked-of_pages pool frame lines fits.marks in
    fits-lent d (marked_in pool frame lines) (fits-as d pool (marked_in pool frame lines) fits (seen-marked pool frame lines fits.seen) same.0 same.1 marks)
