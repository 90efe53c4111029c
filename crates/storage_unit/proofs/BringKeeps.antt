-- A page that comes in leaves the bytes as they were.
use Rattle.storage_unit.proofs.Common.{◌≡◌, ℕ, ◌*◌, ◌%◌, ◌<◌, false, List, length, sym, ◌∙◌, ap, subst, arith, Option, inl, inr, if◌then◌else◌, slice_index, cases_eq, length-take, length-drop, page_bytes, Layout, byte_count, page_count, page_of, byte_count_pages, has, Pool, frame_at, Brought, with_room, page_part, is_marked, byte_over, IsClean, PoolFits, PoolKeeps, frame_filled, page_bytes_in, BringKeeps}
use Rattle.storage_unit.proofs.SizeLemmas.{rest-below, place-is}
use Rattle.storage_unit.proofs.ByteLemmas.{in-range, same-bytes, over-none}
use Rattle.storage_unit.proofs.LeaveLemmas.{clean-of, clean-shows}
use Rattle.storage_unit.proofs.BringLemmas.{full, fewer, not-there, filled-is, full-here, full-elsewhere, full-marked}

-- a page of what is committed is as long as a page
pub page_in-long : (d : Layout) (committed : List ℕ) (page : ℕ) → length committed ≡ byte_count d → page < page_count d → length (page_bytes_in d committed page) ≡ page_bytes d.page
page_in-long d committed page sized within =
    simp (length-take, length-drop) (omega (arith, page_part page (page_count d) (page_bytes d.page) within, sized, byte_count_pages d))

module _ (d : Layout) (old new : Pool) (committed : List ℕ) (page : ℕ) (keep : Option ℕ) (frame : ℕ)
    (fits : PoolFits d old) (sized : length committed ≡ byte_count d) (clean : IsClean d old committed) (within : page < page_count d) (absent : has old.resident page ≡ false)
    (came : Brought old new page keep frame) where
  long : length (page_bytes_in d committed page) ≡ page_bytes d.page
  long = page_in-long d committed page sized within

  abbrev brought_in : Pool
  brought_in = full d old new committed (page_bytes_in d committed page) page keep frame fits clean within absent came long

  shows : (place : ℕ) → place < byte_count d → byte_over d brought_in committed place ≡ byte_over d old committed place
  shows place below = elim (cases_eq page (page_of d place)) [
    | inl here ↦
        full-here d old new committed (page_bytes_in d committed page) page keep frame fits clean within absent came long place here
        ∙ ap (λ n. if is_marked d (with_room old keep) place then slice_index (with_room old keep).kept place else n) (as-committed here)
        ∙ sym (over-none d (with_room old keep) committed place
        (ap (frame_at (with_room old keep)) (sym here) ∙ not-there d old new committed (page_bytes_in d committed page) page keep frame fits clean within absent came long))
        ∙ (fewer d old new committed (page_bytes_in d committed page) page keep frame fits clean within absent came long).over place below
    | inr apart ↦
        full-elsewhere d old new committed (page_bytes_in d committed page) page keep frame fits clean within absent came long place apart
        ∙ (fewer d old new committed (page_bytes_in d committed page) page keep frame fits clean within absent came long).over place below
  ]
    where
      as-committed : page ≡ page_of d place → slice_index (page_bytes_in d committed page) (place % page_bytes d.page) ≡ slice_index committed place
      as-committed here =
          cc (in-range committed (page * page_bytes d.page) (page_bytes d.page) (place % page_bytes d.page) (rest-below d.page place), place-is d.page place)

  keeps : PoolKeeps d old brought_in committed
  keeps = record {
    same = same-bytes d brought_in old committed committed shows;
    clean = clean-of d brought_in committed
        (λ place below unmarked.
        shows place below
        ∙ clean-shows d old committed place clean below
        (sym (full-marked d old new committed (page_bytes_in d committed page) page keep frame fits clean within absent came long place) ∙ unmarked));
  }

  filled-keeps : PoolKeeps d old (frame_filled new page frame (page_bytes_in d committed page)) committed
  filled-keeps =
      subst (λ (pool : Pool). PoolKeeps d old pool committed)
      (sym (filled-is d old new committed (page_bytes_in d committed page) page keep frame fits clean within absent came long)) keeps

pub bring-keeps : BringKeeps
bring-keeps = λ d old new committed page keep frame fits also sized clean within absent came. filled-keeps d old new committed page keep frame fits sized clean within absent came
