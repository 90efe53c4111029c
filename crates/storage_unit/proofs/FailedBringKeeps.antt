-- A page whose read failed leaves the bytes as they were.
use Rattle.storage_unit.proofs.Common.{◌≡◌, ℕ, ◌<◌, true, false, List, length, sym, ◌∙◌, ap, subst, Option, inl, inr, cases_eq, page_bytes, Layout, byte_count, page_count, page_of, has, Pool, IsSeen, frame_at, Brought, with_room, pool_emptied, is_marked, byte_over, IsClean, PoolFits, PoolKeeps, frame_filled, FailedBringKeeps, arith, nat_tests}
use Rattle.storage_unit.proofs.ByteLemmas.{same-bytes, over-none}
use Rattle.storage_unit.proofs.LeaveLemmas.{clean-shows, emptied-over, emptied-clean}
use Rattle.storage_unit.proofs.BringLemmas.{full, fewer, size, not-there, bytes-long, filled-is, full-here, full-elsewhere, full-marked}

module _ (d : Layout) (old new : Pool) (committed bytes : List ℕ) (page : ℕ) (keep : Option ℕ) (frame : ℕ)
    (fits : PoolFits d old) (also : PoolFits d new) (clean : IsClean d old committed) (within : page < page_count d) (absent : has old.resident page ≡ false)
    (came : Brought old new page keep frame) (long : length bytes ≡ page_bytes d.page) where
  abbrev brought_in : Pool
  brought_in = full d old new committed bytes page keep frame fits clean within absent came long

  seen : IsSeen brought_in
  seen =
      let whole = subst IsSeen came.rest also.seen in
      record {
        bytes = bytes-long d old new committed bytes page keep frame fits clean within absent came long ∙ whole.bytes;
        page_in = whole.page_in;
        marked = whole.marked;
        kept = whole.kept;
        some = whole.some;
        few = whole.few;
        apart = whole.apart;
        resident = whole.resident;
        there = whole.there;
        back = whole.back;
        above = whole.above;
        below = whole.below;
      }

  -- a marked line shows what it showed
  shows : (place : ℕ) → place < byte_count d → is_marked d old place ≡ true → byte_over d brought_in committed place ≡ byte_over d old committed place
  shows place below marked =
      let less = fewer d old new committed bytes page keep frame fits clean within absent came long in
      elim (cases_eq page (page_of d place)) [
        | inl here ↦
            grind (
              arith,
              nat_tests,
              full-here d old new committed bytes page keep frame fits clean within absent came long place here,
              less.marks place,
              over-none d (with_room old keep) committed place (ap (frame_at (with_room old keep)) (sym here) ∙ not-there d old new committed bytes page keep frame fits clean within absent came long),
              less.over place below,
            )
        | inr apart ↦ full-elsewhere d old new committed bytes page keep frame fits clean within absent came long place apart ∙ less.over place below
      ]

  each : (place : ℕ) → place < byte_count d → byte_over d (pool_emptied brought_in) committed place ≡ byte_over d old committed place
  each place below =
      grind (
        arith,
        nat_tests,
        emptied-over d brought_in committed place seen (size d old new committed bytes page keep frame fits clean within absent came long),
        full-marked d old new committed bytes page keep frame fits clean within absent came long place,
        shows place below,
        clean-shows d old committed place clean below,
      )

  keeps : PoolKeeps d old (pool_emptied (frame_filled new page frame bytes)) committed
  keeps =
      subst (λ (pool : Pool). PoolKeeps d old (pool_emptied pool) committed)
      (sym (filled-is d old new committed bytes page keep frame fits clean within absent came long))
      (record { same = same-bytes d (pool_emptied brought_in) old committed committed each; clean = emptied-clean d brought_in committed seen })

pub failed-bring-keeps : FailedBringKeeps
failed-bring-keeps = λ d old new committed bytes page keep frame fits also clean within absent came long. keeps d old new committed bytes page keep frame fits also clean within absent came long
