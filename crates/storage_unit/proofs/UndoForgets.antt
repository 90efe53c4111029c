-- An undo gives its lines their committed bytes.
use Rattle.storage_unit.proofs.Common.{◌≡◌, ℕ, ◌<◌, Bool, true, false, List, sym, ◌∙◌, ap, arith, has, Layout, byte_count, line_of, page_of, Pool, is_marked, byte_over, IsClean, PoolFits, is_among, UndoForgets, ◌==◌, ◌%◌, ◌&&◌, not, if◌then◌else◌, slice_index, length}
use Rattle.frame_pool.specs.Pool.{settled, page_undone}
use Rattle.storage_unit.proofs.SizeLemmas.{page-of-line}
use Rattle.storage_unit.proofs.ByteLemmas.{byte-of-all, gone-over}
use Rattle.storage_unit.proofs.LeaveLemmas.{seen-settled, settled-over, settled-line, gone-marked, clean-of, clean-shows}

module _ (d : Layout) (pool : Pool) (committed : List ℕ) (page : ℕ) (lines : List ℕ) (fits : PoolFits d pool) (clean : IsClean d pool committed) (room : page < length pool.frame_of) where
  abbrev after : Pool
  after = settled pool page lines

  -- a line that isn't among those that are forgotten shows what it showed
  kept : (place : ℕ) → place < byte_count d → is_among page lines (line_of d place) ≡ false → byte_over d after committed place ≡ byte_over d pool committed place
  kept place below out =
      settled-over d pool committed page lines fits.seen room place below clean (λ among marked none. absurd (let clash : true ≡ false = sym among ∙ out in cc))

  marked-is : (place : ℕ) → is_marked d after place ≡ (is_marked d pool place && not (is_among page lines (line_of d place)))
  marked-is place = settled-line d pool committed page lines fits.seen room (line_of d place)

  -- a line among them is of the page
  of-page : (place : ℕ) → (page == page_of d place) ≡ false → is_among page lines (line_of d place) ≡ false
  of-page place apart = ap (λ (n : ℕ). page == n && has lines (line_of d place % 16)) (page-of-line d.page place) ∙ ap (λ (b : Bool). b && has lines (line_of d place % 16)) apart

  shows : (place : ℕ) → place < byte_count d
      → byte_over d (page_undone pool page lines) committed place ≡ (if is_among page lines (line_of d place) then slice_index committed place else byte_over d pool committed place)
  shows place below =
      let here = gone-over d after committed page place (seen-settled d pool committed page lines fits.seen room) fits.size in
      let marks = marked-is place in
      let stays = kept place below in
      let apart = of-page place in
      let shown = clean-shows d pool committed place clean below in
      grind (arith, here, marks, stays, apart, shown)

  clean-after : IsClean d (page_undone pool page lines) committed
  clean-after = clean-of d (page_undone pool page lines) committed
      (λ place below unmarked.
      let is = shows place below in
      let marks = marked-is place in
      let still = gone-marked d after page place in
      let shown = clean-shows d pool committed place clean below in
      grind (arith, is, marks, still, shown))

pub undo-forgets : UndoForgets
undo-forgets = λ d pool committed page lines fits long clean within.
    let room : page < length pool.frame_of = omega (arith, within, fits.pages) in (
      λ place below.
          cc (byte-of-all d (page_undone pool page lines) committed place below, shows d pool committed page lines fits clean room place below, byte-of-all d pool committed place below),
      clean-after d pool committed page lines fits clean room,
    )
