use Rattle.activations.proofs.Lemmas.{refl, take_all, holds_some, Holding, held_at, reach_of, ◌<◌, ℕ, List, sym, ap, ◌∙◌, subst, slice_index_or, WrittenSo, written-none, written-same, undone-step, settled-step, page-held, page-there, writes-are, has-undone, has-settled, lines_of, written_in}
use Rattle.activations.proofs.endings.end_written.Goals as goal
use Rattle.activations.proofs.endings.end_written.Goals.{then-committed, else-committed}

pub loop-page-init : goal.loop-page-init
loop-page-init c = written-none (lines_of c.args.seats.now.holding c.args.seat) (reach_of c.args.unit.now) c.args.committed

pub held-writes-requires-clause-page : goal.held-writes-requires-clause-page
held-writes-requires-clause-page c =
    subst (λ (h : Holding). slice_index_or c.held_pages-page-items.result.now c.loop-page.page-index 0 < h.pages) (sym c.locks-locks.ensures)
    (page-held c.args.seats.now.holding c.locks-locks.result.now c.args.seat c.held_pages-page-items.result.now c.loop-page.page-index c.locks-locks.ensures c.requires.whole c.requires.seat c.loop-page-test.true c.held_pages-page-items.ensures.each)

pub settle-requires : goal.settle-requires
settle-requires c = page-there c.args.seats.now.holding c.locks-locks.result.now c.args.seat c.held_pages-page-items.result.now c.loop-page.page-index c.locks-locks.ensures c.requires.whole c.requires.seat c.loop-page-test.true c.held_pages-page-items.ensures.each (reach_of c.args.unit.now) (reach_of c.loop-page.unit) c.requires.pages c.loop-page.invariant.rest

pub undo-requires : goal.undo-requires
undo-requires c = page-there c.args.seats.now.holding c.locks-locks.result.now c.args.seat c.held_pages-page-items.result.now c.loop-page.page-index c.locks-locks.ensures c.requires.whole c.requires.seat c.loop-page-test.true c.held_pages-page-items.ensures.each (reach_of c.args.unit.now) (reach_of c.loop-page.unit) c.requires.pages c.loop-page.invariant.rest

pub loop-page-preserved-then-is_empty : goal.loop-page-preserved-then-is_empty
loop-page-preserved-then-is_empty c =
    written-same (lines_of c.args.seats.now.holding c.args.seat) c.held_pages-page-items.result.now c.loop-page.page-index c.loop-page-test.true c.held-writes.result.1
    (writes-are c.args.seats.now.holding c.locks-locks.result.now c.args.seat _ c.held-writes.result c.held-writes.ensures c.locks-locks.ensures) c.args.committed (reach_of c.args.unit.now) (reach_of c.loop-page.unit) (reach_of c.loop-page.unit) c.loop-page.invariant
    (sym c.is_empty.ensures.value ∙ c.if-is_empty.true) refl

pub loop-page-preserved : goal.loop-page-preserved
loop-page-preserved c = elim c.if-committed.branch [
  | then-committed w ↦
      settled-step (lines_of c.args.seats.now.holding c.args.seat) c.held_pages-page-items.result.now c.loop-page.page-index c.loop-page-test.true c.held-writes.result.1
      (writes-are c.args.seats.now.holding c.locks-locks.result.now c.args.seat _ c.held-writes.result c.held-writes.ensures c.locks-locks.ensures) c.args.committed (reach_of c.args.unit.now) (reach_of c.loop-page.unit) (reach_of c.if-committed.unit) c.loop-page.invariant
      (sym c.is_empty.ensures.value ∙ c.if-is_empty.false) c.loop-page.unit.fits
      (subst (λ (n : ℕ). slice_index_or c.held_pages-page-items.result.now c.loop-page.page-index 0 < n) c.requires.pages (page-held c.args.seats.now.holding c.locks-locks.result.now c.args.seat c.held_pages-page-items.result.now c.loop-page.page-index c.locks-locks.ensures c.requires.whole c.requires.seat c.loop-page-test.true c.held_pages-page-items.ensures.each)) w.if-committed.true (ap reach_of w.unit-is ∙ w.settle.ensures)
  | else-committed w ↦
      undone-step (lines_of c.args.seats.now.holding c.args.seat) c.held_pages-page-items.result.now c.loop-page.page-index c.loop-page-test.true c.held-writes.result.1
      (writes-are c.args.seats.now.holding c.locks-locks.result.now c.args.seat _ c.held-writes.result c.held-writes.ensures c.locks-locks.ensures) c.args.committed (reach_of c.args.unit.now) (reach_of c.loop-page.unit) (reach_of c.if-committed.unit) c.loop-page.invariant
      (sym c.is_empty.ensures.value ∙ c.if-is_empty.false) c.loop-page.unit.fits
      (subst (λ (n : ℕ). slice_index_or c.held_pages-page-items.result.now c.loop-page.page-index 0 < n) c.requires.pages (page-held c.args.seats.now.holding c.locks-locks.result.now c.args.seat c.held_pages-page-items.result.now c.loop-page.page-index c.locks-locks.ensures c.requires.whole c.requires.seat c.loop-page-test.true c.held_pages-page-items.ensures.each)) w.if-committed.false (ap reach_of w.unit-is ∙ w.undo.ensures)
]

pub returns : goal.returns
returns c =
    let so = subst (λ (these : List ℕ). WrittenSo c.args.committed (lines_of c.args.seats.now.holding c.args.seat) (written_in (lines_of c.args.seats.now.holding c.args.seat) these) (reach_of c.args.unit.now) (reach_of c.loop-page.unit))
    (take_all c.loop-page.page-index c.held_pages-page-items.result.now c.loop-page-test.false) c.loop-page.invariant in
    let each = λ (page : ℕ). c.held_pages-page-items.ensures.each page ∙ ap (λ (h : Holding). holds_some (held_at h c.args.seat page)) c.locks-locks.ensures in
    record {
      rest = so.rest;
      undone = has-undone c.args.seats.now.holding c.args.seat c.held_pages-page-items.result.now each c.args.committed (reach_of c.args.unit.now) (reach_of c.loop-page.unit) so;
      settled = has-settled c.args.seats.now.holding c.args.seat c.held_pages-page-items.result.now each c.args.committed (reach_of c.args.unit.now) (reach_of c.loop-page.unit) so;
    }
