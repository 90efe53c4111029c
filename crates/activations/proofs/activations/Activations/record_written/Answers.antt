use Rattle.activations.proofs.Lemmas.{activity_of, size, locks_in, Activity, HasWritten, unwrap_or, Option, Some, ◌++◌, take_all, Layout, page_count, holds_some, Holding, held_at, flat_lines, Pool, begun_of, StoreView, RecordLine, most_lines, with_lines, written_of, wrote, ◌≡◌, ◌<◌, ◌≤◌, ◌+◌, [], ℕ, List, length, sym, ◌∙◌, ap, subst, arith, slice_index_or, page-held, pages-below, before-page, room-left, written-more}
use Rattle.activations.proofs.activations.Activations.record_written.Goals as goal

room_with : (begun writes these most all : ℕ) → these ≡ writes → all ≡ most → begun + writes ≤ most → begun + these ≤ all
room_with begun writes these most all same many room = omega (arith, same, many, room)

pub loop-page-init : goal.loop-page-init
loop-page-init c i = record c.args.store.now { bank = record c.args.store.now.bank { begun = (c.requires.begun ∙ sym (ap (λ (begun : Option (List RecordLine)). let some : Option (List RecordLine) = Some (unwrap_or begun [] ++ []) in some) c.requires.begun)) i } }

pub held-writes-requires-clause-page : goal.held-writes-requires-clause-page
held-writes-requires-clause-page c =
    subst (λ (h : Holding). slice_index_or c.held_pages-page-items.result.now c.loop-page.page-index 0 < h.pages) (sym c.locks-locks.ensures)
    (page-held c.self.inside.seats.holding c.locks-locks.result.now c.args.seat c.held_pages-page-items.result.now c.loop-page.page-index c.locks-locks.ensures c.self.invariant.seating.whole c.requires.seat c.loop-page-test.true c.held_pages-page-items.ensures.each)

pub record_lines-requires-clause-page : goal.record_lines-requires-clause-page
record_lines-requires-clause-page c =
    let below = page-held c.self.inside.seats.holding c.locks-locks.result.now c.args.seat c.held_pages-page-items.result.now c.loop-page.page-index c.locks-locks.ensures c.self.invariant.seating.whole c.requires.seat c.loop-page-test.true c.held_pages-page-items.ensures.each in
    let all = ap (λ (pool : Pool). length pool.frame_of) c.pool.ensures in
    let pages = c.self.inside.unit.fits.pages in omega (arith, below, all, pages, c.self.invariant.pages)

pub record_lines-requires-clause-size : goal.record_lines-requires-clause-size
record_lines-requires-clause-size c = ap (λ (pool : Pool). pool.page) c.pool.ensures
    ∙ c.self.inside.unit.fits.size
    ∙ ap (λ (d : Layout). d.page) (sym (ap (λ (store : StoreView). store.header.directory) c.loop-page.invariant ∙ (c.requires.directory ∙ ap (λ (x : Activity). x.reach.directory) (sym c.self.view_is))))

pub record_lines-requires-clause-below : goal.record_lines-requires-clause-below
record_lines-requires-clause-below c =
    let below = page-held c.self.inside.seats.holding c.locks-locks.result.now c.args.seat c.held_pages-page-items.result.now c.loop-page.page-index c.locks-locks.ensures c.self.invariant.seating.whole c.requires.seat c.loop-page-test.true c.held_pages-page-items.ensures.each in
    subst (λ (d : Layout). slice_index_or c.held_pages-page-items.result.now c.loop-page.page-index 0 < page_count d)
    (sym (ap (λ (store : StoreView). store.header.directory) c.loop-page.invariant ∙ (c.requires.directory ∙ ap (λ (x : Activity). x.reach.directory) (sym c.self.view_is))))
    (omega (arith, below, c.self.invariant.pages))

pub record_lines-requires-clause-before : goal.record_lines-requires-clause-before
record_lines-requires-clause-before c =
    before-page (activity_of c.self.inside) c.args.seat c.self.invariant c.held_pages-page-items.result.now c.held_pages-page-items.ensures.ascending
    (λ page. c.held_pages-page-items.ensures.each page ∙ ap (λ (h : Holding). holds_some (held_at h c.args.seat page)) c.locks-locks.ensures)
    c.self.inside.seats.holding.pages (pages-below c.self.inside.seats.holding c.locks-locks.result.now c.args.seat c.held_pages-page-items.result.now c.locks-locks.ensures c.self.invariant.seating.whole c.requires.seat c.held_pages-page-items.ensures.each)
    (activity_of c.self.inside).reach.pool c.args.store.now c.loop-page.store c.loop-page.page-index c.loop-page-test.true c.loop-page.invariant
    (ap (λ (begun : Option (List RecordLine)). unwrap_or begun []) c.requires.begun)

pub record_lines-requires-clause-room : goal.record_lines-requires-clause-room
record_lines-requires-clause-room c =
    let writes : c.held-writes.result.1 ≡ wrote (activity_of c.self.inside) c.args.seat (slice_index_or c.held_pages-page-items.result.now c.loop-page.page-index 0) =
    ap (λ (held : List ℕ × List ℕ). held.1) (c.held-writes.ensures ∙ ap (λ (h : Holding). held_at h c.args.seat (slice_index_or c.held_pages-page-items.result.now c.loop-page.page-index 0)) c.locks-locks.ensures) in
    let room = room-left (activity_of c.self.inside) c.args.seat c.self.invariant c.held_pages-page-items.result.now c.held_pages-page-items.ensures.ascending
    (λ page. c.held_pages-page-items.ensures.each page ∙ ap (λ (h : Holding). holds_some (held_at h c.args.seat page)) c.locks-locks.ensures)
    c.self.inside.seats.holding.pages (pages-below c.self.inside.seats.holding c.locks-locks.result.now c.args.seat c.held_pages-page-items.result.now c.locks-locks.ensures c.self.invariant.seating.whole c.requires.seat c.held_pages-page-items.ensures.each)
    (activity_of c.self.inside).reach.pool c.args.store.now c.loop-page.store c.loop-page.page-index c.loop-page-test.true c.loop-page.invariant
    (ap (λ (begun : Option (List RecordLine)). unwrap_or begun []) c.requires.begun) (subst (λ (x : Activity). size (locks_in x c.args.seat).writes ≤ most_lines c.args.store.now.header) (sym c.self.view_is) c.requires.few) in
    let same = ap (λ (store : StoreView). most_lines store.header) c.loop-page.invariant in
    let long = ap (λ (lines : List ℕ). length lines) writes in
    room_with (length (begun_of c.loop-page.store.bank)) _ _ _ _ long same room

pub loop-page-preserved : goal.loop-page-preserved
loop-page-preserved c =
    let writes : c.held-writes.result.1 ≡ wrote (activity_of c.self.inside) c.args.seat (slice_index_or c.held_pages-page-items.result.now c.loop-page.page-index 0) =
    ap (λ (held : List ℕ × List ℕ). held.1) (c.held-writes.ensures ∙ ap (λ (h : Holding). held_at h c.args.seat (slice_index_or c.held_pages-page-items.result.now c.loop-page.page-index 0)) c.locks-locks.ensures) in
    written-more (activity_of c.self.inside) c.args.seat c.self.invariant c.held_pages-page-items.result.now c.held_pages-page-items.ensures.ascending
    (λ page. c.held_pages-page-items.ensures.each page ∙ ap (λ (h : Holding). holds_some (held_at h c.args.seat page)) c.locks-locks.ensures)
    c.self.inside.seats.holding.pages (pages-below c.self.inside.seats.holding c.locks-locks.result.now c.args.seat c.held_pages-page-items.result.now c.locks-locks.ensures c.self.invariant.seating.whole c.requires.seat c.held_pages-page-items.ensures.each)
    (activity_of c.self.inside).reach.pool c.args.store.now c.loop-page.store c.loop-page.page-index c.loop-page-test.true c.loop-page.invariant
    (ap (λ (begun : Option (List RecordLine)). unwrap_or begun []) c.requires.begun) c.record_lines.new.store
    (c.record_lines.ensures ∙ (λ i. with_lines (c.pool.ensures i) (flat_lines (slice_index_or c.held_pages-page-items.result.now c.loop-page.page-index 0) (writes i)) c.loop-page.store))

pub returns : goal.returns
returns c = subst (λ (x : Activity). HasWritten x c.args.seat c.args.store.now c.loop-page.store) c.self.view_is (record {
  pages = c.held_pages-page-items.result.now;
  ascending = c.held_pages-page-items.ensures.ascending;
  all = λ page. c.held_pages-page-items.ensures.each page ∙ ap (λ (h : Holding). holds_some (held_at h c.args.seat page)) c.locks-locks.ensures;
  is = c.loop-page.invariant ∙ ap (λ (pages : List ℕ). with_lines (activity_of c.self.inside).reach.pool (written_of (activity_of c.self.inside) c.args.seat pages) c.args.store.now) (take_all c.loop-page.page-index c.held_pages-page-items.result.now c.loop-page-test.false);
})
