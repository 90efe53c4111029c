use Rattle.frame_pool.proofs.Lemmas.{◌≡◌, ℕ, ◌+◌, ◌*◌, sym, ◌∙◌, ap, arith, subst, slice_range, unwrap_or, Option, Some, page_bytes, place_left, pool_places, frame_at, paging_after, pool_shown, nat_tests, frame-at_resident, frame_within, frame-part, kept-after_by, left-gone, pool-seen, Pool, marks_at, true, has}
use Rattle.frame_pool.proofs.pool.FramePool.leave.Goals.{After-unwrap_or-frame}
use Rattle.frame_pool.proofs.pool.FramePool.leave.Goals as goal

-- the page is resident, in this frame
there : (c : After-unwrap_or-frame) → frame_at (pool_shown c.self.inside) c.args.page ≡ Some c.unwrap_or-frame.result
there c =
    let resident = subst (λ (pool : Pool). has pool.resident c.args.page ≡ true) (sym c.self.view_is) c.requires in
    frame-at_resident c.self.inside c.args.page c.unwrap_or-frame.result resident
    (c.unwrap_or-frame.ensures ∙ ap (λ (o : Option ℕ). unwrap_or o 0) c.frame_of.ensures)

pub part-requires : goal.part-requires
part-requires c =
    let pool = pool_shown c.self.inside in
    let seen = pool-seen c.self.inside c.self.invariant in
    let is = there (goal.at.part-requires c).After-unwrap_or-frame in
    let part = frame-part pool c.unwrap_or-frame.result seen (frame_within pool c.args.page c.unwrap_or-frame.result seen is) in
    grind (arith, nat_tests, part)

pub returns-clause-value : goal.returns-clause-value
returns-clause-value c =
    let p = c.self.inside in
    let page : ℕ = c.args.page in
    let frame : ℕ = c.unwrap_or-frame.result in
    let is = there (goal.at.returns-clause-value c).After-unwrap_or-frame in
    let marks = c.written-marks.ensures ∙ ap (λ pool. marks_at pool page) (sym c.self.view_is) in
    let after : pool_places c.leave.new.self ≡ place_left (pool_places p.places) page frame =
    c.leave.ensures ∙ ap (place_left (pool_places p.places) page) (ap (λ (o : Option ℕ). unwrap_or o 0) is) in
    let part : c.part.result.now ≡ slice_range p.bytes (frame * page_bytes p.places.page) (frame * page_bytes p.places.page + page_bytes p.places.page) =
    c.part.ensures
    ∙ ap (λ (n : ℕ). slice_range p.bytes n (n + c.page_bytes.result)) c.page_place-2.ensures.value
    ∙ ap (λ (n : ℕ). slice_range p.bytes (frame * page_bytes p.places.page) (frame * page_bytes p.places.page + n)) c.page_bytes.ensures.value in
    let kept : c.keep_over.new.kept ≡ paging_after (pool_shown p) page frame =
    kept-after_by p page frame c.page_place.result c.written-marks.result c.part.result.now c.keep_over.new.kept marks c.page_place.ensures.value part c.keep_over.ensures.value in
    rw (← c.self.view_is) (left-gone p page frame (pool_places c.leave.new.self) c.keep_over.new.kept is after kept)
