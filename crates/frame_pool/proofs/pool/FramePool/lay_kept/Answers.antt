use Rattle.frame_pool.proofs.Lemmas.{◌≡◌, sym, ◌∙◌, ap, range_with_len, lines_of_bits, marks_at, frame_at, is_seen}
use Rattle.frame_pool.proofs.LayLemmas.{all-lines, whole-laid}
use Rattle.frame_pool.proofs.pool.FramePool.lay_kept.Goals as goal

pub returns-then-bits-clause-value : goal.returns-then-bits-clause-value
returns-then-bits-clause-value c =
    let all : range_with_len 0 16 ≡ marks_at c.args.self.now c.args.page =
    sym all-lines ∙ ap lines_of_bits (sym c.if-bits.true) ∙ c.bits.ensures ∙ c.written-marks.ensures in
    let there = ap (λ pool. frame_at pool c.args.page) (sym c.self.view_is) ∙ sym c.frame_of.ensures ∙ c.in-Some.is in
    c.lay_page.ensures.value ∙ whole-laid c.args.self.now c.args.page c.in-Some.frame (is_seen c.self.inside c.args.self.now c.self.invariant c.self.view_is) c.requires there all
