use Rattle.frame_pool.proofs.Lemmas.{◌<◌, ℕ, List, length, sym, ◌∙◌, ap, subst, All, fold, All-head, All-tail, Pool, line_laid, nat_tests, arith, lines-below}
use Rattle.frame_pool.proofs.pool.FramePool.lay_lines.Goals as goal

pub loop-line-init : goal.loop-line-init
loop-line-init c = grind (arith, nat_tests, lines-below c.args.lines c.lines-line-items.ensures.of_page)

pub lay_line-requires-clause-frame : goal.lay_line-requires-clause-frame
lay_line-requires-clause-frame c = rw (c.loop-line.invariant.size, c.loop-line.invariant.frames) c.requires.1

pub lay_line-requires-clause-line : goal.lay_line-requires-clause-line
lay_line-requires-clause-line c =
    All-head (λ (line : ℕ). line < 16) c.in-Some.line c.next.new.self.left
    (subst (λ (set : List ℕ). All (λ (line : ℕ). line < 16) set) c.in-Some.ensures.steps c.loop-line.invariant.below)

pub loop-line-preserved : goal.loop-line-preserved
loop-line-preserved c =
    record {
      same = ap (λ (pool : Pool). fold (line_laid c.args.page c.args.frame) pool c.next.new.self.left) c.lay_line.ensures.value
          ∙ sym (ap (fold (line_laid c.args.page c.args.frame) c.loop-line.self) c.in-Some.ensures.steps)
          ∙ c.loop-line.invariant.same;
      below = All-tail (λ (line : ℕ). line < 16) c.in-Some.line c.next.new.self.left
          (subst (λ (set : List ℕ). All (λ (line : ℕ). line < 16) set) c.in-Some.ensures.steps c.loop-line.invariant.below);
      pages = ap (λ (pool : Pool). length pool.frame_of) c.lay_line.ensures.value ∙ c.loop-line.invariant.pages;
      size = ap (λ (pool : Pool). pool.page) c.lay_line.ensures.value ∙ c.loop-line.invariant.size;
      seen = λ before. c.lay_line.ensures.seen;
      frames = ap (λ (pool : Pool). pool.frames) c.lay_line.ensures.value ∙ c.loop-line.invariant.frames;
    }
