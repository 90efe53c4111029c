use Rattle.frame_pool.proofs.Common.{◌≡◌, ℕ, ◌<◌, length, All, fold, line_laid, IsSeen}
use Rattle.frame_pool.proofs.pool.FramePool.lay_lines.Given as goal

-- the lines that are left lie over what lies there
abbrev pub invariant-loop-line : goal.invariant-loop-line
invariant-loop-line l =
    record {
      same : fold (line_laid l.page l.frame) l.self l.line-iterator.left ≡ fold (line_laid l.page l.frame) l.initial.self l.initial.line-iterator.left;
      below : All (λ (line : ℕ). line < 16) l.line-iterator.left;
      pages : length l.self.frame_of ≡ length l.initial.self.frame_of;
      size : l.self.page ≡ l.initial.self.page;
      seen : IsSeen l.initial.self → IsSeen l.self;
      frames : l.self.frames ≡ l.initial.self.frames;
    }
