use Rattle.activations.proofs.Common.{list_any, has, grant_of, lets, ◌≡◌, ℕ, ◌<◌, not, true}
use Rattle.activations.proofs.refused_pages.keeps_from.Given as goal

-- the lines so far are let
abbrev pub invariant-loop-line : goal.invariant-loop-line
invariant-loop-line l =
    record {
      same : list_any (λ line. not (lets (grant_of l.entry) l.tid line l.store)) l.line-iterator.left ≡ list_any (λ line. not (lets (grant_of l.entry) l.tid line l.store)) l.fn.lines;
      below : (line : ℕ) → has l.line-iterator.left line ≡ true → line < 16;
    }
