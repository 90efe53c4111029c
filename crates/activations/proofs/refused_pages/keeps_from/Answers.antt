use Rattle.activations.proofs.Common.{list_any, or_left, or_right, nat_tests, LinesOf, of_page-below, has, Authority, grant_of, lets, ◌≡◌, ◌==◌, ◌||◌, ℕ, Bool, List, not, sym, ◌∙◌, ap, arith}
use Rattle.activations.proofs.refused_pages.keeps_from.Goals as goal

-- whether a line is kept from an identifier
abbrev is_kept : Authority → (tid : ℕ) → (store : Bool) → (line : ℕ) → Bool
is_kept entry tid store line = not (lets (grant_of entry) tid line store)

pub loop-line-init : goal.loop-line-init
loop-line-init c =
    let is : c.into_iter-line-iterator.result.left ≡ c.args.lines =
    ap (λ (lines : LinesOf). lines.left) c.into_iter-line-iterator.ensures.into_iter_gives ∙ c.lines-line-items.ensures.value in
    record {
      same = ap (list_any (is_kept c.args.entry.now c.args.tid c.args.store)) is;
      below = λ line inside. of_page-below c.args.lines c.lines-line-items.ensures.of_page line (sym (ap (λ (set : List ℕ). has set line) is) ∙ inside);
    }

pub permits-requires : goal.permits-requires
permits-requires c =
    let rest = c.next.new.self.left in let line = c.in-Some.line in
    c.loop-line.invariant.below line (ap (λ (set : List ℕ). has set line) c.in-Some.ensures.steps ∙ or_left (line == line) (has rest line) (grind (arith, nat_tests)))

pub loop-line-preserved : goal.loop-line-preserved
loop-line-preserved c =
    let rest = c.next.new.self.left in let kept = is_kept c.args.entry.now c.args.tid c.args.store in
    record {
      same = ap (λ (here : Bool). here || list_any kept rest) (ap not c.if-not-permits.ensures) ∙ sym (ap (list_any kept) c.in-Some.ensures.steps) ∙ c.loop-line.invariant.same;
      below = λ line inside.
          c.loop-line.invariant.below line (ap (λ (set : List ℕ). has set line) c.in-Some.ensures.steps ∙ or_right (c.in-Some.line == line) (has rest line) inside);
    }
