use Rattle.drills.proofs.Lemmas.{◌≡◌, ◌+◌, ◌∙◌, cond, ap, sym, arith, counted_feed, counted_other}
use Rattle.drills.proofs.stops.commits_in.Goals.{then-byte-eq10, then-starts_with, else-starts_with, else-byte-eq10}
use Rattle.drills.proofs.stops.commits_in.Goals as goal

pub loop-index-preserved : goal.loop-index-preserved
loop-index-preserved c =
    let at = c.loop-index in
    elim c.if-byte-eq10.branch [
      | then-byte-eq10 w ↦ elim w.if-starts_with.branch [
        | then-starts_with w' ↦
            counted_feed c.args.printed.now at.start at.index at.count c.if-byte-eq10.start c.if-byte-eq10.count w.starts_with.result at.invariant c.loop-index-test.true w.if-byte-eq10.true w.starts_with.ensures.value
            (w.count-is ∙ w'.count-is ∙ ap (λ (b : _). at.count + cond b 1 0) (sym w'.if-starts_with.true)) w.start-is
        | else-starts_with w' ↦
            counted_feed c.args.printed.now at.start at.index at.count c.if-byte-eq10.start c.if-byte-eq10.count w.starts_with.result at.invariant c.loop-index-test.true w.if-byte-eq10.true w.starts_with.ensures.value
            (let none : at.count ≡ at.count + 0 = omega arith in w.count-is ∙ w'.count-is ∙ none ∙ ap (λ (b : _). at.count + cond b 1 0) (sym w'.if-starts_with.false)) w.start-is
      ]
      | else-byte-eq10 w ↦ counted_other c.args.printed.now at.start at.index at.count c.if-byte-eq10.start c.if-byte-eq10.count at.invariant c.loop-index-test.true w.if-byte-eq10.false w.count-is w.start-is
    ]
