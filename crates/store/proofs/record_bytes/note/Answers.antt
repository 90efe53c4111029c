use Rattle.store.proofs.Lemmas.{nat_tests, ◌+◌, List, ℕ, sym, subst, ◌∙◌, ap, arith, Option, wrong_line, noted, AreNewestWithin, entries-below, within-overlaid, read_line, length, lines_after, noted_here, all_left}
use Rattle.store.proofs.NoteLemmas.{in_order}
use Rattle.store.proofs.record_bytes.note.Goals as goal

pub loop-i-init : goal.loop-i-init
loop-i-init c = grind (arith, nat_tests, all_left)

pub write-requires : goal.write-requires
write-requires c =
    let read = read_line c.args.page c.args.body.now c.entries_bytes-at.result c.loop-i.i c.read_u32-line.result c.read_u32-line.ensures c.entries_bytes-at.ensures.value in
    let first = in_order c.args.page c.args.count c.loop-i.i (c.args.gate + 11) 10 c.read_u32-line.result
    c.args.body.now c.loop-i-test.true read (length c.loop-i.newest) c.loop-i.invariant.ordered.0 c.loop-i.invariant.ordered.1 in
    omega (arith, first.below)

pub loop-i-preserved : goal.loop-i-preserved
loop-i-preserved c =
    let read = read_line c.args.page c.args.body.now c.entries_bytes-at.result c.loop-i.i c.read_u32-line.result c.read_u32-line.ensures c.entries_bytes-at.ensures.value in
    let first = in_order c.args.page c.args.count c.loop-i.i (c.args.gate + 11) 10 c.read_u32-line.result
    c.args.body.now c.loop-i-test.true read (length c.loop-i.newest) c.loop-i.invariant.ordered.0 c.loop-i.invariant.ordered.1 in
    record {
      noted =
          ap (λ (these : List (Option ℕ)). noted these (lines_after c.args.page c.args.count (c.loop-i.i + 1) (c.args.gate + 11) 10 c.args.body.now)) c.write.ensures.value
          ∙ sym (noted_here c.args.page c.args.count c.loop-i.i (c.args.gate + 11) 10 c.read_u32-line.result c.args.body.now
          c.loop-i-test.true read c.loop-i.newest _ (omega (arith, c.entries_bytes-at.ensures.value)))
          ∙ c.loop-i.invariant.noted;
      ordered = (
        c.read_u32-line.result + 1,
        ap (λ (n : ℕ). wrong_line n (c.read_u32-line.result + 1)
            (lines_after c.args.page c.args.count (c.loop-i.i + 1) (c.args.gate + 11) 10 c.args.body.now)) c.write.ensures.len ∙ first.rest,
      );
      placed = λ end few are.
          subst (λ (these : List (Option ℕ)). AreNewestWithin c.args.page end these) (sym c.write.ensures.value)
          (within-overlaid c.args.page end c.read_u32-line.result _ c.loop-i.newest (omega (arith, few, c.entries_bytes-at.ensures.value, entries-below c.args.page c.loop-i.i c.args.count c.loop-i-test.true)) (c.loop-i.invariant.placed end few are));
      len = c.write.ensures.len ∙ c.loop-i.invariant.len;
    }

pub slice_bounds-read_u32-count : goal.slice_bounds-read_u32-count
slice_bounds-read_u32-count c = grind arith

pub slice_bounds-read_u32-start : goal.slice_bounds-read_u32-start
slice_bounds-read_u32-start c = grind arith
