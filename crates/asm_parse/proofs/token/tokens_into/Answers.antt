use Rattle.asm_parse.proofs.Lemmas.{sym, arith, ◌∙◌, ap, Blank, Comment, Takes, Bad, pushed, pushed_few, step, behind_none, behind_full, behind_all, found_kept}
use Rattle.std.proofs.Common.{Ok}
use Rattle.asm_parse.proofs.token.tokens_into.Goals as goal

pub loop-first-init : goal.loop-first-init
loop-first-init c = rw c.clear.ensures.items (record { few = omega arith; so_far = behind_none _ })

pub loop-first-preserved-in-Blank : goal.loop-first-preserved-in-Blank
loop-first-preserved-in-Blank c = record {
  few = c.loop-first.invariant.few;
  so_far = step c.loop-first.found.items c.loop-first.left.now c.in-Some.rest.now c.in-Some.first.now Blank _ c.in-Some.ensures.cases.0 c.in-Blank.ensures.value c.loop-first.invariant.so_far;
}

pub loop-first-preserved-then-len-eq-MOST_TOKENS : goal.loop-first-preserved-then-len-eq-MOST_TOKENS
loop-first-preserved-then-len-eq-MOST_TOKENS c = rw c.split_at.ensures.back (record {
  few = c.loop-first.invariant.few;
  so_far = behind_full c.loop-first.found.items c.in-Takes.field-0 _ (omega arith)
      ∙ step c.loop-first.found.items c.loop-first.left.now c.in-Some.rest.now c.in-Some.first.now (Takes c.in-Takes.field-0 c.in-Takes.more) _ c.in-Some.ensures.cases.0 c.in-Takes.ensures.value c.loop-first.invariant.so_far;
})

pub loop-first-preserved : goal.loop-first-preserved
loop-first-preserved c =
    rw c.split_at-in-Takes-2.ensures.back (record {
      few = pushed_few c.loop-first.found.items c.push.new.self.items _ (omega arith) c.in_ok-push-in-Takes-2.ensures.items;
      so_far = pushed c.loop-first.found.items c.push.new.self.items c.in-Takes.field-0 _ _ c.in_ok-push-in-Takes-2.ensures.items
          (step c.loop-first.found.items c.loop-first.left.now c.in-Some.rest.now c.in-Some.first.now (Takes c.in-Takes.field-0 c.in-Takes.more) _ c.in-Some.ensures.cases.0 c.in-Takes.ensures.value c.loop-first.invariant.so_far);
    })

pub returns-in-Comment : goal.returns-in-Comment
returns-in-Comment c =
    sym (step c.loop-first.found.items c.loop-first.left.now c.in-Some.rest.now c.in-Some.first.now Comment _ c.in-Some.ensures.cases.0 c.in-Comment.ensures.value c.loop-first.invariant.so_far)
    ∙ ap Ok (found_kept c.loop-first.found.items c.loop-first.invariant.few)

pub returns-in-Bad : goal.returns-in-Bad
returns-in-Bad c =
    sym (step c.loop-first.found.items c.loop-first.left.now c.in-Some.rest.now c.in-Some.first.now (Bad c.in-Bad.kind) _ c.in-Some.ensures.cases.0 c.in-Bad.ensures.value c.loop-first.invariant.so_far)

pub returns : goal.returns
returns c = behind_all c.loop-first.found.items c.loop-first.left.now _ c.loop-first.invariant.few c.in_default.ensures.cases c.loop-first.invariant.so_far
