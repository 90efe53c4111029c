use Rattle.asm_parse.proofs.Common.{arith, body_of, elements, common_steps}
use Rattle.asm_parse.proofs.KeptLemmas.{are_kept, is_gained}
use Rattle.asm_parse.proofs.statements.Statements.push_whole.Goals as goal

pub invariant_of-self-in-Ok : goal.invariant_of-self-in-Ok
invariant_of-self-in-Ok c =
    rw c.in_ok-push.ensures.items (are_kept c.self.inside.nothing c.self.inside.wholes.items c.push_body.new.statements.items c.self.inside.heads.items c.len-place.result c.args.line c.args.label (body_of c.args.tokens.now) c.self.invariant (omega arith) c.in-Ok.ensures)

pub returns-in-Ok : goal.returns-in-Ok
returns-in-Ok c =
    rw (← c.self.view_is, c.in_ok-push.ensures.items) (is_gained c.self.inside.wholes.items c.push_body.new.statements.items c.self.inside.heads.items c.len-place.result c.args.line c.args.label (body_of c.args.tokens.now) c.self.invariant.each (omega arith) c.in-Ok.ensures)

pub invariant_of-self-in-Err : goal.invariant_of-self-in-Err
invariant_of-self-in-Err c = grind (arith, elements)

pub returns-in-Err : goal.returns-in-Err
returns-in-Err c = grind (arith, common_steps)

pub overflow_cast-place : goal.overflow_cast-place
overflow_cast-place c = grind (arith, common_steps)
