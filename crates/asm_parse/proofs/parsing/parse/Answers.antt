use Rattle.asm_parse.proofs.Lemmas.{◌≡◌, ℕ, List, Bor, Err, arith, ap, sym, ◌∙◌, subst, option_map, line_meaning, common_steps, all_read, line_faulty, line_read, gained_one, behind_shorter, left_of}
use Rattle.asm_parse.specs.declared.asm_fault.LineFault.{LineFault}
use Rattle.asm_parse.specs.Answers.{IsFaultOf}
use Rattle.asm_parse.proofs.parsing.parse.Goals as goal

pub loop-left-preserved : goal.loop-left-preserved
loop-left-preserved c =
    let inside = behind_shorter c.in-Some.rest.now _ c.first_line.ensures.behind in
    let gains = c.in-Ok.ensures in
    let one = gained_one c.loop-left.statements.items c.push_line.new.statements.items _ gains in
    let left = ap (λ left. left_of (option_map (λ (text : Bor (List ℕ)). text.now) left)) c.in-Some.is in
    record {
      so_far = line_read c.loop-left.statements.items _ c.loop-left.number c.in-Some.rest.now c.first_line.result.0.now _ _ c.first_line.ensures.line c.first_line.ensures.behind gains (rw c.in-Some.is at c.loop-left.invariant.so_far);
      number = omega arith;
      few = omega arith;
    }

pub returns-clause-value : goal.returns-clause-value
returns-clause-value c =
    all_read c.loop-left.statements.items c.loop-left.number (option_map (λ text. text.now) c.loop-left.left) _ (ap (option_map (λ text. text.now)) c.in_default.is) c.loop-left.invariant.so_far

pub returns-in-Err-Kind-clause-value : goal.returns-in-Err-Kind-clause-value
returns-in-Err-Kind-clause-value c =
    let told : line_meaning c.loop-left.number c.first_line.result.0.now ≡ Err c.in-Err-Kind.kind =
    subst (λ (fault : LineFault). IsFaultOf fault (line_meaning c.loop-left.number c.first_line.result.0.now)) c.in-Err-Kind.field-0-is c.in-Err-Kind.ensures.0 in
    line_faulty c.loop-left.statements.items c.loop-left.number c.in-Err-Kind.kind c.in-Some.rest.now c.first_line.result.0.now _ c.first_line.ensures.line told (rw c.in-Some.is at c.loop-left.invariant.so_far)
    ∙ ap (λ (kind : ℕ). Err (c.loop-left.number, kind)) (sym c.in-Err-Kind.kind-is)

pub loop-left-smaller : goal.loop-left-smaller
loop-left-smaller c = grind (arith, common_steps)
