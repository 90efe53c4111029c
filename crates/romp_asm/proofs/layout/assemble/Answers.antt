use Rattle.romp_asm.proofs.Lemmas.{[], ◌++◌, append-nil, refl, err_from_is_err_and, LaidTo, laid_all, laid_none, text_as_itself, arith, common_steps}
use Rattle.romp_asm.proofs.layout.assemble.Goals as goal
use Rattle.romp_asm.proofs.layout.assemble.Goals.{After-add_text}

start : (c : goal.After-add_text) → LaidTo c.args.statements.now [] (c.args.statements.now ++ []) c.new-output.result
start c = grind (arith, common_steps, append-nil, laid_none)

pub returns-in_err-add_text : goal.returns-in_err-add_text
returns-in_err-add_text c =
    let all = c.args.statements.now in
    let told = err_from_is_err_and c.from_residual-in_err-add_text.result c.from_residual-in_err-add_text.ensures.1 in
    rw (told.1, told.2) (c.in_err-add_text.ensures all [] [] all (text_as_itself _ all c.in_ok-table.ensures.found (λ word. rw c.new-givers.ensures.empty refl)) (start (goal.at.returns-in_err-add_text c).After-add_text))

pub returns : goal.returns
returns c =
    let all = c.args.statements.now in
    laid_all all c.add_text.new.output c.finish.result (c.in_ok-add_text.ensures all [] [] all (text_as_itself _ all c.in_ok-table.ensures.found (λ word. rw c.new-givers.ensures.empty refl)) (start (goal.at.returns c).After-add_text)) c.finish.ensures.image c.finish.ensures.entry c.finish.ensures.windows
