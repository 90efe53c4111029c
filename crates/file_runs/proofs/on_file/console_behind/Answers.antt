use Rattle.file_runs.proofs.Common.{given, inr, subst, List, ℕ}
use Rattle.file_runs.proofs.FileLemmas.{told, held_is}
use Rattle.call_status.specs.Opening.{IsStanding}
use Rattle.console.specs.Words.{IsForm}
use Rattle.console.specs.declared.command_words.Command.{Command}
use Rattle.file_runs.proofs.WordLemmas.{did_on_file, did_on_screen, same_origin}
use Rattle.file_runs.proofs.NeedLemmas.{has_all_of}
use Rattle.file_runs.proofs.on_file.console_behind.Goals as goal

pub returns-clause-same : goal.returns-clause-same
returns-clause-same g c form is on_file =
    let ran = c.console in
    same_origin g.W.Outside form (given g.S.Source c.args.job.now ran.new.job) c.args.outside.now ran.new.outside ran.result on_file (ran.ensures.did form is)

pub returns-clause-did : goal.returns-clause-did
returns-clause-did g c form is first deeds puts starved behind =
    let ran = c.console in
    did_on_file g.W.Outside c.args.outside.now ran.new.outside first deeds puts starved behind (given g.S.Source c.args.job.now ran.new.job) ran.result form
    (λ runs went.
    let told = told g.W.Outside c.args.outside.now ran.new.outside first puts behind.screen in
    subst (λ (bytes : List ℕ). IsStanding bytes) (held_is g.W.Outside c.args.outside.now ran.new.outside first puts behind.screen)
    ((ran.ensures.opened (inr (subst (λ (form : Command). IsForm form c.args.words.now) runs is))).store went told))
    (ran.ensures.did form is)

pub returns-clause-shown : goal.returns-clause-shown
returns-clause-shown g c form is first puts starved behind calm =
    let ran = c.console in
    did_on_screen g.W.Outside c.args.outside.now ran.new.outside first puts behind starved calm (given g.S.Source c.args.job.now ran.new.job) ran.result form (ran.ensures.did form is)

pub returns-clause-complete : goal.returns-clause-complete
returns-clause-complete g c form is first honest held has =
    let ran = c.console in
    let from = given g.S.Source c.args.job.now ran.new.job in
    ran.ensures.complete (record { form = form; asks = is; has = has_all_of g.W.Outside c.args.outside.now first honest held from.left form has })
