use Rattle.job_calls.proofs.Common.{rules, order_told, call, given}
use Rattle.job_calls.proofs.RunLemmas.{happens}
use Rattle.job_calls.proofs.run.run_source.Goals as goal

pub returns-in-Ok : goal.returns-in-Ok
returns-in-Ok g c =
    let (text, whole, means) = c.in-Ok.ensures.means in let ended = c.try_job.result in
    let did = happens g.W.Outside text c.in-Ok.job (given g.S.Source c.args.source.now c.job_from.new.source) (call c.args.outside.now c.try_job.new.outside (order_told ended.order.items) ended.status) ended.session whole means c.try_job.ensures.happened c.try_job.ensures.runs in
    record { read = search rules; opened = search rules; faults = search rules; happened = did; handed = search rules; fits = search rules; only = search rules }
