use Rattle.job_text.proofs.Lemmas.{big_events, big_ready, from_none}
use Rattle.job_text.proofs.transfer_job.big_job.Goals as goal

pub returns-clause-ready : goal.returns-clause-ready
returns-clause-ready c =
    big_ready c.args.transfers c.in_ok-job.job c.put_events.new.events c.requires c.in_ok-job.ensures.ready c.in_ok-job.ensures.three
    (from_none c.in_ok-job.job.events.items c.put_events.new.events.items (big_events c.args.transfers) c.in_ok-job.ensures.empty c.in_ok-put_events.ensures)
