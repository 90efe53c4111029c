use Rattle.drills.proofs.Lemmas.{rules, ℕ, get_or, ArrayVec, order_told, happened-left, left-same}
use Rattle.job_calls.proofs.NameLemmas.{name-unbroken}
use Rattle.schedule_replay.proofs.WentLemmas.{names_are}
use Rattle.drills.proofs.stops.run_copy.Goals as goal

pub returns : goal.returns
returns g c = record {
  left =
      λ number store standing.
      let G = g.W.Outside in let copied = c.in_ok-copy_of.ensures in let ended = c.try_job.result in
      left-same G c.in_ok-copy_of.field-0 c.args.job.now number store c.args.outside.now c.try_job.new.outside (order_told ended.order.items) ended.status copied.frames copied.names copied.programs copied.events
      (happened-left G c.in_ok-copy_of.field-0 number store c.args.outside.now c.try_job.new.outside (order_told ended.order.items) ended.session ended.status
      (names_are (λ (name : ArrayVec ℕ). name.items) c.in_ok-copy_of.field-0.names.items (λ k d within. name-unbroken (get_or c.in_ok-copy_of.field-0.names.items k d).items (copied.ready.names k d within)))
      g.met.W.Outside.fewer_later g.met.W.Outside.printed_now g.met.W.Outside.held_now standing c.try_job.ensures.happened);
  origin = c.try_job.ensures.happened.time.later.origin;
  disk = search rules;
}
