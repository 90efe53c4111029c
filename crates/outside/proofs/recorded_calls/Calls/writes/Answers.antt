use Rattle.outside.proofs.Lemmas.{count_by, ap, sym, ◌∙◌, is_write, writes-of}
use Rattle.outside.proofs.recorded_calls.Calls.writes.Goals as goal

pub returns : goal.returns
returns c = c.writes_of.ensures ∙ ap (count_by (λ run. is_write run.call)) c.deref.ensures.value ∙ sym (writes-of c.args.self.now.runs.items c.args.self.now.asked)
