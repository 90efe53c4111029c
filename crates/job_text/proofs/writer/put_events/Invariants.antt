use Rattle.job_text.proofs.Common.{◌≡◌, ◌++◌, map, take, flat_map, event_line, token_line}
use Rattle.job_text.proofs.writer.put_events.Given as goal

abbrev pub invariant-loop-event : goal.invariant-loop-event
invariant-loop-event l = l.text.items ≡ l.initial.text.items ++ flat_map token_line (map (event_line (map (λ name. name.items) l.names)) (take l.event-index l.events))
