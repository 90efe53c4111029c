use Rattle.job_text.proofs.Lemmas.{◌≡◌, ap, ◌∙◌, ◌++◌, arith, map, flat_map, range_with_len, transfer, turns_of, some_more, three_more, common_steps}
use Rattle.job_text.proofs.transfer_job.put_batch.Goals as goal

pub loop-round-preserved : goal.loop-round-preserved
loop-round-preserved c = grind (arith, common_steps, some_more)

pub returns : goal.returns
returns c =
    let all : c.loop-round._round ≡ c.args.count = omega arith in
    three_more c.args.events.now.items c.put_begins.new.events.items c.put_turns.new.events.items c.loop-round.events.items (map transfer (range_with_len c.args.first c.args.count)) (turns_of 7 c.args.first c.args.count) (flat_map (λ round. turns_of 50 c.args.first c.args.count) (range_with_len 0 c.args.count))
    c.in_ok-put_begins.ensures c.in_ok-put_turns.ensures
    (c.loop-round.invariant ∙ ap (λ n. c.put_turns.new.events.items ++ flat_map (λ round. turns_of 50 c.args.first c.args.count) (range_with_len 0 n)) all)
