use Rattle.job_calls.proofs.BigLemmas.{big_text, shown_dash, shown_hex}
use Rattle.job_calls.proofs.load_run.fill.Goals as goal

pub returns-in_default-clause-text : goal.returns-in_default-clause-text
returns-in_default-clause-text c =
    big_text c.begin.new.self c.number.new.self c.part.new.self c.part-2.new.self c.word.new.self c.hex.new.self _ c.from.result c.from-2.result c.from-3.result c.args.transfers c.args.commits c.args.rollbacks c.args.out.now
    c.begin.ensures c.number.ensures.value c.part.ensures.value c.part-2.ensures.value c.word.ensures.value c.hex.ensures.value c.from.ensures c.from-2.ensures c.from-3.ensures (shown_hex c.args.out.now c.in_default.len_at_least)

pub returns-in-empty-clause-text : goal.returns-in-empty-clause-text
returns-in-empty-clause-text c =
    big_text c.begin.new.self c.number.new.self c.part.new.self c.part-2.new.self c.word.new.self c.word-in-empty.new.self _ c.from.result c.from-2.result c.from-3.result c.args.transfers c.args.commits c.args.rollbacks c.args.out.now
    c.begin.ensures c.number.ensures.value c.part.ensures.value c.part-2.ensures.value c.word.ensures.value c.word-in-empty.ensures.value c.from.ensures c.from-2.ensures c.from-3.ensures (shown_dash c.args.out.now c.in-empty.len_below)
