use Rattle.report_text.proofs.word_reading.behind.Goals as goal

pub returns-clause-parts : goal.returns-clause-parts
returns-clause-parts c = λ word words one is. (c.split.ensures.parts word words one is).1
