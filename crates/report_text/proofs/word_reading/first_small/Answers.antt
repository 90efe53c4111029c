use Rattle.report_text.proofs.Lemmas.{decimal, arith, number_word}
use Rattle.report_text.proofs.word_reading.first_small.Goals as goal

pub returns-clause-parts : goal.returns-clause-parts
returns-clause-parts c = λ n words small is.
    let cut = c.split.ensures.parts (decimal n) words (number_word n (omega arith)) is in
    (c.small.ensures n small cut.0, cut.1)
