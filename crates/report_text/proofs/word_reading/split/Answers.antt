use Rattle.report_text.proofs.Common.{◌≡◌, ◌+◌, ◌-◌, length, take, drop, sym, ◌∙◌, arith}
use Rattle.std.proofs.lemmas.Grind.{common_steps}
use Rattle.report_text.proofs.WordLemmas.{cut_at, uncut}
use Rattle.report_text.proofs.word_reading.split.Goals as goal

pub returns-in-Some-clause-parts : goal.returns-in-Some-clause-parts
returns-in-Some-clause-parts c = λ word words one is.
    let text = c.args.text.now in
    let at = c.in-Some.at in
    let cut = cut_at text at word words (sym c.place_of.ensures.value ∙ c.in-Some.is) one is in
    let rest : take (length text - (at + 1)) (drop (at + 1) text) ≡ drop (at + 1) text = grind (arith, common_steps) in
    (cut.0, rest ∙ cut.1)

pub returns-in-None-clause-parts : goal.returns-in-None-clause-parts
returns-in-None-clause-parts c = λ word words one is.
    uncut c.args.text.now word words (sym c.place_of.ensures.value ∙ c.in-None.is) one is
