use Rattle.standby.proofs.Lemmas.{◌+◌, decimal, sym, ◌∙◌, take_rest, number_word, cut_at, uncut}
use Rattle.standby.proofs.digit_reading.number_to.Goals as goal

pub returns-in-Some : goal.returns-in-Some
returns-in-Some c = λ n rest small is.
    let cut = cut_at c.args.stop c.in-Some.at c.args.text.now (decimal n) rest c.requires (number_word n small) (sym c.place_of.ensures.value ∙ c.in-Some.is) is in
    (c.number.ensures n small cut.1, take_rest c.args.text.now (c.in-Some.at + 1) ∙ cut.2)

pub returns-in-None : goal.returns-in-None
returns-in-None c = λ n rest small is.
    absurd (uncut c.args.stop c.args.text.now (decimal n) rest c.requires (number_word n small) (sym c.place_of.ensures.value ∙ c.in-None.is) is)
