use Rattle.console.proofs.Lemmas.{false, ◌∙◌, ap, sym, arith, None, option_map, without_mark}
use Rattle.std.proofs.lemmas.Str.Pattern.{strip_suffix_char}
use Rattle.console.proofs.command_words.marked_of.Goals as goal

pub returns-in_err-number_of-in-None : goal.returns-in_err-number_of-in-None
returns-in_err-number_of-in-None c =
    c.from_residual-in_err-number_of-in-None.ensures
    ∙ sym (without_mark c.args.word.now (strip_suffix_char 102 c.args.word.now None c.in-None.ensures.cases (omega arith)) ∙ ap (option_map (λ number. (number, false))) (sym c.number_of-in-None.ensures ∙ c.in_err-number_of-in-None.was))
