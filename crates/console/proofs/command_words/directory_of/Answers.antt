use Rattle.console.proofs.Lemmas.{◌≡◌, ℕ, List, ◌++◌, ap, ◌∙◌, sym, subst, AreSegmentsLegal, AreFlags, flags_few, one_spread}
use Rattle.console.proofs.command_words.directory_of.Goals as goal

pub returns-in-Err : goal.returns-in-Err
returns-in-Err c = λ directory has.
    let segments = directory.segments in let fine = directory.fine in let (page, is, legal, flags) = has in
    let (more, same, added, low) = c.in_ok-fine.ensures.flags in
    let spreads = one_spread more segments c.in_ok-fine.fine fine low (flags_few c.args.page segments fine flags) (sym same ∙ is) in
    let items : c.as_slice.result.now ≡ segments = c.as_slice.ensures.value ∙ added ∙ ap (λ (these : List (ℕ × ℕ)). these ++ more) c.new-segments.ensures ∙ spreads.0 in
    let no = c.in-Err.ensures.legal.1
    (subst (λ (these : List (ℕ × ℕ)). AreSegmentsLegal these) (sym items) legal, subst (λ (these : List (ℕ × ℕ)). AreFlags c.args.page these c.in_ok-fine.fine) (sym items) (subst (λ (n : ℕ). AreFlags c.args.page segments n) (sym spreads.1) flags)) in
    cc
