use Rattle.standby.proofs.Lemmas.{◌≡◌, ◌∷◌, ◌++◌, List, ℕ, decimal, drop, sym, ap, ◌∙◌, arith, record_line, record_parts}
use Rattle.standby.proofs.ship_reading.count_of.Goals as goal

pub returns-in-Some : goal.returns-in-Some
returns-in-Some c = (omega (arith, c.if-lines-count.false), c.in-Some.ensures ∙ ap (λ (line : List ℕ). line ++ c.in-Some.rest.now) (c.as_slice.ensures ∙ c.fill_record.ensures))

pub returns-in-None : goal.returns-in-None
returns-in-None c = λ one that.
    let skipped : c.skip.result.now ≡ decimal c.args.number ++ 32 ∷ (decimal one.0 ++ 10 ∷ one.1) = c.skip.ensures ∙ ap (λ (text : List ℕ). drop 7 text) (that.1 ∙ record_parts c.args.number one.0 one.1) in
    let first = c.number_to.ensures c.args.number (decimal one.0 ++ 10 ∷ one.1) c.ranges.number.fits skipped in
    let second = c.number_to-count.ensures one.0 one.1 (omega (arith, that.0, c.ranges.lines.fits)) first.1 in
    let many = c.small-count.ensures (omega (arith, that.0, c.ranges.lines.fits, second.0)) ∙ second.0 in
    c.in-None.ensures one.1 (that.1 ∙ ap (λ (n : ℕ). record_line c.args.number n ++ one.1) (sym many) ∙ ap (λ (line : List ℕ). line ++ one.1) (sym (c.as_slice.ensures ∙ c.fill_record.ensures)))
