use Rattle.standby.proofs.Lemmas.{◌+◌, ◌∷◌, ◌++◌, List, ℕ, length, drop, sym, ap, ◌∙◌, arith, length-take-le, take_rest, encode_lower, lower_digits, length-encode_with, cut_at, hex_word, parts_at, uncut}
use Rattle.standby.proofs.ship_reading.held_of.Goals as goal

pub returns-in-Some-2 : goal.returns-in-Some-2
returns-in-Some-2 c =
    let text = c.args.text.now in let at = c.in-Some.at in
    let told = rw c.in-Some-2.is at c.in_ok-held-in-Some.ensures in let digits = told.0 in
    let long = length-take-le at text (omega (arith, c.in-Some.ensures.inside)) in (
      omega (arith, ap length digits, long, length-encode_with lower_digits c.in-Some-2.held.items, c.if-at-from.false, c.from.ensures),
      told.1,
      parts_at 10 at text (sym c.place_of.ensures.value ∙ c.in-Some.is)
          ∙ ap (λ (these : List ℕ). these ++ 10 ∷ drop (at + 1) text) digits
          ∙ ap (λ (these : List ℕ). encode_lower c.in-Some-2.held.items ++ 10 ∷ these) (sym (take_rest text (at + 1))),
    )

pub returns-then-at-from : goal.returns-then-at-from
returns-then-at-from c = λ one that.
    let cut = cut_at 10 c.in-Some.at c.args.text.now (encode_lower one.0) one.1 (omega arith) (hex_word one.0 that.1) (sym c.place_of.ensures.value ∙ c.in-Some.is) that.2 in
    absurd (omega (arith, cut.0, that.0, length-encode_with lower_digits one.0, c.if-at-from.true, c.from.ensures))

pub returns-in-None-2 : goal.returns-in-None-2
returns-in-None-2 c = λ one that.
    let cut = cut_at 10 c.in-Some.at c.args.text.now (encode_lower one.0) one.1 (omega arith) (hex_word one.0 that.1) (sym c.place_of.ensures.value ∙ c.in-Some.is) that.2 in
    let none = rw c.in-None-2.is at c.in_ok-held-in-Some.ensures in
    none one.0 that.1 cut.1

pub returns-in-None : goal.returns-in-None
returns-in-None c = λ one that.
    uncut 10 c.args.text.now (encode_lower one.0) one.1 (omega arith) (hex_word one.0 that.1) (sym c.place_of.ensures.value ∙ c.in-None.is) that.2
