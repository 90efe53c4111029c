use Rattle.standby.proofs.Lemmas.{◌<◌, [], ◌∷◌, ap, arith, decimal, encode_lower, feeds, number_word, All-from_get_or, feeds_append, hex_word, word_plain}
use Rattle.standby.proofs.ship_filling.fill_line.Goals as goal

pub returns-clause-one : goal.returns-clause-one
returns-clause-one c =
    let hex = word_plain (encode_lower c.args.bytes.now) (hex_word c.args.bytes.now (All-from_get_or (λ byte. byte < 256) c.args.bytes.now 0 (λ i lt. omega (arith, c.type_inv.bytes i)))) in
    let number = word_plain (decimal c.from.result) (number_word c.from.result (omega (arith, c.from.ensures, c.ranges.line.fits))) in
    omega (arith, ap feeds c.begin.ensures, feeds_append c.begin.new.self (32 ∷ decimal c.from.result), number, ap feeds c.number.ensures.value, feeds_append c.number.new.self (32 ∷ encode_lower c.args.bytes.now), hex, ap feeds c.hex.ensures.value, feeds_append c.hex.new.self (10 ∷ []), ap feeds c.end.ensures)
