use Rattle.asm_parse.proofs.Lemmas.{◌*◌, ap, arith, digits_more, digits_value_more, digit_value, digit_at, value_so_far, all_taken}
use Rattle.asm_parse.proofs.numbers.value_of.Goals as goal

pub returns-in_err-digit : goal.returns-in_err-digit
returns-in_err-digit c =
    rw c.from_residual.ensures (λ told.
    let each = digit_at c.args.radix c.args.digits.now c.loop-byte.byte-index told.0 c.loop-byte-test.true in
    c.in_err-digit.ensures.value (rw c.from.ensures each))

pub returns-in_err-checked_mul : goal.returns-in_err-checked_mul
returns-in_err-checked_mul c =
    rw c.from_residual-in_err-checked_mul.ensures (λ told.
    let below = value_so_far c.args.radix c.args.digits.now c.loop-byte.byte-index c.requires.0 c.loop-byte-test.true in
    let same = ap (λ n. n * c.args.radix) c.loop-byte.invariant.1 in
    c.in_err-checked_mul.ensures (omega (arith, told.1)))

pub returns-in_err-number : goal.returns-in_err-number
returns-in_err-number c =
    rw c.from_residual-in_err-number.ensures (λ told.
    let below = value_so_far c.args.radix c.args.digits.now c.loop-byte.byte-index c.requires.0 c.loop-byte-test.true in
    let same = ap (λ n. n * c.args.radix) c.loop-byte.invariant.1 in
    let digit = ap digit_value c.from.ensures in
    c.in_err-number.ensures (omega (arith, told.1, c.in_ok-checked_mul.ensures.1, c.in_ok-digit.ensures.value.1)))

pub loop-byte-preserved : goal.loop-byte-preserved
loop-byte-preserved c =
    let more = digits_value_more c.args.radix c.args.digits.now c.loop-byte.byte-index c.loop-byte-test.true in
    let same = ap (λ n. n * c.args.radix) c.loop-byte.invariant.1 in
    let digit = ap digit_value c.from.ensures in (
      digits_more c.args.radix c.args.digits.now c.loop-byte.byte-index c.loop-byte-test.true c.loop-byte.invariant.0 (rw c.from.ensures at c.in_ok-digit.ensures.value.0),
      omega (arith, c.in_ok-number.ensures.1, c.in_ok-checked_mul.ensures.1, c.in_ok-digit.ensures.value.1),
      omega (arith, c.in_ok-number.ensures.0, c.in_ok-number.ensures.1),
    )

pub returns : goal.returns
returns c =
    all_taken c.args.radix c.args.digits.now c.loop-byte.byte-index c.loop-byte.number c.loop-byte-test.false c.loop-byte.invariant
