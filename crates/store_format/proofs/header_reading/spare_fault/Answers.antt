use Rattle.store_format.proofs.Lemmas.{◌≡◌, ℕ, ◌+◌, ◌*◌, ◌-◌, ◌^◌, ◌∷◌, [], ◌∙◌, sym, ap, arith, option_or, PageSize, number_at, within, zeros, last_zeros, spare_fields, first_fault, first_fault-append, first_fault-cons, or_is, option_or-assoc, last_zeros_are}
use Rattle.store_format.proofs.header_reading.spare_fault.Goals as goal

pub returns-in-Two : goal.returns-in-Two
returns-in-Two c =
    let head = c.args.head.now in
    let bytes = c.args.length in
    let count = c.args.listed in
    let from : 16 + 4 * c.from.result ≡ 16 + 4 * count = omega (arith, c.from.ensures) in
    let left : 128 - (16 + 4 * c.from.result) ≡ 112 - 4 * count = omega (arith, from) in
    cc (c.zeros_fault.ensures, from, left, c.in-Two.is)

pub returns-in-Four : goal.returns-in-Four
returns-in-Four c =
    let head = c.args.head.now in
    let bytes = c.args.length in
    let count = c.args.listed in
    let front = zeros head (16 + 4 * count) (60 - 4 * count) in
    let flags = within 76 2 (number_at head 76 2) 0 (2 ^ count - 1) in
    let from : 16 + 4 * c.from.result ≡ 16 + 4 * count = omega (arith, c.from.ensures) in
    let left : 76 - (16 + 4 * c.from.result) ≡ 60 - 4 * count = omega (arith, from) in
    let unused : c.zeros_fault-in-Four.result ≡ first_fault bytes front =
    c.zeros_fault-in-Four.ensures
    ∙ ap (λ (n : ℕ). first_fault bytes (zeros head n (76 - (16 + 4 * c.from.result)))) from
    ∙ ap (λ (n : ℕ). first_fault bytes (zeros head (16 + 4 * count) n)) left in
    or_is c.or-in-Four.ensures (or_is c.or.ensures unused c.flags_fault.ensures) (c.zeros_fault-in-Four-2.ensures ∙ ap (first_fault bytes) (sym (last_zeros_are head)))
    ∙ sym (option_or-assoc (first_fault bytes front) (first_fault bytes (flags ∷ [])) (first_fault bytes (last_zeros head)))
    ∙ ap (option_or (first_fault bytes front)) (sym (first_fault-cons bytes flags (last_zeros head)))
    ∙ sym (first_fault-append bytes front (flags ∷ last_zeros head))
    ∙ ap (λ (page : PageSize). first_fault bytes (spare_fields page head count)) (sym c.in-Four.is)
