use Rattle.store_format.proofs.Lemmas.{◌≡◌, ℕ, ◌+◌, ◌*◌, ◌-◌, replicate, ◌∙◌, arith, vec_len, length-replicate, byte_count, byte_count-lines, total, front_zeros}
use Rattle.store_format.proofs.header.Header.fresh.Goals as goal

pub returns-clause-bytes : goal.returns-clause-bytes
returns-clause-bytes c =
    let header = c.args.self.now in
    let wrote = c.in_ok-image.ensures in
    let count = c.total.result - vec_len c.in_ok-image.image in
    let left : 128 + 8 + (2 * header.bank_bytes + 8) + count ≡ total header - 128 = omega (arith, c.total.ensures.value, wrote.len) in
    cc (c.in_ok-add_zeros.ensures.bytes, wrote.bytes, front_zeros header count, left)

pub returns-clause-stands : goal.returns-clause-stands
returns-clause-stands c =
    let header = c.args.self.now in
    let wrote = c.in_ok-image.ensures in
    let count = c.total.result - vec_len c.in_ok-image.image in
    let many : count ≡ byte_count header.directory = omega (arith, c.total.ensures.value, wrote.len, byte_count-lines header.directory) in
    cc (c.in_ok-add_zeros.ensures.bytes, wrote.stands (replicate count 0) (length-replicate {A = ℕ} count 0 ∙ many), many)
