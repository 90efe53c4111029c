use Rattle.store_format.proofs.Lemmas.{◌≡◌, ℕ, ◌+◌, ◌*◌, List, ◌++◌, replicate, arith, big_bytes, Header, header_bytes, front, nat_tests, stored_stands}
use Rattle.store_format.proofs.header.Header.front.Goals as goal

-- the header, zeros up to the bank, its base and zeros up to the home lines
pieces : (header : Header) (number first last : ℕ) (head one two three base : List ℕ) → head ≡ header_bytes header → one ≡ head ++ replicate first 0 → base ≡ big_bytes 8 number → two ≡ one ++ base
    → three ≡ two ++ replicate last 0 → first ≡ 128 → last ≡ 2 * header.bank_bytes + 8 → three ≡ front header number
pieces header number first last head one two three base is begins says goes ends early late = grind (arith, nat_tests, ends, says, begins)

pub returns-clause-bytes : goal.returns-clause-bytes
returns-clause-bytes c = grind (arith, nat_tests)

pub returns-clause-stands : goal.returns-clause-stands
returns-clause-stands c = λ bytes whole.
    let header = c.args.self.now in
    let wrote = c.in_ok-write_header.ensures in
    cc (returns-clause-bytes c, stored_stands header c.args.number bytes wrote.ranges wrote.legal wrote.flags c.ranges.number.fits whole)
