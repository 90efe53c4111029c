-- Bytes of a text: whether there are any, and that each is one.
use Rattle.text_line.proofs.Common.{◌≡◌, ◌≢◌, ℕ, zero, suc, ◌<◌, List, [], ◌∷◌, true, false, length, get_or, refl, arith, AllByRecursion, nat_tests}
use Rattle.std.specs.Prelude.{◌==◌}

-- a text whose length is 0 is empty
pub empty_is : (text : List ℕ) → true ≡ (length text == 0) → text ≡ []
empty_is [] is = refl
empty_is (byte ∷ text) is = absurd (grind (arith, nat_tests))

pub some_is : (text : List ℕ) → false ≡ (length text == 0) → text ≢ []
some_is [] is none = cc is
some_is (byte ∷ text) is none = cc none

pub each_byte : (bytes : List ℕ) → AllByRecursion (λ byte. byte < 256) bytes → (i : ℕ) → get_or bytes i 0 < 256
each_byte [] all i = omega arith
each_byte (byte ∷ bytes) all zero = all.0
each_byte (byte ∷ bytes) all (suc i) = each_byte bytes all.1 i
