-- Pages by the flags of their segments.
use Rattle.lines.proofs.Common.{arith, nat_tests, ◌≡◌, refl, ℕ, ◌-◌, false, List, [], ◌∷◌, fine_among}

-- without flags no page is fine
pub none_fine : (segments : List (ℕ × ℕ)) (page : ℕ) → fine_among 0 segments page ≡ false
none_fine [] page = refl
none_fine (segment ∷ segments) page = grind (arith, nat_tests, none_fine segments (page - segment.1))
