-- What a crash leaves of bytes that were sure.
use Rattle.outside.proofs.Common.{Option, None, Some, unwrap_or, Ghosts, AreTold, Torn, LeavesStep, Leaves, held_of, ◌≡◌, ℕ, List, [], refl, IsSome, arith, nat_tests}
use Rattle.outside.specs.Durable.{IsSure}

pub told_is : (told : Option (List ℕ)) (bytes : List ℕ) → IsSome told → AreTold told bytes → bytes ≡ unwrap_or told []
told_is None bytes some is = cc
told_is (Some those) bytes some is = is

pub told_some : (told : Option (List ℕ)) → IsSome told → told ≡ Some (unwrap_or told [])
told_some None some = cc
told_some (Some those) some = refl

-- a crash leaves the bytes held
pub leaves_held : {W : Type 0} (G : Ghosts W) (now : W) → IsSure G now → Leaves G (λ image seen. image ≡ held_of G now) now now
leaves_held G now sure image seen left = told_is (G.held now) image sure.told (sure.durable image seen left)

-- a crash in the first write leaves them, but for any bytes in its range
pub torn_first : {W : Type 0} (G : Ghosts W) (old mid : W) (at count : ℕ) → IsSure G old → LeavesStep (Torn at count) G.moment G.left_since old mid → Leaves G (λ image seen. Torn at count (held_of G old) image) old mid
torn_first G old mid at count sure follows image seen left = grind (arith, nat_tests, follows, leaves_held)
