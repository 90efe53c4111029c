-- A body that is written behind a shut gate, and the gate after it.
use Rattle.store.proofs.Common.{◌≡◌, ℕ, ◌+◌, ◌≤◌, true, false, List, [], ◌∷◌, length, take, drop, refl, sym, ◌∙◌, ap, arith, Option, Some, ◌==◌, unwrap_or, take_at, drop-drop, written, Torn, shorter_front, same_byte, is_open, HasBody, IsSafe, torn_by_written}
use Rattle.store.proofs.NoteLemmas.{drop-overlaid, byte_written}

module _ (gate : ℕ) (body held : List ℕ) (room : gate + 1 + length body ≤ length held) where
  -- anything behind a gate that is shut
  module _ (shut : is_open gate held ≡ false) (image : List ℕ) (torn : Torn (gate + 1) (length body) held image) where
    pub still_shut : is_open gate image ≡ false
    still_shut = ap (λ (n : ℕ). n == 0xA5) (same_byte gate (gate + 1) image held torn.before (omega arith)) ∙ shut

    pub safe_behind : IsSafe gate body held image
    safe_behind = record {
      front = shorter_front gate (gate + 1) image held torn.before (omega arith);
      behind = torn.after;
      long = omega (arith, torn.no_shorter, torn.no_longer);
      whole = λ shown. let no : false ≡ true = sym still_shut ∙ shown in cc;
    }

  abbrev after : List ℕ
  after = written held (gate + 1) body

  after_torn : Torn (gate + 1) (length body) held after
  after_torn = torn_by_written held (gate + 1) body (omega arith) (length body) (omega arith)

  after_body : HasBody gate body after
  after_body = ap (λ (these : List ℕ). take (length body) these) (drop-overlaid held (gate + 1) body (omega arith)) ∙ take_at body (drop (gate + 1 + length body) held) (length body) refl

  -- anything at the gate, with the body behind it
  module _ (image : List ℕ) (torn : Torn gate 1 after image) where
    pub has_body : HasBody gate body image
    has_body = ap (λ (these : List ℕ). take (length body) these) torn.after ∙ after_body

    pub safe_at : IsSafe gate body held image
    safe_at = record {
      front = torn.before ∙ shorter_front gate (gate + 1) after held after_torn.before (omega arith);
      behind = sym (drop-drop (length body) (gate + 1) image) ∙ ap (λ (these : List ℕ). drop (length body) these) torn.after ∙ drop-drop (length body) (gate + 1) after ∙ after_torn.after;
      long = omega (arith, torn.no_shorter, torn.no_longer, after_torn.no_shorter, after_torn.no_longer);
      whole = λ shown. has_body;
    }

  pub opened_torn : Torn gate 1 after (written after gate (0xA5 ∷ []))
  opened_torn = torn_by_written after gate (0xA5 ∷ []) (omega (arith, after_torn.no_shorter)) 1 (omega arith)

  pub opened : is_open gate (written after gate (0xA5 ∷ [])) ≡ true
  opened = ap (λ (n : ℕ). n == 0xA5) (byte_written after gate 0xA5 (omega (arith, after_torn.no_shorter)))

pub held_is : {told : Option (List ℕ)} {bytes : List ℕ} → told ≡ Some bytes → unwrap_or told [] ≡ bytes
held_is same = ap (λ (those : Option (List ℕ)). unwrap_or those []) same
