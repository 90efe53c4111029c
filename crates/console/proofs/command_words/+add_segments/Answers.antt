use Rattle.console.proofs.Lemmas.{went, ◌≡◌, ℕ, suc, ◌+◌, ◌≤◌, ◌<◌, ◌^◌, ◌-◌, ◌/◌, ◌++◌, Bool, true, false, List, [], ◌∷◌, length, take, drop, slice_index_or, arith, sym, ◌∙◌, ap, All, Option, Some, None, MatchOption, length-append, pow_below, IsInRange, spread, behind_first}
use Rattle.std.specs.Int.{from_bool}
use Rattle.console.proofs.command_words.+add_segments.Goals as goal

-- what holds of no further segments holds of none with one in front
with_first : (numbers : List (ℕ × Bool)) (room added : ℕ) → 2 ≤ length numbers → added ≡ room + 1
    → ((more : List (ℕ × ℕ)) (fine : ℕ) → take (length numbers - 2) (drop 2 numbers) ≡ spread more fine → added + length more ≤ 15 → All IsInRange more → ⊥)
    → (more : List (ℕ × ℕ)) (fine : ℕ) → numbers ≡ spread more fine → room + length more ≤ 15 → All IsInRange more → ⊥
with_first numbers room added two one none [] fine is few range = let empty : length numbers ≡ 0 = ap length is in omega arith
with_first numbers room added two one none (segment ∷ more) fine is few range = none more (fine / 2) (behind_first numbers segment more fine is) (omega arith) (λ k d below. range (suc k) d (omega arith))

none_is : {T A : Type 0} (B : T → Type 0) (result : Option T) → result ≡ None → A → MatchOption result A B
none_is B None is none = none
none_is B (Some value) is none = cc

-- so few segments have flags of so few bits
few_flags : (others pushed count total : ℕ) → 1 ≤ pushed → total ≡ pushed + count → total ≤ 15 → others < 2 ^ count → others < 2 ^ 15
few_flags others pushed count total some long few low = let bound : 2 ^ count < 2 ^ 15 = pow_below count 15 (omega (arith, some, long, few)) in omega (arith, bound, low)

one_bit : (flag : Bool) → from_bool flag ≤ 1
one_bit true = omega arith
one_bit false = omega arith

pub overflow_mul-result : goal.overflow_mul-result
overflow_mul-result t c =
    let (more, is, added, low) = c.in_ok-others-in-false.ensures.flags in
    let one : length c.try_push.new.self.items ≡ length c.args.segments.now.items + 1 = went c.try_push.result (sym c.is_err.ensures.value ∙ c.if-is_err.false) c.try_push.ensures.len in
    let few = few_flags c.in_ok-others-in-false.others (length c.try_push.new.self.items) (length more) (length c.add_segments.new.segments.items) (omega (arith, one)) (ap length added ∙ length-append c.try_push.new.self.items more) c.add_segments.ensures.few low in
    omega (arith, few)

pub overflow_add-result : goal.overflow_add-result
overflow_add-result t c =
    let (more, is, added, low) = c.in_ok-others-in-false.ensures.flags in
    let one : length c.try_push.new.self.items ≡ length c.args.segments.now.items + 1 = went c.try_push.result (sym c.is_err.ensures.value ∙ c.if-is_err.false) c.try_push.ensures.len in
    let few = few_flags c.in_ok-others-in-false.others (length c.try_push.new.self.items) (length more) (length c.add_segments.new.segments.items) (omega (arith, one)) (ap length added ∙ length-append c.try_push.new.self.items more) c.add_segments.ensures.few low in
    omega (arith, few, c.from.ensures, one_bit (slice_index_or c.args.numbers.now 1 (0, false)).1)

pub returns-in_err-others-in-false-clause-flags : goal.returns-in_err-others-in-false-clause-flags
returns-in_err-others-in-false-clause-flags t c =
    let one : length c.try_push.new.self.items ≡ length c.args.segments.now.items + 1 = went c.try_push.result (sym c.is_err.ensures.value ∙ c.if-is_err.false) c.try_push.ensures.len in
    none_is (λ fine. (x : List (ℕ × ℕ)) × (c.args.numbers.now ≡ spread x fine) × (c.add_segments.new.segments.items ≡ c.args.segments.now.items ++ x) × (fine < 2 ^ length x)) c.from_residual-in_err-others-in-false.result c.from_residual-in_err-others-in-false.ensures
    (with_first c.args.numbers.now (length c.args.segments.now.items) (length c.try_push.new.self.items) c.in-false.len_at_least one c.in_err-others-in-false.ensures.flags)
