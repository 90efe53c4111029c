use Rattle.console.proofs.Lemmas.{◌≡◌, ◌≢◌, ◌<◌, ◌≤◌, ℕ, List, Bool, false, length, subst, arith, slice_index, MatchResult, Result, Some, None, ◌==◌, ParsesUnsigned, nat_tests, argument_number, parsed}
use Rattle.console.proofs.command_words.number_of.Goals as goal

-- what `parse` answered
answered : (word digits : List ℕ) (empty : Bool) {E : Type 0} (result : Result ℕ E) → digits ≡ word → empty ≡ (length digits == 0) → empty ≡ false → length digits ≤ 10 → slice_index digits 0 ≢ 43 → ParsesUnsigned 32 10 word result
    → MatchResult result (λ number. Some number ≡ argument_number word) (λ fault. None ≡ argument_number word)
answered word digits empty result same is not few plain gives =
    let some : 0 < length digits = grind (arith, nat_tests) in
    parsed word result (subst (λ (these : List ℕ). 0 < length these) same some) (subst (λ (these : List ℕ). length these ≤ 10) same few) (subst (λ (these : List ℕ). slice_index these 0 ≢ 43) same plain) gives

pub returns-in-Ok : goal.returns-in-Ok
returns-in-Ok c =
    subst (λ result. MatchResult result (λ number. Some number ≡ argument_number c.args.word.now) (λ fault. None ≡ argument_number c.args.word.now)) c.in-Ok.is
    (answered c.args.word.now c.as_bytes-digits.result.now c.is_empty.result c.parse.result c.as_bytes-digits.ensures.value c.is_empty.ensures c.if-is_empty.false c.if-digits-gt10.false c.if-digits-eq43.false c.parse.ensures.value.0)

pub returns-in-Err : goal.returns-in-Err
returns-in-Err c =
    subst (λ result. MatchResult result (λ number. Some number ≡ argument_number c.args.word.now) (λ fault. None ≡ argument_number c.args.word.now)) c.in-Err.is
    (answered c.args.word.now c.as_bytes-digits.result.now c.is_empty.result c.parse.result c.as_bytes-digits.ensures.value c.is_empty.ensures c.if-is_empty.false c.if-digits-gt10.false c.if-digits-eq43.false c.parse.ensures.value.0)
