use Rattle.console.proofs.Lemmas.{◌≡◌, ◌≢◌, ◌≤◌, ℕ, List, length, subst, slice_index, MatchResult, Result, ParsesUnsigned, IsLong, parsed_long}
use Rattle.console.proofs.command_words.long_number_of.Goals as goal

-- what `parse` answered
answered : (word digits : List ℕ) {E : Type 0} (result : Result ℕ E) → digits ≡ word → length digits ≤ 20 → slice_index digits 0 ≢ 43 → ParsesUnsigned 64 10 word result
    → MatchResult result (λ number. IsLong word number) (λ fault. (number : ℕ) → IsLong word number → ⊥)
answered word digits result same few plain gives =
    parsed_long word result (subst (λ (these : List ℕ). length these ≤ 20) same few) (subst (λ (these : List ℕ). slice_index these 0 ≢ 43) same plain) gives

pub returns-in-Ok : goal.returns-in-Ok
returns-in-Ok c =
    subst (λ result. MatchResult result (λ number. IsLong c.args.word.now number) (λ fault. (number : ℕ) → IsLong c.args.word.now number → ⊥)) c.in-Ok.is
    (answered c.args.word.now c.as_bytes-digits.result.now c.parse.result c.as_bytes-digits.ensures.value c.if-digits-gt20.false c.if-digits-eq43.false c.parse.ensures.value.0)

pub returns-in-Err : goal.returns-in-Err
returns-in-Err c =
    subst (λ result. MatchResult result (λ number. IsLong c.args.word.now number) (λ fault. (number : ℕ) → IsLong c.args.word.now number → ⊥)) c.in-Err.is
    (answered c.args.word.now c.as_bytes-digits.result.now c.parse.result c.as_bytes-digits.ensures.value c.if-digits-gt20.false c.if-digits-eq43.false c.parse.ensures.value.0)
