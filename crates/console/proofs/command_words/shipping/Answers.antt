use Rattle.console.proofs.Lemmas.{rules, ◌≡◌, ◌≢◌, ℕ, List, [], sym, ◌∙◌, subst, arith, codes, MatchOption, IsLong, not_empty, with_long}
use Rattle.console.proofs.command_words.shipping.Goals as goal

pub returns-in-len3 : goal.returns-in-len3
returns-in-len3 c =
    let said : c.as_str.result.now ≡ codes "ship" = search rules in
    let some : c.as_str-then-eq.result.now ≢ [] = not_empty c.as_str-then-eq.result.now c.is_empty.result c.is_empty.ensures (search rules) in
    with_long c.args.words.now c.word-item.result c.store-item.result c.number-item.result c.long_number_of.result (omega (arith, c.in-len3.len_at_least, c.in-len3.len_below)) c.word-item.is c.store-item.is c.number-item.is
    (sym c.as_str.ensures.value ∙ said) (subst (λ (bytes : List ℕ). bytes ≢ []) c.as_str-then-eq.ensures.value some)
    (subst (λ (bytes : List ℕ). MatchOption c.long_number_of.result ((n : ℕ) → IsLong bytes n → ⊥) (λ n. IsLong bytes n)) c.as_str-in-len3.ensures.value c.long_number_of.ensures)
