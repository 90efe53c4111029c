use Rattle.console.proofs.Lemmas.{◌≢◌, [], ℕ, Bool, ◌-◌, List, length, map, take, drop, sym, subst, string_bytes, AreNumbers, alone, not_empty, with_store, without_numbers}
use Rattle.console.proofs.command_words.command_of.Goals as goal

pub returns-in-len1 : goal.returns-in-len1
returns-in-len1 c = alone c.args.words.now c.word-item.result c.as_str.result.now c.command_alone.result c.in-len1.len_at_least c.in-len1.len_below c.word-item.is c.as_str.ensures.value c.command_alone.ensures

pub returns-in-Some-numbers_of : goal.returns-in-Some-numbers_of
returns-in-Some-numbers_of c =
    with_store c.args.words.now c.word-item-2.result c.store-item.result c.as_str-in-Some-numbers_of.result.now c.as_slice.result.now c.command_on.result c.in-len2-up.len_at_least c.word-item-2.is c.store-item.is c.as_str-in-Some-numbers_of.ensures.value
    (subst (λ (bytes : List ℕ). bytes ≢ []) c.as_str-in-len2-up.ensures.value (not_empty c.as_str-in-len2-up.result.now c.is_empty.result c.is_empty.ensures c.if-is_empty.false))
    (subst (λ (numbers : List (ℕ × Bool)). AreNumbers (map string_bytes (take (length c.args.words.now - 2) (drop 2 c.args.words.now))) numbers) (sym c.as_slice.ensures.value) c.in-Some-numbers_of.ensures)
    c.in_default.ensures c.in_default-shipping.ensures c.command_on.ensures

pub returns-in-None : goal.returns-in-None
returns-in-None c = without_numbers c.args.words.now c.in-len2-up.len_at_least c.in-None.ensures c.in_default.ensures c.in_default-shipping.ensures
