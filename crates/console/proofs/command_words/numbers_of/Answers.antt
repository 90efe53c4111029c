use Rattle.console.proofs.Lemmas.{went, ◌≡◌, ℕ, ◌+◌, ◌++◌, Bool, true, List, [], ◌∷◌, length, map, take, ap, subst, arith, ◌∙◌, sym, Result, Ok, Err, OnErr, is_err, string_bytes, length-map, length-take, AreNumbers, marked_of, as_many, no_number, numbers_more}
use Rattle.console.proofs.command_words.numbers_of.Goals as goal

pub returns-in-None : goal.returns-in-None
returns-in-None c = λ numbers few are. no_number c.args.words.now c.loop-word.word-index c.word-item.result c.loop-word-test.true c.word-item.is (sym c.in-None.is ∙ c.marked_of.ensures ∙ ap marked_of c.as_str.ensures.value) numbers are

failed : {T E P : Type 0} (result : Result T E) → is_err result ≡ true → OnErr result P → P
failed (Ok value) is given = cc
failed (Err fault) is given = given

pub returns-then-is_err : goal.returns-then-is_err
returns-then-is_err c = λ numbers few are.
    let words = c.args.words.now in let i = c.loop-word.word-index in
    let full : length c.loop-word.numbers.items ≡ 31 = failed c.try_push.result (sym c.is_err.ensures.value ∙ c.if-is_err.true) c.try_push.ensures.full in
    let read = as_many (map string_bytes (take i words)) c.loop-word.numbers.items c.loop-word.invariant in
    let all = as_many (map string_bytes words) numbers are in
    omega (arith, full, read, all, few, length-map (take i words) string_bytes, length-take i words, length-map words string_bytes, c.loop-word-test.true)

pub loop-word-preserved : goal.loop-word-preserved
loop-word-preserved c =
    let items : c.try_push.new.self.items ≡ c.loop-word.numbers.items ++ c.in-Some.number ∷ [] = went c.try_push.result (sym c.is_err.ensures.value ∙ c.if-is_err.false) c.try_push.ensures.ok in
    subst (λ (those : List (ℕ × Bool)). AreNumbers (map string_bytes (take (c.loop-word.word-index + 1) c.args.words.now)) those) (sym items)
    (numbers_more c.args.words.now c.loop-word.word-index c.word-item.result c.loop-word.numbers.items c.in-Some.number c.loop-word-test.true c.word-item.is c.loop-word.invariant (ap marked_of (sym c.as_str.ensures.value) ∙ sym c.marked_of.ensures ∙ c.in-Some.is))
