use Rattle.asm_parse.proofs.Lemmas.{begins_with_word, begins_with_digit, word_ascii, word_inside, number_inside, arith, common_steps}
use Rattle.asm_parse.proofs.token.begin_of.Goals as goal

pub word_begins-requires-clause-ascii : goal.word_begins-requires-clause-ascii
word_begins-requires-clause-ascii c = grind (arith, common_steps, word_ascii)

pub returns-then-begins_word-clause-value : goal.returns-then-begins_word-clause-value
returns-then-begins_word-clause-value c =
    begins_with_word c.args.left.now c.args.rest.now c.args.first c.word_tail.result _ c.requires c.if-is_blank.ensures c.if-first-eq59.false c.if-begins_word.ensures c.word_tail.ensures.value c.word_begins.ensures

pub returns-then-begins_word-clause-inside : goal.returns-then-begins_word-clause-inside
returns-then-begins_word-clause-inside c = grind (arith, common_steps, word_inside)

pub returns-then-is_ascii_digit-clause-value : goal.returns-then-is_ascii_digit-clause-value
returns-then-is_ascii_digit-clause-value c =
    begins_with_digit c.args.left.now c.args.rest.now c.args.first c.number_tail.result _ c.requires c.if-is_blank.ensures c.if-first-eq59.false c.if-begins_word.ensures c.if-is_ascii_digit.ensures.value c.number_tail.ensures.value c.number_begins.ensures

pub returns-then-is_ascii_digit-clause-inside : goal.returns-then-is_ascii_digit-clause-inside
returns-then-is_ascii_digit-clause-inside c = grind (arith, common_steps, number_inside)
