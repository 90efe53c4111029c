use Rattle.asm_parse.proofs.Lemmas.{◌≡◌, ◌+◌, ◌≤◌, length, option_map, is_feed, parsed, statements_from, left_of, parts_behind, statements_behind}
use Rattle.asm_parse.proofs.parsing.parse.Given as goal

abbrev pub invariant-loop-left : goal.invariant-loop-left
invariant-loop-left l = record {
  so_far : statements_behind l.statements.items (statements_from l.number (parts_behind is_feed (option_map (λ text. text.now) l.left))) ≡ parsed l.text;
  number : l.number + left_of (option_map (λ text. text.now) l.left) ≤ length l.text + 2;
  few : length l.statements.items + left_of (option_map (λ text. text.now) l.left) ≤ length l.text + 1;
}

abbrev pub decreases-loop-left : goal.decreases-loop-left
decreases-loop-left l = left_of (option_map (λ text. text.now) l.left)
