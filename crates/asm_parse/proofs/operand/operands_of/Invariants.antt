use Rattle.asm_parse.proofs.Lemmas.{◌≡◌, length, drop, Some, option_map, operands_of, operands_behind}
use Rattle.asm_parse.proofs.operand.operands_of.Given as goal

abbrev pub invariant-loop-sort : goal.invariant-loop-sort
invariant-loop-sort l = record {
  count : length l.operands.items ≡ l.sort-index;
  so_far : operands_behind l.operands.items (operands_of (drop l.sort-index l.sorts) (option_map (λ part. part.now) l.left)) ≡ operands_of l.sorts (Some l.tokens);
}
