use Rattle.asm_parse.proofs.Lemmas.{◌≡◌, ◌≤◌, length, kept_tokens, tokens_past, behind}
use Rattle.asm_parse.proofs.token.tokens_into.Given as goal

abbrev pub invariant-loop-first : goal.invariant-loop-first
invariant-loop-first l = record {
  few : length l.found.items ≤ 64;
  so_far : behind l.found.items (tokens_past l.left 0) ≡ kept_tokens (tokens_past l.line 0);
}

abbrev pub decreases-loop-first : goal.decreases-loop-first
decreases-loop-first l = length l.left
