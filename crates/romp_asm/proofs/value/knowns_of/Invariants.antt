use Rattle.romp_asm.proofs.Lemmas.{◌≡◌, ◌≤◌, length, drop, addresses_in, knowns_of, knowns_behind}
use Rattle.romp_asm.proofs.value.knowns_of.Given as goal

abbrev pub invariant-loop-operand : goal.invariant-loop-operand
invariant-loop-operand l = record {
  count : length l.knowns.items ≤ l.operand-index;
  so_far : knowns_behind l.knowns.items l.fault (knowns_of (addresses_in l.scope) (drop l.operand-index l.operands)) ≡ knowns_of (addresses_in l.scope) l.operands;
}
