use Rattle.report_text.proofs.Common.{◌≡◌, ◌+◌, ◌*◌, ◌≤◌, ◌∷◌, ◌++◌, length, take, flat_map, decimal}
use Rattle.report_text.proofs.reporter.listed.Given as goal

-- so many numbers are listed
abbrev pub invariant-loop-number : goal.invariant-loop-number
invariant-loop-number l = record {
  text : l.text ≡ l.initial.text ++ flat_map (λ n. 32 ∷ decimal n) (take l.number-index l.numbers);
  room : length l.text ≤ 64 + 21 * l.number-index;
}
