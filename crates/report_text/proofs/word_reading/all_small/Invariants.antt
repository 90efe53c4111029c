use Rattle.report_text.proofs.Lemmas.{◌≡◌, ℕ, ◌^◌, ◌<◌, List, length, map, decimal, AllByRecursion, join_with_byte, Left}
use Rattle.report_text.proofs.word_reading.all_small.Given as goal

abbrev pub invariant-loop-left : goal.invariant-loop-left
invariant-loop-left l = (ns : List ℕ) → AllByRecursion (λ n. n < 2 ^ 32) ns → l.text ≡ join_with_byte 32 (map decimal ns)
    → Left ns l.numbers.items l.left

abbrev pub decreases-loop-left : goal.decreases-loop-left
decreases-loop-left l = length l.left
