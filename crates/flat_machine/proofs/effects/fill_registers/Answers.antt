use Rattle.flat_machine.proofs.Common.{length-drop, slice_set, big_number, fill_words, ◌≡◌, refl, ℕ, suc, ◌+◌, ◌-◌, ◌*◌, ◌<◌, List, drop, sym, ap, ◌∙◌, arith, drop-drop, common_steps}
use Rattle.std.proofs.Math.Seq.{take-length}
use Rattle.flat_machine.proofs.effects.fill_registers.Goals as goal

-- four bytes fill a register, and those after them the others
fill_step :
    (n i first : ℕ) (bytes r : List ℕ) → i < n
    → fill_words (n - (i + 1)) (first + (i + 1)) (drop (4 * (i + 1)) bytes) (slice_set r (first + i) (big_number 4 (drop (4 * i) bytes))) ≡ fill_words (n - i) (first + i) (drop (4 * i) bytes) r
fill_step n i first bytes r below =
    let one : n - i ≡ suc (n - (i + 1)) = omega arith in
    let next : first + (i + 1) ≡ suc (first + i) = omega arith in
    let at : 4 * (i + 1) ≡ 4 * i + 4 = omega arith in
    let rest : drop (4 * (i + 1)) bytes ≡ drop 4 (drop (4 * i) bytes) = ap (λ k. drop k bytes) at ∙ sym (drop-drop 4 (4 * i) bytes) in
    rw (one, next, rest) refl

pub loop-i-init : goal.loop-i-init
loop-i-init c = grind (arith, common_steps)

pub loop-i-preserved : goal.loop-i-preserved
loop-i-preserved c = grind (arith, common_steps, length-drop, take-length, fill_step)

pub returns : goal.returns
returns c = grind (arith, common_steps)
