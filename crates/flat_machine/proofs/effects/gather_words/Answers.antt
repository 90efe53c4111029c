use Rattle.flat_machine.proofs.Common.{flat_map, flat_map-append, append-nil, length-drop, length-take, take_more, nil_from_length, get_or-drop, big_bytes, length-bytes_high_first, ◌≡◌, ℕ, ◌+◌, ◌*◌, ◌<◌, ◌≤◌, List, [], ◌∷◌, ◌++◌, length, take, drop, get_or, ap, ◌∙◌, arith, common_steps}
use Rattle.std.proofs.lemmas.Slice.{take-put_mid}
use borrow.Rule.Slice.PartMut.{put_mid}
use Rattle.flat_machine.proofs.effects.gather_words.Goals as goal

-- one register more
gather_step :
    (i first k : ℕ) (into old ys regs : List ℕ) → first + i < length regs → 4 * i + 4 ≤ length into → length old ≡ 4
    → take (4 * i) into ≡ flat_map (big_bytes 4) (take i (drop first regs))
    → ys ≡ big_bytes 4 (get_or regs (first + i) 0) ++ drop 4 old
    → take (4 * (i + 1)) (put_mid (4 * i) k into ys) ≡ flat_map (big_bytes 4) (take (i + 1) (drop first regs))
gather_step i first k into old ys regs below fits four before written =
    let rest : List ℕ = drop first regs in
    let word : List ℕ = big_bytes 4 (get_or regs (first + i) 0) in
    let none : drop 4 old ≡ [] = nil_from_length (drop 4 old) (omega (arith, length-drop 4 old)) in
    let whole : ys ≡ word = written ∙ ap (λ t. word ++ t) none ∙ append-nil word in
    let long : length ys ≡ 4 = ap length whole ∙ length-bytes_high_first 4 (get_or regs (first + i) 0) in
    let inside : i < length rest = omega (arith, length-drop first regs) in
    let more : flat_map (big_bytes 4) (take (i + 1) rest) ≡ flat_map (big_bytes 4) (take i rest) ++ word =
    cc (take_more rest i 0 inside, flat_map-append (big_bytes 4) (take i rest) (get_or rest i 0 ∷ []), append-nil (big_bytes 4 (get_or rest i 0)), get_or-drop first regs i 0) in
    cc (take-put_mid (4 * i) k into ys (4 * (i + 1)) (omega arith) (omega arith))

pub loop-i-preserved : goal.loop-i-preserved
loop-i-preserved c = grind (arith, common_steps, gather_step, length-take, length-drop)
