-- Words with a space between each two, of which the last are numbers.
use Rattle.report_text.proofs.Common.{◌≡◌, ℕ, List, [], ◌∷◌, ◌++◌, map, sym, ◌∙◌, ap, append-nil, append_assoc, codes, flat_map, join_with_byte, decimal}

-- a word and numbers, each behind a space
pub joined : (word : List ℕ) (numbers : List ℕ)
    → join_with_byte 32 (word ∷ map decimal numbers) ≡ word ++ flat_map (λ n. 32 ∷ decimal n) numbers
joined word [] = sym (append-nil word)
joined word (number ∷ numbers) = ap (λ (rest : List ℕ). word ++ (32 ∷ rest)) (joined (decimal number) numbers)

-- the words of a wait
pub wait_joined : (activation : List ℕ) (holders : List ℕ)
    → codes "wait" ++ 32 ∷ activation ++ 32 ∷ codes "for" ++ flat_map (λ n. 32 ∷ decimal n) holders
    ≡ join_with_byte 32 (codes "wait" ∷ activation ∷ codes "for" ∷ map decimal holders)
wait_joined activation holders =
    ap (λ (rest : List ℕ). codes "wait " ++ rest)
    (append_assoc activation (32 ∷ codes "for") (flat_map (λ n. 32 ∷ decimal n) holders)
    ∙ ap (λ (rest : List ℕ). activation ++ (32 ∷ rest)) (sym (joined (codes "for") holders)))
