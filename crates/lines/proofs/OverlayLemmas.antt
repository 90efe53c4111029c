-- Elements of a list of which a part is written over.
use Rattle.lines.proofs.Common.{length-append, length-take, length-drop, get_or_append_left, get_or-append_right, get_or-take, get_or-drop, cases_lt, ◌≡◌, ℕ, ◌+◌, ◌-◌, ◌<◌, ◌≤◌, List, ◌++◌, length, take, drop, get_or, sym, ◌∙◌, ap, arith, inl, inr}
use Rattle.lines.specs.Overlay.{overlaid}

-- the length stays
pub length-overlaid : {X : Type 0} (xs : List X) (at : ℕ) (part : List X) → at + length part ≤ length xs → length (overlaid xs at part) ≡ length xs
length-overlaid xs at part fits = simp (length-append, length-take, length-drop) (omega arith)

-- an element before the part stays
pub overlaid_before :
    {X : Type 0} (xs : List X) (at : ℕ) (part : List X) (k : ℕ) (d : X)
    → at ≤ length xs → k < at → get_or (overlaid xs at part) k d ≡ get_or xs k d
overlaid_before xs at part k d fits low =
    let long : k < length (take at xs) = rw length-take (omega arith) in
    let longer : k < length (take at xs ++ part) = omega (arith, length-append (take at xs) part) in
    get_or_append_left (take at xs ++ part) (drop (at + length part) xs) d k longer
    ∙ get_or_append_left (take at xs) part d k long
    ∙ get_or-take at xs k d low

-- an element of the part
pub overlaid_within :
    {X : Type 0} (xs : List X) (at : ℕ) (part : List X) (k : ℕ) (d : X)
    → at ≤ length xs → at ≤ k → k < at + length part → get_or (overlaid xs at part) k d ≡ get_or part (k - at) d
overlaid_within xs at part k d fits low high =
    let front : length (take at xs) ≡ at = rw length-take (omega arith) in
    let longer : k < length (take at xs ++ part) = omega (arith, length-append (take at xs) part) in
    get_or_append_left (take at xs ++ part) (drop (at + length part) xs) d k longer
    ∙ get_or-append_right (take at xs) part at k d front low

-- an element behind the part stays
pub overlaid_behind :
    {X : Type 0} (xs : List X) (at : ℕ) (part : List X) (k : ℕ) (d : X)
    → at ≤ length xs → at + length part ≤ k → get_or (overlaid xs at part) k d ≡ get_or xs k d
overlaid_behind xs at part k d fits high =
    let front : length (take at xs) ≡ at = rw length-take (omega arith) in
    let fronts : length (take at xs ++ part) ≡ at + length part = length-append (take at xs) part ∙ ap (λ n. n + length part) front in
    let place : at + length part + (k - (at + length part)) ≡ k = omega arith in
    get_or-append_right (take at xs ++ part) (drop (at + length part) xs) (at + length part) k d fronts high
    ∙ get_or-drop (at + length part) xs (k - (at + length part)) d
    ∙ ap (λ n. get_or xs n d) place

-- an element that two lists share stays shared where the same part is written over both
pub overlaid_both :
    {X : Type 0} (xs ys : List X) (at : ℕ) (part : List X) (k : ℕ) (d : X)
    → at ≤ length xs → at ≤ length ys
    → get_or xs k d ≡ get_or ys k d → get_or (overlaid xs at part) k d ≡ get_or (overlaid ys at part) k d
overlaid_both {X} xs ys at part k d fits fits' same =
    elim (cases_lt k at) [
      | inl low ↦ overlaid_before xs at part k d fits low ∙ same ∙ sym (overlaid_before ys at part k d fits' low)
      | inr low ↦
          elim (cases_lt k (at + length part)) [
            | inl high ↦ overlaid_within xs at part k d fits low high ∙ sym (overlaid_within ys at part k d fits' low high)
            | inr high ↦ overlaid_behind xs at part k d fits high ∙ same ∙ sym (overlaid_behind ys at part k d fits' high)
          ]
    ]
