-- What the bytes of frames end as once the borrow of a part of them has ended.
use Rattle.frame_pool.proofs.Common.{length-append, length-take, length-drop, drop-drop, overlaid, length-overlaid, with_part, with_frame_part, with_bytes, Pool, ◌≡◌, ℕ, ◌+◌, ◌≤◌, List, ◌++◌, length, take, drop, sym, ◌∙◌, ap, arith, append_assoc, take-append-le, take_all, with_items_from}
use Rattle.std.specs.declared.vec.Vec.{Vec}

-- no bytes are lost by a part that is written over them
pub none-lost : (xs : List ℕ) (at : ℕ) (part : List ℕ) → length xs ≤ length (overlaid xs at part)
none-lost xs at part = simp (length-append, length-take, length-drop) (omega arith)

-- bytes of a vector that were lent are written over it
pub lent-bytes : {Z : Type 0} (bytes : Vec ℕ Z) (at : ℕ) (part : List ℕ) → (with_items_from bytes at part).items ≡ with_part bytes.items at part
lent-bytes bytes at part =
    let xs : List ℕ = bytes.items in
    let same : take at xs ++ (part ++ drop (length part) (drop at xs)) ≡ overlaid xs at part =
    ap (λ (rest : List ℕ). take at xs ++ (part ++ rest)) (drop-drop (length part) at xs) ∙ sym (append_assoc (take at xs) part (drop (at + length part) xs)) in
    ap (λ (all : List ℕ). take bytes.len (all ++ drop (length all) xs)) same
    ∙ ap (λ n. take n (overlaid xs at part ++ drop (length (overlaid xs at part)) xs)) bytes.ok.0
    ∙ take-append-le (length xs) (overlaid xs at part) (drop (length (overlaid xs at part)) xs) (none-lost xs at part)

-- where the part lies within the bytes, no byte of it is cut off
pub part-within : (xs : List ℕ) (at : ℕ) (part : List ℕ) → at + length part ≤ length xs → with_part xs at part ≡ overlaid xs at part
part-within xs at part fits = ap (λ n. take n (overlaid xs at part)) (sym (length-overlaid xs at part fits)) ∙ take_all (length (overlaid xs at part)) (overlaid xs at part) (omega arith)

pub lent-part : (pool : Pool) (at : ℕ) (part : List ℕ) → at + length part ≤ length pool.bytes → with_frame_part pool at part ≡ with_bytes pool at part
lent-part pool at part fits = ap (λ (list : List ℕ). record pool { bytes = list }) (part-within pool.bytes at part fits)
