-- Lines of a page laid one after another, and the page laid at once.
use Rattle.frame_pool.proofs.Common.{fold, slice_range, range_with_len, length-append, length-take-le, length-drop, append-nil, take-append-drop, drop-drop, take_at, overlaid, length-overlaid, PageSize, page_bytes, passing, lines_of_bits, Pool, line_size, line_place, frame_at, marks_at, line_laid, page_laid, line_kept, with_bytes, kept_laid, IsSeen, nat_tests, ◌≡◌, ℕ, zero, suc, ◌+◌, ◌-◌, ◌*◌, ◌<◌, ◌≤◌, Some, List, [], ◌++◌, length, take, drop, refl, sym, ◌∙◌, ap, arith, append_assoc}
use Rattle.std.proofs.Math.Seq.{take-add, drop-append-add, drop-append_seam}
use Rattle.frame_pool.proofs.SoundLemmas.{page_part}
use Rattle.frame_pool.proofs.PoolLemmas.{frame-part, frame_within}

-- nothing written over a list
overlaid-none : {X : Type 0} (xs : List X) (at : ℕ) → overlaid xs at [] ≡ xs
overlaid-none {X = X} xs at = grind (arith, nat_tests, append-nil, take-append-drop)

-- two parts written end to end are one
pub overlaid-joined :
    {X : Type 0} (xs : List X) (at : ℕ) (part next : List X)
    → at ≤ length xs → overlaid (overlaid xs at part) (at + length part) next ≡ overlaid xs at (part ++ next)
overlaid-joined {X = X} xs at part next fits =
    let front : List X = take at xs ++ part in
    let end : ℕ = at + length part in
    let long : length front ≡ end = length-append (take at xs) part ∙ ap (λ n. n + length part) (length-take-le at xs fits) in
    let behind : drop (end + length next) (front ++ drop end xs) ≡ drop (at + length (part ++ next)) xs =
    ap (λ n. drop (n + length next) (front ++ drop end xs)) (sym long)
    ∙ drop-append-add front (drop end xs) (length next)
    ∙ drop-drop (length next) end xs
    ∙ ap (λ n. drop n xs) (let same : end + length next ≡ at + length (part ++ next) = omega (arith, length-append part next) in same) in
    ap (λ (list : List X). list ++ next ++ drop (end + length next) (front ++ drop end xs)) (take_at front (drop end xs) end long)
    ∙ ap (λ (rest : List X). front ++ next ++ rest) behind
    ∙ ap (λ (list : List X). list ++ drop (at + length (part ++ next)) xs) (append_assoc (take at xs) part next)

-- a part over another as long leaves nothing of that
overlaid-again :
    {X : Type 0} (xs : List X) (at : ℕ) (part next : List X)
    → at ≤ length xs → length part ≡ length next → overlaid (overlaid xs at part) at next ≡ overlaid xs at next
overlaid-again {X = X} xs at part next fits same =
    let front : List X = take at xs ++ part in
    let end : ℕ = at + length part in
    let long : length front ≡ end = length-append (take at xs) part ∙ ap (λ n. n + length part) (length-take-le at xs fits) in
    ap (λ (list : List X). list ++ next ++ drop (at + length next) (front ++ drop end xs))
    (ap (take at) (append_assoc (take at xs) part (drop end xs)) ∙ take_at (take at xs) (part ++ drop end xs) at (length-take-le at xs fits))
    ∙ ap (λ n. take at xs ++ next ++ drop n (front ++ drop end xs)) (let ends : at + length next ≡ length front = omega (arith, long, same) in ends)
    ∙ ap (λ (rest : List X). take at xs ++ next ++ rest) (drop-append_seam front (drop end xs))
    ∙ ap (λ n. take at xs ++ next ++ drop n xs) (let ends : end ≡ at + length next = omega (arith, same) in ends)

-- so many items of a list from a place on
from-place : {X : Type 0} (xs : List X) (at count : ℕ) → slice_range xs at (at + count) ≡ take count (drop at xs)
from-place {X = X} xs at count = ap (λ n. take n (drop at xs)) (let same : at + count - at ≡ count = omega arith in same)

-- two parts of a list end to end are one
range-joined :
    {X : Type 0} (xs : List X) (at first rest : ℕ)
    → slice_range xs at (at + first) ++ slice_range xs (at + first) (at + first + rest) ≡ slice_range xs at (at + (first + rest))
range-joined {X = X} xs at first rest =
    ap (λ (front : List X). front ++ slice_range xs (at + first) (at + first + rest)) (from-place xs at first)
    ∙ ap (λ (back : List X). take first (drop at xs) ++ back) (from-place xs (at + first) rest ∙ ap (take rest) (sym (drop-drop first at xs)))
    ∙ sym (take-add first rest (drop at xs))
    ∙ sym (from-place xs at (first + rest))

-- a part that lies in a list is as long as was asked
range-long : {X : Type 0} (xs : List X) (at count : ℕ) → at + count ≤ length xs → length (slice_range xs at (at + count)) ≡ count
range-long {X = X} xs at count fits = ap length (from-place xs at count) ∙ length-take-le count (drop at xs) (rw length-drop (omega arith))

-- the lines of a page have the size of a page
sixteen-lines : (size : PageSize) → 16 * line_size size ≡ page_bytes size
sixteen-lines size = grind (arith, nat_tests)

-- where all bits are on, the lines are all sixteen
pub all-lines : lines_of_bits 65535 ≡ range_with_len 0 16
unfolding passing
all-lines = refl

-- where the line after a line begins
next-line : (base line size : ℕ) → base + (line + 1) * size ≡ base + line * size + size
next-line base line size = grind arith

-- where a line and those after it end
last-line : (at count size : ℕ) → at + (size + count * size) ≡ at + suc count * size
last-line at count size = grind arith

-- lines laid one after another are a part of the page laid at once
lines-laid :
    (page frame first count : ℕ) (pool : Pool)
    → line_place pool.page frame first + count * line_size pool.page ≤ length pool.bytes
    → line_place pool.page page first + count * line_size pool.page ≤ length pool.kept
    → fold (line_laid page frame) pool (range_with_len first count)
    ≡ with_bytes pool (line_place pool.page frame first) (slice_range pool.kept (line_place pool.page page first) (line_place pool.page page first + count * line_size pool.page))
lines-laid page frame first zero pool fits kept =
    let from : ℕ = line_place pool.page page first in
    let none : slice_range pool.kept from (from + 0 * line_size pool.page) ≡ [] =
    from-place pool.kept from (0 * line_size pool.page) ∙ ap (λ n. take n (drop from pool.kept)) (let same : 0 * line_size pool.page ≡ 0 = omega arith in same) in
    sym (ap (with_bytes pool (line_place pool.page frame first)) none
    ∙ ap (λ (list : List ℕ). record pool { bytes = list }) (overlaid-none pool.bytes (line_place pool.page frame first)))
lines-laid page frame first (suc count) pool fits kept =
    let size : ℕ = line_size pool.page in
    let at : ℕ = line_place pool.page frame first in
    let from : ℕ = line_place pool.page page first in
    let line : List ℕ = line_kept pool page first in
    let fits_all : at + (size + count * size) ≤ length pool.bytes = rw (last-line at count size) fits in
    let kept_all : from + (size + count * size) ≤ length pool.kept = rw (last-line from count size) kept in
    let long : length line ≡ size = range-long pool.kept from size (omega arith) in
    let once : Pool = line_laid page frame pool first in
    let stays : length once.bytes ≡ length pool.bytes = length-overlaid pool.bytes at line (omega arith) in
    let next : line_place pool.page frame (first + 1) ≡ at + size = next-line (frame * page_bytes pool.page) first size in
    let next_from : line_place pool.page page (first + 1) ≡ from + size = next-line (page * page_bytes pool.page) first size in
    lines-laid page frame (first + 1) count once (omega arith) (omega arith)
    ∙ ap (λ n. with_bytes once n (slice_range pool.kept (line_place pool.page page (first + 1)) (line_place pool.page page (first + 1) + count * size))) (next ∙ ap (λ n. at + n) (sym long))
    ∙ ap (λ n. with_bytes once (at + length line) (slice_range pool.kept n (n + count * size))) next_from
    ∙ ap (λ (list : List ℕ). record pool { bytes = list }) (overlaid-joined pool.bytes at line (slice_range pool.kept (from + size) (from + size + count * size)) (omega arith))
    ∙ ap (with_bytes pool at) (range-joined pool.kept from size (count * size))
    ∙ ap (λ n. with_bytes pool at (slice_range pool.kept from n)) (last-line from count size)

-- sixteen lines laid one after another are the page laid at once
page-laid :
    (page frame : ℕ) (pool : Pool) → frame * page_bytes pool.page + page_bytes pool.page ≤ length pool.bytes
    → page * page_bytes pool.page + page_bytes pool.page ≤ length pool.kept
    → fold (line_laid page frame) pool (range_with_len 0 16)
    ≡ with_bytes pool (frame * page_bytes pool.page) (slice_range pool.kept (page * page_bytes pool.page) (page * page_bytes pool.page + page_bytes pool.page))
page-laid page frame pool fits kept =
    let size : ℕ = page_bytes pool.page in
    let whole : 16 * line_size pool.page ≡ size = sixteen-lines pool.page in
    let first : (base : ℕ) → base + 0 * line_size pool.page ≡ base = λ base. (omega arith) in
    lines-laid page frame 0 16 pool (omega arith) (omega arith)
    ∙ ap (λ n. with_bytes pool n (slice_range pool.kept (line_place pool.page page 0) (line_place pool.page page 0 + 16 * line_size pool.page))) (first (frame * size))
    ∙ ap (λ n. with_bytes pool (frame * size) (slice_range pool.kept n (n + 16 * line_size pool.page))) (first (page * size))
    ∙ ap (λ n. with_bytes pool (frame * size) (slice_range pool.kept (page * size) (page * size + n))) whole

-- all lines of a page that is in a frame are laid, where all are marked
laid-all : (page frame : ℕ) (pool : Pool) → frame_at pool page ≡ Some frame → range_with_len 0 16 ≡ marks_at pool page → fold (line_laid page frame) pool (range_with_len 0 16) ≡ kept_laid pool page
laid-all page frame pool there all = grind (arith, nat_tests)

-- where all lines of a page are marked, nothing is left of what its frame was filled with
pub laid-anyway :
    (page frame : ℕ) (pool : Pool) (bytes : List ℕ) → frame_at pool page ≡ Some frame → range_with_len 0 16 ≡ marks_at pool page
    → length bytes ≡ page_bytes pool.page → frame * page_bytes pool.page + page_bytes pool.page ≤ length pool.bytes
    → page * page_bytes pool.page + page_bytes pool.page ≤ length pool.kept
    → kept_laid pool page ≡ kept_laid (with_bytes pool (frame * page_bytes pool.page) bytes) page
laid-anyway page frame pool bytes there all long fits kept =
    let size : ℕ = page_bytes pool.page in
    let part : List ℕ = slice_range pool.kept (page * size) (page * size + size) in
    let other : Pool = with_bytes pool (frame * size) bytes in
    let stays : length other.bytes ≡ length pool.bytes = length-overlaid pool.bytes (frame * size) bytes (omega (arith, long, fits)) in
    let same : length bytes ≡ length part = long ∙ sym (range-long pool.kept (page * size) size kept) in
    sym (laid-all page frame pool there all)
    ∙ page-laid page frame pool fits kept
    ∙ ap (λ (list : List ℕ). record pool { bytes = list }) (sym (overlaid-again pool.bytes (frame * size) bytes part (omega (arith, fits)) same))
    ∙ sym (page-laid page frame other (omega (arith, stays, fits)) kept)
    ∙ laid-all page frame other there all

-- a page whose lines are all marked is laid at once
pub whole-laid :
    (pool : Pool) (page frame : ℕ) → IsSeen pool → page < length pool.frame_of → frame_at pool page ≡ Some frame → range_with_len 0 16 ≡ marks_at pool page
    → page_laid page frame pool ≡ kept_laid pool page
whole-laid pool page frame seen inside there all =
    let kept : page * page_bytes pool.page + page_bytes pool.page ≤ length pool.kept = omega (arith, page_part page (length pool.frame_of) (page_bytes pool.page) inside, seen.kept) in
    sym (page-laid page frame pool (frame-part pool frame seen (frame_within pool page frame seen there)) kept) ∙ laid-all page frame pool there all
