-- Private bytes stay where those of a frame of the store are written.
use Rattle.storage_unit.proofs.Common.{◌≡◌, ℕ, ◌+◌, ◌*◌, ◌<◌, ◌≤◌, List, [], ◌∷◌, ◌++◌, length, take, drop, refl, sym, ◌∙◌, subst, arith, Option, Some, None, fold, slice_index, slice_index_or, option_map_or, length-append, length-take, get_or_append_left, get_or-take, overlaid, line_place, line_kept, line_laid, kept_laid, page_bytes, frame_at, Pool, Reach, IsReachSound}
use Rattle.storage_unit.proofs.SizeLemmas.{frame-high}
use Rattle.storage_unit.proofs.StoreLemmas.{all-private, frame-below}

-- bytes before those that are written stay
pub over-low : (xs : List ℕ) (at : ℕ) (part : List ℕ) (k : ℕ) → k < at → k < length xs → slice_index (overlaid xs at part) k ≡ slice_index xs k
over-low xs at part k low inside =
    let front : k < length (take at xs) = omega (arith, low, inside, length-take at xs) in
    let longer : k < length (take at xs ++ part) = omega (arith, front, length-append (take at xs) part) in
    get_or_append_left (take at xs ++ part) (drop (at + length part) xs) 0 k longer ∙ get_or_append_left (take at xs) part 0 k front ∙ get_or-take at xs k 0 low

long-low : (xs : List ℕ) (at : ℕ) (part : List ℕ) (n : ℕ) → n ≤ at → n ≤ length xs → n ≤ length (overlaid xs at part)
long-low xs at part n low inside =
    omega (arith, low, inside, length-take at xs, length-append (take at xs) part, length-append (take at xs ++ part) (drop (at + length part) xs))

-- kept lines are laid over those of a frame
fold-low :
    (page frame k : ℕ) (lines : List ℕ) (pool : Pool) → 262144 ≤ frame * page_bytes pool.page → 262144 ≤ length pool.bytes → k < 262144
    → slice_index (fold (line_laid page frame) pool lines).bytes k ≡ slice_index pool.bytes k
fold-low page frame k [] pool high long low = refl
fold-low page frame k (line ∷ lines) pool high long low =
    fold-low page frame k lines (line_laid page frame pool line) high (long-low pool.bytes (line_place pool.page frame line) (line_kept pool page line) 262144 (omega (arith, high)) long) low
    ∙ over-low pool.bytes (line_place pool.page frame line) (line_kept pool page line) k (omega (arith, high, low)) (omega (arith, long, low))

pub laid-low : (state : Reach) → IsReachSound state → (page k : ℕ) → k < 262144 → slice_index (kept_laid state.pool page).bytes k ≡ slice_index state.pool.bytes k
laid-low state sound page k low = by_frame (frame_at state.pool page) refl
  where
    by_frame : (o : Option ℕ) → frame_at state.pool page ≡ o
        → slice_index (option_map_or (λ frame. fold (line_laid page frame) state.pool (slice_index_or state.pool.marked page [])) o state.pool).bytes k ≡ slice_index state.pool.bytes k
    by_frame None is = refl
    by_frame (Some frame) is =
        let above = (frame-below state sound page frame (sound.fits.seen.there page frame is)).0 in
        fold-low page frame k (slice_index_or state.pool.marked page []) state.pool (subst (λ s. 262144 ≤ frame * page_bytes s) (sym sound.fits.size) (frame-high state.directory.page frame above)) (all-private state sound) low
