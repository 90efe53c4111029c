-- What a directory's fields are made from.
use Rattle.lines.proofs.Common.{pow_pos, arith, refl, length-append, length-drop, PageSize, AreSegmentsLegal, AreFlags, flag_count, nat_tests, ◌≡◌, ℕ, List, ◌++◌, length, drop, replicate}
use Rattle.std.proofs.Math.Seq.{take-append_seam, drop-append_seam}
use Rattle.lines.specs.Kept.{IsDirectoryKept}

-- no flags are flags of any segments
pub no-flags : (page : PageSize) (segments : List (ℕ × ℕ)) → AreFlags page segments 0
no-flags page segments = pow_pos (flag_count page (length segments))

-- legal segments with more behind them, fifteen in all
kept-behind :
    (segments others : List (ℕ × ℕ)) → length others ≡ 15 → AreSegmentsLegal segments
    → drop (length segments) others ≡ drop (length segments) (replicate 15 (0, 0))
    → (page : PageSize) → IsDirectoryKept page (length segments) (segments ++ drop (length segments) others) 0
kept-behind segments others fifteen legal zeros page = grind (arith, nat_tests, length-append, length-drop, drop-append_seam, take-append_seam, no-flags)

-- legal segments with zeros behind them
pub kept-filled :
    (page : PageSize) (segments : List (ℕ × ℕ)) → AreSegmentsLegal segments → IsDirectoryKept page (length segments) (segments ++ drop (length segments) (replicate 15 (0, 0))) 0
kept-filled page segments legal = kept-behind segments (replicate 15 (0, 0)) refl legal refl page
