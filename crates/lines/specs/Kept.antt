-- The fields of a directory: fifteen places for segments, of which the first are in use.
use Rattle.std.specs.Prelude.{◌≡◌, ℕ, ◌≤◌, List, ◌++◌, length, take, drop, replicate}
use Rattle.std.proofs.Common.{arith, ap, ◌∙◌, sym}
use Rattle.std.proofs.lemmas.List.{length-take-le, take-append-drop}
use Rattle.lines.specs.declared.line_geometry.Directory.TheInside.{Inside}
use Rattle.lines.specs.declared.line_geometry.PageSize.{PageSize}
use Rattle.lines.specs.Legal.{AreSegmentsLegal, AreFlags}

-- so many of fifteen segments are in use and are a directory's; the others are zero. The flags are theirs
pub record IsDirectoryKept (page : PageSize) (count : ℕ) (segments : List (ℕ × ℕ)) (fine : ℕ) : Type 0 where
  pub few : count ≤ 15
  pub room : length segments ≡ 15
  pub rest : drop count segments ≡ drop count (replicate 15 (0, 0))
  pub legal : AreSegmentsLegal (take count segments)
  pub flags : AreFlags page (take count segments) fine

-- how many segments are in use
kept-count : {page : PageSize} (count : ℕ) (segments : List (ℕ × ℕ)) {fine : ℕ} → IsDirectoryKept page count segments fine → length (take count segments) ≡ count
kept-count count segments kept = length-take-le count segments (omega (arith, kept.few, kept.room))

-- the segments in use, with zeros behind them
kept-segments :
    {page : PageSize} (count : ℕ) (segments : List (ℕ × ℕ)) {fine : ℕ} → IsDirectoryKept page count segments fine
    → take count segments ++ drop (length (take count segments)) (replicate 15 (0, 0)) ≡ segments
kept-segments count segments kept =
    ap (λ n. take count segments ++ drop n (replicate 15 (0, 0))) (kept-count count segments kept)
    ∙ ap (λ rest. take count segments ++ rest) (sym kept.rest)
    ∙ take-append-drop count segments

-- the fields of a directory follow from what contracts see of it
pub kept-again :
    (d : Inside) → IsDirectoryKept d.page d.count d.segments d.fine
    → record {
      page = d.page;
      count = length (take d.count d.segments);
      segments = take d.count d.segments ++ drop (length (take d.count d.segments)) (replicate 15 (0, 0));
      fine = d.fine;
    }
    ≡ d
kept-again d kept =
    ap
    (λ n. record {
      page = d.page;
      count = n;
      segments = take d.count d.segments ++ drop (length (take d.count d.segments)) (replicate 15 (0, 0));
      fine = d.fine;
    })
    (kept-count d.count d.segments kept)
    ∙ ap (λ segments. record { page = d.page; count = d.count; segments = segments; fine = d.fine }) (kept-segments d.count d.segments kept)
