-- Which lists of segments a directory has.
use Rattle.std.specs.Prelude.{ℕ, ◌+◌, ◌≤◌, ◌<◌, ◌^◌, nat_lt, nat_le, ◌==◌, ◌||◌, if◌then◌else◌, Bool, List, [], ◌∷◌, length, map, sum_by, All, Option, Some, None}
use Rattle.std.specs.List.Sorted.{IsStrictlyIncreasing}
use Rattle.lines.specs.declared.line_geometry.DirectoryFault.{DirectoryFault}
use Rattle.lines.specs.declared.line_geometry.DirectoryFault.TheVariants.{Order, Range, TooMany, Flag}
use Rattle.lines.specs.declared.line_geometry.PageSize.{PageSize}
use Rattle.lines.specs.declared.line_geometry.PageSize.TheVariants.{Two, Four}

-- whether a number isn't one of those from a least to a greatest
abbrev pub is_outside : ℕ → ℕ → ℕ → Bool
is_outside least greatest n = nat_lt n least || nat_lt greatest n

-- whether a segment's identifier or number of pages is out of range
abbrev pub is_strange : ℕ × ℕ → Bool
is_strange segment = is_outside 1 3839 segment.0 || is_outside 1 128 segment.1

-- the first fault of these segments, behind others with a last identifier and so many pages
abbrev pub fault_after : ℕ → ℕ → List (ℕ × ℕ) → Option DirectoryFault
fault_after last pages [] = None
fault_after last pages (segment ∷ rest) =
    if is_strange segment then Some Range
    else if nat_le segment.0 last then Some Order
    else if nat_lt 1024 (pages + segment.1) then Some TooMany
    else fault_after segment.0 (pages + segment.1) rest

-- the first fault of a list of segments: too many, none at all, and then segment by segment
abbrev pub fault_of : List (ℕ × ℕ) → Option DirectoryFault
fault_of segments =
    if nat_lt 15 (length segments) then Some TooMany
    else if length segments == 0 then Some Range
    else fault_after 0 0 segments

-- a segment by itself: its identifier from 1 to 3,839, its pages from 1 to 128
abbrev pub IsInRange : ℕ × ℕ → Type 0
IsInRange segment = (1 ≤ segment.0) × (segment.0 ≤ 3839) × (1 ≤ segment.1) × (segment.1 ≤ 128)

-- what a directory's segments are: one to fifteen, each in range, with ascending identifiers, and at most 1,024 pages in all
pub record AreSegmentsLegal (segments : List (ℕ × ℕ)) : Type 0 where
  pub some : 1 ≤ length segments
  pub few : length segments ≤ 15
  pub in_range : All IsInRange segments
  pub ascending : IsStrictlyIncreasing (map (λ segment. segment.0) segments)
  pub pages : sum_by (λ segment. segment.1) segments ≤ 1024

-- how many flags so many segments have: one each, and none with pages of 2,048 bytes
abbrev pub flag_count : PageSize → ℕ → ℕ
flag_count Two count = 0
flag_count Four count = count

-- flags have no other bit
abbrev pub AreFlags : PageSize → List (ℕ × ℕ) → ℕ → Type 0
AreFlags page segments fine = fine < 2 ^ flag_count page (length segments)

-- the first fault with these flags: that of the segments, and then that of the flags
abbrev pub flagged_fault : PageSize → List (ℕ × ℕ) → ℕ → Option DirectoryFault → Option DirectoryFault
flagged_fault page segments fine (Some fault) = Some fault
flagged_fault page segments fine None = if nat_lt fine (2 ^ flag_count page (length segments)) then None else Some Flag

abbrev pub fault_with : PageSize → List (ℕ × ℕ) → ℕ → Option DirectoryFault
fault_with page segments fine = flagged_fault page segments fine (fault_of segments)
