-- A page that came in: its frame filled, and its kept lines laid over it.
use Rattle.storage_unit.proofs.Common.{◌≡◌, ℕ, ◌+◌, ◌-◌, ◌*◌, ◌/◌, ◌<◌, ◌≤◌, Bool, List, [], ◌∷◌, length, refl, sym, ◌∙◌, ap, arith, All, inl, inr, ◌==◌, ◌||◌, if◌then◌else◌, slice_index, slice_range, fold, cases_eq, eq-eqb, ne_eqb, length-take, length-drop, All-head, All-tail, overlaid, overlaid_before, overlaid_within, overlaid_behind, length-overlaid, PageSize, page_bytes, has, Pool, line_size, line_place, line_laid, line_kept, nat_tests}
use Rattle.storage_unit.proofs.SizeLemmas.{line-of-rest, rest-of-line, line-within}
use Rattle.storage_unit.proofs.ByteLemmas.{in-range}

-- a byte of a list of which a part is written over
pub over-part : (xs : List ℕ) (at : ℕ) (part : List ℕ) (k : ℕ) → at + length part ≤ length xs → ((j : ℕ) → j < length part → at + j ≡ k → ⊥) → slice_index (overlaid xs at part) k ≡ slice_index xs k
over-part xs at part k fits outside =
    let within = λ (high : at ≤ k) (low : k < at + length part). outside (k - at) (omega (arith, high, low)) (omega (arith, high)) in
    grind (arith, overlaid_before xs at part k 0, overlaid_behind xs at part k 0, within)

pub in-part : (xs : List ℕ) (at : ℕ) (part : List ℕ) (j : ℕ) → at + length part ≤ length xs → j < length part → slice_index (overlaid xs at part) (at + j) ≡ slice_index part j
in-part xs at part j fits below = grind (arith, nat_tests, overlaid_within)

module _ (size : PageSize) (kept : List ℕ) (page frame : ℕ) (there : page * page_bytes size + page_bytes size ≤ length kept) where
  abbrev pub lines_over : List ℕ → List ℕ → List ℕ
  lines_over [] bytes = bytes
  lines_over (line ∷ lines) bytes =
      lines_over lines (overlaid bytes (line_place size frame line) (slice_range kept (line_place size page line) (line_place size page line + line_size size)))

  line-long : (line : ℕ) → line < 16 → length (slice_range kept (line_place size page line) (line_place size page line + line_size size)) ≡ line_size size
  line-long line below = simp (length-take, length-drop) (omega (arith, there, line-within size line below))

  fits : (bytes : List ℕ) (line : ℕ) → line < 16 → frame * page_bytes size + page_bytes size ≤ length bytes
      → line_place size frame line + length (slice_range kept (line_place size page line) (line_place size page line + line_size size)) ≤ length bytes
  fits bytes line below room = omega (arith, line-long line below, line-within size line below, room)

  pub lines-long : (lines bytes : List ℕ) → All (λ line. line < 16) lines → frame * page_bytes size + page_bytes size ≤ length bytes → length (lines_over lines bytes) ≡ length bytes
  lines-long [] bytes few room = refl
  lines-long (line ∷ lines) bytes few room =
      let next = length-overlaid bytes (line_place size frame line) (slice_range kept (line_place size page line) (line_place size page line + line_size size))
      (fits bytes line (All-head (λ line. line < 16) line lines few) room) in
      cc (lines-long lines (overlaid bytes (line_place size frame line) (slice_range kept (line_place size page line) (line_place size page line + line_size size))) (All-tail (λ line. line < 16) line lines few) (omega (arith, next, room)))

  -- a byte of the frame is the kept one, if its line is among them
  one-over : (line : ℕ) (bytes : List ℕ) (o : ℕ) → line < 16 → o < page_bytes size → frame * page_bytes size + page_bytes size ≤ length bytes
      → slice_index (overlaid bytes (line_place size frame line) (slice_range kept (line_place size page line) (line_place size page line + line_size size))) (frame * page_bytes size + o)
      ≡ (if line == o / line_size size then slice_index kept (page * page_bytes size + o) else slice_index bytes (frame * page_bytes size + o))
  one-over line bytes o few below room = elim (cases_eq line (o / line_size size)) [
    | inl same ↦
        let (low, high) = rest-of-line size o line (sym same) in
        let at : frame * page_bytes size + o ≡ line_place size frame line + (o - line * line_size size) = omega (arith, low) in
        let other : line_place size page line + (o - line * line_size size) ≡ page * page_bytes size + o = omega (arith, low) in
        let short : o - line * line_size size < line_size size = omega (arith, low, high) in
        grind (
          arith,
          nat_tests,
          in-part bytes (line_place size frame line) (slice_range kept (line_place size page line) (line_place size page line + line_size size)) (o - line * line_size size) (fits bytes line few room) (omega (arith, line-long line few, short)),
          in-range kept (line_place size page line) (line_size size) (o - line * line_size size) short,
          eq-eqb line (o / line_size size) same,
        )
    | inr apart ↦
        grind (
          arith,
          nat_tests,
          over-part bytes (line_place size frame line) (slice_range kept (line_place size page line) (line_place size page line + line_size size)) (frame * page_bytes size + o) (fits bytes line few room) (λ j less same. apart (sym (line-of-rest size o line (omega (arith, same)) (omega (arith, same, less, line-long line few))))),
          ne_eqb line (o / line_size size) apart,
        )
  ]

  pub lines-here : (lines bytes : List ℕ) (o : ℕ) → All (λ line. line < 16) lines → o < page_bytes size → frame * page_bytes size + page_bytes size ≤ length bytes
      → slice_index (lines_over lines bytes) (frame * page_bytes size + o)
      ≡ (if has lines (o / line_size size) then slice_index kept (page * page_bytes size + o) else slice_index bytes (frame * page_bytes size + o))
  lines-here [] bytes o few below room = refl
  lines-here (line ∷ lines) bytes o few below room =
      let by_tests : (now later : Bool)
      → (if later then slice_index kept (page * page_bytes size + o) else (if now then slice_index kept (page * page_bytes size + o) else slice_index bytes (frame * page_bytes size + o))) ≡ (if now || later then slice_index kept (page * page_bytes size + o) else slice_index bytes (frame * page_bytes size + o)) =
      λ now later. grind (arith, nat_tests) in
      let first = All-head (λ line. line < 16) line lines few in
      let part = slice_range kept (line_place size page line) (line_place size page line + line_size size) in
      let next = length-overlaid bytes (line_place size frame line) part (fits bytes line first room) in
      lines-here lines (overlaid bytes (line_place size frame line) part) o (All-tail (λ line. line < 16) line lines few) below (omega (arith, next, room))
      ∙ ap (λ (n : ℕ). if has lines (o / line_size size) then slice_index kept (page * page_bytes size + o) else n) (one-over line bytes o first below room)
      ∙ by_tests (line == o / line_size size) (has lines (o / line_size size))

  -- and bytes of other frames stay
  pub lines-elsewhere : (lines bytes : List ℕ) (k : ℕ) → All (λ line. line < 16) lines → frame * page_bytes size + page_bytes size ≤ length bytes
      → ((o : ℕ) → o < page_bytes size → frame * page_bytes size + o ≡ k → ⊥) → slice_index (lines_over lines bytes) k ≡ slice_index bytes k
  lines-elsewhere [] bytes k few room outside = refl
  lines-elsewhere (line ∷ lines) bytes k few room outside =
      let first = All-head (λ line. line < 16) line lines few in
      let part = slice_range kept (line_place size page line) (line_place size page line + line_size size) in
      let next = length-overlaid bytes (line_place size frame line) part (fits bytes line first room) in
      lines-elsewhere lines (overlaid bytes (line_place size frame line) part) k (All-tail (λ line. line < 16) line lines few) (omega (arith, next, room)) outside
      ∙ over-part bytes (line_place size frame line) part k (fits bytes line first room)
      (λ j less same. outside (line * line_size size + j) (omega (arith, less, line-long line first, line-within size line first)) (omega (arith, same)))

-- kept lines that are laid change bytes of frames alone
pub fold-laid :
    (pool : Pool) (page frame : ℕ) (lines bytes : List ℕ) (there : page * page_bytes pool.page + page_bytes pool.page ≤ length pool.kept)
    → fold (line_laid page frame) (record pool { bytes = bytes }) lines ≡ record pool { bytes = lines_over pool.page pool.kept page frame there lines bytes }
fold-laid pool page frame [] bytes there = refl
fold-laid pool page frame (line ∷ lines) bytes there = fold-laid pool page frame lines (overlaid bytes (line_place pool.page frame line) (line_kept pool page line)) there
