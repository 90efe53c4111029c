-- What is laid over the buffer of a record: its head, the closed gate behind it, and one line more.
use Rattle.store.proofs.Common.{◌≡◌, ℕ, ◌+◌, ◌*◌, ◌^◌, ◌<◌, ◌≤◌, List, [], ◌∷◌, ◌++◌, length, take, drop, refl, ◌∙◌, ap, arith, append_assoc, drop_at, big_bytes, big_number, big_number-reads_back, overlaid, PageSize, number_at, entry_bytes, same_number_at, later_front, suc, sym, All, take_at, drop-drop, All-head, All-tail, big_from-take, length-overlaid, line_bytes, RecordLine, lines_from, record_bytes, same_lines, shorter_front, line_at, lines_more, least_after}
use Rattle.store.proofs.NoteLemmas.{take-overlaid, drop-overlaid}

module _ (page : PageSize) (body head : List ℕ) (count : ℕ) (room : 11 + entry_bytes page * count ≤ length body) (ten : length head ≡ 10) where
  headed : List ℕ
  headed = overlaid body 0 head

  filled : List ℕ
  filled = overlaid headed (10 + entry_bytes page * count) (0 ∷ [])

  drop-headed : drop 10 headed ≡ drop 10 body
  unfolding headed
  drop-headed = drop_at head (drop (0 + length head) body) 10 ten ∙ ap (λ (n : ℕ). drop n body) (let same : 0 + length head ≡ 10 = omega arith in same)

  length-headed : length headed ≡ length body
  unfolding headed
  length-headed = length-overlaid body 0 head (omega (arith, room, ten))

  front : take (10 + entry_bytes page * count) filled ≡ take (10 + entry_bytes page * count) headed
  unfolding filled
  front = take-overlaid headed (10 + entry_bytes page * count) (0 ∷ []) (omega (arith, length-headed))

  pub lines_stay : take (entry_bytes page * count) (drop 10 (overlaid (overlaid body 0 head) (10 + entry_bytes page * count) (0 ∷ []))) ≡ take (entry_bytes page * count) (drop 10 body)
  unfolding filled headed
  lines_stay = later_front 10 (entry_bytes page * count) filled headed front ∙ ap (λ (these : List ℕ). take (entry_bytes page * count) these) drop-headed

  pub numbered : (two eight : ℕ) → head ≡ big_bytes 2 two ++ big_bytes 8 eight → eight < 2 ^ 64 → number_at (overlaid (overlaid body 0 head) (10 + entry_bytes page * count) (0 ∷ [])) 2 8 ≡ eight
  unfolding filled headed
  numbered two eight is fits =
      let rest = drop (0 + length head) body in
      let shape : drop 2 headed ≡ big_bytes 8 eight ++ rest =
      ap (λ (these : List ℕ). drop 2 (these ++ rest)) is
      ∙ ap (λ (these : List ℕ). drop 2 these) (append_assoc (big_bytes 2 two) (big_bytes 8 eight) rest)
      ∙ drop_at (big_bytes 2 two) (big_bytes 8 eight ++ rest) 2 refl in
      same_number_at 2 8 (10 + entry_bytes page * count) filled headed front (omega arith)
      ∙ ap (λ (these : List ℕ). big_number 8 these) shape
      ∙ big_number-reads_back 8 eight rest fits

module _ (page : PageSize) (body piece : List ℕ) (count gate line : ℕ) (whole : length piece ≡ line_bytes page) (small : line < 2 ^ 32) (room : 10 + entry_bytes page * count + entry_bytes page ≤ length body) where
  abbrev at : ℕ
  at = 10 + entry_bytes page * count

  laid_number : List ℕ
  laid_number = overlaid body at (big_bytes 4 line)

  written : List ℕ
  written = overlaid laid_number (at + 4) piece

  length-laid : length laid_number ≡ length body
  unfolding laid_number
  length-laid = length-overlaid body at (big_bytes 4 line) (omega (arith, room))

  front_stays : take at written ≡ take at body
  unfolding laid_number written
  front_stays = cc (shorter_front at (at + 4) written laid_number (take-overlaid laid_number (at + 4) piece (omega (arith, length-laid, room))) (omega arith), take-overlaid body at (big_bytes 4 line) (omega (arith, room)))

  -- the number and the bytes of the line stand there
  number_there : take 4 (drop at written) ≡ big_bytes 4 line
  unfolding laid_number written
  number_there =
      later_front at 4 written laid_number (take-overlaid laid_number (at + 4) piece (omega (arith, length-laid, room)))
      ∙ ap (λ (these : List ℕ). take 4 these) (drop-overlaid body at (big_bytes 4 line) (omega (arith, room)))
      ∙ take_at (big_bytes 4 line) (drop (at + 4) body) 4 refl

  piece_there : take (line_bytes page) (drop 4 (drop at written)) ≡ piece
  unfolding laid_number written
  piece_there =
      ap (λ (these : List ℕ). take (line_bytes page) these) (drop-drop 4 at written ∙ drop-overlaid laid_number (at + 4) piece (omega (arith, length-laid, room)))
      ∙ take_at piece (drop (at + 4 + length piece) laid_number) (line_bytes page) whole

  abbrev added : RecordLine
  added = record { line = line; at = gate + record_bytes page count; bytes = piece }

  here : line_at page (gate + 11 + entry_bytes page * count) (drop (entry_bytes page * count) (drop 10 written)) ≡ added
  here =
      let from : 10 + entry_bytes page * count ≡ at = omega arith in
      let place : gate + 11 + entry_bytes page * count ≡ gate + record_bytes page count = omega arith in
      let those : drop (entry_bytes page * count) (drop 10 written) ≡ drop at written = drop-drop (entry_bytes page * count) 10 written in
      let number : big_number 4 (drop at written) ≡ line =
      sym (big_from-take 0 4 4 (drop at written) (omega arith)) ∙ ap (λ (these : List ℕ). big_number 4 these) number_there ∙ big_number-reads_back 4 line [] small in
      cc (those, number, place, piece_there)

  pub line_added : lines_from page (count + 1) (gate + 11) (drop 10 (overlaid (overlaid body (10 + entry_bytes page * count) (big_bytes 4 line)) (10 + entry_bytes page * count + 4) piece)) ≡ lines_from page count (gate + 11) (drop 10 body) ++ record { line = line; at = gate + record_bytes page count; bytes = piece } ∷ []
  unfolding laid_number written
  line_added =
      let more : count + 1 ≡ suc count = omega arith in
      cc (more, lines_more page count (gate + 11) (drop 10 written), same_lines page count (gate + 11) (entry_bytes page * count) (drop 10 written) (drop 10 body) (later_front 10 (entry_bytes page * count) written body front_stays) (omega arith), here)

-- a line above all others comes next
pub least_low : (least line : ℕ) (lines : List RecordLine) → least ≤ line → All (λ begun. begun.line < line) lines → least_after least lines ≤ line
least_low least line [] low all = low
least_low least line (first ∷ lines) low all =
    least_low (first.line + 1) line lines (omega (arith, All-head (λ (begun : RecordLine). begun.line < line) first lines all)) (All-tail (λ (begun : RecordLine). begun.line < line) first lines all)
