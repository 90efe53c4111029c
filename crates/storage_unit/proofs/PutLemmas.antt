-- Bytes that are put into frames of the store, and the lines that are marked.
use Rattle.storage_unit.proofs.Common.{◌≡◌, ◌≢◌, ℕ, ◌+◌, ◌-◌, ◌*◌, ◌/◌, ◌%◌, ◌<◌, ◌≤◌, Bool, false, List, [], length, refl, sym, ◌∙◌, ap, arith, Option, Some, None, get_or, inl, inr, ◌==◌, ◌&&◌, ◌||◌, nat_le, if◌then◌else◌, slice_index, slice_set, cases_lt, cases_eq, nat_tests, same_lists, length-set, get_or-set_same, get_or-set_other, get_or_default, get_or-map-range_with_len, length-map-range_with_len, same_number_lists, overlaid, length-overlaid, page_bytes, line_bytes, Layout, line_of, page_of, union, between, lines_where, where-alike, is_in_where-below, has, page_of_line, has-range, Shared, lines_at, Pool, IsSeen, frame_at, page_at, marks_at, lines_of_part, AreOfPages, is_line_marked, byte_in_frame, put_byte, spot_put, marks_put, put_in_store}
use Rattle.storage_unit.proofs.SizeLemmas.{rest-below, place-is, page-at, byte-at, page-between, line-few, line-order}
use Rattle.storage_unit.proofs.FillLemmas.{over-part, in-part}

-- a byte among those that are put, and one that isn't
pub put-inside : (bytes : List ℕ) (from place old : ℕ) → from ≤ place → place < from + length bytes → put_byte bytes from place old ≡ slice_index bytes (place - from)
put-inside bytes from place old above below = grind (arith, nat_tests)

pub put-outside : (bytes : List ℕ) (from place old : ℕ) → (from ≤ place → place < from + length bytes → ⊥) → put_byte bytes from place old ≡ old
put-outside bytes from place old outside = grind (arith, nat_tests)

-- the lines of some bytes
pub has-lines : (d : Layout) (from count line : ℕ) → 0 < count → has (lines_at d (Shared from) count) line ≡ (nat_le (line_of d from) line && nat_le line (line_of d (from + count - 1)))
has-lines d from count line some = grind (arith, nat_tests, has-range, line-order)

module _ (d : Layout) (pool : Pool) (from : ℕ) (bytes : List ℕ) where
  pub spots-long : length (put_in_store d pool from bytes).bytes ≡ length pool.bytes
  spots-long = length-map-range_with_len (spot_put d pool from bytes) 0 (length pool.bytes)

  pub marks-long : length (put_in_store d pool from bytes).marked ≡ length pool.marked
  marks-long = length-map-range_with_len (marks_put d pool from (length bytes)) 0 (length pool.marked)

  -- a byte of a frame with a page of the store
  pub spot-there : (frame page o : ℕ) → page_at pool frame ≡ Some page → o < page_bytes d.page → frame * page_bytes d.page + o < length pool.bytes
      → slice_index (put_in_store d pool from bytes).bytes (frame * page_bytes d.page + o) ≡ put_byte bytes from (page * page_bytes d.page + o) (slice_index pool.bytes (frame * page_bytes d.page + o))
  spot-there frame page o there less below = grind (arith, nat_tests, get_or-map-range_with_len, byte-at, page-at)

  -- and of one without
  pub spot-none : (frame o : ℕ) → page_at pool frame ≡ None → o < page_bytes d.page → frame * page_bytes d.page + o < length pool.bytes
      → slice_index (put_in_store d pool from bytes).bytes (frame * page_bytes d.page + o) ≡ slice_index pool.bytes (frame * page_bytes d.page + o)
  spot-none frame o none less below = grind (arith, nat_tests, get_or-map-range_with_len, page-at)

  -- a place of the store that is in a frame
  pub place-put : (place frame : ℕ) → page_at pool frame ≡ Some (page_of d place) → frame * page_bytes d.page + page_bytes d.page ≤ length pool.bytes
      → byte_in_frame d (put_in_store d pool from bytes) place frame ≡ put_byte bytes from place (byte_in_frame d pool place frame)
  place-put place frame there room = grind (arith, nat_tests, spot-there, rest-below, place-is)

  -- the marks of a line
  pub line-put : (line : ℕ) → page_of_line line < length pool.marked
      → is_line_marked (put_in_store d pool from bytes) line ≡ (is_line_marked pool line || has (lines_at d (Shared from) (length bytes)) line)
  line-put line below =
      let whole : page_of_line line * 16 + line % 16 ≡ line = omega arith in
      ap (λ (set : List ℕ). has set (line % 16))
      (get_or-map-range_with_len (marks_put d pool from (length bytes)) 0 (length pool.marked) (page_of_line line) (page_of_line line) [] below (omega arith))
      ∙ is_in_where-below (λ x. has (marks_at pool (page_of_line line)) x || has (lines_where (λ y. has (lines_at d (Shared from) (length bytes)) (page_of_line line * 16 + y))) x) (line % 16) (omega arith)
      ∙ ap (λ (b : Bool). has (marks_at pool (page_of_line line)) (line % 16) || b)
      (is_in_where-below (λ y. has (lines_at d (Shared from) (length bytes)) (page_of_line line * 16 + y)) (line % 16) (omega arith)
      ∙ ap (has (lines_at d (Shared from) (length bytes))) whole)

-- bytes of one page that are written over those of its frame
module _ (d : Layout) (pool : Pool) (seen : IsSeen pool) (marks : AreOfPages pool.marked) (from : ℕ) (bytes : List ℕ) (frame : ℕ)
    (some : 0 < length bytes) (within : from % page_bytes d.page + length bytes ≤ page_bytes d.page) (there : page_at pool frame ≡ Some (from / page_bytes d.page)) (room : frame * page_bytes d.page + page_bytes d.page ≤ length pool.bytes) where
  abbrev at : ℕ
  at = frame * page_bytes d.page + from % page_bytes d.page

  whole : from / page_bytes d.page * page_bytes d.page + from % page_bytes d.page ≡ from
  whole = place-is d.page from

  fits : frame * page_bytes d.page + from % page_bytes d.page + length bytes ≤ length pool.bytes
  fits = omega (arith, room, within)

  pub page-bytes : overlaid pool.bytes (frame * page_bytes d.page + from % page_bytes d.page) bytes ≡ (put_in_store d pool from bytes).bytes
  page-bytes =
      same_number_lists (overlaid pool.bytes at bytes) (put_in_store d pool from bytes).bytes (long ∙ sym (spots-long d pool from bytes))
      (λ k below. element k (omega (arith, below, long)))
    where
      long : length (overlaid pool.bytes at bytes) ≡ length pool.bytes
      long = length-overlaid pool.bytes at bytes fits

      -- in another frame
      elsewhere : (k : ℕ) → k / page_bytes d.page ≢ frame → slice_index (overlaid pool.bytes at bytes) k ≡ slice_index pool.bytes k
      elsewhere k apart = over-part pool.bytes at bytes k fits (λ j less same. apart (ap (λ n. n / page_bytes d.page) (sym same ∙ omega arith) ∙ page-at d.page frame (from % page_bytes d.page + j) (omega (arith, less, within))))

      -- in the same frame
      same-frame : (o : ℕ) → o < page_bytes d.page → slice_index (overlaid pool.bytes at bytes) (frame * page_bytes d.page + o) ≡ put_byte bytes from (from / page_bytes d.page * page_bytes d.page + o) (slice_index pool.bytes (frame * page_bytes d.page + o))
      same-frame o less = elim (cases_lt o (from % page_bytes d.page)) [
        | inl low ↦
            over-part pool.bytes at bytes (frame * page_bytes d.page + o) fits (λ j small same. absurd (omega (arith, same, low)))
            ∙ sym (put-outside bytes from (from / page_bytes d.page * page_bytes d.page + o) (slice_index pool.bytes (frame * page_bytes d.page + o)) (λ above below. absurd (omega (arith, above, low, whole))))
        | inr high ↦
            elim (cases_lt o (from % page_bytes d.page + length bytes)) [
              | inl inside ↦
                  let spot : frame * page_bytes d.page + o ≡ at + (o - from % page_bytes d.page) = omega (arith, high) in
                  let back : from / page_bytes d.page * page_bytes d.page + o - from ≡ o - from % page_bytes d.page = omega (arith, high, whole) in
                  cc (
                    in-part pool.bytes at bytes (o - from % page_bytes d.page) fits (omega (arith, high, inside)),
                    put-inside bytes from (from / page_bytes d.page * page_bytes d.page + o) (slice_index pool.bytes (frame * page_bytes d.page + o)) (omega (arith, high, whole)) (omega (arith, inside, whole)),
                  )
              | inr past ↦
                  over-part pool.bytes at bytes (frame * page_bytes d.page + o) fits (λ j small same. absurd (omega (arith, same, past, small)))
                  ∙ sym (put-outside bytes from (from / page_bytes d.page * page_bytes d.page + o) (slice_index pool.bytes (frame * page_bytes d.page + o)) (λ above below. absurd (omega (arith, below, past, whole))))
            ]
      ]

      one : (a b : ℕ) → Some a ≡ Some b → a ≡ b
      one a b same = cc

      element : (k : ℕ) → k < length pool.bytes → slice_index (overlaid pool.bytes at bytes) k ≡ slice_index (put_in_store d pool from bytes).bytes k
      element k below =
          let split : k / page_bytes d.page * page_bytes d.page + k % page_bytes d.page ≡ k = place-is d.page k in
          elim (cases_eq (k / page_bytes d.page) frame) [
            | inl same ↦
                let here : frame * page_bytes d.page + k % page_bytes d.page ≡ k = ap (λ n. n * page_bytes d.page + k % page_bytes d.page) (sym same) ∙ split in
                cc (same-frame (k % page_bytes d.page) (rest-below d.page k), spot-there d pool from bytes frame (from / page_bytes d.page) (k % page_bytes d.page) there (rest-below d.page k) (omega (arith, here, below)))
            | inr apart ↦ cc (elsewhere k apart, by_page (page_at pool (k / page_bytes d.page)) refl apart)
          ]
        where
          by_page : (o : Option ℕ) → page_at pool (k / page_bytes d.page) ≡ o → k / page_bytes d.page ≢ frame
              → slice_index pool.bytes (k / page_bytes d.page * page_bytes d.page + k % page_bytes d.page) ≡ slice_index (put_in_store d pool from bytes).bytes (k / page_bytes d.page * page_bytes d.page + k % page_bytes d.page)
          by_page None is apart = sym (spot-none d pool from bytes (k / page_bytes d.page) (k % page_bytes d.page) is (rest-below d.page k) (omega (arith, place-is d.page k, below)))
          by_page (Some page) is apart =
              sym
              (spot-there d pool from bytes (k / page_bytes d.page) page (k % page_bytes d.page) is (rest-below d.page k) (omega (arith, place-is d.page k, below))
              ∙ put-outside bytes from (page * page_bytes d.page + k % page_bytes d.page) (slice_index pool.bytes (k / page_bytes d.page * page_bytes d.page + k % page_bytes d.page))
              (λ above below.
              let same : page ≡ from / page_bytes d.page = page-between d.page page (k % page_bytes d.page) from (length bytes) (rest-below d.page k) within above below in
              apart (one (k / page_bytes d.page) frame (sym (seen.back page (k / page_bytes d.page) is) ∙ ap (frame_at pool) same ∙ seen.back (from / page_bytes d.page) frame there))))

  -- the lines of the first and the last of the bytes, by the page
  first-line : line_of d from ≡ from / page_bytes d.page * 16 + from % page_bytes d.page / line_bytes d.page
  first-line = grind (arith, nat_tests)

  last-line : line_of d (from + length bytes - 1) ≡ from / page_bytes d.page * 16 + (from % page_bytes d.page + length bytes - 1) / line_bytes d.page
  last-line = grind (arith, nat_tests)

  added : (base low high : ℕ) → nat_le low high ≡ nat_le (base + low) (base + high)
  added base low high = grind (arith, nat_tests)

  -- the lines of the part are those of the bytes
  part-lines : (line : ℕ) → line < 16 → has (lines_of_part d.page (from % page_bytes d.page) (length bytes)) line ≡ has (lines_at d (Shared from) (length bytes)) (from / page_bytes d.page * 16 + line)
  part-lines line few =
      let base = from / page_bytes d.page * 16 in
      let low = from % page_bytes d.page / line_bytes d.page in
      let high = (from % page_bytes d.page + length bytes - 1) / line_bytes d.page in
      let none : (length bytes == 0) ≡ false = grind (arith, nat_tests, some) in
      ap (λ (b : Bool). has (if b then [] else between low high) line) none
      ∙ is_in_where-below (λ x. nat_le low x && nat_le x high) line few
      ∙ ap (λ (b : Bool). b && nat_le line high) (added base low line ∙ ap (λ n. nat_le n (base + line)) (sym first-line))
      ∙ ap (λ (b : Bool). nat_le (line_of d from) (base + line) && b) (added base line high ∙ ap (nat_le (base + line)) (sym last-line))
      ∙ sym (has-lines d from (length bytes) (base + line) some)

  pub page-marks :
      from / page_bytes d.page < length pool.marked
      → slice_set pool.marked (from / page_bytes d.page) (union (marks_at pool (from / page_bytes d.page)) (lines_of_part d.page (from % page_bytes d.page) (length bytes))) ≡ (put_in_store d pool from bytes).marked
  page-marks below =
      same_lists (slice_set pool.marked (from / page_bytes d.page) set) (put_in_store d pool from bytes).marked
      (length-set pool.marked (from / page_bytes d.page) set ∙ sym (marks-long d pool from bytes)) (λ k e less. element k e (omega (arith, less, length-set pool.marked (from / page_bytes d.page) set)))
    where
      set : List ℕ
      set = union (marks_at pool (from / page_bytes d.page)) (lines_of_part d.page (from % page_bytes d.page) (length bytes))

      either : (b c : Bool) → b ≡ c → (a : Bool) → (a || b) ≡ (a || c)
      either b c same a = ap (λ (x : Bool). a || x) same

      element : (k : ℕ) (e : List ℕ) → k < length pool.marked → get_or (slice_set pool.marked (from / page_bytes d.page) set) k e ≡ get_or (put_in_store d pool from bytes).marked k e
      element k e less = elim (cases_eq k (from / page_bytes d.page)) [
        | inl same ↦
            ap (λ n. get_or (slice_set pool.marked (from / page_bytes d.page) set) n e) same
            ∙ get_or-set_same pool.marked (from / page_bytes d.page) set e below
            ∙ where-alike
            (λ x. has (marks_at pool (from / page_bytes d.page)) x || has (lines_of_part d.page (from % page_bytes d.page) (length bytes)) x)
            (λ x. has (marks_at pool (from / page_bytes d.page)) x || has (lines_where (λ y. has (lines_at d (Shared from) (length bytes)) (from / page_bytes d.page * 16 + y))) x)
            (λ x few.
            either _ _
            (part-lines x few ∙ sym (is_in_where-below (λ y. has (lines_at d (Shared from) (length bytes)) (from / page_bytes d.page * 16 + y)) x few))
            (has (marks_at pool (from / page_bytes d.page)) x))
            ∙ ap (marks_put d pool from (length bytes)) (sym same)
            ∙ sym (get_or-map-range_with_len (marks_put d pool from (length bytes)) 0 (length pool.marked) k k e less (omega arith))
        | inr apart ↦
            get_or-set_other pool.marked (from / page_bytes d.page) k set e apart
            ∙ get_or_default pool.marked k e [] less
            ∙ sym (marks k)
            ∙ where-alike (λ x. has (marks_at pool k) x) (λ x. has (marks_at pool k) x || has (lines_where (λ y. has (lines_at d (Shared from) (length bytes)) (k * 16 + y))) x)
            (λ x few.
            sym (nothing (has (marks_at pool k) x))
            ∙ either _ _
            (sym (is_in_where-below (λ y. has (lines_at d (Shared from) (length bytes)) (k * 16 + y)) x few ∙ (grind (arith, nat_tests, has-lines, line-few, first-line, last-line))))
            (has (marks_at pool k) x))
            ∙ sym (get_or-map-range_with_len (marks_put d pool from (length bytes)) 0 (length pool.marked) k k e less (omega arith))
      ]
        where
          nothing : (b : Bool) → (b || false) ≡ b
          nothing b = grind (arith, nat_tests)
