-- The bytes that a pool shows once a page came in and its frame was filled.
use Rattle.storage_unit.proofs.Common.{◌≡◌, ◌≢◌, ℕ, ◌+◌, ◌*◌, ◌/◌, ◌%◌, ◌<◌, ◌≤◌, false, List, [], length, refl, sym, ◌∙◌, ap, subst, arith, Option, Some, None, All, if◌then◌else◌, slice_index, slice_index_or, slice_set, option_to_list, option_map_or, get_or-set_same, get_or-set_other, overlaid, length-overlaid, page_bytes, Layout, page_count, page_of, IsOfPage, has, Pool, frame_count, line_size, frame_at, page_at, marks_at, with_room, Brought, page_part, lines-below, is_marked, byte_in_frame, byte_over, IsClean, PoolFits, frame_filled, nat_tests}
use Rattle.lines.specs.Resident.{brought}
use Rattle.storage_unit.proofs.SizeLemmas.{rest-below, place-is, spot-same}
use Rattle.storage_unit.proofs.ByteLemmas.{over-some, marked-is}
use Rattle.storage_unit.proofs.LeaveLemmas.{Fewer, room-fewer}
use Rattle.storage_unit.proofs.FillLemmas.{over-part, in-part, lines_over, lines-long, lines-here, lines-elsewhere, fold-laid}

module _ (d : Layout) (old new : Pool) (committed bytes : List ℕ) (page : ℕ) (keep : Option ℕ) (frame : ℕ)
    (fits : PoolFits d old) (clean : IsClean d old committed) (within : page < page_count d) (absent : has old.resident page ≡ false)
    (came : Brought old new page keep frame) (long : length bytes ≡ page_bytes d.page) where
  -- the pool when another page has gone out
  abbrev pub room : Pool
  room = with_room old keep

  pub fewer : Fewer d old room committed
  fewer = room-fewer d old committed keep fits.seen fits.size clean

  pub size : room.page ≡ d.page
  size = fewer.stays.page ∙ fits.size

  page-room : page < length room.frame_of
  page-room = omega (arith, within, fits.pages, fewer.stays.frame_of)

  -- the page was in no frame
  pub not-there : frame_at room page ≡ None
  not-there = fewer.frames page (let none : frame_at old page ≡ None = grind (arith, nat_tests, fits.seen.resident page) in none)

  -- the marks of the page, its kept lines and its frame
  marks-few : All (λ line. line < 16) (marks_at room page)
  marks-few = lines-below (marks_at room page) (subst (λ (list : List (List ℕ)). IsOfPage (slice_index_or list page [])) (sym fewer.stays.marked) (fits.marks page))

  pub kept-there : page * page_bytes room.page + page_bytes room.page ≤ length room.kept
  kept-there = omega (arith, page_part page (length room.frame_of) (page_bytes room.page) page-room, fewer.seen.kept)

  frame-there : frame * page_bytes room.page + page_bytes room.page ≤ length room.bytes
  frame-there =
      let below : frame < frame_count room.page room.frames = subst (λ s. frame < frame_count s room.frames) (sym fewer.stays.page) (subst (λ n. frame < frame_count old.page n) (sym fewer.stays.frames) came.below) in
      omega (arith, page_part frame (frame_count room.page room.frames) (page_bytes room.page) below, fewer.seen.bytes)

  part-fits : frame * page_bytes room.page + length bytes ≤ length room.bytes
  part-fits = omega (arith, frame-there, long, ap page_bytes size)

  -- its bytes and the whole
  abbrev pub laid_over : List ℕ
  laid_over = lines_over room.page room.kept page frame kept-there (marks_at room page) (overlaid room.bytes (frame * page_bytes room.page) bytes)

  abbrev pub full : Pool
  full = record room {
    bytes = laid_over;
    resident = brought old.frames (option_to_list keep) old.resident page;
    frame_of = slice_set room.frame_of page (Some frame);
    page_in = slice_set room.page_in frame (Some page);
  }

  front-long : length (overlaid room.bytes (frame * page_bytes room.page) bytes) ≡ length room.bytes
  front-long = length-overlaid room.bytes (frame * page_bytes room.page) bytes part-fits

  front-there : frame * page_bytes room.page + page_bytes room.page ≤ length (overlaid room.bytes (frame * page_bytes room.page) bytes)
  front-there = omega (arith, frame-there, front-long)

  pub bytes-long : length laid_over ≡ length room.bytes
  bytes-long = lines-long room.page room.kept page frame kept-there (marks_at room page) (overlaid room.bytes (frame * page_bytes room.page) bytes) marks-few front-there ∙ front-long

  pub frame-here : frame_at full page ≡ Some frame
  frame-here = get_or-set_same room.frame_of page (Some frame) None page-room

  pub frame-elsewhere : (other : ℕ) → page ≢ other → frame_at full other ≡ frame_at room other
  frame-elsewhere other apart = get_or-set_other room.frame_of page other (Some frame) None (λ e. apart (sym e))

  -- the pool that came in and was filled
  pub filled-is : frame_filled new page frame bytes ≡ full
  filled-is = grind (arith, nat_tests, frame-here, fold-laid, kept-there)

  -- what it shows of the page
  pub full-here : (place : ℕ) → page ≡ page_of d place
      → byte_over d full committed place ≡ (if is_marked d room place then slice_index room.kept place else slice_index bytes (place % page_bytes d.page))
  full-here place here =
      let o = place % page_bytes d.page in
      let less : o < page_bytes room.page = omega (arith, rest-below d.page place, ap page_bytes size) in
      let at : page * page_bytes room.page + o ≡ place = ap (λ s. page * page_bytes s + o) size ∙ ap (λ n. n * page_bytes d.page + o) here ∙ place-is d.page place in
      let line : has (marks_at room page) (o / line_size room.page) ≡ is_marked d room place =
      grind (arith, nat_tests, marked-is d room place) in
      grind (
        arith,
        nat_tests,
        over-some d full committed place frame (ap (frame_at full) (sym here) ∙ frame-here),
        lines-here room.page room.kept page frame kept-there (marks_at room page) (overlaid room.bytes (frame * page_bytes room.page) bytes) o marks-few less front-there,
        in-part room.bytes (frame * page_bytes room.page) bytes o part-fits (omega (arith, less, long, ap page_bytes size)),
      )

  -- and of others
  pub full-elsewhere : (place : ℕ) → page ≢ page_of d place → byte_over d full committed place ≡ byte_over d room committed place
  full-elsewhere place apart =
      ap (λ (o : Option ℕ). option_map_or (byte_in_frame d full place) o (if is_marked d room place then slice_index room.kept place else slice_index committed place)) (frame-elsewhere (page_of d place) apart)
      ∙ by_frame (frame_at room (page_of d place)) refl
    where
      by_frame : (o : Option ℕ) → frame_at room (page_of d place) ≡ o
          → option_map_or (byte_in_frame d full place) o (if is_marked d room place then slice_index room.kept place else slice_index committed place)
          ≡ option_map_or (byte_in_frame d room place) o (if is_marked d room place then slice_index room.kept place else slice_index committed place)
      by_frame None is = refl
      by_frame (Some f) is =
          let k : ℕ = f * page_bytes d.page + place % page_bytes d.page in
          let outside : (o : ℕ) → o < page_bytes room.page → frame * page_bytes room.page + o ≡ f * page_bytes d.page + place % page_bytes d.page → ⊥ =
          λ o less same. let one : frame ≡ f = (spot-same d.page frame f o (place % page_bytes d.page) (omega (arith, less, ap page_bytes size)) (rest-below d.page place) (sym (ap (λ s. frame * page_bytes s + o) size) ∙ same)).0 in
          let clash : None ≡ Some (page_of d place) = sym came.free ∙ ap (page_at room) one ∙ fewer.seen.there (page_of d place) f is in
          cc in
          lines-elsewhere room.page room.kept page frame kept-there (marks_at room page) (overlaid room.bytes (frame * page_bytes room.page) bytes) k marks-few front-there outside
          ∙ over-part room.bytes (frame * page_bytes room.page) bytes k part-fits (λ j less same. outside j (omega (arith, less, long, ap page_bytes size)) same)

  pub full-marked : (place : ℕ) → is_marked d full place ≡ is_marked d old place
  full-marked place = fewer.marks place
