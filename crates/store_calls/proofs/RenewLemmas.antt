-- A store of version 2 with what a store of version 1 has.
use Rattle.store_calls.proofs.Common.{◌≡◌, inl, inr, ℕ, ◌+◌, ◌*◌, ◌/◌, ◌%◌, ◌^◌, ◌<◌, ◌≤◌, false, List, [], ◌∷◌, ◌++◌, length, map, take, take-suc, get_or, drop, replicate, true≢false, refl, sym, ◌∙◌, ap, subst, arith, All, sum_by, cases_eq, length-append, length-drop, length-replicate, length-map, length-take, map-append, pow_pos, Layout, FlatStore, IsInRange, AreSegmentsLegal, bytes_of, Two, number_at, page_size_of, Stands, stands, Ghosts, flat_of, KeptStore, Given, call, Status, IsNoEmpty, IsOfWriting, Written, HasOne, IsRenewed, Renewed, RenewedBy, is_version_two, renew_line, renewed_header, renewed_image, store_widened, widened_bytes, widened_segments, nat_tests, sum_by-cons}
use Rattle.std.proofs.lemmas.List.Elements.{All-nil, All-cons, All-head, All-tail}
use Rattle.store_format.proofs.Fresh.{stored_stands}
use Rattle.store_format.proofs.Sound.{begins_two, named_header, sound_header, stood_header}

-- the segments of twice the size are those of a directory
named_same : (segments : List (ℕ × ℕ)) → map (λ segment. segment.0) (widened_segments segments) ≡ map (λ segment. segment.0) segments
named_same [] = refl
named_same (segment ∷ segments) = ap (λ (those : List ℕ). segment.0 ∷ those) (named_same segments)

fewer_pages : (segments : List (ℕ × ℕ)) → All IsInRange segments → sum_by (λ segment. segment.1) (widened_segments segments) ≤ sum_by (λ segment. segment.1) segments
fewer_pages [] range = omega arith
fewer_pages (segment ∷ segments) range =
    let here = All-head IsInRange segment segments range in
    omega (arith, fewer_pages segments (All-tail IsInRange segment segments range), here.2, sum_by-cons (λ (those : ℕ × ℕ). those.1) segment segments, sum_by-cons (λ (those : ℕ × ℕ). those.1) (segment.0, (segment.1 + 1) / 2) (widened_segments segments))

still_in_range : (segments : List (ℕ × ℕ)) → All IsInRange segments → All IsInRange (widened_segments segments)
still_in_range [] range = All-nil IsInRange
still_in_range (segment ∷ segments) range = grind (arith, nat_tests, All-head IsInRange segment segments range, All-cons IsInRange (segment.0, (segment.1 + 1) / 2) (widened_segments segments), still_in_range segments (All-tail IsInRange segment segments range))

pub widened_legal : (segments : List (ℕ × ℕ)) → AreSegmentsLegal segments → AreSegmentsLegal (widened_segments segments)
widened_legal segments legal = grind (arith, nat_tests, length-map, still_in_range, named_same, fewer_pages)

-- one segment more
pub widened_more : (segments : List (ℕ × ℕ)) (i : ℕ) (d : ℕ × ℕ) → i < length segments
    → widened_segments (take (i + 1) segments) ≡ widened_segments (take i segments) ++ ((get_or segments i d).0, ((get_or segments i d).1 + 1) / 2) ∷ []
widened_more segments i d below = grind (arith, nat_tests, take-suc segments i d below, map-append)

-- and have as many bytes as its pages
pub length-widened : (segments : List (ℕ × ℕ)) (bytes : List ℕ) → length bytes ≡ sum_by (bytes_of 2048) segments → length (widened_bytes segments bytes) ≡ sum_by (bytes_of 4096) (widened_segments segments)
length-widened [] bytes whole = refl
length-widened (segment ∷ segments) bytes whole =
    let own = segment.1 * 2048 in let odd = segment.1 % 2 * 2048 in
    let parts : length bytes ≡ segment.1 * 2048 + sum_by (bytes_of 2048) segments = whole ∙ sum_by-cons (bytes_of 2048) segment segments in
    let rest = length-widened segments (drop own bytes) (length-drop own bytes ∙ omega (arith, parts)) in
    let pages : (segment.1 + 1) / 2 * 4096 ≡ segment.1 * 2048 + segment.1 % 2 * 2048 = omega arith in
    let taken : length (take own bytes) ≡ own = length-take own bytes ∙ omega (arith, parts) in
    length-append (take own bytes ++ replicate odd 0) (widened_bytes segments (drop own bytes))
    ∙ ap (λ (n : ℕ). n + length (widened_bytes segments (drop own bytes))) (length-append (take own bytes) (replicate odd 0) ∙ ap (λ (n : ℕ). n + length {A = ℕ} (replicate odd 0)) taken ∙ ap (λ (n : ℕ). own + n) (length-replicate {A = ℕ} odd 0) ∙ sym pages)
    ∙ ap (λ (n : ℕ). (segment.1 + 1) / 2 * 4096 + n) rest
    ∙ sym (sum_by-cons (bytes_of 4096) (segment.0, (segment.1 + 1) / 2) (widened_segments segments))

-- the image of the widened store stands for it
pub renewed_stands : (bank number : ℕ) (store : FlatStore) → 4096 ≤ bank → bank ≤ 131072 → number < 2 ^ 64 → AreSegmentsLegal store.directory.segments → length store.bytes ≡ sum_by (bytes_of 2048) store.directory.segments
    → stands (renewed_image bank number store) ≡ Stands number (store_widened store)
renewed_stands bank number store least most low legal whole =
    stored_stands (renewed_header bank store) number (store_widened store).bytes (record { least_bank = least; most_bank = most }) (widened_legal store.directory.segments legal) (pow_pos (length (widened_segments store.directory.segments))) low
    (length-widened store.directory.segments store.bytes whole)

-- what stands and has no version 2 in front is a store of version 1
pub stood_one : (text : List ℕ) (number : ℕ) (store : FlatStore) → is_version_two text ≡ false → stands text ≡ Stands number store → (store.directory.page ≡ Two) × AreSegmentsLegal store.directory.segments × (number < 2 ^ 64)
stood_one text number store plain is =
    let (none, directory, low) = stood_header text number store is in
    let (name, long, least, most) = named_header text none in
    let sound = sound_header (take 128 text) (length text) none in
    let version = number_at (take 128 text) 8 2 in (
      elim (cases_eq version 2) [
        | inl two ↦ absurd (true≢false (sym (begins_two text long name two) ∙ plain))
        | inr other ↦
            let one : version ≡ 1 = one_left version least most other in
            ap (λ (those : Layout). those.page) directory ∙ ap page_size_of one
      ],
      subst (λ (those : Layout). AreSegmentsLegal those.segments) (sym directory) sound.legal,
      low,
    )
  where
    one_left : (n : ℕ) → 1 ≤ n → n ≤ 2 → (n ≡ 2 → ⊥) → n ≡ 1
    one_left n least most other = omega (arith, least, most, other)

-- an old store with an image that was written, or couldn't be
module _ {W : Type 0} (G : Ghosts W) (bank : ℕ) (given : Given) (before after : W) (read : given.faults_now ≡ given.faults) (old : KeptStore) (has : HasOne given old) (least : 4096 ≤ bank) (most : bank ≤ 131072) where
  renewed_from : (now : Status) → Written G (renewed_image bank old.number (flat_of old)) (renew_line (length (renewed_image bank old.number (flat_of old))) old.number) (call before after [] now) → IsRenewed G bank given (call before after [] now)
  renewed_from now written = grind (arith, nat_tests, renewed_stands bank old.number (flat_of old) least most has.low has.legal has.bytes)

  -- what it did is what writing did, where the status is one of writing
  renewed_so : (now : Status) → Written G (renewed_image bank old.number (flat_of old)) (renew_line (length (renewed_image bank old.number (flat_of old))) old.number) (call before after [] now) → RenewedBy G bank given (call before after [] now) now → Renewed G bank given (call before after [] now)
  renewed_so now written by = record { no_order = refl; calm = written.calm; source_calm = λ other. read; by_status = by }

  pub renewed_by_writing : (now : Status) → IsOfWriting now → Written G (renewed_image bank old.number (flat_of old)) (renew_line (length (renewed_image bank old.number (flat_of old))) old.number) (call before after [] now)
      → Renewed G bank given (call before after [] now)
  renewed_by_writing now of written = grind (arith, nat_tests, renewed_so, renewed_from)

  pub renewed_no_empty : (now : Status) → IsNoEmpty G before after now → Written G (renewed_image bank old.number (flat_of old)) (renew_line (length (renewed_image bank old.number (flat_of old))) old.number) (call before after [] now)
      → Renewed G bank given (call before after [] now)
  renewed_no_empty now why written = grind (arith, nat_tests, renewed_so, renewed_from)
