-- A page that comes in: the frame that is lent is filled, and its kept lines are laid over it.
use Rattle.storage_unit.proofs.Common.{◌≡◌, refl, ℕ, ◌+◌, ◌*◌, ◌<◌, ◌≤◌, ◌==◌, true, List, [], ◌∷◌, length, Option, Some, None, is_some, range_with_len, slice_index, get_or-set_same, page_count, frame_at, marks_at, with_room, ap, arith, sym, subst, ◌∙◌, eq-eqb, length-take, length-drop, page_bytes, Layout, has, Pool, IsSeen, frame_bytes, Brought, pool_emptied, kept_laid, with_bytes, with_frame_part, lent-part, page_part, PoolFits, frame_filled, private_frames, Reach, reach_of, Unit, nat_tests, both_ways, or_left, bits_of, lines_of_bits, bits_of-lines, laid-anyway, AreReady, AreClear}
use Rattle.storage_unit.specs.Incoming.{IsFilled, IsAllKept, HasGoneOut}
use Rattle.storage_unit.proofs.SizeLemmas.{frame-high}
use Rattle.storage_unit.proofs.StoreLemmas.{all-private}
use Rattle.storage_unit.proofs.LaidLemmas.{over-low}
use Rattle.storage_unit.proofs.ReadyLemmas.{ready-kept}
use Rattle.storage_unit.proofs.ClearLemmas.{clear-kept}
use Rattle.storage_unit.proofs.LeaveLemmas.{emptied-frame}
use Rattle.storage_unit.proofs.StateLemmas.{laid-bytes, room-stays}
use Rattle.storage_unit.proofs.UnitLemmas.{unit-sound}

pub none-has : (xs : List ℕ) → ((x : ℕ) → has xs x ≡ true → ⊥) → xs ≡ []
none-has [] none = refl
none-has (x ∷ xs) none = absurd (none x (or_left (x == x) (has xs x) (eq-eqb x x refl)))

-- once all pages went out, none is resident
pub emptied-resident : (pool : Pool) → IsSeen pool → IsSeen (pool_emptied pool) → (pool_emptied pool).resident ≡ []
emptied-resident pool seen after = none-has (pool_emptied pool).resident (λ page inside. both_ways (has (pool_emptied pool).resident page) (after.resident page ∙ ap is_some (emptied-frame pool page seen)) inside)

module _ (unit brought_in : Unit) (page : ℕ) (keep : Option ℕ) (frame : ℕ) (came : Brought (reach_of unit).pool (reach_of brought_in).pool page keep frame) where
  -- what is marked of it stays as it comes
  marks-stay : marks_at (reach_of brought_in).pool page ≡ marks_at (reach_of unit).pool page
  marks-stay = cc (came.rest, (room-stays (reach_of unit).pool keep unit.fits.seen).1.marked)

  -- where each of its lines is marked, the bits say so
  pub all-marked : (bits : ℕ) → bits < 65536 → lines_of_bits bits ≡ marks_at (reach_of brought_in).pool page → marks_at (reach_of unit).pool page ≡ range_with_len 0 16 → bits ≡ 65535
  all-marked bits small told all = sym (bits_of-lines bits small) ∙ ap bits_of (told ∙ marks-stay ∙ all)

module _ (unit brought_in : Unit) (page : ℕ) (keep : Option ℕ) (frame : ℕ) (lent : List ℕ)
    (came : Brought (reach_of unit).pool (reach_of brought_in).pool page keep frame) (rest : reach_of brought_in ≡ record (reach_of unit) { pool = (reach_of brought_in).pool })
    (lends : lent ≡ frame_bytes (reach_of brought_in).pool frame) where
  there : PoolFits unit.directory (reach_of brought_in).pool
  there = subst (λ (directory : Layout). PoolFits directory (reach_of brought_in).pool) (ap (λ (r : Reach). r.directory) rest) (brought_in.fits)

  inside : frame * page_bytes brought_in.pool.page + page_bytes brought_in.pool.page ≤ length brought_in.pool.bytes
  inside = grind (arith, nat_tests)

  whole : length lent ≡ page_bytes brought_in.pool.page
  whole = ap length lends ∙ simp (length-take, length-drop) (omega (arith, inside))

  pub lent-long : length lent ≡ page_bytes unit.directory.page
  lent-long = whole ∙ ap page_bytes there.size

  -- private bytes stay, whatever fills the frame
  filled-low : (part : List ℕ) → length part ≡ length lent → (k : ℕ) → k < 262144
      → slice_index (with_frame_part brought_in.pool (frame * page_bytes brought_in.pool.page) part).bytes k ≡ slice_index brought_in.pool.bytes k
  filled-low part keeps_length k low =
      let page_stays : brought_in.pool.page ≡ (reach_of unit).pool.page = ap (λ (p : Pool). p.page) came.rest ∙ (room-stays (reach_of unit).pool keep unit.fits.seen).1.page in
      let high : 262144 ≤ frame * page_bytes brought_in.pool.page = frame-high brought_in.pool.page frame (subst (λ s. private_frames s ≤ frame) (sym page_stays) came.above) in
      ap (λ (p : Pool). slice_index p.bytes k) (lent-part brought_in.pool (frame * page_bytes brought_in.pool.page) part (omega (arith, inside, whole, keeps_length)))
      ∙ over-low brought_in.pool.bytes (frame * page_bytes brought_in.pool.page) part k (omega (arith, low, high)) (omega (arith, low, all-private (reach_of brought_in) (unit-sound brought_in)))

  pub still-ready : (part : List ℕ) → length part ≡ length lent
      → AreReady brought_in.rows (with_frame_part brought_in.pool (frame * page_bytes brought_in.pool.page) part).bytes brought_in.runner
  still-ready part keeps_length = ready-kept brought_in.rows brought_in.pool.bytes _ brought_in.runner brought_in.selected.few (filled-low part keeps_length) brought_in.ready

  pub still-clear : (part : List ℕ) → length part ≡ length lent
      → AreClear brought_in.used (with_frame_part brought_in.pool (frame * page_bytes brought_in.pool.page) part).bytes
  still-clear part keeps_length = clear-kept brought_in.used brought_in.pool.bytes _ (filled-low part keeps_length) brought_in.clear

  -- each of its lines is kept
  pub is-kept : (now : Unit) → reach_of now ≡ record (reach_of brought_in) { pool = kept_laid (reach_of brought_in).pool page } → range_with_len 0 16 ≡ marks_at (reach_of brought_in).pool page
      → page < page_count unit.directory → IsAllKept (reach_of unit) page keep (reach_of now).pool
  is-kept now lays all below =
      let pool : Pool = (reach_of brought_in).pool in
      let stays = (room-stays (reach_of unit).pool keep unit.fits.seen).1 in
      let room : Pool = with_room (reach_of unit).pool keep in
      let placed : page < length room.frame_of = omega (arith, below, stays.frame_of, unit.fits.pages) in
      let in_frame : frame_at pool page ≡ Some frame = ap (λ (p : Pool). frame_at p page) came.rest ∙ get_or-set_same room.frame_of page (Some frame) None placed in
      let kept : page * page_bytes pool.page + page_bytes pool.page ≤ length pool.kept =
      omega (arith, page_part page (length pool.frame_of) (page_bytes pool.page) (omega (arith, below, there.pages)), there.seen.kept) in
      record {
        whole = sym (all ∙ marks-stay unit brought_in page keep frame came);
        any = λ bytes long. record {
          frame = frame;
          room = pool;
          came = came;
          fits = there;
          long = long;
          is = cc (laid-anyway page frame pool bytes in_frame all (long ∙ sym (ap page_bytes there.size)) inside kept);
          resident = grind (arith, nat_tests, laid-bytes pool page, came.rest);
        };
      }

  module _ (part : List ℕ) (now : Unit) (keeps_length : length part ≡ length lent)
      (lays : reach_of now ≡ record (reach_of brought_in) { pool = kept_laid (with_frame_part brought_in.pool (frame * page_bytes brought_in.pool.page) part) page }) where
    pool-filled : (reach_of now).pool ≡ frame_filled (reach_of brought_in).pool page frame part
    pool-filled = grind (arith, nat_tests, lent-part, inside, whole)

    pub is-filled : IsFilled (reach_of unit) page keep part (reach_of now).pool
    is-filled = record {
      frame = frame;
      room = (reach_of brought_in).pool;
      came = came;
      fits = there;
      long = keeps_length ∙ lent-long;
      is = pool-filled;
      resident =
          ap (λ (pool : Pool). pool.resident) pool-filled
          ∙ ap (λ (pool : Pool). pool.resident) (laid-bytes (with_bytes (reach_of brought_in).pool (frame * page_bytes (reach_of brought_in).pool.page) part) page)
          ∙ ap (λ (pool : Pool). pool.resident) came.rest;
    }

    pub has-gone-out : (after : Unit) → reach_of after ≡ record (reach_of now) { pool = pool_emptied (reach_of now).pool } → HasGoneOut (reach_of unit) page keep (reach_of after).pool
    has-gone-out after empties =
        let out = ap (λ (r : Reach). r.pool) empties in
        record {
          bytes = part;
          between = (reach_of now).pool;
          was = is-filled;
          out = out;
          none = ap (λ (pool : Pool). pool.resident) out ∙ emptied-resident (reach_of now).pool now.fits.seen (subst IsSeen out after.fits.seen);
        }
