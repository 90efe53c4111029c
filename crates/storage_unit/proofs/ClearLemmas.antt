-- The private bytes behind those that were used stay zeros.
use Rattle.storage_unit.proofs.Common.{◌≡◌, ℕ, ◌+◌, ◌-◌, ◌*◌, ◌<◌, ◌≤◌, true, false, List, ◌++◌, length, replicate, ◌∙◌, ap, arith, inl, inr, cases_eq, cases_lt, slice_index, slice_range, slice_set, get_or-set_same, get_or-set_other, get_or-replicate, get_or_past, get_or-append_right, length-set, length-append, length-replicate, length-take, length-drop, overlaid, Virtual, Reach, is_private, offset_of, byte_place, put_at, IsReachSound, Lies, AreClear, AreUsed, nat_tests}
use Rattle.storage_unit.proofs.ByteLemmas.{in-range}
use Rattle.storage_unit.proofs.FillLemmas.{over-part, in-part}
use Rattle.storage_unit.proofs.ReadyLemmas.{put-low}

-- all private bytes stay
pub clear-kept : (used old new : List ℕ) → ((k : ℕ) → k < 262144 → slice_index new k ≡ slice_index old k) → AreClear used old → AreClear used new
clear-kept used old new same clear = record {
  sixteen = clear.sixteen;
  few = clear.few;
  zeros = λ seat offset low past below. same (seat * 16384 + offset) (omega (arith, low, below)) ∙ clear.zeros seat offset low past below;
}

-- bytes are put
pub clear-put :
    (state : Reach) (sound : IsReachSound state) (at : Virtual) (bytes : List ℕ) → Lies state at (length bytes) → (used after : List ℕ) → AreClear used state.pool.bytes
    → (is_private at.segment ≡ false → after ≡ used) → (is_private at.segment ≡ true → AreUsed used after (at.segment - 3840) (offset_of state.directory.page at + length bytes))
    → AreClear after (put_at state (byte_place state.directory at) bytes).pool.bytes
clear-put state sound at bytes lies used after clear stays more = grind (arith, nat_tests, clear-kept, put-low)

-- the bytes of one seat
pub seat-clear :
    (used bytes : List ℕ) (seat : ℕ) → seat < 16 → AreClear used bytes → (offset : ℕ) → slice_index used seat ≤ offset
    → slice_index (slice_range bytes (seat * 16384) (seat * 16384 + 16384)) offset ≡ 0
seat-clear used bytes seat low clear offset past = elim (cases_lt offset 16384) [
  | inl below ↦ in-range bytes (seat * 16384) 16384 offset below ∙ clear.zeros seat offset low past below
  | inr behind ↦ get_or_past (slice_range bytes (seat * 16384) (seat * 16384 + 16384)) offset 0 (simp (length-take, length-drop) (omega (arith, behind)))
]

-- a seat is begun
pub clear-begun :
    (used bytes image : List ℕ) (seat : ℕ) → seat < 16 → length image ≤ 16384 → 262144 ≤ length bytes → AreClear used bytes
    → AreClear (slice_set used seat (length image)) (overlaid bytes (seat * 16384) (image ++ replicate (16384 - length image) 0))
clear-begun used bytes image seat small short long clear =
    let here : slice_index (slice_set used seat (length image)) seat ≡ length image = get_or-set_same used seat (length image) 0 (omega (arith, small, clear.sixteen)) in
    let whole-long : length (image ++ replicate (16384 - length image) 0) ≡ 16384 =
    omega (arith, short, length-append image (replicate (16384 - length image) 0), length-replicate {A = ℕ} (16384 - length image) 0) in
    let tail : (offset : ℕ) → length image ≤ offset → offset < 16384 → slice_index (image ++ replicate (16384 - length image) 0) offset ≡ 0 =
    λ offset behind below. grind (arith, get_or-append_right, get_or-replicate) in
    record {
      sixteen = length-set used seat (length image) ∙ clear.sixteen;
      few = λ other. elim (cases_eq other seat) [ inl same ↦ omega (arith, ap (slice_index (slice_set used seat (length image))) same, here, short) | inr apart ↦ omega (arith, get_or-set_other used seat other (length image) 0 apart, clear.few other) ];
      zeros = λ other offset low past below. elim (cases_eq other seat) [
        | inl same ↦
            let behind : length image ≤ offset = omega (arith, past, ap (slice_index (slice_set used seat (length image))) same, here) in
            ap (λ n. slice_index (overlaid bytes (seat * 16384) (image ++ replicate (16384 - length image) 0)) (n * 16384 + offset)) same
            ∙ in-part bytes (seat * 16384) (image ++ replicate (16384 - length image) 0) offset (omega (arith, whole-long, small, long)) (omega (arith, whole-long, below))
            ∙ tail offset behind below
        | inr apart ↦
            over-part bytes (seat * 16384) (image ++ replicate (16384 - length image) 0) (other * 16384 + offset) (omega (arith, whole-long, small, long)) (λ j less same. apart (omega (arith, less, whole-long, same, below)))
            ∙ clear.zeros other offset low (omega (arith, past, get_or-set_other used seat other (length image) 0 apart)) below
      ];
    }

-- nothing was used
zeros-only : (n k : ℕ) → slice_index (replicate n 0) k ≡ 0
zeros-only n k = elim (cases_lt k n) [ inl below ↦ get_or-replicate n k 0 0 below | inr past ↦ get_or_past (replicate n 0) k 0 (omega (arith, past, length-replicate {A = ℕ} n 0)) ]

pub clear-fresh : (n : ℕ) → AreClear (replicate 16 0) (replicate n 0)
clear-fresh n = record { sixteen = length-replicate {A = ℕ} 16 0; few = λ seat. omega (arith, zeros-only 16 seat); zeros = λ seat offset low past below. zeros-only n (seat * 16384 + offset) }
