use Rattle.storage_unit.proofs.Lemmas.{◌≡◌, ℕ, ◌+◌, ◌*◌, ◌<◌, ◌≤◌, List, length, true, sym, ◌∙◌, arith, refl, Some, nat_le, slice_index, slice_range, nat_tests, length-take, length-drop, get_or-map-range_with_len, length-map-range_with_len, same_number_lists, bytes_from, halfword_of, Reach, seat_selected, byte_at, IsReachSound, reach_of, Unit, common_steps, big_number, Selected, selected, all-private, own-located, unit-sound}
use Rattle.storage_unit.proofs.ByteLemmas.{in-range}
use Rattle.storage_unit.proofs.LocatedLemmas.{private-at}
use Rattle.storage_unit.proofs.storage.UnitStorage.fetch.Goals as goal

-- else two private bytes of the seat
own : (state : Reach) (sound : IsReachSound state) (address : ℕ) → 1 ≤ state.runner → address + 2 ≤ 16384
    → slice_range state.pool.bytes (seat_selected state * 16384 + address) (seat_selected state * 16384 + address + 2) ≡ bytes_from (byte_at state) address 2
own state sound address some fits =
    let one : Selected state = selected state sound some in
    let long : length (slice_range state.pool.bytes (seat_selected state * 16384 + address) (seat_selected state * 16384 + address + 2)) ≡ 2 =
    simp (length-take, length-drop) (omega (arith, one.runner, one.few, fits, all-private state sound)) in
    let element : (k : ℕ) → k < 2 → slice_index (slice_range state.pool.bytes (seat_selected state * 16384 + address) (seat_selected state * 16384 + address + 2)) k ≡ slice_index (bytes_from (byte_at state) address 2) k =
    λ k below. let spot : seat_selected state * 16384 + address + k ≡ seat_selected state * 16384 + (address + k) = omega arith in
    cc (
      in-range state.pool.bytes (seat_selected state * 16384 + address) 2 k below,
      private-at state.directory sound.legal one.seat (address + k),
      own-located state one.seat (address + k) 1 one.reached (omega (arith, below, fits)),
      get_or-map-range_with_len (byte_at state) address 2 k (address + k) 0 below refl,
    ) in
    same_number_lists (slice_range state.pool.bytes (seat_selected state * 16384 + address) (seat_selected state * 16384 + address + 2)) (bytes_from (byte_at state) address 2)
    (long ∙ sym (length-map-range_with_len (byte_at state) address 2)) (λ k below. element k (omega (arith, below, long)))

fetched : (unit : Unit) (address result : ℕ) (part : List ℕ) → 1 ≤ unit.runner → address + 2 ≤ 16384
    → part ≡ slice_range unit.pool.bytes (seat_selected (reach_of unit) * 16384 + address) (seat_selected (reach_of unit) * 16384 + address + 2)
    → result ≡ big_number 2 part → Some result ≡ halfword_of (byte_at (reach_of unit)) address
fetched unit address result part some fits copied read =
    let state = reach_of unit in
    let inside : nat_le (address + 2) 16384 ≡ true = grind (arith, nat_tests, fits) in
    cc (own state (unit-sound unit) address some fits)

pub returns : goal.returns
returns c = grind (arith, nat_tests, fetched)

pub read_u16-requires : goal.read_u16-requires
read_u16-requires c = grind (arith, common_steps)
