-- The answer to an access, by the lines of its bytes.
use Rattle.storage_unit.proofs.Common.{◌≡◌, ℕ, ◌+◌, ◌<◌, Bool, true, false, refl, sym, ◌∙◌, ap, arith, Option, Some, None, Ok, not, find, option_map, range_with_len, line_of, Located, Private, Shared, Virtual, Registers, bytes_on, located_by, Access, Probe, bytes_of_range, unless_absent_at, answered_at, answered, byte_place, on, is_resident, is_refused, is_there, is_kept_from, is_in_frame, refuses_byte, Reach, IsReachSound, AreThere, nat_tests}
use Rattle.storage_unit.proofs.FindLemmas.{find-map, find-same, none-passes, none-found}
use Rattle.storage_unit.proofs.PlaceLemmas.{place-on, registers-page}

module _ (f : Reach) (first : Virtual) (n : ℕ) where
  -- the answer by the places of the bytes
  abbrev pub answer_by : Located → Bool → Probe
  answer_by place store =
      unless_absent_at
      (option_map (bytes_on f.directory.page first) (find (λ k. not (is_there f (on place k))) (range_with_len 0 n)))
      (option_map (bytes_on f.directory.page first) (find (λ k. is_kept_from f (on place k) store) (range_with_len 0 n)))

  pub answered-by : (access : Access) → access.bytes ≡ n → answered_at f.directory.page (is_in_frame f) (refuses_byte f) access (Ok first) ≡ answer_by (byte_place f.directory first) access.store
  answered-by access bytes =
      ap (λ m. unless_absent_at (find (λ at. not (is_in_frame f at)) (bytes_of_range f.directory.page first m)) (find (λ at. refuses_byte f at access.store) (bytes_of_range f.directory.page first m))) bytes
      ∙ ap (λ absent. unless_absent_at absent (find (λ at. refuses_byte f at access.store) (bytes_of_range f.directory.page first n))) (grind (arith, nat_tests, find-map, find-same, place-on))
      ∙ ap (unless_absent_at (option_map (bytes_on f.directory.page first) (find (λ k. not (is_there f (on (byte_place f.directory first) k))) (range_with_len 0 n)))) (grind (arith, nat_tests, find-map, find-same, place-on))

  -- in the private storage it is permitted
  pub answered-private : (access : Access) (at : ℕ) → access.bytes ≡ n → byte_place f.directory first ≡ Private at
      → answered_at f.directory.page (is_in_frame f) (refuses_byte f) access (Ok first) ≡ Probe.Permitted
  answered-private access at bytes place = grind (arith, nat_tests, answered-by, none-found)

  -- each byte of a permitted access is in a frame
  pub permitted-there : (access : Access) → access.bytes ≡ n → answered_at f.directory.page (is_in_frame f) (refuses_byte f) access (Ok first) ≡ Probe.Permitted
      → (k : ℕ) → k < n → is_there f (on (byte_place f.directory first) k) ≡ true
  permitted-there access bytes permitted k below =
      by_found (find (λ k. not (is_there f (on (byte_place f.directory first) k))) (range_with_len 0 n)) refl (sym (answered-by access bytes) ∙ permitted)
    where
      by_found : (absent : Option ℕ) → find (λ k. not (is_there f (on (byte_place f.directory first) k))) (range_with_len 0 n) ≡ absent
          → unless_absent_at (option_map (bytes_on f.directory.page first) absent) (option_map (bytes_on f.directory.page first) (find (λ k. is_kept_from f (on (byte_place f.directory first) k) access.store) (range_with_len 0 n))) ≡ Probe.Permitted
          → is_there f (on (byte_place f.directory first) k) ≡ true
      by_found (Some j) is permitted = absurd (cc)
      by_found None is permitted = grind (arith, nat_tests, none-passes (λ k. not (is_there f (on (byte_place f.directory first) k))) 0 n is k (omega arith) (omega arith))

  -- a permitted access of the store: each of its lines is there and permits
  pub permitted-lines : (access : Access) (at : ℕ) → access.bytes ≡ n → byte_place f.directory first ≡ Shared at
      → answered_at f.directory.page (is_in_frame f) (refuses_byte f) access (Ok first) ≡ Probe.Permitted
      → (k : ℕ) → k < n → (is_resident f (line_of f.directory (at + k)) ≡ true) × (is_refused f (line_of f.directory (at + k)) access.store ≡ false)
  permitted-lines access at bytes place permitted =
      by_found
      (find (λ k. not (is_resident f (line_of f.directory (at + k)))) (range_with_len 0 n))
      (find (λ k. is_refused f (line_of f.directory (at + k)) access.store) (range_with_len 0 n))
      refl refl
      (sym (answered-by access bytes ∙ ap (λ p. answer_by p access.store) place) ∙ permitted)
    where
      by_found : (absent refused : Option ℕ)
          → find (λ k. not (is_resident f (line_of f.directory (at + k)))) (range_with_len 0 n) ≡ absent
          → find (λ k. is_refused f (line_of f.directory (at + k)) access.store) (range_with_len 0 n) ≡ refused
          → unless_absent_at (option_map (bytes_on f.directory.page first) absent) (option_map (bytes_on f.directory.page first) refused) ≡ Probe.Permitted
          → (k : ℕ) → k < n → (is_resident f (line_of f.directory (at + k)) ≡ true) × (is_refused f (line_of f.directory (at + k)) access.store ≡ false)
      by_found (Some j) refused a r permitted k below = absurd (cc)
      by_found None (Some j) a r permitted k below = absurd (cc)
      by_found None None a r permitted k below = (
        grind (arith, nat_tests, none-passes (λ k. not (is_resident f (line_of f.directory (at + k)))) 0 n a k (omega arith) (omega arith)),
        none-passes (λ k. is_refused f (line_of f.directory (at + k)) access.store) 0 n r k (omega arith) (omega arith),
      )

  -- and the other way round
  pub lines-permitted : (access : Access) (at : ℕ) → access.bytes ≡ n → byte_place f.directory first ≡ Shared at
      → ((k : ℕ) → k < n → (is_resident f (line_of f.directory (at + k)) ≡ true) × (is_refused f (line_of f.directory (at + k)) access.store ≡ false))
      → answered_at f.directory.page (is_in_frame f) (refuses_byte f) access (Ok first) ≡ Probe.Permitted
  lines-permitted access at bytes place all = grind (arith, nat_tests, answered-by, none-found)

-- a permitted access lies somewhere
pub permitted-located :
    (registers : Registers) (is_in_frame : Virtual → Bool) (refuses_byte : Virtual → Bool → Bool) (access : Access)
    → answered registers is_in_frame refuses_byte access ≡ Probe.Permitted
    → (at : Virtual) × (located_by registers access.address access.bytes access.store ≡ Ok at)
permitted-located registers is_in_frame refuses_byte access permitted = grind (arith, nat_tests)

-- each byte of an access that is permitted under the registers is in a frame
pub permitted-bytes :
    (state : Reach) → IsReachSound state → (access : Access) (at : Virtual)
    → answered state.registers (is_in_frame state) (refuses_byte state) access ≡ Probe.Permitted
    → located_by state.registers access.address access.bytes access.store ≡ Ok at → AreThere state at access.bytes
permitted-bytes state sound access at permitted found =
    permitted-there state at access.bytes access refl
    (ap (λ page. answered_at page (is_in_frame state) (refuses_byte state) access (Ok at)) (sym (registers-page state sound))
    ∙ ap (answered_at state.registers.page (is_in_frame state) (refuses_byte state) access) (sym found) ∙ permitted)
