-- An access under the segment registers of a program lies where the plain machine has it.
use Rattle.storage_unit.proofs.Common.{arith, nat_tests, Layout, AreSegmentsLegal, virtual_at, located_under, located_by, Private, Program, in_register, located, register_of_window, registers_of_program, named-low, Reach, private_segment, is_private, place_at, seat_selected, HasWindows, ◌≡◌, ℕ, zero, suc, ◌/◌, ◌%◌, ◌^◌, Bool, true, slice_index_or, None, Ok}
use Rattle.std.proofs.Math.ListN.{get_or-map}
use Rattle.storage_unit.proofs.PlaceLemmas.{offset-is}

module _ (d : Layout) (legal : AreSegmentsLegal d.segments) (seat : ℕ) where
  own : is_private (private_segment seat) ≡ true
  own = grind (arith, nat_tests)

  pub private-at : (o : ℕ) → place_at d (Ok (virtual_at d.page (private_segment seat) o)) ≡ Private o
  private-at o = grind (arith, nat_tests, own, offset-is)

  register-lies : (p : Program) (i o n : ℕ) (store : Bool)
      → place_at d (located_under d.page (slice_index_or (registers_of_program p d (private_segment seat)).list i None) o n store) ≡ in_register p d i o n store
  register-lies p zero o n store = grind (arith, nat_tests)
  register-lies p (suc i) o n store = grind (arith, nat_tests, get_or-map (register_of_window d) p.windows i None, named-low)

-- an access lies where the plain machine has it
pub lies-where :
    (state : Reach) (p : Program) → AreSegmentsLegal state.directory.segments → HasWindows state p → (address n : ℕ) (store : Bool)
    → place_at state.directory (located_by state.registers address n store) ≡ located p state.directory address n store
lies-where state p legal windows address n store = grind (arith, nat_tests, register-lies state.directory legal (seat_selected state) p (address / 2 ^ 28) (address % 2 ^ 28) n store)
