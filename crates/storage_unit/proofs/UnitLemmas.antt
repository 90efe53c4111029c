-- What is known of every unit, for those that keep one.
use Rattle.storage_unit.proofs.Common.{◌≡◌, ℕ, zero, suc, ◌<◌, true, false, refl, sym, ◌∙◌, subst, arith, Some, None, slice_index_or, nat_tests, Layout, AreSegmentsLegal, SegmentRegister, private_register, Program, registers_of_program, register-window, named-low, Unit, private_segment, is_private, IsUnder, AreReached, IsReachSound, reach_of}

-- its state is sound
pub unit-sound : (unit : Unit) → IsReachSound (reach_of unit)
unit-sound unit = grind (arith, nat_tests)

-- the registers of a program may be a seat's
pub program-reached :
    (directory : Layout) (program : Program) (seat : ℕ) → AreSegmentsLegal directory.segments
    → AreReached directory seat (registers_of_program program directory (private_segment seat))
program-reached directory program seat legal = record { page = refl; first = refl; under = under }
  where
    private-under : (register : SegmentRegister) → private_register (private_segment seat) ≡ register → IsUnder directory seat register
    private-under register is = subst (IsUnder directory seat) is (record { private = λ own. (refl, refl); shared = λ other. absurd (let own : is_private (private_segment seat) ≡ true = grind (arith, nat_tests) in let clash : true ≡ false = sym own ∙ other in cc) })

    under : (number : ℕ) (register : SegmentRegister) → slice_index_or (registers_of_program program directory (private_segment seat)).list number None ≡ Some register → IsUnder directory seat register
    under zero register stands = private-under register (cc)
    under (suc number) register stands =
        let found = register-window program directory (private_segment seat) number register stands in
        let low : register.segment < 3840 = named-low directory.segments register.segment register.bytes directory.page legal found in
        let other : is_private register.segment ≡ false = grind (arith, nat_tests, low) in
        record { private = λ own. absurd (let clash : false ≡ true = sym other ∙ own in cc); shared = λ shared. found }
