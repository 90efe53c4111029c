use Rattle.romp_asm.proofs.Lemmas.{arith, common_steps, nat_tests, w8, w32, to_z-of_z, legal}
use Rattle.romp_asm.proofs.instruction.conditional.Goals as goal

pub returns-in_ok-disp-in-Jump : goal.returns-in_ok-disp-in-Jump
returns-in_ok-disp-in-Jump c =
    let small = c.in_ok-cond-in-Jump.ensures.small in
    record {
      value = grind (arith, common_steps);
      size = grind (arith, common_steps);
      legal = rw (to_z-of_z w8 c.eight_bits.result (omega arith)) (legal _ c.args.form c.requires (omega arith, c.eight_bits.ensures.signed) (λ row told. grind (arith, nat_tests, c.in-Jump.is)));
    }

pub returns-in_ok-disp-in-Branch : goal.returns-in_ok-disp-in-Branch
returns-in_ok-disp-in-Branch c =
    let small = c.in_ok-b-in-Branch.ensures.small in
    record {
      value = grind (arith, common_steps);
      size = grind (arith, common_steps);
      legal = rw (to_z-of_z w32 c.twenty_bits.result (omega arith)) (legal _ c.args.form c.requires (omega arith, c.twenty_bits.ensures.signed) (λ row told. grind (arith, nat_tests, c.in-Branch.is)));
    }
