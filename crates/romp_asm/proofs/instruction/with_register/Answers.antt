use Rattle.romp_asm.proofs.Lemmas.{arith, common_steps, inst_made, nat_tests, w32, to_z-of_z, legal}
use Rattle.romp_asm.proofs.instruction.with_register.Goals as goal

pub returns-in_ok-disp-in-Link : goal.returns-in_ok-disp-in-Link
returns-in_ok-disp-in-Link c =
    record {
      value = grind (arith, common_steps);
      size = grind (arith, common_steps);
      legal = rw (to_z-of_z w32 c.twenty_bits.result (omega arith)) (legal _ c.args.form c.requires (grind arith) (λ row told. grind (arith, nat_tests, c.in-Link.is)));
    }

pub returns-in_ok-k-in-Count : goal.returns-in_ok-k-in-Count
returns-in_ok-k-in-Count c =
    inst_made (grind (arith, common_steps)) (grind arith) c.requires (grind arith) (λ row told. grind (arith, nat_tests, c.in-Count.is))

pub returns-in_ok-i-in-Compare : goal.returns-in_ok-i-in-Compare
returns-in_ok-i-in-Compare c =
    inst_made (grind (arith, common_steps)) (grind arith) c.requires (grind arith) (λ row told. grind (arith, nat_tests, c.in-Compare.is))
