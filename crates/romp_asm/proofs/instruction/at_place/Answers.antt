use Rattle.romp_asm.proofs.Lemmas.{arith, common_steps, inst_made, nat_tests, sym, ◌∙◌, scale_some}
use Rattle.romp_asm.proofs.instruction.at_place.Goals as goal

pub short_field-requires : goal.short_field-requires
short_field-requires c = scale_some c.args.op _ (sym c.in-Short.is ∙ c.requires)

pub returns-in_ok-c-in-Short : goal.returns-in_ok-c-in-Short
returns-in_ok-c-in-Short c =
    inst_made (grind (arith, common_steps)) (grind arith) c.requires (grind arith) (λ row told. grind (arith, nat_tests, c.in-Short.is))

pub returns-in_ok-c-in-Long : goal.returns-in_ok-c-in-Long
returns-in_ok-c-in-Long c =
    inst_made (grind (arith, common_steps)) (grind arith) c.requires (grind arith) (λ row told. grind (arith, nat_tests, c.in-Long.is))
