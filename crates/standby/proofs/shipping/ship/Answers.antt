use Rattle.standby.proofs.Common.{common_steps, rules, arith}
use Rattle.standby.proofs.shipping.ship.Goals as goal

pub returns-in-Err : goal.returns-in-Err
returns-in-Err g c = record {
  not_kept = first_of (search rules, grind (arith, common_steps));
  refused = first_of (search rules, grind (arith, common_steps));
  only = first_of (search rules, grind (arith, common_steps));
  ends = first_of (search rules, grind (arith, common_steps));
  ships = λ shown. grind (arith, c.in-Err.ensures.prints shown, c.in-Err.ensures.goes.stopped);
  content = grind arith;
}

pub returns-in-Ok : goal.returns-in-Ok
returns-in-Ok g c = record {
  not_kept = first_of (search rules, grind (arith, common_steps));
  refused = first_of (search rules, grind (arith, common_steps));
  only = first_of (search rules, grind (arith, common_steps));
  ends = first_of (search rules, grind (arith, common_steps));
  ships = c.in-Ok.ensures.prints;
  content = λ done. c.in-Ok.ensures.bytes;
}
