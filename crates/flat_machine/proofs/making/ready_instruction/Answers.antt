use Rattle.flat_machine.proofs.Common.{◌≡◌, ◌*ℤ◌, pos, rules, sym, target}
use Rattle.flat_machine.proofs.making.ready_instruction.Goals as goal

pub returns-in_ok-doing-in-J : goal.returns-in_ok-doing-in-J
returns-in_ok-doing-in-J c =
    let to : target c.args.iar (pos 2 *ℤ c.in-J.disp) ≡ c.target_of-i.result = search rules in
    let parts = c.row_with.ensures.parts in
    record {
      value = λ halfword_at registers status.
          rw (c.in-J.is, to, sym parts.4, parts.0) (c.in_ok-doing-in-J.ensures.goes c.row_with.result _ registers status _);
      bytes = parts.1;
    }
