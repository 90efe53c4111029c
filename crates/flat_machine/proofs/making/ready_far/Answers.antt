use Rattle.flat_machine.proofs.Common.{◌≡◌, ◌*ℤ◌, pos, rules, sym, target}
use Rattle.flat_machine.proofs.making.ready_far.Goals as goal

pub returns-in_ok-jump_made-in_default : goal.returns-in_ok-jump_made-in_default
returns-in_ok-jump_made-in_default c =
    let to : target c.args.iar (pos 2 *ℤ c.args.disp) ≡ c.target_of-i.result = search rules in
    let row = c.row_with-in_default.result in
    let parts = c.row_with-in_default.ensures.parts in
    record {
      value = λ halfword_at registers status.
          rw (to, sym parts.4, parts.0) (c.in_ok-jump_made-in_default.ensures.goes row _ registers status _);
      bytes = parts.1;
    }
