use Rattle.schedule_replay.proofs.Lemmas.{common_steps, rules, ◌≡◌, ℕ, [], ◌∷◌, ◌++◌, map, false, Desk, numbers, Left, End, number_after, closing_lines, puts_same, arith, nat_tests}
use Rattle.schedule_replay.proofs.events.put_closing.Goals as goal

closing_open : (number : ℕ) (desk : Desk) → desk.closed ≡ false → map Left (numbers desk) ++ End (number_after number desk) ∷ [] ≡ closing_lines number [] desk
closing_open number desk was_open = grind (arith, nat_tests, number_after)

pub returns : goal.returns
returns g c = record {
  only = first_of (search rules, grind (arith, common_steps));
  some = (c.as_slice.result.now, c.number.result, c.put_each_and.ensures);
  puts = λ held start shows. grind (arith, puts_same, c.as_slice.ensures.value, c.active-left.ensures, c.number.ensures, closing_open, g.met.S.Supervisor.shown_told);
}
