use Rattle.activations.proofs.Lemmas.{nat_lt, nat_tests, TurnEnd, Activity, lines_with, wants_of, ◌≡◌, true, ap, arith, over-limit, below-of}
use Rattle.activations.proofs.activations.Activations.keep_limit.Goals as goal

pub lines_with-lines-requires-clause-seat : goal.lines_with-lines-requires-clause-seat
lines_with-lines-requires-clause-seat c = below-of c.self.inside c.self.view_is c.self.invariant c.args.seat c.requires.taken

pub returns-then-lines-most : goal.returns-then-lines-most
returns-then-lines-most c =
    let most = ap (λ (a : Activity). a.most_lines) c.self.view_is in
    let over : nat_lt c.args.self.now.most_lines (lines_with c.args.self.now c.args.seat (wants_of c.args.touch.now)) ≡ true =
    grind (arith, nat_tests, most, c.if-lines-most.true, c.lines_with-lines.ensures) in
    let told : TurnEnd.Journal c.lines_with-lines.result c.self.inside.most_lines ≡ TurnEnd.Journal (lines_with c.args.self.now c.args.seat (wants_of c.args.touch.now)) c.args.self.now.most_lines =
    λ i. TurnEnd.Journal (c.lines_with-lines.ensures i) (most i) in record {
      kept = tt;
      journal = (told, grind (arith, nat_tests, over));
      back = c.roll_back.ensures.shape;
      over = over-limit c.args.self.now c.roll_back.new.self c.args.seat (wants_of c.args.touch.now) (TurnEnd.Journal c.lines_with-lines.result c.self.inside.most_lines) c.roll_back.ensures.shape c.roll_back.ensures.rolls over told;
    }
