use Rattle.outside.proofs.Lemmas.{arith, nat_tests, ◌≡◌, ◌∷◌, [], ◌++◌, length-append, Run, calls_of, made_of, pushed}
use Rattle.outside.proofs.recorded_calls.Calls.push.Goals as goal

abbrev last_of : goal.After-push-room → Run
last_of c = record { asked = c.args.self.now.asked; call = c.args.call }

now_are : (c : goal.After-push-room) → calls_of c.push-room.new.self.items 0 ≡ made_of c.args.self.now ++ c.args.call ∷ []
now_are c = pushed c.push-room.result c.args.self.now.runs.items c.push-room.new.self.items (last_of c) c.push-room.ensures.items (c.push-room.ensures.succeeds c.requires.0)

pub invariant_of-self : goal.invariant_of-self
invariant_of-self c = grind (arith, nat_tests, now_are, length-append)

pub returns : goal.returns
returns c = pushed c.push-room.result c.args.self.now.runs.items c.push-room.new.self.items (record { asked = c.args.self.now.asked; call = c.args.call }) c.push-room.ensures.items (c.push-room.ensures.succeeds c.requires.0)
