use Rattle.store.proofs.Lemmas.{◌≡◌, List, ℕ, ◌+◌, ◌≤◌, ◌∷◌, [], length, sym, subst, ap, ◌∙◌, Torn, written, held_of, Leaves, told_some, leaves_on, IsSafe, IsGateShut, is_open, common_steps, arith, writes_on, safe_behind, safe_at, opened, opened_torn, held_is, IsWritten, has_body, did_on, sure_deeds}
use Rattle.store.proofs.keep.keep_body.Given.{Over}
use Rattle.store.proofs.keep.keep_body.Goals as goal
use Rattle.store.proofs.keep.keep_body.Goals.{After-write_sure, After-write_sure-2}

-- as many bytes are held as the gate and the body want
room : (g : Over) (c : goal.After-write_sure g) → IsGateShut g.W.Outside c.args.gate c.args.outside.now → c.args.gate + 1 + length c.args.body.now ≤ length (held_of g.W.Outside c.args.outside.now)
room g c shut = c.requires.room (held_of g.W.Outside c.args.outside.now) (told_some (g.W.Outside.held c.args.outside.now) shut.sure.told)

-- what a crash leaves from the start on, behind the first write and behind the second
first : (g : Over) (c : goal.After-write_sure g) (shut : IsGateShut g.W.Outside c.args.gate c.args.outside.now) → Leaves g.W.Outside (λ image seen. IsSafe c.args.gate c.args.body.now (held_of g.W.Outside c.args.outside.now) image) c.args.outside.now c.write_sure.new.outside
first g c shut image seen left = safe_behind c.args.gate c.args.body.now (held_of g.W.Outside c.args.outside.now) (room g c shut) shut.shut image (c.write_sure.ensures.crash shut.sure image seen left)

second : (g : Over) (c : goal.After-write_sure-2 g) (shut : IsGateShut g.W.Outside c.args.gate c.args.outside.now) → IsWritten g.W.Outside (c.args.gate + 1) c.args.body.now c.args.outside.now c.write_sure.new.outside
    → c.args.gate + 1 + length c.args.body.now ≤ length (held_of g.W.Outside c.args.outside.now)
    → Leaves g.W.Outside (λ image seen. IsSafe c.args.gate c.args.body.now (held_of g.W.Outside c.args.outside.now) image) c.args.outside.now c.write_sure.new.outside
    → Leaves g.W.Outside (λ image seen. IsSafe c.args.gate c.args.body.now (held_of g.W.Outside c.args.outside.now) image) c.args.outside.now c.write_sure-2.new.outside
second g c shut wrote fits so_far =
    let G = g.W.Outside in
    let held = held_of G c.args.outside.now in
    leaves_on G g.met.W.Outside.fewer_later c.args.outside.now c.write_sure.new.outside c.write_sure-2.new.outside c.write_sure.ensures.only.calls.time c.write_sure-2.ensures.only.calls.time (λ (image seen : List ℕ). IsSafe c.args.gate c.args.body.now held image)
    so_far
    (λ image seen left. safe_at c.args.gate c.args.body.now held fits image (subst (λ (these : List ℕ). Torn c.args.gate 1 these image) (held_is wrote.held) (c.write_sure-2.ensures.crash wrote.sure image seen left)))

pub returns-in-Err : goal.returns-in-Err
returns-in-Err g c = grind (arith, common_steps, first g (goal.at.returns-in-Err g c).After-write_sure)

pub returns-in-Err-write_sure : goal.returns-in-Err-write_sure
returns-in-Err-write_sure g c = record {
  only = writes_on g.W.Outside g.met.W.Outside.fewer_later c.args.outside.now c.write_sure.new.outside c.write_sure-2.new.outside c.write_sure.ensures.only c.write_sure-2.ensures.only;
  crash = λ shut.
      let at = goal.at.returns-in-Err-write_sure g c in
      second g at.After-write_sure-2 shut (c.in-Ok.ensures.done shut.sure) (room g at.After-write_sure shut) (first g at.After-write_sure shut);
  unwritten = grind (arith, common_steps);
  doubt = λ is shut image seen left.
      let G = g.W.Outside in
      let one = c.in-Ok.ensures.done shut.sure in
      let since = g.met.W.Outside.fewer_later c.write_sure-2.new.outside _ _ image seen c.write_sure-2.ensures.only.calls.time.later left in
      has_body c.args.gate c.args.body.now (held_of G c.args.outside.now) (room g (goal.at.returns-in-Err-write_sure g c).After-write_sure shut) image
      (subst (λ (these : List ℕ). Torn c.args.gate 1 these image) (held_is one.held) (c.write_sure-2.ensures.crash one.sure image seen since));
  done = grind (arith, common_steps);
  writes = grind (arith, common_steps);
  counted = grind (arith, common_steps);
  deeds = (g.W.Outside.deeds c.write_sure.new.outside, c.in-Ok.ensures.deeds, c.in-Err-write_sure.ensures.deeds);
}

pub returns-in-Ok-write_sure : goal.returns-in-Ok-write_sure
returns-in-Ok-write_sure g c = record {
  only = writes_on g.W.Outside g.met.W.Outside.fewer_later c.args.outside.now c.write_sure.new.outside c.write_sure-2.new.outside c.write_sure.ensures.only c.write_sure-2.ensures.only;
  crash = λ shut.
      let at = goal.at.returns-in-Ok-write_sure g c in
      second g at.After-write_sure-2 shut (c.in-Ok.ensures.done shut.sure) (room g at.After-write_sure shut) (first g at.After-write_sure shut);
  unwritten = grind (arith, common_steps);
  doubt = grind (arith, common_steps);
  done = λ is shut.
      let G = g.W.Outside in
      let held = held_of G c.args.outside.now in
      let fits = room g (goal.at.returns-in-Ok-write_sure g c).After-write_sure shut in
      let one = c.in-Ok.ensures.done shut.sure in
      let two = c.in-Ok-write_sure.ensures.done one.sure in
      let image : held_of G c.write_sure-2.new.outside ≡ written (written held (c.args.gate + 1) c.args.body.now) c.args.gate (0xA5 ∷ []) =
      held_is two.held ∙ ap (λ (these : List ℕ). written these c.args.gate (0xA5 ∷ [])) (held_is one.held) in
      record {
        sure = two.sure;
        safe = subst (λ (these : List ℕ). IsSafe c.args.gate c.args.body.now held these) (sym image) (safe_at c.args.gate c.args.body.now held fits _ (opened_torn c.args.gate c.args.body.now held fits));
        shown = ap (is_open c.args.gate) image ∙ opened c.args.gate c.args.body.now held fits;
      };
  writes = grind (arith, common_steps);
  counted = grind (arith, common_steps);
  deeds =
      did_on (g.W.Outside.deeds c.args.outside.now) (g.W.Outside.deeds c.write_sure.new.outside) (g.W.Outside.deeds c.write_sure-2.new.outside) (sure_deeds (c.args.gate + 1) c.args.body.now) (sure_deeds c.args.gate (165 ∷ []))
      c.in-Ok.ensures.deeds c.in-Ok-write_sure.ensures.deeds;
}
