use Rattle.activations.proofs.Lemmas.{page_count, nobody_sits, most_lines, Activity, HasNobody, IsActivitySound, sym, ap, ◌∙◌, arith, subst, ◌≡◌, idle, reach_of, sound-idle, desk-idle, follows-idle, refl}
use Rattle.activations.proofs.activations.Activations.new.Goals as goal

-- nobody runs in what is made
is-idle : (c : goal.In_ok-new-3) → record { programs = c.args.programs.items; most_lines = c.most_lines.result; next = 1; seating = c.in_ok-new-2.field-0; live = c.loop.live.items; reach = reach_of c.in_ok-new-3.field-0 }
    ≡ idle c.args.programs.items (most_lines c.args.header.now) c.args.frames c.args.header.now.directory c.loop.live.items
is-idle c = λ i. record {
  programs = c.args.programs.items;
  most_lines = c.most_lines.ensures.value i;
  next = 1;
  seating = (c.in_ok-new-2.ensures ∙ ap nobody_sits (c.pages.ensures.value ∙ ap page_count c.directory.ensures.value)) i;
  live = c.loop.live.items;
  reach = c.in_ok-new-3.ensures i;
}

pub invariant_of-result : goal.invariant_of-result
invariant_of-result c = subst IsActivitySound (sym (is-idle c)) (sound-idle c.args.programs.items _ c.args.frames c.args.header.now.directory c.loop.live.items (omega (arith, c.loop.invariant, c.loop-test.false, c.loop.auto.counter-end)))

pub returns : goal.returns
returns c = subst (λ (a : Activity). HasNobody a c.args.programs.items c.args.header.now c.args.frames) (sym (is-idle c)) (record {
  idle = refl;
  first = λ committed long. record {
    is_desk = desk-idle c.args.programs.items (most_lines c.args.header.now) c.args.frames c.args.header.now.directory c.loop.live.items committed;
    follows = follows-idle c.args.programs.items (most_lines c.args.header.now) c.args.frames c.args.header.now.directory c.loop.live.items committed long;
  };
})
