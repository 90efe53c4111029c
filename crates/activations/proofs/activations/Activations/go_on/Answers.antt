use Rattle.activations.proofs.Lemmas.{Activity, GoesUncounted, KeepsParts, StaysSeated, wants_of, sym, subst, takes-effect, took-served, took-stays, keeps-took}
use Rattle.activations.proofs.activations.Activations.go_on.Goals as goal

pub returns : goal.returns
returns c =
    let a = c.args.self.now in let ran = c.execute.new.self in
    let wants = wants_of c.args.touch.now in let owned = c.lower.new.self.reach.entries in
    let took = takes-effect a ran c.args.seat c.execute.result wants c.requires.touches c.requires.opened c.execute.ensures.went in
    let keeps = keeps-took a ran c.args.seat took in let shape = sym c.lower.ensures.shape in
    record {
      parts = subst (λ (x : Activity). KeepsParts a x 0) shape
          (record { programs = keeps.programs; most_lines = keeps.most_lines; next = keeps.next; directory = keeps.directory; fewer = keeps.fewer; rows = keeps.rows });
      stays = subst (λ (x : Activity). StaysSeated a x c.args.seat) shape (took-stays a ran c.args.seat owned c.sound.ensures.sound c.sound-2.ensures.sound c.requires.taken took);
      went = λ begins committed order counts served.
          subst (λ (x : Activity). GoesUncounted begins x c.args.seat committed order counts) shape (took-served begins a ran c.args.seat wants committed order counts served took owned c.lower.ensures.lowered);
    }
