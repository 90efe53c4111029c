use Rattle.activations.proofs.Lemmas.{activity_of, Inside, List, Live, reprinted, Activity, live_in, IsActivitySound, KeepsDesk, ◌≡◌, ℕ, sym, ap, ◌∙◌, subst, slice_set, lives-of, sound-reprinted, follows-reprinted}
use Rattle.activations.proofs.activations.Activations.swap_printed.Goals as goal

-- what was printed there is another
is_reprinted : (fields : Inside) {now : Activity} → activity_of fields ≡ now → (seat at : ℕ) (live : Live) (out : List ℕ) → at ≡ seat → live ≡ live_in now seat
    → record (activity_of fields) { live = slice_set fields.live.items at (record live { out = out }) } ≡ reprinted now seat out
is_reprinted fields is seat at live out here runs i = record (is i) { live = slice_set (is i).live (here i) (record (runs i) { out = out }) }

pub invariant_of-self : goal.invariant_of-self
invariant_of-self c =
    let runs = lives-of c.self.inside c.self.view_is c.self.invariant c.args.seat c.requires.seat c.index_mut.result.now c.from.result c.from.ensures c.index_mut.ensures.value in
    subst IsActivitySound (sym (is_reprinted c.self.inside c.self.view_is c.args.seat c.from.result c.index_mut.result.now c.swap.new.x c.from.ensures runs))
    (sound-reprinted c.args.self.now c.args.seat c.swap.new.x c.requires.free (subst IsActivitySound c.self.view_is c.self.invariant))

pub returns-clause-left : goal.returns-clause-left
returns-clause-left c =
    let runs = lives-of c.self.inside c.self.view_is c.self.invariant c.args.seat c.requires.seat c.index_mut.result.now c.from.result c.from.ensures c.index_mut.ensures.value in
    is_reprinted c.self.inside c.self.view_is c.args.seat c.from.result c.index_mut.result.now c.swap.new.x c.from.ensures runs ∙ ap (reprinted c.args.self.now c.args.seat) c.swap.ensures.x_after

pub returns-clause-out : goal.returns-clause-out
returns-clause-out c =
    c.swap.ensures.y_after ∙ ap (λ (live : Live). live.out) (lives-of c.self.inside c.self.view_is c.self.invariant c.args.seat c.requires.seat c.index_mut.result.now c.from.result c.from.ensures c.index_mut.ensures.value)

pub returns-clause-follows : goal.returns-clause-follows
returns-clause-follows c = λ committed follows.
    subst (λ (a : Activity). KeepsDesk a committed) (sym (returns-clause-left c)) (follows-reprinted c.args.self.now c.args.seat c.args.out.now c.requires.free committed follows)
