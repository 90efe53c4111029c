use Rattle.frame_pool.proofs.Lemmas.{◌≡◌, ◌-◌, ℕ, true, arith, has, slice_index, subst, led, first-in, rest-in}
use Rattle.frame_pool.proofs.arrivals.ResidentIterator.next.Goals as goal

pub bounds-self-inside-from : goal.bounds-self-inside-from
bounds-self-inside-from c =
    let p = c.self.inside in
    omega (arith, c.from.ensures, c.self.invariant p.at (first-in p.next.now p.count p.at c.if-self-eq0.false))

pub invariant_of-self : goal.invariant_of-self
invariant_of-self c = λ page there.
    let p = c.self.inside in
    c.self.invariant page
    (rest-in p.next.now p.count p.at page c.if-self-eq0.false
    (subst (λ (at : ℕ). has (led p.next.now (p.count - 1) (slice_index p.next.now at)) page ≡ true) c.from.ensures there))
