use Rattle.store.proofs.Lemmas.{length, Cleared}
use Rattle.store.proofs.places.Places.forget.Given as goal

abbrev pub invariant-loop-page : goal.invariant-loop-page
invariant-loop-page l = Cleared l.page (length l.initial.self-inside.items) l.self-inside
