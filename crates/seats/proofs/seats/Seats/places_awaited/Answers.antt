use Rattle.seats.proofs.Lemmas.{le-ltb, nat_tests, arith, all-on}
use Rattle.seats.proofs.seats.Seats.places_awaited.Goals as goal

pub returns-in-Some : goal.returns-in-Some
returns-in-Some c = λ place below. grind (arith, nat_tests, all-on, le-ltb, c.locks.ensures, c.places_of.ensures)
