use Rattle.activations.proofs.StartLemmas.{journal, breaks, free, contested}
use Rattle.activations.proofs.access_laws.serving_starts.Goals as goal

pub returns : goal.returns
returns c a seat committed order counts wants next to = record {
  journal = journal a seat committed order counts wants next to.sound to.taken to.runner to.follows to.goes to.touches;
  breaks = breaks a seat committed order counts wants next to.sound to.taken to.runner to.follows to.goes to.touches;
  free = λ under pool pages in_ are none. free a seat committed order counts wants next to.sound to.taken to.runner to.follows to.goes to.touches under pool pages in_.moved in_.keeps in_.fetched are.pages are.apart are.sets none;
  contested = λ under pool pages in_ are request asks holder others some.
      contested a seat committed order counts wants next to.sound to.taken to.runner to.follows to.goes to.touches under pool pages in_.moved in_.keeps in_.fetched are.pages are.apart are.sets request asks holder others some;
}
