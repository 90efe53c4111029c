use Rattle.activations.proofs.ServedLemmas.{served}
use Rattle.activations.proofs.access_laws.served_goes_on.Goals as goal

pub returns : goal.returns
returns c begins attempt refused a seat committed order counts wants owned eased pool live bytes marked pages next sound taken runner number free goes in_ alike grants went =
    served begins attempt refused a seat committed order counts wants owned eased pool live bytes marked pages next sound taken runner number free goes in_.moved in_.keeps in_.fetched alike grants went
