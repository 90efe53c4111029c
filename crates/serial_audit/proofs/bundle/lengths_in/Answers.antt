use Rattle.serial_audit.proofs.Common.{ℕ, List, [], ◌∷◌, codes, decimal, refl, arith}
use Rattle.serial_audit.proofs.bundle.lengths_in.Goals as goal

pub returns : goal.returns
returns c = λ sizes allowed is.
    let three : List (List ℕ) = decimal sizes.closing ∷ [] in
    let two : List (List ℕ) = decimal sizes.opening ∷ three in
    let one : List (List ℕ) = decimal sizes.report ∷ two in
    let job = c.first_number-job.ensures.parts sizes.job one (omega (arith, allowed.0)) (c.behind.ensures.parts (codes "audit") (decimal sizes.job ∷ one) refl is) in
    let report = c.first_number-report.ensures.parts sizes.report two (omega (arith, allowed.1)) job.1 in
    let opening = c.first_number-opening.ensures.parts sizes.opening three (omega (arith, allowed.2)) report.1 in
    let closing = c.first_number-closing.ensures.parts sizes.closing [] (omega (arith, allowed.3)) opening.1 in
    rw (job.0, report.0, opening.0, closing.0) refl
