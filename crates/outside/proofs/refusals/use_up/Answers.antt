use Rattle.outside.proofs.Common.{◌≡◌, ◌∙◌, refl, not}
use Rattle.outside.specs.Refusals as spec
use Rattle.outside.proofs.Retained.{retained}
use Rattle.outside.proofs.refusals.use_up.Goals as goal

pub returns : goal.returns
returns c =
    let call = c.args.call in
    let start = c.args.start in
    let end = c.args.end in
    retained _ (λ s. (s.0 ≡ call) × (s.1 ≡ start) × (s.2 ≡ end)) (λ refusal. not (spec.is_due call start end refusal)) (spec.skipping_one call start end)
    (λ s x b t y same h. let met = h.called.met in let shows = h.shows in let leaves = h.leaves in let these = met.0 in let stays = met.1.0 in let skips = met.1.1 in ((these.0 ∙ same.0, these.1 ∙ same.1, these.2 ∙ same.2), cc, cc)) _ _ _ (refl, refl, refl) c.retain_mut.ensures.filtered
