use Rattle.drills.proofs.Common.{◌≡◌, ◌∙◌, ap, refl, ArrayVec, map}
use Rattle.drills.proofs.CopyLemmas.{is_ready, same_names}
use Rattle.drills.proofs.job_copy.copy_of.Goals as goal

pub returns-clause-names : goal.returns-clause-names
returns-clause-names c =
    same_names c.deref.result.now c.in_ok-to_vec.field-0.items c.in_ok-to_vec.ensures.ok
    ∙ ap (map (λ (name : ArrayVec _). name.items)) c.deref.ensures.value

pub returns-clause-ready : goal.returns-clause-ready
returns-clause-ready c =
    let job = c.args.job.now in
    let events : c.in_ok-to_vec-2.field-0.items ≡ job.events.items = c.in_ok-to_vec-2.ensures.items_if_clones_equal (λ x y same. same) ∙ c.deref-3.ensures.value in
    is_ready job _ c.requires refl
    (same_names c.deref.result.now c.in_ok-to_vec.field-0.items c.in_ok-to_vec.ensures.ok ∙ ap (map (λ (name : ArrayVec _). name.items)) c.deref.ensures.value)
    (c.in_ok-programs_of.ensures ∙ c.deref-2.ensures.value)
    events
