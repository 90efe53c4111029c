use Rattle.frame_pool.proofs.Lemmas.{ap, sound-fresh_by, Arrived}
use Rattle.frame_pool.proofs.frame_places.FramePlaces.new.Goals as goal

pub invariant_of-result-clause-sound : goal.invariant_of-result-clause-sound
invariant_of-result-clause-sound c =
    sound-fresh_by c.args.page c.args.frames c.args.pages c.private_frames-first.result _ _ _ _ c.requires.some c.requires.few c.private_frames-first.ensures.value
    (ap (λ (arrived : Arrived). arrived.order) c.in_ok-none.ensures) c.in_ok-nothings.ensures c.in_ok-nothings-2.ensures c.in_ok-frames_from.ensures.items
