use Rattle.frame_pool.proofs.Lemmas.{◌+◌, refl, ◌∙◌, ap, slice_range, with_part, lent-bytes}
use Rattle.frame_pool.proofs.frame_bytes.FrameBytes.part_mut.Goals as goal

pub returns : goal.returns
returns c = (
  (refl, λ w. lent-bytes c.self.inside.items c.args.at w ∙ ap (λ bytes. with_part bytes c.args.at w) c.self.view_is),
  record { writes_back = tt; value = c.slice_mut.ensures.value ∙ ap (λ bytes. slice_range bytes c.args.at (c.args.at + c.args.count)) c.self.view_is },
)
