use Rattle.job_text.proofs.Common.{◌≡◌, ◌++◌, length, flat_map, image_lines, token_line}
use Rattle.job_text.proofs.writer.put_image.Given as goal

abbrev pub invariant-loop-left : goal.invariant-loop-left
invariant-loop-left l = l.text.items ++ flat_map token_line (image_lines l.left) ≡ l.initial.text.items ++ flat_map token_line (image_lines l.image)

abbrev pub decreases-loop-left : goal.decreases-loop-left
decreases-loop-left l = length l.left
