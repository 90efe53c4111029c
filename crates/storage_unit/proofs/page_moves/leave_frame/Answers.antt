use Rattle.storage_unit.proofs.Common.{arith}
use Rattle.storage_unit.proofs.page_moves.leave_frame.Goals as goal

pub clear_frame-requires-clause-room : goal.clear_frame-requires-clause-room
clear_frame-requires-clause-room c = omega (arith, c.in-Some-frame_of.ensures.below, c.requires.room)
