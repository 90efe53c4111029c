use Rattle.store_format.proofs.Common.{◌≡◌, ◌≤◌, take, length, segments_at}
use Rattle.store_format.proofs.header_reading.header_in.Given as goal

abbrev pub invariant-loop-i : goal.invariant-loop-i
invariant-loop-i l = record { few : l.count ≤ 15; read : take l.i l.segments ≡ segments_at l.head 16 l.i; room : length l.segments ≡ 15 }
