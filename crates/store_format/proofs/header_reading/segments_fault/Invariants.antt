use Rattle.store_format.proofs.Lemmas.{◌≡◌, ◌+◌, ◌*◌, ◌≤◌, segments_at, segment_fields, first_fault, segments_left}
use Rattle.store_format.proofs.header_reading.segments_fault.Given as goal

abbrev pub invariant-loop-i : goal.invariant-loop-i
invariant-loop-i l = record {
  fault : first_fault l.length (segment_fields (16 + 4 * l.i) l.least l.room (segments_left l.head l.count l.i)) ≡ first_fault l.length (segment_fields 16 1 1024 (segments_at l.head 16 l.count));
  room : l.room ≤ 1024;
}
