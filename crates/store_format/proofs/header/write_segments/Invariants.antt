use Rattle.store_format.proofs.Common.{◌≡◌, ◌+◌, ◌*◌, ◌++◌, take, vec_len, segment_bytes}
use Rattle.store_format.proofs.header.write_segments.Given as goal

-- so many entries are added
abbrev pub invariant-loop-segment : goal.invariant-loop-segment
invariant-loop-segment l = record {
  bytes : l.image.items ≡ l.initial.image.items ++ segment_bytes (take l.segment-index l.segments);
  len : vec_len l.image ≡ vec_len l.initial.image + 4 * l.segment-index;
}
