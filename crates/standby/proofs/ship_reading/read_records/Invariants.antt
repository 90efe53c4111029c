use Rattle.standby.proofs.Common.{◌≡◌, ◌+◌, ◌^◌, ◌<◌, ◌++◌, length, map, All, AreFirstLines, AreLines, IsPacked, head_line, later, record_of, records_text}
use Rattle.standby.proofs.ship_reading.read_records.Given as goal

-- the records so far
abbrev pub invariant-loop-count : goal.invariant-loop-count
invariant-loop-count l = record {
  number : l.number ≡ later l.start (length l.records.items);
  text : l.text ≡ records_text l.start (map (record_of l.line_bytes) l.records.items) ++ l.left;
  is : AreFirstLines l.line_bytes l.lines (head_line l.line_bytes l.lines l.start ++ records_text l.start (map (record_of l.line_bytes) l.records.items)) l.read l.number 0 0;
  few : l.read + length l.left + 2 < 2 ^ 32;
  packed : All (IsPacked l.line_bytes) l.records.items;
  are : All (λ kept. AreLines l.line_bytes l.lines 0 (record_of l.line_bytes kept)) l.records.items;
}

abbrev pub decreases-loop-count : goal.decreases-loop-count
decreases-loop-count l = length l.left
