use Rattle.standby.proofs.Common.{◌≡◌, ◌+◌, ◌-◌, ◌≤◌, ◌++◌, List, ℕ, length, AreFirstLines, AreLines, IsPacked, lines_text, record_of}
use Rattle.standby.proofs.ship_reading.read_record.Given as goal

-- the lines so far
abbrev pub invariant-loop-index : goal.invariant-loop-index
invariant-loop-index l = record {
  packed : IsPacked l.line_bytes l.record;
  many : length l.record.lines.items ≡ l.index;
  are : AreLines l.line_bytes l.least 0 (record_of l.line_bytes l.record);
  room : l.least + (l.count - l.index) ≤ l.lines;
  text : l.text ≡ lines_text (record_of l.line_bytes l.record) ++ l.left;
  shorter : l.index + length l.left ≤ length l.text;
  goes : (front : List ℕ) (number : ℕ) → AreFirstLines l.line_bytes l.lines front l.read number l.count 0
      → AreFirstLines l.line_bytes l.lines (front ++ lines_text (record_of l.line_bytes l.record)) (l.read + l.index) number (l.count - l.index) l.least;
}
