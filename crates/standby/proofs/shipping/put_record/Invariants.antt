use Rattle.standby.proofs.Common.{◌≡◌, ◌++◌, length, take, All, line_bytes, held_of, Ok, ShipPrintsBy, AsksAndPuts, IsRecordAt, IsShown, HasBytes, lines_text, record_line, told}
use Rattle.standby.proofs.shipping.put_record.Given as goal

abbrev pub invariant-loop-index : goal.invariant-loop-index
invariant-loop-index g l = record {
  only : AsksAndPuts g.W.Outside l.fn.outside l.outside;
  disk : g.W.Outside.disk_faults l.outside ≡ g.W.Outside.disk_faults l.fn.outside;
  put : g.W.Outside.put_faults l.outside ≡ g.W.Outside.put_faults l.fn.outside;
  so_far : (shown : IsShown g.W.Outside l.durable l.fn.outside) → (at : IsRecordAt (held_of g.W.Outside l.fn.outside) l.durable.bank l.entry.place) → l.entry.count ≡ length at.lines
      → ShipPrintsBy {T = Unit {0}} g.W.Outside (record_line l.number l.entry.count ++ lines_text (take l.index (told at.lines))) l.fn.outside l.outside (Ok tt);
  bytes : (shown : IsShown g.W.Outside l.durable l.fn.outside) → (at : IsRecordAt (held_of g.W.Outside l.fn.outside) l.durable.bank l.entry.place) → l.entry.count ≡ length at.lines
      → All (HasBytes (line_bytes l.durable.header.directory.page)) (take l.index at.lines);
}
