use Rattle.standby.proofs.Common.{◌≡◌, ◌<◌, ◌-◌, map, take, drop, All, line_bytes, area_bytes, IsShown, Ok, ShipPrintsBy, AsksAndPuts, HasBytes, later, records_text, told}
use Rattle.standby.proofs.shipping.put_records.Given as goal

abbrev pub invariant-loop-index : goal.invariant-loop-index
invariant-loop-index g l = record {
  only : AsksAndPuts g.W.Outside l.initial.outside l.outside;
  disk : g.W.Outside.disk_faults l.outside ≡ g.W.Outside.disk_faults l.initial.outside;
  put : g.W.Outside.put_faults l.outside ≡ g.W.Outside.put_faults l.initial.outside;
  inside : l.place < l.durable.header.bank_bytes;
  place : (shown : IsShown g.W.Outside l.durable l.initial.outside) → l.initial.place ≡ area_bytes l.durable.bank.page (take l.passed shown.shows.read.records) → l.place ≡ area_bytes l.durable.bank.page (take l.index shown.shows.read.records);
  so_far : (shown : IsShown g.W.Outside l.durable l.initial.outside) → l.initial.place ≡ area_bytes l.durable.bank.page (take l.passed shown.shows.read.records)
      → ShipPrintsBy {T = Unit {0}} g.W.Outside (records_text (later l.durable.bank.base l.passed) (take (l.index - l.passed) (map told (drop l.passed shown.shows.read.records)))) l.initial.outside l.outside (Ok tt);
  bytes : (shown : IsShown g.W.Outside l.durable l.initial.outside) → l.initial.place ≡ area_bytes l.durable.bank.page (take l.passed shown.shows.read.records)
      → All (λ lines. All (HasBytes (line_bytes l.durable.header.directory.page)) lines) (take (l.index - l.passed) (drop l.passed shown.shows.read.records));
}
