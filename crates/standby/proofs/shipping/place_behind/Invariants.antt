use Rattle.standby.proofs.Common.{◌≡◌, ◌<◌, take, OnlyAsks, area_bytes, IsShown}
use Rattle.standby.proofs.shipping.place_behind.Given as goal

abbrev pub invariant-loop-index : goal.invariant-loop-index
invariant-loop-index g l = record {
  asks : OnlyAsks g.W.Outside l.initial.outside l.outside;
  no_fault : g.W.Outside.disk_faults l.outside ≡ g.W.Outside.disk_faults l.initial.outside;
  inside : l.place < l.durable.header.bank_bytes;
  place : (shown : IsShown g.W.Outside l.durable l.initial.outside) → l.place ≡ area_bytes l.durable.bank.page (take l._index shown.shows.read.records);
}
