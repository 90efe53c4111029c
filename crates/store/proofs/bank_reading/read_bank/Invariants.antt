use Rattle.store.proofs.Lemmas.{◌≡◌, ◌+◌, ◌*◌, ◌<◌, ◌≤◌, length, IsSome, OnlyAsks, held_of, StaysWithin, Reaches}
use Rattle.store.proofs.bank_reading.read_bank.Given as goal

abbrev pub invariant-loop-count : goal.invariant-loop-count
invariant-loop-count g l = record {
  asks : OnlyAsks g.W.Outside l.fn.outside l.outside;
  no_fault : g.W.Outside.disk_faults l.outside ≡ g.W.Outside.disk_faults l.fn.outside;
  len : length l.newest ≡ length l.fn.newest;
  placed : StaysWithin l.page (l.at + 8 + l.bank_bytes) l.fn.newest l.newest;
  far : l.at + 8 + 11 * l.count ≤ l.gate;
  inside : l.gate < l.at + 8 + l.bank_bytes;
  reaches : IsSome (g.W.Outside.held l.fn.outside) → Reaches l.page (held_of g.W.Outside l.fn.outside) (length l.fn.newest) (l.at + 8 + l.bank_bytes) l.bank_bytes l.base (l.at + 8) l.count l.gate l.fn.newest l.newest;
}
