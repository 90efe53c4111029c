use Rattle.store.proofs.Lemmas.{◌≡◌, ◌+◌, ◌*◌, length, drop, IsSome, entry_bytes, lines_from, wrong_line, OnlyAsks, held_of, noted, StaysWithin, lines_after}
use Rattle.store.proofs.bank_reading.read_lines.Given as goal

abbrev pub invariant-loop-i : goal.invariant-loop-i
invariant-loop-i g l = record {
  asks : OnlyAsks g.W.Outside l.initial.outside l.outside;
  no_fault : g.W.Outside.disk_faults l.outside ≡ g.W.Outside.disk_faults l.initial.outside;
  placed : StaysWithin l.page (l.at + entry_bytes l.page * l.count) l.initial.newest l.newest;
  len : length l.newest ≡ length l.initial.newest;
  fault : IsSome (g.W.Outside.held l.initial.outside) → wrong_line (length l.newest) l.least (lines_after l.page l.count l.i l.at l.at (held_of g.W.Outside l.initial.outside)) ≡ wrong_line (length l.initial.newest) 0 (lines_from l.page l.count l.at (drop l.at (held_of g.W.Outside l.initial.outside)));
  noted : IsSome (g.W.Outside.held l.initial.outside) → noted l.newest (lines_after l.page l.count l.i l.at l.at (held_of g.W.Outside l.initial.outside)) ≡ noted l.initial.newest (lines_from l.page l.count l.at (drop l.at (held_of g.W.Outside l.initial.outside)));
}
