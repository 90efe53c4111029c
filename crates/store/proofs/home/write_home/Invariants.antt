use Rattle.store.proofs.Common.{◌≡◌, ◌-◌, ◌≤◌, length, Leaves, held_of, OnlyWrites, TracksBank, IsHomeCovered, IsHomed, Did, homes_written}
use Rattle.store.proofs.home.write_home.Given as goal

abbrev pub invariant-loop-line : goal.invariant-loop-line
invariant-loop-line g l = record {
  within : l.line ≤ length l.bank.newest;
  only : OnlyWrites g.W.Outside l.fn.outside l.outside;
  no_fault : g.W.Outside.disk_faults l.outside ≡ g.W.Outside.disk_faults l.fn.outside;
  crash : (tracks : TracksBank g.W.Outside l.bank l.fn.outside) → Leaves g.W.Outside (λ image seen. IsHomeCovered tracks.header tracks.records (held_of g.W.Outside l.fn.outside) image) l.fn.outside l.outside;
  homed : (tracks : TracksBank g.W.Outside l.bank l.fn.outside) → IsHomed tracks.header tracks.records (held_of g.W.Outside l.fn.outside) l.line (held_of g.W.Outside l.outside);
  deeds : TracksBank g.W.Outside l.bank l.fn.outside → Did (g.W.Outside.deeds l.fn.outside) (g.W.Outside.deeds l.outside) (homes_written l.bank (held_of g.W.Outside l.fn.outside) l.line);
}

abbrev pub decreases-loop-line : goal.decreases-loop-line
decreases-loop-line g l = length l.bank.newest - l.line
