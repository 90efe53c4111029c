use Rattle.store.proofs.Lemmas.{◌≡◌, ◌*◌, length, IsSome, line_bytes, home_of, OnlyAsks, held_of, Composed}
use Rattle.store.proofs.restart.Durable.read_page.Given as goal

abbrev pub invariant-loop-i : goal.invariant-loop-i
invariant-loop-i g l = record {
  asks : OnlyAsks g.W.Outside l.fn.outside l.outside;
  no_fault : g.W.Outside.disk_faults l.outside ≡ g.W.Outside.disk_faults l.fn.outside;
  len : length l.into ≡ 16 * line_bytes l.self-inside.header.directory.page;
  composed : IsSome (g.W.Outside.held l.fn.outside) → Composed l.self-inside.header.directory.page (held_of g.W.Outside l.fn.outside) (home_of (held_of g.W.Outside l.fn.outside) l.self-inside.header) l.self-inside.banks.newest l.first l.i l.into;
}
