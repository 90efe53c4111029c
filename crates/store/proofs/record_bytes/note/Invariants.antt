use Rattle.store.proofs.Lemmas.{◌≡◌, ◌+◌, ◌*◌, ℕ, length, drop, None, entry_bytes, lines_from, wrong_line, noted, StaysWithin, lines_after}
use Rattle.store.proofs.record_bytes.note.Given as goal

abbrev pub invariant-loop-i : goal.invariant-loop-i
invariant-loop-i l = record {
  noted : noted l.newest (lines_after l.page l.count l.i (l.gate + 11) 10 l.body) ≡ noted l.initial.newest (lines_from l.page l.count (l.gate + 11) (drop 10 l.body));
  ordered : (least : ℕ) × (wrong_line (length l.newest) least (lines_after l.page l.count l.i (l.gate + 11) 10 l.body) ≡ None);
  placed : StaysWithin l.page (l.gate + 11 + entry_bytes l.page * l.count) l.initial.newest l.newest;
  len : length l.newest ≡ length l.initial.newest;
}
