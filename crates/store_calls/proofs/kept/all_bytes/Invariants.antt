use Rattle.store_calls.proofs.Common.{◌≡◌, ◌*◌, length, page_bytes, AsksAndPuts, held_of, stands, IsShown, bytes_standing}
use Rattle.store_calls.proofs.kept.all_bytes.Given as goal

-- the pages so far were read
abbrev pub invariant-loop-number : goal.invariant-loop-number
invariant-loop-number g l = record {
  shows : AsksAndPuts g.W.Outside l.initial.outside l.outside;
  long : length l.page ≡ page_bytes l.store.header.directory.page;
  read : IsShown g.W.Outside l.store l.initial.outside → l.bytes.items ≡ bytes_standing (stands (held_of g.W.Outside l.initial.outside)) 0 (l.number * page_bytes l.store.header.directory.page);
}
