use Rattle.store_calls.proofs.Common.{◌≡◌, ◌<◌, ◌≤◌, ◌-◌, ◌%◌, length, Ok, held_of, stands, IsShown, PutsBytes, bytes_standing}
use Rattle.store_calls.proofs.show.put_range.Given as goal

-- the bytes so far are put
abbrev pub invariant-parts : goal.invariant-parts
invariant-parts g l = record {
  inside : l.done ≤ l.range.count;
  whole : l.done < l.range.count → l.done % 16 ≡ 0;
  puts : PutsBytes g.W.Outside l.store l.at l.range.from l.done l.initial.outside l.outside (Ok tt);
  long : IsShown g.W.Outside l.store l.initial.outside → length (bytes_standing (stands (held_of g.W.Outside l.initial.outside)) l.at l.done) ≡ l.done;
}

abbrev pub decreases-parts : goal.decreases-parts
decreases-parts g l = l.range.count - l.done
