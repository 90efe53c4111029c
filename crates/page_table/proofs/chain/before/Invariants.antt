use Rattle.page_table.proofs.Common.{◌≡◌, ◌-◌, length, None, chain_from, chain_end, before_in}
use Rattle.page_table.proofs.chain.before.Given as goal

-- what is left of the chain ends, and the frame in front of the other is in it
abbrev pub invariant-loop : goal.invariant-loop
invariant-loop l =
    record {
      ends : chain_end l.next (l.end - l.counter) l.place ≡ None;
      same : before_in (chain_from l.next (l.end - l.counter) l.place) l.frame ≡ before_in (chain_from l.next (length l.next) l.fn.first) l.frame;
    }
