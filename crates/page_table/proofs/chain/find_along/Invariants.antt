use Rattle.page_table.proofs.Common.{◌≡◌, ◌-◌, length, ℕ, find, holds, key_in, chain_from}
use Rattle.page_table.proofs.chain.find_along.Given as goal

-- the first along what is left of the chain is the first along the whole
abbrev pub invariant-loop : goal.invariant-loop
invariant-loop l =
    find (λ (frame : ℕ). holds l.key (key_in l.keys frame)) (chain_from l.next (l.end - l.counter) l.place)
    ≡ find (λ (frame : ℕ). holds l.key (key_in l.keys frame)) (chain_from l.next (length l.next) l.fn.first)
