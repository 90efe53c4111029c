use Rattle.activations.proofs.Common.{array_vec_len, has, number_in, sitter, tally_counts, Contests, KeepsParts, StandsStill, ◌≡◌, ◌≤◌, ◌+◌, true, length, IsSome}
use Rattle.activations.proofs.activations.Activations.contend.Given as goal

abbrev pub invariant-loop-members : goal.invariant-loop-members
invariant-loop-members l = record {
  taken : has l.self.seating.taken l.seat ≡ true;
  number : number_in l.self.seating l.seat ≡ l.number;
  waits : IsSome (sitter l.self.seating l.seat).waits;
  cycles : array_vec_len l.tally.cycles + length l.self.seating.taken ≤ 16;
  contests : Contests l.seat l.initial.self (tally_counts l.initial.tally) l.self (tally_counts l.tally);
  parts : KeepsParts l.initial.self l.self 0;
  stays : StandsStill l.initial.self l.self l.seat;
  rest : l.tally ≡ record l.initial.tally { cycles = l.tally.cycles };
}

abbrev pub decreases-loop-members : goal.decreases-loop-members
decreases-loop-members l = length l.self.seating.taken
