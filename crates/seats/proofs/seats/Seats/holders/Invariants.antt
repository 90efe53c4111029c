use Rattle.seats.proofs.Common.{is_in_conflict, number_in, ◌≡◌, ◌≤◌, take, map, filter, length}
use Rattle.seats.proofs.seats.Seats.holders.Given as goal

-- the numbers of those that were looked at and conflict
abbrev pub invariant-loop-other : goal.invariant-loop-other
invariant-loop-other l = record {
  long : length l.holders.items ≤ l.other-index;
  numbers : l.holders.items ≡ map (number_in l.self) (filter (is_in_conflict l.self.holding l.seat l.request.wants.items) (take l.other-index l.other-items));
}
