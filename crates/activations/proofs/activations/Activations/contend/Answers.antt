use Rattle.activations.proofs.Lemmas.{taken-below, eq-eqb, ne_eqb, option_map, victim_of, number_in, seat_of, sitter, Seat, cycle_of, seat-found, Victim, Activity, Cycle, has, rolled, ComesToEnd, Contests, FromContest, None, rules, tally_counts, KeepsParts, StandsStill, ◌≡◌, ◌<◌, ◌==◌, true, false, ℕ, List, length, map, IsSome, refl, Some, sym, ◌∙◌, ap, arith, subst, keeps-itself, keeps-rolled, still-itself, still-rolled, tally-on}
use Rattle.activations.proofs.ContestLemmas.{fewer, contests-on, contests-lost, stays-taken, recorded, victim-sits, told-settles, told-stays}
use Rattle.activations.proofs.activations.Activations.contend.Goals.{After-is_empty, in-Some+in_default-seat_of, in_default}
use Rattle.activations.proofs.activations.Activations.contend.Goals as goal

pub sitter-requires : goal.sitter-requires
sitter-requires c = taken-below c.args.self.now.seating c.sound.ensures.sound.seating c.args.seat c.requires.taken

pub roll_back-requires : goal.roll_back-requires
roll_back-requires c =
    let sits = ap (seat_of c.loop-members.self.seating) (sym c.greatest-victim.ensures) ∙ sym c.seat_of.ensures ∙ c.in-Some-seat_of.is in
    record { taken = (seat-found c.loop-members.self.seating c.cycle_from.ensures.sound.seating (victim_of c.in-Some.members.items) c.in-Some-seat_of.loser sits).0 }

pub returns-then-victim-number : goal.returns-then-victim-number
returns-then-victim-number c =
    let a = c.loop-members.self in let first = c.args.self.now in
    let pool = c.roll_back.new.self.reach.pool in let counts = tally_counts c.loop-members.tally in
    let found : cycle_of a.seating c.args.seat ≡ Some c.in-Some.members.items = sym c.cycle_from.ensures.cycle ∙ ap (option_map (λ cycle. cycle.items)) c.in-Some.is in
    let sits = ap (seat_of a.seating) (sym c.greatest-victim.ensures) ∙ sym c.seat_of.ensures ∙ c.in-Some-seat_of.is in
    let few = fewer a.seating.taken c.in-Some-seat_of.loser (seat-found a.seating c.cycle_from.ensures.sound.seating (victim_of c.in-Some.members.items) c.in-Some-seat_of.loser sits).0 in
    let less : length c.roll_back.new.self.seating.taken < length a.seating.taken = subst (λ (x : Activity). length x.seating.taken < length a.seating.taken) (sym c.roll_back.ensures.shape) few in
    let its : (victim_of c.in-Some.members.items == number_in a.seating c.args.seat) ≡ true =
    eq-eqb (victim_of c.in-Some.members.items) (number_in a.seating c.args.seat) (sym c.greatest-victim.ensures ∙ c.if-victim-number.true ∙ sym c.loop-members.invariant.number) in
    record {
      keeps = subst (λ (x : Activity). KeepsParts first x 0) (sym c.roll_back.ensures.shape) (keeps-rolled first a c.in-Some-seat_of.loser 0 pool c.loop-members.invariant.parts);
      counts = record { cycles = omega (arith, less, c.loop-members.invariant.cycles, c.push.ensures.len); rest = tally-on c.args.tally.now c.loop-members.tally _ c.loop-members.invariant.rest };
      stays = tt;
      ends = record { ends = tt; victim = (c.loop-members.tally.cycles.items, _, c.push.ensures.items, sym c.greatest-victim.ensures ∙ c.if-victim-number.true ∙ ap (λ (who : Seat). who.number) c.sitter.ensures) };
      settled = λ begins attempt refused desk committed order number contested printed.
          let lost = contests-lost c.args.seat first a (tally_counts c.args.tally.now) counts c.in-Some.members.items c.in-Some-seat_of.loser pool
          c.cycle_from.ensures.sound c.loop-members.invariant.taken (c.loop-members.invariant.number ∙ ap (λ (who : _). who.number) c.sitter.ensures) c.loop-members.invariant.contests found sits c.roll_back.ensures.rolls its begins attempt refused desk committed order number contested in
          let cycles = recorded c.loop-members.tally.cycles.items c.in-Some.members.items c.push.new.self.items _ refl c.push.ensures.items in
          subst (λ (x : Activity). ComesToEnd begins x committed order (record counts { cycles = map (λ (cycle : Cycle). cycle.members.items) c.push.new.self.items }) Victim) (sym c.roll_back.ensures.shape)
          (subst (λ (these : List (List ℕ)). ComesToEnd begins (rolled a c.in-Some-seat_of.loser pool) committed order (record counts { cycles = these }) Victim) (sym cycles) lost);
    }

pub loop-members-smaller : goal.loop-members-smaller
loop-members-smaller c =
    let sits = ap (seat_of c.loop-members.self.seating) (sym c.greatest-victim.ensures) ∙ sym c.seat_of.ensures ∙ c.in-Some-seat_of.is in
    subst (λ (a : Activity). length a.seating.taken < length c.loop-members.self.seating.taken) (sym c.roll_back.ensures.shape)
    (fewer c.loop-members.self.seating.taken c.in-Some-seat_of.loser
    (seat-found c.loop-members.self.seating c.cycle_from.ensures.sound.seating (victim_of c.in-Some.members.items) c.in-Some-seat_of.loser sits).0)

pub loop-members-preserved : goal.loop-members-preserved
loop-members-preserved c =
    let found : cycle_of c.loop-members.self.seating c.args.seat ≡ Some c.in-Some.members.items = sym c.cycle_from.ensures.cycle ∙ ap (option_map (λ cycle. cycle.items)) c.in-Some.is in
    let sits = ap (seat_of c.loop-members.self.seating) (sym c.greatest-victim.ensures) ∙ sym c.seat_of.ensures ∙ c.in-Some-seat_of.is in
    let other : (victim_of c.in-Some.members.items == number_in c.loop-members.self.seating c.args.seat) ≡ false =
    ne_eqb (victim_of c.in-Some.members.items) (number_in c.loop-members.self.seating c.args.seat) (λ same. c.if-victim-number.false (c.greatest-victim.ensures ∙ same ∙ c.loop-members.invariant.number)) in
    let loser = (seat-found c.loop-members.self.seating c.cycle_from.ensures.sound.seating (victim_of c.in-Some.members.items) c.in-Some-seat_of.loser sits).0 in
    let few = fewer c.loop-members.self.seating.taken c.in-Some-seat_of.loser loser in
    let less : length c.roll_back.new.self.seating.taken < length c.loop-members.self.seating.taken = subst (λ (a : Activity). length a.seating.taken < length c.loop-members.self.seating.taken) (sym c.roll_back.ensures.shape) few in
    let numbered = c.loop-members.invariant.number ∙ ap (λ (who : _). who.number) c.sitter.ensures in
    let on = contests-on c.args.seat c.args.self.now c.loop-members.self (tally_counts c.args.tally.now) (tally_counts c.loop-members.tally) c.in-Some.members.items c.in-Some-seat_of.loser c.roll_back.new.self.reach.pool
    c.cycle_from.ensures.sound c.loop-members.invariant.taken numbered c.loop-members.invariant.contests found sits c.roll_back.ensures.rolls other in
    let stays = stays-taken c.args.seat c.args.self.now c.loop-members.self (tally_counts c.args.tally.now) (tally_counts c.loop-members.tally) c.in-Some.members.items c.in-Some-seat_of.loser c.roll_back.new.self.reach.pool
    c.cycle_from.ensures.sound c.loop-members.invariant.taken numbered c.loop-members.invariant.contests found sits c.roll_back.ensures.rolls other in
    let cycles = recorded c.loop-members.tally.cycles.items c.in-Some.members.items c.push.new.self.items _ refl c.push.ensures.items in record {
      taken = subst (λ (a : Activity). has a.seating.taken c.args.seat ≡ true) (sym c.roll_back.ensures.shape) stays;
      number = subst (λ (a : Activity). number_in a.seating c.args.seat ≡ c.sitter.result.now.number) (sym c.roll_back.ensures.shape) c.loop-members.invariant.number;
      waits = subst (λ (a : Activity). IsSome (sitter a.seating c.args.seat).waits) (sym c.roll_back.ensures.shape) c.loop-members.invariant.waits;
      cycles = omega (arith, less, c.loop-members.invariant.cycles, c.push.ensures.len);
      contests = subst (λ (a : Activity). Contests c.args.seat c.args.self.now (tally_counts c.args.tally.now) a (record (tally_counts c.loop-members.tally) { cycles = map (λ (cycle : Cycle). cycle.members.items) c.push.new.self.items })) (sym c.roll_back.ensures.shape)
          (subst (λ (these : List (List ℕ)). Contests c.args.seat c.args.self.now (tally_counts c.args.tally.now) (rolled c.loop-members.self c.in-Some-seat_of.loser c.roll_back.new.self.reach.pool) (record (tally_counts c.loop-members.tally) { cycles = these })) (sym cycles) on);
      parts = subst (λ (a : Activity). KeepsParts c.args.self.now a 0) (sym c.roll_back.ensures.shape)
          (keeps-rolled c.args.self.now c.loop-members.self c.in-Some-seat_of.loser 0 c.roll_back.new.self.reach.pool c.loop-members.invariant.parts);
      stays = subst (λ (a : Activity). StandsStill c.args.self.now a c.args.seat) (sym c.roll_back.ensures.shape)
          (still-rolled c.args.self.now c.loop-members.self c.args.seat c.in-Some-seat_of.loser c.roll_back.new.self.reach.pool c.roll_back.ensures.undone c.loop-members.invariant.stays stays);
      rest = tally-on c.args.tally.now c.loop-members.tally _ c.loop-members.invariant.rest;
    }

pub loop-members-init : goal.loop-members-init
loop-members-init c = record {
  taken = c.requires.taken;
  number = ap (λ (who : Seat). who.number) (sym c.sitter.ensures);
  waits = c.requires.waits;
  cycles = c.requires.room;
  contests = λ begins attempt refused first committed order number contested. contested;
  parts = keeps-itself c.args.self.now;
  stays = still-itself c.args.self.now c.args.seat c.requires.taken;
  rest = refl;
}

-- no cycle is shown any more: the victim of one that is shown sits somewhere
none-shown : (c : After-is_empty) → FromContest c.args.seat c.args.self.now (tally_counts c.args.tally.now) (λ begins attempt refused first committed order. cycle_of c.loop-members.self.seating c.args.seat ≡ None)
none-shown c begins attempt refused first committed order number contested = elim c.match-cycle_from.branch [
  | in-Some+in_default-seat_of w ↦
      let found : cycle_of c.loop-members.self.seating c.args.seat ≡ Some w.in-Some.members.items = sym c.cycle_from.ensures.cycle ∙ ap (option_map (λ cycle. cycle.items)) w.in-Some.is in
      let none = ap (seat_of c.loop-members.self.seating) (sym w.greatest-victim.ensures) ∙ sym w.seat_of.ensures ∙ w.in_default-seat_of.is in
      absurd (victim-sits c.args.seat c.args.self.now c.loop-members.self (tally_counts c.args.tally.now) (tally_counts c.loop-members.tally)
      c.cycle_from.ensures.sound c.loop-members.invariant.taken (c.loop-members.invariant.number ∙ ap (λ (who : _). who.number) c.sitter.ensures) c.loop-members.invariant.contests
      w.in-Some.members.items found none begins attempt refused first committed order number contested)
  | in_default w ↦ sym c.cycle_from.ensures.cycle ∙ ap (option_map (λ cycle. cycle.items)) w.in_default.is
]

pub returns-then-is_empty : goal.returns-then-is_empty
returns-then-is_empty c =
    let inv = c.loop-members.invariant in record {
      keeps = inv.parts;
      counts = record { cycles = inv.cycles; rest = inv.rest };
      stays = inv.stays;
      ends = tt;
      settled = λ begins attempt refused first committed order number contested.
          told-settles c.args.seat c.args.self.now c.loop-members.self (tally_counts c.args.tally.now) (tally_counts c.loop-members.tally)
          c.cycle_from.ensures.sound inv.taken (inv.number ∙ ap (λ (who : _). who.number) c.sitter.ensures) inv.contests inv.waits
          (none-shown (goal.at.returns-then-is_empty c).After-is_empty begins attempt refused first committed order number contested)
          c.awaited-holders.result.items c.awaited-holders.ensures (sym c.is_empty.ensures ∙ c.if-is_empty.true) begins attempt refused first committed order number contested;
    }

pub returns-else-is_empty : goal.returns-else-is_empty
returns-else-is_empty c =
    let inv = c.loop-members.invariant in record {
      keeps = inv.parts;
      counts = record { cycles = inv.cycles; rest = inv.rest };
      stays = tt;
      ends = search rules;
      settled = λ begins attempt refused first committed order number contested printed.
          told-stays c.args.seat c.args.self.now c.loop-members.self (tally_counts c.args.tally.now) (tally_counts c.loop-members.tally)
          c.cycle_from.ensures.sound inv.taken (inv.number ∙ ap (λ (who : _). who.number) c.sitter.ensures) inv.contests inv.waits
          (none-shown (goal.at.returns-else-is_empty c).After-is_empty begins attempt refused first committed order number contested)
          c.awaited-holders.result.items c.awaited-holders.ensures (sym c.is_empty.ensures ∙ c.if-is_empty.false) begins attempt refused first committed order number contested;
    }
