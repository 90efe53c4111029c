use Rattle.standby.proofs.Common.{◌≤◌, ℕ, length, subst, refl, arith, slice_get_read, take_all, All-more, ShipRecord}
use Rattle.standby.proofs.following.long_among.Goals as goal

abbrev IsShort : ℕ → ShipRecord → Type 0
IsShort most kept = length kept.lines.items ≤ most

pub returns-then-len-most-clause-first : goal.returns-then-len-most-clause-first
returns-then-len-most-clause-first c = record {
  kept = c.index-records-place.result;
  there = slice_get_read c.args.records.now (length c.args.records.now) c.loop-place.place c.index-records-place.result refl c.loop-place-test.true c.index-records-place.is;
  long = omega (arith, c.if-len-most.true, c.len.ensures);
  before = c.loop-place.invariant.short;
}

pub loop-place-preserved : goal.loop-place-preserved
loop-place-preserved c = record {
  short = All-more (IsShort c.args.most) c.args.records.now c.loop-place.place c.index-records-place.result c.loop-place-test.true c.loop-place.invariant.short (subst (IsShort c.args.most) c.index-records-place.is (omega (arith, c.if-len-most.false, c.len.ensures)));
}

pub returns-clause-none : goal.returns-clause-none
returns-clause-none c = grind (arith, take_all c.loop-place.place c.args.records.now c.loop-place-test.false, c.loop-place.invariant.short)
