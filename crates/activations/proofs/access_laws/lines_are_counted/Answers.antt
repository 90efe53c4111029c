use Rattle.activations.proofs.Common.{All-nil, IsOfPage, Want}
use Rattle.activations.proofs.HoldingLemmas.{written-none, written-one, written-two}
use Rattle.activations.proofs.access_laws.lines_are_counted.Goals as goal

pub returns : goal.returns
returns c pages of = record {
  none = written-none pages of (record { reads = All-nil (λ (want : Want). IsOfPage want.reads); writes = All-nil (λ (want : Want). IsOfPage want.writes) });
  one = written-one pages of;
  two = written-two pages of;
}
