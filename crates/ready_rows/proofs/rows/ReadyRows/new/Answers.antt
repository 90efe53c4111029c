use Rattle.std.proofs.Common.{refl}
use Rattle.ready_rows.specs.Known.{known}
use Rattle.ready_rows.proofs.RowLemmas.{row_in-none, none-at}
use Rattle.ready_rows.proofs.rows.ReadyRows.new.Goals as goal

pub invariant_of-result-clause-below : goal.invariant_of-result-clause-below
invariant_of-result-clause-below c address row is =
    none-at _ row address (row_in-none c.in_ok-places.places.items _ _ (c.in_ok-places.ensures.items_if_clones_equal (λ y same. same)) refl c.elsewhere.ensures.apart address) is

pub returns : goal.returns
unfolding known
returns c address =
    row_in-none c.in_ok-places.places.items _ _ (c.in_ok-places.ensures.items_if_clones_equal (λ y same. same)) refl c.elsewhere.ensures.apart address
