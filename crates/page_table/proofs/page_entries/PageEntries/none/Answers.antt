use Rattle.page_table.proofs.Common.{ℕ, length, ◌∙◌, ap, length-replicate}
use Rattle.page_table.proofs.EntryLemmas.{counts-fresh}
use Rattle.page_table.proofs.page_entries.PageEntries.none.Goals as goal

pub invariant_of-result : goal.invariant_of-result
invariant_of-result c =
    record {
      sized = c.in_ok-owned.owned.ok.0 ∙ ap length c.in_ok-owned.ensures ∙ length-replicate {A = ℕ} 256 0;
      counted = λ tid below.
          counts-fresh c.in_ok-owned.owned.items c.in_ok-items.items.items c.args.pages c.from.result tid c.in_ok-owned.ensures
          c.in_ok-items.ensures c.from.ensures below;
    }
