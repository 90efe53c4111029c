use Rattle.page_table.proofs.Common.{ℕ, ◌∙◌, ap, None, Key, replicate, Option}
use Rattle.page_table.proofs.EnterLemmas.{chained-fresh_by}
use Rattle.page_table.proofs.inverted_table.Table.new.Goals as goal

pub invariant_of-result : goal.invariant_of-result
invariant_of-result c =
    chained-fresh_by c.next_power_of_two-anchors.result c.args.frames _ _ _ c.next_power_of_two-anchors.ensures.power
    c.in_ok-no_frames.ensures
    (c.in_ok-no_frames-2.ensures ∙ ap (λ (n : ℕ). replicate {A = Option ℕ} n None) c.from-2.ensures)
    (c.in_ok-no_keys.ensures ∙ ap (λ (n : ℕ). replicate {A = Option Key} n None) c.from-3.ensures)
