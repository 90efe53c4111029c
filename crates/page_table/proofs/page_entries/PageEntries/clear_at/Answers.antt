use Rattle.page_table.proofs.Common.{◌<◌, List, length, map, sym, ◌∙◌, ap, arith, cleared_entry, Authority}
use Rattle.page_table.proofs.EntryLemmas.{clear-first}
use Rattle.page_table.proofs.page_entries.PageEntries.clear_at.Goals as goal

pub returns-then-at-tid : goal.returns-then-at-tid
returns-then-at-tid c =
    let inside : c.args.page < length c.args.self.now =
    omega (arith, c.if-from-len.true, c.from.ensures, c.len.ensures, c.self.inside.items.ok.0, ap (λ (list : List Authority). length list) c.self.view_is) in
    ap (map (cleared_entry c.args.tid)) c.set.ensures
    ∙ clear-first c.args.tid c.args.self.now c.args.page inside (ap (λ (one : Authority). one.tid) (sym c.at.ensures) ∙ c.if-at-tid.true)
