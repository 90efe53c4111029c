use Rattle.page_table.proofs.Common.{◌≡◌, ◌%◌, List, map, sym, ◌∙◌, ap, subst, arith, slice_set, key_to, Pair, IsOfTable, forgotten, pairs_of}
use Rattle.page_table.proofs.BufferLemmas.{forgotten-there, still-classes}
use Rattle.page_table.proofs.tlb_model.Tlb.forget_page.Goals as goal

-- the pairs go that are to go
after : (c : goal.After-forget) → map pairs_of (slice_set c.self.inside.classes (c.args.page % 16) c.forget.new.self) ≡ forgotten (map pairs_of c.self.inside.classes) c.args.frame
after c =
    let (keys, segment, all, there) = c.requires in
    ap (λ ways. map pairs_of (slice_set c.self.inside.classes (c.args.page % 16) ways)) c.forget.ensures
    ∙ forgotten-there c.self.inside.classes keys (key_to segment c.args.page) c.args.frame _ (omega arith) c.self.invariant (subst (λ (list : List (List Pair)). IsOfTable list keys) (sym c.self.view_is) all) there

pub invariant_of-self : goal.invariant_of-self
invariant_of-self c = still-classes c.self.inside.classes _ c.args.frame (after c) c.self.invariant

pub returns : goal.returns
returns c = after c ∙ ap (λ (list : List (List Pair)). forgotten list c.args.frame) c.self.view_is
