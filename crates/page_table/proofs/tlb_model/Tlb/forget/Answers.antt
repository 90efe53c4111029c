use Rattle.page_table.proofs.Common.{◌≡◌, List, map, ◌∙◌, ap, Pair, Ways, forgotten, pairs_of}
use Rattle.page_table.proofs.BufferLemmas.{classes-without, still-classes}
use Rattle.page_table.proofs.tlb_model.Tlb.forget.Goals as goal

-- the pairs go that are to go
after : (c : goal.After-forget_all) → map pairs_of c.forget_all.new.classes ≡ forgotten (map pairs_of c.self.inside.classes) c.args.frame
after c = ap (λ (classes : List Ways). map pairs_of classes) c.forget_all.ensures ∙ classes-without c.args.frame c.self.inside.classes

pub invariant_of-self : goal.invariant_of-self
invariant_of-self c = still-classes c.self.inside.classes c.forget_all.new.classes c.args.frame (after c) c.self.invariant

pub returns : goal.returns
returns c = after c ∙ ap (λ (list : List (List Pair)). forgotten list c.args.frame) c.self.view_is
