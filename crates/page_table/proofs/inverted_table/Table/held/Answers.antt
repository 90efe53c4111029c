use Rattle.page_table.proofs.Common.{◌≡◌, List, sym, ◌∙◌, ap, Option, Some, None, Key, key_in, look_up, IsChained, IfSome}
use Rattle.page_table.proofs.FindLemmas.{look_up-is}
use Rattle.page_table.proofs.inverted_table.Table.held.Goals as goal

-- the frame that holds a page is the one that is found
alone : {anchors next : List (Option _)} (keys : List (Option Key)) (frame : _) → IsChained anchors next keys → (o : Option Key) → o ≡ key_in keys frame → IfSome o (λ key. look_up keys key ≡ Some frame)
alone keys frame chained None is = _
alone keys frame chained (Some key) is =
    look_up-is keys key (Some frame) (λ other same. ap (key_in keys) (let one : other ≡ frame = cc in one) ∙ sym is) (λ other held. ap Some (chained.once frame other key (sym is) held))

pub returns-clause-alone : goal.returns-clause-alone
returns-clause-alone c = rw (sym c.self.view_is) (alone c.self.inside.keys.items c.args.frame c.self.invariant c.held_in.result (c.held_in.ensures ∙ ap (λ list. key_in list c.args.frame) c.deref.ensures.value))
