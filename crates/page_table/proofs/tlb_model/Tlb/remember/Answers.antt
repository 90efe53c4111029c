use Rattle.page_table.proofs.Common.{◌≡◌, ◌<◌, length, List, Some, None, ◌∙◌, ap, arith, Key, key_to, Pair, Ways, after_found, is_pair_of, pairs_in, class_of, pairs_of, nat_tests, find, slice_index_or, map}
use Rattle.page_table.proofs.BufferLemmas.{after-added, added-apart, class-pairs}
use Rattle.page_table.proofs.tlb_model.Tlb.remember.Goals as goal

-- the class has no pair of the page
none-in : (classes : List Ways) (seen : List (List Pair)) (wanted : Key) (other : Ways) → class_of wanted < length classes → map pairs_of classes ≡ seen
    → find (is_pair_of wanted) (pairs_in seen (class_of wanted)) ≡ None → find (is_pair_of wanted) (pairs_of (slice_index_or classes (class_of wanted) other)) ≡ None
none-in classes seen wanted other there view none = grind (arith, nat_tests, class-pairs)

pub invariant_of-self : goal.invariant_of-self
invariant_of-self c =
    added-apart c.self.inside.classes (key_to c.args.segment c.args.page) c.args.frame _ c.add.new.self (omega arith) c.self.invariant
    (none-in c.self.inside.classes c.args.self.now (key_to c.args.segment c.args.page) _ (omega arith) c.self.view_is c.requires) c.add.ensures

pub returns : goal.returns
returns c =
    after-added c.self.inside.classes (key_to c.args.segment c.args.page) c.args.frame _ c.add.new.self (omega arith) (none-in c.self.inside.classes c.args.self.now (key_to c.args.segment c.args.page) _ (omega arith) c.self.view_is c.requires) c.add.ensures
    ∙ ap (λ (list : List (List Pair)). after_found list (Some c.args.frame) (key_to c.args.segment c.args.page)) c.self.view_is
