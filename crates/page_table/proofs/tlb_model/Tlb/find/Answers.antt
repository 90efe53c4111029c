use Rattle.page_table.proofs.Common.{List, sym, ◌∙◌, ap, arith, common_steps, find, key_of, Pair, is_pair_of, pairs_in, class_of, nat_tests}
use Rattle.page_table.proofs.BufferLemmas.{remembered-of, class-pairs}
use Rattle.page_table.proofs.tlb_model.Tlb.find.Goals as goal

pub find_anew-requires : goal.find_anew-requires
find_anew-requires c = grind (arith, nat_tests, class-pairs)

pub returns-in-Some : goal.returns-in-Some
returns-in-Some c =
    let wanted = key_of c.args.at in
    record {
      answer = grind (arith, common_steps, class-pairs);
      after = grind (arith, common_steps, class-pairs);
      kept = grind (arith, common_steps);
      same = λ all.
          sym (remembered-of c.args.self.now c.args.table.now.keys wanted c.in-Some.pair all
          (ap (λ (list : List (List Pair)). find (is_pair_of wanted) (pairs_in list (class_of wanted))) (sym c.self.view_is)
          ∙ ap (find (is_pair_of wanted)) (class-pairs c.self.inside.classes (class_of wanted) _ (omega arith))
          ∙ sym c.find.ensures ∙ c.in-Some.is));
    }
