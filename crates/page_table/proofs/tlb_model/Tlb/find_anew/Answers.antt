use Rattle.page_table.proofs.Common.{ℕ, List, sym, ◌∙◌, ap, arith, common_steps, subst, key_to, Pair, after_found, IsOfTable, Option}
use Rattle.page_table.proofs.BufferLemmas.{after-of}
use Rattle.page_table.proofs.tlb_model.Tlb.find_anew.Goals as goal

pub returns : goal.returns
returns c =
    let after = c.remember.ensures ∙ ap (λ (o : Option ℕ). after_found c.args.self.now o (key_to c.args.segment c.args.page)) (sym c.in_ok-frame.was ∙ c.find.ensures) in
    record {
      answer = grind (arith, common_steps);
      after = after;
      same = grind (arith, common_steps);
      kept = λ all.
          subst (λ (list : List (List Pair)). IsOfTable list c.args.table.now.keys) (sym after)
          (after-of c.args.self.now c.args.table.now.keys (key_to c.args.segment c.args.page) all);
    }
