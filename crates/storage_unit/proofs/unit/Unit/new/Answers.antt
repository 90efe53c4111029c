use Rattle.storage_unit.proofs.Lemmas.{ℕ, ◌+◌, List, length, replicate, sym, ◌∙◌, ap, subst, arith, Option, None, refl, length-replicate, Placed, unowned, Pair, IsOfTable, Registers, Pool, private_frames, AreOfPages, keys_of, false, AreClear, keys-bare, none-of_table, marks-none, clear-fresh, ready-none, opened-none}
use Rattle.storage_unit.proofs.unit.Unit.new.Goals as goal

pub invariant_of-result : goal.invariant_of-result
invariant_of-result c =
    let d = c.directory.result.now in
    let pool = c.in_ok-new.ensures.value in
    let table = c.in_ok-new-2.ensures in
    record {
      sixteen = refl;
      legal = c.segments-segments.ensures.legal;
      fits = record {
        seen = c.in_ok-new.ensures.seen;
        size = ap (λ (p : Pool). p.page) pool ∙ c.page-page.ensures;
        pages = ap (λ (p : Pool). length p.frame_of) pool ∙ length-replicate c.pages-pages.result (let none : Option ℕ = None in none) ∙ c.pages-pages.ensures.value;
        marks = subst (λ (list : List (List ℕ)). AreOfPages list) (sym (ap (λ (p : Pool). p.marked) pool)) (marks-none c.pages-pages.result);
      };
      entries = ap (λ (t : Placed). length t.entries) table ∙ length-replicate c.pages-pages.result unowned ∙ c.pages-pages.ensures.value;
      held =
          ap (λ (t : Placed). t.keys) table
          ∙ ap (λ n. replicate (n + c.args.frames) None) (c.private_frames.ensures.value ∙ ap private_frames c.page-page.ensures)
          ∙ keys-bare d c.args.frames _
          ∙ ap (λ (p : Pool). keys_of d (replicate 16 false) p.frames p.page_in) (sym pool);
      remembered = subst (λ (classes : List (List Pair)). IsOfTable classes c.in_ok-new-2.field-0.keys) (sym c.new-3.ensures) (none-of_table c.in_ok-new-2.field-0.keys);
      selected = record { none = λ is. c.none.ensures ∙ ap (λ page. (let none : Registers = record { page = page; list = replicate 16 None } in none)) c.page-page.ensures; few = omega arith; seat = λ seat is. absurd (omega (arith, is)) };
      ready = ready-none c.in_ok-new-3.field-0 c.in_ok-new.field-0.bytes 0 c.in_ok-new-3.ensures;
      opened = opened-none c.new-5.result d c.in_ok-new-2.field-0 c.none.result 0 c.new-5.ensures;
      clear = subst (λ (list : List ℕ). AreClear (replicate 16 0) list) (sym (ap (λ (p : Pool). p.bytes) pool)) (clear-fresh _);
    }
