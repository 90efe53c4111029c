use Rattle.romp_asm.proofs.Lemmas.{◌≡◌, ◌+◌, ◌∷◌, [], ◌++◌, List, length, take, sum_by, sym, ap, subst, ◌∙◌, arith, take_more, sum_by-take-le, sum_by_push, Statement, AreTables, IsTable, total_size, common_steps, tables_more}
use Rattle.romp_asm.proofs.value.tables_of.Goals as goal
use Rattle.romp_asm.proofs.value.tables_of.Goals.{After-statements-item}

front : (c : goal.After-statements-item) → take (c.loop-statements.statements-index + 1) c.args.sources.now ≡ take c.loop-statements.statements-index c.args.sources.now ++ c.statements-item.result ∷ []
front c = take_more c.args.sources.now c.loop-statements.statements-index c.statements-item.result c.loop-statements-test.true ∙ ap (λ (that : List Statement). take c.loop-statements.statements-index c.args.sources.now ++ that ∷ []) (sym c.statements-item.is)

pub labels_kept-requires : goal.labels_kept-requires
labels_kept-requires c =
    let i = c.loop-statements.statements-index in
    let many = λ (source : List Statement). length source in
    omega (arith, c.loop-statements.invariant.small, c.requires, ap (sum_by many) (front (goal.at.labels_kept-requires c).After-statements-item), sum_by_push many (take i c.args.sources.now) c.statements-item.result, sum_by-take-le many c.args.sources.now (i + 1))

pub loop-statements-preserved : goal.loop-statements-preserved
loop-statements-preserved c =
    let at = (goal.at.loop-statements-preserved c).After-statements-item in
    let i = c.loop-statements.statements-index in
    let many = λ (source : List Statement). length source in
    let table = subst (λ n. IsTable c.in_ok-table.table n c.statements-item.result) c.loop-statements.invariant.address c.in_ok-table.ensures.table in
    let start : c.in_ok-table.table.end ≡ c.loop-statements.address + total_size c.statements-item.result = c.in_ok-table.ensures.table.end in
    record {
      tables = subst (λ (these : List _). AreTables c.push.new.self.items these) (sym (front at))
          (subst (λ (these : List _). AreTables these (take i c.args.sources.now ++ c.statements-item.result ∷ [])) (sym c.in_ok-push.ensures.items)
          (tables_more c.loop-statements.tables.items (take i c.args.sources.now) c.in_ok-table.table c.statements-item.result c.loop-statements.invariant.tables table));
      address = omega (arith, start, c.loop-statements.invariant.address, ap (sum_by total_size) (front at), sum_by_push total_size (take i c.args.sources.now) c.statements-item.result);
      small = omega (arith, start, c.loop-statements.invariant.small, c.in_ok-table.ensures.small, ap (sum_by many) (front at), sum_by_push many (take i c.args.sources.now) c.statements-item.result);
    }

pub returns : goal.returns
returns c = grind (arith, common_steps)
