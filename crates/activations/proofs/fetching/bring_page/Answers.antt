use Rattle.activations.proofs.Lemmas.{rules, on-ok, either-way, came-asked, came-moved, came-resident, came-keeps, out-moved, out-keeps, if-err}
use Rattle.activations.proofs.fetching.bring_page.Goals as goal

pub returns : goal.returns
returns g c =
    let way = c.bring_in.ensures in
    let asked = came-asked c.args.unit.now c.args.page c.args.keep g.W.Outside c.args.store.now c.args.outside.now _ _ in record {
      asks = either-way _ _ _ c.bring_in.result way.came way.unread (λ came. (asked came).0) (λ off. off.0);
      rest = search rules;
      cause = record {
        later = either-way _ _ _ c.bring_in.result way.came way.unread (λ came. (asked came).0.calls.disk) (λ off. off.0.calls.disk);
        failed = if-err _ _ c.bring_in.result way.unread (λ off. off.1);
        done = on-ok _ _ c.bring_in.result way.came (λ came. (asked came).1);
      };
      moved = either-way _ _ _ c.bring_in.result way.came way.out
          (came-moved c.args.unit.now c.args.page c.args.keep g.W.Outside c.args.store.now c.args.outside.now _ _) (λ gone. out-moved c.args.unit.now c.args.page c.args.keep _ gone);
      came = on-ok _ _ c.bring_in.result way.came (came-resident c.args.unit.now c.args.page c.args.keep g.W.Outside c.args.store.now c.args.outside.now _ _);
      none = if-err _ _ c.bring_in.result way.out (λ gone. gone.none);
      keeps = λ committed is clean. either-way _ _ _ c.bring_in.result way.came way.out
          (λ came. came-keeps c.args.unit.now c.args.page c.args.keep g.W.Outside c.args.store.now c.args.outside.now _ _ c.requires.can.directory c.requires.page c.requires.absent came committed is clean)
          (λ gone. out-keeps c.args.unit.now c.args.page c.args.keep _ gone c.requires.page c.requires.absent committed clean);
    }
