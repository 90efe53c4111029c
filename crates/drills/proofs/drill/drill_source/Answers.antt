use Rattle.std.proofs.lemmas.Grind.{common_steps}
use Rattle.drills.proofs.Lemmas.{rules, arith, refl, given, drill-rose, drill-same, drilled-text, drilled-unread}
use Rattle.drills.proofs.drill.drill_source.Goals as goal

pub returns-in-Err : goal.returns-in-Err
returns-in-Err g c = record {
  read = first_of (search rules, grind (arith, common_steps));
  ends = record {
    did = record { no_order = refl; by_status = drilled-unread g.W.Outside (given g.S.Source c.args.source.now c.job_from.new.source) c.args.outside.now c.in-Err.status c.in-Err.ensures.only };
    only = search rules;
    faults = search rules;
  };
}

pub returns-in-Ok : goal.returns-in-Ok
returns-in-Ok g c = record {
  read = first_of (search rules, grind (arith, common_steps));
  ends =
      let (text, whole, means) = c.in-Ok.ensures.means in let did = c.drill.ensures.did in
      record {
        did = record {
          no_order = refl;
          by_status = drilled-text g.W.Outside c.in-Ok.job c.args.outside.now c.drill.new.outside (given g.S.Source c.args.source.now c.job_from.new.source) text c.drill.result whole means did;
        };
        only = search rules;
        faults = record {
          source = λ is. c.in-Ok.ensures.unfailed;
          outside = record {
            disk = λ is. grind (arith, is, c.drill.ensures.only);
            put = λ is. drill-rose g.W.Outside c.in-Ok.job c.args.outside.now c.drill.new.outside c.drill.result did is;
            unfailed = λ is. drill-same g.W.Outside c.in-Ok.job c.args.outside.now c.drill.new.outside c.drill.result did is;
          };
        };
      };
}
