use Rattle.drills.proofs.Lemmas.{◌≡◌, ◌<◌, ◌∙◌, false, sym, ap, arith, refl, rules, commits_seen, disk_faults, nat_tests, is_disk_starved, failed-stops, unfailed-runs, deeds_of, memory_of}
use Rattle.drills.proofs.stops.told.Goals as goal

pub returns-in-Done : goal.returns-in-Done
returns-in-Done c =
    let disk = c.args.disk in
    let fed : is_disk_starved (memory_of disk) ≡ false = ap is_disk_starved (sym c.memory.ensures) ∙ sym c.starved.ensures ∙ c.if-starved.false in
    record {
      status = search rules;
      reached = λ is. failed-stops (memory_of disk) (deeds_of disk) disk.stops fed (let some : 0 < disk_faults (memory_of disk) = grind (arith, nat_tests, is, c.faults.ensures, ap disk_faults c.memory-in-Done.ensures) in some);
      unreached = λ is.
          let none : disk_faults (memory_of disk) ≡ 0 = grind (arith, nat_tests, is, c.faults.ensures, ap disk_faults c.memory-in-Done.ensures) in
          (none, unfailed-runs (memory_of disk) (deeds_of disk) disk.stops fed none);
      seen = c.commits_in.ensures ∙ ap commits_seen c.printed.ensures;
      order_is = refl;
      image_is = c.into_image.ensures;
    }
