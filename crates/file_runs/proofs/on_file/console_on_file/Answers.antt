use Rattle.file_runs.proofs.Common.{◌≡◌, ℕ, List, length, sym, ◌∙◌, ap, subst, refl, arith, Some, LeftAt, Moment, Deed, file_images_at, deed_writes, printed_of, marks_of, count_by, given, DidOnFile, DidOnScreen}
use Rattle.outside.specs.ClockLaws.{left_now}
use Rattle.outside.specs.Origin.{Origin}
use Rattle.real_files.specs.ShownLaws.{marks_in_order}
use Rattle.file_runs.proofs.FileLemmas.{marks_counted}
use Rattle.real_files.specs.Deeds.{deed_failed, file_after}
use Rattle.file_runs.proofs.on_file.console_on_file.Goals as goal

pub returns-clause-why : goal.returns-clause-why
returns-clause-why g c =
    let made = c.outside_of-outside in
    let ran = c.console_behind-ended in
    let parts = c.raw_of-file in
    record {
      usage = ran.ensures.usage;
      only = ran.ensures.only;
      read = ran.ensures.read;
      disk = λ calm is. let rose = ran.ensures.faults.outside.disk is in absurd (omega (arith, made.ensures.faults, parts.ensures.disk_calm calm.0 calm.1, rose));
      put = λ none is. let rose = ran.ensures.faults.outside.put is in absurd (omega (arith, made.ensures.put_faults, parts.ensures.put_calm none, rose));
      complete = λ form is has calm_source calm none.
          ran.ensures.complete form is c.args.bytes.items made.ensures.honest made.ensures.held has calm_source
          (λ rose. absurd (omega (arith, made.ensures.faults, parts.ensures.disk_calm calm.0 calm.1, rose)))
          (λ rose. absurd (omega (arith, made.ensures.put_faults, parts.ensures.put_calm none, rose)));
    }

pub returns-clause-same : goal.returns-clause-same
returns-clause-same g c form is on_file =
    ap (λ (origin : Origin). origin.first) (sym c.raw_of-file.ensures.origin ∙ c.console_behind-ended.ensures.same form is on_file ∙ ap (λ (moment : Moment). moment.origin) c.outside_of-outside.ensures.moment)

pub returns-clause-did : goal.returns-clause-did
returns-clause-did g c form is on_file =
    let made = c.outside_of-outside in
    let ran = c.console_behind-ended in
    let parts = c.raw_of-file in
    let out = ran.new.outside in
    let deeds = g.F.RawFile.deeds out.disk.file in
    let puts = g.R.RawScreen.puts out.screen.screen in
    let bytes = c.args.bytes.items in
    let first : g.F.RawFile.first out.disk.file ≡ bytes = sym (ap g.F.RawFile.first parts.ensures.file) ∙ returns-clause-same g c form is on_file in
    let starved = parts.result.2 in
    let this = λ (of_file of_screen : List Deed). DidOnFile starved form (given g.S.Source c.args.job.now ran.new.job) bytes of_file of_screen ran.result in
    let did : this deeds puts = ran.ensures.did form is bytes deeds puts starved (record {
      started = made.ensures.faults;
      calm_disk = λ is_calm. parts.ensures.disk_calm is_calm.0 (ap (count_by deed_failed) (ap g.F.RawFile.deeds parts.ensures.file) ∙ is_calm.1);
      screen = record { honest = made.ensures.honest; held = made.ensures.held; none = made.ensures.printed; shown = refl; left = made.ensures.left; unput = ap (λ (moment : Moment). moment.puts) made.ensures.moment; count = marks_counted 0 puts };
      moment = made.ensures.moment;
      undone = ap (λ (these : List Deed). Some these) (ap g.F.RawFile.deeds made.ensures.file ∙ c.requires.deeds);
      deeds_are = refl;
      holds = λ w done origin told.
          let made_first : g.F.RawFile.first w.disk.file ≡ bytes = ap (λ (from : Origin). from.first) (origin ∙ ap (λ (moment : Moment). moment.origin) made.ensures.moment) in
          let deeds_are : g.F.RawFile.deeds w.disk.file ≡ done = let is : Some (g.F.RawFile.deeds w.disk.file) ≡ Some done = told in cc in
          ap (λ (these : List ℕ). Some these) w.disk.replayed ∙ (λ i. Some (file_after (made_first i) (deeds_are i)));
      calls = refl;
      unwritten = ap (λ (these : List Deed). Some (count_by deed_writes these)) (ap g.F.RawFile.deeds made.ensures.file ∙ c.requires.deeds);
      writes = refl;
      since = λ t image seen left. subst (λ (these : List ℕ). LeftAt (length deeds) (file_images_at these deeds) (marks_of 0 puts) (printed_of puts) t image seen) (sym first) left;
      now = λ image left. left_now (length deeds) (file_images_at (g.F.RawFile.first out.disk.file) deeds) (marks_of 0 puts) _ (printed_of puts) image out.in_step (marks_in_order puts) (subst (λ (these : List ℕ). file_images_at these deeds (length deeds) image) (sym first) left);
    }) in
    subst (λ (these : List Deed). this (g.F.RawFile.deeds parts.result.0) these) (ap g.R.RawScreen.puts (sym parts.ensures.screen))
    (subst (λ (these : List Deed). this these puts) (ap g.F.RawFile.deeds (sym parts.ensures.file)) did)

pub returns-clause-shown : goal.returns-clause-shown
returns-clause-shown g c form is unfailed =
    let made = c.outside_of-outside in
    let ran = c.console_behind-ended in
    let parts = c.raw_of-file in
    let puts = g.R.RawScreen.puts ran.new.outside.screen.screen in
    let bytes = c.args.bytes.items in
    let did = ran.ensures.shown form is bytes puts parts.result.2
    (record { honest = made.ensures.honest; held = made.ensures.held; none = made.ensures.printed; shown = refl; left = made.ensures.left; unput = ap (λ (moment : Moment). moment.puts) made.ensures.moment; count = marks_counted 0 puts })
    (λ fed rose. absurd (omega (arith, made.ensures.faults, parts.ensures.disk_calm fed unfailed, rose))) in
    subst (λ (these : List Deed). DidOnScreen parts.result.2 form (given g.S.Source c.args.job.now ran.new.job) bytes these ran.result) (ap g.R.RawScreen.puts (sym parts.ensures.screen)) did
