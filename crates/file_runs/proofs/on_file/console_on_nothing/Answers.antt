use Rattle.file_runs.proofs.Common.{◌≡◌, List, [], length, sym, ◌∙◌, ap, subst, refl, arith, Some, None, Deed, file_images_after, file_images_at, printed_of, marks_of, given, DidOnFile}
use Rattle.std.proofs.lemmas.List.{take_all}
use Rattle.std.specs.Prelude.{true, false}
use Rattle.outside.specs.ClockLaws.{left_now}
use Rattle.real_files.specs.Deeds.{file_after}
use Rattle.real_files.specs.ShownLaws.{marks_in_order}
use Rattle.real_files.specs.declared.absent_disk.AbsentDisk.{AbsentDisk}
use Rattle.file_runs.proofs.FileLemmas.{marks_counted}
use Rattle.real_files.specs.Deeds.{deed_failed}
use Rattle.file_runs.proofs.Common.{count_by}
use Rattle.file_runs.proofs.on_file.console_on_nothing.Goals as goal

-- nothing was wanting but the file
pub returns-clause-why : goal.returns-clause-why
returns-clause-why g c =
    let made = c.new-outside in
    let ran = c.console_behind-ended in
    let screen = ran.new.outside.screen in
    let puts_of = g.R.RawScreen.puts in
    let noted = ap (λ noted. noted.faults) made.ensures.screen ∙ c.new-noted.ensures.faults in
    let puts_are : puts_of c.into_screen.result ≡ puts_of screen.screen = ap puts_of (c.into_screen.ensures ∙ ap (λ noted. noted.screen) c.into_parts-shown.ensures.screen) in
    let starved : true ≡ false → ⊥ = λ is. let no : ⊥ = cc in no in
    record {
      usage = ran.ensures.usage;
      only = ran.ensures.only;
      read = ran.ensures.read;
      disk = λ calm. absurd (starved calm.0);
      put = λ none is.
          let rose = ran.ensures.faults.outside.put is in
          absurd (omega (arith, noted, screen.calm (ap (count_by deed_failed) (sym puts_are) ∙ none), rose));
      complete = λ form is has calm_source calm none. absurd (starved calm.0);
    }

pub returns-clause-did : goal.returns-clause-did
returns-clause-did g c form is =
    let made = c.new-outside in
    let ran = c.console_behind-ended in
    let puts_of = g.R.RawScreen.puts in
    let out = ran.new.outside in
    let puts = puts_of out.screen.screen in
    let none : puts_of made.result.screen.screen ≡ [] = ap (λ noted. puts_of noted.screen) made.ensures.screen ∙ ap puts_of c.new-noted.ensures.screen ∙ c.requires in
    let did = ran.ensures.did form is [] [] puts true (record {
      started = ap (λ (disk : AbsentDisk). disk.faults) made.ensures.disk ∙ c.new-disk.ensures;
      calm_disk = λ calm. let never : true ≡ false = calm.0 in let no : ⊥ = cc in absurd no;
      screen = record {
        honest = refl;
        held = refl;
        none = ap (λ (those : List Deed). Some (printed_of those)) none;
        shown = refl;
        left = λ image seen was. subst (λ (these : List Deed). file_images_after [] (λ image. image ≡ []) these image) (take_all was.at [] (omega arith)) was.is_image;
        unput = ap (λ (those : List Deed). length (marks_of 0 those)) none;
        count = marks_counted 0 puts;
      };
      moment = ap (λ (those : List Deed). record { calls = 0; puts = length (marks_of 0 those); origin = record { first = []; stop = None } }) none;
      undone = refl;
      deeds_are = refl;
      holds = λ w done origin told. let is : [] ≡ done = let same : Some [] ≡ Some done = told in cc in ap (λ (these : List Deed). Some (file_after [] these)) is;
      calls = refl;
      unwritten = refl;
      writes = refl;
      since = λ t image seen left. left;
      now = λ image left. left_now 0 (file_images_at [] []) (marks_of 0 puts) _ (printed_of puts) image out.in_step (marks_in_order puts) left;
    }) in
    subst (λ (these : List Deed). DidOnFile true form (given g.S.Source c.args.job.now ran.new.job) [] [] these ran.result) (ap puts_of (sym (c.into_screen.ensures ∙ ap (λ noted. noted.screen) c.into_parts-shown.ensures.screen))) did
