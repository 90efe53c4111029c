use Rattle.drills.proofs.Lemmas.{◌≡◌, ◌∙◌, true, ap, refl, rules, arith, Some, List, [], ℕ, disk_held, disk_faults, disk_writes, FlatStore, Stands, stands, IsStop, fine_order, IfOk, IsTold, subst, StoppingDisk, disk_origin, screen_printed, HasLeft, is-reached, one-image, stop-is, Deed, left_after, deeds-left, run-deeds, deeds_of, memory_of}
use Rattle.std.proofs.lemmas.Result.{IfOk-weaker}
use Rattle.drills.proofs.stops.drill_stop.Goals as goal

-- what was left on the disk that was made
has-left : (c : goal.After-drop-screen-3) (number : ℕ) (store : FlatStore) → stands c.args.image.items ≡ Stands number store
    → HasLeft c.args.job.now c.args.image.items number store c.args.write c.args.outcome.items c.in_ok-ended.ended c.run_copy.new.outside.disk c.run_copy.new.outside.screen
has-left c number store stood =
    let made = memory_of c.new-disk.result in let outside = c.new-outside.result in
    let after = c.run_copy.new.outside in
    let same : memory_of outside.disk ≡ made = ap memory_of c.new-outside.ensures.disk in
    let held : disk_held (memory_of outside.disk) ≡ c.args.image.items = ap disk_held same ∙ c.new-disk.ensures.held in
    let calm : disk_faults (memory_of outside.disk) ≡ 0 = ap disk_faults same ∙ c.new-disk.ensures.faults in
    let none : disk_writes (memory_of outside.disk) ≡ 0 = ap disk_writes same ∙ c.new-disk.ensures.writes in
    let nothing : screen_printed outside.screen ≡ [] = ap screen_printed c.new-outside.ensures.screen ∙ c.new-2.ensures.printed in
    let left = c.in_ok-ended.ensures.left number store (record {
      honest = search rules;
      told = search rules;
      stood = ap stands held ∙ stood;
      images = λ image seen left.
          ap stands (one-image made (memory_of outside.disk) c.args.image.items image left.at same c.new-disk.ensures.moment c.new-disk.ensures.images left.by_now left.is_image) ∙ stood;
    }) in
    record {
      stood = stood;
      first = left.first (disk_held (memory_of after.disk)) (screen_printed after.screen) refl (ap (λ (bytes : List ℕ). Some bytes) nothing) refl;
      ran =
          run-deeds left c.args.image.items (disk_held (memory_of after.disk)) (screen_printed after.screen) (left_after c.args.outcome.items c.args.image.items) (deeds_of after.disk)
          (ap (λ (bytes : List ℕ). Some bytes) held) (ap (λ (deeds : List Deed). Some deeds) (ap deeds_of c.new-outside.ensures.disk ∙ c.new-disk.ensures.deeds)) refl
          (λ w done origin told.
          let its : deeds_of w.disk ≡ done = cc in
          ap (λ (bytes : List ℕ). Some bytes) (deeds-left w.disk c.args.image.items c.args.write c.args.outcome.items (origin ∙ ap disk_origin same ∙ c.new-disk.ensures.origin) ∙ ap (left_after c.args.outcome.items c.args.image.items) its))
          refl (ap (λ (bytes : List ℕ). Some bytes) nothing) refl;
      writes = λ done. let (count, same, due) = left.writes done in let is : count ≡ disk_writes (memory_of after.disk) = cc in omega (arith, none, is, due);
      fine = λ done well. left.fine done (λ rose. omega (arith, calm, well, rose)) ∙ ap (λ (bytes : List ℕ). fine_order c.args.job.now bytes store) held;
      fault = λ failed. let rose = c.in_ok-ended.ensures.disk failed in omega (arith, calm, rose);
      origin = c.in_ok-ended.ensures.origin ∙ ap disk_origin same ∙ c.new-disk.ensures.origin;
    }

-- what is told of the disk and the screen that are left
told-is : (c : goal.After-drop-screen-3) → IfOk c.told.result (IsTold c.in_ok-ended.ended c.run_copy.new.outside.disk c.run_copy.new.outside.screen)
told-is c =
    subst (λ (disk : StoppingDisk). IfOk c.told.result (IsTold c.in_ok-ended.ended disk c.run_copy.new.outside.screen)) c.into_parts-disk.ensures.disk
    (rw c.into_parts-disk.ensures.screen at c.told.ensures)

pub returns : goal.returns
returns c = record {
  stop =
      λ number store stood.
      IfOk-weaker c.told.result _ (IsStop c.args.job.now c.args.image.items number store c.args.write c.args.outcome.items)
      (stop-is c.args.job.now c.args.image.items number store c.args.write c.args.outcome.items c.in_ok-ended.ended c.run_copy.new.outside.disk c.run_copy.new.outside.screen (has-left c number store stood)) (told-is c);
  reached =
      λ number store stood due.
      IfOk-weaker c.told.result _ (λ stop. stop.reached ≡ true)
      (λ stop told. is-reached c.args.job.now c.args.image.items number store c.args.write c.args.outcome.items c.in_ok-ended.ended c.run_copy.new.outside.disk c.run_copy.new.outside.screen (has-left c number store stood) stop told due) (told-is c);
}
