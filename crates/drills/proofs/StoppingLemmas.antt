-- A disk that is to stop within one of its writes stays one, at each of its calls.
use Rattle.drills.proofs.Common.{◌≡◌, ◌≢◌, ◌⊎◌, inl, inr, ℕ, ◌+◌, ◌-◌, ◌<◌, ◌≤◌, ◌^◌, min, Bool, true, false, List, [], ◌∷◌, ◌++◌, length, refl, sym, ◌∙◌, ap, subst, arith, Option, Some, None, Result, Ok, Err, ◌||◌, take, if◌then◌else◌, disk_faults, disk_first, disk_held, disk_writes, cases_Bool, or_cases, eqb-false, eqb-true, Failed, MemoryDisk, written, CountsFault, disk_moment, disk_origin, disk_plan, is_disk_starved, FailsAsDue, FoundNoMemory, IsRecorded, WasTried, Origin, DiskPlan, after_call, after_write, fate_of, held_by_fate, is_failed, is_failing, is_last, outcome_of, stops, IsStopping, KeepsTo, AreFewer, AreStopped, left_after, left_by, stop_number, count_by, cond, sum_by-append, Deed, Wrote, Tore, Synced, deed_failed, deed_writes}
use Rattle.outside.specs.declared.call_record.Fate.{Fate}
use Rattle.outside.specs.declared.call_record.Fate.TheVariants.{Whole, Refused, Cut, Stopped}
use Rattle.outside.specs.declared.refusals.Call.{Call}
use Rattle.outside.specs.declared.refusals.Call.TheVariants.{Write}
use Rattle.outside.specs.Refusals.{is_call_refused, used_up}

-- one deed more
left_after-append : (outcome held : List ℕ) (deeds : List Deed) (deed : Deed) → left_after outcome held (deeds ++ deed ∷ []) ≡ left_by outcome deed (left_after outcome held deeds)
left_after-append outcome held [] deed = refl
left_after-append outcome held (first ∷ deeds) deed = left_after-append outcome (left_by outcome first held) deeds deed

count-more : (p : Deed → Bool) (deeds : List Deed) (deed : Deed) → count_by p (deeds ++ deed ∷ []) ≡ count_by p deeds + cond (p deed) 1 0
count-more p deeds deed = let more = sum_by-append (λ (deed : Deed). cond (p deed) 1 0) deeds (deed ∷ []) in omega (arith, more)

-- the last write is that of the fuse
last-is : (fuse : Option (ℕ × List ℕ)) (number : ℕ) → is_last fuse number ≡ true → stop_number fuse ≡ number
last-is None number last = absurd (cc)
last-is (Some fuse) number last = eqb-true fuse.0 number last

not-last : (fuse : Option (ℕ × List ℕ)) (number : ℕ) → fuse ≡ Some (stop_number fuse, outcome_of fuse) → is_last fuse number ≡ false → stop_number fuse ≢ number
not-last None number fused last = absurd (cc)
not-last (Some fuse) number fused last = eqb-false fuse.0 number last

module _ (plan : DiskPlan) (first held : List ℕ) (writes faults : ℕ) (starved : Bool) (deeds : List Deed) (is : KeepsTo plan first held writes faults starved deeds) where
  -- a call that found no memory
  pub none-keeps : KeepsTo plan first held writes (min (faults + 1) (2 ^ 64 - 1)) true deeds
  none-keeps = record {
    fused = is.fused;
    small = is.small;
    unrefused = is.unrefused;
    few = is.few;
    counted = is.counted;
    made = is.made;
    left = is.left;
    well = is.well;
    calm = λ on unstarved. absurd (cc);
    stopped = is.stopped;
    failed = λ off. let some = is.failed off in omega (arith, some);
  }

  -- a call that tries to write nothing
  module _ (kind : Call) (from to : ℕ) where
    keeps-asked : (now : ℕ) → (plan.stopped ≡ false → starved ≡ false → now ≡ 0) → (plan.stopped ≡ true → 1 ≤ now) → KeepsTo (after_call plan kind from to) first held writes now starved deeds
    keeps-asked now calm failed = record {
      fused = is.fused;
      small = is.small;
      unrefused = ap (used_up kind from to) is.unrefused;
      few = is.few;
      counted = is.counted;
      made = is.made;
      left = is.left;
      well = is.well;
      calm = calm;
      stopped = is.stopped;
      failed = failed;
    }

    pub asked-done : KeepsTo (after_call plan kind from to) first held writes faults starved deeds
    asked-done = keeps-asked faults is.calm is.failed

    pub asked-failed : is_failing plan kind from to ≡ true → KeepsTo (after_call plan kind from to) first held writes (min (faults + 1) (2 ^ 64 - 1)) starved deeds
    asked-failed fails =
        let off : plan.stopped ≡ true = elim (or_cases plan.stopped (is_call_refused kind from to plan.refusals) fails) [
          | inl stopped ↦ stopped
          | inr refused ↦ absurd (let none : is_call_refused kind from to plan.refusals ≡ false = ap (is_call_refused kind from to) is.unrefused in cc)
        ] in
        keeps-asked (min (faults + 1) (2 ^ 64 - 1)) (λ on unstarved. absurd (cc)) (λ stopped. let some = is.failed off in omega (arith, some))

    -- a sync that went well
    pub synced-done : is_failing plan kind from to ≡ false → KeepsTo (after_call plan kind from to) first held writes faults starved (deeds ++ Synced ∷ [])
    synced-done well = record {
      fused = is.fused;
      small = is.small;
      unrefused = ap (used_up kind from to) is.unrefused;
      few = is.few;
      counted = is.counted;
      made = (let more = count-more deed_writes deeds Synced in let made = is.made in omega (arith, more, made));
      left = is.left ∙ sym (left_after-append (outcome_of plan.fuse) first deeds Synced);
      well = λ on. (let more = count-more deed_failed deeds Synced in let none = is.well on in omega (arith, more, none));
      calm = is.calm;
      stopped = λ off. absurd (let fails : is_failing plan kind from to ≡ true = ap (λ (b : Bool). b || is_call_refused kind from to plan.refusals) off in cc);
      failed = is.failed;
    }

  -- a write
  module _ (at to : ℕ) (bytes : List ℕ) where
    abbrev done : DiskPlan
    done = after_write plan at to

    abbrev left : Fate → List ℕ
    left fate = held_by_fate fate (outcome_of plan.fuse) at bytes held

    abbrev fate_by : (stopped last refused : Bool) → Fate
    fate_by stopped last refused = if stopped then Stopped else if last then Cut else if refused then Refused else Whole

    unrefused : is_call_refused Write at to plan.refusals ≡ false
    unrefused = ap (is_call_refused Write at to) is.unrefused

    -- of a disk that has stopped
    fate-stopped : plan.stopped ≡ true → fate_of plan at to ≡ Stopped
    fate-stopped off = ap (λ (stopped : Bool). fate_by stopped (is_last plan.fuse (plan.tries + 1)) (is_call_refused Write at to plan.refusals)) off

    -- of one that is stopped since
    once-stopped : (now : List Deed) → done.stopped ≡ true → count_by deed_writes now ≡ writes → left (fate_of plan at to) ≡ left_after (outcome_of plan.fuse) first now → ∥ AreStopped (stop_number plan.fuse) now ∥₁ → 1 ≤ min (faults + 1) (2 ^ 64 - 1)
        → KeepsTo done first (left (fate_of plan at to)) writes (min (faults + 1) (2 ^ 64 - 1)) starved now
    once-stopped now stays made these were some = record {
      fused = is.fused;
      small = is.small;
      unrefused = ap (used_up Write at to) is.unrefused;
      few = λ on. absurd (cc);
      counted = λ on. absurd (cc);
      made = made;
      left = these;
      well = λ on. absurd (cc);
      calm = λ on unstarved. absurd (cc);
      stopped = λ same. were;
      failed = λ same. some;
    }

    still-stopped : plan.stopped ≡ true → KeepsTo done first (left (fate_of plan at to)) writes (min (faults + 1) (2 ^ 64 - 1)) starved deeds
    still-stopped off =
        let some = is.failed off in
        once-stopped deeds (ap stops (fate-stopped off)) is.made (ap left (fate-stopped off) ∙ is.left) (is.stopped off) (omega (arith, some))

    module _ (on : plan.stopped ≡ false) where
      -- of one that stops now
      fate-cut : is_last plan.fuse (plan.tries + 1) ≡ true → fate_of plan at to ≡ Cut
      fate-cut last =
          ap (λ (stopped : Bool). fate_by stopped (is_last plan.fuse (plan.tries + 1)) (is_call_refused Write at to plan.refusals)) on
          ∙ ap (λ (last : Bool). fate_by false last (is_call_refused Write at to plan.refusals)) last

      stops-now : is_last plan.fuse (plan.tries + 1) ≡ true → KeepsTo done first (left (fate_of plan at to)) writes (min (faults + 1) (2 ^ 64 - 1)) starved (deeds ++ Tore at bytes ∷ [])
      stops-now last =
          let fate = fate-cut last in let number = last-is plan.fuse (plan.tries + 1) last in
          let more = count-more deed_writes deeds (Tore at bytes) in
          let made = is.made in let counted = is.counted on in
          let these : AreStopped (stop_number plan.fuse) (deeds ++ Tore at bytes ∷ []) =
          record { front = deeds; at = at; bytes = bytes; deeds_are = refl; well = is.well on; number = omega (arith, number, made, counted) } in
          once-stopped (deeds ++ Tore at bytes ∷ []) (ap stops fate) (omega (arith, more, made))
          (ap left fate ∙ ap (λ (those : List ℕ). written those at (take (length bytes) (outcome_of plan.fuse))) is.left ∙ sym (left_after-append (outcome_of plan.fuse) first deeds (Tore at bytes)))
          ∣ these ∣₁ (omega arith)

      -- of one that goes on
      fate-whole : is_last plan.fuse (plan.tries + 1) ≡ false → fate_of plan at to ≡ Whole
      fate-whole last =
          ap (λ (stopped : Bool). fate_by stopped (is_last plan.fuse (plan.tries + 1)) (is_call_refused Write at to plan.refusals)) on
          ∙ ap (λ (last : Bool). fate_by false last (is_call_refused Write at to plan.refusals)) last
          ∙ ap (fate_by false false) unrefused

      goes-on : is_last plan.fuse (plan.tries + 1) ≡ false → KeepsTo done first (left (fate_of plan at to)) (writes + 1) faults starved (deeds ++ Wrote at bytes ∷ [])
      goes-on last =
          let fate = fate-whole last in let other = not-last plan.fuse (plan.tries + 1) is.fused last in
          let below = is.few on in
          let few : plan.tries + 1 < stop_number plan.fuse = omega (arith, other, below) in
          let small = is.small in
          let count : done.tries ≡ plan.tries + 1 = omega (arith, few, small) in
          let still : done.stopped ≡ false = ap stops fate in
          record {
            fused = is.fused;
            small = is.small;
            unrefused = ap (used_up Write at to) is.unrefused;
            few = λ same. omega (arith, few, count);
            counted = λ same. let counted = is.counted on in omega (arith, counted, count);
            made = (let more = count-more deed_writes deeds (Wrote at bytes) in let made = is.made in omega (arith, more, made));
            left = ap left fate ∙ ap (λ (those : List ℕ). written those at bytes) is.left ∙ sym (left_after-append (outcome_of plan.fuse) first deeds (Wrote at bytes));
            well = λ same. (let more = count-more deed_failed deeds (Wrote at bytes) in let none = is.well on in omega (arith, more, none));
            calm = λ same unstarved. is.calm on unstarved;
            stopped = λ off. absurd (cc);
            failed = λ off. absurd (cc);
          }

    -- what a write comes to that went well; or that failed, where the disk hadn't stopped, or had
    pub tried-done : is_failed (fate_of plan at to) ≡ false → (plan.stopped ≡ false) × (done.stopped ≡ false) × KeepsTo done first (left (fate_of plan at to)) (writes + 1) faults starved (deeds ++ Wrote at bytes ∷ [])
    tried-done well = elim (cases_Bool plan.stopped) [
      | inl off ↦ absurd (let fate = ap is_failed (fate-stopped off) in cc)
      | inr on ↦ elim (cases_Bool (is_last plan.fuse (plan.tries + 1))) [
        | inl last ↦ absurd (let fate = ap is_failed (fate-cut on last) in cc)
        | inr other ↦ (on, ap stops (fate-whole on other), goes-on on other)
      ]
    ]

    pub tried-cut : plan.stopped ≡ false → is_failed (fate_of plan at to) ≡ true → (done.stopped ≡ true) × KeepsTo done first (left (fate_of plan at to)) writes (min (faults + 1) (2 ^ 64 - 1)) starved (deeds ++ Tore at bytes ∷ [])
    tried-cut on failed = elim (cases_Bool (is_last plan.fuse (plan.tries + 1))) [
      | inl last ↦ (ap stops (fate-cut on last), stops-now on last)
      | inr other ↦ absurd (let fate = ap is_failed (fate-whole on other) in cc)
    ]

    pub tried-off : plan.stopped ≡ true → (done.stopped ≡ true) × KeepsTo done first (left (fate_of plan at to)) writes (min (faults + 1) (2 ^ 64 - 1)) starved deeds
    tried-off off = (ap stops (fate-stopped off), still-stopped off)

-- the parts of which that is said
record Parts : Type 0 where
  plan : DiskPlan
  first : List ℕ
  held : List ℕ
  writes : ℕ
  faults : ℕ
  starved : Bool

-- so at each call of the disk
module _ (old new : MemoryDisk) (deeds : List Deed) (is : IsStopping old deeds) (origin : disk_origin new ≡ disk_origin old) where
  by-parts : (plan : DiskPlan) (held : List ℕ) (writes faults : ℕ) (starved : Bool) (now : List Deed) → disk_plan new ≡ plan → disk_held new ≡ held → disk_writes new ≡ writes → disk_faults new ≡ faults → is_disk_starved new ≡ starved
      → KeepsTo plan (disk_first old) held writes faults starved now → IsStopping new now
  by-parts plan held writes faults starved now plan_is held_is writes_is faults_is starved_is keeps =
      let of_new : Parts = record { plan = disk_plan new; first = disk_first new; held = disk_held new; writes = disk_writes new; faults = disk_faults new; starved = is_disk_starved new } in
      let of_these : Parts = record { plan = plan; first = disk_first old; held = held; writes = writes; faults = faults; starved = starved } in
      let same : of_these ≡ of_new = λ i. record {
        plan = sym plan_is i;
        first = sym (ap (λ (origin : Origin). origin.first) origin) i;
        held = sym held_is i;
        writes = sym writes_is i;
        faults = sym faults_is i;
        starved = sym starved_is i;
      } in
      subst (λ (parts : Parts). KeepsTo parts.plan parts.first parts.held parts.writes parts.faults parts.starved now) same keeps

  by-none : FoundNoMemory old new → disk_writes new ≡ disk_writes old → disk_faults new ≡ min (disk_faults old + 1) (2 ^ 64 - 1) → IsStopping new deeds
  by-none none writes count =
      by-parts (disk_plan old) (disk_held old) (disk_writes old) (min (disk_faults old + 1) (2 ^ 64 - 1)) true deeds none.plan none.held writes count none.marked
      (none-keeps (disk_plan old) (disk_first old) (disk_held old) (disk_writes old) (disk_faults old) (is_disk_starved old) deeds is)

  -- whether it has stopped stays
  abbrev pub Still : Type 0
  Still = (disk_plan new).stopped ≡ (disk_plan old).stopped

  stopped-by : (plan : DiskPlan) → disk_plan new ≡ plan → (disk_plan new).stopped ≡ plan.stopped
  stopped-by plan is = ap (λ (plan : DiskPlan). plan.stopped) is

  pub call-stops : {T : Type 0} (kind : Call) (from to : ℕ) (result : Result T Failed) → disk_held new ≡ disk_held old → disk_writes new ≡ disk_writes old
      → FailsAsDue (is_failing (disk_plan old) kind from to) (IsRecorded (after_call (disk_plan old) kind from to) old new) old new result → CountsFault (disk_faults old) (disk_faults new) result → IsStopping new deeds × Still
  call-stops kind from to (Ok nothing) held writes (well, recorded) count = (
    by-parts (after_call (disk_plan old) kind from to) (disk_held old) (disk_writes old) (disk_faults old) (is_disk_starved old) deeds recorded.plan_now held writes count recorded.marked
        (asked-done (disk_plan old) (disk_first old) (disk_held old) (disk_writes old) (disk_faults old) (is_disk_starved old) deeds is kind from to),
    stopped-by (after_call (disk_plan old) kind from to) recorded.plan_now,
  )
  call-stops kind from to (Err failed) held writes (inl none) count = (by-none none writes count, stopped-by (disk_plan old) none.plan)
  call-stops kind from to (Err failed) held writes (inr (fails, recorded)) count = (
    by-parts (after_call (disk_plan old) kind from to) (disk_held old) (disk_writes old) (min (disk_faults old + 1) (2 ^ 64 - 1)) (is_disk_starved old) deeds recorded.plan_now held writes count recorded.marked
        (asked-failed (disk_plan old) (disk_first old) (disk_held old) (disk_writes old) (disk_faults old) (is_disk_starved old) deeds is kind from to fails),
    stopped-by (after_call (disk_plan old) kind from to) recorded.plan_now,
  )

  pub sync-stops : {T : Type 0} (kind : Call) (from to : ℕ) (nothing : T) → disk_held new ≡ disk_held old → disk_writes new ≡ disk_writes old
      → FailsAsDue {T = T} (is_failing (disk_plan old) kind from to) (IsRecorded (after_call (disk_plan old) kind from to) old new) old new (Ok nothing) → disk_faults new ≡ disk_faults old → IsStopping new (deeds ++ Synced ∷ []) × Still
  sync-stops kind from to nothing held writes (well, recorded) count = (
    by-parts (after_call (disk_plan old) kind from to) (disk_held old) (disk_writes old) (disk_faults old) (is_disk_starved old) (deeds ++ Synced ∷ []) recorded.plan_now held writes count recorded.marked
        (synced-done (disk_plan old) (disk_first old) (disk_held old) (disk_writes old) (disk_faults old) (is_disk_starved old) deeds is kind from to well),
    stopped-by (after_call (disk_plan old) kind from to) recorded.plan_now,
  )

  module _ (at : ℕ) (bytes : List ℕ) where
    abbrev pub Goes : Result (Unit {0}) Failed → Type 0
    Goes result = FailsAsDue (is_failed (fate_of (disk_plan old) at (at + length bytes))) (WasTried at bytes old new) old new result

    tried : (writes faults : ℕ) (now : List Deed) → WasTried at bytes old new → disk_writes new ≡ writes → disk_faults new ≡ faults
        → KeepsTo (after_write (disk_plan old) at (at + length bytes)) (disk_first old) (held_by_fate (fate_of (disk_plan old) at (at + length bytes)) (outcome_of (disk_plan old).fuse) at bytes (disk_held old)) writes faults (is_disk_starved old) now → IsStopping new now
    tried writes faults now these writes_is faults_is keeps =
        by-parts (after_write (disk_plan old) at (at + length bytes)) _ writes faults (is_disk_starved old) now these.recorded.plan_now these.held writes_is faults_is these.recorded.marked keeps

    -- a write that went well
    pub write-done : (nothing : Unit {0}) → disk_writes new ≡ disk_writes old + 1 → Goes (Ok nothing) → disk_faults new ≡ disk_faults old → IsStopping new (deeds ++ Wrote at bytes ∷ []) × Still
    write-done nothing writes (well, these) count =
        let (on, still, keeps) = tried-done (disk_plan old) (disk_first old) (disk_held old) (disk_writes old) (disk_faults old) (is_disk_starved old) deeds is at (at + length bytes) bytes well in (
          tried (disk_writes old + 1) (disk_faults old) (deeds ++ Wrote at bytes ∷ []) these writes count keeps,
          stopped-by (after_write (disk_plan old) at (at + length bytes)) these.recorded.plan_now ∙ still ∙ sym on,
        )

    -- one that failed, and was recorded, where the disk hadn't stopped
    pub write-cut : (failed : Failed) → (disk_plan old).stopped ≡ false → (disk_moment new ≡ disk_moment old → ⊥) → disk_writes new ≡ disk_writes old → Goes (Err failed) → disk_faults new ≡ min (disk_faults old + 1) (2 ^ 64 - 1)
        → IsStopping new (deeds ++ Tore at bytes ∷ []) × ((disk_plan new).stopped ≡ true)
    write-cut failed on moved writes (inl none) count = absurd (moved (ap length none.calls))
    write-cut failed on moved writes (inr (fails, these)) count =
        let (off, keeps) = tried-cut (disk_plan old) (disk_first old) (disk_held old) (disk_writes old) (disk_faults old) (is_disk_starved old) deeds is at (at + length bytes) bytes on fails in (
          tried (disk_writes old) (min (disk_faults old + 1) (2 ^ 64 - 1)) (deeds ++ Tore at bytes ∷ []) these writes count keeps,
          stopped-by (after_write (disk_plan old) at (at + length bytes)) these.recorded.plan_now ∙ off,
        )

    -- one that failed where it had, or wasn't recorded
    pub write-left : (failed : Failed) → ((disk_plan old).stopped ≡ true) ⊎ (disk_moment new ≡ disk_moment old) → disk_writes new ≡ disk_writes old → Goes (Err failed) → disk_faults new ≡ min (disk_faults old + 1) (2 ^ 64 - 1)
        → IsStopping new deeds × Still
    write-left failed why writes (inl none) count = (by-none none writes count, stopped-by (disk_plan old) none.plan)
    write-left failed (inr same) writes (inr (fails, these)) count = absurd (let more = these.recorded.moment in omega (arith, same, more))
    write-left failed (inl off) writes (inr (fails, these)) count =
        let (still, keeps) = tried-off (disk_plan old) (disk_first old) (disk_held old) (disk_writes old) (disk_faults old) (is_disk_starved old) deeds is at (at + length bytes) bytes off in (
          tried (disk_writes old) (min (disk_faults old + 1) (2 ^ 64 - 1)) deeds these writes count keeps,
          stopped-by (after_write (disk_plan old) at (at + length bytes)) these.recorded.plan_now ∙ still ∙ sym off,
        )

-- one that isn't starved has failed exactly where it has stopped
module _ (disk : MemoryDisk) (deeds : List Deed) (is : IsStopping disk deeds) (unstarved : is_disk_starved disk ≡ false) where
  pub failed-stops : 0 < disk_faults disk → ∥ AreStopped (stop_number (disk_plan disk).fuse) deeds ∥₁
  failed-stops some = elim (cases_Bool (disk_plan disk).stopped) [
    | inl off ↦ is.stopped off
    | inr on ↦ absurd (let calm = is.calm on unstarved in omega (arith, some, calm))
  ]

  pub unfailed-runs : disk_faults disk ≡ 0 → AreFewer (stop_number (disk_plan disk).fuse) deeds
  unfailed-runs none = elim (cases_Bool (disk_plan disk).stopped) [
    | inl off ↦ absurd (let some = is.failed off in omega (arith, some, none))
    | inr on ↦
        let few = is.few on in let counted = is.counted on in let made = is.made in
        record { well = is.well on; fewer = omega (arith, few, counted, made) }
  ]
