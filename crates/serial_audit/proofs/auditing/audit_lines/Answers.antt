use Rattle.serial_audit.proofs.Lemmas.{ℕ, ◌+◌, take, drop, ◌∙◌, refl, ap, arith, report_told, line_claim, common_steps, none_sound, sound_more, told_all, told_more}
use Rattle.serial_audit.proofs.auditing.audit_lines.Goals as goal

pub loop-commit-init : goal.loop-commit-init
loop-commit-init c = record {
  sound = none_sound c.args.job.now c.args.opening.now;
  stands = c.in_ok-progress.ensures.stands;
  few = omega (arith, c.in_ok-progress.ensures.none);
  whole = c.in_ok-progress.ensures.same ∙ c.requires.store;
}

pub returns-in-None-clause-sound : goal.returns-in-None-clause-sound
returns-in-None-clause-sound c =
    let i = c.loop-commit.commit-index in
    let lines = c.args.lines.now in
    record {
      before = report_told (take i lines);
      told = line_claim c.commit-item.result;
      behind = report_told (drop (i + 1) lines);
      lines_are = told_all lines i c.commit-item.result c.loop-commit-test.true c.commit-item.is;
      place = c.next_place-place.ensures ∙ ap (λ (n : ℕ). n + 1) c.loop-commit.invariant.stands.commits_are;
      sound = c.loop-commit.invariant.sound;
      unsound = rw c.in-None.is at (c.in_ok-next.ensures.taken c.args.job.now c.args.opening.now (report_told (take i lines)) refl c.loop-commit.invariant.stands);
    }

pub loop-commit-preserved : goal.loop-commit-preserved
loop-commit-preserved c =
    let before = report_told (take c.loop-commit.commit-index c.args.lines.now) in
    let taken = rw c.in-Some.is at (c.in_ok-next.ensures.taken c.args.job.now c.args.opening.now before refl c.loop-commit.invariant.stands) in
    let whole = rw c.in-Some.is at c.in_ok-next.ensures.whole in
    rw (told_more c.args.lines.now c.loop-commit.commit-index c.commit-item.result c.loop-commit-test.true c.commit-item.is) (record {
      sound = sound_more c.args.job.now c.args.opening.now before (line_claim c.commit-item.result) c.loop-commit.invariant.sound taken.0;
      stands = taken.1;
      few = omega (arith, c.loop-commit.invariant.few, rw c.in-Some.is at c.in_ok-next.ensures.one);
      whole = whole;
    })

pub returns-clause-sound : goal.returns-clause-sound
returns-clause-sound c = grind (arith, common_steps)
