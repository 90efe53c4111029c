use Rattle.serial_audit.proofs.Lemmas.{◌≡◌, ◌<◌, ◌^◌, false, arith, rules, line_claim, entry_at, none_begun, follows_so, may_follow, refl, slice_get_read}
use Rattle.serial_audit.proofs.auditing.Progress.entry_for.Goals as goal
use Rattle.serial_audit.proofs.auditing.Progress.entry_for.Goals.{else-commit-self-via-then-commit-self+then-not-entry+else-commit-entry, else-commit-self-via-then-commit-self+else-not-entry, else-commit-self-via-else-commit-self}

pub returns-in-None : goal.returns-in-None
returns-in-None c = λ job opening before stands activation follows.
    none_begun job before c.args.self.now.entries.items c.args.commit.now.activation activation stands.index
    (rw (c.len.ensures, c.args.self.now.entries.ok.0) at c.in-None.ensures) follows.begun

pub returns-then-commit-entry : goal.returns-then-commit-entry
returns-then-commit-entry c = λ job opening before stands.
    let inside = rw (c.len.ensures, c.args.self.now.entries.ok.0) at c.in-Some.ensures.0 in
    let entry = c.index-entry.result.now in
    let found = slice_get_read c.args.self.now.entries.items _ c.in-Some.place entry refl inside c.index-entry.ensures in
    let open_yet : entry.committed ≡ false = search rules in (
      may_follow job opening before (line_claim c.args.commit.now) c.args.self.now c.in-Some.place entry stands found c.in-Some.ensures.1
          c.if-commit-self.true open_yet c.if-commit-entry.true,
      (c.in-Some.place, c.in-Some.ensures.1, entry_at job before c.args.self.now.entries.items c.in-Some.place entry stands.index found),
    )

pub returns-else-commit-self : goal.returns-else-commit-self
returns-else-commit-self c = λ job opening before stands activation follows.
    let inside = rw (c.len.ensures, c.args.self.now.entries.ok.0) at c.in-Some.ensures.0 in
    let entry = c.index-entry.result.now in
    let found = slice_get_read c.args.self.now.entries.items _ c.in-Some.place entry refl inside c.index-entry.ensures in
    let wants = follows_so job opening before (line_claim c.args.commit.now) c.args.self.now c.in-Some.place entry activation stands found c.in-Some.ensures.1 follows in
    elim c.else-commit-self.branch [
      | else-commit-self-via-then-commit-self+then-not-entry+else-commit-entry w ↦
          let more = w.if-commit-entry.false in
          let small : c.args.commit.now.steps < 2 ^ 64 = omega arith in
          omega (arith, wants.2 small)
      | else-commit-self-via-then-commit-self+else-not-entry w ↦ cc (w.if-not-entry.false, wants.1)
      | else-commit-self-via-else-commit-self w ↦ w.if-commit-self.false wants.0
    ]
