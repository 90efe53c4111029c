use Rattle.store_calls.proofs.Common.{◌≡◌, List, ℕ, rules, sym, ap, subst, ◌∙◌, PutsIn, verdict_line}
use Rattle.store_calls.proofs.audit.put_verdict.Goals as goal
use Rattle.store_calls.proofs.audit.put_verdict.Goals.{in-Serial, in-NotSerial}

pub returns : goal.returns
returns g c =
    let found = c.args.found.now in
    let text : c.match-found.text ≡ verdict_line found.commits found.verdict =
    elim c.match-found.branch [
      | in-Serial w ↦ w.text-is ∙ w.serial_text-text.ensures ∙ ap (verdict_line found.commits) (sym w.in-Serial.is)
      | in-NotSerial w ↦ w.text-is ∙ w.unsound_text-text.ensures found.commits ∙ ap (verdict_line found.commits) (sym w.in-NotSerial.is)
    ] in
    let bytes : c.as_slice.result.now ≡ verdict_line found.commits found.verdict = c.as_slice.ensures ∙ text in
    subst (λ (line : List ℕ). PutsIn g.W.Outside line 1 c.args.outside.now c.put.new.self c.put.result) bytes (search rules)
