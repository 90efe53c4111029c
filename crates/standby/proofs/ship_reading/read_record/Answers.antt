use Rattle.standby.proofs.Lemmas.{◌≡◌, ◌+◌, ◌-◌, ◌*◌, ◌∷◌, ◌++◌, [], List, ℕ, length, sym, ap, subst, ◌∙◌, arith, length-append, AreFirstLines, AreLines, ShipLine, lines_text, parted, record_of, common_steps, at_none, line_long, lines_more, parted_more, record_bad, record_step, text_on, wider}
use Rattle.standby.proofs.ship_reading.read_record.Goals as goal

pub returns-in-None-clause-fault : goal.returns-in-None-clause-fault
returns-in-None-clause-fault c = λ front number small is.
    let none = rw c.in-None.is at c.in_ok-line.ensures in
    record_bad c.args.line_bytes c.args.lines c.ranges.lines.fits front c.args.text.now c.loop-index.left.now c.args.read c.loop-index.index c.args.count number c.loop-index.least
    (record_of c.args.line_bytes c.loop-index.record) c.loop-index-test.true c.loop-index.invariant.room small c.loop-index.invariant.text (c.loop-index.invariant.goes front number is) none

pub loop-index-preserved : goal.loop-index-preserved
loop-index-preserved c =
    let told = rw c.in-Some.is at c.in_ok-line.ensures in let was = c.loop-index.invariant in
    let bytes = c.args.line_bytes in let kept = c.loop-index.record in let line = c.in-Some.line in
    let held = c.in-Some.bytes.items in
    let one : ShipLine = record { line = line; bytes = held } in
    let lines_are = c.in_ok-push-in-Some.ensures.items in
    let bytes_are = c.in_ok-extend_from_slice-in-Some.ensures.items ∙ ap (λ (these : List ℕ). kept.bytes.items ++ these) c.as_slice.ensures.value in
    let all : parted bytes c.push.new.self.items c.extend_from_slice.new.self.items ≡ record_of bytes kept ++ one ∷ [] =
    ap (λ (these : List ℕ). parted bytes these c.extend_from_slice.new.self.items) lines_are
    ∙ ap (λ (these : List ℕ). parted bytes (kept.lines.items ++ line ∷ []) these) bytes_are
    ∙ parted_more bytes kept.lines.items kept.bytes.items line held was.packed told.2 in
    let long = line_long line held c.in-Some.rest.now c.loop-index.left.now told.4 in
    let many = ap length lines_are ∙ length-append kept.lines.items (line ∷ []) in
    record {
      packed =
          let step : bytes * (length kept.lines.items + 1) ≡ bytes * length kept.lines.items + bytes = omega arith in
          omega (arith, ap length bytes_are ∙ length-append kept.bytes.items held, was.packed, told.2, step, ap (λ (n : ℕ). bytes * n) many);
      many = omega (arith, many, was.many);
      are = subst (λ (these : List ShipLine). AreLines bytes (line + 1) 0 these) (sym all) (lines_more bytes c.loop-index.least 0 line (record_of bytes kept) held was.are (omega arith) told.0 told.2 told.3);
      room = omega (arith, told.1, was.room, c.loop-index-test.true);
      text = subst (λ (these : List ShipLine). c.args.text.now ≡ lines_text these ++ c.in-Some.rest.now) (sym all) (text_on c.args.text.now c.loop-index.left.now c.in-Some.rest.now (record_of bytes kept) line held was.text told.4);
      shorter = omega (arith, was.shorter, long);
      goes = λ front number is.
          subst (λ (these : List ShipLine). AreFirstLines bytes c.args.lines (front ++ lines_text these) (c.args.read + (c.loop-index.index + 1)) number (c.args.count - (c.loop-index.index + 1)) (line + 1)) (sym all)
          (record_step bytes c.args.lines c.ranges.lines.fits front c.args.read c.loop-index.index c.args.count number c.loop-index.least line (record_of bytes kept) held c.loop-index-test.true told.0 (omega (arith, told.1, was.room, c.loop-index-test.true)) told.2 told.3 (was.goes front number is));
    }

pub returns-clause-done : goal.returns-clause-done
returns-clause-done c = grind (arith, c.loop-index-test.false, c.loop-index.auto.index-end, c.loop-index.invariant.packed, c.loop-index.invariant.many, wider c.args.line_bytes c.loop-index.least c.args.lines 0 (record_of c.args.line_bytes c.loop-index.record) c.loop-index.invariant.are (omega (arith, c.loop-index.invariant.room)), c.loop-index.invariant.text, c.loop-index.invariant.shorter)

pub returns-clause-goes : goal.returns-clause-goes
returns-clause-goes c = λ front number is.
    let end : c.loop-index.index ≡ c.args.count = omega (arith, c.loop-index-test.false, c.loop-index.auto.index-end) in
    let left : c.args.count - c.loop-index.index ≡ 0 = omega (arith, end) in
    let placed = rw (left, end) at (c.loop-index.invariant.goes front number is) in
    at_none c.args.line_bytes c.args.lines (front ++ lines_text (record_of c.args.line_bytes c.loop-index.record)) (c.args.read + c.args.count) number c.loop-index.least placed

pub loop-index-init : goal.loop-index-init
loop-index-init c = grind (arith, common_steps)

pub overflow_add-least : goal.overflow_add-least
overflow_add-least c = grind arith
