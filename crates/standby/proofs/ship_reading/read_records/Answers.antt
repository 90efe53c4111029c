use Rattle.standby.proofs.Lemmas.{◌≡◌, ⊎_elim, ◌+◌, ◌∷◌, ◌++◌, [], List, ℕ, length, map, sym, ap, subst, ◌∙◌, arith, append_assoc, append-nil, length-append, All, length-map, map-append, All-map, All-push, AreFirstLines, IsReadFault, AreLines, IsPacked, ShipLine, closing_line, head_line, later, next, record_line, record_of, records_text, ShipRecord, empty_is, some_is, common_steps, length-parted, record_long, records_step, text_more, whole_text, bad_behind, bad_here, read_count, read_head}
use Rattle.standby.proofs.ship_reading.read_records.Goals as goal

pub loop-count-init : goal.loop-count-init
loop-count-init c =
    let none = c.new-records.ensures.items in let bytes = c.args.line_bytes in
    let head = head_line bytes c.args.lines c.args.start in
    record {
      number = omega (arith, ap length none, c.ranges.start.fits);
      text = ap (λ (these : List ShipRecord). records_text c.args.start (map (record_of bytes) these) ++ c.args.text.now) (sym none);
      is =
          subst (λ (these : List ShipRecord). AreFirstLines bytes c.args.lines (head ++ records_text c.args.start (map (record_of bytes) these)) 1 c.args.start 0 0) (sym none)
          (subst (λ (text : List ℕ). AreFirstLines bytes c.args.lines text 1 c.args.start 0 0) (sym (append-nil head)) (read_head bytes c.args.lines c.args.start c.requires.some (omega (arith, c.ranges.line_bytes.fits)) c.ranges.lines.fits c.ranges.start.fits));
      few = omega (arith, c.requires.few);
      packed = subst (λ (these : List ShipRecord). All (IsPacked bytes) these) (sym none) (λ k d lt. absurd (omega (arith, lt)));
      are = subst (λ (these : List ShipRecord). All (λ kept. AreLines bytes c.args.lines 0 (record_of bytes kept)) these) (sym none) (λ k d lt. absurd (omega (arith, lt)));
    }

pub loop-count-preserved : goal.loop-count-preserved
loop-count-preserved c =
    let was = c.loop-count.invariant in let bytes = c.args.line_bytes in
    let head = head_line bytes c.args.lines c.args.start in let items = c.loop-count.records.items in
    let records = map (record_of bytes) items in let kept = c.in-Ok.record in let done = c.in-Ok.ensures.done in
    let told = c.in-Some.ensures in let pushed = c.in_ok-push-in-Ok.ensures.items in
    let all = ap (map (record_of bytes)) pushed ∙ map-append (record_of bytes) items (kept ∷ []) in
    let many = length-parted bytes kept.lines.items kept.bytes.items ∙ done.many in
    let number : c.loop-count.number ≡ later c.args.start (length records) = was.number ∙ ap (later c.args.start) (sym (length-map items (record_of bytes))) in
    let place : c.loop-count.read + 1 + c.in-Some.count ≡ c.loop-count.read + (1 + c.in-Some.count) = omega arith in
    let long = record_long (next c.loop-count.number) c.in-Some.count c.in-Some.rest.now c.loop-count.left.now told.1 in
    record {
      number = omega (arith, was.number, ap length pushed ∙ length-append items (kept ∷ []));
      text =
          subst (λ (these : List (List ShipLine)). c.args.text.now ≡ records_text c.args.start these ++ c.in-Ok.rest.now) (sym all)
          (text_more c.args.start c.loop-count.number c.in-Some.count c.args.text.now c.loop-count.left.now c.in-Some.rest.now c.in-Ok.rest.now records (record_of bytes kept) number many was.text told.1 done.text_is);
      is =
          subst (λ (these : List (List ShipLine)). AreFirstLines bytes c.args.lines (head ++ records_text c.args.start these) (c.loop-count.read + (1 + c.in-Some.count)) (next c.loop-count.number) 0 0) (sym all)
          (subst (λ (n : ℕ). AreFirstLines bytes c.args.lines (head ++ records_text c.args.start (records ++ record_of bytes kept ∷ [])) n (next c.loop-count.number) 0 0) place
          (records_step bytes c.args.lines c.ranges.lines.fits head c.loop-count.read c.loop-count.number c.args.start c.in-Some.count records (record_of bytes kept) number told.0 many was.is
          (c.in-Ok.ensures.goes ((head ++ records_text c.args.start records) ++ record_line (next c.loop-count.number) c.in-Some.count) (next c.loop-count.number))));
      few = omega (arith, was.few, done.shorter, long);
      packed = subst (λ (these : List ShipRecord). All (IsPacked bytes) these) (sym pushed) (All-push (IsPacked bytes) items kept was.packed done.packed);
      are = subst (λ (these : List ShipRecord). All (λ one. AreLines bytes c.args.lines 0 (record_of bytes one)) these) (sym pushed) (All-push (λ (one : ShipRecord). AreLines bytes c.args.lines 0 (record_of bytes one)) items kept was.are done.are);
    }

pub returns-in-Err : goal.returns-in-Err
returns-in-Err c =
    let was = c.loop-count.invariant in let bytes = c.args.line_bytes in
    let head = head_line bytes c.args.lines c.args.start in
    let records = map (record_of bytes) c.loop-count.records.items in
    let front = head ++ records_text c.args.start records in
    let line = record_line (next c.loop-count.number) c.in-Some.count in let told = c.in-Some.ensures in
    let text : (front ++ line) ++ c.in-Some.rest.now ≡ head ++ c.args.text.now =
    append_assoc front line c.in-Some.rest.now ∙ ap (λ (these : List ℕ). front ++ these) (sym told.1) ∙ sym (whole_text head c.args.text.now c.loop-count.left.now c.args.start records was.text) in
    subst (λ (these : List ℕ). IsReadFault these c.in-Err.fault) text
    (c.in-Err.ensures.fault (front ++ line) (next c.loop-count.number) (omega arith) (read_count bytes c.args.lines c.ranges.lines.fits front c.loop-count.read c.loop-count.number 0 c.in-Some.count told.0 was.is))

pub returns-then-is_empty : goal.returns-then-is_empty
returns-then-is_empty c =
    let was = c.loop-count.invariant in let bytes = c.args.line_bytes in
    let head = head_line bytes c.args.lines c.args.start in let items = c.loop-count.records.items in
    let records = map (record_of bytes) items in let front = head ++ records_text c.args.start records in
    let number : c.loop-count.number ≡ later c.args.start (length records) = was.number ∙ ap (later c.args.start) (sym (length-map items (record_of bytes))) in
    let empty = empty_is c.in-Some-behind.rest.now c.if-is_empty.ensures in
    let last : c.loop-count.left.now ≡ closing_line (later c.args.start (length records)) =
    c.in-Some-behind.ensures
    ∙ ap (λ (these : List ℕ). c.as_slice.result.now ++ these) empty
    ∙ append-nil c.as_slice.result.now
    ∙ c.as_slice.ensures
    ∙ c.fill_end.ensures
    ∙ ap closing_line number in
    record {
      is_ship = record {
        content = record { some_bytes = c.requires.some; few_bytes = omega (arith, c.ranges.line_bytes.fits); few_lines = c.ranges.lines.fits; number = c.ranges.start.fits; records = All-map (λ (these : List ShipLine). AreLines bytes c.args.lines 0 these) (record_of bytes) items was.are };
        packed = was.packed;
      };
      bytes = whole_text head c.args.text.now c.loop-count.left.now c.args.start records was.text ∙ ap (λ (these : List ℕ). front ++ these) last;
    }

pub returns-else-is_empty : goal.returns-else-is_empty
returns-else-is_empty c =
    let was = c.loop-count.invariant in let bytes = c.args.line_bytes in
    let head = head_line bytes c.args.lines c.args.start in
    let records = map (record_of bytes) c.loop-count.records.items in
    let front = head ++ records_text c.args.start records in
    let some = some_is c.in-Some-behind.rest.now c.if-is_empty.ensures in
    bad_behind bytes c.args.lines c.ranges.lines.fits front c.loop-count.read c.loop-count.number 0 (head ++ c.args.text.now) c.in-Some-behind.rest.now was.is (omega (arith, was.number)) some
    (whole_text head c.args.text.now c.loop-count.left.now c.args.start records was.text
    ∙ ap (λ (these : List ℕ). front ++ these) (c.in-Some-behind.ensures ∙ ap (λ (line : List ℕ). line ++ c.in-Some-behind.rest.now) (c.as_slice.ensures ∙ c.fill_end.ensures)))

pub returns-in-None : goal.returns-in-None
returns-in-None c =
    let was = c.loop-count.invariant in let bytes = c.args.line_bytes in
    let head = head_line bytes c.args.lines c.args.start in
    let records = map (record_of bytes) c.loop-count.records.items in
    let front = head ++ records_text c.args.start records in
    bad_here bytes c.args.lines c.ranges.lines.fits front c.loop-count.read c.loop-count.number 0 0 (head ++ c.args.text.now) c.loop-count.left.now was.is (omega (arith, was.number)) (omega arith)
    (whole_text head c.args.text.now c.loop-count.left.now c.args.start records was.text)
    (λ line more may same.
    ⊎_elim
    (λ last. c.in-None.ensures more (same ∙ ap (λ (these : List ℕ). these ++ more) (last ∙ sym (c.as_slice.ensures ∙ c.fill_end.ensures))))
    (λ first. c.in_default.ensures (first.0, more) (first.1, same ∙ ap (λ (these : List ℕ). these ++ more) first.2))
    may)

pub overflow_add-read-in-Ok-2 : goal.overflow_add-read-in-Ok-2
overflow_add-read-in-Ok-2 c = grind (arith, common_steps)

pub overflow_add-read-in-Ok : goal.overflow_add-read-in-Ok
overflow_add-read-in-Ok c = grind (arith, common_steps)

pub loop-count-smaller : goal.loop-count-smaller
loop-count-smaller c = grind (arith, common_steps)
