use Rattle.store.proofs.Lemmas.{nat_tests, ◌≡◌, ℕ, ◌+◌, ◌*◌, ◌%◌, ◌^◌, List, [], ◌∷◌, ◌++◌, length, drop, slice_set, refl, sym, subst, ◌∙◌, ap, arith, rules, length-append, Option, None, Some, IfSome, SameShape, IsAppended, entry_bytes, RecordLine, lines_from, wrong_line, record_bytes, length-take-le, leaves_held, IsStore, stands, one_more, held_of, noted, AreNewest, BankView, end_of, begun_of, spoilt, begun_count, begun_lines, kept_of, TracksBank, IsEither, HoldsOneOf, IsSafe, IsGateShut, needed_end, take, IsReadied, make_ready, shut, either, one_of, same, more, after, doubted, filled_lines, says_room, begun_is, fields_tracked, with_record_is, is_begun, unwrapped, below_in_order, newest_more, held_left, Appends, CountsKept, FailedLeaves, bank_appended, kept_in, Kept, body_of, length-lines_from, IsBody, IsRecordBody, KeepsRecord, KeepsDeeds}
use Rattle.store.specs.declared.keep.Appended.{Appended}
use Rattle.store.specs.declared.keep.Appended.TheVariants as appending
use Rattle.store.specs.declared.keep.Kept.TheVariants as keeping
use Rattle.store.proofs.redo_journal.Bank.append.Given.{Over}
use Rattle.store.proofs.redo_journal.Bank.append.Goals as goal
use Rattle.store.proofs.redo_journal.Bank.append.Goals.{After-keep_body, After-note}

pub unwrap-begun-requires : goal.unwrap-begun-requires
unwrap-begun-requires g c = is_begun c.self.inside c.args.self.now c.self.view_is c.requires.begun

-- how many lines are begun
count : (g : Over) (c : goal.After-keep_body g) → begun_count c.self.inside ≡ c.unwrap-begun.result
count g c = unwrapped c.self.inside.begun c.unwrap-begun.result c.unwrap-begun.ensures

pub fill-requires : goal.fill-requires
fill-requires g c = grind (arith, nat_tests, unwrapped)

-- the bytes of the lines that are begun
sized : (g : Over) (c : goal.After-keep_body g) → c.from-bytes.result ≡ entry_bytes c.self.inside.page * begun_count c.self.inside
sized g c = c.from-bytes.ensures ∙ c.entries_bytes.ensures.value ∙ ap (λ (n : ℕ). entry_bytes c.self.inside.page * n) (sym (count g c))

-- the bank's fields are tracked, and the body adds the begun record
abbrev ready : (g : Over) (c : goal.After-keep_body g) → TracksBank g.W.Outside c.args.self.now c.args.outside.now → IsReadied g.W.Outside c.self.inside c.args.outside.now c.record_of.result.now
ready g c given =
    let n = count g c in
    let tracks : TracksBank g.W.Outside (kept_of c.self.inside) c.args.outside.now = fields_tracked g.W.Outside c.self.inside c.args.self.now c.args.outside.now c.self.view_is given in
    record {
      tracks = tracks;
      ready =
          make_ready g.W.Outside c.self.inside c.args.outside.now tracks c.self.invariant c.fill.new.body c.record_of.result.now _ (rw n c.record_of.ensures) c.fill.ensures.len (c.fill.ensures.counted ∙ sym n) c.fill.ensures.numbered (rw n c.fill.ensures.lines) (rw n c.fill.ensures.closed)
          (omega (arith, c.number_of-due.ensures))
          (omega (arith, sized g c, c.end_of.ensures.value, c.if-end_of-self.false));
    }

begun : (g : Over) (c : goal.After-keep_body g) → begun_lines c.self.inside ≡ begun_of c.args.self.now
begun g c = begun_is c.self.inside c.args.self.now c.self.view_is

pub returns-then-end_of-self : goal.returns-then-end_of-self
returns-then-end_of-self g c = grind (arith, nat_tests, says_room, unwrapped, leaves_held)

pub note-requires-clause-ordered : goal.note-requires-clause-ordered
note-requires-clause-ordered g c =
    let n = count g (goal.at.note-requires-clause-ordered g c).After-keep_body in
    rw (← n) (ap (wrong_line (length c.self.inside.newest) 0) (filled_lines c.self.inside c.fill.new.body c.as_slice.result.now (rw n c.fill.ensures.lines) c.as_slice.ensures) ∙ c.self.invariant.ordered)

-- the gate is shut
shut_gate : (g : Over) (c : goal.After-keep_body g) → TracksBank g.W.Outside c.args.self.now c.args.outside.now → IsGateShut g.W.Outside c.self.inside.gate c.args.outside.now
shut_gate g c tracks = record { sure = tracks.sure; shut = shut _ _ _ _ _ _ _ _ _ (ready g c tracks).ready }

-- an image of now is one since the start
since : (g : Over) (c : goal.After-keep_body g) → IsGateShut g.W.Outside c.self.inside.gate c.args.outside.now → (image seen : List ℕ) → g.W.Outside.left_since c.keep_body.new.outside (g.W.Outside.moment c.keep_body.new.outside) image seen
    → IsSafe c.self.inside.gate c.record_of.result.now (held_of g.W.Outside c.args.outside.now) image
since g c shut image seen left = c.keep_body.ensures.crash shut image seen (g.met.W.Outside.fewer_later c.keep_body.new.outside _ _ image seen c.keep_body.ensures.only.calls.time.later left)

-- the body is that of the begun record
record_body : (g : Over) (c : goal.After-keep_body g) → IsRecordBody c.args.self.now c.record_of.result.now
record_body g c =
    let n = count g c in
    let bank = c.self.inside in
    let kept = kept_of bank in
    let made : IsBody bank.page (length bank.newest) (((bank.base + bank.count) % 2 ^ 64 + 1) % 2 ^ 64) bank.gate (begun_count bank) (begun_lines bank) (take (11 + entry_bytes bank.page * begun_count bank) c.fill.new.body) =
    body_of bank.page (length bank.newest) (((bank.base + bank.count) % 2 ^ 64 + 1) % 2 ^ 64) bank.gate (begun_count bank) bank.body c.fill.new.body (omega (arith, c.self.invariant.buffer, c.self.invariant.fits)) c.fill.ensures.len (c.fill.ensures.counted ∙ sym n)
    (c.fill.ensures.numbered ∙ omega (arith, c.number_of-due.ensures)) (rw n c.fill.ensures.lines) (rw n c.fill.ensures.closed) c.self.invariant.ordered in
    let here : IsBody bank.page (length bank.newest) (((bank.base + bank.count) % 2 ^ 64 + 1) % 2 ^ 64) bank.gate (begun_count bank) (begun_lines bank) c.record_of.result.now =
    subst (λ (these : List ℕ). IsBody bank.page (length bank.newest) (((bank.base + bank.count) % 2 ^ 64 + 1) % 2 ^ 64) bank.gate (begun_count bank) (begun_lines bank) these) (sym (rw n c.record_of.ensures)) made in
    let lines = begun_is bank kept refl in
    let counted : begun_count bank ≡ length (begun_of kept) = sym (length-lines_from bank.page (begun_count bank) (bank.gate + 11) (drop 10 bank.body)) ∙ ap (λ (these : List RecordLine). length these) lines in
    subst (λ (kept : BankView). IsRecordBody kept c.record_of.result.now) c.self.view_is
    (subst (λ (those : List RecordLine). IsBody bank.page (length bank.newest) (((bank.base + bank.count) % 2 ^ 64 + 1) % 2 ^ 64) bank.gate (length (begun_of kept)) those c.record_of.result.now) lines
    (subst (λ (k : ℕ). IsBody bank.page (length bank.newest) (((bank.base + bank.count) % 2 ^ 64 + 1) % 2 ^ 64) bank.gate k (begun_lines bank) c.record_of.result.now) counted here))

-- and it was kept behind the gate
recorded : (g : Over) (c : goal.After-keep_body g) → KeepsRecord (g.W.Outside.deeds c.args.outside.now) (g.W.Outside.deeds c.keep_body.new.outside) c.args.self.now c.keep_body.result
recorded g c =
    let at : c.self.inside.gate ≡ c.args.self.now.gate = ap (λ (those : BankView). those.gate) c.self.view_is in
    (c.record_of.result.now, record_body g c, subst (λ (gate : ℕ). KeepsDeeds (g.W.Outside.deeds c.args.outside.now) (g.W.Outside.deeds c.keep_body.new.outside) gate c.record_of.result.now c.keep_body.result) at c.keep_body.ensures.deeds)

-- what an append leaves that found room, where it is answered by how the body was kept
appends : (g : Over) (c : goal.After-keep_body g) (new : BankView) (answer : Appended) → kept_in answer ≡ Some c.keep_body.result → new ≡ bank_appended (kept_in answer) c.args.self.now → SameShape c.args.self.now new
    → (TracksBank g.W.Outside c.args.self.now c.args.outside.now → IfSome (kept_in answer) (FailedLeaves g.W.Outside c.args.self.now c.args.self.now c.args.outside.now c.keep_body.new.outside))
    → (answer ≡ appending.Done → TracksBank g.W.Outside c.args.self.now c.args.outside.now → IsAppended g.W.Outside c.args.self.now new c.args.outside.now c.keep_body.new.outside)
    → Appends g.W.Outside c.args.self.now new c.args.outside.now c.keep_body.new.outside answer
appends g c new answer told kept shape failed done =
    let G = g.W.Outside in
    let bank = c.self.inside in
    let old = c.args.self.now in
    let before = c.args.outside.now in
    let after = c.keep_body.new.outside in
    let says = says_room bank old c.self.view_is in
    let room : answer ≡ appending.Full → ⊥ = λ is. let no : None ≡ Some c.keep_body.result = sym (ap kept_in is) ∙ told in cc in
    record {
      only = c.keep_body.ensures.only;
      shape = shape;
      kept = kept;
      full = (λ is. absurd (room is), λ full. let no : ⊥ = omega (arith, sized g c, full, says.end, says.need, c.end_of.ensures.value, c.if-end_of-self.false) in absurd no);
      nothing = λ is. absurd (room is);
      counted = subst (λ (those : Option Kept). IfSome those (CountsKept G before after)) (sym told) c.keep_body.ensures.counted;
      deeds = subst (λ (those : Option Kept). IfSome those (KeepsRecord (G.deeds before) (G.deeds after) old)) (sym told) (recorded g c);
      writes = λ is. let same : Some c.keep_body.result ≡ Some keeping.Done = sym told ∙ ap kept_in is in c.keep_body.ensures.writes cc;
      crash = λ tracks image seen was. subst (λ (lines : List RecordLine). IsEither lines (held_of G before) image seen) (begun g c) (either _ _ _ _ _ _ _ _ _ (ready g c tracks).ready image (c.keep_body.ensures.crash (shut_gate g c tracks) image seen was) seen);
      apart = λ tracks image seen was.
          let safe = c.keep_body.ensures.crash (shut_gate g c tracks) image seen was in
          let n = count g c in
          let at : bank.gate ≡ old.gate = ap (λ (those : BankView). those.gate) c.self.view_is in
          let sized_by = ap (λ (k : ℕ). entry_bytes bank.page * k) n in
          let long : length c.record_of.result.now ≡ 11 + c.from-bytes.result = omega (arith, sized g c, ap length c.record_of.ensures, length-take-le (record_bytes bank.page c.unwrap-begun.result) c.fill.new.body (omega (arith, c.fill.ensures.len, c.self.invariant.buffer, c.self.invariant.fits, sized_by)), sized_by) in
          let end : bank.gate + 1 + length c.record_of.result.now ≡ needed_end old = omega (arith, long, sized g c, says.need) in
          record {
            front = subst (λ (k : ℕ). take k image ≡ take k (held_of G before)) at safe.front;
            behind = subst (λ (k : ℕ). drop k image ≡ drop k (held_of G before)) end safe.behind;
            long = safe.long;
          };
      left = failed;
      records = λ tracks.
          let now = held_left G g.met.W.Outside.held_now after (c.keep_body.ensures.only.told tracks.sure.told) in
          subst (λ (kept : BankView). HoldsOneOf tracks.header kept.which kept.base tracks.records (begun_of kept) (held_of G after)) c.self.view_is
          (subst (λ (lines : List RecordLine). HoldsOneOf tracks.header bank.which bank.base tracks.records lines (held_of G after)) (begun_is bank (kept_of bank) refl)
          (one_of _ _ _ _ _ _ _ _ _ (ready g c tracks).ready (held_of G after) (since g c (shut_gate g c tracks) (held_of G after) now.0 now.1)));
      done = done;
    }

pub returns-in-Unwritten : goal.returns-in-Unwritten
returns-in-Unwritten g c =
    let at = (goal.at.returns-in-Unwritten g c).After-keep_body in
    appends g at _ appending.Unwritten (ap Some (sym c.in-Unwritten.is)) (ap spoilt c.self.view_is) (search rules)
    (λ tracks image seen left.
    let shut = shut_gate g at tracks in
    same _ _ _ _ _ _ _ _ _ (ready g at tracks).ready image (c.keep_body.ensures.crash shut image seen left) (c.keep_body.ensures.unwritten c.in-Unwritten.is shut image seen left))
    (λ is. cc)

pub returns-in-Doubt : goal.returns-in-Doubt
returns-in-Doubt g c =
    let at = (goal.at.returns-in-Doubt g c).After-keep_body in
    let stood = stands (held_of g.W.Outside c.args.outside.now) in
    appends g at _ appending.Doubt (ap Some (sym c.in-Doubt.is)) (ap spoilt c.self.view_is) (search rules)
    (λ tracks image seen left.
    let shut = shut_gate g at tracks in
    subst (λ (n : ℕ). stands (slice_set image n 0xA5) ≡ one_more (begun_of c.args.self.now) stood) (ap (λ (bank : BankView). bank.gate) c.self.view_is)
    (doubted _ _ _ _ _ _ _ _ _ (ready g at tracks).ready image (since g at shut image seen left) (c.keep_body.ensures.doubt c.in-Doubt.is shut image seen left) ∙ ap (λ (lines : List RecordLine). one_more lines stood) (begun g at)))
    (λ is. cc)

-- the lines that are noted are those that were begun
noted_lines : (g : Over) (c : goal.After-note g) → c.note.new.newest ≡ noted c.self.inside.newest (begun_lines c.self.inside)
noted_lines g c =
    let bank = c.self.inside in
    let n = unwrapped bank.begun c.unwrap-begun.result c.unwrap-begun.ensures in
    let lines : lines_from bank.page c.unwrap-begun.result (bank.gate + 11) (drop 10 c.as_slice.result.now) ≡ begun_lines bank = rw (← n) (filled_lines bank c.fill.new.body c.as_slice.result.now (rw n c.fill.ensures.lines) c.as_slice.ensures) in
    c.note.ensures.value ∙ ap (noted bank.newest) lines

pub returns-in-Done : goal.returns-in-Done
returns-in-Done g c =
    let at = (goal.at.returns-in-Done g c).After-keep_body in
    let n = count g at in
    let bank = c.self.inside in
    let noted_is = noted_lines g (goal.at.returns-in-Done g c).After-note in
    appends g at _ appending.Done (ap Some (sym c.in-Done.is))
    (with_record_is bank c.args.self.now (bank.gate + (11 + c.from-bytes.result)) c.note.new.newest c.self.view_is (omega (arith, sized g at)) noted_is) (search rules) (λ tracks. tt)
    (λ is tracks.
    let now = ready g at tracks in
    let kept = c.keep_body.ensures.done c.in-Done.is (shut_gate g at tracks) in
    let held = held_of g.W.Outside c.keep_body.new.outside in
    let gate : bank.gate + length c.record_of.result.now ≡ bank.gate + (11 + c.from-bytes.result) = omega (arith, sized g at, ap length c.record_of.ensures, length-take-le (record_bytes bank.page c.unwrap-begun.result) c.fill.new.body (omega (arith, c.fill.ensures.len, c.self.invariant.buffer, c.self.invariant.fits, ap (λ (k : ℕ). entry_bytes bank.page * k) n)), ap (λ (k : ℕ). entry_bytes bank.page * k) n) in
    let store = after _ _ _ _ _ _ _ _ _ now.ready held kept.safe kept.shown in
    record {
      tracks = record {
        sure = kept.sure;
        header = now.tracks.header;
        records = now.tracks.records ++ begun_lines bank ∷ [];
        store = subst (λ (n : ℕ). IsStore held now.tracks.header bank.which bank.base n (now.tracks.records ++ begun_lines bank ∷ [])) gate store;
        page = now.tracks.page;
        bank_bytes = now.tracks.bank_bytes;
        bound = now.tracks.bound ∙ sym c.note.ensures.len;
        count = omega (arith, length-append now.tracks.records (begun_lines bank ∷ []), now.tracks.count);
        newest = subst (λ (these : List (Option ℕ)). AreNewest these (now.tracks.records ++ begun_lines bank ∷ [])) (sym noted_is) (newest_more bank.newest now.tracks.records (begun_lines bank) now.tracks.newest (below_in_order (length bank.newest) 0 (begun_lines bank) c.self.invariant.ordered));
      };
      stood = more _ _ _ _ _ _ _ _ _ now.ready held kept.safe kept.shown ∙ ap (λ (lines : List RecordLine). one_more lines (stands (held_of g.W.Outside c.args.outside.now))) (begun g at);
      header = store.said ∙ sym now.tracks.store.said;
    })

pub invariant_of-self : goal.invariant_of-self
invariant_of-self g c =
    let old = c.self.invariant in
    record {
      some_bytes = old.some_bytes;
      few_bytes = old.few_bytes;
      inside = omega (arith, c.end_of.ensures.value, c.from-bytes.ensures, c.entries_bytes.ensures.value, c.if-end_of-self.false);
      placed = c.note.ensures.placed (end_of c.self.inside.which c.self.inside.bank_bytes) (omega (arith, c.end_of.ensures.value, c.from-bytes.ensures, c.entries_bytes.ensures.value, c.if-end_of-self.false)) old.placed;
      few_lines = omega (arith, old.few_lines, c.note.ensures.len);
      few_records = omega (arith, old.few_records);
      buffer = c.fill.ensures.len ∙ old.buffer;
      fits = omega (arith, old.some_bytes);
      ordered = refl;
    }

pub invariant_of-self-in-Unwritten : goal.invariant_of-self-in-Unwritten
invariant_of-self-in-Unwritten g c = grind arith

pub invariant_of-self-in-Doubt : goal.invariant_of-self-in-Doubt
invariant_of-self-in-Doubt g c = grind arith

pub note-requires-clause-body : goal.note-requires-clause-body
note-requires-clause-body g c = grind arith
