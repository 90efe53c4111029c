use Rattle.standby.proofs.Common.{rules}
use Rattle.standby.proofs.Lemmas.{◌≡◌, ℕ, ◌+◌, ◌<◌, List, [], ◌++◌, length, take, drop, get_or, refl, sym, subst, ◌∙◌, ap, arith, append-nil, Ok, Option, Some, slice_get, unwrap_or, length-map, take_all, slice_get-get_or, line_bytes, RecordLine, Prints, ShipPrintsBy, Ghosts, feeds, held_of, prints_on, prints_same, prints_stop, Record, IsRecordAt, StoreView, IsShown, broken, HasBytes, ShipLine, line_line, lines_text, record_line, told, shows_on, one_feed, record_is_line, by_put, prints_by, shows_line, still_shown}
use Rattle.standby.proofs.ShipLemmas.{all_more, text_more, text_rest, there_still}
use Rattle.standby.proofs.shipping.put_record.Goals as goal

-- the first line counts the lines
counts : (number count : ℕ) (lines : List RecordLine) → count ≡ length lines → record_line number count ≡ record_line number (length (told lines))
counts number count lines is = ap (record_line number) (is ∙ sym (length-map lines (λ (one : RecordLine). let it : ShipLine = record { line = one.line; bytes = one.bytes } in it)))

no_record : RecordLine
no_record = record { line = 0; at = 0; bytes = [] }

pub returns-in-Err : goal.returns-in-Err
returns-in-Err g c = record {
  goes = search rules;
  bytes = search rules;
  prints = λ shown at many.
      let text : c.as_slice.result.now ≡ record_line c.args.number (length (told at.lines)) = c.as_slice.ensures ∙ c.fill_record.ensures ∙ ap (record_line c.args.number) c.from.ensures ∙ counts c.args.number c.args.entry.now.count at.lines many in
      prints_stop (g.W.Outside.printed c.args.outside.now) (g.W.Outside.printed c.put_line.new.outside) (record_line c.args.number (length (told at.lines))) (lines_text (told at.lines)) broken broken refl refl
      (subst (λ (bytes : List ℕ). Prints (g.W.Outside.printed c.args.outside.now) (g.W.Outside.printed c.put_line.new.outside) bytes broken) text c.in-Err.ensures.puts.printed);
}

-- what is said of each line where the record lies still is said of the next one
said : {W : Type 0} (G : Ghosts W) (store : StoreView) (entry : Record) (i : ℕ) (old mid : W) (shown : IsShown G store old) (at : IsRecordAt (held_of G old) store.bank entry.place) (P : RecordLine → Type 0)
    → entry.count ≡ length at.lines → G.held mid ≡ G.held old → i < entry.count
    → ((shown : IsShown G store mid) (at : IsRecordAt (held_of G mid) store.bank entry.place) → entry.count ≡ length at.lines → (one : RecordLine) → slice_get at.lines i ≡ Some one → P one)
    → P (get_or at.lines i no_record)
said G store entry i old mid shown at P many same below each =
    let still = still_shown G store old mid shown same in
    let that = there_still (held_of G old) (held_of G mid) store.bank entry.place (ap (λ (those : Option (List ℕ)). unwrap_or those []) same) at in
    each still.0 that.0 (many ∙ ap (λ (these : List RecordLine). length these) (sym that.1)) (get_or at.lines i no_record)
    (ap (λ (these : List RecordLine). slice_get these i) that.1 ∙ slice_get-get_or at.lines i no_record (omega (arith, many, below)))

pub returns-in-Err-put_one : goal.returns-in-Err-put_one
returns-in-Err-put_one g c = record {
  bytes = search rules;
  goes = grind (arith, shows_on g.W.Outside g.met.W.Outside.fewer_later c.args.outside.now c.loop-index.outside c.put_one.new.outside c.loop-index.invariant.only c.put_one.ensures.goes.only);
  prints = λ shown at many.
      let G = g.W.Outside in let i = c.loop-index.index in
      let lt : i < length at.lines = omega (arith, many, c.loop-index-test.true) in
      let one = get_or at.lines i no_record in
      let part = said G c.args.durable.now c.args.entry.now i c.args.outside.now c.loop-index.outside shown at (λ (one : RecordLine). Prints (G.printed c.loop-index.outside) (G.printed c.put_one.new.outside) (line_line one.line one.bytes) broken)
      many c.loop-index.invariant.only.held c.loop-index-test.true c.in-Err-put_one.ensures.prints in
      let head = record_line c.args.number c.args.entry.now.count in
      let front = head ++ lines_text (take i (told at.lines)) in
      prints_same (G.printed c.args.outside.now) (G.printed c.put_one.new.outside) ((front ++ line_line one.line one.bytes) ++ lines_text (drop (i + 1) (told at.lines))) (record_line c.args.number (length (told at.lines)) ++ lines_text (told at.lines)) broken
      (text_rest head at.lines i one lt (slice_get-get_or at.lines i no_record lt) ∙ ap (λ (first : List ℕ). first ++ lines_text (told at.lines)) (counts c.args.number c.args.entry.now.count at.lines many))
      (prints_stop (G.printed c.args.outside.now) (G.printed c.put_one.new.outside) (front ++ line_line one.line one.bytes) (lines_text (drop (i + 1) (told at.lines))) broken broken refl refl
      (prints_on (G.printed c.args.outside.now) (G.printed c.loop-index.outside) (G.printed c.put_one.new.outside) front (line_line one.line one.bytes) tt broken (c.loop-index.invariant.so_far shown at many).0 part));
}

pub loop-index-init : goal.loop-index-init
loop-index-init g c =
    let line = record_line c.args.number c.args.entry.now.count in
    let text : c.as_slice.result.now ≡ line = c.as_slice.ensures ∙ c.fill_record.ensures ∙ ap (record_line c.args.number) c.from.ensures in
    let one = ap feeds text ∙ one_feed line (record_is_line c.args.number c.args.entry.now.count (omega (arith, c.ranges.number.fits)) (omega (arith, c.from.type_inv, c.from.ensures))) in
    record {
      only = shows_line g.W.Outside c.as_slice.result.now c.args.outside.now c.put_line.new.outside (Ok tt) c.in-Ok.ensures.puts;
      disk = c.in-Ok.ensures.puts.only.disk;
      put = c.in-Ok.ensures.puts.only.cause.done;
      so_far = λ shown at many. subst (λ (bytes : List ℕ). ShipPrintsBy {T = Unit {0}} g.W.Outside bytes c.args.outside.now c.put_line.new.outside (Ok tt)) (text ∙ sym (append-nil line)) (by_put g.W.Outside c.as_slice.result.now c.args.outside.now c.put_line.new.outside (Ok tt) one c.in-Ok.ensures.puts);
      bytes = λ shown at many k d lt. absurd (omega (arith, lt));
    }

pub loop-index-preserved : goal.loop-index-preserved
loop-index-preserved g c =
    let G = g.W.Outside in let old = c.args.outside.now in let mid = c.loop-index.outside in
    let i = c.loop-index.index in
    record {
      only = shows_on G g.met.W.Outside.fewer_later old mid c.put_one.new.outside c.loop-index.invariant.only c.put_one.ensures.goes.only;
      disk = c.in-Ok-put_one.ensures.goes.ends.0 ∙ c.loop-index.invariant.disk;
      put = c.in-Ok-put_one.ensures.goes.ends.1 ∙ c.loop-index.invariant.put;
      so_far = λ shown at many.
          let lt : i < length at.lines = omega (arith, many, c.loop-index-test.true) in
          let one = get_or at.lines i no_record in let head = record_line c.args.number c.args.entry.now.count in
          subst (λ (bytes : List ℕ). ShipPrintsBy {T = Unit {0}} G bytes old c.put_one.new.outside (Ok tt)) (text_more head at.lines i one lt (slice_get-get_or at.lines i no_record lt))
          (prints_by G old mid c.put_one.new.outside (head ++ lines_text (take i (told at.lines))) (line_line one.line one.bytes) (Ok tt) (c.loop-index.invariant.so_far shown at many)
          (said G c.args.durable.now c.args.entry.now i old mid shown at (λ (one : RecordLine). ShipPrintsBy {T = Unit {0}} G (line_line one.line one.bytes) mid c.put_one.new.outside (Ok tt)) many c.loop-index.invariant.only.held c.loop-index-test.true c.in-Ok-put_one.ensures.prints));
      bytes = λ shown at many.
          all_more (HasBytes (line_bytes c.args.durable.now.header.directory.page)) at.lines i no_record (omega (arith, many, c.loop-index-test.true)) (c.loop-index.invariant.bytes shown at many)
          (said G c.args.durable.now c.args.entry.now i old mid shown at (HasBytes (line_bytes c.args.durable.now.header.directory.page)) many c.loop-index.invariant.only.held c.loop-index-test.true c.in-Ok-put_one.ensures.bytes);
    }

pub returns : goal.returns
returns g c = record {
  goes = search rules;
  prints = λ shown at many.
      let head = record_line c.args.number c.args.entry.now.count in
      let bare = λ (one : RecordLine). let it : ShipLine = record { line = one.line; bytes = one.bytes } in it in
      subst (λ (bytes : List ℕ). ShipPrintsBy {T = Unit {0}} g.W.Outside bytes c.args.outside.now c.loop-index.outside (Ok tt))
      (ap (λ (these : List ShipLine). head ++ lines_text these) (take_all c.loop-index.index (told at.lines) (omega (arith, many, c.loop-index-test.false, length-map at.lines bare)))
      ∙ ap (λ (first : List ℕ). first ++ lines_text (told at.lines)) (counts c.args.number c.args.entry.now.count at.lines many))
      (c.loop-index.invariant.so_far shown at many);
  bytes = λ shown at many. grind (arith, take_all c.loop-index.index at.lines (omega (arith, many, c.loop-index-test.false)), c.loop-index.invariant.bytes shown at many);
}
