use Rattle.standby.proofs.Common.{elements, rules, All, length, line_bytes}
use Rattle.standby.proofs.Lemmas.{arith, ◌≡◌, ◌<◌, ℕ, List, [], refl, subst, sym, ◌∙◌, ap, on_ok, RecordLine, ShipPrintsBy, broken, feeds, line_line, prints_unput, shows_asks, shows_on, shows_line, by_put, prints_by, quiet_by}
use Rattle.standby.proofs.shipping.put_one.Goals as goal

pub returns : goal.returns
returns g c = record {
  bytes =
      on_ok c.put_line.result
      (λ shown at many one there.
      let read = c.in-Ok.ensures.read shown.told at (sym many) in
      let same : read.one ≡ one = cc in
      let are : c.line_at.new.into ≡ one.bytes = read.bytes_are ∙ ap (λ (that : RecordLine). that.bytes) same in
      subst (λ (bytes : List ℕ). (length bytes ≡ line_bytes c.args.durable.now.header.directory.page) × All (λ byte. byte < 256) bytes) are (grind (arith, elements)));
  goes = grind (arith, shows_on g.W.Outside g.met.W.Outside.fewer_later c.args.outside.now c.line_at.new.outside c.put_line.new.outside (shows_asks g.W.Outside c.args.outside.now c.line_at.new.outside c.line_at.ensures.asks) (shows_line g.W.Outside c.as_slice.result.now c.line_at.new.outside c.put_line.new.outside _ c.put_line.ensures.puts));
  prints = λ shown at many one there.
      let G = g.W.Outside in let read = c.in-Ok.ensures.read shown.told at (sym many) in
      let same : read.one ≡ one = cc in
      let text : c.as_slice.result.now ≡ line_line one.line one.bytes =
      c.as_slice.ensures ∙ c.fill_line.ensures.text ∙ ap (λ (n : ℕ). line_line n c.line_at.new.into) read.number ∙ ap (λ (bytes : List ℕ). line_line read.one.line bytes) read.bytes_are ∙ ap (λ (that : RecordLine). line_line that.line that.bytes) same in
      subst (λ (bytes : List ℕ). ShipPrintsBy G bytes c.args.outside.now c.put_line.new.outside c.put_line.result) text
      (prints_by G c.args.outside.now c.line_at.new.outside c.put_line.new.outside [] c.as_slice.result.now c.put_line.result (quiet_by G c.args.outside.now c.line_at.new.outside c.line_at.ensures.asks.calls)
      (by_put G c.as_slice.result.now c.line_at.new.outside c.put_line.new.outside c.put_line.result (ap feeds c.as_slice.ensures ∙ c.fill_line.ensures.one) c.put_line.ensures.puts));
}

pub returns-in-Err : goal.returns-in-Err
returns-in-Err g c = record {
  bytes = search rules;
  goes = grind (arith, shows_asks g.W.Outside c.args.outside.now c.line_at.new.outside c.line_at.ensures.asks);
  prints = λ shown at many one there.
      prints_unput (g.W.Outside.printed c.args.outside.now) (g.W.Outside.printed c.line_at.new.outside) (line_line one.line one.bytes) broken refl c.line_at.ensures.asks.calls.quiet.same;
}
