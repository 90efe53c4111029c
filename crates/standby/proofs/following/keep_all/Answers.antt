use Rattle.standby.proofs.Common.{rules}
use Rattle.standby.proofs.Lemmas.{arith, ◌≡◌, length, map, sym, ◌∙◌, ap, length-map, line_bytes, store_number, closing_line, later, record_of, goes_puts, goes_on, ended, not_done, stopped_early, on_ok}
use Rattle.standby.proofs.following.keep_all.Goals as goal

pub returns-in-Err : goal.returns-in-Err
returns-in-Err g c = record {
  goes = search rules;
  kept = search rules;
  follows = λ store tracks stood.
      stopped_early g.W.Outside g.met.W.Outside.fewer_later g.met.W.Outside.printed_now (line_bytes c.args.durable.now.header.directory.page) (store_number c.args.durable.now) store (map (record_of (line_bytes c.args.durable.now.header.directory.page)) c.args.records.now) c.keep_each.new.durable c.args.outside.now c.keep_each.new.outside c.in-Err.why
      (not_done c.in-Err.why c.in-Err.ensures.goes.stopped) (c.in-Err.ensures.keeps store tracks stood);
}

pub returns : goal.returns
returns g c = record {
  goes = grind (arith, goes_on g.W.Outside g.met.W.Outside.fewer_later c.args.outside.now c.keep_each.new.outside c.put_line.new.outside c.keep_each.ensures.goes.only (goes_puts g.W.Outside c.as_slice.result.now c.keep_each.new.outside c.put_line.new.outside _ c.put_line.ensures.puts));
  kept = on_ok c.put_line.result c.in-Ok.ensures.kept;
  follows = λ store tracks stood.
      let all = map (record_of (line_bytes c.args.durable.now.header.directory.page)) c.args.records.now in
      let number : c.number.result ≡ later (store_number c.args.durable.now) (length all) = c.number.ensures ∙ c.in-Ok.ensures.number ∙ ap (later (store_number c.args.durable.now)) (sym (length-map c.args.records.now (record_of (line_bytes c.args.durable.now.header.directory.page)))) in
      ended g.W.Outside g.met.W.Outside.fewer_later g.met.W.Outside.printed_now (line_bytes c.args.durable.now.header.directory.page) (store_number c.args.durable.now) store all c.keep_each.new.durable c.args.outside.now c.keep_each.new.outside c.put_line.new.outside
      c.keep_each.ensures.goes.only.time (c.in-Ok.ensures.keeps store tracks stood) c.as_slice.result.now c.put_line.result (c.as_slice.ensures ∙ c.fill_end.ensures ∙ ap closing_line number) c.put_line.ensures.only c.put_line.ensures.puts;
}
