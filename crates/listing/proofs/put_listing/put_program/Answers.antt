use Rattle.listing.proofs.Common.{◌≡◌, ◌+◌, ℕ, List, length, ◌++◌, rules, ap, subst, ◌∙◌, count_by, is_some, div_ceil, PutsTimes, program_line, window_lines, row_lines}
use Rattle.listing.proofs.PutsLemmas.{done, puts_on, puts_same, puts_stop, times_on}
use Rattle.listing.proofs.put_listing.put_program.Goals as goal

pub returns-in_err-put-clause-puts : goal.returns-in_err-put-clause-puts
returns-in_err-put-clause-puts g c =
    let program = c.args.program.now in
    let first = program_line c.args.name.now program.image program.entry in
    let line : c.as_slice.result.now ≡ first = c.as_slice.ensures ∙ c.program_text.ensures in
    puts_stop g.W.Outside c.args.outside.now c.put.new.outside (first ++ window_lines program.windows) (row_lines 0 program.image) c.from_residual.result c.from_residual.result c.from_residual.ensures.0 c.from_residual.ensures.0
    (puts_stop g.W.Outside c.args.outside.now c.put.new.outside first (window_lines program.windows) c.put.result c.from_residual.result (search rules) c.from_residual.ensures.0
    (puts_same g.W.Outside c.args.outside.now c.put.new.outside c.as_slice.result.now first c.put.result line c.put.ensures.puts))

pub returns-in_err-put_windows-clause-puts : goal.returns-in_err-put_windows-clause-puts
returns-in_err-put_windows-clause-puts g c =
    let program = c.args.program.now in
    let first = program_line c.args.name.now program.image program.entry in
    let line : c.as_slice.result.now ≡ first = c.as_slice.ensures ∙ c.program_text.ensures in
    puts_stop g.W.Outside c.args.outside.now c.put_windows.new.outside (first ++ window_lines program.windows) (row_lines 0 program.image) c.put_windows.result c.from_residual-in_err-put_windows.result (search rules) c.from_residual-in_err-put_windows.ensures.0
    (puts_on g.W.Outside g.met.W.Outside.fewer_later c.args.outside.now c.put.new.outside c.put_windows.new.outside first (window_lines program.windows) tt c.put_windows.result
    (puts_same g.W.Outside c.args.outside.now c.put.new.outside c.as_slice.result.now first done line c.in_ok-put.ensures.puts) c.put_windows.ensures.puts)

pub returns-clause-puts : goal.returns-clause-puts
returns-clause-puts g c =
    let program = c.args.program.now in
    let first = program_line c.args.name.now program.image program.entry in
    let line : c.as_slice.result.now ≡ first = c.as_slice.ensures ∙ c.program_text.ensures in
    puts_on g.W.Outside g.met.W.Outside.fewer_later c.args.outside.now c.put_windows.new.outside c.put_rows_from.new.outside (first ++ window_lines program.windows) (row_lines 0 program.image) tt c.put_rows_from.result
    (puts_on g.W.Outside g.met.W.Outside.fewer_later c.args.outside.now c.put.new.outside c.put_windows.new.outside first (window_lines program.windows) tt done
    (puts_same g.W.Outside c.args.outside.now c.put.new.outside c.as_slice.result.now first done line c.in_ok-put.ensures.puts) c.in_ok-put_windows.ensures.puts)
    (puts_same g.W.Outside c.put_windows.new.outside c.put_rows_from.new.outside (row_lines 0 c.as_slice-2.result.now) (row_lines 0 program.image) c.put_rows_from.result (ap (row_lines 0) c.as_slice-2.ensures) c.put_rows_from.ensures.puts)

pub returns-clause-times : goal.returns-clause-times
returns-clause-times g c =
    let program = c.args.program.now in
    let first = program_line c.args.name.now program.image program.entry in
    let line : c.as_slice.result.now ≡ first = c.as_slice.ensures ∙ c.program_text.ensures in
    let start = puts_same g.W.Outside c.args.outside.now c.put.new.outside c.as_slice.result.now first done line c.in_ok-put.ensures.puts in
    let both = puts_on g.W.Outside g.met.W.Outside.fewer_later c.args.outside.now c.put.new.outside c.put_windows.new.outside first (window_lines program.windows) tt done start c.in_ok-put_windows.ensures.puts in
    let rows : PutsTimes g.W.Outside (div_ceil (length program.image) 16) c.put_windows.new.outside c.put_rows_from.new.outside c.put_rows_from.result =
    subst (λ (bytes : List ℕ). PutsTimes g.W.Outside (div_ceil (length bytes) 16) c.put_windows.new.outside c.put_rows_from.new.outside c.put_rows_from.result) c.as_slice-2.ensures c.put_rows_from.ensures.times in
    times_on g.W.Outside c.args.outside.now c.put_windows.new.outside c.put_rows_from.new.outside (1 + count_by is_some program.windows) (div_ceil (length program.image) 16) (first ++ window_lines program.windows) tt c.put_rows_from.result both
    (times_on g.W.Outside c.args.outside.now c.put.new.outside c.put_windows.new.outside 1 (count_by is_some program.windows) first tt done start c.in_ok-put.ensures.times c.in_ok-put_windows.ensures.times)
    rows
