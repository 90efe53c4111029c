use Rattle.listing.proofs.Common.{◌≡◌, ℕ, ◌+◌, ◌*◌, ◌<◌, List, length, get_or, take, drop, rules, arith, ap, subst, ◌∙◌, div_ceil, flat_map, range_with_len, take_all, get_or-range_with_len, length-range_with_len, row_line, PrintsBytes, PutsTimes}
use Rattle.listing.proofs.PutsLemmas.{done, puts_more, puts_no_more, times_on}
use Rattle.listing.proofs.put_listing.put_rows_from.Goals as goal

abbrev line_at : ℕ → List ℕ → ℕ → List ℕ
line_at first bytes row = row_line (first + 16 * row) (take 16 (drop (16 * row) bytes))

-- the row that is put is the one that is due
same_line : (first : ℕ) (bytes : List ℕ) (count row : ℕ) (line part : List ℕ) → row < count → line ≡ row_line (first + 16 * row) part → part ≡ take 16 (drop (16 * row) bytes)
    → line ≡ line_at first bytes (get_or (range_with_len 0 count) row 0)
same_line first bytes count row line part lt is cut =
    is ∙ ap (row_line (first + 16 * row)) cut ∙ ap (line_at first bytes) (omega (arith, get_or-range_with_len 0 count row 0 lt))

pub returns-in_err-put-clause-puts : goal.returns-in_err-put-clause-puts
returns-in_err-put-clause-puts g c =
    let count = div_ceil (length c.args.bytes.now) 16 in
    let lt : c.loop-row.row < count = omega (arith, c.loop-row-test.true, c.div_ceil-row-end.ensures) in
    puts_no_more g.W.Outside g.met.W.Outside.fewer_later (line_at c.args.first c.args.bytes.now) (range_with_len 0 count) c.loop-row.row 0 c.as_slice.result.now
    (omega (arith, lt, length-range_with_len 0 count))
    (same_line c.args.first c.args.bytes.now count c.loop-row.row c.as_slice.result.now c.row_at.result.now lt (c.as_slice.ensures ∙ c.row_text.ensures) c.row_at.ensures.value)
    c.args.outside.now c.loop-row.outside c.put.new.outside tt c.put.result c.from_residual.result (search rules) c.from_residual.ensures.0 c.loop-row.invariant.puts c.put.ensures.puts

pub loop-row-preserved : goal.loop-row-preserved
loop-row-preserved g c =
    let count = div_ceil (length c.args.bytes.now) 16 in
    let lt : c.loop-row.row < count = omega (arith, c.loop-row-test.true, c.div_ceil-row-end.ensures) in
    record {
      puts = puts_more g.W.Outside g.met.W.Outside.fewer_later (line_at c.args.first c.args.bytes.now) (range_with_len 0 count) c.loop-row.row 0 c.as_slice.result.now
          (omega (arith, lt, length-range_with_len 0 count))
          (same_line c.args.first c.args.bytes.now count c.loop-row.row c.as_slice.result.now c.row_at.result.now lt (c.as_slice.ensures ∙ c.row_text.ensures) c.row_at.ensures.value)
          c.args.outside.now c.loop-row.outside c.put.new.outside tt done c.loop-row.invariant.puts c.in_ok-put.ensures.puts;
      times = times_on g.W.Outside c.args.outside.now c.loop-row.outside c.put.new.outside c.loop-row.row 1 _ tt done c.loop-row.invariant.puts c.loop-row.invariant.times c.in_ok-put.ensures.times;
    }

pub returns-clause-puts : goal.returns-clause-puts
returns-clause-puts g c =
    let count = div_ceil (length c.args.bytes.now) 16 in
    subst (λ (rows : List ℕ). PrintsBytes g.W.Outside (flat_map (line_at c.args.first c.args.bytes.now) rows) c.args.outside.now c.loop-row.outside done)
    (take_all c.loop-row.row (range_with_len 0 count) (omega (arith, length-range_with_len 0 count, c.loop-row-test.false, c.div_ceil-row-end.ensures)))
    c.loop-row.invariant.puts

pub returns-clause-times : goal.returns-clause-times
returns-clause-times g c =
    let count = div_ceil (length c.args.bytes.now) 16 in
    let all : c.loop-row.row ≡ count = omega (arith, c.loop-row-test.false, c.div_ceil-row-end.ensures) in
    subst (λ (n : ℕ). PutsTimes g.W.Outside n c.args.outside.now c.loop-row.outside done) all c.loop-row.invariant.times
