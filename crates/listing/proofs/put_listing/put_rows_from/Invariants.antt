use Rattle.listing.proofs.Common.{◌+◌, ◌*◌, length, take, drop, div_ceil, flat_map, range_with_len, row_line, PrintsBytes, PutsTimes}
use Rattle.listing.proofs.PutsLemmas.{done}
use Rattle.listing.proofs.put_listing.put_rows_from.Given as goal

-- the rows so far are put
abbrev pub invariant-loop-row : goal.invariant-loop-row
invariant-loop-row g l =
    record {
      puts : PrintsBytes g.W.Outside
          (flat_map (λ row. row_line (l.first + 16 * row) (take 16 (drop (16 * row) l.bytes))) (take l.row (range_with_len 0 (div_ceil (length l.bytes) 16))))
          l.initial.outside l.outside done;
      times : PutsTimes g.W.Outside l.row l.initial.outside l.outside done;
    }
