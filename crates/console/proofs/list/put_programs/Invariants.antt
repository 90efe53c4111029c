use Rattle.console.proofs.Common.{take, Program, flat_map, zip, sum_by, listing_of, lines_in, PrintsBytes, PutsTimes, done, content_of}
use Rattle.console.proofs.list.put_programs.Given as goal

-- the listings so far are put
abbrev pub invariant-loop-index : goal.invariant-loop-index
invariant-loop-index g l =
    record {
      puts : PrintsBytes g.W.Outside (flat_map (λ named. listing_of named.0 named.1.image named.1.entry named.1.windows) (take l.index (zip (content_of l.job).names (content_of l.job).programs))) l.initial.outside l.outside done;
      times : PutsTimes g.W.Outside (sum_by (λ (program : Program). lines_in program.image program.windows) (take l.index l.job.programs.items)) l.initial.outside l.outside done;
    }
