use Rattle.job_text.proofs.Common.{◌≡◌, ◌++◌, codes, map, take, flat_map, token_line, number_line}
use Rattle.job_text.proofs.writer.put_bytes.Given as goal

abbrev pub invariant-loop-byte : goal.invariant-loop-byte
invariant-loop-byte l = l.text.items ≡ l.initial.text.items ++ flat_map token_line (map (number_line (codes ".byte")) (take l.byte-index l.bytes))
