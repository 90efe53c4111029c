use Rattle.job_text.proofs.Common.{◌≡◌, ◌++◌, length, map, take, All, flat_map, zip, parts_of, AreBytes, token_line, program_lines}
use Rattle.job_text.proofs.writer.put_programs.Given as goal

abbrev pub invariant-loop-name : goal.invariant-loop-name
invariant-loop-name l = record {
  bytes : All (λ program. AreBytes program.1.image) (take (length l.yielded) (zip (map (λ name. name.items) l.names) (map parts_of l.programs)));
  lines : l.text.items ≡ l.initial.text.items ++ flat_map token_line (flat_map program_lines (take (length l.yielded) (zip (map (λ name. name.items) l.names) (map parts_of l.programs))));
}
