use Rattle.job_text.proofs.Common.{◌≡◌, ◌+◌, ◌++◌, drop, flat_map, token_line, windows_tokens}
use Rattle.job_text.proofs.writer.put_windows.Given as goal

abbrev pub invariant-loop-window : goal.invariant-loop-window
invariant-loop-window l = record {
  number : l.register ≡ l.window-index + 1;
  so_far : l.text.items ++ flat_map token_line (windows_tokens l.register (drop l.window-index l.windows)) ≡ l.initial.text.items ++ flat_map token_line (windows_tokens 1 l.windows);
}
