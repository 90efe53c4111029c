use Rattle.report_text.proofs.Common.{◌≡◌, ◌+◌, ◌≤◌, ◌++◌, List, length, map, filter, All, flat_map, is_commit, line_text, MayBePut, commit_told, ReportLine}
use Rattle.report_text.proofs.commit_reading.read_commits.Given as goal

abbrev pub invariant-loop-left : goal.invariant-loop-left
invariant-loop-left l = record {
  lines : List ReportLine;
  text : l.text ≡ flat_map line_text lines ++ l.left;
  are : All MayBePut lines;
  only : map commit_told l.commits.items ≡ filter is_commit lines;
  place : l.number ≡ length lines + 1;
  few : l.number + length l.left ≤ length l.text + 1;
}

abbrev pub decreases-loop-left : goal.decreases-loop-left
decreases-loop-left l = length l.left
