use Rattle.store_calls.proofs.Common.{◌≤◌, List, [], ◌∷◌, length, ap, arith, length-append, flat_map, is_commit, ReportLine, line_text, commit_told, length-map, count_by-le-length, length-filter}
use Rattle.report_text.proofs.LineLemmas.{some_bytes}
use Rattle.store_calls.proofs.bundle_parts.report_in.Goals as goal

-- there are no more lines than bytes
few_lines : (lines : List ReportLine) → length lines ≤ length (flat_map line_text lines)
few_lines [] = omega arith
few_lines (line ∷ lines) = omega (arith, some_bytes line, few_lines lines, length-append (line_text line) (flat_map line_text lines))

pub returns-in-Ok-clause-few : goal.returns-in-Ok-clause-few
returns-in-Ok-clause-few c =
    let read = c.in-Ok.ensures in
    omega (arith, few_lines read.lines, ap length read.are.bytes, ap length read.only, length-map c.in-Ok.commits.items commit_told, length-filter is_commit read.lines, count_by-le-length is_commit read.lines)
