-- Runs, one after another.
use Rattle.desk_law.proofs.Common.{◌≡◌, ℕ, ◌+◌, List, [], ◌∷◌, ◌++◌, refl, sym, ap, ◌∙◌, append_assoc, cond, not, flat_map, sum_by-append, Program, Event, Desk, DiskWord, run, step, is_fine, faulted, OpenBeforeEach, ReportLine, Open, line_text, number_after, happening_lines, closing_lines, run_lines, report, event_lines, arith, nat_tests, flat_map-append}

module _ (programs : List Program) where
  pub run_on : (xs ys : List (Event × DiskWord)) (desk : Desk) → run programs (xs ++ ys) desk ≡ run programs ys (run programs xs desk)
  run_on [] ys desk = refl
  run_on (x ∷ xs) ys desk = run_on xs ys (step programs x.0 x.1 desk).desk

  pub open_on : (xs ys : List (Event × DiskWord)) (desk : Desk) → OpenBeforeEach programs xs desk → OpenBeforeEach programs ys (run programs xs desk) → OpenBeforeEach programs (xs ++ ys) desk
  open_on [] ys desk one two = two
  open_on (x ∷ xs) ys desk one two = (one.0, open_on xs ys (step programs x.0 x.1 desk).desk one.1 two)

  module _ (names : List (List ℕ)) (number : ℕ) where
    pub lines_on : (xs ys : List (Event × DiskWord)) (desk : Desk) → event_lines names programs number (xs ++ ys) desk ≡ event_lines names programs number xs desk ++ event_lines names programs number ys (run programs xs desk)
    lines_on [] ys desk = refl
    lines_on (x ∷ xs) ys desk =
        let after = step programs x.0 x.1 desk in
        let here = happening_lines names (number_after number after.desk) after.happening in
        ap (λ (rest : List ReportLine). here ++ rest) (lines_on xs ys after.desk) ∙ sym (append_assoc here (event_lines names programs number xs after.desk) (event_lines names programs number ys (run programs xs after.desk)))

    pub lines_end : (xs : List (Event × DiskWord)) (left : List Event) (desk : Desk) → run_lines names programs number xs left desk ≡ event_lines names programs number xs desk ++ closing_lines number left (run programs xs desk)
    lines_end [] left desk = refl
    lines_end (x ∷ xs) left desk =
        let after = step programs x.0 x.1 desk in
        let here = happening_lines names (number_after number after.desk) after.happening in
        ap (λ (rest : List ReportLine). here ++ rest) (lines_end xs left after.desk) ∙ sym (append_assoc here (event_lines names programs number xs after.desk) (closing_lines number left (run programs xs after.desk)))

    -- a report is the open line, the lines of the events and those of the end
    pub report_parts : (xs : List (Event × DiskWord)) (left : List Event) (desk : Desk) → report names programs number xs left desk ≡ line_text (Open number) ++ (flat_map line_text (event_lines names programs number xs desk) ++ flat_map line_text (closing_lines number left (run programs xs desk)))
    report_parts xs left desk = grind (arith, nat_tests, lines_end, flat_map-append)

pub faulted_on : (xs ys : List (Event × DiskWord)) → faulted (xs ++ ys) ≡ faulted xs + faulted ys
faulted_on xs ys = sum_by-append (λ (event : Event × DiskWord). cond (not (is_fine event.1)) 1 0) xs ys
