use Rattle.report_text.proofs.Lemmas.{◌≡◌, ◌≢◌, ℕ, List, ReportLine, line_text, MayBePut, without_feed}
use Rattle.std.specs.Prelude.{Option, Some, None, Result, Ok, Err, IfOk, MatchOption}
use Rattle.report_text.proofs.Common.{bytes_printed, numbers_in}
use Rattle.report_text.proofs.commit_reading.whole_line.Goals as goal

-- with the lists that a line of this text has to have, none is none
by_lists : {A E : Type 0} (text numbers bytes : List ℕ) (P : A → Type 0) (found : Result (Option A) E)
    → ((line : ReportLine) → MayBePut line → text ≡ line_text line → (numbers ≡ numbers_in line) × (bytes ≡ bytes_printed line))
    → IfOk found (λ one. MatchOption one ((line : ReportLine) → MayBePut line → numbers ≡ numbers_in line → bytes ≡ bytes_printed line → text ≢ line_text line) P)
    → IfOk found (λ one. MatchOption one ((line : ReportLine) → MayBePut line → text ≢ line_text line) P)
by_lists text numbers bytes P (Ok None) lists none = λ line is text_is. let (first, second) = lists line is text_is in none line is first second text_is
by_lists text numbers bytes P (Ok (Some one)) lists told = told
by_lists text numbers bytes P (Err why) lists told = told

pub returns : goal.returns
returns c =
    by_lists c.args.text.now c.in_ok-lists.lists.numbers.items c.in_ok-lists.lists.bytes.items _ c.line_with.result
    (λ line is text. c.in_ok-lists.ensures line is (without_feed line c.args.text.now text)) c.line_with.ensures
