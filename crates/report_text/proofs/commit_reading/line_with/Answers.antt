use Rattle.report_text.proofs.Lemmas.{not_both, without_feed}
use Rattle.report_text.proofs.commit_reading.line_with.Goals as goal

pub returns-else-are_bytes_of : goal.returns-else-are_bytes_of
returns-else-are_bytes_of c = λ line is numbers bytes text.
    let told = c.guess-line.ensures.is line is (without_feed line c.args.text.now text) numbers bytes in
    not_both c.are_bytes_of.result c.if-are_bytes_of.false (c.are_bytes_of.ensures.1 (rw told (is.1, text)))
