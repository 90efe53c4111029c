use Rattle.text_line.proofs.Common.{◌∙◌, parse-decimal, IsAscii-decimal}
use Rattle.std.proofs.lemmas.Str.{IsUtf8-from_ascii}
use Rattle.text_line.proofs.line_words.number.Goals as goal

pub returns-in-Ok : goal.returns-in-Ok
returns-in-Ok c = λ n small is.
    let told = parse-decimal 64 n c.in-Ok.text.now c.parse.result small small (c.in-Ok.ensures.cases.0 ∙ is) c.parse.ensures.value.0 in
    rw told at c.unwrap_or.ensures

pub returns-in-Err : goal.returns-in-Err
returns-in-Err c = λ n small is.
    absurd (c.in-Err.ensures.cases.0 (rw is (IsUtf8-from_ascii _ (IsAscii-decimal n small))))
