use Rattle.report_text.proofs.Lemmas.{sym, ◌∙◌, no_line, up_to_feed}
use Rattle.report_text.proofs.commit_reading.next_line.Goals as goal

pub returns-in-None : goal.returns-in-None
returns-in-None c = λ line behind is text.
    no_line line behind c.args.text.now is (sym c.place_of.ensures.value ∙ c.in-None.is) text

pub returns-in-None-2 : goal.returns-in-None-2
returns-in-None-2 c = λ line behind is text.
    let none = rw c.in-None-2.is at c.in_ok-told-in-Some.ensures in
    none line is (up_to_feed line behind c.args.text.now c.in-Some.at is (sym c.place_of.ensures.value ∙ c.in-Some.is) text)
