use Rattle.report_text.proofs.Lemmas.{◌∙◌, address_is}
use Rattle.report_text.proofs.word_reading.address.Goals as goal

pub returns : goal.returns
returns c = λ n small is. c.read_u32.ensures ∙ address_is c.args.word.now c.decode_to_slice.new.out n _ _ small is c.decode_to_slice.ensures.value
