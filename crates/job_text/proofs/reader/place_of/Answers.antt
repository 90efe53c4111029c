use Rattle.job_text.proofs.Common.{sym, ◌∙◌, bytes_eq}
use Rattle.asm_parse.proofs.OperandLemmas.{position_mapped}
use Rattle.job_text.proofs.reader.place_of.Goals as goal

pub returns-clause-value : goal.returns-clause-value
returns-clause-value c =
    c.first_named.ensures.value ∙ sym (position_mapped (λ name. bytes_eq name c.args.word.now) (λ name. name.items) c.args.names.now)
