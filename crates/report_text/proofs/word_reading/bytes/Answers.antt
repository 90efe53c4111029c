use Rattle.report_text.proofs.Lemmas.{◌≡◌, ◌≢◌, List, [], ℕ, ◌<◌, ◌∙◌, inl, inr, All, printed, decoded, undecoded}
use Rattle.std.proofs.lemmas.Result.{IfOk-weaker}
use Rattle.hex.specs.declared.error.FromHexError.TheVariants.{OutOfMemory}
use Rattle.report_text.proofs.word_reading.bytes.Goals as goal

pub returns-in-Ok : goal.returns-in-Ok
returns-in-Ok c = λ out all text. decoded c.args.word.now c.in-Ok.bytes.items out all c.in-Ok.ensures.ok text

pub returns-in-Err : goal.returns-in-Err
returns-in-Err c = IfOk-weaker c.no_bytes.result
    (λ bytes. (bytes.items ≡ []) × (c.in-Err.fault ≢ OutOfMemory))
    (λ bytes. (out : List ℕ) → All (λ byte. byte < 256) out → c.args.word.now ≡ printed out → bytes.items ≡ out)
    (λ bytes told. λ out all text. told.0 ∙ undecoded c.args.word.now out c.in-Err.fault all
    (elim c.in-Err.ensures.err [ inl memory ↦ absurd (told.1 memory) | inr fault ↦ fault ]) text)
    c.no_bytes.ensures
