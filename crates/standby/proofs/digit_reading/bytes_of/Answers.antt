use Rattle.standby.proofs.Common.{arith}
use Rattle.standby.proofs.Lemmas.{All, MatchOption, decode_of, encode_lower, ◌≡◌, ◌≢◌, ◌<◌, List, ℕ, None, sym, ap, ◌∙◌, inl, inr, decodes}
use Rattle.std.proofs.lemmas.Result.{IfOk-weaker}
use Rattle.hex.specs.declared.error.FromHexError.TheVariants.{OutOfMemory}
use Rattle.standby.proofs.digit_reading.bytes_of.Goals as goal

pub returns-else-branch : goal.returns-else-branch
returns-else-branch c = λ held all is.
    let whole = sym c.in-Ok.ensures.ok ∙ ap decode_of is ∙ decodes held all in
    let items : c.in-Ok.bytes.items ≡ held = cc in
    let written = c.in_ok-is_written-in-Ok.ensures.written.1 (is ∙ ap encode_lower (sym items) ∙ ap encode_lower (sym c.as_slice.ensures.value)) in
    let no_one : ⊥ = cc in
    no_one

pub returns-then-branch : goal.returns-then-branch
returns-then-branch c = grind (arith, c.in_ok-is_written-in-Ok.ensures.written.0 c.if-branch.true, c.as_slice.ensures.value, c.is_written.ensures.small)

pub returns-in-Err : goal.returns-in-Err
returns-in-Err c = IfOk-weaker c.no_bytes.result
    (λ found. (found ≡ None) × (c.in-Err.fault ≢ OutOfMemory))
    (λ found. MatchOption found ((held : List ℕ) → All (λ byte. byte < 256) held → c.args.digits.now ≢ encode_lower held) (λ held. (c.args.digits.now ≡ encode_lower held.items) × All (λ byte. byte < 256) held.items))
    (λ found told. rw told.0 (λ held all is.
    let whole = ap decode_of is ∙ decodes held all in
    elim c.in-Err.ensures.err [ inl memory ↦ absurd (told.1 memory) | inr fault ↦ cc ]))
    c.no_bytes.ensures
