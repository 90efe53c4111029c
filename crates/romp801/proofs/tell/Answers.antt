use Rattle.std.proofs.Common.{◌≡◌, ◌++◌, [], ◌∷◌, ℕ, zero, suc, List, take, Result, Ok, Err, OnErr, refl, ◌∙◌, ap, append_assoc}
use Rattle.std.proofs.lemmas.Result.{on_err_weaker}
use Rattle.call_status.specs.Statuses.{error_text}
use Rattle.real_files.specs.Deeds.{Deed, Wrote, Tore}
use Rattle.real_files.specs.Shown.{printed_of}
use Rattle.real_files.specs.ShownLaws.{printed_of-more}
use Rattle.romp801.proofs.tell.Goals as goal

-- a first part of a text is one of the text with a line feed, and so is the text with a first part of the line feed
part : (text : List ℕ) (count : ℕ) → (x : ℕ) × (take count text ≡ take x (text ++ 10 ∷ []))
part text zero = (0, refl)
part [] (suc count) = (0, refl)
part (byte ∷ text) (suc count) = let its = part text count in (suc its.0, ap (λ (rest : List ℕ). byte ∷ rest) its.1)

whole : (text : List ℕ) (count : ℕ) → (x : ℕ) × (text ++ take count (10 ∷ []) ≡ take x (text ++ 10 ∷ []))
whole [] count = (count, refl)
whole (byte ∷ text) count = let its = whole text count in (suc its.0, ap (λ (rest : List ℕ). byte ∷ rest) its.1)

on_err : {T E P : Type 0} (result : Result T E) → P → OnErr result P
on_err (Ok done) it = tt
on_err (Err failed) it = it

pub returns-in_err-put-clause-failed : goal.returns-in_err-put-clause-failed
returns-in_err-put-clause-failed g c =
    let puts = g.R.RawScreen.puts c.args.screen.now in
    let failed = c.in_err-put.ensures.failed in
    let bytes = c.as_bytes.result.now in
    let its = part bytes failed.0 in
    let same : bytes ≡ error_text c.args.status.now = c.as_bytes.ensures.value ∙ c.as_str.ensures.value ∙ c.status_text.ensures.text in
    on_err c.from_residual.result (
      its.0,
      ap printed_of failed.1 ∙ printed_of-more puts (Tore 0 (take failed.0 bytes)) ∙ ap (λ (those : List ℕ). printed_of puts ++ those) its.1
          ∙ ap (λ (text : List ℕ). printed_of puts ++ take its.0 (text ++ 10 ∷ [])) same,
    )

pub returns-clause-failed : goal.returns-clause-failed
returns-clause-failed g c =
    let puts = g.R.RawScreen.puts c.args.screen.now in
    let bytes = c.as_bytes.result.now in
    let same : bytes ≡ error_text c.args.status.now = c.as_bytes.ensures.value ∙ c.as_str.ensures.value ∙ c.status_text.ensures.text in
    let first = c.in_ok-put.ensures.done in
    on_err_weaker c.put-2.result (λ failed.
    let its = whole bytes failed.0 in (
      its.0,
      ap printed_of failed.1 ∙ printed_of-more (g.R.RawScreen.puts c.put.new.self) (Tore 0 (take failed.0 (10 ∷ [])))
          ∙ ap (λ (those : List Deed). printed_of those ++ take failed.0 (10 ∷ [])) first
          ∙ ap (λ (those : List ℕ). those ++ take failed.0 (10 ∷ [])) (printed_of-more puts (Wrote 0 bytes))
          ∙ append_assoc (printed_of puts) bytes (take failed.0 (10 ∷ []))
          ∙ ap (λ (those : List ℕ). printed_of puts ++ those) its.1
          ∙ ap (λ (text : List ℕ). printed_of puts ++ take its.0 (text ++ 10 ∷ [])) same,
    ))
    c.put-2.ensures.failed
