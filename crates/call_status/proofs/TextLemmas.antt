-- What was read of a source that tells its bytes.
use Rattle.std.proofs.Common.{◌≡◌, ◌⊎◌, ◌+◌, ◌≤◌, ◌++◌, ℕ, List, length, sym, ◌∙◌, ap, arith, inr}
use Rattle.std.specs.Prelude.{Option, Some, None}
use Rattle.std.specs.Io.KnownBytes.{Consumes, IsAtEnd}
use Rattle.std.proofs.lemmas.List.{append-nil, length-append}
use Rattle.call_status.specs.SourceText.{IsWhy}
use Rattle.call_status.specs.Statuses.{status_of_text}
use Rattle.call_status.specs.declared.source_text.TextFault.{TextFault}
use Rattle.call_status.specs.declared.source_text.TextFault.TheVariants.{Source, TooBig, Memory}
use Rattle.call_status.specs.declared.status.Status.{Status}
use Rattle.call_status.specs.declared.status.Status.TheVariants as status

-- all that a source had is what was read to its end, and no more can be
pub read_whole : (left left_now : Option (List ℕ)) (had text : List ℕ) → left ≡ Some had → Consumes left left_now text → IsAtEnd left_now → text ≡ had
read_whole None left_now had text has all end = cc
read_whole (Some bytes) None had text has all end = absurd all
read_whole (Some bytes) (Some rest) had text has all end =
    let same : bytes ≡ had = cc in
    sym (append-nil text) ∙ ap (λ (those : List ℕ). text ++ those) (sym end) ∙ sym all ∙ same

pub too_much : (left left_now : Option (List ℕ)) (had front : List ℕ) (most : ℕ) → left ≡ Some had → length had ≤ most → length front ≡ most + 1 → Consumes left left_now front → ⊥
too_much None left_now had front most has few many all = cc
too_much (Some bytes) None had front most has few many all = all
too_much (Some bytes) (Some rest) had front most has few many all =
    let same : bytes ≡ had = cc in
    omega (arith, few, many, ap length all, length-append front rest, ap length same)

-- why there is no text is want of memory, where the source didn't fail and has no more bytes than may be read
pub text_fails : (most : ℕ) (why : TextFault) (left left_now : Option (List ℕ)) (rose : Type 0) (had : List ℕ) (now : Status) → left ≡ Some had → length had ≤ most → IsWhy most why left left_now rose → (rose → ⊥) → now ≡ status_of_text why
    → (now ≡ status.Done) ⊎ (now ≡ status.NoMemory)
text_fails most Source left left_now rose had now has few is calm same = absurd (calm is)
text_fails most TooBig left left_now rose had now has few is calm same = absurd (too_much left left_now had is.0 most has few is.1 is.2)
text_fails most Memory left left_now rose had now has few is calm same = inr same
