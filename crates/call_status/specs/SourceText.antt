-- What reading a source to its end does to the bytes that it tells.
use Rattle.std.specs.Prelude.{◌≡◌, ℕ, ◌+◌, ◌≤◌, ⊤, List, length, Option}
use Rattle.std.specs.Io.KnownBytes.{Consumes, IsAtEnd}
use Rattle.call_status.specs.declared.source_text.TextFault.{TextFault}
use Rattle.call_status.specs.declared.source_text.TextFault.TheVariants.{Source, TooBig, Memory}

-- the text is all that was left, at most so many bytes, and nothing is left now
pub record IsAll (most : ℕ) (before now : Option (List ℕ)) (text : List ℕ) : Type 0 where
  pub few : length text ≤ most
  pub all : Consumes before now text
  pub none : IsAtEnd now

-- the text of a job: at most 1,048,576 bytes
abbrev pub IsWholeText : Option (List ℕ) → Option (List ℕ) → List ℕ → Type 0
IsWholeText = IsAll 1048576

-- the text of a bundle: at most 33,554,432 bytes
abbrev pub IsWholeBundle : Option (List ℕ) → Option (List ℕ) → List ℕ → Type 0
IsWholeBundle = IsAll 33554432

-- so many bytes were read
abbrev pub HasRead : Option (List ℕ) → Option (List ℕ) → ℕ → Type 0
HasRead before now count = (front : List ℕ) × (length front ≡ count) × Consumes before now front

-- why there is no text: the source failed, or gave a byte more than so many and no further one was read, or there is no memory
abbrev pub IsWhy : ℕ → TextFault → Option (List ℕ) → Option (List ℕ) → Type 0 → Type 0
IsWhy most Source before now rose = rose
IsWhy most TooBig before now rose = HasRead before now (most + 1)
IsWhy most Memory before now rose = ⊤
