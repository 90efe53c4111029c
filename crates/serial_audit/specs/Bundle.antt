-- A bundle: a first line with four lengths, and behind it so many bytes of a job, of a report, of an opening store and of a closing store.
use Rattle.std.specs.Prelude.{◌≡◌, ◌≢◌, ℕ, ◌+◌, ◌≤◌, ◌⊎◌, List, [], ◌∷◌, ◌++◌, length, codes, decimal, Option, MatchOption}
use Rattle.desk.specs.ReportLines.{spaced}
use Rattle.report_text.specs.Words.{AreWordsOf}
use Rattle.serial_audit.specs.declared.bundle.Bundle.{Bundle}
use Rattle.serial_audit.specs.declared.bundle.Lengths.{Lengths}

-- the four lengths of a bundle
pub record Sizes : Type 0 where
  pub job : ℕ
  pub report : ℕ
  pub opening : ℕ
  pub closing : ℕ

-- the words of the first line
abbrev pub head_words : Sizes → List (List ℕ)
head_words sizes =
    codes "audit" ∷ decimal sizes.job ∷ decimal sizes.report ∷ decimal sizes.opening ∷ decimal sizes.closing ∷ []

-- the first line
abbrev pub head_text : Sizes → List ℕ
head_text sizes = spaced (head_words sizes)

-- a job has at most 1,048,576 bytes, and each other part 33,554,432
abbrev pub AreAllowed : Sizes → Type 0
AreAllowed sizes = (sizes.job ≤ 1048576) × (sizes.report ≤ 33554432) × (sizes.opening ≤ 33554432) × (sizes.closing ≤ 33554432)

-- bytes begin with a first line of allowed lengths, and have these behind it
abbrev pub HasHead : List ℕ → Sizes → List ℕ → Type 0
HasHead bytes sizes rest = AreAllowed sizes × (bytes ≡ head_text sizes ++ rest)

-- all bytes of the four parts
abbrev pub parts_size : Sizes → ℕ
parts_size sizes = sizes.job + sizes.report + sizes.opening + sizes.closing

-- the places of the parts, one behind the other, from a place on
abbrev pub bundle_from : ℕ → Sizes → Bundle
bundle_from begin sizes =
    record {
      job = record { from = begin; to = begin + sizes.job };
      report = record { from = begin + sizes.job; to = begin + sizes.job + sizes.report };
      opening = record { from = begin + sizes.job + sizes.report; to = begin + sizes.job + sizes.report + sizes.opening };
      closing = record { from = begin + sizes.job + sizes.report + sizes.opening; to = begin + parts_size sizes };
    }

-- bytes are a bundle whose parts lie so
pub record IsBundle (bytes : List ℕ) (bundle : Bundle) : Type 0 where
  pub sizes : Sizes
  pub rest : List ℕ
  pub head : HasHead bytes sizes rest
  pub all : length rest ≡ parts_size sizes
  pub parts : bundle ≡ bundle_from (length (head_text sizes)) sizes

-- what is wrong with bytes that are no bundle: 0 where they begin with no first line, and 5 where the bytes behind it aren't as many as the lengths say
abbrev pub IsWrongAt : List ℕ → ℕ → Type 0
IsWrongAt bytes part =
    ((part ≡ 0) × ((sizes : Sizes) (rest : List ℕ) → ¬ (HasHead bytes sizes rest)))
    ⊎ ((part ≡ 5) × ((sizes : Sizes) × (rest : List ℕ) × HasHead bytes sizes rest × (length rest ≢ parts_size sizes)))

-- bytes are a bundle in one way at most, and of a bundle no part is wrong
pub record HasOneSplitting : Type 0 where
  pub one : (bytes : List ℕ) (first second : Bundle) → IsBundle bytes first → IsBundle bytes second → first ≡ second
  pub whole : (bytes : List ℕ) (bundle : Bundle) (part : ℕ) → IsBundle bytes bundle → ¬ (IsWrongAt bytes part)

-- the four lengths
abbrev pub sizes_of : Lengths → Sizes
sizes_of lengths = record { job = lengths.job; report = lengths.report; opening = lengths.opening; closing = lengths.closing }

-- where a line is the words of a first line with allowed lengths, these are they
abbrev pub TellsSizes : (line : List ℕ) → Sizes → Type 0
TellsSizes line told = (sizes : Sizes) → AreAllowed sizes → AreWordsOf line (head_words sizes) → told ≡ sizes

-- parts of these sizes, one behind the other from a place on, if they end at this end
abbrev pub LieFrom : (begin end : ℕ) → Sizes → Option Bundle → Type 0
LieFrom begin end sizes found =
    MatchOption found (begin + parts_size sizes ≢ end) (λ bundle. (begin + parts_size sizes ≡ end) × (bundle ≡ bundle_from begin sizes))
