-- The store that bytes in memory are, and what the parts of a bundle are, and the first that is wrong.
use Rattle.std.specs.Prelude.{◌≡◌, ℕ, ◌-◌, ◌≤◌, ◌⊎◌, List, length, Option, Some, Ok, Err}
use Rattle.store_calls.specs.Below.{AreCommitsOf, Bundle, bytes_at, CommitLine, Given, HasRead, IsFaultAt, IsFirstBadLine, IsStanding, IsWholeBundle, Job, KeptStore, Rose, Status, byte_count, flat_of, Stands, stands}
use Rattle.job_text.specs.Grammar.{Content, content_of, job_of}
use Rattle.serial_audit.specs.Bundle.{IsBundle, IsWrongAt}
use Rattle.serial_audit.specs.declared.bundle.Span.{Span}
use Rattle.call_status.specs.declared.status.Status.TheVariants as status
use Rattle.call_status.specs.Reading.{IsSomeJob}
use Rattle.store.specs.declared.open_fault.OpenFault.{OpenFault}
use Rattle.store.specs.declared.open_fault.OpenFault.TheVariants as open_fault
use Rattle.store_calls.specs.declared.kept.KeptFault.{KeptFault}
use Rattle.store_calls.specs.declared.kept.KeptFault.TheVariants.{At, Memory}

-- the bytes stand for a kept store, which has as many bytes as its segments
pub record StandsForKept (bytes : List ℕ) (kept : KeptStore) : Type 0 where
  pub stood : stands bytes ≡ Stands kept.number (flat_of kept)
  pub whole : length kept.store.items ≡ byte_count kept.directory

-- the fault of an opening
abbrev pub kept_fault : OpenFault → KeptFault
kept_fault (open_fault.NotAStore offset) = At offset
kept_fault (open_fault.Damaged offset) = At offset
kept_fault _ = Memory

-- why there is none: the bytes stand for nothing, from an offset on, or there is no memory
abbrev pub IsWhyNone : List ℕ → KeptFault → Type 0
IsWhyNone bytes (At offset) = IsFaultAt bytes offset
IsWhyNone bytes Memory = Unit {0}

-- the bytes of a part
abbrev pub bundle_part : List ℕ → Span → List ℕ
bundle_part bytes span = bytes_at bytes span.from (span.to - span.from)

-- A bundle's text, its parts in their places: its job means this one, its report has these commit lines, and its opening store is this one.
pub record AreBundleParts (bytes : List ℕ) (bundle : Bundle) (job : Job) (report : List CommitLine) (opening : KeptStore) : Type 0 where
  pub parts : IsBundle bytes bundle
  pub job_is : job_of (bundle_part bytes bundle.job) ≡ Ok (content_of job)
  pub report_is : AreCommitsOf (bundle_part bytes bundle.report) report
  pub opening_is : StandsForKept (bundle_part bytes bundle.opening) opening

-- its job is none, at this line and for a reason of this kind
pub record IsNoJob (bytes : List ℕ) (line kind : ℕ) : Type 0 where
  pub bundle : Bundle
  pub parts : IsBundle bytes bundle
  pub fault : job_of (bundle_part bytes bundle.job) ≡ Err (line, kind)

-- its job is one, and this line of its report is the first that is none
pub record IsBadReport (bytes : List ℕ) (number : ℕ) : Type 0 where
  pub bundle : Bundle
  pub parts : IsBundle bytes bundle
  pub content : Content
  pub job_is : job_of (bundle_part bytes bundle.job) ≡ Ok content
  pub bad : IsFirstBadLine (bundle_part bytes bundle.report) number

-- its job and its report are some, and its opening store stands for nothing from this offset on
pub record IsBadOpening (bytes : List ℕ) (offset : ℕ) : Type 0 where
  pub bundle : Bundle
  pub parts : IsBundle bytes bundle
  pub content : Content
  pub job_is : job_of (bundle_part bytes bundle.job) ≡ Ok content
  pub report : List CommitLine
  pub report_is : AreCommitsOf (bundle_part bytes bundle.report) report
  pub fault : IsFaultAt (bundle_part bytes bundle.opening) offset

-- all that comes before its closing store is right, and that stands for nothing from this offset on
pub record IsBadClosing (bytes : List ℕ) (offset : ℕ) : Type 0 where
  pub bundle : Bundle
  pub job : Job
  pub report : List CommitLine
  pub opening : KeptStore
  pub opened : AreBundleParts bytes bundle job report opening
  pub fault : IsFaultAt (bundle_part bytes bundle.closing) offset

-- the first part that is wrong, and where: the first line or the number of bytes behind it, at 0; the report, at its first line that is
-- none; the opening store, at an offset
abbrev pub IsWrongPart : List ℕ → (part at : ℕ) → Type 0
IsWrongPart bytes part at =
    ((at ≡ 0) × IsWrongAt bytes part) ⊎ ((part ≡ 2) × IsBadReport bytes at) ⊎ ((part ≡ 3) × IsBadOpening bytes at)

-- The source has a bundle, whole: its job is one, no line of its report is bad, and its opening store stands.
pub record HasBundle (left : Option (List ℕ)) : Type 0 where
  pub text : List ℕ
  pub has_text : left ≡ Some text
  pub few : length text ≤ 33554432
  pub bundle : Bundle
  pub parts : IsBundle text bundle
  pub job : IsSomeJob (bundle_part text bundle.job)
  pub report : (number : ℕ) → ¬ (IsFirstBadLine (bundle_part text bundle.report) number)
  pub opening : IsStanding (bundle_part text bundle.opening)

-- why a bundle isn't opened, by the status
abbrev pub IsBundleShut : List ℕ → Status → Type 0
IsBundleShut bytes (status.Bundle part at) = IsWrongPart bytes part at
IsBundleShut bytes (status.Job line kind) = IsNoJob bytes line kind
IsBundleShut bytes status.NoMemory = Unit {0}
IsBundleShut bytes _ = ⊥

-- What was done with the text of a bundle, which was read whole; or the source failed or gave a byte too many, and what is outside stays.
abbrev pub WithBundle : Given → (stays : Type 0) (did : List ℕ → Type 0) → Status → Type 0
WithBundle given stays did status.SourceFault = stays × Rose given.faults given.faults_now
WithBundle given stays did status.TooBig = stays × HasRead given.left given.left_now 33554433
WithBundle given stays did status.NoMemory = stays
WithBundle given stays did _ = (text : List ℕ) × IsWholeBundle given.left given.left_now text × did text
