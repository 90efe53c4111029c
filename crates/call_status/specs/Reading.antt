-- What the text of a job tells of the status with which it was read.
use Rattle.std.specs.Prelude.{◌≡◌, ◌≢◌, ℕ, List, Ok, Err}
use Rattle.outside.specs.Causes.{Rose}
use Rattle.job_text.specs.Grammar.{Content, job_of}
use Rattle.call_status.specs.declared.status.Status.{Status}
use Rattle.call_status.specs.Call.{Given}
use Rattle.call_status.specs.SourceText.{HasRead, IsWholeText}
use Rattle.call_status.specs.Statuses.{IsPastJob, IsPastText}

-- the text is that of some job
abbrev pub IsSomeJob : List ℕ → Type 0
IsSomeJob text = (content : Content) × (job_of text ≡ Ok content)

-- what a source that was read to a job tells of the status with which that went: its count of faults rises with SourceFault alone
pub record ReadsBy (given : Given) (status : Status) : Type 0 where
  pub source : status ≡ Status.SourceFault → Rose given.faults given.faults_now
  pub calm : status ≢ Status.SourceFault → given.faults_now ≡ given.faults
  pub big : status ≡ Status.TooBig → HasRead given.left given.left_now 1048577
  pub text : IsPastText status → (text : List ℕ) × IsWholeText given.left given.left_now text
  pub no_job : (line kind : ℕ) → status ≡ Status.Job line kind → (text : List ℕ) × IsWholeText given.left given.left_now text × (job_of text ≡ Err (line, kind))
  pub job : IsPastJob status → (text : List ℕ) × IsWholeText given.left given.left_now text × IsSomeJob text
