-- What reading the text of a job answers.
use Rattle.std.specs.Prelude.{◌≡◌, ℕ, ⊤, Result, Ok, Err}
use Rattle.job_text.specs.declared.job.Job.{Job}
use Rattle.job_text.specs.declared.job.JobFault.{JobFault}
use Rattle.job_text.specs.declared.job.JobFault.TheVariants.{Fault, Memory}
use Rattle.job_text.specs.Grammar.{Content, content_of}

-- a fault is the one of this reading; a want of memory says nothing of the text
abbrev pub IsJobFaultOf : {A : Type 0} → JobFault → Result A (ℕ × ℕ) → Type 0
IsJobFaultOf (Fault line kind) reading = reading ≡ Err (line, kind)
IsJobFaultOf Memory reading = ⊤

-- a job says what a reading gives, or the fault is its fault
abbrev pub IsJobAnswer : Result Job JobFault → Result Content (ℕ × ℕ) → Type 0
IsJobAnswer (Ok job) reading = reading ≡ Ok (content_of job)
IsJobAnswer (Err fault) reading = IsJobFaultOf fault reading
