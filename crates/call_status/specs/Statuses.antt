-- How a call ends, what a fault below makes of it, and how the program tells it.
use Rattle.std.specs.Prelude.{ℕ, List, [], ◌++◌, codes, decimal, Result, Ok, Err}
use Rattle.store.specs.declared.open_fault.OpenFault.{OpenFault}
use Rattle.store.specs.declared.open_fault.OpenFault.TheVariants as open_fault
use Rattle.job_text.specs.declared.job.JobFault.{JobFault}
use Rattle.job_text.specs.declared.job.JobFault.TheVariants as job_fault
use Rattle.call_status.specs.declared.source_text.TextFault.{TextFault}
use Rattle.call_status.specs.declared.source_text.TextFault.TheVariants as text
use Rattle.call_status.specs.declared.status.Status.{Status}
use Rattle.call_status.specs.declared.status.Status.TheVariants as status

-- of a text that is no job
abbrev pub status_of_job : JobFault → Status
status_of_job (job_fault.Fault line kind) = Status.Job line kind
status_of_job job_fault.Memory = Status.NoMemory

-- of a job's text
abbrev pub status_of_text : TextFault → Status
status_of_text text.Source = Status.SourceFault
status_of_text text.TooBig = Status.TooBig
status_of_text text.Memory = Status.NoMemory

-- of an opening
abbrev pub status_of_open : OpenFault → Status
status_of_open (open_fault.NotAStore offset) = Status.Store offset
status_of_open (open_fault.Damaged offset) = Status.Store offset
status_of_open open_fault.DiskFault = Status.DiskFault
status_of_open open_fault.Memory = Status.NoMemory

-- the number with which the program ends
abbrev pub status_number : Status → ℕ
status_number status.Done = 0
status_number status.Usage = 1
status_number (status.Store offset) = 2
status_number (status.Job line kind) = 3
status_number status.SourceFault = 4
status_number status.DiskFault = 5
status_number status.PutFault = 6
status_number status.NoMemory = 7
status_number status.TooBig = 8
status_number status.Exists = 9
status_number status.NoRange = 10
status_number (status.Bundle part at) = 11
status_number (status.NotKept base number) = 12
status_number (status.Stream place kind) = 13
status_number status.NoCommit = 14
status_number (status.NotSerial place) = 15

-- the text that it prints on standard error; none where all is done
abbrev pub error_text : Status → List ℕ
error_text status.Done = []
error_text status.Usage = codes "usage"
error_text (status.Store offset) = codes "store " ++ decimal offset
error_text (status.Job line kind) = (codes "job " ++ decimal line) ++ (codes " " ++ decimal kind)
error_text status.SourceFault = codes "source"
error_text status.DiskFault = codes "disk"
error_text status.PutFault = codes "screen"
error_text status.NoMemory = codes "memory"
error_text status.TooBig = codes "big"
error_text status.Exists = codes "exists"
error_text status.NoRange = codes "range"
error_text (status.Bundle part at) = (codes "bundle " ++ decimal part) ++ (codes " " ++ decimal at)
error_text (status.NotKept base number) = (codes "kept " ++ decimal base) ++ (codes " " ++ decimal number)
error_text (status.Stream place kind) = (codes "stream " ++ decimal place) ++ (codes " " ++ decimal kind)
error_text status.NoCommit = codes "commit"
error_text (status.NotSerial place) = codes "serial " ++ decimal place

-- the status of a command that went to its end, or didn't
abbrev pub status_of : {T : Type 0} → Result T Status → Status
status_of (Ok done) = Status.Done
status_of (Err status) = status

-- the text of the job was had whole
abbrev pub IsPastText : Status → Type 0
IsPastText status.Usage = ⊥
IsPastText status.SourceFault = ⊥
IsPastText status.TooBig = ⊥
IsPastText status.NoMemory = ⊥
IsPastText _ = Unit {0}

-- and it is a job's
abbrev pub IsPastJob : Status → Type 0
IsPastJob (status.Job line kind) = ⊥
IsPastJob other = IsPastText other

-- the events ran to their end, so the store was opened: a disk that failed in an event is none of these
abbrev pub WentThrough : Status → Type 0
WentThrough status.Done = Unit {0}
WentThrough status.PutFault = Unit {0}
WentThrough _ = ⊥

-- a status of reading a job
abbrev pub IsOfReading : Status → Type 0
IsOfReading (status.Job line kind) = Unit {0}
IsOfReading status.SourceFault = Unit {0}
IsOfReading status.TooBig = Unit {0}
IsOfReading status.NoMemory = Unit {0}
IsOfReading _ = ⊥

-- a status of opening a store
abbrev pub IsOfOpening : Status → Type 0
IsOfOpening (status.Store offset) = Unit {0}
IsOfOpening status.DiskFault = Unit {0}
IsOfOpening status.NoMemory = Unit {0}
IsOfOpening _ = ⊥

-- a status of a call that reads its text and puts lines
abbrev pub IsOfLines : Status → Type 0
IsOfLines status.Done = Unit {0}
IsOfLines status.PutFault = Unit {0}
IsOfLines other = IsOfReading other
