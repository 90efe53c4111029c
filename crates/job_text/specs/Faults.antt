-- A fault of a program's sources as one of its job.
use Rattle.romp_asm.specs.declared.link_fault.LinkFault.{LinkFault}
use Rattle.romp_asm.specs.declared.link_fault.LinkFault.TheVariants as link
use Rattle.job_text.specs.declared.job.JobFault.{JobFault}
use Rattle.job_text.specs.declared.job.JobFault.TheVariants.{Fault, Memory}

-- the same line and kind
abbrev pub job_fault : LinkFault → JobFault
job_fault (link.Fault line kind) = Fault line kind
job_fault link.Memory = Memory
