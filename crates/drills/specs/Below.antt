-- The words of other crates that this crate's definitions and contracts speak with, each from its own place. Declares nothing.
pub use Rattle.call_status.specs.Call.{Called, call, Given, given}
pub use Rattle.call_status.specs.Opening.{IsStanding, StandsAt}
pub use Rattle.call_status.specs.declared.status.Status.{Status}
pub use Rattle.desk.specs.Answers.{order_told}
pub use Rattle.desk.specs.Seen.{commits_seen}
pub use Rattle.job_calls.specs.Headline.{job_desk, names_of}
pub use Rattle.job_text.specs.Ready.{IsReady}
pub use Rattle.job_text.specs.declared.job.Job.{Job}
pub use Rattle.lines.specs.FlatStore.{FlatStore}
pub use Rattle.listing.specs.BytesPut.{PrintsBytes, PutsTimes}
pub use Rattle.outside.specs.Causes.{Rose}
pub use Rattle.outside.specs.MemoryDisk.{disk_faults, disk_first, disk_held, disk_plan, disk_writes, is_disk_starved}
pub use Rattle.outside.specs.Plan.{outcome_of, DiskPlan}
pub use Rattle.outside.specs.declared.memory_disk.MemoryDisk.{MemoryDisk}
pub use Rattle.outside.specs.declared.world.Outside.{Ghosts}
pub use Rattle.store_format.specs.Stands.{Stands, stands}
