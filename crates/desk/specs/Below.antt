-- The words of other crates that this crate's definitions and contracts speak with, each from its own place. Declares nothing.
pub use Rattle.std.specs.List.{flat_map, list_any}
pub use Rattle.flat_machine.specs.Due.{due_locks, touched_next, touched_within}
pub use Rattle.flat_machine.specs.Serial.{Activation, committing, serial}
pub use Rattle.flat_machine.specs.declared.machine.Plain.{Plain}
pub use Rattle.flat_machine.specs.declared.machine.Program.{Program}
pub use Rattle.lines.specs.Access.{fine_grant_by, Grant, grant_by, lets, nobody}
pub use Rattle.lines.specs.Conflicts.{both, conflicts, is_whole_page, Lines, pages_of, with_whole_pages, within_page}
pub use Rattle.lines.specs.Directory.{is_fine_page, Layout, length_of, page_count}
pub use Rattle.lines.specs.FlatStore.{FlatStore}
pub use Rattle.lines.specs.Resident.{brought, taken_out}
pub use Rattle.lines.specs.Waits.{shown_cycle, victim_of}
pub use Rattle.outside.specs.Causes.{Rose}
pub use Rattle.outside.specs.Durable.{IsSure}
pub use Rattle.outside.specs.Runs.{CallsDisk, held_of, Leaves, OnlyOpens}
pub use Rattle.outside.specs.declared.world.Outside.{Ghosts}
pub use Rattle.store_format.specs.Header.{Header, header_of, total}
pub use Rattle.store_format.specs.Stands.{chosen, Standing, Stands, stands}
