-- The disk in memory of a drill.
use Rattle.std.specs.Prelude.{List}
use Rattle.outside.specs.Deeds.{Deed}
use Rattle.outside.specs.declared.memory_disk.MemoryDisk.{MemoryDisk}
use Rattle.drills.specs.declared.stopping_disk.StoppingDisk.{StoppingDisk}

-- the disk that stops
abbrev pub memory_of : StoppingDisk → MemoryDisk
memory_of stopping = stopping.disk

-- what was asked of it, in order: each write, and each sync that succeeded, until it stopped
abbrev pub deeds_of : StoppingDisk → List Deed
deeds_of stopping = stopping.trace.deeds
