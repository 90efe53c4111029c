-- What a command wants of a disk and of the source.
use Rattle.std.specs.Prelude.{ℕ}
use Rattle.console.specs.declared.wants.DiskKind.{DiskKind}
use Rattle.console.specs.declared.wants.DiskKind.TheVariants.{Looked, Changed, Made, OfTry, Empty}
use Rattle.console.specs.declared.command_words.Command.{Command}
use Rattle.console.specs.declared.command_words.Command.TheVariants as command

-- the disk that a command is run on
abbrev pub disk_for : Command → DiskKind
disk_for command.Try = OfTry
disk_for command.Run = Changed
disk_for command.List = Empty
disk_for command.Drill = Empty
disk_for (command.Show range) = Looked
disk_for (command.New header) = Made
disk_for (command.Renew bank) = Made
disk_for (command.Ship from) = Looked
disk_for command.Follow = Changed
disk_for (command.Big transfers) = OfTry
disk_for command.Audit = Empty
disk_for (command.Trace activation) = Empty

-- how many bytes of the source it reads at most: all that it takes, and one more, by which a longer source is told
abbrev pub source_for : Command → ℕ
source_for command.Try = 1048577
source_for command.Run = 1048577
source_for command.List = 1048577
source_for command.Drill = 1048577
source_for (command.Show range) = 0
source_for (command.New header) = 0
source_for (command.Renew bank) = 4194305
source_for (command.Ship from) = 0
source_for command.Follow = 1048577
source_for (command.Big transfers) = 0
source_for command.Audit = 33554433
source_for (command.Trace activation) = 33554433
