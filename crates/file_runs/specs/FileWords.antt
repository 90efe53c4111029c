-- What each word left of a file and a screen.
use Rattle.std.specs.Prelude.{◌≡◌, ◌≢◌, ◌↔◌, Bool, count_by, List, String, ℕ}
use Rattle.call_status.specs.declared.status.Status.TheVariants as status
use Rattle.console.specs.Below.{Global, ReadsBy}
use Rattle.console.specs.Causes.{IsOfCommand}
use Rattle.console.specs.Words.{IsForm, IsNoForm, ReadsJob}
use Rattle.file_runs.specs.FileNeeds.{EndsWell, HasAllOnFile, ReadsCalmly}
use Rattle.real_files.specs.Deeds.{deed_failed}
use Rattle.file_runs.specs.Below.{Command, Deed, Ended, Given, new_line, order_told}
use Rattle.console.specs.declared.command_words.Command.TheVariants as command
use Rattle.store_format.specs.Header.{fresh}
use Rattle.file_runs.specs.FileFollowed.{FollowedOnFile}
use Rattle.file_runs.specs.FileMade.{RenewedOnFile, WrittenOnFile}
use Rattle.file_runs.specs.FileRun.{IsCalm, RunsOnFile}
use Rattle.file_runs.specs.FileShown.{ShippedOnFile, ShownOnFile}

-- A word on a file that gave these bytes did what it does, as it ended: these are its deeds and its puts. The words without a file are no such.
abbrev pub DidOnFile : (starved : Bool) → Command → Given → (first : List ℕ) (deeds puts : List Deed) → Ended → Type 0
DidOnFile starved command.Run given first deeds puts ended = RunsOnFile starved given first deeds puts (order_told ended.order.items) ended.session ended.status
DidOnFile starved (command.Show range) given first deeds puts ended = ShownOnFile range first deeds puts ended.status
DidOnFile starved (command.Ship from) given first deeds puts ended = ShippedOnFile from first deeds puts ended.status
DidOnFile starved (command.New header) given first deeds puts ended = WrittenOnFile (fresh header) (new_line header) first deeds puts ended.status
DidOnFile starved (command.Renew bank) given first deeds puts ended = RenewedOnFile bank given first deeds puts ended.status
DidOnFile starved command.Follow given first deeds puts ended = FollowedOnFile given first deeds puts ended.status
DidOnFile starved _ given first deeds puts ended = Unit {0}

-- it is a word on a file
abbrev pub IsOnFile : Command → Type 0
IsOnFile command.Run = Unit {0}
IsOnFile (command.Show range) = Unit {0}
IsOnFile (command.Ship from) = Unit {0}
IsOnFile (command.New header) = Unit {0}
IsOnFile (command.Renew bank) = Unit {0}
IsOnFile command.Follow = Unit {0}
IsOnFile _ = ⊥

-- Why the console ended so on a file that gave these bytes, or on a disk in memory that held them, and on a screen, with these deeds and puts.
pub record WhyEnded (words : List (String Global)) (given : Given) (first : List ℕ) (deeds puts : List Deed) (starved : Bool) (ended : Ended) : Type 0 where
  -- Usage exactly where the words are no form, a status of the word's own list, and for its cause in what the source gave
  pub usage : ended.status ≡ status.Usage ↔ IsNoForm words
  pub only : (form : Command) → IsForm form words → IsOfCommand form ended.status
  pub read : ReadsJob words → ReadsBy given ended.status
  -- a failure is told only where one was
  pub disk : IsCalm deeds starved → ended.status ≢ status.DiskFault
  pub put : count_by deed_failed puts ≡ 0 → ended.status ≢ status.PutFault
  -- with what the words need, no call that fails, and memory, it ends well
  pub complete : (form : Command) → IsForm form words → HasAllOnFile form given.left first → ReadsCalmly given → IsCalm deeds starved → count_by deed_failed puts ≡ 0 → EndsWell ended.status
