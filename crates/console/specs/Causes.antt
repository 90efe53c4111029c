-- What a command may end with, and what it needs to end well.
use Rattle.std.specs.Prelude.{◌≡◌, ◌≤◌, ◌⊎◌, ℕ, List, [], length, All, Option, Some, String, IsSome, IsTrue}
use Rattle.outside.specs.Causes.{Rose}
use Rattle.console.specs.Below.{CanAudit, CanTrace, Ghosts, Given, Global, HasRange, IsOfAudit, IsOfEvents, IsOfFollow, IsOfLines, IsOfNew, IsOfRenew, IsOfRun, IsOfShip, IsOfShow, IsOfTrace, IsSomeJob, most_lines, standing_as_one, Status}
use Rattle.lines.specs.FlatStore.{FlatStore}
use Rattle.store_format.specs.Stands.{Stands}
use Rattle.outside.specs.Runs.{held_of}
use Rattle.console.specs.declared.command_words.Command.{Command}
use Rattle.console.specs.declared.command_words.Command.TheVariants as command
use Rattle.call_status.specs.Opening.{IsStanding}
use Rattle.store.specs.KeptStore.{StoreView, store_number}
use Rattle.store.specs.Shows.{Shows}
use Rattle.standby.specs.Followed.{IsAlike}
use Rattle.standby.specs.State.{IsTextNumber, behind, due}
use Rattle.standby.specs.Text.{ShipContent, IsContent, ship_text}
use Rattle.console.specs.Words.{IsForm}

-- the source has the text of a job, whole
pub record HasJob (left : Option (List ℕ)) : Type 0 where
  pub text : List ℕ
  pub has_text : left ≡ Some text
  pub few : length text ≤ 1048576
  pub is_job : IsSomeJob text

-- the disk is honest and tells its bytes, which stand for a store
abbrev pub HasStore : {W : Type 0} → Ghosts W → W → Type 0
HasStore G outside = IsTrue (G.is_honest outside) × IsSome (G.held outside) × IsStanding (held_of G outside)

-- the source has a store of version 1, whole
pub record HasOldStore (left : Option (List ℕ)) : Type 0 where
  pub text : List ℕ
  pub has_text : left ≡ Some text
  pub few : length text ≤ 4194304
  pub number : ℕ
  pub store : FlatStore
  pub stood : standing_as_one text ≡ Stands number store

-- The disk's bytes are told and stand for a store, whose bank keeps all records behind a number.
pub record CanShip {W : Type 0} (G : Ghosts W) (from : ℕ) (outside : W) : Type 0 where
  pub told : IsSome (G.held outside)
  pub stood : IsStanding (held_of G outside)
  pub keeps : (store : StoreView) → Shows (held_of G outside) store → behind store.bank.base from ≤ store.bank.count

-- The source has a ship text, whole, and the disk's bytes are told and stand for a store that can follow it: its lines are as long and as many, its
-- number is among the text's, and no record behind that is too long.
pub record CanFollow {W : Type 0} (G : Ghosts W) (left : Option (List ℕ)) (outside : W) : Type 0 where
  pub text : List ℕ
  pub has_text : left ≡ Some text
  pub few : length text ≤ 1048576
  pub content : ShipContent
  pub is_content : IsContent content
  pub means : text ≡ ship_text content
  pub told : IsSome (G.held outside)
  pub stood : IsStanding (held_of G outside)
  pub follows : (held : ShipContent) → IsContent held → text ≡ ship_text held → (store : StoreView) → Shows (held_of G outside) store
      → IsAlike store.header held × IsTextNumber held (store_number store) × All (λ lines. length lines ≤ most_lines store.header) (due held (store_number store))

-- what a command needs: the text of a job and a store to run it on, to list it or to drill it; bytes that stand for a store with a range; an empty disk, and a store of version 1 to renew; records
-- that are kept, or that can be followed; a store to run a load on; a bundle with no wrong part, and a trace in it.
abbrev pub HasAll : {W : Type 0} → Ghosts W → Command → Option (List ℕ) → W → Type 0
HasAll G command.Try left outside = HasJob left × HasStore G outside
HasAll G command.Run left outside = HasJob left × HasStore G outside
HasAll G command.List left outside = HasJob left
HasAll G command.Drill left outside = HasJob left
HasAll G (command.Show range) left outside = IsSome (G.held outside) × HasRange G range outside
HasAll G (command.New header) left outside = G.held outside ≡ Some []
HasAll G (command.Renew bank) left outside = HasOldStore left × (G.held outside ≡ Some [])
HasAll G (command.Big transfers) left outside = HasStore G outside
HasAll G (command.Ship from) left outside = CanShip G from outside
HasAll G command.Follow left outside = CanFollow G left outside
HasAll G command.Audit left outside = CanAudit left
HasAll G (command.Trace activation) left outside = CanTrace activation left

-- the words are a command that has what it needs
pub record IsComplete {W : Type 0} (G : Ghosts W) (words : List (String Global)) (left : Option (List ℕ)) (outside : W) : Type 0 where
  pub form : Command
  pub asks : IsForm form words
  pub has : HasAll G form left outside

-- a call whose words are one, with no count of faults that rose, is done, or has no memory
abbrev pub Completes : {W : Type 0} → Ghosts W → (words : List (String Global)) → Given → (before now : W) → Status → Type 0
Completes G words given before now status =
    IsComplete G words given.left before → (¬ (Rose given.faults given.faults_now)) → (¬ (Rose (G.disk_faults before) (G.disk_faults now))) → (¬ (Rose (G.put_faults before) (G.put_faults now)))
    → (status ≡ Status.Done) ⊎ (status ≡ Status.NoMemory)

-- a status of a command, by its own list
abbrev pub IsOfCommand : Command → Status → Type 0
IsOfCommand command.Try = IsOfRun
IsOfCommand command.Run = IsOfRun
IsOfCommand command.List = IsOfLines
IsOfCommand command.Drill = IsOfLines
IsOfCommand (command.Show range) = IsOfShow
IsOfCommand (command.New header) = IsOfNew
IsOfCommand (command.Renew bank) = IsOfRenew
IsOfCommand (command.Ship from) = IsOfShip
IsOfCommand command.Follow = IsOfFollow
IsOfCommand (command.Big transfers) = IsOfEvents
IsOfCommand command.Audit = IsOfAudit
IsOfCommand (command.Trace activation) = IsOfTrace
