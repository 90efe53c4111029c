-- What the words need to end well: what `HasAll` says of an outside, of the bytes that the file gave, or that a disk in memory held.
use Rattle.std.specs.Prelude.{◌≡◌, ◌≤◌, ◌⊎◌, ℕ, List, [], length, All, Option, Some}
use Rattle.call_status.specs.Call.{Given}
use Rattle.call_status.specs.Opening.{IsStanding}
use Rattle.call_status.specs.declared.status.Status.{Status}
use Rattle.call_status.specs.declared.status.Status.TheVariants as status
use Rattle.console.specs.Causes.{HasJob, HasOldStore}
use Rattle.console.specs.declared.command_words.Command.{Command}
use Rattle.console.specs.declared.command_words.Command.TheVariants as command
use Rattle.lines.specs.FlatStore.{FlatStore}
use Rattle.outside.specs.Causes.{Rose}
use Rattle.outside.specs.declared.world.Outside.{Ghosts}
use Rattle.standby.specs.Followed.{IsAlike}
use Rattle.standby.specs.State.{IsTextNumber, behind, due}
use Rattle.standby.specs.Text.{ShipContent, IsContent, ship_text}
use Rattle.store.specs.KeptStore.{StoreView, store_number}
use Rattle.store.specs.Shows.{Shows}
use Rattle.store_calls.specs.Audited.{CanAudit}
use Rattle.store_calls.specs.Show.{IsInside}
use Rattle.store_calls.specs.Traced.{CanTrace}
use Rattle.store_calls.specs.declared.show.Range.{Range}
use Rattle.store_format.specs.Header.{most_lines}
use Rattle.store_format.specs.Stands.{Stands, stands}

-- the bytes stand for a store that has the range
abbrev pub StandsWith : Range → List ℕ → Type 0
StandsWith range first = (number : ℕ) × (store : FlatStore) × (stands first ≡ Stands number store) × IsInside store.directory range

-- the bytes stand for a store whose bank keeps all records behind a number
abbrev pub KeepsBehind : (from : ℕ) → List ℕ → Type 0
KeepsBehind from first = IsStanding first × ((store : StoreView) → Shows first store → behind store.bank.base from ≤ store.bank.count)

-- The source has a ship text, whole, and the bytes stand for a store that can follow it.
pub record MayFollow (left : Option (List ℕ)) (first : List ℕ) : Type 0 where
  pub text : List ℕ
  pub has_text : left ≡ Some text
  pub few : length text ≤ 1048576
  pub content : ShipContent
  pub is_content : IsContent content
  pub means : text ≡ ship_text content
  pub stood : IsStanding first
  pub follows : (held : ShipContent) → IsContent held → text ≡ ship_text held → (store : StoreView) → Shows first store
      → IsAlike store.header held × IsTextNumber held (store_number store) × All (λ lines. length lines ≤ most_lines store.header) (due held (store_number store))

-- what a word needs: a job, and a store to run it on; a store with the range; no bytes, and for `renew` a store of version 1 in the source; a store that keeps the
-- records, or that can follow; a store to run a load on; a bundle with no wrong part, and a trace in it
abbrev pub HasAllOnFile : Command → Option (List ℕ) → (first : List ℕ) → Type 0
HasAllOnFile command.Run left first = HasJob left × IsStanding first
HasAllOnFile (command.Show range) left first = StandsWith range first
HasAllOnFile (command.New header) left first = first ≡ []
HasAllOnFile (command.Renew bank) left first = HasOldStore left × (first ≡ [])
HasAllOnFile (command.Ship from) left first = KeepsBehind from first
HasAllOnFile command.Follow left first = MayFollow left first
HasAllOnFile command.Try left first = HasJob left × IsStanding first
HasAllOnFile command.List left first = HasJob left
HasAllOnFile command.Drill left first = HasJob left
HasAllOnFile (command.Big transfers) left first = IsStanding first
HasAllOnFile command.Audit left first = CanAudit left
HasAllOnFile (command.Trace activation) left first = CanTrace activation left

-- it ended well, but for want of memory
abbrev pub EndsWell : Status → Type 0
EndsWell end = (end ≡ status.Done) ⊎ (end ≡ status.NoMemory)

-- no read of the source failed in the call
abbrev pub ReadsCalmly : Given → Type 0
ReadsCalmly given = ¬ (Rose given.faults given.faults_now)

-- so it ended where no read of the source failed, and no call of the outside
abbrev pub EndsWellUnfailed : {W : Type 0} → Ghosts W → Given → (before after : W) → Status → Type 0
EndsWellUnfailed G given before after end =
    ReadsCalmly given → (¬ (Rose (G.disk_faults before) (G.disk_faults after))) → (¬ (Rose (G.put_faults before) (G.put_faults after))) → EndsWell end
