-- A record that is to be added: what a line of it must be, what the answer says of the disk's count, what is kept then, and what a crash leaves.
use Rattle.std.specs.Prelude.{◌≡◌, ◌↔◌, ℕ, ◌+◌, ◌≤◌, ◌<◌, List, All, length, take, drop, slice_set, Option, None, Some, IsSome, IfSome, false}
use Rattle.store.specs.Below.{Ghosts, held_of, Leaves, one_more, option_map, Rose, stands}
use Rattle.store.specs.declared.keep.Kept.{Kept}
use Rattle.store.specs.declared.keep.Kept.TheVariants.{Done, Unwritten, Doubt}
use Rattle.store.specs.declared.keep.Appended.{Appended}
use Rattle.store.specs.declared.keep.Appended.TheVariants as appending
use Rattle.store.specs.Held.{HasBody, HoldsAtLeast, is_open, IsGateOpen, IsSafe, IsGateShut, OnlyWrites}
use Rattle.store.specs.Kept.{BankView, SameShape, area_end, begun_of, line_bytes_of, needed_end, record_bytes_of, spoilt, with_record}
use Rattle.store.specs.Exact.{KeepsDeeds, KeepsRecord}
use Rattle.store.specs.Tracks.{TracksBank, IsEither, HoldsOneOf, IsAppended}

-- A line may be added to the record that is begun: it is a line of the store, above those before it, and with it the record and a gate behind it fit an area.
pub record TakesLine (bank : BankView) (line : ℕ) (bytes : List ℕ) : Type 0 where
  pub begun : IsSome bank.begun
  pub whole : length bytes ≡ line_bytes_of bank
  pub below : line < length bank.newest
  pub ascending : All (λ begun. begun.line < line) (begun_of bank)
  pub room : record_bytes_of bank (length (begun_of bank) + 1) + 1 ≤ bank.bank_bytes

-- A bank needn't be reopened, and where its bytes are told the disk holds at least so many.
pub record IsUsable {W : Type 0} (G : Ghosts W) (count : ℕ) (bank : BankView) (outside : W) : Type 0 where
  pub usable : bank.spoiled ≡ false
  pub room : HoldsAtLeast G count outside

-- and it has a record begun
pub record CanAppend {W : Type 0} (G : Ghosts W) (count : ℕ) (bank : BankView) (outside : W) : Type 0 where
  pub begun : IsSome bank.begun
  pub usable : bank.spoiled ≡ false
  pub room : HoldsAtLeast G count outside

-- how far an append kept the record; none where it found no room
abbrev pub kept_in : Appended → Option Kept
kept_in appending.Done = Some Done
kept_in appending.Full = None
kept_in appending.Unwritten = Some Unwritten
kept_in appending.Doubt = Some Doubt

-- the record is the bank's, or the bank is to be reopened, or where it doesn't fit it stays begun
abbrev pub bank_appended : Option Kept → BankView → BankView
bank_appended None bank = bank
bank_appended (Some Done) bank = with_record bank
bank_appended (Some Unwritten) bank = spoilt bank
bank_appended (Some Doubt) bank = spoilt bank

-- the disk's count stays where the record was kept, and rises where the answer tells of a failure
abbrev pub CountsKept : {W : Type 0} → Ghosts W → (before after : W) → Kept → Type 0
CountsKept G before after Done = G.disk_faults after ≡ G.disk_faults before
CountsKept G before after Unwritten = Rose (G.disk_faults before) (G.disk_faults after)
CountsKept G before after Doubt = Rose (G.disk_faults before) (G.disk_faults after)

-- What keeping a body behind a gate does, where it is answered so. Of a gate that is shut: whenever a crash comes, an open gate has the whole body behind it.
pub record KeepsBody {W : Type 0} (G : Ghosts W) (gate : ℕ) (body : List ℕ) (before after : W) (answer : Kept) : Type 0 where
  pub only : OnlyWrites G before after
  pub crash : IsGateShut G gate before → Leaves G (λ image seen. IsSafe gate body (held_of G before) image) before after
  pub unwritten : answer ≡ Unwritten → IsGateShut G gate before → Leaves G (λ image seen. is_open gate image ≡ false) before after
  pub doubt : answer ≡ Doubt → IsGateShut G gate before → Leaves G (λ image seen. HasBody gate body image) after after
  pub done : answer ≡ Done → IsGateShut G gate before → IsGateOpen G gate body before after
  pub writes : answer ≡ Done → G.writes after ≡ option_map (λ count. count + 2) (G.writes before)
  pub counted : CountsKept G before after answer
  pub deeds : KeepsDeeds (G.deeds before) (G.deeds after) gate body answer

-- what a crash leaves of a bank's begun record that was added there and not kept: what stood, and after a doubt what stands with the record, once the gate's byte is on
abbrev pub FailedLeaves : {W : Type 0} → Ghosts W → (bank there : BankView) → (before after : W) → Kept → Type 0
FailedLeaves G bank there before after Done = Unit {0}
FailedLeaves G bank there before after Unwritten = Leaves G (λ image seen. stands image ≡ stands (held_of G before)) before after
FailedLeaves G bank there before after Doubt = Leaves G (λ image seen. stands (slice_set image there.gate 165) ≡ one_more (begun_of bank) (stands (held_of G before))) after after

-- The image is the old one but between two places.
pub record IsApart (from to : ℕ) (old image : List ℕ) : Type 0 where
  pub front : take from image ≡ take from old
  pub behind : drop to image ≡ drop to old
  pub long : length image ≡ length old

-- What an append of the begun record does, where it is answered so: it only asks and writes, the sizes stay, and what is kept is told by the answer. It is full exactly
-- where the record and the gate behind it don't fit the rest of the bank, and then nothing was done; else the disk's count is told, and a record that is kept took two
-- writes. Of a bank that is tracked: whenever a crash comes, it leaves what stood, or that with the record.
pub record Appends {W : Type 0} (G : Ghosts W) (old new : BankView) (before after : W) (answer : Appended) : Type 0 where
  pub only : OnlyWrites G before after
  pub shape : SameShape old new
  pub kept : new ≡ bank_appended (kept_in answer) old
  pub full : (answer ≡ appending.Full) ↔ (area_end old < needed_end old)
  pub nothing : answer ≡ appending.Full → after ≡ before
  pub counted : IfSome (kept_in answer) (CountsKept G before after)
  pub deeds : IfSome (kept_in answer) (KeepsRecord (G.deeds before) (G.deeds after) old)
  pub writes : answer ≡ appending.Done → G.writes after ≡ option_map (λ count. count + 2) (G.writes before)
  pub crash : TracksBank G old before → Leaves G (IsEither (begun_of old) (held_of G before)) before after
  pub apart : TracksBank G old before → Leaves G (λ image seen. IsApart old.gate (needed_end old) (held_of G before) image) before after
  pub left : TracksBank G old before → IfSome (kept_in answer) (FailedLeaves G old old before after)
  pub records : (tracks : TracksBank G old before) → HoldsOneOf tracks.header old.which old.base tracks.records (begun_of old) (held_of G after)
  pub done : answer ≡ appending.Done → TracksBank G old before → IsAppended G old new before after
