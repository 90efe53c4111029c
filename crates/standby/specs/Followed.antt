-- What following a text does, and one record of it.
use Rattle.std.specs.Prelude.{◌≡◌, ℕ, zero, suc, ◌+◌, ◌<◌, ◌≤◌, ◌↔◌, List, [], ◌++◌, length, take, Option, Result, Ok, Err, IfErr, OnOk, IsSome, IfSome, ◌⊎◌, map, false}
use Rattle.standby.specs.Below.{Elapses, Failed, FlatStore, Ghosts, Header, held_of, HoldsAtLeast, IsMoreBy, StoreView, Leaves, line_bytes, line_count, store_number, Prints, Rose, Stands, stands, TracksStore, AreTold, most_lines, RecordLine, with_begun}
use Rattle.outside.specs.Deeds.{Since}
use Rattle.standby.specs.FollowAsked.{RecordsAsked, RecordsStopped, StepAsks}
use Rattle.standby.specs.TextPut.{CountsPuts, SeesPart}
use Rattle.standby.specs.State.{laid_by, bank_begun, bank_behind, bank_with, due, ship_laid, IsTextNumber, IsTooLong, AllFit}
use Rattle.standby.specs.Text.{ShipContent, ship_content, ShipLine, later, closing_line, kept_line, AreLines, IsPacked, record_of, next, told}
use Rattle.standby.specs.declared.following.Followed.{Followed}
use Rattle.standby.specs.declared.following.Followed.TheVariants.{Done, Geometry, NotKept, Long, DiskFault, PutFault}
use Rattle.standby.specs.declared.text.Ship.{Ship}
use Rattle.standby.specs.declared.text.ShipRecord.{ShipRecord}
pub use Rattle.call_status.specs.Printed.{broken, well}

-- the lines that tell of so many records behind a number
abbrev pub kept_text : ℕ → ℕ → List ℕ
kept_text number zero = []
kept_text number (suc count) = kept_text number count ++ kept_line (later number (suc count))

-- all that is told of so many records behind a number
abbrev pub followed_text : ℕ → ℕ → List ℕ
followed_text number count = kept_text number count ++ closing_line (later number count)

-- the text is of a store with such a header: its lines are as long and as many
pub record IsAlike (header : Header) (content : ShipContent) : Type 0 where
  pub bytes : content.line_bytes ≡ line_bytes header.directory.page
  pub lines : content.lines ≡ line_count header.directory

-- just so many of the lines behind a number stand whole in so many bytes of all that is told
abbrev pub StandWhole : (number all count whole : ℕ) → Type 0
StandWhole number all count whole = (i : ℕ) → i ≤ all → (length (kept_text number i) ≤ count) ↔ (i ≤ whole)

-- this holds of each store that is tracked and for which the bytes stand
abbrev pub OfTracked : {W : Type 0} → Ghosts W → StoreView → W → (FlatStore → Type 0) → Type 0
OfTracked G durable now P = (store : FlatStore) → TracksStore G durable now → stands (held_of G now) ≡ Stands (store_number durable) store → P store

-- Seen is what was printed before with a first part of what is told of so many records behind a number, in which the lines of the first few stand
-- whole, or of all of these but the last.
pub record TellsUpTo (number all few : ℕ) (seen printed : List ℕ) : Type 0 where
  pub count : ℕ
  pub seen_is : seen ≡ printed ++ take count (followed_text number all)
  pub whole : ℕ
  pub stand : StandWhole number all count whole
  pub no_more : whole ≤ few
  pub no_fewer : few ≤ whole + 1

-- A crash left an image that stands for the store at a number, or at one of the records behind it; and where the bytes printed are told, the whole
-- line of none behind that was seen, and that of each before it.
pub record IsAtNumber (bytes number : ℕ) (store : FlatStore) (records : List (List ShipLine)) (printed : Option (List ℕ)) (image seen : List ℕ) : Type 0 where
  pub j : ℕ
  pub few : j ≤ length records
  pub stood : stands image ≡ Stands (later number j) (laid_by bytes store (take j records))
  pub told : IfSome printed (TellsUpTo number (length records) j seen)

-- calls of the disk, and puts: told bytes stay told and get no fewer, no count falls, and time goes on
pub record OnlyGoesOn {W : Type 0} (G : Ghosts W) (old new : W) : Type 0 where
  pub told : IsSome (G.held old) → IsSome (G.held new)
  pub longer : (count : ℕ) → HoldsAtLeast G count old → HoldsAtLeast G count new
  pub honest : G.is_honest new ≡ G.is_honest old
  pub time : Elapses G.moment G.left_since old new
  pub writes : IsMoreBy 0 (G.writes old) (G.writes new)
  pub disk : G.disk_faults old ≤ G.disk_faults new
  pub put : G.put_faults old ≤ G.put_faults new

-- why it ended so: no count rose, or the disk's did, or the screen's
abbrev pub FollowEndsBy : {W : Type 0} → Ghosts W → W → W → Followed → Type 0
FollowEndsBy G old new DiskFault = Rose (G.disk_faults old) (G.disk_faults new) × (G.put_faults new ≡ G.put_faults old)
FollowEndsBy G old new PutFault = (G.disk_faults new ≡ G.disk_faults old) × Rose (G.put_faults old) (G.put_faults new)
FollowEndsBy G old new _ = (G.disk_faults new ≡ G.disk_faults old) × (G.put_faults new ≡ G.put_faults old)

-- a fault stopped it
abbrev pub FollowStopped : Followed → Type 0
FollowStopped DiskFault = Unit {0}
FollowStopped PutFault = Unit {0}
FollowStopped _ = ⊥

-- how it ended
abbrev pub followed_of : Result (Unit {0}) Followed → Followed
followed_of (Ok done) = Done
followed_of (Err why) = why

-- Following goes on so, or a fault stopped it: told bytes stay told and get no fewer, no count rises but that of the fault, and the header stays.
pub record KeepsFollowing {W : Type 0} (G : Ghosts W) (was durable : StoreView) (old new : W) (result : Result (Unit {0}) Followed) : Type 0 where
  pub only : OnlyGoesOn G old new
  pub ends : FollowEndsBy G old new (followed_of result)
  pub stopped : IfErr result FollowStopped
  pub header : durable.header ≡ was.header

-- what a text was found to be: of another store; not with the store's number; with a record that is too long, at this number; or one that fits
abbrev pub FoundOf : Header → ShipContent → (from : ℕ) → Followed → Type 0
FoundOf header content from Geometry = ¬ (IsAlike header content)
FoundOf header content from NotKept = IsAlike header content × (¬ (IsTextNumber content from))
FoundOf header content from (Long number) = IsAlike header content × IsTextNumber content from × IsTooLong header content from number
FoundOf header content from _ = IsAlike header content × IsTextNumber content from × AllFit header content from

-- the store is tracked, and stands for what stood with these records laid over it
pub record IsLater {W : Type 0} (G : Ghosts W) (bytes number : ℕ) (store : FlatStore) (records : List (List ShipLine)) (durable : StoreView) (now : W) : Type 0 where
  pub tracks : TracksStore G durable now
  pub stood : stands (held_of G now) ≡ Stands (later number (length records)) (laid_by bytes store records)

-- So many of the records are told, to the byte, and each image that a crash leaves now stands for the store with these, or with one more.
pub record StopsAt {W : Type 0} (G : Ghosts W) (bytes number : ℕ) (store : FlatStore) (records : List (List ShipLine)) (before after : W) : Type 0 where
  pub count : ℕ
  pub printed : Prints (G.printed before) (G.printed after) (kept_text number count) well
  pub left : Leaves G (λ image seen. (k : ℕ) × (count ≤ k) × (k ≤ count + 1) × (stands image ≡ Stands (later number k) (laid_by bytes store (take k records)))) after after

-- The store is tracked, and stands for what stood with so many of the records laid over it.
pub record BreaksAt {W : Type 0} (G : Ghosts W) (bytes number : ℕ) (store : FlatStore) (records : List (List ShipLine)) (durable : StoreView) (now : W) : Type 0 where
  pub count : ℕ
  pub few : count ≤ length records
  pub tracks : TracksStore G durable now
  pub stood : stands (held_of G now) ≡ Stands (later number count) (laid_by bytes store (take count records))

-- how following ended that was to print this text by so many puts, from a store that was tracked: all records were kept and it is printed, each line by
-- one put; or some were kept, and a first part of it is printed; or some were kept and told, and the disk then failed; or nothing was called. The disk was
-- asked to commit these records, and nothing else.
abbrev pub EndsWith : {W : Type 0} → Ghosts W → (bytes number : ℕ) → FlatStore → List (List ShipLine) → (text : List ℕ) (puts : ℕ) → StoreView → W → W → Followed → Type 0
EndsWith G bytes number store records text puts durable before after Done =
    IsLater G bytes number store records durable after × Prints (G.printed before) (G.printed after) text well × CountsPuts G puts before after × RecordsAsked G (length records) before after
EndsWith G bytes number store records text puts durable before after PutFault =
    (at : BreaksAt G bytes number store records durable after) × Prints (G.printed before) (G.printed after) text broken × RecordsAsked G at.count before after
EndsWith G bytes number store records text puts durable before after DiskFault =
    (at : StopsAt G bytes number store records before after) × (at.count < length records) × RecordsStopped G at.count before after
EndsWith G bytes number store records text puts durable before after _ = after ≡ before

-- so many of the records are kept and told
pub record SoFar {W : Type 0} (G : Ghosts W) (bytes number : ℕ) (store : FlatStore) (records : List (List ShipLine)) (count : ℕ) (durable : StoreView) (before now : W) : Type 0 where
  pub crash : Leaves G (IsAtNumber bytes number store records (G.printed before)) before now
  pub tracks : TracksStore G durable now
  pub stood : stands (held_of G now) ≡ Stands (later number count) (laid_by bytes store (take count records))
  pub printed : Prints (G.printed before) (G.printed now) (kept_text number count) well
  pub times : CountsPuts G count before now
  pub deeds : RecordsAsked G count before now

-- What following did that was to print this text by so many puts: each moment of it leaves the store at a number, and how it ended.
pub record FollowsWith {W : Type 0} (G : Ghosts W) (bytes number : ℕ) (store : FlatStore) (records : List (List ShipLine)) (text : List ℕ) (puts : ℕ) (durable : StoreView) (before after : W) (how : Followed) : Type 0 where
  pub crash : Leaves G (IsAtNumber bytes number store records (G.printed before)) before after
  pub ends : EndsWith G bytes number store records text puts durable before after how

-- so it was with the line of each record
abbrev pub FollowKeeps : {W : Type 0} → Ghosts W → (bytes number : ℕ) → FlatStore → List (List ShipLine) → StoreView → W → W → Followed → Type 0
FollowKeeps G bytes number store records = FollowsWith G bytes number store records (kept_text number (length records)) (length records)

-- and with the last line behind them
abbrev pub Follows : {W : Type 0} → Ghosts W → (bytes number : ℕ) → FlatStore → List (List ShipLine) → StoreView → W → W → Followed → Type 0
Follows G bytes number store records = FollowsWith G bytes number store records (followed_text number (length records)) (length records + 1)

-- the record fits a store with such a header
pub record IsFitting (header : Header) (kept : ShipRecord) : Type 0 where
  pub packed : IsPacked (line_bytes header.directory.page) kept
  pub lines : AreLines (line_bytes header.directory.page) (line_count header.directory) 0 (record_of (line_bytes header.directory.page) kept)
  pub few : length kept.lines.items ≤ most_lines header

-- records as the lines of a store with such a header
abbrev pub records_as : Header → List ShipRecord → List (List ShipLine)
records_as header records = map (record_of (line_bytes header.directory.page)) records

-- a record of these lines is begun, by one line after another
pub record IsBegun (store now : StoreView) (lines : List ShipLine) : Type 0 where
  pub begun : List RecordLine
  pub now_is : now ≡ with_begun store begun
  pub lines_are : told begun ≡ lines
  pub bank_is : now.bank ≡ bank_begun store.bank lines

-- a store with a record laid over it
abbrev pub over : ℕ → FlatStore → List ShipLine → FlatStore
over bytes store lines = record { directory = store.directory; bytes = ship_laid bytes store.bytes lines }

-- A crash left what stood, and what was printed before; or the store one record on, and of its line a first part.
abbrev pub IsLeftBetween : (bytes number : ℕ) → FlatStore → List ShipLine → (printed : Option (List ℕ)) → (image seen : List ℕ) → Type 0
IsLeftBetween bytes number store lines printed image seen =
    ((stands image ≡ Stands number store) × AreTold printed seen)
    ⊎ ((stands image ≡ Stands (next number) (over bytes store lines)) × SeesPart printed (kept_line (next number)) seen)

-- how a record was kept and told: it stands, tracked, and its line is printed, by one put, or where that failed a first part of it; or the disk failed,
-- and nothing was printed
abbrev pub StepsBy : {W : Type 0} → Ghosts W → (bytes number : ℕ) → FlatStore → List ShipLine → StoreView → W → W → Result (Unit {0}) Followed → Type 0
StepsBy G bytes number store lines durable before after (Ok done) =
    TracksStore G durable after × (stands (held_of G after) ≡ Stands (next number) (over bytes store lines)) × Prints (G.printed before) (G.printed after) (kept_line (next number)) well × CountsPuts G 1 before after
StepsBy G bytes number store lines durable before after (Err PutFault) =
    TracksStore G durable after × (stands (held_of G after) ≡ Stands (next number) (over bytes store lines)) × Prints (G.printed before) (G.printed after) (kept_line (next number)) broken
StepsBy G bytes number store lines durable before after (Err DiskFault) = G.printed after ≡ G.printed before
StepsBy G bytes number store lines durable before after (Err _) = ⊥

-- what keeping a record of these lines did
pub record Steps {W : Type 0} (G : Ghosts W) (bytes number : ℕ) (store : FlatStore) (lines : List ShipLine) (durable : StoreView) (before after : W) (result : Result (Unit {0}) Followed) : Type 0 where
  pub crash : Leaves G (IsLeftBetween bytes number store lines (G.printed before)) before after
  pub ends : StepsBy G bytes number store lines durable before after result
  pub deeds : Since (G.deeds before) (G.deeds after) (StepAsks (held_of G before) result)

-- What committing these records did, with a line put for each, and the last.
pub record FollowsAll {W : Type 0} (G : Ghosts W) (records : List ShipRecord) (was durable : StoreView) (old new : W) (result : Result (Unit {0}) Followed) : Type 0 where
  pub goes : KeepsFollowing G was durable old new result
  pub kept : OnOk result (durable.bank ≡ bank_behind was.bank (records_as was.header records))
  pub follows : OfTracked G was old (λ store. Follows G (line_bytes was.header.directory.page) (store_number was) store (records_as was.header records) durable old new (followed_of result))

-- and with no last line
pub record KeepsEach {W : Type 0} (G : Ghosts W) (records : List ShipRecord) (was durable : StoreView) (old new : W) (result : Result (Unit {0}) Followed) : Type 0 where
  pub goes : KeepsFollowing G was durable old new result
  pub number : OnOk result (store_number durable ≡ later (store_number was) (length records))
  pub kept : OnOk result (durable.bank ≡ bank_behind was.bank (records_as was.header records))
  pub keeps : OfTracked G was old (λ store. FollowKeeps G (line_bytes was.header.directory.page) (store_number was) store (records_as was.header records) durable old new (followed_of result))

-- and one record
pub record KeepsOne {W : Type 0} (G : Ghosts W) (sent : ShipRecord) (was durable : StoreView) (old new : W) (result : Result (Unit {0}) Followed) : Type 0 where
  pub goes : KeepsFollowing G was durable old new result
  pub usable : OnOk result (durable.bank.spoiled ≡ false)
  pub number : OnOk result (store_number durable ≡ next (store_number was))
  pub kept : OnOk result (durable.bank ≡ bank_with was.bank (record_of (line_bytes was.header.directory.page) sent))
  pub steps : OfTracked G was old (λ store. Steps G (line_bytes was.header.directory.page) (store_number was) store (record_of (line_bytes was.header.directory.page) sent) durable old new result)

-- how a line was put
abbrev pub put_result : {T E : Type 0} → Result T E → Result (Unit {0}) Failed
put_result (Ok done) = well
put_result (Err why) = broken

-- What following a ship text on a store did. A refusal leaves all as it was, and a Done the bank of the commits: a checkpoint comes only in front of
-- a record that doesn't fit. Of a tracked store a crash leaves it at a number of the text from there on, not one before a number that was told.
pub record FollowsShip {W : Type 0} (G : Ghosts W) (ship : Ship) (old new : StoreView) (before after : W) (how : Followed) : Type 0 where
  pub found : FoundOf old.header (ship_content ship) (store_number old) how
  pub refused : (how ≡ Geometry) ⊎ (how ≡ NotKept) ⊎ ((number : ℕ) × (how ≡ Long number)) → (new ≡ old) × (after ≡ before)
  pub only : OnlyGoesOn G before after
  pub ends : FollowEndsBy G before after how
  pub header : new.header ≡ old.header
  pub kept : how ≡ Done → new.bank ≡ bank_behind old.bank (due (ship_content ship) (store_number old))
  pub follows : OfTracked G old before (λ store. Follows G (ship_content ship).line_bytes (store_number old) store (due (ship_content ship) (store_number old)) new before after how)
