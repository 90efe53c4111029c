-- What shipping records does.
use Rattle.std.specs.Prelude.{◌≡◌, ◌↔◌, ◌<◌, ◌≤◌, ℕ, List, All, length, map, drop, take, slice_get, Some, Result, Ok, Err, IfErr, IfOk, OnErr, OnOk}
use Rattle.standby.specs.Below.{area_bytes, AsksAndPuts, FailsOnlyCounted, Ghosts, held_of, IsRecordAt, IsShown, IsUsable, StoreView, line_bytes, line_count, OnlyAsks, Prints, RecordLine, Rose, total}
use Rattle.standby.specs.Followed.{well, broken, put_result}
use Rattle.standby.specs.TextPut.{CountsPuts}
use Rattle.standby.specs.Read.{feeds}
use Rattle.standby.specs.State.{behind}
use Rattle.standby.specs.Text.{ShipContent, IsContent, later, line_line, record_text, records_text, ship_text, told}
use Rattle.store.specs.declared.find.Record.{Record}
use Rattle.standby.specs.declared.shipping.Shipped.{Shipped}
use Rattle.standby.specs.declared.shipping.Shipped.TheVariants.{Done, NotKept, DiskFault, PutFault}

-- a line of a record has so many bytes
abbrev pub HasBytes : ℕ → RecordLine → Type 0
HasBytes bytes one = (length one.bytes ≡ bytes) × All (λ byte. byte < 256) one.bytes

-- what a text of a store holds that ships from a number, by the records of its bank: those behind it
abbrev pub shipped : StoreView → List (List RecordLine) → ℕ → ShipContent
shipped store records from = record {
  line_bytes = line_bytes store.header.directory.page;
  lines = line_count store.header.directory;
  start = from;
  records = map told (drop (behind store.bank.base from) records);
}

-- a fault stopped it
abbrev pub ShipStopped : Shipped → Type 0
ShipStopped DiskFault = Unit {0}
ShipStopped PutFault = Unit {0}
ShipStopped _ = ⊥

-- how it ended
abbrev pub shipped_of : Result (Unit {0}) Shipped → Shipped
shipped_of (Ok done) = Done
shipped_of (Err why) = why

-- why it ended so: no count rose, or the disk's did, or the screen's
abbrev pub ShipEndsBy : {W : Type 0} → Ghosts W → W → W → Shipped → Type 0
ShipEndsBy G old new DiskFault = Rose (G.disk_faults old) (G.disk_faults new) × (G.put_faults new ≡ G.put_faults old)
ShipEndsBy G old new PutFault = (G.disk_faults new ≡ G.disk_faults old) × Rose (G.put_faults old) (G.put_faults new)
ShipEndsBy G old new _ = (G.disk_faults new ≡ G.disk_faults old) × (G.put_faults new ≡ G.put_faults old)

-- Shipping goes on so, or a fault stopped it: it only asks and puts, and no count rises but that of the fault.
pub record ShipsOn {W : Type 0} (G : Ghosts W) (old new : W) (result : Result (Unit {0}) Shipped) : Type 0 where
  pub only : AsksAndPuts G old new
  pub stopped : IfErr result ShipStopped
  pub ends : ShipEndsBy G old new (shipped_of result)

-- how bytes were put, by a result: all of them, each line by one put, or a first part
abbrev pub ShipPrintsBy : {W T : Type 0} → Ghosts W → List ℕ → W → W → Result T Shipped → Type 0
ShipPrintsBy G bytes old new (Ok done) = Prints (G.printed old) (G.printed new) bytes well × CountsPuts G (feeds bytes) old new
ShipPrintsBy G bytes old new (Err why) = Prints (G.printed old) (G.printed new) bytes broken

-- so many records of a bank that needn't be reopened may be passed, and those behind them shipped
pub record MayShip {W : Type 0} (G : Ghosts W) (durable : StoreView) (count : ℕ) (outside : W) : Type 0 where
  pub store : IsUsable G (total durable.header) durable.bank outside
  pub some : 0 < durable.header.bank_bytes
  pub passed : count ≤ durable.bank.count

-- The place of the gate behind so many records was found, where the bytes show these; the disk is only asked, and its count tells of a failure.
pub record FindsPlace {W : Type 0} (G : Ghosts W) (durable : StoreView) (count : ℕ) (old new : W) (result : Result ℕ Shipped) : Type 0 where
  pub asks : OnlyAsks G old new
  pub only : OnErr result (result ≡ Err DiskFault)
  pub cause : FailsOnlyCounted (G.disk_faults old) (G.disk_faults new) (put_result result)
  pub inside : IfOk result (λ place. place < durable.header.bank_bytes)
  pub place : IfOk result (λ place. (shown : IsShown G durable old) → place ≡ area_bytes durable.bank.page (take count shown.shows.read.records))

-- Shipping goes on so, and of what the bytes show there the text is put, and it has its bytes.
pub record ShipsText {W T : Type 0} (G : Ghosts W) (Of : (T → Type 0) → Type 0) (text : T → List ℕ) (Has : T → Type 0) (old new : W) (result : Result (Unit {0}) Shipped) : Type 0 where
  pub goes : ShipsOn G old new result
  pub prints : Of (λ one. ShipPrintsBy G (text one) old new result)
  pub bytes : OnOk result (Of Has)

-- so it is with what a store ships from a number; the records behind the first few, where these take so many bytes; a record with its number; and a line of it
abbrev pub ShipsContent : {W : Type 0} → Ghosts W → StoreView → (from : ℕ) → W → W → Result (Unit {0}) Shipped → Type 0
ShipsContent G durable from old = ShipsText G (λ P. (shown : IsShown G durable old) → P (shipped durable shown.shows.read.records from)) ship_text IsContent old

abbrev pub ShipsRecords : {W : Type 0} → Ghosts W → StoreView → (passed place : ℕ) → W → W → Result (Unit {0}) Shipped → Type 0
ShipsRecords G durable passed place old =
    ShipsText G (λ P. (shown : IsShown G durable old) → place ≡ area_bytes durable.bank.page (take passed shown.shows.read.records) → P (drop passed shown.shows.read.records))
    (λ records. records_text (later durable.bank.base passed) (map told records)) (λ records. All (λ lines. All (HasBytes (line_bytes durable.header.directory.page)) lines) records) old

abbrev pub ShipsRecord : {W : Type 0} → Ghosts W → StoreView → (number : ℕ) → Record → W → W → Result (Unit {0}) Shipped → Type 0
ShipsRecord G durable number entry old =
    ShipsText G (λ P. IsShown G durable old → (at : IsRecordAt (held_of G old) durable.bank entry.place) → entry.count ≡ length at.lines → P at.lines)
    (λ lines. record_text number (told lines)) (λ lines. All (HasBytes (line_bytes durable.header.directory.page)) lines) old

abbrev pub ShipsLine : {W : Type 0} → Ghosts W → StoreView → Record → (index : ℕ) → W → W → Result (Unit {0}) Shipped → Type 0
ShipsLine G durable entry index old =
    ShipsText G (λ P. IsShown G durable old → (at : IsRecordAt (held_of G old) durable.bank entry.place) → entry.count ≡ length at.lines → (one : RecordLine) → slice_get at.lines index ≡ Some one → P one)
    (λ one. line_line one.line one.bytes) (HasBytes (line_bytes durable.header.directory.page)) old

-- how a text was put, by the end; where it wasn't to be nothing was called
abbrev pub ShipsBy : {W : Type 0} → Ghosts W → List ℕ → W → W → Shipped → Type 0
ShipsBy G bytes old new Done = Prints (G.printed old) (G.printed new) bytes well × CountsPuts G (feeds bytes) old new
ShipsBy G bytes old new NotKept = new ≡ old
ShipsBy G bytes old new _ = Prints (G.printed old) (G.printed new) bytes broken

-- What shipping a store's records behind a number did. NotKept puts nothing; of a store that bytes show their text is printed, or a first part of it.
pub record ShipsStore {W : Type 0} (G : Ghosts W) (store : StoreView) (from : ℕ) (before after : W) (how : Shipped) : Type 0 where
  pub not_kept : how ≡ NotKept ↔ (store.bank.count < behind store.bank.base from)
  pub refused : how ≡ NotKept → after ≡ before
  pub only : AsksAndPuts G before after
  pub ends : ShipEndsBy G before after how
  pub ships : (shown : IsShown G store before) → ShipsBy G (ship_text (shipped store shown.shows.read.records from)) before after how
  pub content : how ≡ Done → (shown : IsShown G store before) → IsContent (shipped store shown.shows.read.records from)
