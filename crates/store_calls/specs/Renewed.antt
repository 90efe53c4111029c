-- A store of version 2 with what a store of version 1 has.
use Rattle.std.specs.Prelude.{◌≡◌, ◌≢◌, ◌⊎◌, ℕ, ◌+◌, ◌*◌, ◌/◌, ◌%◌, ◌^◌, ◌<◌, nat_eq, if◌then◌else◌, Bool, List, [], ◌∷◌, ◌++◌, codes, decimal, length, map, sum_by, take, drop, replicate, IfErr, MatchResult, OnOk, Result}
use Rattle.store_calls.specs.Below.{bytes_of, Called, Damaged, flat_of, FlatStore, Four, front, Ghosts, Given, HasRead, Header, IsAll, KeptStore, NotAStore, OnlyAsks, Rose, Standing, Stands, stands, starts_with, Status, Two}
use Rattle.lines.specs.Legal.{AreSegmentsLegal}
use Rattle.call_status.specs.declared.status.Status.TheVariants as status
use Rattle.store_calls.specs.New.{IsOfNew, Written}

-- each segment with half its pages, rounded up
abbrev pub widened_segments : List (ℕ × ℕ) → List (ℕ × ℕ)
widened_segments segments = map (λ segment. (segment.0, (segment.1 + 1) / 2)) segments

-- the bytes of each segment, with zeros behind them up to a whole page of 4,096 bytes
abbrev pub widened_bytes : List (ℕ × ℕ) → List ℕ → List ℕ
widened_bytes [] bytes = []
widened_bytes (segment ∷ segments) bytes =
    (take (segment.1 * 2048) bytes ++ replicate (segment.1 % 2 * 2048) 0) ++ widened_bytes segments (drop (segment.1 * 2048) bytes)

-- a store with pages of 2,048 bytes as one with pages of 4,096, none of them fine
abbrev pub store_widened : FlatStore → FlatStore
store_widened store = record {
  directory = record { page = Four; segments = widened_segments store.directory.segments; fine = 0 };
  bytes = widened_bytes store.directory.segments store.bytes;
}

-- whether bytes begin with a store's name and version 2
abbrev pub is_version_two : List ℕ → Bool
is_version_two bytes = starts_with nat_eq bytes (codes "801STORE" ++ 0 ∷ 2 ∷ [])

-- what bytes stand for as a store of version 1: version 2 is a wrong field there
abbrev pub standing_as_one : List ℕ → Standing
standing_as_one bytes = if is_version_two bytes then NotAStore 8 else stands bytes

-- the header of the new store, with a bank of so many bytes
abbrev pub renewed_header : ℕ → FlatStore → Header
renewed_header bank store = record { directory = (store_widened store).directory; bank_bytes = bank }

-- its image: both banks hold nothing, at the old store's number
abbrev pub renewed_image : (bank number : ℕ) → FlatStore → List ℕ
renewed_image bank number store = front (renewed_header bank store) number ++ (store_widened store).bytes

-- the line of a renewed store: how many bytes it has, and its number
abbrev pub renew_line : (bytes number : ℕ) → List ℕ
renew_line bytes number = codes "renew " ++ decimal bytes ++ codes " at " ++ decimal number ++ codes "\n"

-- The source had a store of version 1, whole, and the image of the widened store, which stands for it, was written and told.
pub record IsRenewed {W : Type 0} (G : Ghosts W) (bank : ℕ) (given : Given) (call : Called W) : Type 0 where
  pub text : List ℕ
  pub whole : IsAll 4194304 given.left given.left_now text
  pub number : ℕ
  pub store : FlatStore
  pub stood : standing_as_one text ≡ Stands number store
  pub stands : stands (renewed_image bank number store) ≡ Stands number (store_widened store)
  pub written : Written G (renewed_image bank number store) (renew_line (length (renewed_image bank number store)) number) call

-- The source had a store of version 1, whole.
pub record HasOne (given : Given) (kept : KeptStore) : Type 0 where
  pub text : List ℕ
  pub whole : IsAll 4194304 given.left given.left_now text
  pub stood : standing_as_one text ≡ Stands kept.number (flat_of kept)
  pub small : kept.directory.page ≡ Two
  pub legal : AreSegmentsLegal kept.directory.segments
  pub low : kept.number < 2 ^ 64
  pub bytes : length kept.store.items ≡ sum_by (bytes_of 2048) kept.directory.segments

-- bytes are no store of version 1, at this offset
abbrev pub IsNotOne : List ℕ → ℕ → Type 0
IsNotOne text offset = (standing_as_one text ≡ NotAStore offset) ⊎ (standing_as_one text ≡ Damaged offset)

-- why it had none, by the status
abbrev pub IsNoOne : Given → Status → Type 0
IsNoOne given status.SourceFault = Rose given.faults given.faults_now
IsNoOne given status.TooBig = HasRead given.left given.left_now 4194305
IsNoOne given (status.Store offset) = (text : List ℕ) × IsAll 4194304 given.left given.left_now text × IsNotOne text offset
IsNoOne given status.NoMemory = Unit {0}
IsNoOne given _ = ⊥

-- the source had one, or why it hadn't; its count of faults rises with SourceFault alone
pub record GivesOne (given : Given) (result : Result KeptStore Status) : Type 0 where
  pub has : MatchResult result (HasOne given) (IsNoOne given)
  pub unfailed : OnOk result (given.faults_now ≡ given.faults)
  pub calm : IfErr result (λ now. now ≢ status.SourceFault → given.faults_now ≡ given.faults)

-- what renewing did, by the status: a source that fails, gives too much or has no store of version 1 leaves the disk alone
abbrev pub RenewedBy : {W : Type 0} → Ghosts W → (bank : ℕ) → Given → Called W → Status → Type 0
RenewedBy G bank given call status.SourceFault = (call.after ≡ call.before) × IsNoOne given status.SourceFault
RenewedBy G bank given call status.TooBig = (call.after ≡ call.before) × IsNoOne given status.TooBig
RenewedBy G bank given call (status.Store offset) = (call.after ≡ call.before) × IsNoOne given (status.Store offset)
RenewedBy G bank given call status.NoMemory = OnlyAsks G call.before call.after
RenewedBy G bank given call _ = IsRenewed G bank given call

-- what it did; there is no order, the disk's count of faults rises with DiskFault alone, and the source's with SourceFault alone
pub record Renewed {W : Type 0} (G : Ghosts W) (bank : ℕ) (given : Given) (call : Called W) : Type 0 where
  pub no_order : call.order ≡ []
  pub calm : call.status ≢ status.DiskFault → G.disk_faults call.after ≡ G.disk_faults call.before
  pub source_calm : call.status ≢ status.SourceFault → given.faults_now ≡ given.faults
  pub by_status : RenewedBy G bank given call call.status

-- a status of renewing a store
abbrev pub IsOfRenew : Status → Type 0
IsOfRenew (status.Store offset) = Unit {0}
IsOfRenew status.SourceFault = Unit {0}
IsOfRenew status.TooBig = Unit {0}
IsOfRenew other = IsOfNew other
