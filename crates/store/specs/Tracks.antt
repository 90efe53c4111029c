-- What a bank that is kept says of the bytes on the disk.
use Rattle.std.specs.Prelude.{◌≡◌, ◌⊎◌, ℕ, List, [], ◌∷◌, ◌++◌, length, take}
use Rattle.store.specs.Below.{Ghosts, Header, header_of, held_of, IsStore, IsSure, line_count, one_more, RecordLine, stands, Which}
use Rattle.store.specs.Kept.{BankView, begun_of, AreNewest}

-- The bytes held are sure and stand, and what is kept is what they say of their chosen bank.
pub record TracksBank {W : Type 0} (G : Ghosts W) (bank : BankView) (outside : W) : Type 0 where
  pub sure : IsSure G outside
  pub header : Header
  pub records : List (List RecordLine)
  pub store : IsStore (held_of G outside) header bank.which bank.base bank.gate records
  pub page : header.directory.page ≡ bank.page
  pub bank_bytes : header.bank_bytes ≡ bank.bank_bytes
  pub bound : line_count header.directory ≡ length bank.newest
  pub count : length records ≡ bank.count
  pub newest : AreNewest bank.newest records

-- an image stands for what another one stands for, or for that with these lines as one record more
abbrev pub IsEither : List RecordLine → List ℕ → List ℕ → List ℕ → Type 0
IsEither lines held image seen = (stands image ≡ stands held) ⊎ (stands image ≡ one_more lines (stands held))

-- the bytes are a store with this header, which chooses this bank, and the bank has this base number and holds these records
pub record HoldsRecords (header : Header) (which : Which) (base : ℕ) (records : List (List RecordLine)) (held : List ℕ) : Type 0 where
  pub gate : ℕ
  pub store : IsStore held header which base gate records

-- the same with these records, or with one record more
abbrev pub HoldsOneOf : Header → Which → ℕ → List (List RecordLine) → List RecordLine → List ℕ → Type 0
HoldsOneOf header which base records lines held = HoldsRecords header which base records held ⊎ HoldsRecords header which base (records ++ lines ∷ []) held

-- the begun record was added, the header is the same, and the bank is tracked
pub record IsAppended {W : Type 0} (G : Ghosts W) (old_bank bank : BankView) (old new : W) : Type 0 where
  pub tracks : TracksBank G bank new
  pub stood : stands (held_of G new) ≡ one_more (begun_of old_bank) (stands (held_of G old))
  pub header : header_of (take 128 (held_of G new)) ≡ header_of (take 128 (held_of G old))
