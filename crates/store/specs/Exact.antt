-- What keeping a record, a checkpoint and a commit of a bank that is kept ask of the disk: each write with its place and bytes, and each sync, in order.
use Rattle.std.specs.Prelude.{◌≡◌, ◌⊎◌, ℕ, ◌+◌, ◌%◌, ◌^◌, List, [], ◌∷◌, ◌++◌, length, Option, None, slice_index_or}
use Rattle.store.specs.Below.{B, body_deeds, gate_deeds, Header, home_deeds, IsBody, other, record_bytes, turn_deeds, Deed, Did, DidSome, Wrote, CommitDeeds, DoubtedDeeds, UnwrittenDeeds}
use Rattle.store.specs.declared.keep.Kept.{Kept}
use Rattle.store.specs.declared.keep.Kept.TheVariants.{Done, Unwritten, Doubt}
use Rattle.store.specs.Kept.{BankView, bank_number, bank_place, begun_of, end_of}
use Rattle.store.specs.Turned.{bank_turned}

-- What was asked to keep a body behind a gate: at Unwritten no call at the gate was made; at Doubt the body's two went well.
abbrev pub KeepsDeeds : (before after : Option (List Deed)) → (gate : ℕ) (body : List ℕ) → Kept → Type 0
KeepsDeeds before after gate body Done = Did before after (body_deeds gate body ++ gate_deeds gate)
KeepsDeeds before after gate body Unwritten = DidSome before after (body_deeds gate body)
KeepsDeeds before after gate body Doubt = (mid : Option (List Deed)) × Did before mid (body_deeds gate body) × DidSome mid after (gate_deeds gate)

-- the body has the bytes of the bank's begun record: its count, its number, its lines, and a closed gate
abbrev pub IsRecordBody : BankView → List ℕ → Type 0
IsRecordBody bank body = IsBody bank.page (length bank.newest) ((bank_number bank + 1) % 2 ^ 64) bank.gate (length (begun_of bank)) (begun_of bank) body

-- and it was kept behind the bank's gate
abbrev pub KeepsRecord : (before after : Option (List Deed)) → BankView → Kept → Type 0
KeepsRecord before after bank kept = (body : List ℕ) × IsRecordBody bank body × KeepsDeeds before after bank.gate body kept

-- the newest bytes of a bank's first lines, each to its home
abbrev pub homes_written : BankView → List ℕ → (upto : ℕ) → List Deed
homes_written bank held upto = home_deeds bank.page (end_of B bank.bank_bytes) (λ line. slice_index_or bank.newest line None) held upto

-- the other bank is turned to
abbrev pub turn_written : BankView → List Deed
turn_written bank = turn_deeds (other bank.which) (bank_place (other bank.which) bank.bank_bytes) (bank_number bank)

-- a checkpoint of a bank, over these bytes
abbrev pub checkpoint_deeds : BankView → List ℕ → List Deed
checkpoint_deeds bank held = homes_written bank held (length bank.newest) ++ turn_written bank

-- What a commit asked: the record, in the bank; or in the other one, behind a checkpoint; or that failed, and nothing of the record was asked.
abbrev pub CommitsDeeds : (before after : Option (List Deed)) → (there bank : BankView) → List ℕ → Kept → Type 0
CommitsDeeds before after there bank held kept =
    ((there ≡ bank) × KeepsRecord before after bank kept)
    ⊎ ((there ≡ bank_turned (other bank.which) bank)
    × (((mid : Option (List Deed)) × Did before mid (checkpoint_deeds bank held) × KeepsRecord mid after there kept)
    ⊎ ((kept ≡ Unwritten) × DidSome before after (checkpoint_deeds bank held))))

-- The same by the bytes of the store alone: what a commit asks that ends so.
abbrev pub KeptAsks : Header → List ℕ → Kept → List Deed → Type 0
KeptAsks header held Done deeds = CommitDeeds header held deeds
KeptAsks header held Unwritten deeds = UnwrittenDeeds header held deeds
KeptAsks header held Doubt deeds = DoubtedDeeds header held deeds

-- how many bytes these write
abbrev pub bytes_written : List Deed → ℕ
bytes_written [] = 0
bytes_written (Wrote at bytes ∷ deeds) = length bytes + bytes_written deeds
bytes_written (_ ∷ deeds) = bytes_written deeds

-- The law of a record's cost: two writes and two syncs, of as many bytes as the record has with its lines, and one for the gate.
abbrev pub RecordCosts : Type 0
RecordCosts =
    (bank : BankView) (body : List ℕ) → IsRecordBody bank body
    → (length (body_deeds bank.gate body ++ gate_deeds bank.gate) ≡ 4) × (bytes_written (body_deeds bank.gate body ++ gate_deeds bank.gate) ≡ record_bytes bank.page (length (begun_of bank)) + 1)
