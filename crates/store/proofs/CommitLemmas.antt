-- A record that is added behind a checkpoint.
use Rattle.store.proofs.Common.{Option, None, Some, unwrap_or, nat_lt, if◌then◌else◌, Which, RecordLine, Standing, stands, one_more, BankView, area_end, needed_end, begun_of, IsEither, placed, bank_turned, PageSize, emptied, roomy, other, slice_set, number_by_answer, IsKeptAfter, IsMoreBy, SameShape, CountsKept, FailedLeaves, bank_appended, Elapses, FewerLater, Leaves, held_of, leaves_on, OnlyWrites, IsSome, Header, IsSameBut, IsCheckpointOffset, IsCommitOffset, HoldsCommitted, LeavesCommitted, IsApart, with_record, ◌≡◌, inl, inr, ⊎_elim, ℕ, ◌+◌, ◌<◌, ◌≤◌, Bool, true, false, List, [], refl, subst, ◌∙◌, ap, arith, nat_tests, Kept, Ghosts, bank_number, option_map}
use Rattle.store.proofs.HomeLemmas.{but_between, more_offsets}
use Rattle.store.proofs.WriteLemmas.{held_since}
use Rattle.store.proofs.TurnLemmas.{one_more_placed}
use Rattle.store.specs.declared.keep.Kept.TheVariants as keeping

-- the begun record behind another gate
begun_by : (begun : Option (List RecordLine)) (page : PageSize) (at : ℕ) → unwrap_or (option_map (placed page at) begun) [] ≡ placed page at (unwrap_or begun [])
begun_by begun page at = grind (arith, nat_tests)

-- it adds the same to what stands
pub adds_same : (which : Which) (bank : BankView) (first second : Standing) → first ≡ second → one_more (begun_of (bank_turned which bank)) first ≡ one_more (begun_of bank) second
adds_same which bank first second same =
    ap (λ (lines : List RecordLine). one_more lines first) (begun_by bank.begun bank.page _) ∙ one_more_placed bank.page _ (begun_of bank) first ∙ ap (one_more (begun_of bank)) same

pub either_same : (which : Which) (bank : BankView) (held mid image seen : List ℕ) → stands mid ≡ stands held → IsEither (begun_of (bank_turned which bank)) mid image seen → IsEither (begun_of bank) held image seen
either_same which bank held mid image seen same either = ⊎_elim (λ as_was. inl (as_was ∙ same)) (λ more. inr (more ∙ adds_same which bank (stands mid) (stands held) same)) either

-- which bank the record is added to
pub roomy_full : (bank : BankView) → area_end bank < needed_end bank → roomy bank ≡ emptied bank
roomy_full bank full = let is : nat_lt (area_end bank) (needed_end bank) ≡ true = grind (arith, nat_tests) in rw is refl

pub roomy_fits : (bank : BankView) → (area_end bank < needed_end bank → ⊥) → roomy bank ≡ bank
roomy_fits bank fits = let no : nat_lt (area_end bank) (needed_end bank) ≡ false = grind (arith, nat_tests) in rw no refl

-- an append that fits was answered, by what it was
pub answered_by : (append : Option Kept) (kept : Kept) → (append ≡ None → ⊥) → kept ≡ unwrap_or append keeping.Unwritten → append ≡ Some kept
answered_by append kept fits is = grind (arith, nat_tests)

-- what is kept then, and how the disk's count stands behind calls that left it alone
pub kept_after : (kept : Kept) (there old new : BankView) → new ≡ bank_appended (Some kept) there → IsKeptAfter kept there old new
kept_after kept there old new is = grind (arith, nat_tests)

pub counts_on : {W : Type 0} (G : Ghosts W) (before mid after : W) (kept : Kept) → G.disk_faults mid ≡ G.disk_faults before → CountsKept G mid after kept → CountsKept G before after kept
counts_on G before mid after kept same is = grind (arith, nat_tests)

pub shape_on : (old mid new : BankView) → SameShape old mid → SameShape mid new → SameShape old new
shape_on old mid new first later = record { page = later.page ∙ first.page; bank_bytes = later.bank_bytes ∙ first.bank_bytes; lines = later.lines ∙ first.lines }

-- two writes behind some are at least two
pub two_more : (before mid after : Option ℕ) → IsMoreBy 0 before mid → after ≡ option_map (λ count. count + 2) mid → IsMoreBy 2 before after
two_more before mid after more is count told = let now = more count told in (now.0 + 2, is ∙ ap (option_map (λ count. count + 2)) now.1, omega (arith, now.2))

-- what a crash leaves of the record behind a checkpoint
pub failed_behind : {W : Type 0} (G : Ghosts W) (fewer : FewerLater G) (bank those : BankView) (before mid after : W) → Elapses G.moment G.left_since before mid → Elapses G.moment G.left_since mid after → those ≡ emptied bank → stands (held_of G mid) ≡ stands (held_of G before)
    → Leaves G (λ image seen. stands image ≡ stands (held_of G before)) before mid → (kept : Kept) → FailedLeaves G those those mid after kept → FailedLeaves G bank (emptied bank) before after kept
failed_behind G fewer bank those before mid after first later same stood so_far keeping.Done is = tt
failed_behind G fewer bank those before mid after first later same stood so_far keeping.Unwritten is =
    leaves_on G fewer before mid after first later (λ (image seen : List ℕ). stands image ≡ stands (held_of G before)) so_far (λ image seen left. is image seen left ∙ stood)
failed_behind G fewer bank those before mid after first later same stood so_far keeping.Doubt is = λ image seen left.
    subst (λ (that : BankView). stands (slice_set image that.gate 0xA5) ≡ one_more (begun_of that) (stands (held_of G mid))) same (is image seen left) ∙ adds_same (other bank.which) bank (stands (held_of G mid)) (stands (held_of G before)) stood

-- a fact on the same bank and outside
pub carried : {W : Type 0} (P : BankView → W → Type 0) (bank that : BankView) (w v : W) → bank ≡ that → w ≡ v → P bank w → P that v
carried {W} P bank that w v same alike is = subst (λ (those : BankView). P those v) same (subst (λ (x : W). P bank x) alike is)

-- the bytes that are left are those held too
pub leaves_committed : {W : Type 0} (G : Ghosts W) → FewerLater G → ((w : W) (image : List ℕ) → G.held w ≡ Some image → (seen : List ℕ) × G.left_since w (G.moment w) image seen) → (before after : W) → OnlyWrites G before after → IsSome (G.held before)
    → (header : Header) (there bank : BankView) (records : List (List RecordLine)) → HoldsCommitted header bank records (held_of G after) → Leaves G (λ image seen. IsSameBut (IsCommitOffset header there bank records) (held_of G before) image) before after
    → LeavesCommitted G header there bank records before after
leaves_committed G fewer held_now before after only told header there bank records held apart = record {
  held = held;
  stays = held_since G fewer held_now before after only told (IsSameBut (IsCommitOffset header there bank records) (held_of G before)) apart;
  apart = apart;
}

-- the offsets of a checkpoint in front are among those of a commit
pub behind_apart : (header : Header) (bank : BankView) (records : List (List RecordLine)) (old image : List ℕ) → IsSameBut (IsCheckpointOffset header bank.which records) old image → IsSameBut (IsCommitOffset header (emptied bank) bank records) old image
behind_apart header bank records old image is = more_offsets (IsCheckpointOffset header bank.which records) (IsCommitOffset header (emptied bank) bank records) old image (λ at one. inr (refl, one)) is

-- and those of an append
pub appended_apart : (header : Header) (there bank : BankView) (records : List (List RecordLine)) (old image : List ℕ) → IsApart there.gate (needed_end there) old image → IsSameBut (IsCommitOffset header there bank records) old image
appended_apart header there bank records old image apart = but_between (IsCommitOffset header there bank records) there.gate (needed_end there) old image (λ at after inside. inl (after, inside)) apart

-- the number and the records of the bank that a record is added to
roomy_by : (P : BankView → Type 0) (bank : BankView) (full : Bool) → P (emptied bank) → P bank → P (if full then emptied bank else bank)
roomy_by P bank full there here = grind (arith, nat_tests)

roomy_number : (bank : BankView) → bank_number (roomy bank) ≡ bank_number bank
roomy_number bank = grind (arith, nat_tests, roomy_by)

roomy_count : (bank : BankView) → (roomy bank).count ≤ bank.count
roomy_count bank = roomy_by (λ those. those.count ≤ bank.count) bank (nat_lt (area_end bank) (needed_end bank)) (omega arith) (omega arith)

pub number_kept : (kept : Kept) (old new : BankView) → IsKeptAfter kept (roomy old) old new → bank_number new ≡ number_by_answer kept (bank_number old)
number_kept kept old new is = grind (arith, nat_tests, roomy_number)

pub count_kept : (kept : Kept) (old new : BankView) → IsKeptAfter kept (roomy old) old new → new.count ≤ old.count + 1
count_kept kept old new is = grind (arith, nat_tests, roomy_count)

-- behind a commit that went well a bank that wasn't spoiled isn't
pub usable_kept : (old new : BankView) → new ≡ with_record (roomy old) → old.spoiled ≡ false → new.spoiled ≡ false
usable_kept old new is usable =
    ap (λ (bank : BankView). bank.spoiled) is ∙ roomy_by (λ those. those.spoiled ≡ false) old (nat_lt (area_end old) (needed_end old)) usable usable
