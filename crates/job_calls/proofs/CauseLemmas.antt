-- The statuses of a run on a disk, by how it was opened and how it ended.
use Rattle.job_calls.proofs.Common.{◌≡◌, ℕ, refl, ◌∙◌, ap, false, Option, Some, IsSome, IsTrue, Ghosts, Rose, held_of, Header, chosen, HasStood, SessionState, ghosts, Replayed, IfOk, FailsOnlyCounted, GoesBy, way_of, Status, status_of_replay, OpensBy, IsStanding, WentThrough}
use Rattle.store_format.specs.Bank.{Faulty, bank_of}
use Rattle.schedule_replay.specs.declared.events.Replayed.TheVariants as replayed

same-offset : (one two : ℕ) → Status.Store one ≡ Status.Store two → one ≡ two
same-offset one two is = cc

-- a status that is no store's fault
pub opens_past : {W : Type 0} (G : Ghosts W) (before after : W) (now : Status) (session : Option SessionState) → ((offset : ℕ) → now ≡ Status.Store offset → ⊥) → (WentThrough now → IsSome (G.held before) → IsStanding (held_of G before)) → OpensBy G before after now session
opens_past G before after now session other stood = record {
  at_opening = λ none offset same told. absurd (other offset same);
  at_crash = λ some offset same told still. absurd (other offset same);
  store = stood;
  never = λ honest told standing offset same. other offset same;
}

-- a store that was opened, and what was replayed on it
pub opens-by : {W : Type 0} (G : Ghosts W) (before start now : W) (desk new : SessionState) (result : Replayed) → (IsSome (G.held before) → HasStood desk.store.header (held_of G before))
    → IfOk (way_of result) (GoesBy ghosts G desk new start now) → ((offset : ℕ) → result ≡ Replayed.Damaged offset → IsTrue (G.is_honest before) → IsSome (G.held before) → ⊥) → OpensBy G before now (status_of_replay result) (Some new)
opens-by G before start now desk new replayed.Ended stood ends undamaged = opens_past G before now Status.Done (Some new) (λ offset same. cc) (λ past told. (stood told).1)
opens-by G before start now desk new replayed.Closed stood ends undamaged = opens_past G before now Status.DiskFault (Some new) (λ offset same. cc) (λ past. absurd past)
opens-by G before start now desk new (replayed.Damaged at) stood ends undamaged = record {
  at_opening = λ none. absurd cc;
  at_crash = λ some offset same told still.
      ap (λ (header : Header). bank_of (held_of G now) header (chosen (held_of G now))) (stood told).0
      ∙ ends.1 still
      ∙ ap Faulty (same-offset at offset same);
  store = λ past. absurd past;
  never = λ honest told standing offset same. undamaged at refl honest told;
}
opens-by G before start now desk new replayed.PutFault stood ends undamaged = opens_past G before now Status.PutFault (Some new) (λ offset same. cc) (λ past told. (stood told).1)

-- puts that all went well
pub put-same : (start now : ℕ) (result : Replayed) → FailsOnlyCounted start now (way_of result) → (status_of_replay result ≡ Status.PutFault → ⊥) → now ≡ start
put-same start now replayed.PutFault cause un = absurd (un refl)
put-same start now _ cause un = cause.done

-- a put that failed, and a disk that did
pub put-rose : (start now : ℕ) (result : Replayed) → FailsOnlyCounted start now (way_of result) → status_of_replay result ≡ Status.PutFault → Rose start now
put-rose start now replayed.PutFault cause is = cause.failed
put-rose start now _ cause is = absurd cc

pub disk-rose : {W : Type 0} (G : Ghosts W) (start now : W) (desk new : SessionState) (result : Replayed) → desk.closed ≡ false → IfOk (way_of result) (GoesBy ghosts G desk new start now) → status_of_replay result ≡ Status.DiskFault → Rose (G.disk_faults start) (G.disk_faults now)
disk-rose G start now desk new replayed.Closed still ends is = ends.1 still
disk-rose G start now desk new _ still ends is = absurd cc
