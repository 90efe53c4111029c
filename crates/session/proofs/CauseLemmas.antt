-- Why a begin is answered so, and where a turn closes.
use Rattle.session.proofs.Common.{◌≡◌, ◌≤◌, ℕ, length, arith, sym, subst, List, Option, Some, None, refl, true, has, Ghosts, FewerLater, OnlyAsks, asks_none, asks_on, Kept, begun_of, StoreView, with_begun, next_seat, number_in, few-taken, Header, total, OnlyWrites, HoldsStore, Begun, TurnEnd, CallsStore, FailsCounted, turn_fails, Activity, begin_answer, begins_by, Tally, IsEndOfRows, IfJournal, SessionState, activity, IsBeginAnswer, lacking, TellsNumber, IsTurnEnd, turn_answer, IsFailedCommit, ClosesInCommit, LeavesStore, IsCommitEnd}
use Rattle.seats.proofs.Ascending.{none-free}
use Rattle.activations.specs.Recorded.{IsRecordOf}
use Rattle.activations.proofs.BeginLemmas.{some-next}
use Rattle.activations.specs.Follows as running

none-next : (a : Activity) → running.IsActivitySound a → next_seat a.seating ≡ None → 16 ≤ length a.seating.taken
unfolding next_seat
none-next a sound none = none-free (number_in a.seating) a.seating.taken sound.seating.ascending none

module _ (a : Activity) (program : ℕ) (args : List ℕ) (sound : running.IsActivitySound a) where
  answered-by : (free absent : Option ℕ) → next_seat a.seating ≡ free → lacking a program ≡ absent → IsBeginAnswer a program (begins_by free absent a program args).0
  answered-by free absent is lacks =
      let full = none-next a sound in let few = few-taken a.seating sound.seating in
      let room = λ (seat : ℕ) (found : next_seat a.seating ≡ Some seat). (some-next a seat sound found).2 in
      grind (arith, full, few, room)

  -- the answer to a begin of an open session has its cause
  pub answered : (answer : Begun) → answer ≡ (begin_answer a program args).0 → IsBeginAnswer a program answer
  answered answer is = subst (IsBeginAnswer a program) (sym is) (answered-by (next_seat a.seating) (lacking a program) refl refl)

-- a call that wrote the banks of a store alone keeps it
pub calls-store : {W : Type 0} (G : Ghosts W) (was now : Header) (before after : W) → now ≡ was → OnlyWrites G before after → HoldsStore G was before → CallsStore G now before after
calls-store G was now before after same only bytes = record { calls = only.calls; told = only.told; bytes = subst (λ (header : Header). HoldsStore G header after) (sym same) (only.longer (total was) bytes) }

-- an end of rows tells of a failed disk just where the count rose, and tells no number
module _ {W : Type 0} (G : Ghosts W) (before after : W) (old new : Tally) (ends : TurnEnd) (rows : IsEndOfRows G before after old new ends) where
  pub rows-counted : FailsCounted (turn_fails ends) (G.disk_faults before) (G.disk_faults after)
  rows-counted = grind arith

  pub rows-number : (activation number : ℕ) → TellsNumber activation number ends
  rows-number activation number = grind arith

-- the end of a commit has its cause
pub commit-told : (activation limit most number : ℕ) (tally : Tally) (ends : TurnEnd) → tally.ran ≤ limit → IsCommitEnd ends → IfJournal most ends → TellsNumber activation number ends → IsTurnEnd activation limit most number (turn_answer tally ends)
commit-told activation limit most number tally ends few is journal numbered = grind arith

-- the commit of who sits in a seat failed, from this very moment on
pub closes-now : {W : Type 0} (G : Ghosts W) (s n : SessionState) (seat : ℕ) (answer : Kept) (store : StoreView) (before after : W) → has (activity s).seating.taken seat ≡ true → activity n ≡ activity s
    → store ≡ with_begun s.store (begun_of store.bank) → IsRecordOf (activity s) seat (begun_of store.bank) → IsFailedCommit G answer store n.store before after
    → ClosesInCommit G (number_in (activity s).seating seat) answer s.store n before after
closes-now G s n seat answer store before after taken same begun recorded failed = grind (arith, same, taken, asks_none G before, recorded, begun, failed)

-- and the disk was only asked before it
module _ {W : Type 0} (G : Ghosts W) (fewer_later : FewerLater G) (activation : ℕ) (store : StoreView) (new : SessionState) (before between after : W) (asks : OnlyAsks G before between) (calm : G.disk_faults between ≡ G.disk_faults before) where
  closes-later : (answer : Kept) → ClosesInCommit G activation answer store new between after → ClosesInCommit G activation answer store new before after
  closes-later answer closes = grind (arith, asks_on G fewer_later before between closes.begun asks closes.asks, closes, calm)

  pub leaves-since : (ends : TurnEnd) → LeavesStore G activation ends store new between after → LeavesStore G activation ends store new before after
  leaves-since ends leaves = grind (arith, closes-later)
