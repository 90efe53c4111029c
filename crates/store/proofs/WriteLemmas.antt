-- Calls that write, one after another, and what a crash leaves of them.
use Rattle.store.proofs.Common.{◌≡◌, ℕ, ◌+◌, ◌≤◌, List, ◌∷◌, length, ◌∙◌, ap, arith, length-append, ForSome, length-take, length-drop, Ghosts, Failed, Writes, CountsWrite, written, OnlyAsks, FewerLater, held_of, told_some, calls_none, calls_on, still_told, Option, Some, IsSome, IsTrue, Result, Ok, nat_tests, ⊎_elim, [], Elapses, LeavesStep, IsDurable, Leaves, IsSure, OnlyWrites, unwrap_or, IsMoreBy, WritesOnce, CallsOnce, MayTear, AsksSo, Carries, Deed, Wrote}
use Rattle.outside.specs.Causes.{CountsOwn}

pub more_on : (a b : ℕ) (old mid new : Option ℕ) → IsMoreBy a old mid → IsMoreBy b mid new → IsMoreBy (a + b) old new
more_on a b old mid new first second before is = grind (arith, nat_tests, first)

same_fewer : (old new : Option ℕ) → new ≡ old → IsMoreBy 0 old new
same_fewer old new same before is = (before, same ∙ is, omega arith)

-- the writes that a call counts
counted_fewer : {T : Type 0} (old new : Option ℕ) (result : Result T Failed) → CountsWrite old new result → IsMoreBy 0 old new
counted_fewer old new result counts before is = grind (arith, nat_tests, same_fewer)

-- the bytes that a write leaves are no fewer
written_longer : {T : Type 0} (old new : Option (List ℕ)) (at : ℕ) (bytes : List ℕ) (result : Result T Failed) (count : ℕ) → Writes old new at bytes result → ForSome old (λ held. count ≤ length held) → ForSome new (λ held. count ≤ length held)
written_longer old new at bytes result count writes room held is = grind (arith, nat_tests, written, room, length-append, length-take, length-drop)

module _ {W : Type 0} (G : Ghosts W) (fewer_later : FewerLater G) (old mid new : W) where
  pub writes_on : OnlyWrites G old mid → OnlyWrites G mid new → OnlyWrites G old new
  writes_on first second = record {
    calls = calls_on G fewer_later old mid new first.calls.time second.calls.time first.calls second.calls;
    told = λ told. second.told (first.told told);
    longer = λ count room. second.longer count (first.longer count room);
    writes = more_on 0 0 (G.writes old) (G.writes mid) (G.writes new) first.writes second.writes;
  }

-- calls that only ask
pub asks_only : {W : Type 0} (G : Ghosts W) {D : (before after : Option (List Deed)) → Type 0} (old new : W) → AsksSo G D old new → OnlyWrites G old new
asks_only G old new asks = grind (arith, nat_tests, same_fewer)

-- a call that writes
pub once : {W : Type 0} (G : Ghosts W) {T : Type 0} (at : ℕ) (bytes : List ℕ) (old new : W) (result : Result T Failed) → Writes (G.held old) (G.held new) at bytes result → CountsWrite (G.writes old) (G.writes new) result
    → CallsOnce G.printed G.is_honest G.moment G.left_since old new → MayTear G.held G.is_honest G.moment G.left_since at (length bytes) old new → CountsOwn G.disk_faults G.put_faults old new result → Carries (G.deeds old) (G.deeds new) (Wrote at bytes ∷ []) result → WritesOnce G at bytes old new result
once G at bytes old new result written counted call crash counts deeds = record {
  only = record {
    calls = record { quiet = call.quiet; honest = call.honest; time = call.time; disk = counts.cause.later; put = counts.other; puts = call.once.puts };
    told = λ told. still_told (G.held old) (G.held new) at bytes result told written;
    longer = λ count room. written_longer (G.held old) (G.held new) at bytes result count written room;
    writes = counted_fewer (G.writes old) (G.writes new) result counted;
  };
  written = written;
  counted = counted;
  crash = crash;
  cause = counts.cause;
  deeds = deeds;
}

-- the bytes held are what a crash of now may leave
pub held_left : {W : Type 0} (G : Ghosts W) → ((w : W) (image : List ℕ) → G.held w ≡ Some image → (seen : List ℕ) × G.left_since w (G.moment w) image seen) → (now : W) → IsSome (G.held now)
    → (seen : List ℕ) × G.left_since now (G.moment now) (held_of G now) seen
held_left G held_now now told = held_now now (held_of G now) (told_some (G.held now) told)

-- no call at all
pub wrote_nothing : {W : Type 0} (G : Ghosts W) (now : W) → OnlyWrites G now now
wrote_nothing G now = grind (arith, nat_tests, calls_none, same_fewer)

module _ {W : Type 0} (G : Ghosts W) (fewer_later : FewerLater G) (old mid new : W) (before : Elapses G.moment G.left_since old mid) (time : Elapses G.moment G.left_since mid new) where
  -- each image after a step is one of those before it
  pub leaves_step : (P Q : List ℕ → List ℕ → Type 0) (step : List ℕ → List ℕ → Type 0) → Leaves G P old mid → LeavesStep step G.moment G.left_since mid new
      → ((image seen : List ℕ) → P image seen → Q image seen) → ((start image seen : List ℕ) → P start seen → step start image → Q image seen) → Leaves G Q old new
  leaves_step P Q step so_far follows same goes image seen left = grind (arith, nat_tests)

  -- a step after calls that only ask
  pub follows_asked : (step : List ℕ → List ℕ → Type 0) → ((image : List ℕ) → step image image) → IsSome (G.held old) → OnlyAsks G old mid → LeavesStep step G.moment G.left_since mid new → LeavesStep step G.moment G.left_since old new
  follows_asked step stays told asks follows image seen left =
      ⊎_elim (λ past. (image, asks.crash told image seen past, stays image))
      (λ since. let from = follows image seen since in (from.0, asks.crash told from.0 seen (fewer_later mid (G.moment old) (G.moment mid) from.0 seen before.later from.1), from.2))
      (time.nothing_else (G.moment old) image seen before.later left)

-- the bytes held are one of the images since a start
pub held_since : {W : Type 0} (G : Ghosts W) → FewerLater G → ((w : W) (image : List ℕ) → G.held w ≡ Some image → (seen : List ℕ) × G.left_since w (G.moment w) image seen) → (old new : W) → OnlyWrites G old new → IsSome (G.held old)
    → (P : List ℕ → Type 0) → Leaves G (λ image seen. P image) old new → P (held_of G new)
held_since G fewer_later held_now old new only told P leaves =
    let now = held_left G held_now new (only.told told) in
    leaves (held_of G new) now.0 (fewer_later new (G.moment old) (G.moment new) (held_of G new) now.0 only.calls.time.later now.1)

-- the bytes held are the same after calls that only ask
pub same_held : {W : Type 0} (G : Ghosts W) {D : (before after : Option (List Deed)) → Type 0} (old new : W) → AsksSo G D old new → held_of G new ≡ held_of G old
same_held G old new asks = ap (λ (those : Option (List ℕ)). unwrap_or those []) asks.held

-- what is held after a write that succeeded
pub written_held : {T : Type 0} (old new : Option (List ℕ)) (at : ℕ) (bytes : List ℕ) (done : T) → IsSome old → Writes {T = T} old new at bytes (Ok done) → unwrap_or new [] ≡ written (unwrap_or old []) at bytes
written_held old new at bytes done told writes = grind (arith, nat_tests)

-- bytes are sure after a sync that succeeded
pub synced_sure : {W : Type 0} (G : Ghosts W) {D : (before after : Option (List Deed)) → Type 0} (old new : W) → AsksSo G D old new → IsTrue (G.is_honest old) → IsSome (G.held old) → IsDurable G.moment G.left_since G.held new → IsSure G new
synced_sure G old new asks honest told durable = grind (arith, nat_tests)
