-- A run of rows: how far it is, and what a step of it came to.
use Rattle.activations.proofs.Lemmas.{◌≡◌, ◌≤◌, ◌<◌, ◌+◌, ℕ, Some, arith, sym, subst, Activity, Reach, Live, Access, Commit, Check, WasAttempted, IsActivitySound, IsLineShut, with_live, took-either, came-still, came-either, none-yet, attempted-again, strode-one, strode-halted, inl, inr}
use Rattle.romp_cpu.specs.declared.cpu.Attempt.{Attempt}
use Rattle.romp_cpu.specs.declared.storage.Fault.{Fault}
use Rattle.std.specs.Prelude.{None}
use Rattle.activations.proofs.Common.{◌⊎◌, RunsAt, StrodeTo}
use Rattle.activations.specs.Kept.{HasStrode}

-- so many rows were done from what stood first
pub record RunsOn (limit : ℕ) (first : Reach) (initial : Live) (ran : ℕ) (reach : Reach) (live : Live) : Type 0 where
  pub few : ran ≤ limit
  pub strode : (a : Activity) (seat : ℕ) → RunsAt a seat first initial → StrodeTo a seat ran live reach
  pub runs : (a : Activity) × (seat : ℕ) × RunsAt a seat reach live

-- at first none
pub runs-none : (limit : ℕ) (reach : Reach) (live : Live) → ((a : Activity) × (seat : ℕ) × RunsAt a seat reach live) → RunsOn limit reach live 0 reach live
runs-none limit reach live runs = record { few = omega arith; strode = λ a seat at. none-yet a seat reach live at; runs = runs }

module _ {limit ran : ℕ} {first reach new : Reach} {initial live next : Live} (so : RunsOn limit first initial ran reach live) where
  -- a row that took effect is one more
  pub runs-one :
      (attempt : Attempt) → (attempt ≡ Attempt.Went) ⊎ ((byte : ℕ) × (attempt ≡ Attempt.Print byte)) → ran < limit
      → ((a : Activity) (seat : ℕ) → RunsAt a seat reach live → IsActivitySound (with_live a seat next new))
      → ((a : Activity) (seat : ℕ) → RunsAt a seat reach live → WasAttempted attempt a seat (with_live a seat next new))
      → RunsOn limit first initial (ran + 1) new next
  runs-one attempt took below sound went =
      let (b, place, there) = so.runs in
      record {
        few = omega (arith, below);
        strode = λ a seat here. one a seat ran (so.strode a seat here);
        runs = (with_live b place next new, place, (one b place 0 (none-yet b place reach live there)).runs);
      }
    where
      one : (a : Activity) (seat rows : ℕ) → StrodeTo a seat rows live reach → StrodeTo a seat (rows + 1) next new
      one a seat rows at =
          let now = with_live a seat live reach in
          strode-one a seat rows live next reach new at (sound now seat at.runs) (took-either attempt now (with_live now seat next new) seat took (went now seat at.runs))

  -- a fault stops the run, and its access is told
  pub runs-to-fault :
      (fault : Fault) (access : Access)
      → ((a : Activity) (seat : ℕ) → RunsAt a seat reach live → WasAttempted (Attempt.Fault fault access) a seat (with_live a seat next new))
      → HasStrode (ran, Some access) limit first initial new next
  runs-to-fault fault access went = record {
    few = so.few;
    strode = λ a seat here.
        let at = so.strode a seat here in
        strode-halted a seat ran live next reach new at (Attempt.Fault fault access) (went _ seat at.runs) (λ came. came.0);
    stopped = λ none. absurd (cc (none));
    shut = λ other is a seat here.
        let at = so.strode a seat here in
        let (still, shut) = attempted-again a seat ran live next reach new at (Attempt.Fault fault access) (went _ seat at.runs) in
        let same : access ≡ other = cc in
        subst (λ (wants : Access). IsLineShut (with_live a seat next new) seat wants) same (subst (λ (x : Activity). IsLineShut x seat access) (sym still) shut);
  }

  -- so does a commit call, and a check
  pub runs-to-end :
      (attempt : Attempt) → (attempt ≡ Attempt.Commit) ⊎ ((code : ℕ) × (attempt ≡ Attempt.Check code))
      → ((a : Activity) (seat : ℕ) → RunsAt a seat reach live → WasAttempted attempt a seat (with_live a seat next new))
      → HasStrode (ran, None) limit first initial new next
  runs-to-end attempt ends went = record {
    few = so.few;
    strode = λ a seat here.
        let at = so.strode a seat here in
        strode-halted a seat ran live next reach new at attempt (went _ seat at.runs) (came-either attempt (with_live a seat live reach) (with_live a seat next new) seat ends);
    stopped = λ none short a seat here committed long.
        let now = with_live a seat live reach in
        let after = with_live a seat next new in
        let at = so.strode a seat here in
        let came = attempted-again a seat ran live next reach new at attempt (went now seat at.runs) in
        elim ends [
          | inl is ↦ inl (came-still Commit now after seat (subst (λ (one : Attempt). WasAttempted one now seat after) is came) committed long)
          | inr (code, is) ↦ inr (code, came-still (Check code) now after seat (subst (λ (one : Attempt). WasAttempted one now seat after) is came) committed long)
        ];
    shut = λ access is. absurd (cc (is));
  }
