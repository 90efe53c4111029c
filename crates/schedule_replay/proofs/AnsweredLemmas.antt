-- Events, one after another.
use Rattle.schedule_replay.proofs.Common.{◌≡◌, ℕ, ◌+◌, ◌<◌, ◌≤◌, List, [], ◌∷◌, ◌++◌, length, get_or, take, drop, cond, sym, ◌∙◌, ap, subst, arith, false, Result, Ok, IsErr, take_all, take_more, take-append-drop, sum_by-append, Failed, Ghosts, FailsOnlyCounted, cause_since, FewerLater, elapses-trans, Event, HoldsStore, ReportLine, Going, is_begin, is_turn, begins_in, turns_in, MayBeAsked, Answered, GoesBy, GoesShut, Puts, nat_tests}
use Rattle.desk.specs.declared.supervisor.Supervisor as desk
use Rattle.schedule_replay.specs.declared.events.Going.TheVariants as going
use Rattle.schedule_replay.proofs.PutsLemmas.{done}

begins_split : (xs ys : List Event) → begins_in (xs ++ ys) ≡ begins_in xs + begins_in ys
begins_split xs ys = sum_by-append (λ event. cond (is_begin event) 1 0) xs ys

turns_split : (xs ys : List Event) → turns_in (xs ++ ys) ≡ turns_in xs + turns_in ys
turns_split xs ys = sum_by-append (λ event. cond (is_turn event) 1 0) xs ys

-- the events before one, that one, and those behind it
parted : (events : List Event) (i : ℕ) (event : Event) → i < length events → (take i events ++ get_or events i event ∷ []) ++ drop (i + 1) events ≡ events
parted events i event lt = ap (λ (front : List Event). front ++ drop (i + 1) events) (sym (take_more events i event lt)) ∙ take-append-drop (i + 1) events

module _ {D W : Type 0} (S : desk.Ghosts D) (G : Ghosts W) (fewer_later : FewerLater G) where
  -- some events were answered, and then some more
  pub answered_on : {T U : Type 0} (xs ys : List Event) (old mid new : D) (before between after : W) (value : T) (result : Result U Failed) → Answered S G xs old mid before between (Ok value) → Answered S G ys mid new between after result → Answered S G (xs ++ ys) old new before after result
  answered_on xs ys old mid new before between after value result one two = grind (arith, begins_split xs ys, turns_split xs ys, (elapses-trans G fewer_later before between after one.time two.time), cause_since (G.put_faults before) (G.put_faults between) (G.put_faults after) value result one.cause two.cause)

  -- nothing was answered yet
  pub answered_none : (desk : D) (w : W) → HoldsStore G (S.told desk).fixed.header w → Answered S G [] desk desk w w done
  answered_none desk w bytes = grind (arith, nat_tests)

  -- lines were put
  pub answered_puts : {T : Type 0} (lines : List ReportLine) (desk : D) (before after : W) (result : Result T Failed) → HoldsStore G (S.told desk).fixed.header before → Puts G lines before after result → Answered S G [] desk desk before after result
  answered_puts lines desk before after result bytes puts = grind (arith, nat_tests)

  pub answered_then : {T U : Type 0} (events : List Event) (lines : List ReportLine) (old new : D) (before between after : W) (value : T) (result : Result U Failed) → Answered S G events old new before between (Ok value) → Puts G lines between after result → Answered S G events old new before after result
  answered_then events lines old new before between after value result one puts =
      grind (arith, (elapses-trans G fewer_later before between after one.time puts.only.time), cause_since (G.put_faults before) (G.put_faults between) (G.put_faults after) value result one.cause puts.only.cause)

  module _ (events : List Event) (i : ℕ) (event : Event) (lt : i < length events) (old mid : D) (before between : W) where
    -- the next event may be asked
    pub ready_next : MayBeAsked S G events old before → Answered S G (take i events) old mid before between done → MayBeAsked S G (get_or events i event ∷ []) mid between
    ready_next ready so_far = grind (arith, (parted events i event lt), begins_split, turns_split)

    pub answered_more : {T : Type 0} (new : D) (after : W) (result : Result T Failed) → Answered S G (take i events) old mid before between done → Answered S G (get_or events i event ∷ []) mid new between after result → Answered S G (take (i + 1) events) old new before after result
    answered_more new after result one two = grind (arith, nat_tests, take_more events i event lt, answered_on (take i events) (get_or events i event ∷ []) old mid new before between after 0 result one two, take i events, get_or events i event)

  -- another result, of which the screen's count says as much
  answered_as : {T U : Type 0} (events : List Event) (old new : D) (before after : W) (result : Result T Failed) (other : Result U Failed) → (FailsOnlyCounted (G.put_faults before) (G.put_faults after) result → FailsOnlyCounted (G.put_faults before) (G.put_faults after) other) → Answered S G events old new before after result → Answered S G events old new before after other
  answered_as events old new before after result other turns is = grind (arith, nat_tests)

  -- those of some of the events, as of all of them
  pub answered_all : {T : Type 0} (events : List Event) (count : ℕ) (old new : D) (before after : W) (result : Result T Failed) → Answered S G (take count events) old new before after result → Answered S G events old new before after result
  answered_all events count old new before after result some =
      grind (arith, nat_tests, take-append-drop count events, begins_split, turns_split)

  -- another value, or a failure of another type
  pub answered_well : {T U : Type 0} (events : List Event) (old new : D) (before after : W) (value : T) (other : U) → Answered S G events old new before after (Ok value) → Answered S G events old new before after (Ok other)
  answered_well events old new before after value other is = answered_as events old new before after (Ok value) (Ok other) (λ cause. record { later = cause.later; failed = tt; done = cause.done }) is

  broken_cause : {T U : Type 0} (before after : ℕ) (result : Result T Failed) (other : Result U Failed) → IsErr result → IsErr other → FailsOnlyCounted before after result → FailsOnlyCounted before after other
  broken_cause before after result other one two cause = grind arith

  pub answered_broken : {T U : Type 0} (events : List Event) (old new : D) (before after : W) (result : Result T Failed) (other : Result U Failed) → IsErr result → IsErr other → Answered S G events old new before after result → Answered S G events old new before after other
  answered_broken events old new before after result other one two is = answered_as events old new before after result other (broken_cause (G.put_faults before) (G.put_faults after) result other one two) is

-- it goes on so from an earlier moment, and a supervisor that was open before
pub goes_since : {D W : Type 0} (S : desk.Ghosts D) (G : Ghosts W) (going : Going) (old mid new : D) (before between after : W) → (S.told mid).fixed.header ≡ (S.told old).fixed.header → ((S.told old).closed ≡ false → (S.told mid).closed ≡ false) → G.disk_faults before ≤ G.disk_faults between → GoesBy S G mid new between after going → GoesBy S G old new before after going
goes_since S G going old mid new before between after header still disk goes = grind (arith, header)

-- a supervisor that was closed before: an event was asked of it
pub shut_asked : (events : List Event) (i : ℕ) (how : Going) → i < length events → how ≡ going.Closed → GoesShut events how
shut_asked events i how lt is = subst (GoesShut events) (sym is) (omega (arith, lt))

-- or there is none
pub shut_unasked : (events : List Event) (i : ℕ) → i ≡ 0 → length events ≤ i → events ≡ []
shut_unasked events i none all = sym (take_all 0 events (omega (arith, none, all)))
