-- After rounds enough all are gone.
use Rattle.desk_law.proofs.Common.{◌≡◌, refl, ℕ, ◌<◌, ◌≤◌, ◌⊎◌, List, [], ◌∷◌, length, arith, inl, inr, ap, sym, ◌∙◌, subst, eq-eqb, both_ways, Desk, Active, waits_for, IsAmong, IsConsistent}
use Rattle.desk_law.proofs.SomebodyGoesOn.{somebody-can-go-on}
use Rattle.desk_law.proofs.Waiting.{waits-from}
use Rattle.progress.proofs.RoundLemmas.{AllEnd, State, WaitsSome, all-end, has-rows, left_of, round-state, start-state}
use Rattle.progress.specs.Rounds.{AreFairRounds, IsFairRound, IsOneOf, OneTurn, RoundsEndAll, after_round, after_rounds, rows_left, sum_over}

-- who is active has a row yet, so there are some
some-among : (f : Active → ℕ) (entries : List Active) (entry : Active) → IsAmong entries entry → f entry ≤ sum_over f entries
some-among f [] entry there = absurd there
some-among f (first ∷ entries) entry (inl is) = let same : f first ≡ f entry = ap f is in omega (arith, same)
some-among f (first ∷ entries) entry (inr there) = omega (arith, some-among f entries entry there)

some-left : (most : ℕ → ℕ) (desk : Desk) → IsConsistent desk → AllEnd most desk.active → (entry : Active) → IsAmong desk.active entry → 1 ≤ left_of most desk
some-left most desk is ends entry there =
    let rows = has-rows most desk entry is ends there in
    let some = some-among (rows_left most) desk.active entry there in
    omega (arith, rows, some)

module _ (most : ℕ → ℕ) (start : Desk) (is : IsConsistent start) (ends : AllEnd most start.active) (turns : List OneTurn) (fair : IsFairRound start turns) where
  -- what a round leaves
  pub round : State most start (after_round turns start) (λ one. ⊥ ⊎ IsOneOf turns one)
  round = round-state most start ends turns start (λ one. ⊥) fair.kept (start-state most start is)

  -- somebody is active, and not all of them wait
  not_all : (entry : Active) → IsAmong (after_round turns start).active entry
      → ((one : OneTurn) → ⊥ ⊎ IsOneOf turns one → 1 ≤ one.limit → (entry : Active) → IsAmong (after_round turns start).active entry → entry.number ≡ one.number → WaitsSome (after_round turns start) entry) → ⊥
  not_all entry there waits =
      let desk = after_round turns start in
      let (free, among, none) = somebody-can-go-on desk entry round.is there in
      let was = round.were free among in
      let (one, here, named, some) = fair.each was.before was.there in
      let by = waits one (inr here) some free among (sym was.number ∙ sym named) in
      both_ways (waits_for desk free.number by.other.number) (none by.other.number)
      (waits-from desk free.number by.other.number (record { entry = free; other = by.other; entry_among = among; other_among = by.there; is_from = eq-eqb free.number free.number refl; waiting = by.waiting; is_to = eq-eqb by.other.number by.other.number refl; conflict = by.conflict }))

  -- where nobody is active any more, none has a row yet
  none-left : (first : Active) → IsAmong start.active first → (entries : List Active) → (after_round turns start).active ≡ entries
      → ((one : OneTurn) → ⊥ ⊎ IsOneOf turns one → 1 ≤ one.limit → (entry : Active) → IsAmong (after_round turns start).active entry → entry.number ≡ one.number → WaitsSome (after_round turns start) entry)
      → left_of most (after_round turns start) < left_of most start
  none-left first there [] is_none waits =
      let none : left_of most (after_round turns start) ≡ 0 = ap (sum_over (rows_left most)) is_none in
      let some = some-left most start is ends first there in
      omega (arith, none, some)
  none-left first there (entry ∷ entries) is_some waits = absurd (not_all entry (subst (λ (these : List Active). IsAmong these entry) (sym is_some) (inl refl)) waits)

  -- so rows are fewer, where anybody was active
  pub round-less : (first : Active) → IsAmong start.active first → left_of most (after_round turns start) < left_of most start
  round-less first there = elim round.how [
    | inl less ↦ less
    | inr waits ↦ none-left first there (after_round turns start).active refl waits
  ]

-- rounds
pub rounds-end : (most : ℕ → ℕ) (rounds : List (List OneTurn)) (desk : Desk) → IsConsistent desk → AllEnd most desk.active → AreFairRounds desk rounds → left_of most desk ≤ length rounds → (after_rounds rounds desk).active ≡ []
rounds-end most [] desk is ends fair few = by_active desk.active refl
  where
    by_active : (entries : List Active) → desk.active ≡ entries → desk.active ≡ []
    by_active [] none = none
    by_active (entry ∷ entries) some =
        let much = some-left most desk is ends entry (subst (λ (these : List Active). IsAmong these entry) (sym some) (inl refl)) in
        absurd (omega (arith, much, few))
rounds-end most (turns ∷ rounds) desk is ends fair few =
    let later = after_round turns desk in
    let state = round most desk is ends turns fair.0 in
    rounds-end most rounds later state.is (all-end most desk.active later.active state.were ends) fair.1 (by_active desk.active refl)
  where
    by_active : (entries : List Active) → desk.active ≡ entries → left_of most (after_round turns desk) ≤ length rounds
    by_active [] none =
        let no_more = (round most desk is ends turns fair.0).no_more in
        let nothing : left_of most desk ≡ 0 = ap (sum_over (rows_left most)) none in
        omega (arith, no_more, nothing)
    by_active (entry ∷ entries) some =
        let less = round-less most desk is ends turns fair.0 entry (subst (λ (these : List Active). IsAmong these entry) (sym some) (inl refl)) in
        omega (arith, less, few)

pub rounds_end_all : RoundsEndAll
rounds_end_all most desk rounds is ends fair few = rounds-end most rounds desk is ends fair few
