-- Turns spare the oldest.
use Rattle.desk_law.proofs.Common.{◌≡◌, refl, ℕ, zero, suc, ◌==◌, not, Bool, true, List, [], ◌∷◌, ◌++◌, map, filter, find, Option, Some, None, has, victim_of, Plain, Outcome, On, Check, after, Desk, Active, numbers, DiskWord, Counts, Turning, Going, Over, InFlight, Fetching, Contest, Contested, Settled, Lost, attempts, attempts_at, instruction, turns, limited, is_over_limit, fetches_touched, asks, gets, goes_on, takes_effect, contest_ends, waits_or_gets, with_grants, breaks_cycles, gone_on, turn_desk, turn_counts, IsAccounted, nat_tests, arith, contest, false, ◌≤◌, ◌<◌, shown_cycle, waits_for, breaks_cycle, inl, inr, subst, sym, conflicts_of, with_active, turn_of, no_counts, turn, length}
use Rattle.std.proofs.lemmas.Bool.{cases_order}
use Rattle.desk_law.proofs.Entries.{among-found, numbers-replaced}
use Rattle.desk_law.proofs.Waiting.{number-of, has-number, fewer-numbers}
use Rattle.desk_law.proofs.Contest.{left_over, breaks-keep}
use Rattle.desk_law.proofs.EndsCaused.{ends_have_causes}
use Rattle.desk_law.specs.DeskLaws.{next_attempt}
use Rattle.flat_machine.specs.Row.{row}
use Rattle.desk_law.specs.Causes.{turn_desk, turn_counts, IsAccounted}
use Rattle.progress.proofs.Elders.{second-of, self-free, in-max}
use Rattle.progress.specs.Oldest.{AreFrom, TurnsSpareTheOldest}

-- the victim of a cycle is above the least
victim-above : (desk : Desk) (first least : ℕ) (cycle : List ℕ) → AreFrom least (numbers desk) → least ≤ first → shown_cycle (waits_for desk) (numbers desk) first ≡ Some cycle → least < victim_of cycle
victim-above desk first least cycle from low shown =
    let it = second-of (waits_for desk) (numbers desk) first cycle (self-free desk) shown in
    let first_in : first ≤ victim_of cycle = subst (λ (members : List ℕ). first ≤ victim_of members) (sym it.is) (in-max (first ∷ it.second ∷ it.rest) 0 first (grind (arith, nat_tests))) in
    let second_in : it.second ≤ victim_of cycle = subst (λ (members : List ℕ). it.second ≤ victim_of members) (sym it.is) (in-max (first ∷ it.second ∷ it.rest) 0 it.second (grind (arith, nat_tests))) in
    let second_low : least ≤ it.second = from it.second it.there in
    elim (cases_order it.second first) [
      | inl equal ↦ absurd (self-free desk first (subst (λ (x : ℕ). waits_for desk first x ≡ true) equal it.waits_so))
      | inr (inl below) ↦ omega (arith, below, first_in, second_low)
      | inr (inr above) ↦ omega (arith, above, second_in, low)
    ]

-- nobody active is older, and no victim was the oldest
abbrev Spared : (oldest : ℕ) → Desk → Counts → Type 0
Spared oldest desk counts = AreFrom oldest (numbers desk) × (has (map victim_of counts.cycles) oldest ≡ false)

abbrev SparedOn : (oldest : ℕ) → Turning → Type 0
SparedOn oldest turning = Spared oldest (turn_desk turning) (turn_counts turning)

abbrev ContestSpared : (oldest : ℕ) → Contest → Type 0
ContestSpared oldest (Contested desk counts) = Spared oldest desk counts
ContestSpared oldest (Settled desk counts) = Spared oldest desk counts
ContestSpared oldest (Lost desk counts) = Spared oldest desk counts

fewer-from : (oldest gone : ℕ) (entries : List Active) → AreFrom oldest (map (λ (entry : Active). entry.number) entries)
    → AreFrom oldest (map (λ (entry : Active). entry.number) (filter (λ (entry : Active). not (entry.number == gone)) entries))
fewer-from oldest gone entries from x inside = from x (fewer-numbers (λ (entry : Active). not (entry.number == gone)) entries x inside)

own-spared : (oldest gone : ℕ) (desk : Desk) (counts : Counts) (turning : Turning) → Spared oldest desk counts
    → (turn_desk turning).active ≡ filter (λ (entry : Active). not (entry.number == gone)) desk.active → (turn_counts turning).cycles ≡ counts.cycles → SparedOn oldest turning
own-spared oldest gone desk counts turning kept active cycles = (
  subst (λ (entries : List Active). AreFrom oldest (map (λ (entry : Active). entry.number) entries)) (sym active) (fewer-from oldest gone desk.active kept.0),
  subst (λ (these : List (List ℕ)). has (map victim_of these) oldest ≡ false) (sym cycles) kept.1,
)

no-more : (cycles : List (List ℕ)) (cycle : List ℕ) (oldest : ℕ) → has (map victim_of cycles) oldest ≡ false → oldest < victim_of cycle → has (map victim_of (cycles ++ cycle ∷ [])) oldest ≡ false
no-more [] cycle oldest none above = grind (arith, nat_tests)
no-more (one ∷ cycles) cycle oldest none above = grind (arith, nat_tests, no-more cycles cycle oldest)

breaks-spared : (oldest left number : ℕ) (contest : Contest) → oldest ≤ number → ContestSpared oldest contest → ContestSpared oldest (breaks_cycles left number contest)
breaks-spared oldest left number contest low kept = breaks-keep (ContestSpared oldest) number (λ desk counts is. by_cycle desk counts is (shown_cycle (waits_for desk) (numbers desk) number) refl) left contest kept
  where
    by_cycle : (desk : Desk) (counts : Counts) → Spared oldest desk counts → (cycle : Option (List ℕ)) → shown_cycle (waits_for desk) (numbers desk) number ≡ cycle
        → ContestSpared oldest (breaks_cycle number cycle desk counts)
    by_cycle desk counts is None shown = is
    by_cycle desk counts is (Some cycle) shown = by_victim (find (λ (entry : Active). entry.number == victim_of cycle) desk.active) (victim_of cycle == number)
      where
        more : has (map victim_of (counts.cycles ++ cycle ∷ [])) oldest ≡ false
        more = no-more counts.cycles cycle oldest is.1 (victim-above desk number oldest cycle is.0 low shown)

        by_victim : (victim : Option Active) (lost : Bool) → ContestSpared oldest (left_over desk (record counts { cycles = counts.cycles ++ cycle ∷ [] }) victim lost)
        by_victim None true = (is.0, more)
        by_victim None false = (is.0, more)
        by_victim (Some victim) true = (fewer-from oldest victim.number desk.active is.0, more)
        by_victim (Some victim) false = (fewer-from oldest victim.number desk.active is.0, more)

module _ (word : DiskWord) (attempt : InFlight) (oldest : ℕ) (low : oldest ≤ attempt.entry.number) where
  sp-effect : (desk : Desk) (counts : Counts) (outcome : Outcome) → Spared oldest desk counts → SparedOn oldest (takes_effect word attempt outcome desk counts)
  sp-effect desk counts (On next) kept = grind (arith, nat_tests, numbers-replaced (gone_on attempt.entry) desk.active)
  sp-effect desk counts outcome kept = grind (arith, own-spared, own-spared oldest attempt.entry.number desk counts (takes_effect word attempt outcome desk counts) kept)

  sp-on : (desk : Desk) (counts : Counts) (fetching : Fetching) → Spared oldest desk counts → SparedOn oldest (goes_on word attempt desk counts fetching)
  sp-on desk counts fetching kept = grind (arith, sp-effect, own-spared oldest attempt.entry.number desk counts (goes_on word attempt desk counts fetching) kept)

  sp-get : (refused : List ℕ) (desk : Desk) (counts : Counts) → Spared oldest desk counts → SparedOn oldest (gets word attempt refused desk counts)
  sp-get refused desk counts kept = sp-on (with_grants attempt refused desk) counts (fetches_touched word attempt (with_grants attempt refused desk) counts) kept

  sp-wait : (refused holders : List ℕ) (desk : Desk) (counts : Counts) → Spared oldest desk counts → SparedOn oldest (waits_or_gets word attempt refused holders desk counts)
  sp-wait refused [] desk counts kept = sp-get refused desk counts kept
  sp-wait refused (holder ∷ holders) desk counts kept = kept

  sp-contest : (refused : List ℕ) (contest : Contest) → ContestSpared oldest contest → SparedOn oldest (contest_ends word attempt refused contest)
  sp-contest refused (Contested desk counts) kept = sp-wait refused (conflicts_of desk attempt.entry) desk counts kept
  sp-contest refused (Settled desk counts) kept = sp-wait refused (conflicts_of desk attempt.entry) desk counts kept
  sp-contest refused (Lost desk counts) kept = kept

  sp-ask : (refused holders : List ℕ) (desk : Desk) (counts : Counts) → Spared oldest desk counts → SparedOn oldest (asks word attempt refused holders desk counts)
  sp-ask refused [] desk counts kept = sp-get refused desk counts kept
  sp-ask refused (holder ∷ holders) desk counts kept =
      let marked = record attempt.entry { waiting = true } in
      let same = numbers-replaced marked desk.active in
      sp-contest refused (breaks_cycles (length desk.active) attempt.entry.number (Contested (with_active desk marked) counts))
      (breaks-spared oldest (length desk.active) attempt.entry.number (Contested (with_active desk marked) counts) low (subst (AreFrom oldest) (sym same) kept.0, kept.1))

  sp-limit : (over : Bool) (desk : Desk) (counts : Counts) → Spared oldest desk counts → SparedOn oldest (limited over word attempt desk counts)
  sp-limit over desk counts kept = grind (arith, sp-ask, own-spared oldest attempt.entry.number desk counts (limited over word attempt desk counts) kept)

  sp-attempt : (outcome : Outcome) (desk : Desk) (counts : Counts) → Spared oldest desk counts → SparedOn oldest (attempts word attempt outcome desk counts)
  sp-attempt (Check code) desk counts kept = own-spared oldest attempt.entry.number desk counts (attempts word attempt (Check code) desk counts) kept refl refl
  sp-attempt _ desk counts kept = sp-limit (is_over_limit attempt desk) desk counts kept

sp-instruction : (word : DiskWord) (oldest number : ℕ) (one : Option Active) (desk : Desk) (counts : Counts) → find (λ (entry : Active). entry.number == number) desk.active ≡ one → Spared oldest desk counts
    → SparedOn oldest (instruction word one desk counts)
unfolding instruction
sp-instruction word oldest number None desk counts found kept = kept
sp-instruction word oldest number (Some entry) desk counts found kept = by_state (after entry.runs.program entry.runs.args desk.committed entry.rows)
  where
    low : oldest ≤ entry.number
    low = kept.0 entry.number (has-number desk.active entry (among-found (λ (entry : Active). entry.number == number) desk.active entry found).0)

    by_state : (state : Option Plain) → SparedOn oldest (attempts_at word entry state desk counts)
    by_state None = kept
    by_state (Some now) = sp-attempt word (next_attempt desk entry now) oldest low (row entry.runs.program desk.committed.directory now) desk counts kept

sp-turns : (word : DiskWord) (oldest number left : ℕ) (turning : Turning) → SparedOn oldest turning → SparedOn oldest (turns word number left turning)
unfolding turns
sp-turns word oldest number zero (Going desk counts) kept = kept
sp-turns word oldest number (suc left) (Going desk counts) kept =
    sp-turns word oldest number left (instruction word (find (λ (entry : Active). entry.number == number) desk.active) desk counts)
    (sp-instruction word oldest number (find (λ (entry : Active). entry.number == number) desk.active) desk counts refl kept)
sp-turns word oldest number _ (Over desk counts ending) kept = kept

spared-turn : (word : DiskWord) (number limit : ℕ) (desk : Desk) (oldest : ℕ) → AreFrom oldest (numbers desk) → has (map victim_of (turn_counts (turn word number limit desk)).cycles) oldest ≡ false
spared-turn word number limit desk oldest from = by_found (find (λ (entry : Active). entry.number == number) desk.active)
  where
    by_found : (found : Option Active) → has (map victim_of (turn_counts (turn_of found word number limit desk)).cycles) oldest ≡ false
    by_found None = refl
    by_found (Some entry) = (sp-turns word oldest number limit (Going desk no_counts) (from, refl)).1

pub turns_spare : TurnsSpareTheOldest
turns_spare word number limit desk oldest here from =
    let (entry, among, same) = number-of desk.active oldest here in
    let none = spared-turn word number limit desk oldest from in
    elim (subst (IsAccounted number (turn word number limit desk)) same (ends_have_causes word number limit desk entry among)) [
      | inl there ↦ inl there
      | inr (inl victim) ↦ absurd (grind (arith, none, victim))
      | inr (inr own) ↦ inr own
    ]
