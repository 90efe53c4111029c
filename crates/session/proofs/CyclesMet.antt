-- The cycles that a turn records, and the desks at which they were met.
use Rattle.session.proofs.Common.{Bool, true, Plain, Outcome, row, after, Desk, Active, with_active, wanted, numbers, waits_for, DiskWord, Counts, Limit, Turning, Going, Over, InFlight, Contest, Contested, Fetching, commits, takes_effect, goes_on, gets, with_grants, fetches_touched, breaks_cycle, breaks_cycles, waits_or_gets, contest_ends, asks, fetched_first, limited, attempts, attempts_at, instruction, turns, turn, turn_of, no_counts, WasMet, WereMet, CyclesWereMet, ◌≡◌, ℕ, zero, suc, ◌+◌, ◌<◌, ◌==◌, List, [], ◌∷◌, ◌++◌, length, find, refl, sym, ◌∙◌, ap, subst, arith, Option, Some, None}
use Rattle.lines.specs.Waits.{shown_cycle}
use Rattle.desk_law.specs.Causes.{turn_counts}
use Rattle.desk_law.specs.DeskLaws.{contest_counts}
use Rattle.desk_law.proofs.CyclesBroken.{broken-cycles-were}

-- a turn after so many instructions of it, while it goes on
abbrev gone : DiskWord → (number rows : ℕ) → Turning → Turning
gone word number zero turning = turning
gone word number (suc rows) (Over desk counts ending) = Over desk counts ending
gone word number (suc rows) (Going desk counts) = gone word number rows (instruction word (find (λ entry. entry.number == number) desk.active) desk counts)

-- that is where a turn with so many comes to
gone-turns : (word : DiskWord) (number rows : ℕ) (turning : Turning) (at : Desk) (counts : Counts) → gone word number rows turning ≡ Going at counts → turns word number rows turning ≡ Over at counts Limit
unfolding turns
gone-turns word number zero turning at counts is = ap (turns word number 0) is
gone-turns word number (suc rows) (Over desk more ending) at counts is = absurd (cc)
gone-turns word number (suc rows) (Going desk more) at counts is = gone-turns word number rows (instruction word (find (λ entry. entry.number == number) desk.active) desk more) at counts is

abbrev one-more : DiskWord → (number : ℕ) → Turning → Turning
one-more word number turning = gone word number 1 turning

gone-more : (word : DiskWord) (number rows : ℕ) (turning : Turning) (at : Desk) (counts : Counts) → gone word number rows turning ≡ Going at counts → gone word number (suc rows) turning ≡ instruction word (find (λ entry. entry.number == number) at.active) at counts
gone-more word number zero turning at counts is = ap (one-more word number) is
gone-more word number (suc rows) (Over desk more ending) at counts is = absurd (cc)
gone-more word number (suc rows) (Going desk more) at counts is = gone-more word number rows (instruction word (find (λ entry. entry.number == number) desk.active) desk more) at counts is

-- a round more of a contest
abbrev round : ℕ → Contest → Contest
round number contest = breaks_cycles 1 number contest

rounds-more : (number rounds : ℕ) (contest : Contest) (met : Desk) (counts : Counts) → breaks_cycles rounds number contest ≡ Contested met counts
    → breaks_cycles (suc rounds) number contest ≡ breaks_cycle number (shown_cycle (waits_for met) (numbers met) number) met counts
rounds-more number zero contest met counts is = ap (round number) is
rounds-more number (suc rounds) (Contested desk more) met counts is = rounds-more number rounds (breaks_cycle number (shown_cycle (waits_for desk) (numbers desk) number) desk more) met counts is
rounds-more number (suc rounds) _ met counts is = absurd (cc)

module _ (word : DiskWord) (number limit : ℕ) (start : Desk) where
  abbrev Met : Counts → Type 0
  Met counts = WereMet word number limit start counts.cycles

  abbrev IsMet : Turning → Type 0
  IsMet turning = Met (turn_counts turning)

  met-more : (cycles : List (List ℕ)) (cycle : List ℕ) → WereMet word number limit start cycles → WasMet word number limit start cycle → WereMet word number limit start (cycles ++ cycle ∷ [])
  met-more [] cycle met this = (this, tt)
  met-more (one ∷ cycles) cycle met this = (met.0, met-more cycles cycle met.1 this)

  -- one instruction of the turn, at a desk to which it came
  module _ (rows : ℕ) (few : rows < limit) (at : Desk) (counted : Counts) (came : turn word number rows start ≡ Over at counted Limit) (entry : Active) (found : find (λ entry. entry.number == number) at.active ≡ Some entry) where
    commits-met : (how : DiskWord) (attempt : InFlight) (desk : Desk) (counts : Counts) → Met counts → IsMet (commits how attempt desk counts)
    commits-met how attempt desk counts met = grind arith

    effect-met : (attempt : InFlight) (outcome : Outcome) (desk : Desk) (counts : Counts) → Met counts → IsMet (takes_effect word attempt outcome desk counts)
    effect-met attempt outcome desk counts met = grind (arith, commits-met)

    on-met : (attempt : InFlight) (desk : Desk) (counts : Counts) (fetching : Fetching) → Met counts → IsMet (goes_on word attempt desk counts fetching)
    on-met attempt desk counts fetching met = grind (arith, effect-met)

    gets-met : (attempt : InFlight) (refused : List ℕ) (desk : Desk) (counts : Counts) → Met counts → IsMet (gets word attempt refused desk counts)
    gets-met attempt refused desk counts met = on-met attempt (with_grants attempt refused desk) counts (fetches_touched word attempt (with_grants attempt refused desk) counts) met

    waits-met : (attempt : InFlight) (refused holders : List ℕ) (desk : Desk) (counts : Counts) → Met counts → IsMet (waits_or_gets word attempt refused holders desk counts)
    waits-met attempt refused holders desk counts met = grind (arith, gets-met)

    contest-met : (attempt : InFlight) (refused : List ℕ) (contest : Contest) → Met (contest_counts contest) → IsMet (contest_ends word attempt refused contest)
    contest-met attempt refused contest met = grind (arith, waits-met)

    -- the rounds of its contest
    module _ (resident : List ℕ) (before : Counts) where
      abbrev first : Contest
      first = Contested (with_active (record at { resident = resident }) (record entry { waiting = true })) before

      broken-met : (rounds : ℕ) (met_at : Desk) (counts : Counts) → breaks_cycles rounds entry.number first ≡ Contested met_at counts → Met counts
          → (cycle : Option (List ℕ)) → shown_cycle (waits_for met_at) (numbers met_at) entry.number ≡ cycle → Met (contest_counts (breaks_cycle entry.number cycle met_at counts))
      broken-met rounds met_at counts is met None none = subst (λ (these : Counts). Met these) (sym (broken-cycles-were entry.number met_at counts).1) met
      broken-met rounds met_at counts is met (Some cycle) shows =
          let broken = (broken-cycles-were entry.number met_at counts).0 cycle shows in
          subst (λ (these : List (List ℕ)). WereMet word number limit start these) (sym broken.0)
          (met-more counts.cycles cycle met (record {
            rows = rows;
            few = few;
            at = at;
            counted = counted;
            came = came;
            entry = entry;
            is = found;
            resident = resident;
            rounds = rounds;
            before = before;
            after = counts;
            met = met_at;
            contest = is;
            is_shown = shows;
            waits = broken.2;
          }))

      rounds-met : (left rounds : ℕ) (contest : Contest) → breaks_cycles rounds entry.number first ≡ contest → Met (contest_counts contest) → Met (contest_counts (breaks_cycles left entry.number contest))
      rounds-met (suc left) rounds (Contested desk counts) is met =
          rounds-met left (suc rounds) (breaks_cycle entry.number (shown_cycle (waits_for desk) (numbers desk) entry.number) desk counts)
          (rounds-more entry.number rounds first desk counts is)
          (broken-met rounds desk counts is met (shown_cycle (waits_for desk) (numbers desk) entry.number) refl)
      rounds-met _ rounds _ is met = met

    module _ (attempt : InFlight) (its : attempt.entry ≡ entry) where
      asks-met : (refused holders : List ℕ) (resident : List ℕ) (counts : Counts) → Met counts → IsMet (asks word attempt refused holders (record at { resident = resident }) counts)
      asks-met refused [] resident counts met = gets-met attempt refused (record at { resident = resident }) counts met
      asks-met refused (holder ∷ holders) resident counts met =
          contest-met attempt refused (breaks_cycles (length at.active) attempt.entry.number (Contested (with_active (record at { resident = resident }) (record attempt.entry { waiting = true })) counts))
          (subst (λ (one : Active). Met (contest_counts (breaks_cycles (length at.active) one.number (Contested (with_active (record at { resident = resident }) (record one { waiting = true })) counts)))) (sym its)
          (rounds-met resident counts (length at.active) 0 (first resident counts) refl met))

      first-met : (counts : Counts) (fetching : Fetching) → Met counts → IsMet (fetched_first word attempt at counts fetching)
      first-met counts fetching met = grind (arith, asks-met)

      limited-met : (over : Bool) (counts : Counts) → Met counts → IsMet (limited over word attempt at counts)
      limited-met over counts met = grind (arith, first-met)

      attempts-met : (outcome : Outcome) (counts : Counts) → Met counts → IsMet (attempts word attempt outcome at counts)
      attempts-met outcome counts met = grind (arith, limited-met)

    at-met : (now : Option Plain) (counts : Counts) → Met counts → IsMet (attempts_at word entry now at counts)
    at-met None counts met = met
    at-met (Some now) counts met =
        attempts-met (record { entry = entry; now = now; outcome = row entry.runs.program at.committed.directory now; lines = wanted at entry }) refl (row entry.runs.program at.committed.directory now) counts met

  instruction-met : (rows : ℕ) → rows < limit → (at : Desk) (counts : Counts) → turn word number rows start ≡ Over at counts Limit → Met counts
      → (entry : Option Active) → find (λ entry. entry.number == number) at.active ≡ entry → IsMet (instruction word entry at counts)
  unfolding instruction
  instruction-met rows few at counts came met None none = met
  instruction-met rows few at counts came met (Some entry) found = at-met rows few at counts came entry found (after entry.runs.program entry.runs.args at.committed entry.rows) counts met

  -- the instructions of the turn, one after another
  turns-met : ((rows : ℕ) (at : Desk) (counts : Counts) → gone word number rows (Going start no_counts) ≡ Going at counts → turn word number rows start ≡ Over at counts Limit)
      → (left rows : ℕ) (turning : Turning) → rows + left ≡ limit → gone word number rows (Going start no_counts) ≡ turning → IsMet turning → IsMet (turns word number left turning)
  unfolding turns
  turns-met comes left rows (Over desk counts ending) all is met = met
  turns-met comes zero rows (Going desk counts) all is met = met
  turns-met comes (suc left) rows (Going desk counts) all is met =
      turns-met comes left (suc rows) (instruction word (find (λ entry. entry.number == number) desk.active) desk counts) (omega (arith, all))
      (gone-more word number rows (Going start no_counts) desk counts is)
      (instruction-met rows (omega (arith, all)) desk counts (comes rows desk counts is) met (find (λ entry. entry.number == number) desk.active) refl)

  turn-met : (found : Option Active) → find (λ (entry : Active). entry.number == number) start.active ≡ found → IsMet (turn_of found word number limit start)
  turn-met None none = tt
  turn-met (Some entry) found =
      turns-met
      (λ rows at counts is. ap (λ (one : Option Active). turn_of one word number rows start) found ∙ gone-turns word number rows (Going start no_counts) at counts is)
      limit 0 (Going start no_counts) (omega arith) refl tt

pub cycles-were-met : CyclesWereMet
cycles-were-met word number limit desk = turn-met word number limit desk (find (λ (entry : Active). entry.number == number) desk.active) refl
