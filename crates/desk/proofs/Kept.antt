-- What the steps of a turn keep: the committed bytes, the order, and who is active as what.
use Rattle.desk.proofs.Common.{◌==◌, not, map, filter, find, if◌then◌else◌, option_and_then, Plain, Activation, numbered, committing, if_commit, before_commit, Desk, Active, with_active, ended, rolled_back, wanted, numbers, waits_for, conflicts_of, is_fine, DiskWord, Fine, ReadFailed, Unwritten, Doubt, Failed, Counts, Ending, Committed, CommitUnwritten, CommitDoubted, Turning, Going, Over, InFlight, Fetching, Fetched, Broken, Contest, Contested, Settled, Lost, attempts, attempts_at, instruction, turns, limited, is_over_limit, turn, fetched_first, fetches_touched, asks, gets, goes_on, takes_effect, commits, breaks, breaks_cycle, breaks_cycles, contest_ends, ordered, waits_or_gets, with_grants, refused_pages, nat_tests, ◌≡◌, ℕ, zero, suc, ◌+◌, Bool, true, false, List, [], ◌∷◌, ◌++◌, length, refl, sym, ◌∙◌, ap, arith, Option, Some, None}
use Rattle.flat_machine.specs.Row.{Outcome, On, Commit, Check, row}
use Rattle.flat_machine.specs.After.{after}
use Rattle.lines.specs.Waits.{shown_cycle, victim_of}

-- each active entry runs the activation of its number
abbrev pub AreNumbered : List Activation → List Active → Type 0
AreNumbered all [] = Unit {0}
AreNumbered all (entry ∷ entries) = (numbered all entry.number ≡ Some entry.runs) × AreNumbered all entries

-- a step that commits nothing
pub record Moves (all : List Activation) (old new : Desk) : Type 0 where
  pub committed : new.committed ≡ old.committed
  pub order : new.order ≡ old.order
  pub next : new.next ≡ old.next
  pub closed : new.closed ≡ old.closed
  pub numbered_all : AreNumbered all old.active → AreNumbered all new.active

-- a step that ends the desk without a commit
pub record Shuts (word : DiskWord) (old new : Desk) : Type 0 where
  pub broken : is_fine word ≡ false
  pub committed : new.committed ≡ old.committed
  pub order : new.order ≡ old.order
  pub closed : new.closed ≡ true

-- a commit of an activation at a state, which is in the order now
pub record Ordered (all : List Activation) (activation steps : ℕ) (old new : Desk) : Type 0 where
  pub state : Plain
  pub commits_at : committing all (activation, steps) old.committed ≡ Some state
  pub order : new.order ≡ old.order ++ (activation, steps) ∷ []

-- and it is done
pub record Commits (all : List Activation) (activation steps : ℕ) (out : List ℕ) (old new : Desk) : Type 0 where
  pub state : Plain
  pub commits_at : committing all (activation, steps) old.committed ≡ Some state
  pub order : new.order ≡ old.order ++ (activation, steps) ∷ []
  pub committed : new.committed ≡ record old.committed { bytes = state.store }
  pub printed : out ≡ state.out
  pub next : new.next ≡ old.next
  pub closed : new.closed ≡ old.closed
  pub numbered_all : AreNumbered all old.active → AreNumbered all new.active

-- a commit in doubt
pub record Doubts (all : List Activation) (word : DiskWord) (activation : ℕ) (old new : Desk) : Type 0 where
  pub broken : is_fine word ≡ false
  pub steps : ℕ
  pub ordered_as : Ordered all activation steps old new
  pub committed : new.committed ≡ old.committed
  pub closed : new.closed ≡ true

-- what an end of a turn of an activation did
abbrev pub Ends : List Activation → DiskWord → ℕ → Desk → Desk → Ending → Type 0
Ends all word activation old new (Committed steps out) = Commits all activation steps out old new
Ends all word activation old new CommitUnwritten = Shuts word old new
Ends all word activation old new CommitDoubted = Doubts all word activation old new
Ends all word activation old new _ = Moves all old new

-- what a turn under way, or over, did
abbrev pub Does : List Activation → DiskWord → ℕ → Desk → Turning → Type 0
Does all word activation old (Going desk counts) = Moves all old desk
Does all word activation old (Over desk counts ending) = Ends all word activation old desk ending

-- what a contest did
abbrev pub Contests : List Activation → Desk → Contest → Type 0
Contests all old (Contested desk counts) = Moves all old desk
Contests all old (Settled desk counts) = Moves all old desk
Contests all old (Lost desk counts) = Moves all old desk

-- nothing at all
pub moves-none : (all : List Activation) (desk : Desk) → Moves all desk desk
moves-none all desk = record { committed = refl; order = refl; next = refl; closed = refl; numbered_all = λ are. are }

-- one step after another
pub moves-on : (all : List Activation) (old mid new : Desk) → Moves all old mid → Moves all mid new → Moves all old new
moves-on all old mid new one two = grind (arith, nat_tests)

-- who is left of them is numbered too
filtered : (all : List Activation) (keeps : Active → Bool) (entries : List Active) → AreNumbered all entries → AreNumbered all (filter keeps entries)
filtered all keeps [] are = tt
filtered all keeps (entry ∷ entries) are = grind (arith, nat_tests, filtered all keeps entries are.1)

-- one of them is replaced by one that runs the same
replaced : (all : List Activation) (new : Active) (entries : List Active) → numbered all new.number ≡ Some new.runs → AreNumbered all entries
    → AreNumbered all (map (λ (old : Active). if old.number == new.number then new else old) entries)
replaced all new [] is are = tt
replaced all new (entry ∷ entries) is are = grind (arith, nat_tests, replaced all new entries is are.1)

-- one that is found among them has the number, and runs its activation
pub found : (all : List Activation) (number : ℕ) (entries : List Active) (entry : Active) → AreNumbered all entries
    → find (λ (one : Active). one.number == number) entries ≡ Some entry → (entry.number ≡ number) × (numbered all entry.number ≡ Some entry.runs)
found all number [] entry are is = absurd (cc)
found all number (one ∷ entries) entry are is = grind (arith, nat_tests, found all number entries entry are.1)

-- a rollback, and other parts
moves-rolled : (all : List Activation) (desk : Desk) (entry : Active) → Moves all desk (rolled_back desk entry)
moves-rolled all desk entry = record { committed = refl; order = refl; next = refl; closed = refl; numbered_all = filtered all (λ (other : Active). not (other.number == entry.number)) desk.active }

moves-with : (all : List Activation) (desk : Desk) (entry : Active) → numbered all entry.number ≡ Some entry.runs → Moves all desk (with_active desk entry)
moves-with all desk entry is = record { committed = refl; order = refl; next = refl; closed = refl; numbered_all = replaced all entry desk.active is }

-- what is left of a contest by its victim
abbrev without : Desk → Option Active → Desk
without desk None = desk
without desk (Some entry) = rolled_back desk entry

abbrev left_by : Desk → Counts → Option Active → Bool → Contest
left_by desk counts victim true = Lost (without desk victim) counts
left_by desk counts victim false = Contested (without desk victim) counts

module _ (all : List Activation) (activation : ℕ) (word : DiskWord) (attempt : InFlight) (old : Desk)
    (own : attempt.entry.number ≡ activation)
    (named : numbered all attempt.entry.number ≡ Some attempt.entry.runs)
    (now : after attempt.entry.runs.program attempt.entry.runs.args old.committed attempt.entry.rows ≡ Some attempt.now)
    (next_row : row attempt.entry.runs.program old.committed.directory attempt.now ≡ attempt.outcome) where
  -- at the commit call, a serial run commits from the same state
  commits_here : attempt.outcome ≡ Commit → committing all (activation, attempt.entry.rows + 1) old.committed ≡ Some attempt.now
  commits_here is =
      let more : attempt.entry.rows + 1 ≡ suc attempt.entry.rows = omega arith in
      let runs = attempt.entry.runs in
      ap (λ (number : ℕ). committing all (number, attempt.entry.rows + 1) old.committed) (sym own)
      ∙ ap (λ (steps : ℕ). committing all (attempt.entry.number, steps) old.committed) more
      ∙ ap (λ (one : Option Activation). option_and_then (λ (a : Activation). before_commit a (suc attempt.entry.rows) old.committed) one) named
      ∙ ap (λ (state : Option Plain). option_and_then (λ (s : Plain). if_commit (row runs.program old.committed.directory s) s) state) now
      ∙ ap (λ (outcome : Outcome). if_commit outcome attempt.now) (next_row ∙ is)

  order-is : (desk : Desk) → Moves all old desk → desk.order ++ (attempt.entry.number, attempt.entry.rows + 1) ∷ [] ≡ old.order ++ (activation, attempt.entry.rows + 1) ∷ []
  order-is desk moves = λ i. moves.order i ++ (own i, attempt.entry.rows + 1) ∷ []

  done : (desk : Desk) → attempt.outcome ≡ Commit → Moves all old desk
      → Commits all activation (attempt.entry.rows + 1) attempt.now.out old
      (record (ended (ordered desk attempt) attempt.entry.number) { committed = record desk.committed { bytes = attempt.now.store } })
  done desk is moves = record {
    state = attempt.now;
    commits_at = commits_here is;
    order = order-is desk moves;
    committed = λ i. record { directory = (moves.committed i).directory; bytes = attempt.now.store };
    printed = refl;
    next = moves.next;
    closed = moves.closed;
    numbered_all = λ are. filtered all (λ (entry : Active). not (entry.number == attempt.entry.number)) desk.active (moves.numbered_all are);
  }

  does-commit : (word : DiskWord) (desk : Desk) (counts : Counts) → attempt.outcome ≡ Commit → Moves all old desk → Does all word activation old (commits word attempt desk counts)
  does-commit Fine desk counts is moves = done desk is moves
  does-commit (ReadFailed page) desk counts is moves = done desk is moves
  does-commit Failed desk counts is moves = done desk is moves
  does-commit Unwritten desk counts is moves = record { broken = refl; committed = moves.committed; order = moves.order; closed = refl }
  does-commit Doubt desk counts is moves = grind (arith, nat_tests, commits_here is, order-is desk moves)

  does-effect : (desk : Desk) (counts : Counts) (outcome : Outcome) → attempt.outcome ≡ outcome → Moves all old desk → Does all word activation old (takes_effect word attempt outcome desk counts)
  does-effect desk counts (On next) is moves =
      let went = moves-on all old desk _ moves (moves-with all desk (record attempt.entry { rows = attempt.entry.rows + 1; waiting = false }) named) in
      record { committed = went.committed; order = went.order; next = went.next; closed = went.closed; numbered_all = went.numbered_all }
  does-effect desk counts Commit is moves = does-commit word desk counts is moves
  does-effect desk counts (Check code) is moves = moves-on all old desk _ moves (moves-rolled all desk attempt.entry)

  -- a page that can't be read
  does-break : (desk : Desk) (counts : Counts) (counted : ℕ) → Moves all old desk → Does all word activation old (breaks attempt desk counts counted)
  does-break desk counts counted moves = grind (arith, nat_tests, moves-on all old desk (rolled_back desk attempt.entry) moves (moves-rolled all desk attempt.entry), moves-rolled all desk attempt.entry)

  does-on : (desk : Desk) (counts : Counts) (fetching : Fetching) → Moves all old desk → Does all word activation old (goes_on word attempt desk counts fetching)
  does-on desk counts (Fetched resident counted) moves =
      does-effect (record desk { resident = resident }) (record counts { pages = counted }) attempt.outcome refl
      (record { committed = moves.committed; order = moves.order; next = moves.next; closed = moves.closed; numbered_all = moves.numbered_all })
  does-on desk counts (Broken counted) moves = does-break desk counts counted moves

  does-get : (refused : List ℕ) (desk : Desk) (counts : Counts) → Moves all old desk → Does all word activation old (gets word attempt refused desk counts)
  does-get refused desk counts moves =
      does-on (with_grants attempt refused desk) counts (fetches_touched word attempt (with_grants attempt refused desk) counts)
      (record { committed = moves.committed; order = moves.order; next = moves.next; closed = moves.closed; numbered_all = moves.numbered_all })

  -- a victim is rolled back
  contests-break : (number : ℕ) (cycle : Option (List ℕ)) (desk : Desk) (counts : Counts) → Moves all old desk → Contests all old (breaks_cycle number cycle desk counts)
  contests-break number None desk counts moves = moves
  contests-break number (Some cycle) desk counts moves =
      by_victim (find (λ (entry : Active). entry.number == victim_of cycle) desk.active) (victim_of cycle == number)
    where
      by_victim : (victim : Option Active) (lost : Bool) → Contests all old (left_by desk (record counts { cycles = counts.cycles ++ cycle ∷ [] }) victim lost)
      by_victim None true = moves
      by_victim None false = moves
      by_victim (Some entry) true = moves-on all old desk _ moves (moves-rolled all desk entry)
      by_victim (Some entry) false = moves-on all old desk _ moves (moves-rolled all desk entry)

  contests-all : (left number : ℕ) (contest : Contest) → Contests all old contest → Contests all old (breaks_cycles left number contest)
  contests-all zero number contest is = is
  contests-all (suc left) number (Contested desk counts) is =
      grind (
        arith,
        nat_tests,
        contests-all left number (breaks_cycle number (shown_cycle (waits_for desk) (numbers desk) number) desk counts) (contests-break number (shown_cycle (waits_for desk) (numbers desk) number) desk counts is),
      )
  contests-all (suc left) number (Settled desk counts) is = is
  contests-all (suc left) number (Lost desk counts) is = is

  does-wait : (refused holders : List ℕ) (desk : Desk) (counts : Counts) → Moves all old desk → Does all word activation old (waits_or_gets word attempt refused holders desk counts)
  does-wait refused [] desk counts moves = does-get refused desk counts moves
  does-wait refused (holder ∷ holders) desk counts moves = moves

  does-contest : (refused : List ℕ) (contest : Contest) → Contests all old contest → Does all word activation old (contest_ends word attempt refused contest)
  does-contest refused (Lost desk counts) moves = moves
  does-contest refused (Settled desk counts) moves = does-wait refused (conflicts_of desk attempt.entry) desk counts moves
  does-contest refused (Contested desk counts) moves = does-wait refused (conflicts_of desk attempt.entry) desk counts moves

  does-ask : (refused holders : List ℕ) (desk : Desk) (counts : Counts) → Moves all old desk → Does all word activation old (asks word attempt refused holders desk counts)
  does-ask refused [] desk counts moves = does-get refused desk counts moves
  does-ask refused (holder ∷ holders) desk counts moves = grind (arith, nat_tests, does-contest, contests-all, moves-on, moves-with)

  does-fetch : (desk : Desk) (counts : Counts) (fetching : Fetching) → Moves all old desk → Does all word activation old (fetched_first word attempt desk counts fetching)
  does-fetch desk counts (Fetched resident counted) moves =
      let there = record desk { resident = resident } in
      does-ask (refused_pages attempt there) (conflicts_of there attempt.entry) there
      (record { ran = counts.ran; pages = counted; locks = counts.locks + length (refused_pages attempt there); cycles = counts.cycles })
      (record { committed = moves.committed; order = moves.order; next = moves.next; closed = moves.closed; numbered_all = moves.numbered_all })
  does-fetch desk counts (Broken counted) moves = does-break desk counts counted moves

  does-limit : (over : Bool) (desk : Desk) (counts : Counts) → Moves all old desk → Does all word activation old (limited over word attempt desk counts)
  does-limit true desk counts moves = moves-on all old desk _ moves (moves-rolled all desk attempt.entry)
  does-limit false desk counts moves = does-fetch desk counts (fetches_touched word attempt desk counts) moves

  does-attempt : (outcome : Outcome) (desk : Desk) (counts : Counts) → Moves all old desk → Does all word activation old (attempts word attempt outcome desk counts)
  does-attempt (Check code) desk counts moves = moves-on all old desk _ moves (moves-rolled all desk attempt.entry)
  does-attempt (On next) desk counts moves = does-limit (is_over_limit attempt desk) desk counts moves
  does-attempt Commit desk counts moves = does-limit (is_over_limit attempt desk) desk counts moves

-- an instruction of the entry with a number
pub does-instruction : (all : List Activation) (word : DiskWord) (number : ℕ) (desk : Desk) (counts : Counts) → AreNumbered all desk.active
    → Does all word number desk (instruction word (find (λ (entry : Active). entry.number == number) desk.active) desk counts)
unfolding instruction
does-instruction all word number desk counts are = by_entry (find (λ (entry : Active). entry.number == number) desk.active) refl
  where
    by_state : (entry : Active) → (entry.number ≡ number) × (numbered all entry.number ≡ Some entry.runs) → (state : Option Plain)
        → after entry.runs.program entry.runs.args desk.committed entry.rows ≡ state → Does all word number desk (attempts_at word entry state desk counts)
    by_state entry own None is = moves-none all desk
    by_state entry own (Some now) is =
        does-attempt all number word
        (record { entry = entry; now = now; outcome = row entry.runs.program desk.committed.directory now; lines = wanted desk entry })
        desk own.0 own.1 is refl (row entry.runs.program desk.committed.directory now) desk counts (moves-none all desk)

    by_entry : (one : Option Active) → find (λ (entry : Active). entry.number == number) desk.active ≡ one → Does all word number desk (instruction word one desk counts)
    by_entry None is = moves-none all desk
    by_entry (Some entry) is = by_state entry (found all number desk.active entry are is) (after entry.runs.program entry.runs.args desk.committed entry.rows) refl

-- one more step of a turn
ends-after : (all : List Activation) (word : DiskWord) (number : ℕ) (old mid new : Desk) (ending : Ending) → Moves all old mid → Ends all word number mid new ending → Ends all word number old new ending
ends-after all word number old mid new (Committed steps out) moves did = grind (arith, nat_tests)
ends-after all word number old mid new CommitUnwritten moves did = record { broken = did.broken; committed = did.committed ∙ moves.committed; order = did.order ∙ moves.order; closed = did.closed }
ends-after all word number old mid new CommitDoubted moves did = grind (arith, nat_tests)
ends-after all word number old mid new _ moves did = moves-on all old mid new moves did

does-after : (all : List Activation) (word : DiskWord) (number : ℕ) (old mid : Desk) (turning : Turning) → Moves all old mid → Does all word number mid turning → Does all word number old turning
does-after all word number old mid (Going desk counts) moves did = moves-on all old mid desk moves did
does-after all word number old mid (Over desk counts ending) moves did = ends-after all word number old mid desk ending moves did

-- so many instructions more
does-turns : (all : List Activation) (word : DiskWord) (number left : ℕ) (old : Desk) (turning : Turning) → AreNumbered all old.active → Does all word number old turning
    → Does all word number old (turns word number left turning)
unfolding turns
does-turns all word number zero old (Going desk counts) are did = did
does-turns all word number (suc left) old (Going desk counts) are did =
    does-turns all word number left old _ are
    (does-after all word number old desk _ did (does-instruction all word number desk counts (did.numbered_all are)))
does-turns all word number left old (Over desk counts ending) are did = did

-- a turn
pub does-turn : (all : List Activation) (word : DiskWord) (number limit : ℕ) (desk : Desk) → AreNumbered all desk.active → Does all word number desk (turn word number limit desk)
does-turn all word number limit desk are = grind (arith, nat_tests, moves-none, does-turns)
