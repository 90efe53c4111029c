-- An instruction stage by stage, as one that serves a fault goes through them.
use Rattle.desk_law.proofs.Common.{◌≡◌, refl, ℕ, ◌+◌, Bool, false, List, length, Option, Some, ap, is_fine_page, Plain, Outcome, On, Check, after, Desk, Active, conflicts_of, DiskWord, Fine, Counts, Going, InFlight, Fetched, Broken, Settled, fetches, instruction, attempts, attempts_at, limited, is_over_limit, fetched_first, fetches_touched, asks, gets, takes_effect, touched_pages, refused_pages, granted, locks_with, breaks, contest_ends, waits_or_gets, Reads, row_done, nat_tests, arith, next_attempt}

-- a row that goes on, or is the commit call
abbrev pub GoesOn : Outcome → Type 0
GoesOn (Check code) = ⊥
GoesOn _ = Unit {0}

pub reads-all : (counted : ℕ) → Reads Fine counted
reads-all counted page few = refl

-- an instruction at a state, by its row
pub instruction-at : (word : DiskWord) (entry : Active) (desk : Desk) (counts : Counts) (now : Plain)
    → after entry.runs.program entry.runs.args desk.committed entry.rows ≡ Some now
    → instruction word (Some entry) desk counts ≡ attempts word (next_attempt desk entry now) (next_attempt desk entry now).outcome desk counts
unfolding instruction
instruction-at word entry desk counts now is = ap (λ (state : Option Plain). attempts_at word entry state desk counts) is

module _ (word : DiskWord) (attempt : InFlight) (desk : Desk) (counts : Counts) where
  -- 2. Otherwise the lines that it will have written are counted. Past the limit it is rolled back.
  pub stage-limit : (outcome : Outcome) (over : Bool) → GoesOn outcome → is_over_limit attempt desk ≡ over
      → attempts word attempt outcome desk counts ≡ limited over word attempt desk counts
  stage-limit outcome over goes is = grind (arith, nat_tests)

  -- 3. Within it, its pages are fetched; where one can't be read it is rolled back and nothing is resident.
  pub stage-broken : (counted : ℕ) → fetches_touched word attempt desk counts ≡ Broken counted
      → limited false word attempt desk counts ≡ breaks attempt desk counts counted
  stage-broken counted is = ap (fetched_first word attempt desk counts) is

  -- 4. Then its refused pages are counted, and its conflicts looked for.
  pub stage-fetched : (resident : List ℕ) (counted : ℕ) (holders : List ℕ) → fetches_touched word attempt desk counts ≡ Fetched resident counted
      → conflicts_of desk attempt.entry ≡ holders
      → limited false word attempt desk counts
      ≡ asks word attempt (refused_pages attempt desk) holders (record desk { resident = resident })
      (record counts { pages = counted; locks = counts.locks + length (refused_pages attempt desk) })
  stage-fetched resident counted holders is conflict = grind (arith, nat_tests)

  module _ (refused : List ℕ) where
    -- 8. Once a contest is settled, it waits for those that are left, or gets its pages.
    pub stage-settled : (holders : List ℕ) → conflicts_of desk attempt.entry ≡ holders
        → contest_ends word attempt refused (Settled desk counts) ≡ waits_or_gets word attempt refused holders desk counts
    stage-settled holders is = ap (λ (these : List ℕ). waits_or_gets word attempt refused these desk counts) is

    -- 9. It gets its pages: those that left are fetched again, and the row takes effect.
    pub stage-gets : (authority : List _) (resident : List ℕ) (counted : ℕ) → granted (is_fine_page desk.committed.directory) attempt (locks_with attempt desk) refused desk.authority ≡ authority
        → fetches word desk.frames (touched_pages attempt) (touched_pages attempt) desk.resident counts.pages ≡ Fetched resident counted
        → gets word attempt refused desk counts
        ≡ takes_effect word attempt attempt.outcome (record desk { resident = resident; authority = authority }) (record counts { pages = counted })
    stage-gets authority resident counted grants is = grind (arith, nat_tests)

  -- 10. A row that goes on.
  pub stage-on : (outcome : Outcome) (next : Plain) → outcome ≡ On next
      → takes_effect word attempt outcome desk counts ≡ Going (row_done attempt desk) (record counts { ran = counts.ran + 1 })
  stage-on outcome next is = ap (λ (this : Outcome). takes_effect word attempt this desk counts) is
