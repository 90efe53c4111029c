-- What an instruction leaves of who is active.
use Rattle.desk_law.proofs.Common.{◌≡◌, ◌≢◌, refl, ℕ, ◌+◌, ◌==◌, ◌⊎◌, Bool, true, false, List, [], ◌∷◌, length, Option, Some, None, inl, inr, ap, sym, ◌∙◌, subst, eqb-true, eq-eqb, both_ways, victim_of, Plain, Outcome, On, Commit, Check, row, after, Desk, Active, with_active, conflicts_of, DiskWord, Unwritten, Doubt, Counts, Turning, Going, Over, Idle, Limit, Waits, CommitUnwritten, CommitDoubted, InFlight, Fetching, Fetched, Broken, Contest, Contested, Settled, Lost, attempts, attempts_at, instruction, limited, is_over_limit, fetched_first, fetches_touched, asks, gets, goes_on, takes_effect, commits, contest_ends, waits_or_gets, with_grants, refused_pages, breaks_cycles, gone_on, IsAmong, IsConsistent, next_attempt}
use Rattle.desk_law.proofs.Entries.{among-found, none-found, among-replaced, one-entry}
use Rattle.desk_law.proofs.Others.{others, among-others}
use Rattle.desk_law.proofs.Contest.{VictimsKeep, victims-keep}
use Rattle.progress.specs.Oldest.{waiting_now}

-- nobody has the number
abbrev pub HasGone : ℕ → List Active → Type 0
HasGone number entries = (other : Active) → IsAmong entries other → (other.number == number) ≡ false

module _ (word : DiskWord) (attempt : InFlight) (old : Desk) where
  -- those of other numbers were there before
  abbrev pub AreThere : List Active → Type 0
  AreThere entries = (other : Active) → IsAmong entries other → (other.number == attempt.entry.number) ≡ false → IsAmong old.active other

  -- the one that has the number is the entry after so many rows
  abbrev pub IsAt : (rows : ℕ) → List Active → Type 0
  IsAt rows entries = (other : Active) → IsAmong entries other → (other.number == attempt.entry.number) ≡ true → (other.runs ≡ attempt.entry.runs) × (other.rows ≡ rows)

  pub record IsHere (rows : ℕ) (entries : List Active) : Type 0 where
    pub others : AreThere entries
    pub own : IsAt rows entries

  pub record HasLeft (entries : List Active) : Type 0 where
    pub others : AreThere entries
    pub gone : HasGone attempt.entry.number entries

  -- nothing but the entry's mark is new, or somebody else has left
  abbrev pub IsMarked : Desk → Type 0
  IsMarked desk = (desk.committed ≡ old.committed) × (desk.active ≡ (with_active old (waiting_now attempt.entry)).active)

  pub record LostOne (desk : Desk) : Type 0 where
    pub victim : Active
    pub was : IsAmong old.active victim
    pub other : (victim.number == attempt.entry.number) ≡ false
    pub gone : HasGone victim.number desk.active

  abbrev pub IsMet : Desk → Type 0
  IsMet desk = IsHere attempt.entry.rows desk.active × (IsMarked desk ⊎ LostOne desk)

  -- what an instruction comes to
  abbrev pub Comes : Turning → Type 0
  Comes (Going desk counts) = IsHere (attempt.entry.rows + 1) desk.active
  Comes (Over desk counts Idle) = ⊥
  Comes (Over desk counts Limit) = ⊥
  Comes (Over desk counts (Waits holders)) = IsMet desk × (conflicts_of desk attempt.entry ≡ holders) × (holders ≢ [])
  Comes (Over desk counts CommitUnwritten) = word ≡ Unwritten
  Comes (Over desk counts CommitDoubted) = word ≡ Doubt
  Comes (Over desk counts ending) = HasLeft desk.active

  abbrev Met : Contest → Type 0
  Met (Contested desk counts) = IsMet desk
  Met (Settled desk counts) = IsMet desk
  Met (Lost desk counts) = HasLeft desk.active

  -- an end of one
  fewer : (gone : Active) (entries : List Active) → AreThere entries → AreThere (others gone entries)
  fewer gone entries there other among differ = there other (among-others gone entries other among).0 differ

  own-left : (entries : List Active) → AreThere entries → HasLeft (others attempt.entry entries)
  own-left entries there = record { others = fewer attempt.entry entries there; gone = λ other among. (among-others attempt.entry entries other among).1 }

  went-on : (rows : ℕ) (entries : List Active) → IsHere rows entries → IsHere (attempt.entry.rows + 1) (with_active (record old { active = entries }) (gone_on attempt.entry)).active
  went-on rows entries here = record {
    others = λ other among differ. elim (among-replaced (gone_on attempt.entry) entries other among) [
      | inl new ↦ absurd (both_ways (other.number == attempt.entry.number) differ (eq-eqb other.number attempt.entry.number (sym (ap (λ (one : Active). one.number) new))))
      | inr was ↦ here.others other was.0 differ
    ];
    own = λ other among same. elim (among-replaced (gone_on attempt.entry) entries other among) [
      | inl new ↦ (sym (ap (λ (one : Active). one.runs) new), sym (ap (λ (one : Active). one.rows) new))
      | inr was ↦ absurd (both_ways (other.number == attempt.entry.number) was.1 same)
    ];
  }

  marked-here : IsAmong old.active attempt.entry → IsHere attempt.entry.rows (with_active old (waiting_now attempt.entry)).active
  marked-here here = record {
    others = λ other among differ. elim (among-replaced (waiting_now attempt.entry) old.active other among) [
      | inl new ↦ absurd (both_ways (other.number == attempt.entry.number) differ (eq-eqb other.number attempt.entry.number (sym (ap (λ (one : Active). one.number) new))))
      | inr was ↦ was.0
    ];
    own = λ other among same. elim (among-replaced (waiting_now attempt.entry) old.active other among) [
      | inl new ↦ (sym (ap (λ (one : Active). one.runs) new), sym (ap (λ (one : Active). one.rows) new))
      | inr was ↦ absurd (both_ways (other.number == attempt.entry.number) was.1 same)
    ];
  }

  come-commit : (kind : DiskWord) → word ≡ kind → (rows : ℕ) (desk : Desk) (counts : Counts) → IsHere rows desk.active → Comes (commits kind attempt desk counts)
  come-commit Unwritten is rows desk counts here = is
  come-commit Doubt is rows desk counts here = is
  come-commit _ is rows desk counts here = own-left desk.active here.others

  come-effect : (rows : ℕ) (desk : Desk) (counts : Counts) (outcome : Outcome) → IsHere rows desk.active → Comes (takes_effect word attempt outcome desk counts)
  come-effect rows desk counts (On next) here = went-on rows desk.active here
  come-effect rows desk counts Commit here = come-commit word refl rows desk counts here
  come-effect rows desk counts (Check code) here = own-left desk.active here.others

  come-on : (rows : ℕ) (desk : Desk) (counts : Counts) (fetching : Fetching) → IsHere rows desk.active → Comes (goes_on word attempt desk counts fetching)
  come-on rows desk counts (Fetched resident counted) here = come-effect rows (record desk { resident = resident }) (record counts { pages = counted }) attempt.outcome here
  come-on rows desk counts (Broken counted) here = own-left desk.active here.others

  come-get : (rows : ℕ) (refused : List ℕ) (desk : Desk) (counts : Counts) → IsHere rows desk.active → Comes (gets word attempt refused desk counts)
  come-get rows refused desk counts here = come-on rows (with_grants attempt refused desk) counts (fetches_touched word attempt (with_grants attempt refused desk) counts) here

  come-wait : (refused holders : List ℕ) (desk : Desk) (counts : Counts) → conflicts_of desk attempt.entry ≡ holders → IsMet desk → Comes (waits_or_gets word attempt refused holders desk counts)
  come-wait refused [] desk counts is met = come-get attempt.entry.rows refused desk counts met.0
  come-wait refused (holder ∷ holders) desk counts is met = (met, is, λ none. cc)

  come-contest : (refused : List ℕ) (contest : Contest) → Met contest → Comes (contest_ends word attempt refused contest)
  come-contest refused (Contested desk counts) met = come-wait refused (conflicts_of desk attempt.entry) desk counts refl met
  come-contest refused (Settled desk counts) met = come-wait refused (conflicts_of desk attempt.entry) desk counts refl met
  come-contest refused (Lost desk counts) left = left

  breaks-met : (left : ℕ) (contest : Contest) → Met contest → Met (breaks_cycles left attempt.entry.number contest)
  breaks-met left contest met = victims-keep Met attempt.entry.number (λ desk counts met. met) by_victim left contest met
    where
      by_victim : VictimsKeep Met attempt.entry.number
      by_victim desk counts cycle None true met found is = record {
        others = met.0.others;
        gone = λ other among. subst (λ (n : ℕ). (other.number == n) ≡ false) (eqb-true (victim_of cycle) attempt.entry.number is) (none-found (λ (entry : Active). entry.number == victim_of cycle) desk.active found other among);
      }
      by_victim desk counts cycle (Some victim) true met found is =
          let named : victim.number ≡ attempt.entry.number = eqb-true victim.number (victim_of cycle) (among-found (λ (entry : Active). entry.number == victim_of cycle) desk.active victim found).1 ∙ eqb-true (victim_of cycle) attempt.entry.number is in
          record {
            others = fewer victim desk.active met.0.others;
            gone = λ other among. subst (λ (n : ℕ). (other.number == n) ≡ false) named (among-others victim desk.active other among).1;
          }
      by_victim desk counts cycle None false met found is = met
      by_victim desk counts cycle (Some victim) false met found is =
          let (there, passes) = among-found (λ (entry : Active). entry.number == victim_of cycle) desk.active victim found in
          let differ : (victim.number == attempt.entry.number) ≡ false = subst (λ (n : ℕ). (n == attempt.entry.number) ≡ false) (sym (eqb-true victim.number (victim_of cycle) passes)) is in (
            record { others = fewer victim desk.active met.0.others; own = λ other among same. met.0.own other (among-others victim desk.active other among).0 same },
            inr (record { victim = victim; was = met.0.others victim there differ; other = differ; gone = λ other among. (among-others victim desk.active other among).1 }),
          )

  come-ask : (refused holders : List ℕ) (desk : Desk) (counts : Counts) → desk.committed ≡ old.committed → desk.active ≡ old.active → IsHere attempt.entry.rows desk.active → IsAmong old.active attempt.entry → Comes (asks word attempt refused holders desk counts)
  come-ask refused [] desk counts committed active here there = come-get attempt.entry.rows refused desk counts here
  come-ask refused (holder ∷ holders) desk counts committed active here there =
      let marks : (with_active desk (waiting_now attempt.entry)).active ≡ (with_active old (waiting_now attempt.entry)).active = ap (λ (entries : List Active). (with_active (record old { active = entries }) (waiting_now attempt.entry)).active) active in
      come-contest refused (breaks_cycles (length desk.active) attempt.entry.number (Contested (with_active desk (waiting_now attempt.entry)) counts))
      (breaks-met (length desk.active) (Contested (with_active desk (waiting_now attempt.entry)) counts)
      (subst (IsHere attempt.entry.rows) (sym marks) (marked-here there), inl (committed, marks)))

  come-limit : (over : Bool) (counts : Counts) → IsHere attempt.entry.rows old.active → IsAmong old.active attempt.entry → Comes (limited over word attempt old counts)
  come-limit true counts here there = own-left old.active here.others
  come-limit false counts here there = by_fetch (fetches_touched word attempt old counts)
    where
      by_fetch : (fetching : Fetching) → Comes (fetched_first word attempt old counts fetching)
      by_fetch (Fetched resident counted) =
          let now = record old { resident = resident } in
          come-ask (refused_pages attempt now) (conflicts_of now attempt.entry) now
          (record { ran = counts.ran; pages = counted; locks = counts.locks + length (refused_pages attempt now); cycles = counts.cycles }) refl refl here there
      by_fetch (Broken counted) = own-left old.active here.others

  pub come-attempt : (outcome : Outcome) (counts : Counts) → IsHere attempt.entry.rows old.active → IsAmong old.active attempt.entry → Comes (attempts word attempt outcome old counts)
  come-attempt (Check code) counts here there = own-left old.active here.others
  come-attempt _ counts here there = come-limit (is_over_limit attempt old) counts here there

-- what an instruction of an active entry of a consistent desk comes to
pub record Came (word : DiskWord) (desk : Desk) (entry : Active) (turning : Turning) : Type 0 where
  pub now : Plain
  pub at : after entry.runs.program entry.runs.args desk.committed entry.rows ≡ Some now
  pub comes : Comes word (next_attempt desk entry now) desk turning

pub came : (word : DiskWord) (desk : Desk) (counts : Counts) (entry : Active) → IsConsistent desk → IsAmong desk.active entry → Came word desk entry (instruction word (Some entry) desk counts)
unfolding instruction
came word desk counts entry is there =
    let live = is.active.live entry there in
    record {
      now = live.state;
      at = live.is;
      comes =
          subst (λ (state : Option Plain). Comes word (next_attempt desk entry live.state) desk (attempts_at word entry state desk counts)) (sym live.is)
          (come-attempt word (next_attempt desk entry live.state) desk (row entry.runs.program desk.committed.directory live.state) counts
          (record { others = λ other among differ. among; own = λ other among same. let one : other ≡ entry = one-entry 0 desk.next desk.active other entry is.active.ascend among there (eqb-true other.number entry.number same) in (ap (λ (one : Active). one.runs) one, ap (λ (one : Active). one.rows) one) })
          there);
    }
