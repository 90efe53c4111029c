-- The stages put together: a fault that meets no conflict, and one whose contest left none, go on; and the second attempt of
-- each finds its lines there.
use Rattle.desk_law.proofs.Common.{false, nat_lt, ◌≡◌, ℕ, ◌+◌, true, List, [], ◌∷◌, length, filter, map, Some, ap, sym, ◌∙◌, subst, Lines, Plain, On, row, after, Desk, Active, with_active, conflicts_of, DiskWord, Fine, Counts, Turning, Going, InFlight, Fetched, fetches, instruction, lines_written, touched_pages, refused_pages, gets, asks, AreAlike, over_all, requested, IsTableBut, kept_conflict, AreStatesBut, IsTableTold, Reads, gone_on, row_done, IsAmong, due_to, MayGoOn, served_attempt, IsOrderly, nat_tests, arith}
use Rattle.desk_law.proofs.AttemptsOnCurrent.{wanted-is}
use Rattle.desk_law.proofs.KeptTables.{conflicts-kept}
use Rattle.desk_law.proofs.ServedEffect.{got}
use Rattle.desk_law.proofs.ServesConflicts.{IsContesting, contesting-begins}
use Rattle.desk_law.proofs.ServesToLocks.{asked_for, serve-asks, serve-ready, serve-ends}
use Rattle.desk_law.proofs.ToldSteps.{HasServed, told-served}

-- a row that was served: the instruction, wherever it began, goes on to a consistent desk, of which all is told
pub record WentOn (begins : DiskWord → Turning) (next : Desk) (more : Counts) (locks requests : ℕ → Lines) (states : ℕ → Plain) (bytes : List ℕ) : Type 0 where
  pub comes : (word : DiskWord) → Reads word more.pages → begins word ≡ Going next more
  pub consistent : IsOrderly next
  pub told : IsTableTold next.committed next.active locks requests states bytes

-- From where it gets its pages on.
pub gets-goes :
    (begins : DiskWord → Turning) (attempt : InFlight) (refused resident : List ℕ) (desk : Desk) (counts : Counts) (counted : ℕ) (locks more requests : ℕ → Lines) (states new : ℕ → Plain) (next shown : Plain) (bytes : List ℕ)
    → ((word : DiskWord) → Reads word counts.pages → begins word ≡ gets word attempt refused desk counts)
    → MayGoOn attempt desk → conflicts_of desk attempt.entry ≡ [] → attempt.outcome ≡ On next
    → IsTableTold desk.committed desk.active locks requests states bytes
    → fetches Fine desk.frames (touched_pages attempt) (touched_pages attempt) desk.resident counts.pages ≡ Fetched resident counted
    → row attempt.entry.runs.program desk.committed.directory (over_all attempt.now bytes) ≡ On shown
    → AreAlike (more attempt.entry.number) (due_to desk.committed (gone_on attempt.entry)) → IsTableBut attempt.entry.number locks more
    → new attempt.entry.number ≡ shown → AreStatesBut attempt.entry.number states new
    → WentOn begins (row_done attempt (got attempt refused resident desk)) (record counts { pages = counted; ran = counts.ran + 1 }) more requests new shown.store
gets-goes begins attempt refused resident desk counts counted locks more requests states new next shown bytes comes ready none goes told again went alike but_locks new_is but =
    let served : HasServed attempt refused resident desk counts counted more requests new shown =
    told-served attempt refused resident desk counts counted locks more requests states new next shown bytes ready none goes told went alike but_locks new_is but in
    record {
      comes = λ word reads. serve-ends begins attempt refused resident desk counts counted more requests new shown comes served again word reads;
      consistent = served.consistent;
      told = served.told;
    }

module _ (desk : Desk) (counts : Counts) (entry : Active) (now shown : Plain) (bytes : List ℕ) (is : IsOrderly desk) (here : IsAmong desk.active entry)
    (at : after entry.runs.program entry.runs.args desk.committed entry.rows ≡ Some now)
    (went : row entry.runs.program desk.committed.directory (over_all now bytes) ≡ On shown)
    (within : nat_lt desk.most_lines (lines_written (served_attempt desk entry now bytes) desk) ≡ false)
    (locks requests : ℕ → Lines) (states : ℕ → Plain) (told : IsTableTold desk.committed desk.active locks requests states bytes)
    (first : List ℕ) (counted : ℕ)
    (fetched : fetches Fine desk.frames (touched_pages (served_attempt desk entry now bytes)) (touched_pages (served_attempt desk entry now bytes)) desk.resident counts.pages ≡ Fetched first counted) where
  -- Without a conflict it gets its pages at once.
  pub free-gets : map (λ (other : Active). other.number) (filter (kept_conflict (asked_for desk.committed.directory (served_attempt desk entry now bytes)) locks entry.number) desk.active) ≡ []
      → (word : DiskWord) → Reads word counted
      → instruction word (Some entry) desk counts
      ≡ gets word (served_attempt desk entry now bytes) (refused_pages (served_attempt desk entry now bytes) desk) (record desk { resident = first })
      (record counts { pages = counted; locks = counts.locks + length (refused_pages (served_attempt desk entry now bytes) desk) })
  free-gets none word reads = grind (arith, nat_tests, serve-asks desk counts entry now shown bytes is here)

  alike-asked : AreAlike (asked_for desk.committed.directory (served_attempt desk entry now bytes)) (requested desk.committed entry)
  alike-asked = grind (arith, nat_tests, wanted-is desk entry now shown bytes)

  pub free-none : map (λ (other : Active). other.number) (filter (kept_conflict (asked_for desk.committed.directory (served_attempt desk entry now bytes)) locks entry.number) desk.active) ≡ []
      → conflicts_of (record desk { resident = first }) entry ≡ []
  free-none none = sym (conflicts-kept desk locks requests told.kept (asked_for desk.committed.directory (served_attempt desk entry now bytes)) entry alike-asked) ∙ none

  -- With a conflict its contest begins, with the kept request that it asks for.
  pub contest-begins : (holder : ℕ) (holders : List ℕ) (asked : ℕ → Lines)
      → map (λ (other : Active). other.number) (filter (kept_conflict (asked_for desk.committed.directory (served_attempt desk entry now bytes)) locks entry.number) desk.active) ≡ holder ∷ holders
      → asked entry.number ≡ asked_for desk.committed.directory (served_attempt desk entry now bytes) → IsTableBut entry.number requests asked
      → IsContesting (λ word. instruction word (Some entry) desk counts) (served_attempt desk entry now bytes) (refused_pages (served_attempt desk entry now bytes) desk)
      (record desk { resident = first }) (with_active (record desk { resident = first }) (record entry { waiting = true }))
      (record counts { pages = counted; locks = counts.locks + length (refused_pages (served_attempt desk entry now bytes) desk) })
      locks asked states bytes
  contest-begins holder holders asked some asked_is but =
      contesting-begins (λ word. instruction word (Some entry) desk counts) (served_attempt desk entry now bytes) (refused_pages (served_attempt desk entry now bytes) desk) holder holders
      (record desk { resident = first })
      (record counts { pages = counted; locks = counts.locks + length (refused_pages (served_attempt desk entry now bytes) desk) })
      locks requests asked states bytes (λ word reads.
      serve-asks desk counts entry now shown bytes is here at went within locks requests first counted told.kept fetched word reads
      ∙ ap
      (λ (these : List ℕ). asks word (served_attempt desk entry now bytes) (refused_pages (served_attempt desk entry now bytes) desk) these (record desk { resident = first })
      (record counts { pages = counted; locks = counts.locks + length (refused_pages (served_attempt desk entry now bytes) desk) }))
      some) (serve-ready desk counts entry now shown bytes is here at went within first)
      (record { whole = is.whole; few = is.few; active = is.active; held = is.held; no_cycle = is.no_cycle }) here told
      (subst (λ (l : Lines). AreAlike l (requested desk.committed entry)) (sym asked_is) alike-asked) but
