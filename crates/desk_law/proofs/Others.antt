-- A commit of one activation leaves the others as they were.
use Rattle.desk_law.proofs.Common.{◌+◌, ◌≡◌, ℕ, ◌==◌, not, Bool, true, false, List, filter, Some, arith, not_from_false, FlatStore, IsWholeStore, has, Lines, with_whole_pages, has-append, has_left, has_right, Plain, after, On, row, touched_next, all_of, DoesTheSame, agreement_enough, after-whole, after-kept, Active, committed_by, IsAmong, due_to, AreLinesApart, AreConsistent, nat_tests}
use Rattle.desk_law.proofs.Entries.{among-filter, filter-among, ascend-filter}

-- the state after a row more
pub after-row : (store : FlatStore) (entry : Active) (now next : Plain) → after entry.runs.program entry.runs.args store entry.rows ≡ Some now
    → row entry.runs.program store.directory now ≡ On next → after entry.runs.program entry.runs.args store (entry.rows + 1) ≡ Some next
after-row store entry now next at went = grind (arith, nat_tests)

-- what one has touched, another that is apart has not written
pub unwritten : (fine : ℕ → Bool) (first second : Lines) → AreLinesApart (with_whole_pages fine first) (with_whole_pages fine second)
    → (line : ℕ) → has (all_of second) line ≡ true → has first.writes line ≡ false
unwritten fine first second apart line inside = grind (arith, nat_tests, has-append, has_left, has_right)

-- another does the same over what the commit leaves
pub another-same : (store : FlatStore) (entry other : Active) (now state : Plain) → IsWholeStore store
    → after entry.runs.program entry.runs.args store entry.rows ≡ Some now
    → after other.runs.program other.runs.args store other.rows ≡ Some state
    → AreLinesApart (due_to store entry) (due_to store other)
    → (bytes : List ℕ) × DoesTheSame other.runs.program other.runs.args store (committed_by store now) other.rows state bytes
another-same store entry other now state whole here there apart = grind (arith, nat_tests, agreement_enough, after-whole, after-kept, unwritten)

-- what is due to another stays, and what it wants
pub record StaysSame (store later : FlatStore) (other : Active) : Type 0 where
  pub due : due_to later other ≡ due_to store other
  pub wants : touched_next other.runs.program other.runs.args later other.rows ≡ touched_next other.runs.program other.runs.args store other.rows

pub another-stays :
    (store : FlatStore) (most_lines next : ℕ) (entries : List Active) (entry other : Active) (now : Plain) → IsWholeStore store
    → AreConsistent store most_lines next entries → IsAmong entries entry → IsAmong entries other → (other.number == entry.number) ≡ false
    → after entry.runs.program entry.runs.args store entry.rows ≡ Some now → StaysSame store (committed_by store now) other
another-stays store most_lines next entries entry other now whole are here there differ is =
    grind (arith, nat_tests, another-same store entry other now)

-- the entries that are left
abbrev pub others : Active → List Active → List Active
others entry entries = filter (λ (other : Active). not (other.number == entry.number)) entries

-- each of them was among all, and has another number
pub among-others : (gone : Active) (entries : List Active) (other : Active) → IsAmong (others gone entries) other → IsAmong entries other × ((other.number == gone.number) ≡ false)
among-others gone entries other among = grind (arith, nat_tests, among-filter)

pub others-among : (gone : Active) (entries : List Active) (other : Active) → IsAmong entries other → (other.number == gone.number) ≡ false → IsAmong (others gone entries) other
others-among gone entries other among differ = filter-among (λ (other : Active). not (other.number == gone.number)) entries other among (not_from_false (other.number == gone.number) differ)

-- the others are consistent over what a commit leaves
pub commit-leaves :
    (store : FlatStore) (most_lines next : ℕ) (entries : List Active) (entry : Active) (now : Plain) → IsWholeStore store
    → AreConsistent store most_lines next entries → IsAmong entries entry
    → after entry.runs.program entry.runs.args store entry.rows ≡ Some now
    → AreConsistent (committed_by store now) most_lines next (others entry entries)
commit-leaves store most_lines next entries entry now whole are here is =
    grind (arith, nat_tests, ascend-filter, among-others entry entries, another-same, another-stays store most_lines next entries entry)

-- and after a rollback
pub rollback-leaves : (store : FlatStore) (most_lines next : ℕ) (entries : List Active) (entry : Active)
    → AreConsistent store most_lines next entries → AreConsistent store most_lines next (others entry entries)
rollback-leaves store most_lines next entries entry are = grind (arith, nat_tests, ascend-filter, among-filter)
