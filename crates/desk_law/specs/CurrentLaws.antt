-- The laws of the bytes as they are now, and what a commit of one is to another.
use Rattle.std.specs.Prelude.{◌≡◌, ℕ, ◌==◌, if◌then◌else◌, IsTrue, IsFalse, List, [], Some}
use Rattle.desk_law.specs.Below.{after, all_of, conflicts_of, Desk, DoesTheSame, due_to, Active, has, flat_line, On, Plain, rolled_back, row, wanted, with_active}
use Rattle.desk_law.specs.Changes.{gone_on, committed_by, committed_at}
use Rattle.desk_law.specs.Consistent.{IsAmong, IsConsistent}
use Rattle.desk_law.specs.Current.{current, current_bytes, IsCurrent}

-- The law: the bytes of all lines end to end have every line as it is now, and no other bytes do.
abbrev pub OneListIsCurrent : Type 0
OneListIsCurrent =
    (desk : Desk) → IsConsistent desk
    → IsCurrent desk.committed desk.active (current_bytes desk)
    × ((bytes : List ℕ) → IsCurrent desk.committed desk.active bytes → bytes ≡ current_bytes desk)

-- The law: an active entry has each line that it holds as the line is now.
abbrev pub HoldersSeeCurrent : Type 0
HoldersSeeCurrent =
    (desk : Desk) (entry : Active) (state : Plain) (line : ℕ) → IsConsistent desk → IsAmong desk.active entry
    → after entry.runs.program entry.runs.args desk.committed entry.rows ≡ Some state
    → IsTrue (has (all_of (due_to desk.committed entry)) line)
    → flat_line desk.committed.directory state.store line ≡ current desk line

-- The law: a row that goes on while nobody conflicts changes the lines that it writes alone, and those are as the row leaves them.
abbrev pub RowsChangeTheirLines : Type 0
RowsChangeTheirLines =
    (desk : Desk) (entry : Active) (now next : Plain) (line : ℕ) → IsConsistent desk → IsAmong desk.active entry
    → after entry.runs.program entry.runs.args desk.committed entry.rows ≡ Some now
    → row entry.runs.program desk.committed.directory now ≡ On next → conflicts_of desk entry ≡ []
    → current (with_active desk (gone_on entry)) line
    ≡ (if has (wanted desk entry).writes line then flat_line desk.committed.directory next.store line else current desk line)

-- The law: such a row does to the bytes as they are now what it does to the entry's own bytes, and leaves them as they are then.
abbrev pub RowsRunOnCurrent : Type 0
RowsRunOnCurrent =
    (desk : Desk) (entry : Active) (now next : Plain) → IsConsistent desk → IsAmong desk.active entry
    → after entry.runs.program entry.runs.args desk.committed entry.rows ≡ Some now
    → row entry.runs.program desk.committed.directory now ≡ On next → conflicts_of desk entry ≡ []
    → row entry.runs.program desk.committed.directory (record now { store = current_bytes desk })
    ≡ On (record next { store = current_bytes (with_active desk (gone_on entry)) })

-- The law: a commit changes no line.
abbrev pub CommitsChangeNoLine : Type 0
CommitsChangeNoLine =
    (desk : Desk) (entry : Active) (now : Plain) (line : ℕ) → IsConsistent desk → IsAmong desk.active entry
    → after entry.runs.program entry.runs.args desk.committed entry.rows ≡ Some now
    → current (committed_at desk entry now) line ≡ current desk line

-- The law: a rollback gives the lines that the entry wrote their committed bytes, and changes no other line.
abbrev pub RollbacksGiveBack : Type 0
RollbacksGiveBack =
    (desk : Desk) (entry : Active) (line : ℕ) → IsConsistent desk → IsAmong desk.active entry
    → current (rolled_back desk entry) line
    ≡ (if has (due_to desk.committed entry).writes line then flat_line desk.committed.directory desk.committed.bytes line else current desk line)

-- The law: over what a commit of one leaves, another that is active does the same. Its state is the same but for the store, its locks and its
-- touched lines are the same and have the same bytes, and each line that it didn't write is as it is committed now.
abbrev pub CommitsLeaveOthers : Type 0
CommitsLeaveOthers =
    (desk : Desk) (entry other : Active) (now state : Plain) → IsConsistent desk
    → IsAmong desk.active entry → IsAmong desk.active other → IsFalse (other.number == entry.number)
    → after entry.runs.program entry.runs.args desk.committed entry.rows ≡ Some now
    → after other.runs.program other.runs.args desk.committed other.rows ≡ Some state
    → (bytes : List ℕ) × DoesTheSame other.runs.program other.runs.args desk.committed (committed_by desk.committed now) other.rows state bytes
