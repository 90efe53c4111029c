-- What a row and a commit make of an entry, a store and a desk.
use Rattle.std.specs.Prelude.{◌+◌, false}
use Rattle.desk_law.specs.Below.{InFlight, Desk, ended, Active, FlatStore, Plain, with_active, with_lowered}

-- an entry once its row has gone on
abbrev pub gone_on : Active → Active
gone_on entry = record entry { rows = entry.rows + 1; waiting = false }

-- the desk once the row of an attempt has taken effect and gone on
abbrev pub row_done : InFlight → Desk → Desk
row_done attempt desk = with_active (with_lowered attempt desk) (gone_on attempt.entry)

-- the store once an entry has committed at a state
abbrev pub committed_by : FlatStore → Plain → FlatStore
committed_by store now = record store { bytes = now.store }

-- the desk after an entry has committed at a state, but for its order
abbrev pub committed_at : Desk → Active → Plain → Desk
committed_at desk entry now = record (ended desk entry.number) { committed = committed_by desk.committed now }
