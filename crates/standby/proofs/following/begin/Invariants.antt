use Rattle.standby.proofs.Common.{take, line_bytes, IsBegun, record_of}
use Rattle.standby.proofs.following.begin.Given as goal

-- the lines so far are begun
abbrev pub invariant-loop-index : goal.invariant-loop-index
invariant-loop-index l = record { begun : IsBegun l.fn.durable l.durable (take l.index (record_of (line_bytes l.fn.durable.header.directory.page) l.sent)) }
