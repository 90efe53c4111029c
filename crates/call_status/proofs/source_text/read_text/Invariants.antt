use Rattle.std.proofs.Common.{◌≡◌, ◌≤◌, ◌-◌, ◌+◌, length, vec_len}
use Rattle.std.specs.Io.KnownBytes.{Consumes}
use Rattle.call_status.proofs.source_text.read_text.Given as goal

abbrev pub invariant-loop-part : goal.invariant-loop-part
invariant-loop-part g l =
    Consumes (g.S.Source.left l.fn.source) (g.S.Source.left l.source) l.text.items × (length l.text.items ≤ l.most + 1) × (g.S.Source.faults l.source ≡ g.S.Source.faults l.fn.source)

abbrev pub decreases-loop-part : goal.decreases-loop-part
decreases-loop-part g l = l.most + 1 - vec_len l.text
