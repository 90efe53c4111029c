-- What happened at each event of a run, and what was asked of the disk for it.
use Rattle.std.specs.Prelude.{◌≡◌, List, [], ◌∷◌}
use Rattle.desk.specs.Asked.{EventAsks}
use Rattle.desk.specs.Run.{step}
use Rattle.flat_machine.specs.declared.machine.Program.{Program}
use Rattle.outside.specs.Deeds.{Since, SyncedOnce}
use Rattle.outside.specs.Moments.{IsNotAfter}
use Rattle.schedule_replay.specs.Below.{Desk, DiskWord, Event, Ghosts, Happening, held_of}

-- what happened at each event of a run from a desk, in order
abbrev pub happened : List Program → List (Event × DiskWord) → Desk → List Happening
happened programs [] desk = []
happened programs (event ∷ events) desk = (step programs event.0 event.1 desk).happening ∷ happened programs events (step programs event.0 event.1 desk).desk

-- What was asked while these happened, one after another: each asks by the bytes that stood when it began, and nothing is asked between them or behind them.
abbrev pub RunAsks : {W : Type 0} → Ghosts W → List Happening → (before after : W) → Type 0
RunAsks G [] before after = (G.deeds after ≡ G.deeds before) × (G.held after ≡ G.held before) × IsNotAfter (G.moment before) (G.moment after)
RunAsks {W} G (one ∷ later) before after = (mid : W) × IsNotAfter (G.moment before) (G.moment mid) × Since (G.deeds before) (G.deeds mid) (EventAsks (held_of G before) one) × RunAsks G later mid after

-- the same behind an opening: one sync, and then that
abbrev pub OpenedAsks : {W : Type 0} → Ghosts W → List Happening → (before after : W) → Type 0
OpenedAsks {W} G these before after =
    (start : W) × IsNotAfter (G.moment before) (G.moment start) × SyncedOnce (G.deeds before) (G.deeds start) × (G.held start ≡ G.held before) × RunAsks G these start after
