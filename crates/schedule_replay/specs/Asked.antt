-- Which events may be asked, and how many begins and turns are among events.
use Rattle.std.specs.Prelude.{ℕ, ◌<◌, ◌≤◌, Bool, true, false, List, count_by}
use Rattle.schedule_replay.specs.Below.{Begin, Event}
use Rattle.desk.specs.declared.event.Event.TheVariants.{Turn}

-- a begin is of one of so many programs, and a turn has a limit of at most 1,000,000
abbrev pub IsAsked : ℕ → Event → Type 0
IsAsked programs (Begin program args) = program < programs
IsAsked programs (Turn activation limit) = limit ≤ 1000000
IsAsked programs _ = Unit {0}

-- whether an event is a begin
abbrev pub is_begin : Event → Bool
is_begin (Begin program args) = true
is_begin _ = false

-- whether an event is a turn
abbrev pub is_turn : Event → Bool
is_turn (Turn activation limit) = true
is_turn _ = false

-- how many of these events are begins
abbrev pub begins_in : List Event → ℕ
begins_in events = count_by is_begin events

-- how many of these events are turns
abbrev pub turns_in : List Event → ℕ
turns_in events = count_by is_turn events
