-- The record of a disk's calls.
use Rattle.std.specs.Prelude.{◌+◌, ◌<◌, ◌^◌, List, vec_len, vec_capacity}
use Rattle.outside.specs.declared.recorded_calls.Calls.{Calls}
use Rattle.outside.specs.declared.call_record.DiskCall.{DiskCall}
use Rattle.outside.specs.Record.{calls_of}

-- the calls, in order
abbrev pub made_of : Calls → List DiskCall
made_of calls = calls_of calls.runs.items calls.asked

-- there is room for a call more, and a number
abbrev pub HasRoom : Calls → Type 0
HasRoom calls = (vec_len calls.runs < vec_capacity calls.runs) × (calls.number + 1 < 2 ^ 64)
