-- What each command does.
use Rattle.console.specs.Below.{Audited, FollowedFrom, Ghosts, Given, Made, RangeShown, Renewed, ShippedFrom, TracedFrom}
use Rattle.job_calls.specs.declared.ended.Ended.{Ended}
use Rattle.job_calls.specs.Big.{Loaded}
use Rattle.job_calls.specs.Headline.{Happened, ended_call}
use Rattle.drills.specs.Drilled.{Drilled}
use Rattle.console.specs.Listed.{Listed}
use Rattle.console.specs.declared.command_words.Command.{Command}
use Rattle.console.specs.declared.command_words.Command.TheVariants as command

-- A command did what it does, with what it was given of its source, from one state of the outside to another, as it ended: a job was run, listed or
-- drilled, bytes were shown, a store was made or renewed, records were shipped or followed, a load was run, or a bundle was checked or traced.
abbrev pub Does : {W : Type 0} → Ghosts W → Command → Given → W → W → Ended → Type 0
Does G command.Try source before after ended = Happened G source (ended_call before after ended) ended.session
Does G command.Run source before after ended = Happened G source (ended_call before after ended) ended.session
Does G command.List source before after ended = Listed G source (ended_call before after ended)
Does G command.Drill source before after ended = Drilled G source (ended_call before after ended)
Does G (command.Show range) source before after ended = RangeShown G range (ended_call before after ended)
Does G (command.New header) source before after ended = Made G header (ended_call before after ended)
Does G (command.Renew bank) source before after ended = Renewed G bank source (ended_call before after ended)
Does G (command.Ship from) source before after ended = ShippedFrom G from (ended_call before after ended)
Does G command.Follow source before after ended = FollowedFrom G source (ended_call before after ended)
Does G (command.Big transfers) source before after ended = Loaded G transfers (ended_call before after ended) ended.session
Does G command.Audit source before after ended = Audited G source (ended_call before after ended)
Does G (command.Trace activation) source before after ended = TracedFrom G activation source (ended_call before after ended)
