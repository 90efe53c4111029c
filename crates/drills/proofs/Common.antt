-- The names that most proofs cite, passed on from one place. Declares nothing.
pub use Rattle.std.proofs.Common.{Bool, List, None, Option, Some, [], add-one, ap, append-nil, append_assoc, arith, cond, drop, false, get_or, inl, inr, length, length-append, map, refl, rules, subst, suc, sym, take, true, zero, ℕ, ◌%◌, ◌*◌, ◌++◌, ◌+◌, ◌-◌, ◌<◌, ◌∙◌, ◌∷◌, ◌≡◌, ◌≢◌, ◌≤◌, ◌⊎◌, ⊎_elim}
pub use Rattle.std.proofs.lemmas.List.{get_or-drop, get_or-map, length-drop, length-map, take_more}
pub use Rattle.std.proofs.lemmas.List.Sums.{length-filter, sum_by-append}
pub use Rattle.std.specs.List.{AllZip, starts_with, flat_map}
pub use Rattle.std.specs.Prelude.{All, Err, IfOk, IsSome, Ok, Result, Vec, codes, count_by, if◌then◌else◌, min, nat_eq, not, unwrap_or, ◌==◌, ◌^◌, ◌||◌, ◌↔◌}
pub use Rattle.arrayvec.specs.ArrayVec.{ArrayVec}
pub use Rattle.call_status.specs.Call.{Given, call, given}
pub use Rattle.call_status.specs.Opening.{IsStanding, StandsAt, TellsStore}
pub use Rattle.call_status.specs.declared.status.Status.{Status}
pub use Rattle.desk.specs.Answers.{order_told}
pub use Rattle.desk.specs.Seen.{commits_seen, whole_lines}
pub use Rattle.desk.specs.declared.answers.Committed.{Committed}
pub use Rattle.desk.specs.Run.{Happening}
pub use Rattle.desk.specs.declared.event.Event.{Event}
pub use Rattle.flat_machine.specs.declared.machine.Program.{Program}
pub use Rattle.job_calls.specs.Headline.{ByOpening, DidBy, FoundNoStore, HappenedTo, JobHasRun, HasRunFrom, StoodForNone, Untouched, job_desk, names_of, put_by}
pub use Rattle.job_text.specs.declared.job.Job.{Job}
pub use Rattle.lines.specs.FlatStore.{FlatStore}
pub use Rattle.listing.proofs.PutsLemmas.{puts_on, puts_same, puts_stop, times_on}
pub use Rattle.outside.specs.Causes.{Rose, CountsFault}
pub use Rattle.outside.specs.MemoryDisk.{disk_faults, disk_first, disk_held, disk_images, disk_moment, disk_writes, FailsAsDue, FoundNoMemory, IsRecorded, WasTried, disk_origin, disk_plan, is_disk_starved}
pub use Rattle.outside.specs.Moments.{Elapses}
pub use Rattle.outside.specs.Runs.{FewerLater, held_of}
pub use Rattle.schedule_replay.specs.RunAsks.{OpenedAsks, RunAsks, happened}
pub use Rattle.outside.specs.declared.world.Outside.{Ghosts}
pub use Rattle.store_format.specs.Header.{HasRanges, fresh, header_of, most_lines}
pub use Rattle.store_format.specs.Stands.{Standing, Stands}
unfoldable pub use Rattle.store_format.specs.Stands.{stands}
pub use Rattle.drills.specs.Asked.{HappenedAsks, OpenedWith}
pub use Rattle.drills.specs.Drill.{HasAsked, IsRunLeft, IsStop, IsStoppedRun, IsTold, all_fine, fine_order}
pub use Rattle.drills.specs.Drilled.{DrilledBy, DrilledTo, IsPair, IsPast, IsTried, PutsFirst, PutsStops, PutsWhole, broken, last_line, pair_lines, stop_line, stop_lines, try_flat, try_order, well, IsStopFound}
pub use Rattle.drills.specs.declared.stops.Stop.{Stop}
pub use Rattle.drills.specs.Stopping.{AreFewer, AreStopped, IsStopping, KeepsTo, left_after, left_by, stop_number}
pub use Rattle.drills.specs.StoppingDisk.{deeds_of, memory_of}
pub use Rattle.drills.specs.declared.stopping_disk.StoppingDisk.{StoppingDisk}
pub use Rattle.outside.specs.Bytes.{AreTold, Prints, written}
pub use Rattle.outside.specs.Deeds.{Deed, Since, Synced, SyncedOnce, Tore, Wrote}
pub use Rattle.outside.specs.MemoryScreen.{screen_printed}
pub use Rattle.outside.specs.Origin.{Origin}
pub use Rattle.outside.specs.Plan.{DiskPlan, after_call, after_write, fate_of, held_by_fate, is_failed, is_failing, is_last, outcome_of, stops}
pub use Rattle.outside.specs.declared.failed.Failed.{Failed}
pub use Rattle.outside.specs.declared.memory_disk.MemoryDisk.{MemoryDisk}
pub use Rattle.real_files.specs.Deeds.{deed_failed, deed_writes}
pub use Rattle.std.proofs.lemmas.Bool.{cases_Bool, cases_lt, eqb-false, eqb-true, or_cases}
pub use Rattle.std.proofs.lemmas.Bool.Decides.{nat_tests}
