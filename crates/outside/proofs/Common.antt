-- The names that most proofs cite, passed on from one place. Declares nothing.
pub use Rattle.std.proofs.Common.{Bool, List, [], ap, append-nil, append_assoc, arith, drop, get_or, inl, inr, length, length-append, min, refl, rules, subst, suc, sym, take, zero, ℕ, ⊎_elim, ◌++◌, ◌+◌, ◌-◌, ◌<◌, ◌∙◌, ◌∷◌, ◌≡◌, ◌≢◌, ◌≤◌, ◌⊎◌}
pub use Rattle.std.proofs.lemmas.List.{drop-drop, drop_all, drop_at, length-drop, length-replicate, length-take, length-take-le, replicate-append-replicate, take-append-le, take_at, take_min, take_more, drop-append-le, take_all}
pub use Rattle.std.specs.Prelude.{Err, IsErr, IsOk, IsSome, None, Ok, OnErr, OnOk, Option, Result, Some, cond, count_by, if◌then◌else◌, is_ok, not, replicate, true, unwrap_or}
pub use Rattle.outside.specs.Bytes.{AreTold, Prints, Torn, Writes, written}
pub use Rattle.outside.specs.Calls.{made_of}
pub use Rattle.outside.specs.Causes.{CountsOwn, FailsOnlyCounted}
pub use Rattle.outside.specs.Clock.{AreInOrder, AreMadeBy, LeftAt, Records, shown_by, shown_of, put_start}
pub use Rattle.outside.specs.ClockLaws.{shown_by-past, shown_by-within, start_of-past, start_of-within, told_seen}
pub use Rattle.outside.specs.Images.{AddsNoImage, AsksImages, Images, ImagesFollow, IsRecordedOnce, Passes}
pub use Rattle.outside.specs.Origin.{Origin}
pub use Rattle.outside.specs.Moments.{AddsNone, AsksOnce, CallsOnce, Elapses, LeavesStep, IsNotAfter, IsOneCall, Moment, Pairs, PrintsNothing, ShowsPrefix}
pub use Rattle.outside.specs.Record.{IsCallOf, IsWriteOf, calls_of, held_first, held_after, held_by, images_at, images_by, is_try, is_write}
pub use Rattle.outside.specs.RecordLaws.{held_after-append, left_now, newest, newest_back, past}
pub use Rattle.outside.specs.Runs.{AsksAndPuts, CallsDisk, FewerLater, Leaves, OnlyAsks, OnlyPuts, held_of, AsksAndPutsSo, AsksSo, OnlyOpens, OpensWell}
pub use Rattle.outside.specs.declared.recorded_calls.Run.{Run}
pub use Rattle.outside.specs.declared.failed.Failed.{Failed}
pub use Rattle.outside.specs.declared.call_record.DiskCall.{DiskCall}
pub use Rattle.outside.specs.declared.call_record.DiskCall.TheVariants.{Asked, Synced, Tore, Wrote}
pub use Rattle.outside.specs.declared.screen.PutMark.{PutMark}
pub use Rattle.outside.specs.declared.world.Outside.{Ghosts}
pub use Rattle.std.proofs.Math.Nat.{le_refl}
pub use Rattle.std.proofs.lemmas.Bool.Decides.{nat_tests}
pub use Rattle.std.proofs.lemmas.Grind.{common_steps}
pub use Rattle.outside.specs.Deeds.{Carries, Deed, Did, DidSome, EndsBroken, IsCut, Since, broken}
