-- The lemmas of this crate that several of its functions' proofs cite, passed on from one place. Declares nothing.
pub use Rattle.outside.proofs.CallLemmas.{asked-le, calls_of-asked, pushed, writes-of}
pub use Rattle.outside.proofs.Common.{Asked, Run, [], ap, arith, calls_of, common_steps, count_by, held_first, inr, is_write, le_refl, length, length-append, made_of, refl, rules, shown_of, sym, told_seen, ℕ, ◌++◌, ◌+◌, ◌∙◌, ◌∷◌, ◌≡◌, nat_tests, AreInOrder, AreMadeBy, AsksAndPuts, AsksAndPutsSo, AsksSo, Deed, Elapses, Err, Failed, FewerLater, Ghosts, Images, IsErr, IsNotAfter, IsSome, LeftAt, List, Moment, None, Ok, OnlyAsks, OnlyPuts, Option, Origin, Pairs, Prints, PutMark, Records, Result, ShowsPrefix, Some, append-nil, append_assoc, get_or, held_of, inl, min, put_start, shown_by, shown_by-past, shown_by-within, start_of-past, start_of-within, subst, suc, take, take-append-le, take_all, take_min, take_more, unwrap_or, zero, ⊎_elim, ◌-◌, ◌<◌, ◌≤◌, ◌⊎◌}
pub use Rattle.outside.proofs.DiskCalls.{disk_asks, disk_call, follows, at_or_after}
pub use Rattle.outside.proofs.DiskRecord.{asked_adds, entry_is_write, kept, synced_adds, synced_leaves, tears_either, write_follows, write_torn}
pub use Rattle.outside.proofs.PutCalls.{in_order-more, put_elapses, shows_some}
pub use Rattle.outside.proofs.Runs.{elapses-trans}
