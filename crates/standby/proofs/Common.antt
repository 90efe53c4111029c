-- The names that most proofs cite, passed on from one place. Declares nothing.
pub use Rattle.std.proofs.Common.{rules, IsSome, IsTrue, List, [], ap, append-nil, append_assoc, arith, codes, decimal, drop, get_or, inl, inr, length, length-append, map, min, refl, subst, suc, sym, take, zero, ℕ, ⊎_elim, ◌*◌, ◌++◌, ◌+◌, ◌-◌, ◌/◌, ◌<◌, ◌^◌, ◌∙◌, ◌∷◌, ◌≡◌, ◌≢◌, ◌≤◌, ◌⊎◌, Bool, cond, false, nat_le, nat_lt, not, position, true, ◌%◌, ◌==◌, add-one}
pub use Rattle.std.proofs.lemmas.Bool.{cases_lt, lt-ltb, ltb-true, eq-eqb, ne_eqb}
pub use Rattle.std.proofs.lemmas.Bool.Decides.{nat_tests, Decides-eqb}
pub use Rattle.std.proofs.lemmas.Grind.{common_steps, flat_map-append, elements}
pub use Rattle.std.proofs.lemmas.List.{drop-append-le, drop-drop, drop-map, drop_at, get_or-drop, get_or-map, length-drop, length-map, length-take-le, map-append, take-append-drop, take-append-le, take_all, take_at, take_min, take_more, take_rest, take-map, length-replicate, flat_map_more, append_cancel_left, nil_from_length}
pub use Rattle.std.proofs.lemmas.List.Elements.{All-drop, All-from_recursion, All-get_or, All-map, All-more, All-push, recursion_from_All, All-from_get_or, All-replicate}
pub use Rattle.std.proofs.lemmas.List.Sums.{AllPass-from_list_all, fold-append, sum_by-append}
pub use Rattle.std.proofs.lemmas.Option.{IfSome_then, get_or_from_slice_get, slice_get-get_or, slice_get-map, slice_get_read}
pub use Rattle.std.specs.List.{AllByRecursion, prefix_len}
pub use Rattle.std.specs.Option.{option_map}
pub use Rattle.std.specs.Prelude.{All, Err, IfSome, MatchOption, None, Ok, OnErr, OnOk, Option, Result, Some, if◌then◌else◌, slice_get, slice_index, unwrap_or, fold}
pub use Rattle.standby.specs.Below.{AreTold, Elapses, Failed, FlatStore, Ghosts, IsShown, StoreView, Prints, Shows, Status, TracksStore, call, line_bytes, line_count, store_number, with_begun}
pub use Rattle.hex.proofs.HexLemmas.{decode_of-encode_lower, length-encode_with}
pub use Rattle.hex.specs.Hex.{decode_of, encode_lower, lower_digits}
pub use Rattle.lines.specs.Directory.{Layout}
pub use Rattle.lines.specs.declared.line_geometry.PageSize.{PageSize}
pub use Rattle.outside.proofs.Durable.{told_is, leaves_held}
pub use Rattle.outside.proofs.Prints.{prints_none, prints_on, prints_same, prints_stop, prints_unput}
pub use Rattle.outside.proofs.Runs.{asks_none, asks_on, elapses-trans, leaves_on}
pub use Rattle.outside.proofs.Shows.{shows_asks, shows_none, shows_on, shows_puts}
pub use Rattle.outside.specs.Durable.{IsSure}
pub use Rattle.outside.specs.Runs.{AsksAndPuts, CallsDisk, FewerLater, Leaves, OnlyAsks, OnlyOpens, held_of}
pub use Rattle.store.specs.Kept.{BankView, begun_of, record_bytes_of, with_line, with_record}
pub use Rattle.store.specs.Records.{IsCounted, IsRecordAt, area_bytes}
pub use Rattle.store.specs.Tracks.{IsEither}
pub use Rattle.store.specs.declared.find.Record.{Record}
pub use Rattle.store_format.specs.Bank.{RecordLine, record_bytes, wrong_line}
pub use Rattle.store_format.specs.Header.{Header, entry_bytes, most_lines}
pub use Rattle.store_format.specs.Stands.{Standing, Stands, home_of, one_more}
unfoldable pub use Rattle.store_format.specs.Stands.{stands}
pub use Rattle.text_line.proofs.Bytes.{each_byte, empty_is, some_is}
pub use Rattle.text_line.proofs.Words.{IsWord, number_word, same_number, word_cut}
pub use Rattle.standby.specs.State.{bank_begun, bank_behind, bank_with, IsFirstLong, IsLongAt, behind, due, ship_laid, laid_by, IsTextNumber, AllFit}
pub use Rattle.standby.specs.Followed.{StandWhole, BreaksAt, EndsWith, Follows, IsAlike, IsAtNumber, FollowStopped, FollowKeeps, OnlyGoesOn, SoFar, broken, followed_text, kept_text, well, IsBegun, IsFitting, IsLeftBetween, Steps, followed_of, over, put_result, FoundOf}
pub use Rattle.outside.specs.Deeds.{Deed, Since, SyncedOnce}
pub use Rattle.standby.specs.FollowAsked.{FailedAsks, OpenedFor, RecordAsks, RecordsAsked, RecordsStopped, StepAsks}
pub use Rattle.standby.specs.TextPut.{PutsAtOnce, SeesPart}
pub use Rattle.standby.specs.Read.{AreWhole, IsTextInTwo, IsFirstBad, AreFirstLines, IsReadFault, Tail, feeds}
pub use Rattle.standby.specs.Shipped.{HasBytes, ShipPrintsBy, shipped}
pub use Rattle.standby.specs.Text.{AreLines, ShipContent, HoldsOne, IsContent, IsPacked, IsShip, ShipLine, ship_content, closing_line, head_line, kept_line, later, line_line, lines_text, next, parted, record_line, record_of, record_text, records_text, ship_text, told}
pub use Rattle.standby.specs.declared.following.Followed.{Followed}
pub use Rattle.standby.specs.declared.following.Followed.TheVariants.{DiskFault, Done, Geometry, Long, NotKept, PutFault}
pub use Rattle.standby.specs.declared.shipping.Shipped.{Shipped}
pub use Rattle.standby.specs.declared.text.ShipRecord.{ShipRecord}
pub use Rattle.call_status.specs.Statuses.{status_of_open}
pub use Rattle.store.specs.declared.open_fault.OpenFault.{OpenFault}
pub use Rattle.store.specs.Faults.{IsStoreOpenFault}
pub use Rattle.store.proofs.ShowLemmas.{shown_stands, shown_store, shows_begun}
pub use Rattle.std.proofs.Math.ListN.{replicate}
pub use Rattle.std.proofs.Math.Seq.{take-append-add, take-append_seam}
