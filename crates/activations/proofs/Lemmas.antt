-- The lemmas of this crate that several of its functions' proofs cite, passed on from one place. Declares nothing.
pub use Rattle.activations.proofs.FetchLemmas.{came-asked, came-in, came-keeps, came-moved, came-resident, either-way, on-ok, out-keeps, out-moved, store-on, fetch-fails, first-broken, if-err, none-fetched, one-fetches, two-fetch}
pub use Rattle.activations.proofs.Common.{activity_of, Inside, Access, Activity, AreTurns, AreWithin, Check, ComesBack, ComesToEnd, Commit, Contests, Counts, Cycle, EndsByDisk, EndsContest, GivesRows, GoesUncounted, HasBroken, HasBrokenOff, HasEnded, Header, Holding, IsAtCommit, IsClean, IsContested, IsFetched, IsInstruction, AreSegmentsLegal, IsPrepared, IsSeatSelected, IsLineShut, IsSome, IsActivitySound, IsStepTaken, IsAtStop, IsTurning, KeepsDesk, KeepsParts, StoreView, Layout, Limit, LinesOf, List, Live, Ok, Option, Pool, Prepares, Reach, RecordLine, Result, RollsBack, Seat, Seating, Serves, Some, StandsStill, StaysSeated, Strode, Tally, TouchedLines, TurnEnd, Victim, WasAttempted, [], ap, arith, array_vec_len, asks_none, asks_on, asks_only, begun_of, byte_count, counted, cycle_of, desk_over, eq-eqb, false, flat_lines, has, held_at, holders, holds_some, inl, inr, instruction_in, is_private, length, line_bytes, line_of, lines_between, lines_with, live_in, located_by, locked, map, most_lines, nat_lt, nat_tests, ne_eqb, number_in, of_seat, option_map, page_count, pages_lowered, pages_picked, pages_wanted, plain_in, printed_after, program-reached, program_in, reach_of, record_bytes, refl, rolled, row, rules, seat-found, seat_of, sitter, slice_index_or, start_of, subst, sym, take, take_all, taken-below, tally_counts, took, total, true, turn_in, unit-sound, unwrap_or, victim_of, wants_of, with_line, with_lines, with_live, with_other_pool, with_whole_page, write_count, written_of, wrote, ℕ, ◌%◌, ◌*◌, ◌++◌, ◌+◌, ◌-◌, ◌<◌, ◌==◌, ◌^◌, ◌∙◌, ◌∷◌, ◌≡◌, ◌≤◌, AreLetBut, Bool, EndsRows, IsPoolMoved, IsOpen, WillTouch, lines_wanted, authority_to_read, pages_refused, IsNoLimit, HasWritten, Authority, Grant, grant_of, not, MayBeShut, Program, program_at, AreWanted, Want, asking, size, locks_in, standing, RunsAt, HasSettled, HasUndone, vacated, IsUndone, IsRolledBack, CommitsWherever, seat_ended, IfErr, OnOk, IsIn, KeepsPool, HasFrames, IsShutOut, IsOfFewBytes, Cpu, ChangesBytes, StaysClean, LeavesSeats, at, how_went, HasNobody, idle, nobody_sits, reprinted, slice_set, FromContest, None, ComesOut, line_count}
pub use Rattle.activations.proofs.EndingLemmas.{checked, sound-pool, RolledSo, commits-left, deserted, restarted-left, rolled-none, rolled-past, rolled-step, rolls-left, shape-left, sound-after, sound-idle, desk-idle, follows-idle}
pub use Rattle.activations.proofs.ExecuteLemmas.{not-printed, runs-there, keeps-counted, took-either, took-served, took-stays, came-still, sound-counted, attempted-again, attempted-at, came-either, in-place, none-yet, room, runs-at, strode-halted, strode-one, row-goes, at-commit}
pub use Rattle.activations.proofs.GrantLemmas.{first_within, granted-same, set-sound, one-sound, granted-owner, fine-owner, one_within, picked-refused, second_within, taken-sound, within-whole}
pub use Rattle.activations.proofs.KeptLemmas.{keeps-all-on, keeps-all-then, keeps-broke, keeps-checked, keeps-itself, keeps-left, keeps-on, keeps-pool, keeps-rolled, keeps-took, keeps-two, ok-both, ok-then, stays-itself, stays-on, still-itself, still-on, still-rolled, tally-on, ended-by-disk, handed, some-holders, ended-so, fetch-on}
pub use Rattle.activations.proofs.OpenLemmas.{check-named, got-open, got-touch, let-on, let-but, shut-touches, takes-effect, touch-on}
pub use Rattle.activations.proofs.StartLemmas.{broken-off, is-to-serve, prepare-broke, prepared-so, over-limit, under, turn-back}
pub use Rattle.activations.proofs.RecordLemmas.{Adds, adds-all, adds-next, adds-none, adds-one, next-above, next-line, next-room, pages-below, before-page, room-left, written-more}
pub use Rattle.activations.proofs.TouchingLemmas.{counts-none, counts-one, counts-two, few-held, near-lines, sets-one, touches-private, touches-refused, touches-shared, touches-within, wanted-one, wanted-two, sets_between, one-page}
pub use Rattle.activations.proofs.TurnLemmas.{follows-selected, sound-selected, keeps-far, keeps-ran, keeps-within, so-far, turn-begins, turn-commits, turn-ends, turn-goes, turn-limit, turn-strides}
pub use Rattle.activations.proofs.WrittenLemmas.{WrittenSo, has-settled, has-undone, lines_of, page-held, page-there, settled-step, undone-step, writes-are, written-none, written-same, written_in}
pub use Rattle.activations.proofs.GetLemmas.{asked-within, sound-asking, asks-now, keeps-asking, still-asking, asked-whole, picked-below, served-so, broken-so, serves-by, parts-by}
pub use Rattle.activations.proofs.RecordedLemmas.{with-none, never-more, is-record, record-count, record-leaves, shown-long}
pub use Rattle.activations.proofs.FieldLemmas.{taken-of, below-of, lives-of, runs-of, placed-of, counted-of, selected-of}
pub use Rattle.activations.proofs.PoolLemmas.{frames-fit}
pub use Rattle.activations.proofs.SittingLemmas.{sitter-there, sound-reprinted, follows-reprinted}
