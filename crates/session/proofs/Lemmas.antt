-- The lemmas of this crate that several of its functions' proofs cite, passed on from one place. Declares nothing.
pub use Rattle.session.proofs.CauseLemmas.{answered, calls-store, closes-now, commit-told, leaves-since, rows-counted, rows-number}
pub use Rattle.session.proofs.Common.{Activity, CheckpointFailed, CheckpointMade, Commit, CrashFailed, Crashed, Cycle, Desk, EntersOrder, FailsCounted, Fixed, HasNumbers, Header, HoldsStore, IfJournal, IfVictim, IfWaits, IsEndOfRows, IsOpenOver, IsTurnEnd, KeepsDesk, Kept, BankView, StoreView, Leaves, LeavesStore, List, None, SessionState, ShowsDesk, Some, TellsNumber, Told, ToldAfterEnd, TracksStore, Turn, TurnEnd, [], activity, ap, arith, asks_none, begun_of, committed_at, common_steps, counts_told, desk_over, entry_in, false, few-taken, has, held_of, length, length-append, live_in, most_lines, number_after, number_in, store_number, numbers, order_of, over_all, program_in, refl, reopened_holds, reprinted, rolled, row, rules, seat-found, seat_of, session_desk, session_told, shown, sitter, stands, store_over, subst, sure_on, sym, taken-below, total, true, turn_fails, turn_told, with_record, ℕ, ◌%◌, ◌+◌, ◌-◌, ◌^◌, ◌∙◌, ◌∷◌, ◌≡◌}
pub use Rattle.session.proofs.DesertedLemmas.{deserted-sound, stored-sound, told-stored}
pub use Rattle.session.proofs.DidLemmas.{did-checkpoint, did-fail-checkpoint, did-turn, takes}
pub use Rattle.session.proofs.ShownLemmas.{consistent, isolated}
