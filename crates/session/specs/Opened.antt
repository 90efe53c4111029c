-- A session that has just opened on the store of a disk.
use Rattle.std.specs.Prelude.{◌≡◌, ℕ, List, [], false, take, IsSome, IsTrue}
use Rattle.session.specs.Below.{FlatStore, Ghosts, Header, header_of, held_of, HoldsStore, IsSure, most_lines, opened, Program, Stands, stands}
use Rattle.session.specs.declared.session.SessionState.{SessionState}
use Rattle.session.specs.Session.{activity, fixed_of, header_of_session, order_of, session_told}
use Rattle.session.specs.Shown.{ShowsDesk}

-- it is open, for so many begins of these programs, and no number was given
pub record IsNew (programs : List Program) (begins : ℕ) (s : SessionState) : Type 0 where
  pub programs_are : (activity s).programs ≡ programs
  pub begins_are : (fixed_of s).begins ≡ begins
  pub none_given : (activity s).next ≡ 1
  pub no_turns : (session_told s).turns ≡ 0
  pub nothing_printed : (session_told s).printed ≡ []
  pub none_committed : order_of s ≡ []
  pub still_open : (session_told s).closed ≡ false

-- the bytes begin with this header, and stand for a number and a store
abbrev pub HasStood : Header → List ℕ → Type 0
HasStood header held = (header_of (take 128 held) ≡ header) × ((number : ℕ) × (store : FlatStore) × (stands held ≡ Stands number store))

-- The bytes told are sure, and stand for the number that it opened with and a store; over them it is the desk that opens on that
-- store.
pub record IsSessionOpened {W : Type 0} (G : Ghosts W) (frames : ℕ) (old new : W) (s : SessionState) : Type 0 where
  pub sure : IsSure G new
  pub store : FlatStore
  pub stood : stands (held_of G old) ≡ Stands (fixed_of s).opened store
  pub header : header_of (take 128 (held_of G old)) ≡ header_of_session s
  pub shows : ShowsDesk s (held_of G new) (opened frames 16 (most_lines (header_of_session s)) store)

-- what an opening makes of a session: it is new, the told bytes are enough for its store and stood for one, and those of an honest disk open it
pub record MadeBy {W : Type 0} (G : Ghosts W) (programs : List Program) (frames begins : ℕ) (before after : W) (s : SessionState) : Type 0 where
  pub new : IsNew programs begins s
  pub room : HoldsStore G (header_of_session s) after
  pub opened : IsTrue (G.is_honest before) → IsSome (G.held before) → IsSessionOpened G frames before after s
  pub told : IsSome (G.held before) → HasStood (header_of_session s) (held_of G before)
