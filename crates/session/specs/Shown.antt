-- The desk that a session shows over the bytes of a disk.
use Rattle.std.specs.Prelude.{◌≡◌, ℕ, List, false}
use Rattle.session.specs.Below.{Desk, number_after, store_number, seen, Shows, Stands, stands, View}
use Rattle.activations.specs.Follows.{HasFrames, KeepsDesk}
use Rattle.session.specs.declared.session.SessionState.{SessionState}
use Rattle.session.specs.Session.{activity, session_desk, session_told}

-- It is open, and the bytes are its store's: they stand for its number and some bytes, and what runs in it follows the desk
-- over these.
pub record IsOpenOver (s : SessionState) (held : List ℕ) : Type 0 where
  pub still_open : s.closed ≡ false
  pub committed : List ℕ
  pub shows : Shows held s.store
  pub stood : stands held ≡ Stands (store_number s.store) (record { directory = s.store.header.directory; bytes = committed })
  pub follows : KeepsDesk (activity s) committed
  pub number : store_number s.store ≡ number_after s.opened (session_desk s committed)

-- and this is the desk, under the directory of the store, and its pages fit the frames
pub record ShowsDesk (s : SessionState) (held : List ℕ) (desk : Desk) : Type 0 where
  pub over : IsOpenOver s held
  pub directory : s.store.header.directory ≡ (activity s).reach.directory
  pub frames : HasFrames (activity s).reach
  pub is : desk ≡ session_desk s over.committed

-- what is seen of it, as of a supervisor
abbrev pub session_view : SessionState → View
session_view s = seen (session_told s) (ShowsDesk s)
