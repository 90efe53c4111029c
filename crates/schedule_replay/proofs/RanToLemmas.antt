-- What runs leave, one after another.
use Rattle.schedule_replay.proofs.Common.{◌≡◌, ℕ, ◌+◌, ◌≤◌, ◌⊎◌, List, [], ◌∷◌, ◌++◌, arith, false, Ghosts, Rose, RoseBy, IsSure, held_of, Program, Event, Desk, ReportLine, number_after, faulted, commits_in, commits_on, RanTo, TellsDesk, WasStep, nat_tests, DiskWord, Fine, opening, span}
use Rattle.desk.specs.declared.supervisor.Supervisor as desk
use Rattle.schedule_replay.proofs.CountLemmas.{faults_front, faults_behind, happened_keep, journal_on, writes_on}

-- what a supervisor tells while it shows a desk is that desk's
abbrev pub ShownTold : {D : Type 0} → desk.Ghosts D → Type 0
ShownTold {D} S = (s : D) (held : List ℕ) (desk : Desk) → S.shows s held desk → TellsDesk (S.told s) held desk

-- a word that isn't fine is counted where the disk's faults rose
word_faults : (event : Event) (word : DiskWord) (before after : ℕ) → before ≤ after → (word ≡ Fine) ⊎ Rose before after → RoseBy (faulted ((event, word) ∷ [])) before after
word_faults event word before after le cause = grind arith

module _ {D W : Type 0} (S : desk.Ghosts D) (G : Ghosts W) where
  -- nothing was run
  pub to_none : (start : Desk) (new : D) (w : W) → TellsDesk (S.told new) (held_of G w) start → IsSure G w → S.shows new (held_of G w) start → RanTo S G start [] 0 new (span w w)
  to_none start new w tells sure shows = grind (arith, nat_tests)

  -- an event, by its word
  pub to_did : (programs : List Program) (number : ℕ) (event : Event) (names : List (List ℕ)) (lines : List ReportLine) (start : Desk) (new : D) (before after : W) (was : WasStep S G (opening names programs number start) event lines new (span before after)) → G.disk_faults before ≤ G.disk_faults after → RanTo S G was.did.next lines (faulted ((event, was.did.word) ∷ [])) new (span before after)
  to_did programs number event names lines start new before after was later =
      grind (arith, nat_tests, held_of, happened_keep, number_after, word_faults)

  module _ (end : Desk) (lines : List ReportLine) (unfine : ℕ) (new : D) where
    -- a run as it stands later, where nothing of it changed
    pub to_later : (before between after : W) → G.held after ≡ G.held between → G.disk_faults after ≡ G.disk_faults between → G.writes after ≡ G.writes between → (IsSure G between → IsSure G after) → RanTo S G end lines unfine new (span before between) → RanTo S G end lines unfine new (span before after)
    to_later before between after held disk writes sure ran = grind (arith, nat_tests, held_of, commits_in)

    -- and as it is told from an earlier moment on, since which nothing had changed
    pub to_since : (before start after : W) → G.held start ≡ G.held before → G.disk_faults start ≡ G.disk_faults before → G.writes start ≡ G.writes before → RanTo S G end lines unfine new (span start after) → RanTo S G end lines unfine new (span before after)
    to_since before start after held disk writes ran = grind (arith, nat_tests, held_of, commits_in)

  -- one run and then another
  pub to_on : (middle end : Desk) (first second lines : List ReportLine) (one two both : ℕ) (mid new : D) (before between after : W) → (S.told mid).closed ≡ false → lines ≡ first ++ second → both ≡ one + two → RanTo S G middle first one mid (span before between) → RanTo S G end second two new (span between after) → RanTo S G end lines both new (span before after)
  to_on middle end first second lines one two both mid new before between after was_open is sum ran more =
      grind (arith, nat_tests, journal_on, held_of, faults_behind, faults_front, commits_on, writes_on, commits_in)
