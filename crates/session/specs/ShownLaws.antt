-- What a session tells while it shows a desk is that desk's.
use Rattle.std.proofs.Common.{ℕ, List, sym, ◌∙◌, ap}
use Rattle.session.specs.Below.{Desk, standing_of, Stands, TellsDesk}
use Rattle.session.specs.declared.session.SessionState.{SessionState}
use Rattle.session.specs.Session.{session_told}
use Rattle.session.specs.Shown.{ShowsDesk}

pub shown-told : (s : SessionState) (held : List ℕ) (desk : Desk) → ShowsDesk s held desk → TellsDesk (session_told s) held desk
shown-told s held desk shown = record {
  still_open = shown.over.still_open;
  open_desk = ap (λ (that : Desk). that.closed) shown.is ∙ shown.over.still_open;
  ordered = ap (λ (that : Desk). that.order) (sym shown.is);
  standing =
      shown.over.stood
      ∙ (λ i. Stands (shown.over.number i) (record { directory = shown.directory i; bytes = shown.over.committed }))
      ∙ ap (standing_of s.opened) (sym shown.is);
}
