use Rattle.store.proofs.Lemmas.{◌+◌, ℕ, ap, subst, ◌∙◌, held_of, Record, BankView, bank_place, IsRecordAt, IsCounted, IsCountedAt, IsFound, IsSome, IfOk, IfOk-weaker, counted}
use Rattle.store.proofs.redo_journal.Bank.record_at.Goals as goal

pub returns : goal.returns
returns g c =
    let bank = c.args.self.now in
    let held = held_of g.W.Outside c.args.outside.now in
    let place = c.args.place in
    let area = c.place_of-area.result + 8 in
    record {
      asks = c.read_record.ensures.asks;
      found = subst (λ (those : BankView). IfOk c.read_record.result (IsFound those.page those.bank_bytes place)) c.self.view_is c.read_record.ensures.found;
      read =
          IfOk-weaker c.read_record.result
          (λ (found : Record). IsSome (g.W.Outside.held c.args.outside.now) → IsCountedAt c.self.inside.page area c.self.inside.bank_bytes place held found)
          (λ (found : Record). IsSome (g.W.Outside.held c.args.outside.now) → (at : IsRecordAt held bank place) → IsCounted bank.page place at.lines found)
          (λ found is some at.
          counted held bank place area at (ap (λ (n : ℕ). n + 8) (c.place_of-area.ensures.value ∙ ap (λ (those : BankView). bank_place those.which those.bank_bytes) c.self.view_is)) found
          (subst (λ (those : BankView). IsCountedAt those.page area those.bank_bytes place held found) c.self.view_is (is some)))
          c.read_record.ensures.read;
      cause = c.read_record.ensures.cause;
    }
