use Rattle.store.proofs.Lemmas.{◌≡◌, ℕ, ◌+◌, List, length, sym, ◌∙◌, ap, subst, arith, replicate, length-replicate, Option, None, fold, number_at, Holds, bank_held, held_of, told_some, noted, BankView, bank_place, end_of, IsBank, elements, common_steps, are_newest, held_records, all_below}
use Rattle.store.specs.declared.bank_reading.BankFound.{BankFound}
use Rattle.store.proofs.redo_journal.Bank.reopen.Goals as goal

pub returns-in-Ok-Holds-clause-read : goal.returns-in-Ok-Holds-clause-read
returns-in-Ok-Holds-clause-read g c told =
    let held = held_of g.W.Outside c.args.outside.now in
    let bytes = c.self.inside.bank_bytes in
    let lines = length c.forget.new.self in
    let at : c.place_of-at.result ≡ bank_place c.args.which bytes = c.place_of-at.ensures.value in
    let found = subst (λ (found : BankFound). IsBank found c.forget.new.self c.read_bank.new.newest (number_at held c.place_of-at.result 8) (bank_held held c.self.inside.page lines c.place_of-at.result bytes)) c.in-Ok-Holds.field-0-is (c.in-Ok-Holds.ensures.found told) in
    let holds : bank_held held c.self.inside.page lines (bank_place c.args.which bytes) bytes ≡ Holds c.in-Ok-Holds.gate found.1.records = ap (λ (n : ℕ). bank_held held c.self.inside.page lines n bytes) (sym at) ∙ found.1.holds in
    let whole = c.requires.room held (told_some (g.W.Outside.held c.args.outside.now) told) in
    let end : end_of c.args.which bytes ≡ end_of c.args.which c.args.self.now.bank_bytes = ap (λ (bank : BankView). end_of c.args.which bank.bank_bytes) c.self.view_is in
    let few : length c.self.inside.newest ≡ lines = sym (ap length c.forget.ensures ∙ length-replicate {A = Option ℕ} (length c.self.inside.newest) None) in
    record {
      records = found.1.records;
      base = ap (λ (n : ℕ). number_at held n 8) (sym at) ∙ sym found.0;
      holds = ap (λ (n : ℕ). bank_held held c.self.inside.page n (bank_place c.args.which bytes) bytes) c.read_bank.ensures.len ∙ holds;
      count = found.1.count_is;
      newest =
          are_newest lines c.read_bank.new.newest found.1.records
          (all_below c.self.inside.page lines (bank_place c.args.which bytes + 8 + bytes) held found.1.records (held_records c.self.inside.page held lines (bank_place c.args.which bytes) bytes c.in-Ok-Holds.gate found.1.records (omega (arith, whole, at, c.place_of-at.ensures.end, end)) holds))
          (found.1.noted ∙ ap (λ (these : List (Option ℕ)). fold noted these found.1.records) (c.forget.ensures ∙ ap (λ (n : ℕ). replicate {A = Option ℕ} n None) few))
          c.read_bank.ensures.len;
    }

pub returns-in-Err-clause-kept : goal.returns-in-Err-clause-kept
returns-in-Err-clause-kept g c = grind (arith, common_steps)

pub invariant_of-self : goal.invariant_of-self
invariant_of-self g c = grind (arith, common_steps)

pub returns-in-Ok-Faulty-clause-kept : goal.returns-in-Ok-Faulty-clause-kept
returns-in-Ok-Faulty-clause-kept g c = grind (arith, common_steps)

pub returns-in-Ok-Holds-clause-kept : goal.returns-in-Ok-Holds-clause-kept
returns-in-Ok-Holds-clause-kept g c = grind (arith, common_steps)

pub invariant_of-self-in-Ok-Holds : goal.invariant_of-self-in-Ok-Holds
invariant_of-self-in-Ok-Holds g c = grind (arith, elements)

pub invariant_of-self-in-Ok-Faulty : goal.invariant_of-self-in-Ok-Faulty
invariant_of-self-in-Ok-Faulty g c = grind (arith, elements)

pub returns-in-Ok-Faulty-clause-asks : goal.returns-in-Ok-Faulty-clause-asks
returns-in-Ok-Faulty-clause-asks g c = grind (arith, elements)
