use Rattle.store.proofs.Lemmas.{nat_tests, ◌≡◌, ℕ, ◌+◌, ◌*◌, List, length, drop, refl, sym, subst, ◌∙◌, ap, arith, Option, None, length-replicate, entry_bytes, RecordLine, wrong_line, end_of, AreNewestWithin, begun_count, begun_lines, kept_of, length-begun, lines_placed, placed_order, none_within, turned_fields, turned_is}
use Rattle.store.proofs.redo_journal.Bank.turn_to.Goals as goal

pub invariant_of-self : goal.invariant_of-self
invariant_of-self c =
    let old = c.self.invariant in
    let bank = c.self.inside in
    let count = begun_count bank in
    let at = c.place_of.result in
    let long : length c.forget.new.self ≡ length bank.newest = ap length c.forget.ensures ∙ length-replicate {A = Option ℕ} (length bank.newest) None in
    record {
      some_bytes = old.some_bytes;
      few_bytes = old.few_bytes;
      inside = omega (arith, c.place_of.ensures.end, old.some_bytes);
      placed = subst (λ (newest : List (Option ℕ)). AreNewestWithin c.self.inside.page (end_of c.args.which bank.bank_bytes) newest) (sym c.forget.ensures) (none_within c.self.inside.page (end_of c.args.which bank.bank_bytes) (length bank.newest));
      few_lines = omega (arith, old.few_lines, long);
      few_records = omega arith;
      buffer = old.buffer;
      fits = old.fits;
      ordered =
          ap (λ (lines : List RecordLine). wrong_line (length c.forget.new.self) 0 lines) (lines_placed c.self.inside.page count (at + 8 + 11) (bank.gate + 11) (drop 10 bank.body))
          ∙ placed_order c.self.inside.page (length c.forget.new.self) 0 (at + 8 + 11) (begun_lines bank) (ap (λ (n : ℕ). wrong_line n 0 (begun_lines bank)) long ∙ old.ordered);
    }

pub returns-clause-turned : goal.returns-clause-turned
returns-clause-turned c =
    turned_is c.args.which c.self.inside c.args.self.now c.number_of-self-inside.result c.place_of.result c.forget.new.self c.self.view_is c.number_of-self-inside.ensures c.place_of.ensures.value c.forget.ensures

pub returns-clause-fits : goal.returns-clause-fits
returns-clause-fits c =
    let fields = turned_fields c.args.which c.self.inside c.number_of-self-inside.result c.place_of.result c.forget.new.self in
    omega (arith, ap (λ (n : ℕ). entry_bytes c.self.inside.page * n) (length-begun fields (kept_of fields) refl), c.place_of.ensures.end, c.self.invariant.fits)

pub returns-clause-shape : goal.returns-clause-shape
returns-clause-shape c = grind (arith, nat_tests, length-replicate)
