use Rattle.store.proofs.Lemmas.{◌≡◌, ◌+◌, ◌*◌, ℕ, length, ap, subst, ◌∙◌, arith, PageSize, entry_bytes, held_of, BankView, bank_place, IsRecordAt, BeginsWithLine, IsLineOf, IsSome, lined, IfOk-weaker}
use Rattle.store.proofs.redo_journal.Bank.line_at.Goals as goal

pub returns : goal.returns
returns g c =
    let held = held_of g.W.Outside c.args.outside.now in
    let bank = c.args.self.now in
    let area = c.place_of.result + 8 in
    let page : c.self.inside.page ≡ bank.page = ap (λ (those : BankView). those.page) c.self.view_is in
    let place : area ≡ bank_place bank.which bank.bank_bytes + 8 = ap (λ (n : ℕ). n + 8) (c.place_of.ensures.value ∙ ap (λ (those : BankView). bank_place those.which those.bank_bytes) c.self.view_is) in
    let entries : c.from-2.result ≡ entry_bytes bank.page * c.args.index = c.from-2.ensures ∙ c.entries_bytes.ensures.value ∙ ap (λ (size : PageSize). entry_bytes size * c.args.index) page in
    let from : c.place_of.result + 8 + c.from.result + 11 + c.from-2.result ≡ area + c.args.of.now.place + 11 + entry_bytes bank.page * c.args.index = omega (arith, c.from.ensures, entries) in
    record {
      asks = c.read_line.ensures.asks;
      read =
          IfOk-weaker c.read_line.result
          (λ (line : ℕ). IsSome (g.W.Outside.held c.args.outside.now)
          → BeginsWithLine c.self.inside.page (c.place_of.result + 8 + c.from.result + 11 + c.from-2.result) c.read_line.new.into held line)
          (λ (line : ℕ). IsSome (g.W.Outside.held c.args.outside.now) → (at : IsRecordAt held bank c.args.of.now.place)
          → length at.lines ≡ c.args.of.now.count → IsLineOf at.lines c.args.index line c.read_line.new.into)
          (λ line is some at many.
          lined held bank c.args.of.now.place area at place c.args.index line c.read_line.new.into (omega (arith, many, c.requires.below))
          (subst (λ (n : ℕ). BeginsWithLine bank.page n c.read_line.new.into held line) from
          (subst (λ (size : PageSize).
          BeginsWithLine size (c.place_of.result + 8 + c.from.result + 11 + c.from-2.result) c.read_line.new.into held line) page (is some))))
          c.read_line.ensures.read;
      cause = c.read_line.ensures.cause;
    }

pub read_line-requires-clause-whole : goal.read_line-requires-clause-whole
read_line-requires-clause-whole g c = grind arith
