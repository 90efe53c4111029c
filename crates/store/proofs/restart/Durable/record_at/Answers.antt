use Rattle.store.proofs.Lemmas.{common_steps, ℕ, arith, subst, sym, PageSize, BankView, StoreView, ReadsRecord, bank_inside}
use Rattle.store.proofs.restart.Durable.record_at.Goals as goal

-- the sizes are those of the header
pub returns : goal.returns
returns g c =
    let fits = c.self.invariant in
    let bank = c.self.inside.banks in
    let Reads = λ (page : PageSize) (bank_bytes : ℕ) (those : BankView). ReadsRecord g.W.Outside page bank_bytes those c.args.place c.args.outside.now c.record_at.new.outside c.record_at.result in
    subst (λ (store : StoreView). Reads store.header.directory.page store.header.bank_bytes store.bank) c.self.view_is
    (subst (λ (page : PageSize). Reads page c.self.inside.header.bank_bytes bank) (sym fits.page)
    (subst (λ (bytes : ℕ). Reads bank.page bytes bank) (sym fits.bank_bytes)
    (subst (λ (those : BankView). Reads those.page those.bank_bytes those) c.chosen.ensures c.record_at.ensures)))

pub record_at-requires-clause-bank : goal.record_at-requires-clause-bank
record_at-requires-clause-bank g c = grind (arith, common_steps, bank_inside c.self.inside.header c.self.inside.banks c.chosen.result.now c.chosen.ensures c.self.invariant, c.requires.store.room)
