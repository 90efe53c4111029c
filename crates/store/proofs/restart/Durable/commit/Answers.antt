use Rattle.store.proofs.Lemmas.{common_steps, ◌≡◌, ap, subst, sym, ◌∙◌, arith, total, held_of, BankView, StoreView, roomy, Commits, IsKeptAfter, bank_tracked, store_tracked, total_is, committed_intact, usable_kept, number_kept, count_kept, Kept}
use Rattle.store.proofs.restart.Durable.commit.Goals as goal

pub commit-requires : goal.commit-requires
commit-requires g c = record {
  begun = grind (arith, common_steps);
  usable = grind (arith, common_steps);
  room = λ held is.
      omega (arith, c.requires.room held is, total_is c.self.inside.header c.self.inside.banks c.self.invariant, ap (λ (store : StoreView). total store.header) c.self.view_is);
}

pub returns : goal.returns
returns g c =
    let G = g.W.Outside in
    let old = c.args.self.now in
    let bank = c.commit.new.self in
    let before = c.args.outside.now in
    let after = c.commit.new.outside in
    -- what the banks did, of the bank that was kept
    let did = subst (λ (kept : BankView). Commits G (roomy kept) kept bank before after c.commit.result) (ap (λ (store : StoreView). store.bank) c.self.view_is) c.commit.ensures in
    let header : old.header ≡ c.self.inside.header = ap (λ (store : StoreView). store.header) (sym c.self.view_is) in
    let shape = c.commit.ensures.shape in
    record {
      only = did.only;
      header = sym header;
      usable = λ is. usable_kept old.bank bank (subst (λ (kept : Kept). IsKeptAfter kept (roomy old.bank) old.bank bank) is did.kept) c.requires.usable;
      kept = did.kept;
      number = number_kept c.commit.result old.bank bank did.kept;
      count = count_kept c.commit.result old.bank bank did.kept;
      counted = did.counted;
      writes = did.writes;
      deeds = λ tracks. did.deeds (bank_tracked G old before tracks);
      crash = λ tracks. did.crash (bank_tracked G old before tracks);
      left = λ tracks. did.left (bank_tracked G old before tracks);
      records = λ tracks. did.records (bank_tracked G old before tracks);
      intact = λ tracks. committed_intact old.header old.bank tracks.shows.read.records (held_of G after) (did.records (bank_tracked G old before tracks)).held;
      done = λ is tracks.
          let added = did.done is (bank_tracked G old before tracks) in
          record {
            tracks =
                store_tracked G c.self.inside.header bank after
                (record { page = c.self.invariant.page ∙ sym shape.page; bank_bytes = c.self.invariant.bank_bytes ∙ sym shape.bank_bytes; lines = c.self.invariant.lines ∙ sym shape.lines })
                (added.header ∙ tracks.shows.header.said ∙ header)
                added.tracks;
            stood = added.stood;
          };
    }
