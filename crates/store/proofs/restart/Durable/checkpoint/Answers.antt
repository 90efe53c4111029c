use Rattle.store.proofs.Lemmas.{◌≡◌, [], ap, subst, sym, ◌∙◌, ⊎_elim, arith, Header, header_of, total, Leaves, held_of, other, StoreView, TracksStore, take, OnOk, bank_tracked, store_tracked, total_is, records_intact, common_steps, IsSame, IsCheckpointed, on_ok_weaker, BankView, bank_number, Carries, checkpoint_deeds}
use Rattle.store.specs.Tracks as journal
use Rattle.store.proofs.restart.Durable.checkpoint.Goals as goal

pub checkpoint-requires : goal.checkpoint-requires
checkpoint-requires g c = record {
  usable = grind (arith, common_steps);
  room = λ held is.
      omega (arith, c.requires.room held is, total_is c.self.inside.header c.self.inside.banks c.self.invariant, ap (λ (store : StoreView). total store.header) c.self.view_is);
}

pub returns : goal.returns
returns g c =
    let G = g.W.Outside in
    let old = c.args.self.now in
    let before = c.args.outside.now in
    let after = c.checkpoint.new.outside in
    let bank : c.self.inside.banks ≡ old.bank = ap (λ (store : StoreView). store.bank) c.self.view_is in
    let header : old.header ≡ c.self.inside.header = ap (λ (store : StoreView). store.header) (sym c.self.view_is) in
    let shape = c.checkpoint.ensures.shape in
    let held : (tracks : TracksStore G old before) → IsSame old.header old.bank tracks.shows.read.records (held_of G before) (held_of G after) =
    λ tracks. subst (λ (kept : BankView). (tracks : journal.TracksBank G kept before) → IsSame tracks.header kept tracks.records (held_of G before) (held_of G after)) bank c.checkpoint.ensures.held (bank_tracked G old before tracks) in
    let made = subst (λ (kept : BankView). OnOk c.checkpoint.result (journal.TracksBank G kept before → IsCheckpointed G kept c.checkpoint.new.self before after)) bank c.checkpoint.ensures.done in
    record {
      only = c.checkpoint.ensures.only;
      header = sym header;
      kept = grind (arith, common_steps);
      number = grind (arith, common_steps);
      count = grind (arith, common_steps);
      cause = c.checkpoint.ensures.cause;
      deeds = λ tracks. subst (λ (kept : BankView). journal.TracksBank G kept before → Carries (G.deeds before) (G.deeds after) (checkpoint_deeds kept (held_of G before)) c.checkpoint.result) bank c.checkpoint.ensures.deeds (bank_tracked G old before tracks);
      crash = λ tracks.
          subst (λ (kept : BankView). (tracks : journal.TracksBank G kept before) → Leaves G (λ image seen. IsSame tracks.header kept tracks.records (held_of G before) image) before after) bank c.checkpoint.ensures.crash (bank_tracked G old before tracks);
      held = held;
      intact = λ tracks.
          ⊎_elim
          (λ here. records_intact old.header old.bank.which old.bank.base tracks.shows.read.records (held_of G after) here)
          (λ there. records_intact old.header (other old.bank.which) (bank_number old.bank) [] (held_of G after) there)
          (held tracks).one_of;
      done = on_ok_weaker c.checkpoint.result (λ makes tracks.
          let is = makes (bank_tracked G old before tracks) in
          let said : header_of (take 128 (held_of G before)) ≡ c.self.inside.header = tracks.shows.header.said ∙ header in
          record {
            tracks = store_tracked G c.self.inside.header c.checkpoint.new.self after (record { page = c.self.invariant.page ∙ sym shape.page; bank_bytes = c.self.invariant.bank_bytes ∙ sym shape.bank_bytes; lines = c.self.invariant.lines ∙ sym shape.lines }) (is.header ∙ said) is.tracks;
            stood = is.stood;
            emptied = subst (λ (those : Header). Leaves G (λ image seen. journal.HoldsRecords those (other old.bank.which) (bank_number old.bank) [] image) after after) said is.emptied;
          }) made;
    }
