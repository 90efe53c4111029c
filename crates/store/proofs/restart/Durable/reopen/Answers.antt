use Rattle.store.proofs.Lemmas.{◌≡◌, ℕ, List, [], ap, subst, sym, IsSome, ◌∙◌, arith, Option, unwrap_or, total, HasHeader, held_of, IsChosen, ReopenFault, IsStoreReopenFault, StoreView, Fits, Shows, IsStoreWith, sure_on, shows_read, reopening_fault, intact_fault, total_is, rules, common_steps, IfErr-weaker, on_ok_weaker}
use Rattle.store.proofs.Common.{chosen, IsBankReopenFault, opened}
use Rattle.store.specs.declared.open_fault.ReopenFault.TheVariants as reopening
use Rattle.store.proofs.restart.Durable.reopen.Goals as goal

pub reopen-requires : goal.reopen-requires
reopen-requires g c = record {
  room = λ held is.
      omega (arith, c.requires.room held (sym c.synced.ensures.asks.held ∙ is), total_is c.self.inside.header c.self.inside.banks c.self.invariant, ap (λ (store : StoreView). total store.header) c.self.view_is);
}

-- the bytes are those at the start, and a fault of the banks is one of the store
pub returns-in-Ok : goal.returns-in-Ok
returns-in-Ok g c =
    let G = g.W.Outside in
    let old = c.args.outside.now in
    let held = held_of G old in
    let header = c.self.inside.header in
    let bank = c.reopen.new.self in
    let asks = opened G g.met.W.Outside.fewer_later old c.synced.new.outside c.reopen.new.outside c.reopen.result c.in-Ok.ensures.asks c.reopen.ensures.asks.asks in
    let first : held_of G c.synced.new.outside ≡ held = ap (λ (those : Option (List ℕ)). unwrap_or those []) c.synced.ensures.asks.held in
    let still : IsSome (G.held old) → IsSome (G.held c.synced.new.outside) =
    subst (λ (those : Option (List ℕ)). IsSome those) (sym c.synced.ensures.asks.held) in
    let shape = c.reopen.ensures.kept.shape in
    let fits : Fits header bank = record {
      page = c.self.invariant.page ∙ sym shape.page;
      bank_bytes = c.self.invariant.bank_bytes ∙ sym shape.bank_bytes;
      lines = c.self.invariant.lines ∙ sym shape.lines;
    } in
    let chosen_fault = IsBankReopenFault G c.synced.new.outside c.reopen.new.outside (chosen (held_of G c.synced.new.outside)) c.self.inside.banks in
    let fault_is : (fault : ReopenFault) → chosen_fault fault → IsStoreReopenFault G old c.reopen.new.outside c.args.self.now.header fault =
    λ fault is. subst (λ (store : StoreView). IsStoreReopenFault G old c.reopen.new.outside store.header fault) c.self.view_is
    (reopening_fault G old c.synced.new.outside c.reopen.new.outside header c.self.inside.banks fault c.self.invariant c.synced.ensures.asks is) in
    record {
      asks = record {
        asks = asks;
        no_fault = grind (arith, common_steps);
        fault = IfErr-weaker c.reopen.result chosen_fault (IsStoreReopenFault G old c.reopen.new.outside c.args.self.now.header) fault_is c.reopen.ensures.asks.fault;
        calm = grind (arith, common_steps);
      };
      header = search rules;
      kept = grind (arith, common_steps);
      read = on_ok_weaker c.reopen.result (λ read.
          let chosen : IsSome (G.held old) → IsChosen held bank = λ told. subst (λ (held : List ℕ). IsChosen held bank) first (read (still told)) in
          let shows : HasHeader held header → IsSome (G.held old) → Shows held (record { header = header; bank = bank }) = λ has told. shows_read held header bank has fits (chosen told) in
          record {
            read = λ told. record { chosen_is = (chosen told).chosen_is; read = (chosen told).read; fits = fits };
            shows = shows;
            tracks = λ has honest told. record {
              sure = sure_on G g.met.W.Outside.fewer_later c.synced.new.outside c.reopen.new.outside (c.in-Ok.ensures.sure honest told) c.reopen.ensures.asks.asks;
              shows = subst (λ (those : List ℕ). Shows those (record { header = header; bank = bank })) (sym (ap (λ (those : Option (List ℕ)). unwrap_or those []) asks.held)) (shows has told);
            };
          }) c.reopen.ensures.read;
      intact =
          IfErr-weaker c.reopen.result chosen_fault
          (λ fault. IsSome (G.held old) → IsStoreWith c.args.self.now.header held → fault ≡ reopening.DiskFault)
          (λ fault is told intact.
          intact_fault G old c.reopen.new.outside c.args.self.now.header fault told intact (fault_is fault is)) c.reopen.ensures.asks.fault;
    }
