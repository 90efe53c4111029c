use Rattle.store.proofs.Lemmas.{common_steps, ◌≡◌, ℕ, List, [], ap, subst, sym, IsSome, ◌∙◌, Option, unwrap_or, held_of, IsChosen, Shows, arith, opening_fault, sure_on, shows_read, asks_on, opened_once}
use Rattle.store.proofs.restart.Durable.open.Goals as goal

pub returns-in-Err-clause-asks : goal.returns-in-Err-clause-asks
returns-in-Err-clause-asks g c = record {
  asks = opened_once g.W.Outside g.met.W.Outside.fewer_later c.args.outside.now c.start.new.outside c.open.new.outside c.in_ok-header.ensures.asks.asks c.open.ensures.asks.asks;
  no_fault = grind arith;
  fault = opening_fault g.W.Outside c.args.outside.now c.start.new.outside c.open.new.outside c.in_ok-header.header c.in-Err.fault c.in_ok-header.ensures.asks.asks c.in_ok-header.ensures.header c.in-Err.ensures.asks.fault;
  calm = grind arith;
}

pub returns-in-Ok-clause-asks : goal.returns-in-Ok-clause-asks
returns-in-Ok-clause-asks g c = record {
  asks = asks_on g.W.Outside g.met.W.Outside.fewer_later c.args.outside.now c.start.new.outside c.open.new.outside c.in_ok-header.ensures.asks.asks c.open.ensures.asks.asks;
  no_fault = grind (arith, common_steps);
  fault = grind (arith, common_steps);
  calm = grind (arith, common_steps);
}

pub returns-in-Ok-clause-opened : goal.returns-in-Ok-clause-opened
returns-in-Ok-clause-opened g c = record {
  room = grind arith;
  shows = grind arith;
  begun = grind arith;
  usable = grind arith;
  tracks = λ honest told.
      let G = g.W.Outside in
      let begun = c.in_ok-header.ensures in
      let opened = c.in-Ok.ensures.opened in
      let still : IsSome (G.held c.start.new.outside) = subst (λ (those : Option (List ℕ)). IsSome those) (sym begun.asks.asks.held) told in
      let first : held_of G c.start.new.outside ≡ held_of G c.args.outside.now = ap (λ (those : Option (List ℕ)). unwrap_or those []) begun.asks.asks.held in
      let same : held_of G c.open.new.outside ≡ held_of G c.args.outside.now = ap (λ (those : Option (List ℕ)). unwrap_or those []) c.open.ensures.asks.asks.held ∙ first in
      record {
        sure = sure_on G g.met.W.Outside.fewer_later c.start.new.outside c.open.new.outside (begun.sure honest told) c.open.ensures.asks.asks;
        shows =
            subst (λ (held : List ℕ). Shows held (record { header = c.in_ok-header.header; bank = c.in-Ok.banks })) (sym same)
            (shows_read (held_of G c.args.outside.now) c.in_ok-header.header c.in-Ok.banks (begun.header told) (record { page = opened.page; bank_bytes = opened.bank_bytes; lines = opened.bound })
            (subst (λ (held : List ℕ). IsChosen held c.in-Ok.banks) first (c.in-Ok.ensures.read still)));
      };
}
