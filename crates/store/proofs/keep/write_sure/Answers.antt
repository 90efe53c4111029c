use Rattle.store.proofs.Lemmas.{arith, common_steps, List, ℕ, ◌∷◌, [], length, Torn, held_of, torn_first, asks_one, leaves_same, writes_on, asks_only, carries_on, some_more, SyncsBy, Synced, Wrote}
use Rattle.store.proofs.keep.write_sure.Goals as goal

pub returns : goal.returns
returns g c =
    let G = g.W.Outside in
    let old = c.args.outside.now in
    let mid = c.write_once.new.outside in
    record {
      only =
          writes_on g.W.Outside g.met.W.Outside.fewer_later c.args.outside.now c.write_once.new.outside c.sync.new.self c.write_once.ensures.only
          (asks_only g.W.Outside c.write_once.new.outside c.sync.new.self (asks_one g.W.Outside {D = SyncsBy c.sync.result} c.write_once.new.outside c.sync.new.self c.sync.ensures.asks c.sync.result c.sync.ensures.counts c.sync.ensures.deeds));
      crash = λ sure.
          leaves_same G g.met.W.Outside.fewer_later old mid c.sync.new.self c.write_once.ensures.only.calls.time c.sync.ensures.asks.call.time (λ (image seen : List ℕ). Torn c.args.at (length c.args.bytes.now) (held_of G old) image)
          (torn_first G old mid c.args.at (length c.args.bytes.now) sure (c.write_once.ensures.crash sure.honest sure.told))
          (c.sync.ensures.asks.crash (c.write_once.ensures.only.told sure.told));
      done = grind (arith, common_steps);
      writes = grind (arith, common_steps);
      cause = grind (arith, common_steps);
      deeds = carries_on (G.deeds old) (G.deeds mid) (G.deeds c.sync.new.self) (Wrote c.args.at c.args.bytes.now ∷ []) (Synced ∷ []) c.sync.result c.in_ok-write_once.ensures.deeds c.sync.ensures.deeds;
    }

pub returns-in_err-write_once : goal.returns-in_err-write_once
returns-in_err-write_once g c =
    let G = g.W.Outside in
    record {
      only = c.write_once.ensures.only;
      crash = λ sure. torn_first G c.args.outside.now c.write_once.new.outside c.args.at (length c.args.bytes.now) sure (c.write_once.ensures.crash sure.honest sure.told);
      done = grind (arith, common_steps);
      writes = grind (arith, common_steps);
      cause = grind (arith, common_steps);
      deeds = grind (arith, common_steps, some_more (G.deeds c.args.outside.now) (G.deeds c.write_once.new.outside) (Wrote c.args.at c.args.bytes.now ∷ []) (Synced ∷ []) c.in_err-write_once.ensures.deeds);
    }
