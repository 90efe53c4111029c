use Rattle.store.proofs.Lemmas.{common_steps, ◌≡◌, ℕ, length, List, refl, sym, subst, arith, IsTrue, Bool, Option, IsSome, Torn, LeavesStep, OnlyAsks, asks_one, asks_only, follows_asked, writes_on, bytes_at, held_of, ◌∷◌, [], Carries, Deed, Wrote}
use Rattle.store.proofs.home.copy_line.Goals as goal

pub returns : goal.returns
returns g c =
    let G = g.W.Outside in
    let read = c.read_at.ensures in
    let asks : OnlyAsks G c.args.outside.now c.read_at.new.self =
    asks_one G c.args.outside.now c.read_at.new.self read.asks c.read_at.result read.counts read.deeds in
    let same : length c.read_at.new.into ≡ length c.args.buffer.now = c.read_at.auto.into in
    record {
      only = writes_on G g.met.W.Outside.fewer_later c.args.outside.now c.read_at.new.self c.write_once.new.outside (asks_only G c.args.outside.now c.read_at.new.self asks) c.write_once.ensures.only;
      crash = λ honest told.
          subst (λ (n : ℕ). LeavesStep (Torn c.args.to n) G.moment G.left_since c.args.outside.now c.write_once.new.outside) same
          (follows_asked G g.met.W.Outside.fewer_later c.args.outside.now c.read_at.new.self c.write_once.new.outside read.asks.call.time c.write_once.ensures.only.calls.time (Torn c.args.to (length c.read_at.new.into))
          (λ image. record { before = refl; after = refl; no_shorter = omega arith; no_longer = omega arith }) told asks
          (c.write_once.ensures.crash (subst (λ (b : Bool). IsTrue b) (sym read.asks.call.honest) honest) (subst (λ (those : Option (List ℕ)). IsSome those) (sym read.asks.held) told)));
      done = grind (arith, common_steps);
      cause = grind (arith, common_steps);
      deeds = λ told.
          let old = c.args.outside.now in
          let new = c.write_once.new.outside in
          let is : c.read_at.new.into ≡ bytes_at (held_of G old) c.args.from (length c.args.buffer.now) = grind (arith, common_steps, told) in
          subst (λ (bytes : List ℕ). Carries (G.deeds old) (G.deeds new) (Wrote c.args.to bytes ∷ []) c.write_once.result) is
          (subst (λ (those : Option (List Deed)). Carries those (G.deeds new) (Wrote c.args.to c.read_at.new.into ∷ []) c.write_once.result) read.deeds c.write_once.ensures.deeds);
    }
