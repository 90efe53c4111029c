use Rattle.store_format.proofs.Lemmas.{◌≡◌, ℕ, [], ◌∙◌, sym, ap, subst, length, List, take, drop, Option, IsSome, unwrap_or, min, held_of, common_steps, arith, padded_is, read_is, number_is}
use Rattle.outside.proofs.Runs.{asks_on, asks_one}
use Rattle.store_format.proofs.header_reading.read_head.Goals as goal

pub returns : goal.returns
returns g c =
    let G = g.W.Outside in
    record {
      asks = asks_on G g.met.W.Outside.fewer_later c.args.outside.now c.length.new.self c.read_at.new.self (asks_one G c.args.outside.now c.length.new.self c.length.ensures.asks c.length.result c.length.ensures.counts c.length.ensures.deeds) (asks_one G c.length.new.self c.read_at.new.self c.read_at.ensures.asks c.read_at.result c.read_at.ensures.counts c.read_at.ensures.deeds);
      read = λ told.
          let held = held_of G c.args.outside.now in
          let front = c.split_at_mut-front.result.0.now in
          let still : IsSome (G.held c.length.new.self) = subst (λ (those : Option (List ℕ)). IsSome those) (sym c.length.ensures.asks.held) told in
          let read : c.read_at.new.into ≡ take (length front) (drop 0 (held_of G c.length.new.self)) = read_is (G.held c.length.new.self) c.read_at.new.into 0 (length front) still c.in_ok-read_at.ensures.read in
          let same : take (length front) (drop 0 (held_of G c.length.new.self)) ≡ take c.min-whole.result (drop 0 held) =
          ap (λ (those : Option (List ℕ)). take (length front) (drop 0 (unwrap_or those []))) c.length.ensures.asks.held ∙ ap (λ (n : ℕ). take n (drop 0 held)) c.split_at_mut-front.ensures.front_len in
          let whole : c.min-whole.result ≡ min (length held) 128 = c.min-whole.ensures ∙ ap (λ (n : ℕ). min n 128) (number_is (G.held c.args.outside.now) c.in_ok-length.length told c.in_ok-length.ensures.number) in
          record {
            number = number_is (G.held c.args.outside.now) c.in_ok-length.length told c.in_ok-length.ensures.number;
            head = padded_is held c.read_at.new.into c.split_at_mut-front.result.1.now c.min-whole.result whole (read ∙ same) c.split_at_mut-front.ensures.back;
          };
      cause = grind (arith, common_steps);
    }
