use Rattle.store.proofs.Lemmas.{common_steps, asks_one, asks_on, ◌≡◌, ◌+◌, List, ℕ, take, drop, ap, sym, subst, ◌∙◌, arith, drop-drop, big_number, big_from-take, line_bytes, bytes_at, held_of, read_is, IfSome, read_on}
use Rattle.store.proofs.find.read_line.Goals as goal

pub returns : goal.returns
returns g c =
    record {
      asks = asks_on g.W.Outside g.met.W.Outside.fewer_later c.args.outside.now c.read_at.new.self c.read_at-2.new.self
          (asks_one g.W.Outside c.args.outside.now c.read_at.new.self c.read_at.ensures.asks c.read_at.result c.read_at.ensures.counts c.read_at.ensures.deeds)
          (asks_one g.W.Outside c.read_at.new.self c.read_at-2.new.self c.read_at-2.ensures.asks c.read_at-2.result c.read_at-2.ensures.counts c.read_at-2.ensures.deeds);
      read = λ some.
          let G = g.W.Outside in
          let held = held_of G c.args.outside.now in
          let head : c.read_at.new.into ≡ bytes_at held c.args.at 4 = read_is (G.held c.args.outside.now) c.read_at.new.into c.args.at 4 some c.in_ok-read_at.ensures.read in
          let line = line_bytes c.args.page in
          let bytes : c.read_at-2.new.into ≡ bytes_at held (c.args.at + 4) line =
          read_on (G.held c.args.outside.now) (G.held c.read_at.new.self) c.read_at-2.new.into (c.args.at + 4) line c.read_at.ensures.asks.held some (subst (λ (n : ℕ). IfSome (G.held c.read_at.new.self) (λ bytes. c.read_at-2.new.into ≡ bytes_at bytes (c.args.at + 4) n)) c.requires.whole c.in_ok-read_at-2.ensures.read) in
          record {
            number = c.read_u32.ensures ∙ ap (λ (these : List ℕ). big_number 4 these) head ∙ big_from-take 0 4 4 (drop c.args.at held) (omega arith);
            bytes_are = bytes ∙ ap (λ (these : List ℕ). take line these) (sym (drop-drop 4 c.args.at held));
          };
      cause = grind (arith, common_steps);
    }
