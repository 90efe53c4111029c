use Rattle.store_calls.proofs.Lemmas.{◌≡◌, ◌≤◌, ◌+◌, ◌<◌, length, arith, subst, ap, Ok, held_of, stands, PutsBytes, none_in, nothing_put, parts_on, parts-long, parts_stop}
use Rattle.store_calls.proofs.show.put_range.Goals as goal

pub parts-init : goal.parts-init
parts-init g c = record {
  inside = omega arith;
  whole = λ some. omega arith;
  puts = nothing_put g.W.Outside g.met.W.Outside.fewer_later c.args.store.now c.args.at c.args.range.now.from c.args.outside.now;
  long = λ shown. ap length (none_in (stands (held_of g.W.Outside c.args.outside.now)) c.args.at);
}

pub returns-in-Err : goal.returns-in-Err
returns-in-Err g c =
    let done = c.parts.done in let count = c.min-count.result in
    let inside : done + count ≤ c.args.range.now.count = omega (arith, c.parts-test.true, c.min-count.ensures) in
    let full : done + count < c.args.range.now.count → count ≡ 2048 = λ more. omega (arith, c.min-count.ensures, more) in
    record {
      puts = parts_stop g.W.Outside g.met.W.Outside.fewer_later c.args.store.now c.args.at c.args.range.now.from done count c.args.range.now.count c.args.outside.now c.parts.outside c.put_part.new.outside (c.parts.invariant.whole c.parts-test.true) inside full c.parts.invariant.puts c.parts.invariant.long
          c.in-Err.status c.in-Err.ensures.puts c.in-Err.ensures.read;
    }

pub parts-preserved : goal.parts-preserved
parts-preserved g c =
    let G = g.W.Outside in let done = c.parts.done in let count = c.min-count.result in
    let inside : done + count ≤ c.args.range.now.count = omega (arith, c.parts-test.true, c.min-count.ensures) in
    let full : done + count < c.args.range.now.count → count ≡ 2048 = λ more. omega (arith, c.min-count.ensures, more) in
    let whole = c.parts.invariant.whole c.parts-test.true in
    record {
      inside = inside;
      whole = λ more. omega (arith, whole, full more);
      puts = parts_on G g.met.W.Outside.fewer_later c.args.store.now c.args.at c.args.range.now.from done count c.args.range.now.count c.args.outside.now c.parts.outside c.put_part.new.outside whole inside full c.parts.invariant.puts c.parts.invariant.long c.in-Ok.ensures.puts c.in-Ok.ensures.read;
      long = parts-long G g.met.W.Outside.fewer_later c.args.store.now c.args.at c.args.range.now.from done count c.args.range.now.count c.args.outside.now c.parts.outside c.put_part.new.outside whole inside full c.parts.invariant.puts c.parts.invariant.long c.in-Ok.ensures.read;
    }

pub returns : goal.returns
returns g c =
    let all : c.parts.done ≡ c.args.range.now.count = omega (arith, c.parts.invariant.inside, c.parts-test.false) in
    record { puts = subst (λ count. PutsBytes g.W.Outside c.args.store.now c.args.at c.args.range.now.from count c.args.outside.now c.parts.outside (Ok tt)) all c.parts.invariant.puts }
