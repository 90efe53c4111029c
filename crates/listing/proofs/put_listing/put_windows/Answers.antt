use Rattle.listing.proofs.Common.{◌≡◌, ℕ, ◌+◌, ◌<◌, List, [], ◌∷◌, length, take, get_or, rules, arith, refl, sym, ap, subst, ◌∙◌, Option, None, Some, count_by, is_some, flat_map, enumerate_from, take_all, get_or-enumerate_from, length-enumerate_from, place_line, PrintsBytes, PutsTimes}
use Rattle.std.proofs.lemmas.List.Sums.{count_by_more_no, count_by_more_yes}
use Rattle.flat_machine.specs.declared.machine.Window.{Window}
use Rattle.listing.proofs.PutsLemmas.{done, puts_more, puts_no_more, times_on}
use Rattle.listing.proofs.put_listing.put_windows.Goals as goal

abbrev line_of : ℕ × Option Window → List ℕ
line_of place = place_line place.0 place.1

-- the line under the register of a place is the one that is due there
same_line : (windows : List (Option Window)) (i : ℕ) → i < length windows → place_line (i + 1) (get_or windows i None) ≡ line_of (get_or (enumerate_from 1 windows) i (0, None))
same_line windows i lt =
    ap (λ (register : ℕ). place_line register (get_or windows i None)) (omega arith) ∙ sym (ap line_of (get_or-enumerate_from 1 windows i (0, None) lt))

-- the windows of one place more
one_more : (windows : List (Option Window)) (i : ℕ) → i < length windows → count_by is_some (take i windows) + count_by is_some (get_or windows i None ∷ []) ≡ count_by is_some (take (i + 1) windows)
one_more windows i inside = by_place (get_or windows i None) refl
  where
    by_place : (place : Option Window) → get_or windows i None ≡ place → count_by is_some (take i windows) + count_by is_some (place ∷ []) ≡ count_by is_some (take (i + 1) windows)
    by_place (Some window) is = omega (arith, count_by_more_yes is_some windows i None inside (ap is_some is))
    by_place None is = omega (arith, count_by_more_no is_some windows i None inside (ap is_some is))

pub returns-in_err-put_place-clause-puts : goal.returns-in_err-put_place-clause-puts
returns-in_err-put_place-clause-puts g c =
    let within : c.loop-index.index < length c.args.windows.now = omega (arith, c.told-windows, c.loop-index-test.true) in
    puts_no_more g.W.Outside g.met.W.Outside.fewer_later line_of (enumerate_from 1 c.args.windows.now) c.loop-index.index (0, None) _
    (omega (arith, within, length-enumerate_from 1 c.args.windows.now)) (same_line c.args.windows.now c.loop-index.index within)
    c.args.outside.now c.loop-index.outside c.put_place.new.outside tt c.put_place.result c.from_residual.result (search rules) c.from_residual.ensures.0 c.loop-index.invariant.puts c.put_place.ensures.puts

pub loop-index-preserved : goal.loop-index-preserved
loop-index-preserved g c =
    let within : c.loop-index.index < length c.args.windows.now = omega (arith, c.told-windows, c.loop-index-test.true) in
    record {
      puts = puts_more g.W.Outside g.met.W.Outside.fewer_later line_of (enumerate_from 1 c.args.windows.now) c.loop-index.index (0, None) _
          (omega (arith, within, length-enumerate_from 1 c.args.windows.now)) (same_line c.args.windows.now c.loop-index.index within)
          c.args.outside.now c.loop-index.outside c.put_place.new.outside tt done c.loop-index.invariant.puts c.in_ok-put_place.ensures.puts;
      times = subst (λ (n : ℕ). PutsTimes g.W.Outside n c.args.outside.now c.put_place.new.outside done)
          (one_more c.args.windows.now c.loop-index.index within)
          (times_on g.W.Outside c.args.outside.now c.loop-index.outside c.put_place.new.outside (count_by is_some (take c.loop-index.index c.args.windows.now)) (count_by is_some (get_or c.args.windows.now c.loop-index.index None ∷ [])) _ tt done c.loop-index.invariant.puts c.loop-index.invariant.times c.in_ok-put_place.ensures.times);
    }

pub returns-clause-puts : goal.returns-clause-puts
returns-clause-puts g c =
    subst (λ (places : List (ℕ × Option Window)). PrintsBytes g.W.Outside (flat_map line_of places) c.args.outside.now c.loop-index.outside done)
    (take_all c.loop-index.index (enumerate_from 1 c.args.windows.now) (omega (arith, length-enumerate_from 1 c.args.windows.now, c.told-windows)))
    c.loop-index.invariant.puts

pub returns-clause-times : goal.returns-clause-times
returns-clause-times g c =
    subst (λ (windows : List (Option Window)). PutsTimes g.W.Outside (count_by is_some windows) c.args.outside.now c.loop-index.outside done)
    (take_all c.loop-index.index c.args.windows.now (omega (arith, c.loop-index-test.false, c.told-windows)))
    c.loop-index.invariant.times
