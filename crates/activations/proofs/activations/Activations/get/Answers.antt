use Rattle.activations.proofs.Lemmas.{rules, ◌∙◌, IsPoolMoved, IsOpen, WillTouch, lines_wanted, with_other_pool, got-open, got-touch, ok-both, has, page_count, Counts, Activity, IsActivitySound, Serves, locked, pages_picked, pages_wanted, wants_of, tally_counts, ◌≡◌, ◌<◌, ℕ, true, length, sym, ap, subst, EndsByDisk, granted-same, picked-below, served-so, broken-so, serves-by, parts-by}
use Rattle.activations.proofs.activations.Activations.get.Goals as goal

pub returns : goal.returns
returns g c =
    let a = c.args.self.now in let mid = c.take.new.self in
    let new = c.bring.new.self in let pool = new.reach.pool in let seat = c.args.seat in
    let wants = wants_of c.args.touch.now in let refused = pages_picked c.args.touch.now c.args.refused in
    let owned = mid.reach.entries in let before = tally_counts c.args.tally.now in
    let counted = c.bring.new.tally.pages in let sound = c.sound.ensures.sound in
    let runner = c.requires.can.selected.runner in let took = c.take.ensures.shape in
    let later = subst IsActivitySound took c.sound-2.ensures.sound in
    let below : (page : ℕ) → has refused page ≡ true → page < length a.reach.entries =
    λ page inside. subst (λ (n : ℕ). page < n) (sym sound.entries) (picked-below (page_count a.reach.directory) c.args.touch.now c.args.refused c.requires.may.wanted.within page inside) in
    let grants = granted-same mid (locked a seat wants owned) seat wants refused a.reach.entries owned (ap (λ (x : Activity). x.seating) took) (ap (λ (x : Activity). x.reach.directory) took) c.take.ensures.granted in
    record {
      touches = ok-both c.bring.result
          (λ shape fetched. subst (λ (x : Activity). WillTouch x seat wants) (sym (shape ∙ ap (λ (x : Activity). with_other_pool x pool) took))
          (got-touch a seat wants owned refused pool sound c.requires.can.taken runner (subst (λ (x : Activity). IsPoolMoved x.reach.pool pool) took fetched.moved) c.requires.may.touches))
          c.bring.ensures.shape c.bring.ensures.brings.fetched;
      opened = ok-both c.bring.result
          (λ shape fetched. subst (λ (x : Activity). IsOpen x.reach (lines_wanted wants)) (sym (shape ∙ ap (λ (x : Activity). with_other_pool x pool) took))
          (got-open a seat wants owned refused pool sound c.requires.can.taken runner (subst (λ (x : Activity). IsPoolMoved x.reach.pool pool) took fetched.moved) later c.requires.may.wanted below grants c.requires.may.refused fetched.resident))
          c.bring.ensures.shape c.bring.ensures.brings.fetched;
      keeps = record {
        asks = c.bring.ensures.asks;
        parts = parts-by c.bring.result g.W.Outside c.args.store.now c.args.outside.now a mid new seat wants (pages_wanted wants) c.args.tally.now.pages counted took c.bring.ensures.shape c.bring.ensures.brings.broke;
      };
      counts = c.bring.ensures.counts;
      on = search rules;
      ends = c.bring.ensures.ends;
      served = λ begins attempt next committed order is_store number goes lines free.
          subst (λ (counts : Counts). Serves c.bring.result begins new seat wants committed order counts) (sym (ap tally_counts c.bring.ensures.counts.rest))
          (serves-by _ _ _ (EndsByDisk g.W.Outside c.args.outside.now c.bring.new.outside c.args.tally.now c.bring.new.tally) c.bring.result begins new seat wants committed order (record before { pages = counted }) c.bring.ensures.shape c.bring.ensures.brings.fetched
          (served-so begins attempt refused a seat committed order before wants owned sound c.requires.can.taken later c.requires.may.wanted number free lines below grants next goes
          g.W.Outside c.args.store.now c.args.outside.now mid new counted took is_store runner)
          c.bring.ensures.ends (λ how off. off.is) c.bring.ensures.brings.broke
          (broken-so begins attempt refused a seat committed order before wants owned sound c.requires.can.taken later c.requires.may.wanted number free lines below grants next goes
          g.W.Outside c.args.store.now c.args.outside.now mid new counted took is_store));
    }
