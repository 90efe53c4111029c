use Rattle.store.proofs.Lemmas.{common_steps, ◌≡◌, ℕ, ◌<◌, List, length, refl, sym, subst, ◌∙◌, arith, IsTrue, Bool, line_count, Leaves, held_of, leaves_held, TracksBank, writes_on, wrote_nothing, store_bytes, IsHomeCovered, IsHomed, leaves_step, homed_start, step_covered, step_homed, copies_same, homed_gap, home_place, get_or, None, Result, Failed, ◌+◌, suc, ap, line_bytes_of, line_bytes, PageSize, carries_on, did_none, some_more, home_gap, home_part, whole, cut, Carries, Deed, Did, DidSome, copy_deeds, homes_written}
use Rattle.store.proofs.home.write_home.Given.{Over}
use Rattle.store.proofs.home.write_home.Goals as goal
use Rattle.store.proofs.home.write_home.Goals.{After-copy_newest}

pub loop-line-init : goal.loop-line-init
loop-line-init g c =
    let G = g.W.Outside in
    let start = c.args.outside.now in
    let bank = c.args.bank.now in
    let line = c.first_held-line.result in
    let held = held_of G start in
    record {
      within = c.first_held-line.ensures.within;
      only = wrote_nothing G start;
      no_fault = refl;
      crash = λ tracks image seen left.
          subst (λ (those : List ℕ). IsHomeCovered tracks.header tracks.records (held_of G start) those) (sym (leaves_held G start tracks.sure image seen left)) (homed_start tracks.header tracks.records (held_of G start)).covered;
      homed = λ tracks.
          homed_gap tracks.header bank.which bank.base bank.gate tracks.records held tracks.store 0 line held (homed_start tracks.header tracks.records held)
          (λ k low high. sym (tracks.newest k (omega (arith, high, c.first_held-line.ensures.within))) ∙ c.first_held-line.ensures.before k low high);
      deeds = λ tracks.
          subst (λ (plan : List Deed). Did (G.deeds start) (G.deeds start) plan) (sym (home_gap bank held 0 line c.first_held-line.ensures.least c.first_held-line.ensures.before)) (did_none (G.deeds start) (G.deeds start) refl);
    }

pub copy_newest-requires-clause-room : goal.copy_newest-requires-clause-room
copy_newest-requires-clause-room g c = c.loop-line.invariant.only.longer (store_bytes c.args.bank.now) c.requires.room

-- what the copy of one line more asks, by the bytes of the start
one_more_home : (g : Over) (c : goal.After-copy_newest g) (tracks : TracksBank g.W.Outside c.args.bank.now c.args.outside.now) (result : Result (Unit {0}) Failed)
    → Carries (g.W.Outside.deeds c.loop-line.outside) (g.W.Outside.deeds c.copy_newest.new.outside) (copy_deeds (line_bytes_of c.args.bank.now) (held_of g.W.Outside c.loop-line.outside) (get_or c.args.bank.now.newest c.loop-line.line None) (home_place c.args.bank.now c.loop-line.line)) result
    → Carries (g.W.Outside.deeds c.args.outside.now) (g.W.Outside.deeds c.copy_newest.new.outside) (homes_written c.args.bank.now (held_of g.W.Outside c.args.outside.now) (suc c.loop-line.line)) result
one_more_home g c tracks result copied =
    let G = g.W.Outside in
    let bank = c.args.bank.now in
    let held = held_of G c.args.outside.now in
    let line = c.loop-line.line in
    let below : line < line_count tracks.header.directory = omega (arith, tracks.bound, c.loop-line-test.true, c.lines.ensures) in
    let same = copies_same tracks.header bank.which bank.base bank.gate tracks.records held tracks.store (held_of G c.loop-line.outside) (c.loop-line.invariant.homed tracks).covered line (get_or bank.newest line None) (sym (tracks.newest line (omega (arith, tracks.bound, below)))) (line_bytes_of bank) (home_place bank line)
    (ap (λ (page : PageSize). line_bytes page) (sym tracks.page)) in
    carries_on (G.deeds c.args.outside.now) (G.deeds c.loop-line.outside) (G.deeds c.copy_newest.new.outside) (homes_written bank held line) (copy_deeds (line_bytes_of bank) held (get_or bank.newest line None) (home_place bank line)) result
    (c.loop-line.invariant.deeds tracks)
    (subst (λ (plan : List Deed). Carries (G.deeds c.loop-line.outside) (G.deeds c.copy_newest.new.outside) plan result) same copied)

-- and where it failed, of all lines
cut_home : (g : Over) (c : goal.After-copy_newest g) (tracks : TracksBank g.W.Outside c.args.bank.now c.args.outside.now)
    → DidSome (g.W.Outside.deeds c.loop-line.outside) (g.W.Outside.deeds c.copy_newest.new.outside) (copy_deeds (line_bytes_of c.args.bank.now) (held_of g.W.Outside c.loop-line.outside) (get_or c.args.bank.now.newest c.loop-line.line None) (home_place c.args.bank.now c.loop-line.line))
    → DidSome (g.W.Outside.deeds c.args.outside.now) (g.W.Outside.deeds c.copy_newest.new.outside) (homes_written c.args.bank.now (held_of g.W.Outside c.args.outside.now) (length c.args.bank.now.newest))
cut_home g c tracks copied =
    let G = g.W.Outside in
    let bank = c.args.bank.now in
    let held = held_of G c.args.outside.now in
    let part = home_part bank held (suc c.loop-line.line) (length bank.newest) (omega (arith, c.loop-line-test.true, c.lines.ensures)) in
    subst (λ (plan : List Deed). DidSome (G.deeds c.args.outside.now) (G.deeds c.copy_newest.new.outside) plan) (sym part.1)
    (some_more (G.deeds c.args.outside.now) (G.deeds c.copy_newest.new.outside) (homes_written bank held (suc c.loop-line.line)) part.0 (one_more_home g c tracks cut copied))

-- the images after one line more
covered : (g : Over) (c : goal.After-copy_newest g) (tracks : TracksBank g.W.Outside c.args.bank.now c.args.outside.now) → Leaves g.W.Outside (λ image seen. IsHomeCovered tracks.header tracks.records (held_of g.W.Outside c.args.outside.now) image) c.args.outside.now c.copy_newest.new.outside
covered g c tracks =
    let G = g.W.Outside in
    let bank = c.args.bank.now in
    let start = c.args.outside.now in
    let before = c.loop-line.invariant.only in
    let below : c.loop-line.line < line_count tracks.header.directory = omega (arith, tracks.bound, c.loop-line-test.true, c.lines.ensures) in
    let P = λ (image seen : List ℕ). IsHomeCovered tracks.header tracks.records (held_of G start) image in
    leaves_step G g.met.W.Outside.fewer_later start c.loop-line.outside c.copy_newest.new.outside before.calls.time c.copy_newest.ensures.only.calls.time P P _
    (c.loop-line.invariant.crash tracks)
    (c.copy_newest.ensures.crash (subst (λ (b : Bool). IsTrue b) (sym before.calls.honest) tracks.sure.honest) (before.told tracks.sure.told))
    (λ image seen so. so)
    (λ from image seen so torn.
    step_covered tracks.header bank.which bank.base bank.gate tracks.records (held_of G start) tracks.store bank c.loop-line.line tracks.page tracks.bank_bytes below _ (sym (tracks.newest c.loop-line.line (omega (arith, tracks.bound, below)))) from image so torn)

pub returns-in_err-copy_newest : goal.returns-in_err-copy_newest
returns-in_err-copy_newest g c =
    let at = (goal.at.returns-in_err-copy_newest g c).After-copy_newest in
    record {
      only = writes_on g.W.Outside g.met.W.Outside.fewer_later c.args.outside.now c.loop-line.outside c.copy_newest.new.outside c.loop-line.invariant.only c.copy_newest.ensures.only;
      crash = λ tracks. covered g at tracks;
      done = grind (arith, common_steps);
      cause = grind (arith, common_steps);
      deeds = λ tracks.
          let it = cut_home g at tracks (c.in_err-copy_newest.ensures.deeds (c.loop-line.invariant.only.told tracks.sure.told)) in
          grind (arith, common_steps, it);
    }

pub loop-line-preserved : goal.loop-line-preserved
loop-line-preserved g c =
    let G = g.W.Outside in
    let bank = c.args.bank.now in
    let start = c.args.outside.now in
    let before = c.loop-line.invariant.only in
    let next = c.first_held-line-in-loop-line.result in
    let gap = c.first_held-line-in-loop-line.ensures in
    record {
      within = gap.within;
      only = writes_on G g.met.W.Outside.fewer_later start c.loop-line.outside c.copy_newest.new.outside before c.copy_newest.ensures.only;
      no_fault = c.in_ok-copy_newest.ensures.cause.done ∙ c.loop-line.invariant.no_fault;
      crash = λ tracks. covered g (goal.at.loop-line-preserved g c).After-copy_newest tracks;
      homed = λ tracks.
          let below : c.loop-line.line < line_count tracks.header.directory = omega (arith, tracks.bound, c.loop-line-test.true, c.lines.ensures) in
          homed_gap tracks.header bank.which bank.base bank.gate tracks.records (held_of G start) tracks.store (c.loop-line.line + 1) next (held_of G c.copy_newest.new.outside)
          (step_homed tracks.header bank.which bank.base bank.gate tracks.records (held_of G start) tracks.store bank c.loop-line.line tracks.page tracks.bank_bytes below _ (sym (tracks.newest c.loop-line.line (omega (arith, tracks.bound, below))))
          (held_of G c.loop-line.outside) (held_of G c.copy_newest.new.outside) (c.loop-line.invariant.homed tracks) (c.in_ok-copy_newest.ensures.done (before.told tracks.sure.told)))
          (λ k low high. sym (tracks.newest k (omega (arith, high, gap.within))) ∙ gap.before k low high);
      deeds = λ tracks.
          let on : suc c.loop-line.line ≡ c.loop-line.line + 1 = omega arith in
          subst (λ (plan : List Deed). Did (G.deeds start) (G.deeds c.copy_newest.new.outside) plan) (sym (home_gap bank (held_of G start) (c.loop-line.line + 1) next gap.least gap.before))
          (subst (λ (n : ℕ). Did (G.deeds start) (G.deeds c.copy_newest.new.outside) (homes_written bank (held_of G start) n)) on
          (one_more_home g (goal.at.loop-line-preserved g c).After-copy_newest tracks whole (c.in_ok-copy_newest.ensures.deeds (before.told tracks.sure.told))));
    }

pub returns : goal.returns
returns g c =
    let G = g.W.Outside in
    let all : c.loop-line.line ≡ length c.args.bank.now.newest = omega (arith, c.loop-line-test.false, c.lines.ensures, c.loop-line.invariant.within) in
    record {
      only = c.loop-line.invariant.only;
      crash = c.loop-line.invariant.crash;
      done = λ tracks. subst (λ (n : ℕ). IsHomed tracks.header tracks.records (held_of G c.args.outside.now) n (held_of G c.loop-line.outside)) all (c.loop-line.invariant.homed tracks);
      cause = grind (arith, common_steps);
      deeds = λ tracks. subst (λ (n : ℕ). Did (G.deeds c.args.outside.now) (G.deeds c.loop-line.outside) (homes_written c.args.bank.now (held_of G c.args.outside.now) n)) all (c.loop-line.invariant.deeds tracks);
    }
