use Rattle.store.proofs.Lemmas.{◌≡◌, ℕ, get_or, refl, sym, subst, ◌∙◌, arith, Option, None, Some, Result, Ok, Failed, line_bytes_of, wrote_nothing, home_place, get_or_from_slice_get, CopiesLine, did_none}
use Rattle.store.proofs.home.copy_newest.Given.{Over}
use Rattle.store.proofs.home.copy_newest.Goals as goal
use Rattle.store.proofs.home.copy_newest.Goals.{In-Some}

place : (g : Over) (c : goal.In-Some g) → get_or c.args.bank.now.newest c.args.line None ≡ Some c.in-Some.place
place g c = get_or_from_slice_get c.args.bank.now.newest c.args.line c.newest.result None c.newest.ensures.place ∙ c.in-Some.is

abbrev done : Result (Unit {0}) Failed
done = Ok tt

pub returns-in-Some : goal.returns-in-Some
returns-in-Some g c =
    let Copies = λ (bytes : ℕ) (from : Option ℕ) (to : ℕ). CopiesLine g.W.Outside bytes from to c.args.outside.now c.copy_line.new.outside c.copy_line.result in
    let bytes = line_bytes_of c.args.bank.now in
    subst (λ (from : Option ℕ). Copies bytes from (home_place c.args.bank.now c.args.line)) (sym (place g (goal.at.returns-in-Some g c).In-Some))
    (subst (λ (to : ℕ). Copies bytes (Some c.in-Some.place) to) c.home_place.ensures
    (subst (λ (n : ℕ). Copies n (Some c.in-Some.place) c.home_place.result) c.requires.whole c.copy_line.ensures))

pub returns-in-None : goal.returns-in-None
returns-in-None g c =
    let now = c.args.outside.now in
    subst (λ (from : Option ℕ). CopiesLine g.W.Outside (line_bytes_of c.args.bank.now) from (home_place c.args.bank.now c.args.line) now now done) (sym (get_or_from_slice_get c.args.bank.now.newest c.args.line c.newest.result None c.newest.ensures.place ∙ c.in-None.is))
    (record { only = wrote_nothing g.W.Outside now; crash = λ honest told image seen left. (image, left, refl); done = λ told. refl; cause = record { later = omega arith; failed = tt; done = refl }; deeds = λ told. did_none (g.W.Outside.deeds now) (g.W.Outside.deeds now) refl })
