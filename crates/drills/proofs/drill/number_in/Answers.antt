use Rattle.drills.proofs.Lemmas.{◌≡◌, ◌∙◌, ap, sym, rules, disk_held, stands, one-number}
use Rattle.store.proofs.ShowLemmas.{shown_stands}
use Rattle.drills.proofs.drill.number_in.Goals as goal

pub returns-in-Ok : goal.returns-in-Ok
returns-in-Ok c = λ number store stood.
    let here = shown_stands (disk_held c.new-3.result.disk) c.in-Ok.store (c.in-Ok.ensures.opened.shows (search rules)) in
    let held : disk_held c.new-3.result.disk ≡ c.args.image.items = ap disk_held c.new-3.ensures.disk ∙ c.new-disk.ensures.held in
    c.number.ensures ∙ one-number _ number here.0 store (sym here.1 ∙ ap stands held ∙ stood)
