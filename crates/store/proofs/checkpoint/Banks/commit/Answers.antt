use Rattle.store.proofs.Lemmas.{◌≡◌, inl, sym, subst, ◌∙◌, ap, arith, Option, IfSome, held_of, None, Some, BankView, emptied, roomy, Commits, CountsKept, FailedLeaves, bank_appended, kept_in, Kept, appended_apart, carried, leaves_committed, kept_after, roomy_full, roomy_fits, two_more, refl, KeepsRecord}
use Rattle.store.proofs.checkpoint.Banks.commit.Goals as goal

-- a full bank was left alone, and so was the disk
pub returns-in-None : goal.returns-in-None
returns-in-None g c =
    let G = g.W.Outside in
    let old = c.args.self.now in
    let new = c.commit_behind_checkpoint.new.self in
    let now = c.commit_behind_checkpoint.new.outside in
    let full = c.kept.ensures.full c.in-None.is in
    subst (λ (there : BankView). Commits G there old new c.args.outside.now now c.commit_behind_checkpoint.result) (sym (roomy_full old (c.append.ensures.full.0 full)))
    (carried (λ bank w. Commits G (emptied bank) bank new w now c.commit_behind_checkpoint.result)
    c.append.new.self old c.append.new.outside c.args.outside.now
    (c.append.ensures.kept ∙ ap (λ (answer : Option Kept). bank_appended answer old) (sym c.kept.ensures.value ∙ c.in-None.is))
    (c.append.ensures.nothing full) c.commit_behind_checkpoint.ensures)

pub returns-in-Some : goal.returns-in-Some
returns-in-Some g c =
    let G = g.W.Outside in
    let bank = c.args.self.now in
    let before = c.args.outside.now in
    let after = c.append.new.outside in
    let kept = c.in-Some.kept in
    let told : kept_in c.append.result ≡ Some kept = sym c.kept.ensures.value ∙ c.in-Some.is in
    let here : roomy bank ≡ bank = roomy_fits bank (λ full. let no : None ≡ Some kept = sym (ap kept_in (c.append.ensures.full.1 full)) ∙ told in cc) in
    subst (λ (there : BankView). Commits G there bank c.append.new.self before after kept) (sym here) (record {
      only = c.append.ensures.only;
      shape = c.append.ensures.shape;
      kept = kept_after kept bank bank c.append.new.self (c.append.ensures.kept ∙ ap (λ (answer : Option Kept). bank_appended answer bank) told);
      counted = subst (λ (answer : Option Kept). IfSome answer (CountsKept G before after)) told c.append.ensures.counted;
      writes = λ is. two_more (G.writes before) (G.writes before) (G.writes after) (λ count was. (count, was, omega arith)) (c.append.ensures.writes (c.kept.ensures.done (c.in-Some.is ∙ ap Some is)));
      deeds = λ tracks. inl (refl, subst (λ (answer : Option Kept). IfSome answer (KeepsRecord (G.deeds before) (G.deeds after) bank)) told c.append.ensures.deeds);
      crash = c.append.ensures.crash;
      left = λ tracks. subst (λ (answer : Option Kept). IfSome answer (FailedLeaves G bank bank before after)) told (c.append.ensures.left tracks);
      records = λ tracks.
          leaves_committed G g.met.W.Outside.fewer_later g.met.W.Outside.held_now before after c.append.ensures.only tracks.sure.told tracks.header bank bank tracks.records (inl (c.append.ensures.records tracks))
          (λ image seen left. appended_apart tracks.header bank bank tracks.records (held_of G before) image (c.append.ensures.apart tracks image seen left));
      done = λ is. c.append.ensures.done (c.kept.ensures.done (c.in-Some.is ∙ ap Some is));
    })
