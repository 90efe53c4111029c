use Rattle.store.proofs.Lemmas.{common_steps, IsCheckpointed, ◌≡◌, ℕ, ◌+◌, List, [], length, refl, sym, subst, ◌∙◌, ap, arith, replicate, length-replicate, get_or-replicate, Which, Header, header_of, area_at, IsStore, Leaves, held_of, leaves_held, BankView, TracksBank, HoldsRecords, bank_turned, place_is, other, IsSame, IsMoved, Option, None, take, held_since, Result, Failed, bank_number, Carries, checkpoint_deeds}
use Rattle.store.proofs.checkpoint.Banks.checkpoint.Given.{Over}
use Rattle.store.proofs.checkpoint.Banks.checkpoint.Goals as goal
use Rattle.store.proofs.checkpoint.Banks.checkpoint.Goals.{After-move_to, After-turn_to}

-- the images since the start
crash : (g : Over) (c : goal.After-move_to g) (tracks : TracksBank g.W.Outside c.args.self.now c.args.outside.now)
    → Leaves g.W.Outside (λ image seen. IsSame tracks.header c.args.self.now tracks.records (held_of g.W.Outside c.args.outside.now) image) c.args.outside.now c.move_to.new.outside
crash g c =
    subst (λ (bank : BankView). (tracks : TracksBank g.W.Outside bank c.args.outside.now) → Leaves g.W.Outside (λ image seen. IsSame tracks.header bank tracks.records (held_of g.W.Outside c.args.outside.now) image) c.args.outside.now c.move_to.new.outside) c.self.view_is c.move_to.ensures.crash

-- the bytes held are one of them
held : (g : Over) (c : goal.After-move_to g) (tracks : TracksBank g.W.Outside c.args.self.now c.args.outside.now) → IsSame tracks.header c.args.self.now tracks.records (held_of g.W.Outside c.args.outside.now) (held_of g.W.Outside c.move_to.new.outside)
held g c tracks =
    let G = g.W.Outside in
    held_since G g.met.W.Outside.fewer_later g.met.W.Outside.held_now c.args.outside.now c.move_to.new.outside c.move_to.ensures.only tracks.sure.told
    (IsSame tracks.header c.args.self.now tracks.records (held_of G c.args.outside.now)) (crash g c tracks)

-- what the move asks, by the banks
moves : (g : Over) (c : goal.After-move_to g) → TracksBank g.W.Outside c.args.self.now c.args.outside.now → Carries (g.W.Outside.deeds c.args.outside.now) (g.W.Outside.deeds c.move_to.new.outside) (checkpoint_deeds c.args.self.now (held_of g.W.Outside c.args.outside.now)) c.move_to.result
moves g c =
    subst (λ (bank : BankView). TracksBank g.W.Outside bank c.args.outside.now → Carries (g.W.Outside.deeds c.args.outside.now) (g.W.Outside.deeds c.move_to.new.outside) (checkpoint_deeds bank (held_of g.W.Outside c.args.outside.now)) c.move_to.result) c.self.view_is c.move_to.ensures.deeds

pub returns-in-Err : goal.returns-in-Err
returns-in-Err g c =
    let at = (goal.at.returns-in-Err g c).After-move_to in
    record {
      only = grind (arith, common_steps);
      shape = grind (arith, common_steps);
      kept = grind (arith, common_steps);
      fits = grind (arith, common_steps);
      cause = grind (arith, common_steps);
      deeds = λ tracks. subst (λ (result : Result (Unit {0}) Failed). Carries (g.W.Outside.deeds c.args.outside.now) (g.W.Outside.deeds c.move_to.new.outside) (checkpoint_deeds c.args.self.now (held_of g.W.Outside c.args.outside.now)) result) c.in-Err.is (moves g at tracks);
      crash = λ tracks. crash g at tracks;
      held = λ tracks. held g at tracks;
      done = grind (arith, common_steps);
    }

-- the bank that was turned to is tracked
made : (g : Over) (c : goal.After-turn_to g) (tracks : TracksBank g.W.Outside c.args.self.now c.args.outside.now) → IsCheckpointed g.W.Outside c.args.self.now c.turn_to.new.self c.args.outside.now c.move_to.new.outside
made g c tracks =
    let G = g.W.Outside in
    let bank = c.args.self.now in
    let away = other bank.which in
    let new = held_of G c.move_to.new.outside in
    let moved = subst (λ (those : BankView). (tracks : TracksBank G those c.args.outside.now) → IsMoved G tracks.header those c.args.outside.now c.move_to.new.outside) c.self.view_is c.in-Ok.ensures.done tracks in
    let chose : c.other_of-which.result ≡ other c.self.inside.bank.which = c.other_of-which.ensures ∙ ap other c.which.ensures in
    let kept : c.turn_to.new.self ≡ bank_turned away bank = c.turn_to.ensures.turned ∙ ap (λ (which : Which). bank_turned which c.self.inside.bank) chose ∙ ap (λ (those : BankView). bank_turned (other those.which) those) c.self.view_is in
    let lines : length (replicate {A = Option ℕ} (length bank.newest) None) ≡ length bank.newest = length-replicate {A = Option ℕ} (length bank.newest) None in
    let gate : area_at tracks.header away ≡ (bank_turned away bank).gate = ap (λ (n : ℕ). n + 8) (place_is tracks.header away bank.bank_bytes tracks.bank_bytes) in
    let said : header_of (take 128 (held_of G c.args.outside.now)) ≡ tracks.header = tracks.store.said in
    let now : TracksBank G (bank_turned away bank) c.move_to.new.outside = record {
      sure = moved.sure;
      header = tracks.header;
      records = [];
      store = subst (λ (n : ℕ). IsStore new tracks.header away (bank_number bank) n []) gate moved.store;
      page = tracks.page;
      bank_bytes = tracks.bank_bytes;
      bound = tracks.bound ∙ sym lines;
      count = refl;
      newest = λ line below. get_or-replicate (length bank.newest) line None None (omega (arith, below, lines));
    } in
    record {
      tracks = subst (λ (those : BankView). TracksBank G those c.move_to.new.outside) (sym kept) now;
      stood = moved.stood;
      header = moved.store.said ∙ sym said;
      emptied = λ image seen left.
          let there : HoldsRecords tracks.header away (bank_number bank) [] new = record { gate = area_at tracks.header away; store = moved.store } in
          subst (λ (those : List ℕ). HoldsRecords (header_of (take 128 (held_of G c.args.outside.now))) away (bank_number bank) [] those) (sym (leaves_held G c.move_to.new.outside moved.sure image seen left))
          (subst (λ (those : Header). HoldsRecords those away (bank_number bank) [] new) (sym said) there);
    }

pub returns-in-Ok : goal.returns-in-Ok
returns-in-Ok g c =
    let at = goal.at.returns-in-Ok g c in
    record {
      only = grind (arith, common_steps);
      shape = grind (arith, common_steps);
      kept = grind (arith, common_steps);
      fits = grind (arith, common_steps);
      cause = grind (arith, common_steps);
      deeds = λ tracks. subst (λ (result : Result (Unit {0}) Failed). Carries (g.W.Outside.deeds c.args.outside.now) (g.W.Outside.deeds c.move_to.new.outside) (checkpoint_deeds c.args.self.now (held_of g.W.Outside c.args.outside.now)) result) c.in-Ok.is (moves g at.After-move_to tracks);
      crash = λ tracks. crash g at.After-move_to tracks;
      held = λ tracks. held g at.After-move_to tracks;
      done = λ tracks. made g at.After-turn_to tracks;
    }
