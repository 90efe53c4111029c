use Rattle.store.proofs.Lemmas.{common_steps, ◌≡◌, ℕ, ◌∷◌, [], List, length, sym, subst, ◌∙◌, ap, arith, IsTrue, Bool, line_count, Which, bank_at, Torn, written, IsSure, Leaves, held_of, leaves_on, leaves_same, asks_one, OnlyWrites, bank_place, end_of, TracksBank, head_bytes, place_is, held_is, writes_on, asks_only, other, selector_of, IsHomeCovered, IsHomed, IsSame, leaves_step, same_held, written_held, synced_sure, IsHeaded, covered_same, headed_same, headed, selected_same, IsThere, moved, end_within, on_ok_weaker, Result, Failed, bank_number, carries_on, carries_err, some_more, some_on, whole, cut, AsksSo, SyncsBy, Carries, Synced, Wrote, sure_deeds, homes_written, turn_written}
use Rattle.store.proofs.checkpoint.move_to.Given.{Over}
use Rattle.store.proofs.checkpoint.move_to.Goals as goal
use Rattle.store.proofs.checkpoint.move_to.Goals.{After-write_head, After-sync, After-write_selector}

-- where the other bank lies
place : (g : Over) (c : goal.After-write_head g) (tracks : TracksBank g.W.Outside c.args.bank.now c.args.outside.now) → bank_place c.args.which c.args.bank.now.bank_bytes ≡ bank_at tracks.header (other c.args.bank.now.which)
place g c tracks = sym (place_is tracks.header c.args.which c.args.bank.now.bank_bytes tracks.bank_bytes) ∙ ap (bank_at tracks.header) c.requires.other

-- and after the head
second : (g : Over) (c : goal.After-write_head g) (tracks : TracksBank g.W.Outside c.args.bank.now c.args.outside.now)
    → Leaves g.W.Outside (λ image seen. IsSame tracks.header c.args.bank.now tracks.records (held_of g.W.Outside c.args.outside.now) image) c.args.outside.now c.write_head.new.outside
second g c tracks =
    let G = g.W.Outside in
    let bank = c.args.bank.now in
    let held = held_of G c.args.outside.now in
    let before = c.write_home.ensures.only in
    leaves_step G g.met.W.Outside.fewer_later c.args.outside.now c.write_home.new.outside c.write_head.new.outside before.calls.time c.write_head.ensures.only.calls.time
    (λ (image seen : List ℕ). IsHomeCovered tracks.header tracks.records held image) (λ (image seen : List ℕ). IsSame tracks.header bank tracks.records held image) (Torn (bank_place c.args.which bank.bank_bytes) 9)
    (c.write_home.ensures.crash tracks)
    (c.write_head.ensures.crash (subst (λ (b : Bool). IsTrue b) (sym before.calls.honest) tracks.sure.honest) (before.told tracks.sure.told))
    (λ image seen covered. covered_same tracks.header bank tracks.records held tracks.store tracks.count image covered)
    (λ start image seen covered torn. headed_same tracks.header bank tracks.records held tracks.store tracks.count start image covered (subst (λ (n : ℕ). Torn n 9 start image) (place g c tracks) torn))

-- the first two
wrote : (g : Over) (c : goal.After-write_head g) → OnlyWrites g.W.Outside c.args.outside.now c.write_head.new.outside
wrote g c = writes_on g.W.Outside g.met.W.Outside.fewer_later c.args.outside.now c.write_home.new.outside c.write_head.new.outside c.write_home.ensures.only c.write_head.ensures.only

synced : (g : Over) (c : goal.After-sync g) → AsksSo g.W.Outside (SyncsBy c.sync.result) c.write_head.new.outside c.sync.new.self
synced g c = asks_one g.W.Outside c.write_head.new.outside c.sync.new.self c.sync.ensures.asks c.sync.result c.sync.ensures.counts c.sync.ensures.deeds

three : (g : Over) (c : goal.After-sync g) → OnlyWrites g.W.Outside c.args.outside.now c.write_head.new.outside → OnlyWrites g.W.Outside c.args.outside.now c.sync.new.self
three g c before = writes_on g.W.Outside g.met.W.Outside.fewer_later c.args.outside.now c.write_head.new.outside c.sync.new.self before (asks_only g.W.Outside c.write_head.new.outside c.sync.new.self (synced g c))

-- and after the sync
third : (g : Over) (c : goal.After-sync g) (tracks : TracksBank g.W.Outside c.args.bank.now c.args.outside.now) → OnlyWrites g.W.Outside c.args.outside.now c.write_head.new.outside
    → Leaves g.W.Outside (λ image seen. IsSame tracks.header c.args.bank.now tracks.records (held_of g.W.Outside c.args.outside.now) image) c.args.outside.now c.write_head.new.outside
    → Leaves g.W.Outside (λ image seen. IsSame tracks.header c.args.bank.now tracks.records (held_of g.W.Outside c.args.outside.now) image) c.args.outside.now c.sync.new.self
third g c tracks before so_far =
    let G = g.W.Outside in
    leaves_same G g.met.W.Outside.fewer_later c.args.outside.now c.write_head.new.outside c.sync.new.self before.calls.time c.sync.ensures.asks.call.time
    (λ (image seen : List ℕ). IsSame tracks.header c.args.bank.now tracks.records (held_of G c.args.outside.now) image) so_far (c.sync.ensures.asks.crash (before.told tracks.sure.told))

-- what the head asks, by the bank
head_deeds : (g : Over) (c : goal.After-write_head g) (result : Result (Unit {0}) Failed)
    → Carries (g.W.Outside.deeds c.write_home.new.outside) (g.W.Outside.deeds c.write_head.new.outside) (Wrote (bank_place c.args.which c.args.bank.now.bank_bytes) (head_bytes (bank_number c.args.bank.now)) ∷ []) result
    → Carries (g.W.Outside.deeds c.write_home.new.outside) (g.W.Outside.deeds c.write_head.new.outside) (Wrote (bank_place (other c.args.bank.now.which) c.args.bank.now.bank_bytes) (head_bytes (bank_number c.args.bank.now)) ∷ []) result
head_deeds g c result is =
    subst (λ (which : Which). Carries (g.W.Outside.deeds c.write_home.new.outside) (g.W.Outside.deeds c.write_head.new.outside) (Wrote (bank_place which c.args.bank.now.bank_bytes) (head_bytes (bank_number c.args.bank.now)) ∷ []) result) c.requires.other is

pub write_head-requires-clause-bank : goal.write_head-requires-clause-bank
write_head-requires-clause-bank g c = record {
  usable = c.requires.bank.usable;
  room = c.write_home.ensures.only.longer (end_of c.args.which c.args.bank.now.bank_bytes) (λ held is. omega (arith, c.requires.bank.room held is, end_within c.args.which c.args.bank.now (length c.args.bank.now.newest)));
}

pub returns-in_err-write_home : goal.returns-in_err-write_home
returns-in_err-write_home g c = record {
  only = c.write_home.ensures.only;
  crash = λ tracks image seen left.
      covered_same tracks.header c.args.bank.now tracks.records (held_of g.W.Outside c.args.outside.now) tracks.store tracks.count image (c.write_home.ensures.crash tracks image seen left);
  done = grind (arith, common_steps);
  cause = grind (arith, common_steps);
  deeds = λ tracks.
      let G = g.W.Outside in
      let it = some_more (G.deeds c.args.outside.now) (G.deeds c.write_home.new.outside) (homes_written c.args.bank.now (held_of G c.args.outside.now) (length c.args.bank.now.newest)) (turn_written c.args.bank.now) (c.in_err-write_home.ensures.deeds tracks) in
      grind (arith, common_steps, it);
}

pub returns-in_err-write_head : goal.returns-in_err-write_head
returns-in_err-write_head g c =
    let at = (goal.at.returns-in_err-write_head g c).After-write_head in
    record {
      only = wrote g at;
      crash = λ tracks. second g at tracks;
      done = grind (arith, common_steps);
      cause = grind (arith, common_steps);
      deeds = λ tracks.
          let G = g.W.Outside in
          let bank = c.args.bank.now in
          let home = homes_written bank (held_of G c.args.outside.now) (length bank.newest) in
          let head = Wrote (bank_place (other bank.which) bank.bank_bytes) (head_bytes (bank_number bank)) in
          let it =
          some_on (G.deeds c.args.outside.now) (G.deeds c.write_home.new.outside) (G.deeds c.write_head.new.outside) home (turn_written bank) (c.in_ok-write_home.ensures.deeds tracks)
          (some_more (G.deeds c.write_home.new.outside) (G.deeds c.write_head.new.outside) (head ∷ []) (Synced ∷ sure_deeds 128 (selector_of (other bank.which) ∷ [])) (head_deeds g at cut c.in_err-write_head.ensures.deeds)) in
          carries_err _ _ _ _ (grind (arith, common_steps)) it;
    }

pub returns-in_err-sync : goal.returns-in_err-sync
returns-in_err-sync g c =
    let at = goal.at.returns-in_err-sync g c in
    let before = wrote g at.After-write_head in
    record {
      only = three g at.After-sync before;
      crash = λ tracks. third g at.After-sync tracks before (second g at.After-write_head tracks);
      done = grind (arith, common_steps);
      cause = grind (arith, common_steps);
      deeds = λ tracks.
          let G = g.W.Outside in
          let bank = c.args.bank.now in
          let home = homes_written bank (held_of G c.args.outside.now) (length bank.newest) in
          let head = Wrote (bank_place (other bank.which) bank.bank_bytes) (head_bytes (bank_number bank)) in
          let it =
          some_on (G.deeds c.args.outside.now) (G.deeds c.write_home.new.outside) (G.deeds c.sync.new.self) home (turn_written bank) (c.in_ok-write_home.ensures.deeds tracks)
          (some_on (G.deeds c.write_home.new.outside) (G.deeds c.write_head.new.outside) (G.deeds c.sync.new.self) (head ∷ []) (Synced ∷ sure_deeds 128 (selector_of (other bank.which) ∷ [])) (head_deeds g at.After-write_head whole c.in_ok-write_head.ensures.deeds)
          (some_more (G.deeds c.write_head.new.outside) (G.deeds c.sync.new.self) (Synced ∷ []) (sure_deeds 128 (selector_of (other bank.which) ∷ [])) c.in_err-sync.ensures.deeds)) in
          carries_err _ _ _ _ (grind (arith, common_steps)) it;
    }

-- the bytes before the selector are sure, and the other bank begins with its head
sure : (g : Over) (c : goal.After-write_selector g) (tracks : TracksBank g.W.Outside c.args.bank.now c.args.outside.now) → AsksSo g.W.Outside (SyncsBy c.sync.result) c.write_head.new.outside c.sync.new.self → OnlyWrites g.W.Outside c.args.outside.now c.write_head.new.outside → IsSure g.W.Outside c.sync.new.self
sure g c tracks asks before =
    let G = g.W.Outside in
    let honest = subst (λ (b : Bool). IsTrue b) (sym before.calls.honest) tracks.sure.honest in
    synced_sure G c.write_head.new.outside c.sync.new.self asks honest (before.told tracks.sure.told) (c.in_ok-sync.ensures.durable honest)

ready : (g : Over) (c : goal.After-write_selector g) (tracks : TracksBank g.W.Outside c.args.bank.now c.args.outside.now) → AsksSo g.W.Outside (SyncsBy c.sync.result) c.write_head.new.outside c.sync.new.self → bank_place c.args.which c.args.bank.now.bank_bytes ≡ bank_at tracks.header (other c.args.bank.now.which)
    → IsHeaded tracks.header c.args.bank.now tracks.records (held_of g.W.Outside c.args.outside.now) tracks.store tracks.count (held_of g.W.Outside c.sync.new.self)
ready g c tracks asks at =
    let G = g.W.Outside in
    let bank = c.args.bank.now in
    let held = held_of G c.args.outside.now in
    let home = held_of G c.write_home.new.outside in
    let homed : IsHomed tracks.header tracks.records held (line_count tracks.header.directory) home = subst (λ (n : ℕ). IsHomed tracks.header tracks.records held n home) (sym tracks.bound) (c.in_ok-write_home.ensures.done tracks) in
    let is : held_of G c.sync.new.self ≡ written home (bank_at tracks.header (other bank.which)) (head_bytes (bank_number bank)) =
    same_held G c.write_head.new.outside c.sync.new.self asks
    ∙ written_held (G.held c.write_home.new.outside) (G.held c.write_head.new.outside) (bank_place c.args.which bank.bank_bytes) (head_bytes (bank_number bank)) _ (c.write_home.ensures.only.told tracks.sure.told) c.in_ok-write_head.ensures.written
    ∙ ap (λ (n : ℕ). written home n (head_bytes (bank_number bank))) at in
    subst (λ (those : List ℕ). IsHeaded tracks.header bank tracks.records held tracks.store tracks.count those) (sym is) (headed tracks.header bank tracks.records held tracks.store tracks.count home homed)

pub returns : goal.returns
returns g c =
    let at = goal.at.returns g c in
    let G = g.W.Outside in
    let bank = c.args.bank.now in
    let held = held_of G c.args.outside.now in
    let before = wrote g at.After-write_head in
    let asks = synced g at.After-sync in
    let so_far = three g at.After-sync before in
    let synced_bytes = held_of G c.sync.new.self in
    let is_sure = λ (tracks : TracksBank G bank c.args.outside.now). sure g at.After-write_selector tracks asks before in
    let is_ready = λ (tracks : TracksBank G bank c.args.outside.now). ready g at.After-write_selector tracks asks (place g at.After-write_head tracks) in
    record {
      only = writes_on G g.met.W.Outside.fewer_later c.args.outside.now c.sync.new.self c.write_selector.new.outside so_far c.write_selector.ensures.only;
      crash = λ tracks.
          leaves_on G g.met.W.Outside.fewer_later c.args.outside.now c.sync.new.self c.write_selector.new.outside so_far.calls.time c.write_selector.ensures.only.calls.time
          (λ (image seen : List ℕ). IsSame tracks.header bank tracks.records held image)
          (third g at.After-sync tracks before (second g at.After-write_head tracks))
          (λ image seen left.
          selected_same tracks.header bank tracks.records held tracks.store tracks.count synced_bytes (is_ready tracks) image (c.write_selector.ensures.crash (is_sure tracks) image seen left));
      done = on_ok_weaker c.write_selector.result
          (λ done tracks.
          let wrote_it = done (is_sure tracks) in
          let is : held_of G c.write_selector.new.outside ≡ written synced_bytes 128 (selector_of (other bank.which) ∷ []) =
          held_is wrote_it.held ∙ ap (λ (which : Which). written synced_bytes 128 (selector_of which ∷ [])) c.requires.other in
          let there = moved tracks.header bank tracks.records held tracks.store tracks.count synced_bytes (is_ready tracks) in
          let here = subst (λ (those : List ℕ). IsThere tracks.header bank tracks.records held tracks.store tracks.count synced_bytes (is_ready tracks) those) (sym is) there in
          record { sure = wrote_it.sure; stood = here.stood; store = here.store })
          c.write_selector.ensures.done;
      cause = grind arith;
      deeds = λ tracks.
          let home = homes_written bank held (length bank.newest) in
          let head = Wrote (bank_place (other bank.which) bank.bank_bytes) (head_bytes (bank_number bank)) in
          let end = G.deeds c.write_selector.new.outside in
          let result = c.write_selector.result in
          carries_on (G.deeds c.args.outside.now) (G.deeds c.write_home.new.outside) end home (turn_written bank) result (c.in_ok-write_home.ensures.deeds tracks)
          (carries_on (G.deeds c.write_home.new.outside) (G.deeds c.write_head.new.outside) end (head ∷ []) (Synced ∷ sure_deeds 128 (selector_of (other bank.which) ∷ [])) result (head_deeds g at.After-write_head whole c.in_ok-write_head.ensures.deeds)
          (carries_on (G.deeds c.write_head.new.outside) (G.deeds c.sync.new.self) end (Synced ∷ []) (sure_deeds 128 (selector_of (other bank.which) ∷ [])) result c.in_ok-sync.ensures.deeds
          (subst (λ (which : Which). Carries (G.deeds c.sync.new.self) end (sure_deeds 128 (selector_of which ∷ [])) result) c.requires.other c.write_selector.ensures.deeds)));
    }

pub write_selector-requires : goal.write_selector-requires
write_selector-requires g c = grind arith
