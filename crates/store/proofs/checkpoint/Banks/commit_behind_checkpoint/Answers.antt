use Rattle.store.proofs.Lemmas.{◌≡◌, inl, inr, ⊎_elim, ℕ, List, [], sym, subst, ◌∙◌, ap, arith, Option, IfSome, Some, Header, RecordLine, stands, one_more, Leaves, held_of, leaves_on, BankView, begun_of, TracksBank, IsEither, HoldsOneOf, HoldsCommitted, IsSameBut, IsCommitOffset, needed_end, writes_on, other, emptied, CountsKept, FailedLeaves, bank_appended, kept_in, Kept, IsApart, but_on, adds_same, appended_apart, behind_apart, leaves_committed, answered_by, counts_on, either_same, failed_behind, kept_after, shape_on, two_more, nil_from_length, refl, KeepsRecord}
use Rattle.store.proofs.checkpoint.Banks.commit_behind_checkpoint.Given.{Over}
use Rattle.store.proofs.checkpoint.Banks.commit_behind_checkpoint.Goals as goal
use Rattle.store.proofs.checkpoint.Banks.commit_behind_checkpoint.Goals.{After-checkpoint}

-- what stood stands while the checkpoint is made
stood : (g : Over) (c : goal.After-checkpoint g) → TracksBank g.W.Outside c.args.self.now c.args.outside.now → Leaves g.W.Outside (λ image seen. stands image ≡ stands (held_of g.W.Outside c.args.outside.now)) c.args.outside.now c.checkpoint.new.outside
stood g c tracks image seen left = (c.checkpoint.ensures.crash tracks image seen left).stood

pub returns-in-Err : goal.returns-in-Err
returns-in-Err g c =
    let at = (goal.at.returns-in-Err g c).After-checkpoint in
    record {
      only = c.checkpoint.ensures.only;
      shape = c.checkpoint.ensures.shape;
      kept = inr c.in-Err.ensures.kept;
      counted = c.in-Err.ensures.cause.failed;
      writes = λ is. cc;
      deeds = λ tracks. inr (refl, inr (refl, c.in-Err.ensures.deeds tracks));
      crash = λ tracks image seen left. inl (stood g at tracks image seen left);
      left = stood g at;
      records = λ tracks.
          let old = c.args.self.now in
          let before = held_of g.W.Outside c.args.outside.now in
          leaves_committed g.W.Outside g.met.W.Outside.fewer_later g.met.W.Outside.held_now c.args.outside.now c.checkpoint.new.outside c.checkpoint.ensures.only tracks.sure.told tracks.header (emptied old) old tracks.records
          (⊎_elim (λ here. inl (inl here)) (λ there. inr (inl there)) (c.checkpoint.ensures.held tracks).one_of)
          (λ image seen left. behind_apart tracks.header old tracks.records before image (c.checkpoint.ensures.crash tracks image seen left).apart);
      done = λ is. cc;
    }

pub returns-in-Ok : goal.returns-in-Ok
returns-in-Ok g c =
    let G = g.W.Outside in
    let at = (goal.at.returns-in-Ok g c).After-checkpoint in
    let old = c.args.self.now in
    let before = c.args.outside.now in
    let mid = c.checkpoint.new.outside in
    let after = c.append.new.outside in
    let bank = c.checkpoint.new.self in
    let turned : bank ≡ emptied old = c.in-Ok.ensures.kept in
    let kept = c.unwrap_or.result in
    let answered : c.kept.result ≡ Some kept = answered_by c.kept.result kept (λ none. let no = c.append.ensures.full.0 (c.kept.ensures.full none) in omega (arith, no, c.in-Ok.ensures.fits)) c.unwrap_or.ensures in
    let told : kept_in c.append.result ≡ Some kept = sym c.kept.ensures.value ∙ answered in
    let first = c.checkpoint.ensures.only in
    let later = c.append.ensures.only in
    record {
      only = writes_on G g.met.W.Outside.fewer_later before mid after first later;
      shape = shape_on old bank c.append.new.self c.checkpoint.ensures.shape c.append.ensures.shape;
      kept = kept_after kept (emptied old) old c.append.new.self (c.append.ensures.kept ∙ ap (λ (answer : Option Kept). bank_appended answer bank) told ∙ ap (bank_appended (Some kept)) turned);
      counted = counts_on G before mid after kept c.in-Ok.ensures.cause.done (subst (λ (answer : Option Kept). IfSome answer (CountsKept G mid after)) told c.append.ensures.counted);
      writes = λ is. two_more (G.writes before) (G.writes mid) (G.writes after) first.writes (c.append.ensures.writes (c.kept.ensures.done (answered ∙ ap Some is)));
      deeds = λ tracks.
          inr (refl, inl (G.deeds mid, c.in-Ok.ensures.deeds tracks, subst (λ (bank : BankView). KeepsRecord (G.deeds mid) (G.deeds after) bank kept) turned (subst (λ (answer : Option Kept). IfSome answer (KeepsRecord (G.deeds mid) (G.deeds after) bank)) told c.append.ensures.deeds)));
      crash = λ tracks.
          let made = c.in-Ok.ensures.done tracks in
          leaves_on G g.met.W.Outside.fewer_later before mid after first.calls.time later.calls.time (IsEither (begun_of old) (held_of G before))
          (λ image seen left. inl (stood g at tracks image seen left))
          (λ image seen left.
          either_same (other old.which) old (held_of G before) (held_of G mid) image seen made.stood
          (subst (λ (bank : BankView). IsEither (begun_of bank) (held_of G mid) image seen) turned (c.append.ensures.crash made.tracks image seen left)));
      left = λ tracks.
          let made = c.in-Ok.ensures.done tracks in
          failed_behind G g.met.W.Outside.fewer_later old bank before mid after first.calls.time later.calls.time turned made.stood (stood g at tracks) kept
          (subst (λ (answer : Option Kept). IfSome answer (FailedLeaves G bank bank mid after)) told (c.append.ensures.left made.tracks));
      records = λ tracks.
          let made = c.in-Ok.ensures.done tracks in
          let now = held_of G after in
          let header : made.tracks.header ≡ tracks.header = sym made.tracks.store.said ∙ made.header ∙ tracks.store.said in
          let none : made.tracks.records ≡ [] = nil_from_length made.tracks.records (made.tracks.count ∙ ap (λ (bank : BankView). bank.count) turned) in
          let held : HoldsCommitted tracks.header old tracks.records now =
          inr (subst (λ (those : Header). HoldsOneOf those (other old.which) (emptied old).base [] (begun_of (emptied old)) now) header
          (subst (λ (those : List (List RecordLine)). HoldsOneOf made.tracks.header (other old.which) (emptied old).base those (begun_of (emptied old)) now) none
          (subst (λ (bank : BankView). HoldsOneOf made.tracks.header bank.which bank.base made.tracks.records (begun_of bank) now) turned (c.append.ensures.records made.tracks)))) in
          let offsets = IsCommitOffset tracks.header (emptied old) old tracks.records in
          leaves_committed G g.met.W.Outside.fewer_later g.met.W.Outside.held_now before after (writes_on G g.met.W.Outside.fewer_later before mid after first later) tracks.sure.told tracks.header (emptied old) old tracks.records held
          (leaves_on G g.met.W.Outside.fewer_later before mid after first.calls.time later.calls.time (λ (image seen : List ℕ). IsSameBut offsets (held_of G before) image)
          (λ image seen left. behind_apart tracks.header old tracks.records (held_of G before) image (c.checkpoint.ensures.crash tracks image seen left).apart)
          (λ image seen left.
          but_on offsets (held_of G before) (held_of G mid) image (behind_apart tracks.header old tracks.records (held_of G before) (held_of G mid) (c.checkpoint.ensures.held tracks).apart)
          (appended_apart tracks.header (emptied old) old tracks.records (held_of G mid) image (subst (λ (that : BankView). IsApart that.gate (needed_end that) (held_of G mid) image) turned (c.append.ensures.apart made.tracks image seen left)))));
      done = λ is tracks.
          let made = c.in-Ok.ensures.done tracks in
          let added = c.append.ensures.done (c.kept.ensures.done (answered ∙ ap Some is)) made.tracks in
          record {
            tracks = added.tracks;
            stood = added.stood ∙ ap (λ (bank : BankView). one_more (begun_of bank) (stands (held_of G mid))) turned ∙ adds_same (other old.which) old (stands (held_of G mid)) (stands (held_of G before)) made.stood;
            header = added.header ∙ made.header;
          };
    }
