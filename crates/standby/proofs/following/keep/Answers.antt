use Rattle.standby.proofs.Common.{rules}
use Rattle.standby.proofs.Lemmas.{arith, common_steps, ◌≡◌, ◌∙◌, ap, inl, inr, subst, sym, ⊎_elim, Err, line_bytes, FlatStore, Stands, stands, Leaves, held_of, IsEither, BankView, StoreView, store_number, TracksStore, Steps, put_result, kept_line, next, record_of, DiskFault, with_record, goes_on, goes_puts, goes_writes, either_begun, more_begun, on_ok, sized, step_kept, step_unkept, tracks_begun}
use Rattle.outside.proofs.DeedLemmas.{since_as}
use Rattle.standby.proofs.Common.{◌⊎◌, FailedAsks, Header, Since, take}
use Rattle.store.proofs.AskedLemmas.{commit_shown}
use Rattle.store.specs.Exact.{KeptAsks}
use Rattle.store_format.specs.Header.{header_of}
use Rattle.store.specs.Appended.{CountsKept}
use Rattle.store.specs.declared.keep.Kept.{Kept}
use Rattle.store.specs.declared.keep.Kept.TheVariants.{Done, Unwritten, Doubt}
use Rattle.store.specs.Committed.{IsKeptAfter, number_by_answer, roomy}
use Rattle.standby.proofs.following.keep.Given.{Over}
use Rattle.standby.proofs.following.keep.Goals as goal
use Rattle.standby.proofs.following.keep.Goals.{After-commit}

-- the record that is begun is tracked
tracked : (g : Over) (c : goal.After-commit g) → TracksStore g.W.Outside c.args.durable.now c.args.outside.now → TracksStore g.W.Outside c.begin.new.durable c.args.outside.now
tracked g c tracks = tracks_begun g.W.Outside c.args.durable.now c.begin.new.durable c.begin.ensures.begun c.args.outside.now c.begin.ensures.now_is tracks

-- and a crash in its commit leaves the store before it or behind it
either : (g : Over) (c : goal.After-commit g) → TracksStore g.W.Outside c.args.durable.now c.args.outside.now → Leaves g.W.Outside (IsEither c.begin.ensures.begun (held_of g.W.Outside c.args.outside.now)) c.args.outside.now c.commit.new.outside
either g c tracks =
    either_begun g.W.Outside c.args.durable.now c.begin.new.durable c.begin.ensures.begun (held_of g.W.Outside c.args.outside.now) c.args.outside.now c.commit.new.outside c.begin.ensures.now_is (c.commit.ensures.crash (tracked g c tracks))

-- what it asked, by the bytes
asked : (g : Over) (c : goal.After-commit g) (kept : Kept) → c.commit.result ≡ kept → TracksStore g.W.Outside c.args.durable.now c.args.outside.now
    → Since (g.W.Outside.deeds c.args.outside.now) (g.W.Outside.deeds c.commit.new.outside) (KeptAsks (header_of (take 128 (held_of g.W.Outside c.args.outside.now))) (held_of g.W.Outside c.args.outside.now) kept)
asked g c kept is tracks =
    let G = g.W.Outside in let before = c.args.outside.now in let after = c.commit.new.outside in let held = held_of G before in
    let begun = tracked g c tracks in
    subst (λ (answer : Kept). Since (G.deeds before) (G.deeds after) (KeptAsks (header_of (take 128 held)) held answer)) is
    (subst (λ (header : Header). Since (G.deeds before) (G.deeds after) (KeptAsks header held c.commit.result)) (sym begun.shows.header.said)
    (commit_shown held c.begin.new.durable begun.shows (G.deeds before) (G.deeds after) c.commit.result (c.commit.ensures.deeds begun)))

failed : (g : Over) (c : goal.After-commit g) → (c.commit.result ≡ Unwritten) ⊎ (c.commit.result ≡ Doubt) → TracksStore g.W.Outside c.args.durable.now c.args.outside.now
    → Since (g.W.Outside.deeds c.args.outside.now) (g.W.Outside.deeds c.commit.new.outside) (FailedAsks (held_of g.W.Outside c.args.outside.now))
failed g c why tracks =
    let G = g.W.Outside in let held = held_of G c.args.outside.now in let header = header_of (take 128 held) in
    ⊎_elim
    (λ is. since_as (KeptAsks header held Unwritten) (FailedAsks held) (G.deeds c.args.outside.now) (G.deeds c.commit.new.outside) (asked g c Unwritten is tracks) (λ done so. inl so))
    (λ is. since_as (KeptAsks header held Doubt) (FailedAsks held) (G.deeds c.args.outside.now) (G.deeds c.commit.new.outside) (asked g c Doubt is tracks) (λ done so. inr so))
    why

unkept : (g : Over) (c : goal.After-commit g) → (c.commit.result ≡ Unwritten) ⊎ (c.commit.result ≡ Doubt) → (store : FlatStore) → TracksStore g.W.Outside c.args.durable.now c.args.outside.now → stands (held_of g.W.Outside c.args.outside.now) ≡ Stands (store_number c.args.durable.now) store
    → Steps g.W.Outside (line_bytes c.args.durable.now.header.directory.page) (store_number c.args.durable.now) store (record_of (line_bytes c.args.durable.now.header.directory.page) c.args.sent.now) c.commit.new.self c.args.outside.now c.commit.new.outside (Err DiskFault)
unkept g c why store tracks stood =
    step_unkept g.W.Outside g.met.W.Outside.fewer_later g.met.W.Outside.printed_now (store_number c.args.durable.now) (line_bytes c.args.durable.now.header.directory.page) store (record_of (line_bytes c.args.durable.now.header.directory.page) c.args.sent.now) c.begin.ensures.begun c.args.outside.now c.commit.new.outside
    (sized (held_of g.W.Outside c.args.outside.now) c.args.durable.now (store_number c.args.durable.now) store tracks.shows stood) c.begin.ensures.lines_are stood c.commit.ensures.only.calls (either g c tracks) (failed g c why tracks) c.commit.new.self

-- the disk's count by the answer
counted : (g : Over) (c : goal.After-commit g) (kept : Kept) → c.commit.result ≡ kept → CountsKept g.W.Outside c.args.outside.now c.commit.new.outside kept
counted g c kept is = subst (CountsKept g.W.Outside c.args.outside.now c.commit.new.outside) is c.commit.ensures.counted

pub returns-in-Unwritten : goal.returns-in-Unwritten
returns-in-Unwritten g c =
    let at = (goal.at.returns-in-Unwritten g c).After-commit in
    grind (arith, goes_writes g.W.Outside c.args.outside.now c.commit.new.outside c.commit.ensures.only, counted g at Unwritten, counted g at Doubt, c.in-Unwritten.is, c.commit.ensures.only.calls.put, c.commit.ensures.header, c.begin.ensures.now_is, unkept g at c.in-Unwritten.is)

pub commit-requires : goal.commit-requires
commit-requires g c = grind (arith, common_steps, ap (λ (store : StoreView). store.bank.spoiled) c.begin.ensures.now_is ∙ c.requires.store.usable)

pub returns : goal.returns
returns g c = record {
  number = search rules;
  goes = grind (
    arith,
    goes_on g.W.Outside g.met.W.Outside.fewer_later c.args.outside.now c.commit.new.outside c.put_line.new.outside (goes_writes g.W.Outside c.args.outside.now c.commit.new.outside c.commit.ensures.only)
        (goes_puts g.W.Outside c.as_slice.result.now c.commit.new.outside c.put_line.new.outside (put_result c.put_line.result) c.put_line.ensures.puts),
  );
  usable = on_ok c.put_line.result (c.commit.ensures.usable c.in-Done.is);
  kept =
      on_ok c.put_line.result
      (subst (λ (kept : Kept). IsKeptAfter kept (roomy c.begin.new.durable.bank) c.begin.new.durable.bank c.commit.new.self.bank) c.in-Done.is c.commit.ensures.kept ∙ ap (λ (bank : BankView). with_record (roomy bank)) c.begin.ensures.bank_is);
  steps = λ store tracks stood.
      let at = (goal.at.returns g c).After-commit in
      let done = c.commit.ensures.done c.in-Done.is (tracked g at tracks) in
      let number : c.number.result ≡ next (store_number c.args.durable.now) = c.number.ensures ∙ c.commit.ensures.number ∙ ap (λ (kept : Kept). number_by_answer kept (store_number c.begin.new.durable)) c.in-Done.is ∙ ap (λ (store : StoreView). next (store_number store)) c.begin.ensures.now_is in
      step_kept g.W.Outside g.met.W.Outside.fewer_later g.met.W.Outside.printed_now (store_number c.args.durable.now) (line_bytes c.args.durable.now.header.directory.page) store (record_of (line_bytes c.args.durable.now.header.directory.page) c.args.sent.now) c.begin.ensures.begun c.args.outside.now c.commit.new.outside
      (sized (held_of g.W.Outside c.args.outside.now) c.args.durable.now (store_number c.args.durable.now) store tracks.shows stood) c.begin.ensures.lines_are stood c.commit.ensures.only.calls (either g at tracks) (asked g at Done c.in-Done.is tracks) c.commit.new.self c.put_line.new.outside c.as_slice.result.now c.put_line.result done.tracks
      (more_begun c.args.durable.now c.begin.new.durable c.begin.ensures.begun (stands (held_of g.W.Outside c.args.outside.now)) (stands (held_of g.W.Outside c.commit.new.outside)) c.begin.ensures.now_is done.stood)
      (c.as_slice.ensures ∙ c.fill_kept.ensures ∙ ap kept_line number) c.put_line.ensures.only c.put_line.ensures.puts;
}
