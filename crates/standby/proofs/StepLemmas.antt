-- One record that is kept and told.
use Rattle.standby.proofs.Common.{Deed, FailedAsks, Option, RecordAsks, Since, ◌≡◌, sym, ℕ, ◌*◌, List, [], ◌∷◌, refl, ◌∙◌, ap, subst, append-nil, IfSome_then, FlatStore, line_bytes, PageSize, RecordLine, Standing, Stands, stands, one_more, Failed, Ghosts, IsSure, CallsDisk, FewerLater, Leaves, held_of, begun_of, IsEither, StoreView, with_begun, Shows, TracksStore, PutsAtOnce, ship_laid, well, broken, IsLeftBetween, Steps, over, put_result, Followed, DiskFault, PutFault, ShipLine, next, kept_line, told, Result, Ok, Err, OnErr, OnOk, nat_tests, arith, shown_store, shows_begun}
use Rattle.lines.specs.Overlay.{overlaid}
use Rattle.store_format.proofs.Stores.{stands_is}
use Rattle.store_format.specs.Stands as format
use Rattle.standby.proofs.PutLemmas.{PrintedNow, quiet_is, image_is, sure_puts}

-- what is so is so where it went well
pub on_ok : {T E P : Type 0} (result : Result T E) → P → OnOk result P
on_ok result is = grind (arith, nat_tests)

-- the lines of a record lie over a store wherever they stand in the bank
told_laid : (page : PageSize) (bytes : List ℕ) (lines : List RecordLine) → format.laid page bytes lines ≡ ship_laid (line_bytes page) bytes (told lines)
told_laid page bytes [] = refl
told_laid page bytes (line ∷ lines) = told_laid page (overlaid bytes (line.line * line_bytes page) line.bytes) lines

-- what stands one record on
pub one_over : (begun : List RecordLine) (lines : List ShipLine) (standing : Standing) (number bytes : ℕ) (store : FlatStore) → bytes ≡ line_bytes store.directory.page → told begun ≡ lines → standing ≡ Stands number store → one_more begun standing ≡ Stands (next number) (over bytes store lines)
one_over begun lines standing number bytes store sized same is = grind (arith, nat_tests, told_laid, sized)

-- the lines of what stands are as long as those of the store that is shown
pub sized : (held : List ℕ) (kept : StoreView) (number : ℕ) (store : FlatStore) → Shows held kept → stands held ≡ Stands number store → line_bytes kept.header.directory.page ≡ line_bytes store.directory.page
sized held kept number store shows stood = grind (arith, nat_tests, stands_is held kept.header kept.bank.which kept.bank.base kept.bank.gate shows.read.records (shown_store held kept shows))

pub tracks_begun : {W : Type 0} (G : Ghosts W) (store now : StoreView) (lines : List RecordLine) (outside : W) → now ≡ with_begun store lines → TracksStore G store outside → TracksStore G now outside
tracks_begun G store now lines outside is tracks = grind (arith, tracks.sure, shows_begun store lines (held_of G outside) tracks.shows)

module _ {W : Type 0} (G : Ghosts W) (fewer_later : FewerLater G) (printed_now : PrintedNow G) (number bytes : ℕ) (store : FlatStore) (lines : List ShipLine) (begun : List RecordLine) (before mid : W)
    (sized : bytes ≡ line_bytes store.directory.page) (same : told begun ≡ lines) (stood : stands (held_of G before) ≡ Stands number store) (calls : CallsDisk G before mid) (either : Leaves G (IsEither begun (held_of G before)) before mid) where
  abbrev Left : List ℕ → List ℕ → Type 0
  Left image seen = IsLeftBetween bytes number store lines (G.printed before) image seen

  -- a crash while the disk is called
  pub in_disk : Leaves G Left before mid
  in_disk image seen left = grind (arith, nat_tests, quiet_is, one_over, sized, IfSome_then, append-nil)

  -- a crash while the line is put
  pub in_put : {T : Type 0} (after : W) (result : Result T Failed) → IsSure G mid → stands (held_of G mid) ≡ Stands (next number) (over bytes store lines) → PutsAtOnce G (kept_line (next number)) mid after result
      → Leaves G Left before after
  in_put after result sure more puts = grind (arith, nat_tests, in_disk, image_is)

  -- a put asks nothing of the disk
  since_put : (after : W) → G.deeds after ≡ G.deeds mid → Since (G.deeds before) (G.deeds mid) (RecordAsks (held_of G before)) → Since (G.deeds before) (G.deeds after) (RecordAsks (held_of G before))
  since_put after same = subst (λ (those : Option (List Deed)). Since (G.deeds before) those (RecordAsks (held_of G before))) (sym same)

  -- the disk failed
  pub step_unkept : Since (G.deeds before) (G.deeds mid) (FailedAsks (held_of G before)) → (durable : StoreView) → Steps G bytes number store lines durable before mid (Err DiskFault)
  step_unkept asked durable = record { crash = in_disk; ends = calls.quiet.same; deeds = asked }

  -- the record is kept, and its line is put or not
  pub step_kept : Since (G.deeds before) (G.deeds mid) (RecordAsks (held_of G before)) → (durable : StoreView) (after : W) (line : List ℕ) (result : Result (Unit {0}) Followed) → TracksStore G durable mid → stands (held_of G mid) ≡ one_more begun (stands (held_of G before)) → line ≡ kept_line (next number)
      → OnErr result (result ≡ Err PutFault) → PutsAtOnce G line mid after (put_result result) → Steps G bytes number store lines durable before after result
  step_kept asked durable after line (Ok done) tracks more is only puts =
      let kept = subst (λ (these : List ℕ). PutsAtOnce {T = Unit {0}} G these mid after well) is puts in
      let stands_more = more ∙ one_over begun lines (stands (held_of G before)) number bytes store sized same stood in
      let sure = sure_puts G printed_now fewer_later (kept_line (next number)) mid after well kept tracks.sure in
      grind (arith, nat_tests, in_put after well tracks.sure stands_more kept, sure, tracks.shows, stands_more, kept.printed, kept.once.done, calls.quiet.same, calls.puts, since_put after kept.only.deeds asked)
  step_kept asked durable after line (Err why) tracks more is only puts =
      let kept = subst (λ (these : List ℕ). PutsAtOnce {T = Unit {0}} G these mid after broken) is puts in
      let stands_more = more ∙ one_over begun lines (stands (held_of G before)) number bytes store sized same stood in
      let sure = sure_puts G printed_now fewer_later (kept_line (next number)) mid after broken kept tracks.sure in
      grind (arith, nat_tests, in_put after broken tracks.sure stands_more kept, sure, tracks.shows, stands_more, kept.printed, calls.quiet.same, only, since_put after kept.only.deeds asked)

-- what a commit may leave, by the record that is begun
pub either_begun : {W : Type 0} (G : Ghosts W) (store now : StoreView) (begun : List RecordLine) (held : List ℕ) (before mid : W) → now ≡ with_begun store begun → Leaves G (IsEither (begun_of now.bank) held) before mid → Leaves G (IsEither begun held) before mid
either_begun G store now begun held before mid is either = subst (λ (lines : List RecordLine). Leaves G (IsEither lines held) before mid) (ap (λ (that : StoreView). begun_of that.bank) is) either

pub more_begun : (store now : StoreView) (begun : List RecordLine) (standing stood : Standing) → now ≡ with_begun store begun → stood ≡ one_more (begun_of now.bank) standing → stood ≡ one_more begun standing
more_begun store now begun standing stood is more = more ∙ ap (λ (that : StoreView). one_more (begun_of that.bank) standing) is
