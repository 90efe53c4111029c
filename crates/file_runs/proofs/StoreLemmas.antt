-- From what the words on a store did on an outside to what they did on the file and the screen behind it.
use Rattle.std.specs.Prelude.{Bool}
use Rattle.file_runs.proofs.Common.{◌≡◌, ◌⊎◌, refl, ℕ, ◌<◌, List, [], length, ap, sym, ◌∙◌, subst, IsSome, Torn, held_of, Ghosts, Given, call, Status, IsNoStore, IsStored, Written, WrittenBy, Deed, AreBehind, LeavesLast, inl, inr, ⊎_elim, stands, IsFaultAt, printed_of, arith, AreTold, Option, Some, IsSure, FlatStore, Standing, Stands, FromAnyStore}
use Rattle.outside.specs.Runs.{OnlyOpens}
use Rattle.outside.specs.Deeds.{IsCut}
use Rattle.outside.proofs.DeedLemmas.{did_since}
use Rattle.store_calls.specs.New.{image_deeds}
use Rattle.call_status.specs.declared.status.Status.TheVariants as status
use Rattle.store_calls.specs.Renewed.{IsRenewed, Renewed}
use Rattle.file_runs.specs.FileMade.{RenewedOnFile, WritesBy, WroteWidened, WrittenOnFile}
use Rattle.file_runs.proofs.FileLemmas.{followed_asks, stopped_asks, handed, held_is, leaves_always, nothing, only_asked, only_read, since_none, sure_last, told, unprinted, keeps, unput, leaves_at, printed_so, stands_at, sure_now}
use Rattle.store_calls.specs.Show.{HasNoRange, HasRange, PrintsRows, RangeShown}
use Rattle.store_calls.specs.declared.show.Range.{Range}
use Rattle.standby.specs.ShipCalled.{IsNotKept, PutsText, ShippedFrom}
use Rattle.file_runs.specs.FileShown.{HandsRecords, HandsRows, HasNoSuch, KeepsTooFew, FileShipsBy, ShippedOnFile, ShownOnFile, ShowsBy}
use Rattle.store_format.proofs.Sound.{stood_header}
use Rattle.standby.specs.Followed.{IsAtNumber, followed_text, kept_text, well}
use Rattle.standby.specs.State.{due}
use Rattle.standby.specs.Text.{ShipContent, later}
use Rattle.standby.proofs.TellLemmas.{at_some}
use Rattle.standby.specs.FollowCalled.{EndsOn, FollowedFrom, FollowsOn, IsDue, IsUncommitted, OnStore}
use Rattle.file_runs.specs.FileFollowed.{EndsAt, FollowedOnFile, FollowedText, FollowsBy, IsAfter, IsDueAt}

module _ {W : Type 0} (G : Ghosts W) (before after : W) (first : List ℕ) (deeds puts : List Deed) (starved : Bool) (behind : AreBehind G before after first deeds puts starved) where
  has_told : IsSome (G.held before)
  has_told = told G before after first puts behind.screen

  same : held_of G before ≡ first
  same = held_is G before after first puts behind.screen

  module _ (image line : List ℕ) where
    empty : IsStored G image before after → first ≡ []
    empty its = sym same ∙ its.empty has_told

    stored : IsStored G image before after → LeavesLast first deeds (λ left. left ≡ image)
    stored its = sure_last G before after first deeds puts starved behind image (its.held has_told) (its.sure behind.screen.honest has_told)

    put_down : IsStored G image before after → deeds ≡ image_deeds image
    put_down its =
        let plan = image_deeds image in
        since_none G before after first deeds puts starved behind (λ done. done ≡ plan) (did_since (λ done. done ≡ plan) (G.deeds before) (G.deeds after) plan its.deeds refl)

    writes_by : (end : Status) → WrittenBy G image line before after end → WritesBy image line first deeds puts end
    writes_by status.Done did = (empty did.0, put_down did.0, stored did.0, handed G before after first puts behind.screen line status.Done did.1)
    writes_by status.PutFault did = (empty did.0, put_down did.0, stored did.0, handed G before after first puts behind.screen line status.PutFault did.1)
    writes_by status.DiskFault did = (unprinted G before after first puts behind.screen did.0, since_none G before after first deeds puts starved behind (IsCut (image_deeds image)) did.2)
    writes_by status.Exists did = (subst (λ (bytes : List ℕ). 0 < length bytes) same (did.1 has_told), only_read G before after first deeds puts starved behind did.0)
    writes_by status.NoMemory did = only_read G before after first deeds puts starved behind did
    writes_by _ did = did

    pub write_on_file : (order : List (ℕ × ℕ)) (end : Status) → Written G image line (call before after order end) → WrittenOnFile image line first deeds puts end
    write_on_file order end did = record {
      whole = λ none. leaves_always G before after first deeds puts starved behind (λ left. IsNoStore left ⊎ (left ≡ image)) (did.whole behind.screen.honest has_told (λ left seen was. behind.screen.left left seen was ∙ none));
      torn = leaves_always G before after first deeds puts starved behind (λ left. Torn 0 (length image) first left) (λ left seen was.
          let its = did.crash behind.screen.honest has_told left seen was in
          subst (λ (start : List ℕ). Torn 0 (length image) start left) (behind.screen.left its.0 its.1 its.2) its.3);
      full = λ some. only_read G before after first deeds puts starved behind (did.full has_told (subst (λ (bytes : List ℕ). 0 < length bytes) (sym same) some));
      by_end = writes_by end did.by_status;
    }

  module _ (bank : ℕ) (given : Given) (order : List (ℕ × ℕ)) where
    widened : (end : Status) → IsRenewed G bank given (call before after order end) → WroteWidened bank given first deeds puts end
    widened end did = record {
      text = did.text;
      whole = did.whole;
      number = did.number;
      store = did.store;
      stood = did.stood;
      stands = did.stands;
      written = write_on_file _ _ order end did.written;
    }

    pub renew_on_file : (end : Status) → Renewed G bank given (call before after order end) → RenewedOnFile bank given first deeds puts end
    renew_on_file status.SourceFault did = let none = nothing G before after first deeds puts starved behind did.by_status.0 in (none, did.by_status.1)
    renew_on_file status.TooBig did = let none = nothing G before after first deeds puts starved behind did.by_status.0 in (none, did.by_status.1)
    renew_on_file (status.Store offset) did = let none = nothing G before after first deeds puts starved behind did.by_status.0 in (none, did.by_status.1)
    renew_on_file status.NoMemory did = only_read G before after first deeds puts starved behind did.by_status
    renew_on_file end did = widened end did.by_status

  none : G.printed after ≡ G.printed before → printed_of puts ≡ []
  none = unprinted G before after first puts behind.screen

  no_put : (G.moment after).puts ≡ (G.moment before).puts → puts ≡ []
  no_put = unput G before after first puts behind.screen

  fault : (offset : ℕ) → (IsSome (G.held before) → IsFaultAt (held_of G before) offset) → IsFaultAt first offset
  fault offset is = subst (λ (bytes : List ℕ). IsFaultAt bytes offset) same (is has_told)

  module _ (range : Range) where
    rows : (end : Status) → HasRange G range before → PrintsRows G range before after end → HandsRows range first puts end
    rows end has prints =
        let its = has has_told in
        record {
          number = its.0;
          store = its.1;
          stood = sym (ap stands same) ∙ its.2;
          inside = its.3;
          handed = handed G before after first puts behind.screen _ end (prints has_told its.0 its.1 its.2);
        }

    no_such : HasNoRange G range before → HasNoSuch range first
    no_such has = let its = has has_told in (its.0, its.1, sym (ap stands same) ∙ its.2, its.3)

    shows_by : (order : List (ℕ × ℕ)) (end : Status) → RangeShown G range (call before after order end) → ShowsBy range first puts end
    shows_by order status.Done did = rows status.Done did.by_status.0 did.by_status.1
    shows_by order status.PutFault did = rows status.PutFault did.by_status.0 did.by_status.1
    shows_by order status.DiskFault did = ⊎_elim (λ unchanged. inl (none unchanged)) (λ has. inr (rows status.DiskFault has did.by_status.0)) did.by_status.1
    shows_by order status.NoRange did = (no_put did.by_status.0.calls.puts, no_such did.by_status.1)
    shows_by order (status.Store offset) did = (no_put did.by_status.0.calls.puts, fault offset did.by_status.1)
    shows_by order status.NoMemory did = no_put did.by_status.calls.puts
    shows_by order _ did = did.by_status

    pub show_on_file : (order : List (ℕ × ℕ)) (end : Status) → RangeShown G range (call before after order end) → ShownOnFile range first deeds puts end
    show_on_file order end did = record { keeps = keeps G before after first deeds puts starved behind did.only; shows = shows_by order end did }

  module _ (from : ℕ) where
    records : (end : Status) → (IsSome (G.held before) → PutsText G from before after end) → HandsRecords from first puts end
    records end has =
        let its = has has_told in
        let there : HandsRecords from (held_of G before) puts end = record {
          store = its.store;
          shows = its.shows;
          kept = its.kept;
          handed = handed G before after first puts behind.screen _ end its.printed;
          content = its.content;
        } in
        subst (λ (bytes : List ℕ). HandsRecords from bytes puts end) same there

    too_few : (base number : ℕ) → (IsSome (G.held before) → IsNotKept G from before base number) → KeepsTooFew from first base number
    too_few base number has =
        let its = has has_told in
        let there : KeepsTooFew from (held_of G before) base number = record { store = its.store; shows = its.shows; base_is = its.base_is; number_is = its.number_is; few = its.behind_all } in
        subst (λ (bytes : List ℕ). KeepsTooFew from bytes base number) same there

    ships_by : (order : List (ℕ × ℕ)) (end : Status) → ShippedFrom G from (call before after order end) → FileShipsBy from first puts end
    ships_by order status.Done did = records status.Done did.by_status
    ships_by order status.PutFault did = records status.PutFault did.by_status
    ships_by order status.DiskFault did = ⊎_elim (λ unchanged. inl (none unchanged)) (λ has. inr (records status.DiskFault has)) did.by_status
    ships_by order (status.NotKept base number) did = (no_put did.by_status.0.calls.puts, too_few base number did.by_status.1)
    ships_by order (status.Store offset) did = (no_put did.by_status.0.calls.puts, fault offset did.by_status.1)
    ships_by order status.NoMemory did = no_put did.by_status.calls.puts
    ships_by order _ did = did.by_status

    pub ship_on_file : (order : List (ℕ × ℕ)) (end : Status) → ShippedFrom G from (call before after order end) → ShippedOnFile from first deeds puts end
    ship_on_file order end did = record { keeps = keeps G before after first deeds puts starved behind did.only; ships = ships_by order end did }

  -- what the bytes that are sure stand for, all that the deeds leave stands for
  stand_last : (stood : Standing) → IsSure G after → stands (held_of G after) ≡ stood → LeavesLast first deeds (λ image. stands image ≡ stood)
  stand_last stood sure are left is_left = ap stands (sure_now G before after first deeds puts starved behind sure left is_left) ∙ are

  module _ (content : ShipContent) where
    -- the bytes that the file gave stand for the start
    at_start : (number : ℕ) (store : FlatStore) (image : List ℕ) → stands first ≡ Stands number store → image ≡ first → IsAfter content number store 0 image
    at_start number store image stood is =
        let few = (stood_header first number store stood).2 in
        let number_is : later number 0 ≡ number = omega (arith, few) in
        ap stands is ∙ stood ∙ ap (λ (n : ℕ). Stands n store) (sym number_is)

    ends_at : (number : ℕ) (store : FlatStore) (end : Status) → stands first ≡ Stands number store → EndsOn G content number store before after end → EndsAt content number store first deeds puts end
    ends_at number store status.Done stood did = (followed_asks G before after first deeds puts starved behind (length (due content number)) did.5, stand_last _ did.1 did.2, did.3)
    ends_at number store status.PutFault stood did = (did.0, did.1, followed_asks G before after first deeds puts starved behind did.0 did.4, stand_last _ did.2 did.3)
    ends_at number store status.DiskFault stood (inl did) =
        let is : Some (printed_of puts) ≡ Some (kept_text number did.0.count) = printed_so G before after first puts behind.screen (kept_text number did.0.count) well did.0.printed in
        (did.0.count, cc, stopped_asks G before after first deeds puts starved behind did.0.count did.2, λ left is_left. let its = behind.now left is_left in did.0.left left its.0 its.1)
    ends_at number store status.DiskFault stood (inr asks) =
        let asked = only_asked G before after first deeds puts starved behind asks in
        (0, ap printed_of asked.unput, inr (refl, asked.keeps.asked), λ left is_left. (0, omega arith, omega arith, at_start number store left stood (asked.keeps.kept (length deeds) left (omega arith) is_left)))
    ends_at number store _ stood did = tt

    follows_on : (end : Status) → FollowsOn G content before after end → FromAnyStore first (λ number store. FollowedText content number store first deeds puts end)
    follows_on end did number store stood =
        let its = did number store (stands_at G before after first puts behind.screen number store stood) in
        let records = due content number in
        record {
          crash = leaves_at G before after first deeds puts starved behind (IsAtNumber content.line_bytes number store records (Some [])) (λ image seen was.
              ⊎_elim
              (λ of_start. at_some content.line_bytes number store records (Some []) 0 image seen (omega arith) (at_start number store image stood (behind.screen.left image seen of_start.0))
              (subst (λ (those : Option (List ℕ)). AreTold those seen) behind.screen.none of_start.1))
              (λ at. subst (λ (those : Option (List ℕ)). IsAtNumber content.line_bytes number store records those image seen) behind.screen.none at)
              (its.crash image seen was));
          handed = handed G before after first puts behind.screen (followed_text number (length (due content number))) end its.printed;
          ends = ends_at number store end stood its.ends;
        }

    is_due : (end : Status) → (IsSome (G.held before) → IsDue G content before end) → IsDueAt content first end
    is_due end has =
        let its = has has_told in
        let there : IsDueAt content (held_of G before) end = record { store = its.store; shows = its.shows; due_on = its.due_on } in
        subst (λ (bytes : List ℕ). IsDueAt content bytes end) same there

    follows_by : (end : Status) → (IsUncommitted end → OnlyOpens G before after) → OnStore G content before after end → FollowsBy content first deeds puts end
    follows_by status.Done refused did = (is_due status.Done did.0, follows_on status.Done did.1)
    follows_by status.PutFault refused did = (is_due status.PutFault did.0, follows_on status.PutFault did.1)
    follows_by status.DiskFault refused did =
        (⊎_elim (λ asks. inl (only_asked G before after first deeds puts starved behind asks)) (λ has. inr (is_due status.DiskFault has)) did.0, follows_on status.DiskFault did.1)
    follows_by (status.Stream place kind) refused did = (only_asked G before after first deeds puts starved behind (refused tt), did.0, is_due (status.Stream place kind) did.1)
    follows_by (status.NotKept start last) refused did = (only_asked G before after first deeds puts starved behind (refused tt), is_due (status.NotKept start last) did)
    follows_by (status.Store offset) refused did = (only_asked G before after first deeds puts starved behind (refused tt), subst (λ (bytes : List ℕ). IsFaultAt bytes offset) same (did has_told))
    follows_by status.NoMemory refused did = only_asked G before after first deeds puts starved behind (refused tt)
    follows_by _ refused did = did

  pub follow_on_file : (given : Given) (order : List (ℕ × ℕ)) (end : Status) → FollowedFrom G given (call before after order end) → FollowedOnFile given first deeds puts end
  follow_on_file given order end did =
      ⊎_elim
      (λ none. let asked = nothing G before after first deeds puts starved behind none.0 in inl (asked, none.1))
      (λ has. inr (has.0, has.1, follows_by has.0 end did.refused has.2))
      did.by_status

-- `renew` hands back the disk that was lent
pub renew_origin : {W : Type 0} (G : Ghosts W) (before after : W) (bank : ℕ) (given : Given) (order : List (ℕ × ℕ)) (end : Status) → Renewed G bank given (call before after order end)
    → (G.moment after).origin ≡ (G.moment before).origin
renew_origin {W} G before after bank given order status.SourceFault did = ap (λ (w : W). (G.moment w).origin) did.by_status.0
renew_origin {W} G before after bank given order status.TooBig did = ap (λ (w : W). (G.moment w).origin) did.by_status.0
renew_origin {W} G before after bank given order (status.Store offset) did = ap (λ (w : W). (G.moment w).origin) did.by_status.0
renew_origin G before after bank given order status.NoMemory did = did.by_status.calls.time.later.origin
renew_origin G before after bank given order _ did = did.by_status.written.time.later.origin
