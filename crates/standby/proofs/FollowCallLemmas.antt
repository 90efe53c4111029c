-- A call over an opening that follows a text.
use Rattle.standby.proofs.Common.{OpenedFor, RecordsAsked, RecordsStopped, SyncedOnce, nat_tests, ◌≡◌, inl, inr, ℕ, ◌+◌, ◌-◌, ◌^◌, ◌<◌, ◌≤◌, List, [], ◌++◌, length, refl, sym, ◌∙◌, ap, subst, arith, IsSome, IsTrue, ◌⊎◌, Option, Result, unwrap_or, take_all, length-drop, Ghosts, Prints, FewerLater, Leaves, OnlyOpens, held_of, leaves_on, OpenFault, IsStoreOpenFault, StoreView, store_number, Shows, TracksStore, IsTextNumber, behind, due, laid_by, ShipContent, ShipLine, later, call, status_of_open, Status, FlatStore, Elapses, prints_on, prints_same, prints_unput, BankView, shown_stands, bank_behind, Follows, IsAtNumber, broken, followed_text, kept_text, well, Followed, Stands, stands, Done, DiskFault, PutFault}
use Rattle.standby.proofs.PutLemmas.{PrintedNow}
use Rattle.store_format.proofs.Sound.{stood_header}
use Rattle.standby.proofs.TellLemmas.{told_front}
use Rattle.call_status.specs.Opening.{IsOfStart, TellsStore}
use Rattle.standby.specs.FollowCalled.{FollowsOn, HasFollowed, OnStore}
use Rattle.store.specs.declared.open_fault.OpenFault.TheVariants as open_fault
use Rattle.call_status.specs.declared.status.Status.TheVariants as status

-- the lines of some of the records
prints_some : (old new : Option (List ℕ)) (number count all : ℕ) → count < all → Prints old new (kept_text number count) well → Prints old new (followed_text number all) broken
prints_some old new number count all lt prints =
    let front = told_front number count all (omega (arith, lt)) in
    prints_same old new (kept_text number count ++ front.0) (followed_text number all) broken (sym front.1)
    (prints_on old new new (kept_text number count) front.0 tt broken prints (prints_unput new new front.0 broken refl refl))

-- the last number of what is due is the text's
last_is : (content : ShipContent) (number : ℕ) → content.start < 2 ^ 64 → number < 2 ^ 64 → IsTextNumber content number → later number (length (due content number)) ≡ later content.start (length content.records)
last_is content number start few among =
    let long = length-drop (behind content.start number) content.records in
    ap (later number) long ∙ moved content.start number (length content.records) start few among
  where
    moved : (start number all : ℕ) → start < 2 ^ 64 → number < 2 ^ 64 → behind start number ≤ all → later number (all - behind start number) ≡ later start all
    moved start number all less few le = omega (arith, less, few, le)

module _ {W : Type 0} (G : Ghosts W) (fewer_later : FewerLater G) (printed_now : PrintedNow G) (content : ShipContent) (before mid : W) (asks : OnlyOpens G before mid) where
  -- a crash in the opening leaves an image of the start
  opening_crash : IsSome (G.held before) → Leaves G (IsOfStart G before) before mid
  opening_crash told image seen left = let since = asks.crash told image seen left in (since, printed_now before image seen since)

  -- the disk failed in the opening
  unopened : FollowsOn G content before mid status.DiskFault
  unopened number store at = record {
    crash = λ image seen left. inl (opening_crash at.told image seen left);
    printed = prints_unput (G.printed before) (G.printed mid) (followed_text number (length (due content number))) broken refl asks.calls.quiet.same;
    ends = inr asks;
  }

  -- the store isn't opened
  pub not_opened : (fault : OpenFault) (now : Status) → now ≡ status_of_open fault → IsStoreOpenFault G before mid fault → OnStore G content before mid now
  not_opened fault now is why = subst (OnStore G content before mid) (sym is) (by fault why)
    where
      by : (fault : OpenFault) → IsStoreOpenFault G before mid fault → OnStore G content before mid (status_of_open fault)
      by open_fault.DiskFault why = (inl asks, unopened)
      by _ why = grind (arith, nat_tests)

  module _ (durable kept : StoreView) (shows : IsSome (G.held before) → Shows (held_of G before) durable) (tracks : IsTrue (G.is_honest before) → IsSome (G.held before) → TracksStore G durable mid)
      (opened : SyncedOnce (G.deeds before) (G.deeds mid)) (after : W) (time : Elapses G.moment G.left_since mid after) where
    -- what was asked behind the opening
    opened_for : (Asked : W → W → Type 0) → Asked mid after → OpenedFor G Asked before after
    opened_for Asked asked = (mid, asks.calls.time.later, opened, asks.held, asked)

    -- what was followed from the opened store
    abbrev Goes : Followed → Type 0
    Goes how = (store : FlatStore) → TracksStore G durable mid → stands (held_of G mid) ≡ Stands (store_number durable) store → Follows G content.line_bytes (store_number durable) store (due content (store_number durable)) kept mid after how

    number_is : (number : ℕ) (store : FlatStore) → TellsStore G before number store → number ≡ store_number durable
    number_is number store at = grind (arith, nat_tests, at.stood, shown_stands (held_of G before) durable (shows at.told))

    -- of the number that stood
    from_number : (now : Status) → ((store : FlatStore) → TellsStore G before (store_number durable) store → HasFollowed G content (store_number durable) store (call before after [] now)) → FollowsOn G content before after now
    from_number now has number store at =
        let same = number_is number store at in
        subst (λ (n : ℕ). HasFollowed G content n store (call before after [] now)) (sym same) (has store (subst (λ (n : ℕ). TellsStore G before n store) same at))

    goes_from : (how : Followed) → Goes how → (store : FlatStore) → TellsStore G before (store_number durable) store → Follows G content.line_bytes (store_number durable) store (due content (store_number durable)) kept mid after how
    goes_from how goes store at =
        let same : held_of G mid ≡ held_of G before = ap (λ (these : Option (List ℕ)). unwrap_or these []) asks.held in
        goes store (tracks at.honest at.told) (ap stands same ∙ at.stood)

    -- a crash since the opening began
    crash_since : (how : Followed) → Goes how → (store : FlatStore) → TellsStore G before (store_number durable) store
        → Leaves G (λ image seen. IsOfStart G before image seen ⊎ IsAtNumber content.line_bytes (store_number durable) store (due content (store_number durable)) (G.printed before) image seen) before after
    crash_since how goes store at =
        let printed : G.printed mid ≡ G.printed before = asks.calls.quiet.same in
        leaves_on G fewer_later before mid after asks.calls.time time
        (λ image seen. IsOfStart G before image seen ⊎ IsAtNumber content.line_bytes (store_number durable) store (due content (store_number durable)) (G.printed before) image seen)
        (λ image seen left. inl (opening_crash at.told image seen left))
        (λ image seen left.
        inr (subst (λ (these : Option (List ℕ)). IsAtNumber content.line_bytes (store_number durable) store (due content (store_number durable)) these image seen) printed
        ((goes_from how goes store at).crash image seen left)))

    -- the puts of the call are those behind the opening
    printed_since : (bytes : List ℕ) (result : Result (Unit {0}) _) → Prints (G.printed mid) (G.printed after) bytes result → Prints (G.printed before) (G.printed after) bytes result
    printed_since bytes result prints = subst (λ (these : Option (List ℕ)). Prints these (G.printed after) bytes result) asks.calls.quiet.same prints

    -- the store that is kept, by its header and its bank
    kept_is : kept.header ≡ durable.header → (bank : BankView) → kept.bank ≡ bank → kept ≡ record durable { bank = bank }
    kept_is header_is bank bank_is = grind (arith, nat_tests)

    pub followed_done : content.start < 2 ^ 64 → IsTextNumber content (store_number durable) → kept.header ≡ durable.header → kept.bank ≡ bank_behind durable.bank (due content (store_number durable)) → Goes Done → FollowsOn G content before after status.Done
    followed_done start among header_is bank_is goes = from_number status.Done (λ store at.
        let follows = goes_from Done goes store at in let number = store_number durable in
        let records = due content (store_number durable) in
        record {
          crash = crash_since Done goes store at;
          printed = printed_since (followed_text number (length records)) well follows.ends.1;
          ends = (
            λ some. follows.ends.2 (subst (λ (these : Option (List ℕ)). IsSome these) (sym asks.calls.quiet.same) some) ∙ ap (λ (n : ℕ). n + (length records + 1)) asks.calls.puts,
            follows.ends.0.tracks.sure,
            follows.ends.0.stood
                ∙ ap (λ (these : List (List ShipLine)). Stands (later number (length records)) (laid_by content.line_bytes store these)) (sym (take_all (length records) records (omega arith))),
            last_is content number start (stood_header (held_of G before) number store at.stood).2 among,
            record { store = durable; was = shows at.told; now = subst (λ (store : StoreView). Shows (held_of G after) store) (kept_is header_is (bank_behind durable.bank records) bank_is) follows.ends.0.tracks.shows },
            opened_for (RecordsAsked G (length records)) follows.ends.3,
          );
        })

    pub followed_put : Goes PutFault → FollowsOn G content before after status.PutFault
    followed_put goes = from_number status.PutFault (λ store at.
        let follows = goes_from PutFault goes store at in
        record {
          crash = crash_since PutFault goes store at;
          printed = printed_since (followed_text (store_number durable) (length (due content (store_number durable)))) broken follows.ends.1;
          ends = (follows.ends.0.count, follows.ends.0.few, follows.ends.0.tracks.sure, follows.ends.0.stood, opened_for (RecordsAsked G follows.ends.0.count) follows.ends.2);
        })

    pub followed_disk : Goes DiskFault → FollowsOn G content before after status.DiskFault
    followed_disk goes = from_number status.DiskFault (λ store at.
        let stops = (goes_from DiskFault goes store at).ends in
        let told = printed_since (kept_text (store_number durable) stops.0.count) well stops.0.printed in
        record {
          crash = crash_since DiskFault goes store at;
          printed = prints_some (G.printed before) (G.printed after) (store_number durable) stops.0.count (length (due content (store_number durable))) stops.1 told;
          ends = inl (record { count = stops.0.count; printed = told; left = stops.0.left }, stops.1, opened_for (RecordsStopped G stops.0.count) stops.2);
        })
