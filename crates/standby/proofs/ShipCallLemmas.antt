-- What shipping the records of a store did.
use Rattle.standby.proofs.Common.{◌≡◌, ◌⊎◌, ◌<◌, ◌≤◌, ℕ, List, [], inl, inr, ⊎_elim, refl, sym, ◌∙◌, ap, subst, Option, IsSome, IsTrue, Result, Ok, Err, unwrap_or, Ghosts, AreTold, FewerLater, OnlyOpens, held_of, AsksAndPuts, OpenFault, StoreView, store_number, IsStoreOpenFault, IsShown, Shows, TracksStore, behind, IsContent, ship_text, leaves_on, call, status_of_open, Status, cases_lt, RecordLine, Shipped, leaves_held, shows_asks, shows_on, arith, nat_tests}
use Rattle.standby.proofs.PutLemmas.{PrintedNow, prints_by, quiet_by, quiet_is}
use Rattle.standby.specs.Shipped.{ShipPrintsBy as PutsBy, ShipsBy, shipped}
use Rattle.standby.proofs.ShipLemmas.{still_shown}
use Rattle.standby.specs.ShipCalled.{ShippedBy, ShippedFrom}
use Rattle.store.specs.declared.open_fault.OpenFault.TheVariants as open_fault
use Rattle.standby.specs.declared.shipping.Shipped.TheVariants as how
use Rattle.call_status.specs.declared.status.Status.TheVariants as status

-- all is kept unless the answer is that it isn't
pub all_kept : (answer : Shipped) (count far : ℕ) → (count < far → answer ≡ how.NotKept) → (answer ≡ how.NotKept → ⊥) → far ≤ count
all_kept answer count far only other = ⊎_elim (λ less. absurd (other (only less))) (λ within. within) (cases_lt count far)

module _ {W : Type 0} (G : Ghosts W) (printed_now : PrintedNow G) (from : ℕ) (before : W) where
  -- the store isn't opened
  pub not_shipped : (mid : W) → OnlyOpens G before mid → (fault : OpenFault) (now : Status) → now ≡ status_of_open fault → IsStoreOpenFault G before mid fault → ((fault ≡ open_fault.DiskFault → ⊥) → G.disk_faults mid ≡ G.disk_faults before) → ShippedFrom G from (call before mid [] now)
  not_shipped mid asks fault now is why calm =
      record { no_order = refl; only = shows_asks G before mid asks; sure = λ honest told image seen left. inl (quiet_is G printed_now before mid asks.calls image seen left); calm = λ other. calm (λ failed. other (is ∙ ap status_of_open failed)); by_status = subst (ShippedBy G from before mid) (sym is) (by fault why) }
    where
      by : (fault : OpenFault) → IsStoreOpenFault G before mid fault → ShippedBy G from before mid (status_of_open fault)
      by fault why = grind (arith, nat_tests)

  module _ (fewer_later : FewerLater G) (mid after : W) (asks : OnlyOpens G before mid) (store : StoreView) (shows : IsSome (G.held before) → Shows (held_of G before) store)
      (tracks : IsTrue (G.is_honest before) → IsSome (G.held before) → TracksStore G store mid) (only : AsksAndPuts G mid after) where
    -- what a crash leaves once something is printed was sure when the store had opened
    ended : (now : Status) → ((now ≡ status.DiskFault → ⊥) → G.disk_faults after ≡ G.disk_faults before) → ShippedBy G from before after now → ShippedFrom G from (call before after [] now)
    ended now calm by_status = record {
      no_order = refl;
      only = shows_on G fewer_later before mid after (shows_asks G before mid asks) only;
      sure = λ honest told.
          let sure = (tracks honest told).sure in
          leaves_on G fewer_later before mid after asks.calls.time only.time (λ (image seen : List ℕ). AreTold (G.printed before) seen ⊎ (image ≡ held_of G before)) (λ image seen left. inl (quiet_is G printed_now before mid asks.calls image seen left))
          (λ image seen left. let from = only.images sure.told image seen left in inr (leaves_held G mid sure image from.0 from.1 ∙ ap (λ (these : Option (List ℕ)). unwrap_or these []) asks.held));
      calm = calm;
      by_status = by_status;
    }

    abbrev text : List (List RecordLine) → List ℕ
    text records = ship_text (shipped store records from)

    module _ (told : IsSome (G.held before)) where
      still : (now : IsShown G store mid) × (now.shows.read.records ≡ (shows told).read.records)
      still = still_shown G store before mid (record { told = told; shows = shows told }) asks.held

      -- the puts of the call are those behind the opening
      from_before : (result : Result (Unit {0}) Shipped) → PutsBy G (text still.0.shows.read.records) mid after result → PutsBy G (text (shows told).read.records) before after result
      from_before result puts = subst (λ (records : List (List RecordLine)). PutsBy G (text records) before after result) still.1 (prints_by G before mid after [] (text still.0.shows.read.records) result (quiet_by G before mid asks.calls) puts)

    pub shipped_all : G.disk_faults after ≡ G.disk_faults before → behind store.bank.base from ≤ store.bank.count → ((now : IsShown G store mid) → ShipsBy G (text now.shows.read.records) mid after how.Done) → ((now : IsShown G store mid) → IsContent (shipped store now.shows.read.records from))
        → ShippedFrom G from (call before after [] status.Done)
    shipped_all calm kept ships content = ended status.Done (λ other. calm) (λ told.
        let puts = from_before told (Ok tt) (ships (still told).0) in
        let ranges = subst (λ (records : List (List RecordLine)). IsContent (shipped store records from)) (still told).1 (content (still told).0) in
        record { store = store; shows = shows told; kept = kept; printed = puts.0; times = λ is. puts.1; content = λ is. ranges })

    pub shipped_part : G.disk_faults after ≡ G.disk_faults before → behind store.bank.base from ≤ store.bank.count → ((now : IsShown G store mid) → ShipsBy G (text now.shows.read.records) mid after how.PutFault) → ShippedFrom G from (call before after [] status.PutFault)
    shipped_part calm kept ships = ended status.PutFault (λ other. calm)
        (λ told. record { store = store; shows = shows told; kept = kept; printed = from_before told (Err how.PutFault) (ships (still told).0); times = λ is. absurd (cc); content = λ is. absurd (cc) })

    pub shipped_short : behind store.bank.base from ≤ store.bank.count → ((now : IsShown G store mid) → ShipsBy G (text now.shows.read.records) mid after how.DiskFault) → ShippedFrom G from (call before after [] status.DiskFault)
    shipped_short kept ships = ended status.DiskFault (λ other. absurd (other refl))
        (inr (λ told. record { store = store; shows = shows told; kept = kept; printed = from_before told (Err how.DiskFault) (ships (still told).0); times = λ is. absurd (cc); content = λ is. absurd (cc) }))

    pub none_kept : G.disk_faults after ≡ G.disk_faults before → (base number : ℕ) → after ≡ mid → base ≡ store.bank.base → number ≡ store_number store → store.bank.count < behind store.bank.base from → ShippedFrom G from (call before after [] (status.NotKept base number))
    none_kept calm base number same base_is number_is behind_all = ended (status.NotKept base number) (λ other. calm)
        (subst (λ (now : W). OnlyOpens G before now) (sym same) asks, λ told. record { store = store; shows = shows told; base_is = base_is; number_is = number_is; behind_all = behind_all })
