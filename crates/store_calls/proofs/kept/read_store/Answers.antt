use Rattle.store_calls.proofs.Common.{◌≡◌, ℕ, List, [], length, sym, ◌∙◌, ap, subst, arith, IsSome, Option, unwrap_or, take_all, Layout, byte_count, held_of, Header, Standing, Stands, stands, store_number, Shows, KeptStore, bytes_standing, StandsForKept}
use Rattle.store.proofs.StoodLemmas.{committed_in, committed-long, stood-store}
use Rattle.store.specs.KeptStore as restart
use Rattle.store_calls.proofs.kept.read_store.Goals as goal

-- all bytes of what stands, read from the front on, are the store
keeps_all : (held : List ℕ) (store : restart.StoreView) (shows : Shows held store) (kept : KeptStore)
    → kept.directory ≡ store.header.directory → kept.number ≡ store_number store → kept.store.items ≡ bytes_standing (stands held) 0 (byte_count store.header.directory)
    → StandsForKept held kept
keeps_all held store shows kept directory number items =
    let committed : List ℕ = committed_in held store shows in
    let long : length committed ≡ byte_count store.header.directory = committed-long held store shows in
    let stood : stands held ≡ Stands (store_number store) (record { directory = store.header.directory; bytes = committed }) = stood-store held store shows in
    let all : kept.store.items ≡ committed =
    items ∙ ap (λ (standing : Standing). bytes_standing standing 0 (byte_count store.header.directory)) stood
    ∙ take_all (byte_count store.header.directory) committed (omega (arith, long)) in
    record {
      stood =
          stood
          ∙ ap (λ (n : ℕ). let that : Standing = Stands n (record { directory = store.header.directory; bytes = committed }) in that) (sym number)
          ∙ ap (λ (d : Layout). let that : Standing = Stands kept.number (record { directory = d; bytes = committed }) in that) (sym directory)
          ∙ ap (λ (bytes : List ℕ). let that : Standing = Stands kept.number (record { directory = kept.directory; bytes = bytes }) in that) (sym all);
      whole = ap length all ∙ long ∙ ap byte_count (sym directory);
    }

pub returns : goal.returns
returns g c = λ told.
    let G = g.W.Outside in let store = c.in_ok-durable.durable in
    let old : List ℕ = held_of G c.args.outside.now in
    let held = c.in_ok-durable.ensures.asks.asks.held in
    let same : held_of G c.open.new.outside ≡ old = ap (λ (held : Option (List ℕ)). unwrap_or held []) held in
    let shows = c.in_ok-durable.ensures.opened.shows told in
    let header : c.header.result.now ≡ store.header = c.header.ensures in
    let directory : c.directory.result.now ≡ store.header.directory = c.directory.ensures.value ∙ ap (λ (those : Header). those.directory) header in
    keeps_all old store shows
    (record { directory = c.directory.result.now; number = c.number.result; store = c.in_ok-all_bytes.field-0 })
    directory c.number.ensures
    (c.in_ok-all_bytes.ensures.read
    (record { told = subst (λ (those : Option (List ℕ)). IsSome those) (sym held) told; shows = subst (λ (those : List ℕ). Shows those store) (sym same) shows })
    ∙ ap (λ (held : List ℕ). bytes_standing (stands held) 0 (byte_count store.header.directory)) same)
