-- The committed bytes of a store that bytes show.
use Rattle.store.proofs.Lemmas.{◌≡◌, ℕ, List, length, sym, ◌∙◌, fold, byte_count, byte_count-lines, Stands, stands, laid, home_of, stands_is, StoreView, Shows, store_number, store_agrees, shown_store}
use Rattle.lines.specs.FlatStore.{FlatStore}

-- the committed bytes of a store that bytes show
pub committed_in : (held : List ℕ) (store : StoreView) → Shows held store → List ℕ
committed_in held store shows = fold (laid store.header.directory.page) (home_of held store.header) shows.read.records

-- the bytes stand for the store's number and these
pub stood-store : (held : List ℕ) (store : StoreView) (shows : Shows held store)
    → stands held ≡ Stands (store_number store) (record { directory = store.header.directory; bytes = committed_in held store shows })
unfolding committed_in
stood-store held store shows =
    let flat : FlatStore = record { directory = store.header.directory; bytes = fold (laid store.header.directory.page) (home_of held store.header) shows.read.records } in
    cc (stands_is held store.header store.bank.which store.bank.base store.bank.gate shows.read.records (shown_store held store shows), shows.read.count)

-- and they are as many as its directory says
pub committed-long : (held : List ℕ) (store : StoreView) (shows : Shows held store) → length (committed_in held store shows) ≡ byte_count store.header.directory
unfolding committed_in
committed-long held store shows =
    let agree = store_agrees held store.header store.bank.which store.bank.base store.bank.gate shows.read.records (shown_store held store shows) in
    agree.long ∙ sym (byte_count-lines store.header.directory)
