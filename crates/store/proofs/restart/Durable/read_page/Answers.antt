use Rattle.store.proofs.Lemmas.{◌≡◌, ℕ, ◌+◌, ◌*◌, ◌≤◌, List, [], length, get_or, ap, subst, sym, IsSome, ◌∙◌, arith, refl, ◌<◌, Option, None, is_some, slice_range, unwrap_or, Layout, page_count, PageSize, page_bytes, line_bytes, page-lines, home_at, total, home_of, bytes_at, held_of, asks_on, asks_one, told_some, area_end, read_is, BankView, StoreView, Shows, newest_over, list_any, Composed, composed_none, composed_more, composed_at_home, shown_page, placed_at, end_inside}
use Rattle.store.proofs.restart.Durable.read_page.Goals as goal

pub loop-i-init : goal.loop-i-init
loop-i-init g c =
    let G = g.W.Outside in
    let held = held_of G c.args.outside.now in
    let header = c.self.inside.header in
    record {
      asks = asks_one g.W.Outside c.args.outside.now c.read_at.new.self c.read_at.ensures.asks c.read_at.result c.read_at.ensures.counts c.read_at.ensures.deeds;
      no_fault = c.in_ok-read_at.ensures.counts.cause.done;
      len = c.read_at.auto.into ∙ c.requires.whole ∙ ap (λ (store : StoreView). page_bytes store.header.directory.page) (sym c.self.view_is) ∙ page-lines c.self.inside.header.directory.page;
      composed = λ told.
          composed_none held header c.self.inside.banks.newest (c.from-first.result * 16) c.read_at.new.into
          (read_is (G.held c.args.outside.now) c.read_at.new.into c.home_at.result (length c.args.into.now) told c.in_ok-read_at.ensures.read
          ∙ ap (λ (n : ℕ). bytes_at held n (length c.args.into.now)) c.home_at.ensures.value
          ∙ ap (bytes_at held (home_at header (c.from-first.result * 16))) (c.requires.whole ∙ ap (λ (store : StoreView). page_bytes store.header.directory.page) (sym c.self.view_is) ∙ page-lines c.self.inside.header.directory.page));
    }

pub loop-i-preserved : goal.loop-i-preserved
loop-i-preserved g c =
    let G = g.W.Outside in
    let held = held_of G c.args.outside.now in
    let bank = c.self.inside.banks in
    let line = c.from-first.result * 16 + c.loop-i.i in
    let place = get_or bank.newest line None in
    let so_far = c.loop-i.invariant in
    let sized : c.page-page.result ≡ c.self.inside.header.directory.page = c.page-page.ensures ∙ ap (λ (directory : Layout). directory.page) c.directory.ensures.value in
    let at : c.lines_bytes-at.result ≡ c.loop-i.i * line_bytes c.self.inside.header.directory.page = omega (arith, c.lines_bytes-at.ensures.value, ap (λ (size : PageSize). line_bytes size * c.loop-i.i) sized) in
    let read = c.in_ok-read_newest.ensures in
    record {
      asks = asks_on G g.met.W.Outside.fewer_later c.args.outside.now c.loop-i.outside c.read_newest.new.outside so_far.asks read.asks;
      no_fault = read.cause.done ∙ so_far.no_fault;
      len = c.read_newest.auto.page ∙ so_far.len;
      composed = λ told.
          let still : IsSome (G.held c.loop-i.outside) = subst (λ (those : Option (List ℕ)). IsSome those) (sym so_far.asks.held) told in
          let same : held_of G c.loop-i.outside ≡ held = ap (λ (those : Option (List ℕ)). unwrap_or those []) so_far.asks.held in
          let room : total c.args.self.now.header ≤ length held = c.requires.store.room held (told_some (G.held c.args.outside.now) told) in
          let end : area_end bank ≤ total c.self.inside.header = end_inside c.self.inside.header bank.which bank.bank_bytes c.self.invariant.bank_bytes in
          let header : total c.self.inside.header ≡ total c.args.self.now.header = ap (λ (store : StoreView). total store.header) c.self.view_is in
          composed_more c.self.inside.header.directory.page held (home_of held c.self.inside.header) bank.newest (c.from-first.result * 16) c.loop-i.i c.loop-i.into c.read_newest.new.page place c.loop-i-test.true so_far.len refl
          (λ at is. let fits = placed_at bank.page place at (area_end bank) is read.placed in omega (arith, fits, end, header, room, ap line_bytes c.self.invariant.page))
          (read.read still
          ∙ ap (λ (image : List ℕ). newest_over (line_bytes bank.page) image place c.loop-i.into c.lines_bytes-at.result) same
          ∙ ap (λ (size : PageSize). newest_over (line_bytes size) held place c.loop-i.into c.lines_bytes-at.result) (sym c.self.invariant.page)
          ∙ ap (newest_over (line_bytes c.self.inside.header.directory.page) held place c.loop-i.into) at)
          (so_far.composed told);
    }

pub returns-then-not-holds_some-clause-read : goal.returns-then-not-holds_some-clause-read
returns-then-not-holds_some-clause-read g c shown =
    let held = held_of g.W.Outside c.args.outside.now in
    let store : StoreView = record { header = c.self.inside.header; bank = c.self.inside.banks } in
    let first = c.from-first.result * 16 in
    let shows : Shows held store = subst (λ (store : StoreView). Shows held store) (sym c.self.view_is) shown.shows in
    let same : first ≡ c.args.page * 16 = omega (arith, c.from-first.ensures) in
    let within : c.args.page < page_count store.header.directory = subst (λ (store : StoreView). c.args.page < page_count store.header.directory) (sym c.self.view_is) c.requires.page in
    let sized = c.requires.whole ∙ ap (λ (store : StoreView). page_bytes store.header.directory.page) (sym c.self.view_is) ∙ page-lines c.self.inside.header.directory.page in
    let whole = c.read_at.auto.into ∙ sized in
    let read =
    read_is (g.W.Outside.held c.args.outside.now) c.read_at.new.into c.home_at.result (length c.args.into.now) shown.told c.in_ok-read_at.ensures.read
    ∙ ap (λ (n : ℕ). bytes_at held n (length c.args.into.now)) c.home_at.ensures.value
    ∙ ap (bytes_at held (home_at store.header first)) sized in
    let at_home : Composed store.header.directory.page held (home_of held store.header) store.bank.newest first 16 c.read_at.new.into =
    composed_at_home store.header.directory.page held (home_of held store.header) store.bank.newest first c.read_at.new.into (omega (arith, shows.fits.lines, within, same)) (ap (λ (bank : BankView). list_any is_some (slice_range bank.newest first (first + 16))) (sym c.chosen.ensures) ∙ sym c.holds_some.ensures ∙ c.if-not-holds_some.true) (composed_none held store.header store.bank.newest first c.read_at.new.into read) in
    shown_page held store shows c.read_at.new.into c.args.page within whole
    (subst (λ (n : ℕ). Composed store.header.directory.page held (home_of held store.header) store.bank.newest n 16 c.read_at.new.into) same at_home)

pub returns-clause-read : goal.returns-clause-read
returns-clause-read g c shown =
    let held = held_of g.W.Outside c.args.outside.now in
    let shows : Shows held (record { header = c.self.inside.header; bank = c.self.inside.banks }) = subst (λ (store : StoreView). Shows held store) (sym c.self.view_is) shown.shows in
    let first : c.from-first.result * 16 ≡ c.args.page * 16 = omega (arith, c.from-first.ensures) in
    let all : c.loop-i.i ≡ 16 = omega (arith, c.loop-i-test.false, c.loop-i.auto.i-end) in
    let within : c.args.page < page_count c.self.inside.header.directory = subst (λ (store : StoreView). c.args.page < page_count store.header.directory) (sym c.self.view_is) c.requires.page in
    let composed : Composed c.self.inside.header.directory.page held (home_of held c.self.inside.header) c.self.inside.banks.newest (c.args.page * 16) 16 c.loop-i.into =
    subst (λ (n : ℕ). Composed c.self.inside.header.directory.page held (home_of held c.self.inside.header) c.self.inside.banks.newest n 16 c.loop-i.into) first
    (subst (λ (n : ℕ). Composed c.self.inside.header.directory.page held (home_of held c.self.inside.header) c.self.inside.banks.newest (c.from-first.result * 16) n c.loop-i.into) all (c.loop-i.invariant.composed shown.told)) in
    shown_page held (record { header = c.self.inside.header; bank = c.self.inside.banks }) shows c.loop-i.into c.args.page within c.loop-i.invariant.len composed

pub read_newest-requires-clause-room : goal.read_newest-requires-clause-room
read_newest-requires-clause-room g c = grind arith

pub read_newest-requires-clause-below : goal.read_newest-requires-clause-below
read_newest-requires-clause-below g c = grind arith

pub read_newest-requires-clause-within : goal.read_newest-requires-clause-within
read_newest-requires-clause-within g c = grind arith

pub returns-in_err-read_newest-clause-asks : goal.returns-in_err-read_newest-clause-asks
returns-in_err-read_newest-clause-asks g c = asks_on g.W.Outside g.met.W.Outside.fewer_later c.args.outside.now c.loop-i.outside c.read_newest.new.outside c.loop-i.invariant.asks c.read_newest.ensures.asks
