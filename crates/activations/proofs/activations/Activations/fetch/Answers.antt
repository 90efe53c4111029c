use Rattle.activations.proofs.Lemmas.{page_count, asks_on, Activity, pages_wanted, wants_of, ◌<◌, sym, ap, subst, first_within, second_within, none-fetched, one-fetches, first-broken, two-fetch, fetch-fails}
use Rattle.activations.proofs.activations.Activations.fetch.Goals as goal

pub returns-in-Nothing-clause-fetched : goal.returns-in-Nothing-clause-fetched
returns-in-Nothing-clause-fetched g c = none-fetched g.W.Outside c.args.store.now c.args.outside.now c.args.self.now c.args.touch.now c.args.tally.now.pages c.in-Nothing.is

pub returns-in-One-clause-fetched : goal.returns-in-One-clause-fetched
returns-in-One-clause-fetched g c =
    one-fetches g.W.Outside c.args.store.now c.args.outside.now c.args.self.now c.fetch_page.new.self.reach.pool c.args.touch.now c.in-One.only c.in-One.is
    c.args.tally.now.pages c.fetch_page.new.tally.pages c.fetch_page.ensures.moved c.fetch_page.ensures.keeps
    c.fetch_page.result c.fetch_page.ensures.came.page_in c.fetch_page.ensures.came.unread

pub fetch_page-requires-in-Two-clause-page : goal.fetch_page-requires-in-Two-clause-page
fetch_page-requires-in-Two-clause-page g c = first_within _ c.args.touch.now c.in-Two.first c.in-Two.second c.requires.wanted.within c.in-Two.is

pub fetch_page-requires-in-Two-2-clause-page : goal.fetch_page-requires-in-Two-2-clause-page
fetch_page-requires-in-Two-2-clause-page g c =
    subst (λ (a : Activity). c.in-Two.second.page < page_count a.reach.directory) (sym c.fetch_page-in-Two.ensures.shape)
    (second_within _ c.args.touch.now c.in-Two.first c.in-Two.second c.requires.wanted.within c.in-Two.is)

pub returns-in_err-fetch_page-in-Two-clause-fetched : goal.returns-in_err-fetch_page-in-Two-clause-fetched
returns-in_err-fetch_page-in-Two-clause-fetched g c =
    fetch-fails c.from_residual.result c.in_err-fetch_page-in-Two.field-0.0 c.from_residual.ensures.1 g.W.Outside c.args.store.now c.args.outside.now c.args.self.now (pages_wanted (wants_of c.args.touch.now))
    c.args.tally.now.pages c.fetch_page-in-Two.new.self.reach.pool c.fetch_page-in-Two.new.tally.pages
    (first-broken g.W.Outside c.args.store.now c.args.outside.now c.args.self.now c.fetch_page-in-Two.new.self.reach.pool c.args.touch.now c.in-Two.first c.in-Two.second c.in-Two.is
    c.args.tally.now.pages c.fetch_page-in-Two.new.tally.pages c.fetch_page-in-Two.ensures.moved c.fetch_page-in-Two.ensures.keeps c.in_err-fetch_page-in-Two.ensures.came.unread)

pub returns-in_ok-fetch_page-in-Two-clause-asks : goal.returns-in_ok-fetch_page-in-Two-clause-asks
returns-in_ok-fetch_page-in-Two-clause-asks g c =
    asks_on g.W.Outside g.met.W.Outside.fewer_later c.args.outside.now c.fetch_page-in-Two.new.outside c.fetch_page-in-Two-2.new.outside c.fetch_page-in-Two.ensures.asks c.fetch_page-in-Two-2.ensures.asks

pub returns-in_ok-fetch_page-in-Two-clause-fetched : goal.returns-in_ok-fetch_page-in-Two-clause-fetched
returns-in_ok-fetch_page-in-Two-clause-fetched g c =
    two-fetch g.W.Outside c.args.store.now c.args.outside.now c.args.self.now c.fetch_page-in-Two.new.self.reach.pool c.args.touch.now c.in-Two.first c.in-Two.second c.in-Two.is
    c.args.tally.now.pages c.fetch_page-in-Two.new.tally.pages c.fetch_page-in-Two.ensures.moved c.fetch_page-in-Two.ensures.keeps
    g.met.W.Outside.fewer_later c.fetch_page-in-Two.new.outside c.fetch_page-in-Two.ensures.asks c.in_ok-fetch_page-in-Two.ensures.came.page_in
    _ (ap (λ (a : Activity). a.reach.directory) c.fetch_page-in-Two.ensures.shape) c.fetch_page-in-Two-2.new.self.reach.pool c.fetch_page-in-Two-2.new.tally.pages c.fetch_page-in-Two-2.ensures.moved c.fetch_page-in-Two-2.ensures.keeps
    c.fetch_page-in-Two-2.result c.fetch_page-in-Two-2.ensures.came.page_in c.fetch_page-in-Two-2.ensures.came.unread
