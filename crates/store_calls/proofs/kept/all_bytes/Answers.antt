use Rattle.store_calls.proofs.Lemmas.{◌≡◌, ◌*◌, ◌+◌, ◌++◌, ℕ, List, sym, ◌∙◌, ap, arith, Layout, page_count, page_bytes, byte_count_pages, held_of, Standing, stands, Header, page_in, bytes_standing, held_same, shows_asks, shows_none, shows_on, bytes_on, has_pages, none_in, page_whole, still_shown}
use Rattle.store_calls.proofs.kept.all_bytes.Goals as goal

pub loop-number-init : goal.loop-number-init
loop-number-init g c =
    let directory = c.args.store.now.header.directory in
    let same = c.directory-directory.ensures.value ∙ ap (λ (header : Header). header.directory) c.header.ensures in
    let nothing : 0 * page_bytes directory.page ≡ 0 = omega arith in
    let this : Standing = stands (held_of g.W.Outside c.args.outside.now) in
    record {
      shows = shows_none g.W.Outside c.args.outside.now;
      long = c.split_at_mut-page.ensures.front_len ∙ c.from.ensures ∙ c.bytes.ensures.value ∙ ap page_bytes (c.page.ensures ∙ ap (λ (d : Layout). d.page) same);
      read = λ told. c.in_ok-bytes.ensures.items ∙ sym (ap (bytes_standing this 0) nothing ∙ none_in this 0);
    }

pub loop-number-preserved : goal.loop-number-preserved
loop-number-preserved g c =
    let G = g.W.Outside in let later = g.met.W.Outside.fewer_later in let before = c.args.outside.now in
    let here = c.loop-number.outside in let shown = c.loop-number.invariant.shows in
    let number = c.loop-number.number in let size = page_bytes c.args.store.now.header.directory.page in
    let this : Standing = stands (held_of G before) in
    record {
      shows = shows_on G later before here c.read_page.new.outside shown (shows_asks G here c.read_page.new.outside c.read_page.ensures.asks);
      long = c.read_page.auto.into ∙ c.loop-number.invariant.long;
      read = λ told.
          let page : c.read_page.new.into ≡ bytes_standing this (number * size) size =
          c.in_ok-read_page.ensures.read (still_shown G later c.args.store.now before here told shown)
          ∙ ap (λ (held : List ℕ). page_in (stands held) number) (held_same G before here shown)
          ∙ page_whole this c.args.store.now.header.directory.page (has_pages (held_of G before) c.args.store.now told.shows) number in
          let more : number * size + size ≡ (number + 1) * size = omega arith in
          c.in_ok-extend_from_slice.ensures.items
          ∙ ap (λ (these : List ℕ). these ++ c.read_page.new.into) (c.loop-number.invariant.read told)
          ∙ ap (λ (these : List ℕ). bytes_standing this 0 (number * size) ++ these) page
          ∙ ap (λ (at : ℕ). bytes_standing this 0 (number * size) ++ bytes_standing this at size) (let same : number * size ≡ 0 + number * size = omega arith in same)
          ∙ sym (bytes_on this 0 (number * size) size)
          ∙ ap (bytes_standing this 0) more;
    }

pub returns-clause-read : goal.returns-clause-read
returns-clause-read g c = λ told.
    let directory = c.args.store.now.header.directory in
    let same = c.directory-directory.ensures.value ∙ ap (λ (header : Header). header.directory) c.header.ensures in
    let count : c.loop-number.number ≡ page_count directory = omega (arith, c.loop-number.auto.number-end, c.loop-number-test.false, c.pages-number-end.ensures.value, ap page_count same) in
    c.loop-number.invariant.read told
    ∙ ap (bytes_standing (stands (held_of g.W.Outside c.args.outside.now)) 0) (ap (λ n. n * page_bytes directory.page) count ∙ sym (byte_count_pages directory))
