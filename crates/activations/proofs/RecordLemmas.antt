-- Lines that come into a record one after another, page by page.
use Rattle.activations.proofs.Common.{ne_eqb, or_from, ◌≡◌, refl, ℕ, zero, suc, ◌+◌, ◌*◌, ◌/◌, ◌%◌, ◌<◌, ◌≤◌, ◌==◌, if◌then◌else◌, Bool, false, List, [], ◌∷◌, ◌++◌, All, filter, length, map, slice_index_or, Option, Some, IsSome, unwrap_or, AllPairs, list_any, range_with_len, arith, ap, sym, ◌∙◌, subst, append_assoc, length-append, append-nil, All-nil, All-cons, All-append, passing, IsOfPage, PageSize, has, distinct, size, flat_lines, Pool, line_shown, RecordLine, entry_bytes, most_lines, begun_of, record_bytes_of, with_line, StoreView, with_begun, pool_line, recorded, with_lines, cond_both, flat_map, length-map, take_more, take_all, get_or_default, page_of_line, has-append, size-alike, holds_some, Holding, IsWholeHolding, held_at, of_seat, Activity, locks_in, IsActivitySound, written_of, wrote, ◌&&◌, ◌||◌, take, nat_tests}
use Rattle.std.proofs.lemmas.List.Concat.{flat_map-append}
use Rattle.seats.specs.Counted.{Ascend}
use Rattle.activations.proofs.HoldingLemmas.{held-flat, has-flat}
use Rattle.activations.proofs.WrittenLemmas.{page-held, some-line}

-- numbers ascend from a least one on, below a bound
abbrev pub Climbs : (least : ℕ) → List ℕ → (bound : ℕ) → Type 0
Climbs least [] bound = least ≤ bound
Climbs least (x ∷ xs) bound = (least ≤ x) × Climbs (x + 1) xs bound

pub climbs-bound : (least : ℕ) (xs : List ℕ) (bound : ℕ) → Climbs least xs bound → least ≤ bound
climbs-bound least [] bound climbs = climbs
climbs-bound least (x ∷ xs) bound climbs = let rest = climbs-bound (x + 1) xs bound climbs.1 in omega (arith, rest, climbs.0)

pub climbs-from : (least from : ℕ) (xs : List ℕ) (bound : ℕ) → least ≤ from → Climbs from xs bound → Climbs least xs bound
climbs-from least from [] bound less climbs = omega (arith, less, climbs)
climbs-from least from (x ∷ xs) bound less climbs = (omega (arith, less, climbs.0), climbs.1)

pub climbs-below : (least : ℕ) (xs : List ℕ) (bound : ℕ) → Climbs least xs bound → All (λ x. x < bound) xs
climbs-below least [] bound climbs = All-nil (λ (x : ℕ). x < bound)
climbs-below least (x ∷ xs) bound climbs =
    let rest = climbs-bound (x + 1) xs bound climbs.1 in
    All-cons (λ (x : ℕ). x < bound) x xs (omega (arith, rest)) (climbs-below (x + 1) xs bound climbs.1)

pub climbs-on : (least : ℕ) (xs : List ℕ) (middle : ℕ) (ys : List ℕ) (bound : ℕ) → Climbs least xs middle → Climbs middle ys bound → Climbs least (xs ++ ys) bound
climbs-on least [] middle ys bound first second = climbs-from least middle ys bound first second
climbs-on least (x ∷ xs) middle ys bound first second = (first.0, climbs-on (x + 1) xs middle ys bound first.1 second)

climbs-filter : (p : ℕ → Bool) (low n : ℕ) → Climbs low (filter p (range_with_len low n)) (low + n)
climbs-filter p low zero = omega arith
climbs-filter p low (suc n) =
    let same : low + 1 + n ≡ low + suc n = omega arith in
    let rest = subst (Climbs (low + 1) (filter p (range_with_len (low + 1) n))) same (climbs-filter p (low + 1) n) in
    cond_both (p low) _ _ (λ (xs : List ℕ). Climbs low xs (low + suc n)) (λ _. (omega arith, rest)) (λ _. climbs-from low (low + 1) (filter p (range_with_len (low + 1) n)) (low + suc n) (omega arith) rest)

-- the lines of a page do
pub climbs-page : (set : List ℕ) → IsOfPage set → Climbs 0 set 16
unfolding passing
climbs-page set of = subst (λ (these : List ℕ). Climbs 0 these 16) of (climbs-filter (λ line. list_any (λ x. x == line) set) 0 16)

pub climbs-flat : (page least : ℕ) (set : List ℕ) (bound : ℕ) → Climbs least set bound → Climbs (page * 16 + least) (flat_lines page set) (page * 16 + bound)
climbs-flat page least [] bound climbs = omega (arith, climbs)
climbs-flat page least (x ∷ xs) bound climbs =
    let next : page * 16 + x + 1 ≡ page * 16 + (x + 1) = omega arith in
    (omega (arith, climbs.0), subst (λ (n : ℕ). Climbs n (flat_lines page xs) (page * 16 + bound)) (sym next) (climbs-flat page (x + 1) xs bound climbs.1))

-- each of them is there once
absent : (least : ℕ) (xs : List ℕ) (bound x : ℕ) → Climbs least xs bound → x < least → has xs x ≡ false
absent least [] bound x climbs less = refl
absent least (y ∷ xs) bound x climbs less =
    or_from (y == x) (has xs x) (ne_eqb y x (λ is. absurd (omega (arith, is, less, climbs.0)))) (absent (y + 1) xs bound x climbs.1 (omega (arith, less, climbs.0)))

pub climbs-once : (least : ℕ) (xs : List ℕ) (bound : ℕ) → Climbs least xs bound → size xs ≡ length xs
climbs-once least [] bound climbs = refl
climbs-once least (x ∷ xs) bound climbs =
    ap (λ (seen : Bool). length (if seen then distinct xs else x ∷ distinct xs)) (absent (x + 1) xs bound x climbs.1 (omega arith))
    ∙ ap suc (climbs-once (x + 1) xs bound climbs.1)

-- Of the lines of a record: how many there are, which, and in which order.
module _ (size : PageSize) (bytes : ℕ → List ℕ) where
  pub length-recorded : (at : ℕ) (lines : List ℕ) → length (recorded size bytes at lines) ≡ length lines
  length-recorded at [] = refl
  length-recorded at (line ∷ lines) = ap suc (length-recorded (at + entry_bytes size) lines)

  pub numbers-recorded : (at : ℕ) (lines : List ℕ) → map (λ one. one.line) (recorded size bytes at lines) ≡ lines
  numbers-recorded at [] = refl
  numbers-recorded at (line ∷ lines) = ap (λ (rest : List ℕ). line ∷ rest) (numbers-recorded (at + entry_bytes size) lines)

  pub bytes-recorded : (at : ℕ) (lines : List ℕ) → All (λ one. one.bytes ≡ bytes one.line) (recorded size bytes at lines)
  bytes-recorded at [] = All-nil (λ (one : RecordLine). one.bytes ≡ bytes one.line)
  bytes-recorded at (line ∷ lines) = All-cons (λ (one : RecordLine). one.bytes ≡ bytes one.line) (record { line = line; at = at; bytes = bytes line }) (recorded size bytes (at + entry_bytes size) lines) refl (bytes-recorded (at + entry_bytes size) lines)

  pub recorded-below : (bound at : ℕ) (lines : List ℕ) → All (λ line. line < bound) lines → All (λ one. one.line < bound) (recorded size bytes at lines)
  recorded-below bound at [] below = All-nil (λ (one : RecordLine). one.line < bound)
  recorded-below bound at (line ∷ lines) below =
      All-cons (λ (one : RecordLine). one.line < bound) (record { line = line; at = at; bytes = bytes line }) (recorded size bytes (at + entry_bytes size) lines)
      (below 0 0 (omega arith)) (recorded-below bound (at + entry_bytes size) lines (λ k d within. below (suc k) d (omega (arith, within))))

  behind : (at : ℕ) (lines : List ℕ) (least bound k : ℕ) (d : RecordLine) → Climbs least lines bound → k < length (recorded size bytes at lines) → least ≤ (slice_index_or (recorded size bytes at lines) k d).line
  behind at [] least bound k d climbs within = absurd (omega (arith, within))
  behind at (line ∷ lines) least bound zero d climbs within = climbs.0
  behind at (line ∷ lines) least bound (suc k) d climbs within =
      let rest = behind (at + entry_bytes size) lines (line + 1) bound k d climbs.1 (omega (arith, within)) in
      omega (arith, rest, climbs.0)

  pub recorded-ascend : (at : ℕ) (lines : List ℕ) (least bound : ℕ) → Climbs least lines bound → AllPairs (λ first second. first.line < second.line) (recorded size bytes at lines)
  recorded-ascend at [] least bound climbs i j d less within = absurd (omega (arith, within))
  recorded-ascend at (line ∷ lines) least bound climbs i zero d less within = absurd (omega (arith, less))
  recorded-ascend at (line ∷ lines) least bound climbs zero (suc j) d less within =
      let rest = behind (at + entry_bytes size) lines (line + 1) bound j d climbs.1 (omega (arith, within)) in omega (arith, rest)
  recorded-ascend at (line ∷ lines) least bound climbs (suc i) (suc j) d less within =
      recorded-ascend (at + entry_bytes size) lines (line + 1) bound climbs.1 i j d (omega (arith, less)) (omega (arith, within))

  pub recorded-append : (at : ℕ) (xs ys : List ℕ) → recorded size bytes at (xs ++ ys) ≡ recorded size bytes at xs ++ recorded size bytes (at + entry_bytes size * length xs) ys
  recorded-append at [] ys = let same : at ≡ at + entry_bytes size * 0 = omega arith in ap (λ (n : ℕ). recorded size bytes n ys) same
  recorded-append at (x ∷ xs) ys =
      let same : at + entry_bytes size + entry_bytes size * length xs ≡ at + entry_bytes size * suc (length xs) = omega arith in
      ap (λ (rest : List RecordLine). record { line = x; at = at; bytes = bytes x } ∷ rest)
      (recorded-append (at + entry_bytes size) xs ys ∙ ap (λ (n : ℕ). recorded size bytes (at + entry_bytes size) xs ++ recorded size bytes n ys) same)

-- what is begun, where a record is
begun-some : {A : Type 0} (begun : Option (List A)) → IsSome begun → Some (unwrap_or begun []) ≡ begun
begun-some begun some = grind arith

pub with_begun-same : (store : StoreView) → IsSome store.bank.begun → store ≡ with_begun store (begun_of store.bank)
with_begun-same store some i = record store { bank = record store.bank { begun = sym (begun-some store.bank.begun some) i } }

-- Some lines of a page are to be added yet to the record that is begun: with them it is what it shall be.
pub record Adds (pool : Pool) (page : ℕ) (lines : List ℕ) (first : StoreView) (left : List ℕ) (now : StoreView) : Type 0 where
  pub shape : now ≡ with_begun first (begun_of now.bank)
  pub rest : begun_of now.bank ++ recorded first.bank.page (pool_line pool) (first.bank.gate + record_bytes_of first.bank (length (begun_of now.bank))) (flat_lines page left)
      ≡ begun_of first.bank ++ recorded first.bank.page (pool_line pool) (first.bank.gate + record_bytes_of first.bank (length (begun_of first.bank))) (flat_lines page lines)
  pub least : ℕ
  pub before : All (λ one. one.line < page * 16 + least) (begun_of now.bank)
  pub climbs : Climbs least left 16
  pub room : length (begun_of now.bank) + length left ≤ most_lines first.header

-- all are
pub adds-all : (pool : Pool) (page : ℕ) (lines left : List ℕ) (first : StoreView) → left ≡ lines → IsOfPage lines → IsSome first.bank.begun
    → All (λ one. one.line < page * 16) (begun_of first.bank) → length (begun_of first.bank) + length lines ≤ most_lines first.header → Adds pool page lines first left first
adds-all pool page lines left first same of some before room = record {
  shape = with_begun-same first some;
  rest = ap (λ (these : List ℕ). begun_of first.bank ++ recorded first.bank.page (pool_line pool) (first.bank.gate + record_bytes_of first.bank (length (begun_of first.bank))) (flat_lines page these)) same;
  least = 0;
  before = let none : page * 16 ≡ page * 16 + 0 = omega arith in subst (λ (n : ℕ). All (λ (one : RecordLine). one.line < n) (begun_of first.bank)) none before;
  climbs = subst (λ (these : List ℕ). Climbs 0 these 16) (sym same) (climbs-page lines of);
  room = let long = ap (λ (these : List ℕ). length these) same in omega (arith, room, long);
}

-- none is
pub adds-none : (pool : Pool) (page : ℕ) (lines : List ℕ) (first now : StoreView) → Adds pool page lines first [] now → now ≡ with_lines pool (flat_lines page lines) first
adds-none pool page lines first now adds = adds.shape ∙ ap (with_begun first) (sym (append-nil (begun_of now.bank)) ∙ adds.rest)

-- one more of them is added
pub adds-next : {pool : Pool} {page : ℕ} {lines : List ℕ} {first now : StoreView} {some left : List ℕ} {line : ℕ} → some ≡ line ∷ left → Adds pool page lines first some now → Adds pool page lines first (line ∷ left) now
adds-next {pool = pool} {page = page} {lines = lines} {first = first} {now = now} is adds = subst (λ (left : List ℕ). Adds pool page lines first left now) is adds

module _ {pool : Pool} {page : ℕ} {lines : List ℕ} {first now : StoreView} {line : ℕ} {left : List ℕ} (adds : Adds pool page lines first (line ∷ left) now) where
  pub next-line : line < 16
  next-line = let rest = climbs-bound (line + 1) left 16 adds.climbs.1 in omega (arith, rest)

  pub next-above : All (λ one. one.line < page * 16 + line) (begun_of now.bank)
  next-above k d within = let below = adds.before k d within in omega (arith, below, adds.climbs.0)

  pub next-room : length (begun_of now.bank) + 1 ≤ most_lines first.header
  next-room = omega (arith, adds.room)

  abbrev added : RecordLine
  added = record { line = page * 16 + line; at = first.bank.gate + record_bytes_of first.bank (length (begun_of now.bank)); bytes = pool_line pool (page * 16 + line) }

  told : line_shown pool page line ≡ pool_line pool (page * 16 + line)
  told =
      let whole : page ≡ (page * 16 + line) / 16 = omega (arith, next-line) in
      let part : line ≡ (page * 16 + line) % 16 = omega (arith, next-line) in λ i. line_shown pool (whole i) (part i)

  pub adds-one : (next : StoreView) → next ≡ record now { bank = with_line now.bank (page * 16 + line) (line_shown pool page line) } → Adds pool page lines first left next
  adds-one next went = record {
    shape = is ∙ ap (with_begun first) (sym begun);
    rest =
        ap (λ (these : List RecordLine). these ++ recorded first.bank.page (pool_line pool) (first.bank.gate + record_bytes_of first.bank (length these)) (flat_lines page left)) begun
        ∙ append_assoc (begun_of now.bank) (added ∷ []) (recorded first.bank.page (pool_line pool) (first.bank.gate + record_bytes_of first.bank (length (begun_of now.bank ++ added ∷ []))) (flat_lines page left))
        ∙ ap (λ (n : ℕ). begun_of now.bank ++ added ∷ recorded first.bank.page (pool_line pool) n (flat_lines page left)) place
        ∙ adds.rest;
    least = line + 1;
    before = subst (λ (these : List RecordLine). All (λ (one : RecordLine). one.line < page * 16 + (line + 1)) these) (sym begun)
        (All-append (λ (one : RecordLine). one.line < page * 16 + (line + 1)) (begun_of now.bank) (added ∷ [])
        (λ k d within. let below = next-above k d within in omega (arith, below))
        (All-cons (λ (one : RecordLine). one.line < page * 16 + (line + 1)) added [] (omega arith) (All-nil (λ (one : RecordLine). one.line < page * 16 + (line + 1)))));
    climbs = adds.climbs.1;
    room = omega (arith, adds.room, ap (λ (these : List RecordLine). length these) begun, length-append (begun_of now.bank) (added ∷ []));
  }
    where
      gate : now.bank.gate ≡ first.bank.gate
      gate = ap (λ (store : StoreView). store.bank.gate) adds.shape

      is : next ≡ with_begun first (begun_of now.bank ++ added ∷ [])
      is = went
          ∙ ap (λ (store : StoreView). record store { bank = with_line store.bank (page * 16 + line) (line_shown pool page line) }) adds.shape
          ∙ ap (λ (bytes : List ℕ). with_begun first (begun_of now.bank ++ record { line = page * 16 + line; at = first.bank.gate + record_bytes_of first.bank (length (begun_of now.bank)); bytes = bytes } ∷ [])) told

      begun : begun_of next.bank ≡ begun_of now.bank ++ added ∷ []
      begun = ap (λ (store : StoreView). begun_of store.bank) is

      place : first.bank.gate + record_bytes_of first.bank (length (begun_of now.bank ++ added ∷ [])) ≡ first.bank.gate + record_bytes_of first.bank (length (begun_of now.bank)) + entry_bytes first.bank.page
      place = omega (arith, ap (λ (n : ℕ). entry_bytes first.bank.page * n) (length-append (begun_of now.bank) (added ∷ [])))

-- pages that ascend, within bounds
climbs-pages : (least : ℕ) (pages : List ℕ) (bound : ℕ) → Ascend pages → ((k d : ℕ) → k < length pages → (least ≤ slice_index_or pages k d) × (slice_index_or pages k d < bound)) → least ≤ bound → Climbs least pages bound
climbs-pages least [] bound ascend within some = some
climbs-pages least (page ∷ pages) bound ascend within some =
    let here = within 0 0 (omega arith) in (
      here.0,
      climbs-pages (page + 1) pages bound (λ i j d less inside. ascend (suc i) (suc j) d (omega (arith, less)) (omega (arith, inside)))
          (λ k d inside. let above = ascend 0 (suc k) d (omega arith) (omega (arith, inside)) in (omega (arith, above), (within (suc k) d (omega (arith, inside))).1))
          (omega (arith, here.1)),
    )

-- those before one of them lie below it
climbs-take : (least : ℕ) (pages : List ℕ) (bound i d : ℕ) → Climbs least pages bound → i < length pages → Climbs least (take i pages) (slice_index_or pages i d)
climbs-take least [] bound i d climbs inside = absurd (omega (arith, inside))
climbs-take least (page ∷ pages) bound zero d climbs inside = climbs.0
climbs-take least (page ∷ pages) bound (suc i) d climbs inside = (climbs.0, climbs-take (page + 1) pages bound i d climbs.1 (omega (arith, inside)))

length-flat-take : (f : ℕ → List ℕ) (pages : List ℕ) (i : ℕ) → length (flat_map f (take i pages)) ≤ length (flat_map f pages)
length-flat-take f [] i = omega (arith, ap (λ (these : List ℕ). length (flat_map f these)) (take_all i [] (omega arith)))
length-flat-take f (page ∷ pages) zero = omega arith
length-flat-take f (page ∷ pages) (suc i) =
    let rest = length-flat-take f pages i in
    omega (arith, rest, length-append (f page) (flat_map f (take i pages)), length-append (f page) (flat_map f pages))

-- lines and then others come behind those that are begun
pub with_lines-more : (pool : Pool) (xs ys : List ℕ) (store now next : StoreView) → now ≡ with_lines pool xs store → next ≡ with_lines pool ys now → next ≡ with_lines pool (xs ++ ys) store
with_lines-more pool xs ys store now next first second = second ∙ ap (with_lines pool ys) first ∙ ap (with_begun store)
    (append_assoc before new (recorded store.bank.page (pool_line pool) (store.bank.gate + record_bytes_of store.bank (length (before ++ new))) ys)
    ∙ ap (λ (at : ℕ). before ++ (new ++ recorded store.bank.page (pool_line pool) at ys)) place
    ∙ ap (λ (rest : List RecordLine). before ++ rest) (sym (recorded-append store.bank.page (pool_line pool) (store.bank.gate + record_bytes_of store.bank (length before)) xs ys)))
  where
    before : List RecordLine
    before = begun_of store.bank

    new : List RecordLine
    new = recorded store.bank.page (pool_line pool) (store.bank.gate + record_bytes_of store.bank (length (begun_of store.bank))) xs

    place : store.bank.gate + record_bytes_of store.bank (length (begun_of store.bank ++ recorded store.bank.page (pool_line pool) (store.bank.gate + record_bytes_of store.bank (length (begun_of store.bank))) xs))
        ≡ store.bank.gate + record_bytes_of store.bank (length (begun_of store.bank)) + entry_bytes store.bank.page * length xs
    place =
        omega (
          arith,
          ap (λ (n : ℕ). entry_bytes store.bank.page * n)
              (length-append before new
              ∙ ap (λ (n : ℕ). length before + n) (length-recorded store.bank.page (pool_line pool) (store.bank.gate + record_bytes_of store.bank (length (begun_of store.bank))) xs)),
        )

-- pages of which something is held are those of the store
pub pages-below : (holding locks : Holding) (seat : ℕ) (pages : List ℕ) → locks ≡ holding → IsWholeHolding holding → seat < 16
    → ((page : ℕ) → has pages page ≡ holds_some (held_at locks seat page)) → (k d : ℕ) → k < length pages → slice_index_or pages k d < holding.pages
pages-below holding locks seat pages is whole below each k d inside =
    let held = page-held holding locks seat pages k is whole below inside each in
    omega (arith, held, get_or_default pages k d 0 inside)

-- The lines that a seat holds to write of pages that ascend.
module _ (a : Activity) (seat : ℕ) (sound : IsActivitySound a) where
  written-climbs : (least : ℕ) (pages : List ℕ) (bound : ℕ) → Climbs least pages bound → Climbs (least * 16) (written_of a seat pages) (bound * 16)
  written-climbs least [] bound climbs = omega (arith, climbs)
  written-climbs least (page ∷ pages) bound climbs =
      let rest = written-climbs (page + 1) pages bound climbs.1 in
      let first : page * 16 + 0 ≡ page * 16 = omega arith in
      let last : page * 16 + 16 ≡ (page + 1) * 16 = omega arith in
      climbs-from (least * 16) (page * 16) (written_of a seat (page ∷ pages)) (bound * 16) (omega (arith, climbs.0))
      (climbs-on (page * 16) (flat_lines page (wrote a seat page)) ((page + 1) * 16) (written_of a seat pages) (bound * 16)
      (subst (λ (n : ℕ). Climbs n (flat_lines page (wrote a seat page)) ((page + 1) * 16)) first
      (subst (Climbs (page * 16 + 0) (flat_lines page (wrote a seat page))) last (climbs-flat page 0 (wrote a seat page) 16 (climbs-page (wrote a seat page) ((sound.lines seat).writes page)))))
      rest)

  -- a line is one of them where its page is and it is held to write
  has-written : (pages : List ℕ) (line : ℕ) → has (written_of a seat pages) line ≡ (has pages (page_of_line line) && has (wrote a seat (page_of_line line)) (line % 16))
  has-written [] line = refl
  has-written (page ∷ pages) line = has-append (flat_lines page (wrote a seat page)) (written_of a seat pages) line
      ∙ (λ i. has-flat page (wrote a seat page) line ((sound.lines seat).writes page) i || has-written pages line i)
      ∙ grind (arith, nat_tests)

  pub wrote-locks : (line : ℕ) → has (wrote a seat (page_of_line line)) (line % 16) ≡ has (locks_in a seat).writes line
  wrote-locks line =
      let whole : line / 16 * 16 + line % 16 ≡ line = omega arith in
      (held-flat (of_seat a.seating.holding seat) (sound.lines seat)).writes (line / 16) (line % 16) (omega arith) ∙ ap (has (locks_in a seat).writes) whole

  -- all pages of which it holds something
  module _ (pages : List ℕ) (ascend : Ascend pages) (each : (page : ℕ) → has pages page ≡ holds_some (held_at a.seating.holding seat page)) where
    pub written-all : (line : ℕ) → has (written_of a seat pages) line ≡ has (locks_in a seat).writes line
    written-all line =
        let there = each (page_of_line line) in let some = some-line (wrote a seat (page_of_line line)) (line % 16) in
        has-written pages line ∙ grind (arith, there, some) ∙ wrote-locks line

    module _ (bound : ℕ) (below : (k d : ℕ) → k < length pages → slice_index_or pages k d < bound) where
      pages-climb : Climbs 0 pages bound
      pages-climb = climbs-pages 0 pages bound ascend (λ k d inside. (omega arith, below k d inside)) (omega arith)

      pub lines-climb : Climbs 0 (written_of a seat pages) (bound * 16)
      lines-climb = written-climbs 0 pages bound pages-climb

      pub as-many : length (written_of a seat pages) ≡ size (locks_in a seat).writes
      as-many = sym (climbs-once 0 (written_of a seat pages) (bound * 16) lines-climb)
          ∙ size-alike (written_of a seat pages) (locks_in a seat).writes (record { among = λ line inside. sym (written-all line) ∙ inside }) (record { among = λ line inside. written-all line ∙ inside })

      -- up to one of them
      module _ (pool : Pool) (first now : StoreView) (at : ℕ) (inside : at < length pages) (so : now ≡ with_lines pool (written_of a seat (take at pages)) first) (none : begun_of first.bank ≡ []) where
        abbrev page : ℕ
        page = slice_index_or pages at 0

        begun : begun_of now.bank ≡ recorded first.bank.page (pool_line pool) (first.bank.gate + record_bytes_of first.bank (length (begun_of first.bank))) (written_of a seat (take at pages))
        begun = ap (λ (store : StoreView). begun_of store.bank) so ∙ ap (λ (these : List RecordLine). these ++ recorded first.bank.page (pool_line pool) (first.bank.gate + record_bytes_of first.bank (length (begun_of first.bank))) (written_of a seat (take at pages))) none

        pub before-page : All (λ one. one.line < page * 16) (begun_of now.bank)
        before-page =
            subst (λ (these : List RecordLine). All (λ (one : RecordLine). one.line < page * 16) these) (sym begun)
            (recorded-below first.bank.page (pool_line pool) (page * 16) (first.bank.gate + record_bytes_of first.bank (length (begun_of first.bank))) (written_of a seat (take at pages))
            (climbs-below 0 (written_of a seat (take at pages)) (page * 16) (written-climbs 0 (take at pages) page (climbs-take 0 pages bound at 0 pages-climb inside))))

        one-more : written_of a seat (take (at + 1) pages) ≡ written_of a seat (take at pages) ++ flat_lines page (wrote a seat page)
        one-more = ap (written_of a seat) (take_more pages at 0 inside)
            ∙ flat_map-append (λ (p : ℕ). flat_lines p (wrote a seat p)) (take at pages) (page ∷ [])
            ∙ ap (λ (these : List ℕ). written_of a seat (take at pages) ++ these) (append-nil (flat_lines page (wrote a seat page)))

        pub room-left : size (locks_in a seat).writes ≤ most_lines first.header → length (begun_of now.bank) + length (wrote a seat page) ≤ most_lines first.header
        room-left few =
            let long = ap (λ (these : List RecordLine). length these) begun ∙ length-recorded first.bank.page (pool_line pool) (first.bank.gate + record_bytes_of first.bank (length (begun_of first.bank))) (written_of a seat (take at pages)) in
            let fewer = length-flat-take (λ (p : ℕ). flat_lines p (wrote a seat p)) pages (at + 1) in
            let more = ap (λ (these : List ℕ). length these) one-more in
            omega (arith, few, as-many, long, fewer, more, length-append (written_of a seat (take at pages)) (flat_lines page (wrote a seat page)), length-map (wrote a seat page) (λ line. page * 16 + line))

        pub written-more : (next : StoreView) → next ≡ with_lines pool (flat_lines page (wrote a seat page)) now → next ≡ with_lines pool (written_of a seat (take (at + 1) pages)) first
        written-more next went =
            with_lines-more pool (written_of a seat (take at pages)) (flat_lines page (wrote a seat page)) first now next so went
            ∙ ap (λ (lines : List ℕ). with_lines pool lines first) (sym one-more)
