-- What the images of an append stand for.
use Rattle.store.proofs.Common.{◌≡◌, inl, inr, ℕ, zero, suc, ◌+◌, ◌*◌, ◌-◌, ◌%◌, ◌^◌, ◌<◌, ◌≤◌, true, false, List, [], ◌∷◌, ◌++◌, length, take, drop, refl, sym, ◌∙◌, ap, subst, arith, slice_index, slice_set, option_map, drop-drop, take_all, take-set-le, drop-set-lt, length-set, get_or-set_same, length-take-le, line_count, PageSize, Which, Header, number_at, home_at, bank_at, entry_bytes, RecordLine, lines_from, wrong_line, record_bytes, area_of, IsStore, stands, one_more, same_number_at, same_lines, same_byte, later_front, shorter_front, Around, area_within, store_same, stands_same, stands_more, store_more, Ghosts, held_of, Inside, is_open, HasBody, IsSafe, BankView, bank_place, end_of, area_end, begun_of, needed_end, with_record, noted, AreNewest, buffered, begun_count, begun_lines, kept_of, IsWholeBank, TracksBank, IsEither, HoldsOneOf, Option, None, Some, unwrap_or, IsSome, ◌==◌, nat_tests, cases_Bool, IsBody, whole}
use Rattle.store_format.proofs.Stores as stores

-- a store, and a body that adds these lines to it
pub record Ready (held : List ℕ) (header : Header) (which : Which) (base gate : ℕ) (records : List (List RecordLine)) (count : ℕ) (lines : List RecordLine) (body : List ℕ) : Type 0 where
  pub store : IsStore held header which base gate records
  pub big : 0 < header.bank_bytes
  pub good : IsBody header.directory.page (line_count header.directory) ((base + length records + 1) % 2 ^ 64) gate count lines body
  pub fits : gate + length body < (area_of header which).end

end_is : (header : Header) (which : Which) (bytes : ℕ) → header.bank_bytes ≡ bytes → (area_of header which).end ≡ end_of which bytes
end_is header which bytes same = grind (arith, nat_tests)

-- a bank lies where the header says
pub place_is : (header : Header) (which : Which) (bytes : ℕ) → header.bank_bytes ≡ bytes → bank_at header which ≡ bank_place which bytes
place_is header which bytes same = grind (arith, nat_tests)

-- the body that was filled in is one
pub body_of : (page : PageSize) (bound due gate count : ℕ) (old new : List ℕ) → 11 + entry_bytes page * count ≤ length old → length new ≡ length old → number_at new 0 2 ≡ count → number_at new 2 8 ≡ due
    → take (entry_bytes page * count) (drop 10 new) ≡ take (entry_bytes page * count) (drop 10 old) → slice_index new (10 + entry_bytes page * count) ≡ 0
    → wrong_line bound 0 (lines_from page count (gate + 11) (drop 10 old)) ≡ None
    → IsBody page bound due gate count (lines_from page count (gate + 11) (drop 10 old)) (take (11 + entry_bytes page * count) new)
body_of page bound due gate count old new room long counted numbered lines closed ordered =
    let front : take (11 + entry_bytes page * count) (take (11 + entry_bytes page * count) new) ≡ take (11 + entry_bytes page * count) new = take_all (11 + entry_bytes page * count) (take (11 + entry_bytes page * count) new) (omega (arith, length-take-le (11 + entry_bytes page * count) new (omega (arith, long, room)))) in
    record {
      bytes = length-take-le (11 + entry_bytes page * count) new (omega (arith, long, room));
      counted = same_number_at 0 2 (11 + entry_bytes page * count) (take (11 + entry_bytes page * count) new) new front (omega arith) ∙ counted;
      numbered = same_number_at 2 8 (11 + entry_bytes page * count) (take (11 + entry_bytes page * count) new) new front (omega arith) ∙ numbered;
      lined =
          same_lines page count (gate + 11) (entry_bytes page * count) (drop 10 (take (11 + entry_bytes page * count) new)) (drop 10 new) (later_front 10 (entry_bytes page * count) (take (11 + entry_bytes page * count) new) new (shorter_front (10 + entry_bytes page * count) (11 + entry_bytes page * count) (take (11 + entry_bytes page * count) new) new front (omega arith))) (omega arith)
          ∙ same_lines page count (gate + 11) (entry_bytes page * count) (drop 10 new) (drop 10 old) lines (omega arith);
      sound = ordered;
      closed = same_byte (10 + entry_bytes page * count) (11 + entry_bytes page * count) (take (11 + entry_bytes page * count) new) new front (omega arith) ∙ closed;
    }

pub make_ready : {W : Type 0} (G : Ghosts W) (bank : Inside) (outside : W) (tracks : TracksBank G (kept_of bank) outside) → IsWholeBank bank
    → (filled body : List ℕ) (due : ℕ) → body ≡ take (record_bytes bank.page (begun_count bank)) filled → length filled ≡ length bank.body → number_at filled 0 2 ≡ (begun_count bank) → number_at filled 2 8 ≡ due
    → take (entry_bytes bank.page * begun_count bank) (drop 10 filled) ≡ take (entry_bytes bank.page * begun_count bank) (drop 10 bank.body) → slice_index filled (10 + entry_bytes bank.page * begun_count bank) ≡ 0
    → due ≡ ((bank.base + bank.count) % 2 ^ 64 + 1) % 2 ^ 64 → bank.gate + record_bytes bank.page (begun_count bank) + 1 ≤ end_of bank.which bank.bank_bytes
    → Ready (held_of G outside) tracks.header bank.which bank.base bank.gate tracks.records (begun_count bank) (begun_lines bank) body
make_ready G bank outside tracks whole filled body due is long counted numbered lines closed due_is fits =
    let due_of : due ≡ (bank.base + length tracks.records + 1) % 2 ^ 64 = omega (arith, due_is, tracks.count) in
    let bound : wrong_line (line_count tracks.header.directory) 0 (begun_lines bank) ≡ None = ap (λ (n : ℕ). wrong_line n 0 (begun_lines bank)) tracks.bound ∙ whole.ordered in
    let filled_in = body_of bank.page (line_count tracks.header.directory) ((bank.base + length tracks.records + 1) % 2 ^ 64) bank.gate (begun_count bank) bank.body filled (omega (arith, whole.buffer, whole.fits)) long counted (numbered ∙ due_of) lines closed bound in
    let good : IsBody tracks.header.directory.page (line_count tracks.header.directory) ((bank.base + length tracks.records + 1) % 2 ^ 64) bank.gate (begun_count bank) (begun_lines bank) (take (record_bytes bank.page (begun_count bank)) filled) =
    subst (λ (page : PageSize). IsBody page (line_count tracks.header.directory) ((bank.base + length tracks.records + 1) % 2 ^ 64) bank.gate (begun_count bank) (begun_lines bank) (take (record_bytes bank.page (begun_count bank)) filled)) (sym tracks.page) filled_in in
    subst (λ (these : List ℕ). Ready (held_of G outside) tracks.header bank.which bank.base bank.gate tracks.records (begun_count bank) (begun_lines bank) these) (sym is) (record {
      store = tracks.store;
      big = omega (arith, tracks.bank_bytes, whole.some_bytes);
      good = good;
      fits = omega (arith, filled_in.bytes, fits, end_is tracks.header bank.which bank.bank_bytes tracks.bank_bytes);
    })

module _ (held : List ℕ) (header : Header) (which : Which) (base gate : ℕ) (records : List (List RecordLine)) (count : ℕ) (lines : List RecordLine) (body : List ℕ) (ready : Ready held header which base gate records count lines body) where
  pub shut : is_open gate held ≡ false
  shut = (stores.end_of held header which base gate records ready.store ready.big).closed

  pub room : gate + 1 + length body ≤ length held
  room = omega (arith, ready.fits, (area_within header which).0, ready.store.whole)

  module _ (image : List ℕ) (safe : IsSafe gate body held image) where
    around : Around header gate held image
    around = record {
      front = safe.front;
      long = safe.long;
      home =
          let rest = home_at header 0 - (gate + 1 + length body) in
          let whole : gate + 1 + length body + rest ≡ home_at header 0 = omega (arith, ready.fits, (area_within header which).0) in
          ap (λ (n : ℕ). drop n image) (sym whole)
          ∙ sym (drop-drop rest (gate + 1 + length body) image)
          ∙ ap (λ (these : List ℕ). drop rest these) safe.behind
          ∙ drop-drop rest (gate + 1 + length body) held
          ∙ ap (λ (n : ℕ). drop n held) whole;
    }

    pub same : is_open gate image ≡ false → stands image ≡ stands held
    same closed = stands_same held header which base gate records ready.store ready.big image around closed

    pub more : is_open gate image ≡ true → stands image ≡ one_more lines (stands held)
    more shown = stands_more held header which base gate records ready.store ready.big image around count lines body ready.good ready.fits shown (safe.whole shown)

    pub before : is_open gate image ≡ false → IsStore image header which base gate records
    before closed = store_same held header which base gate records ready.store ready.big image around.front around.long closed

    pub after : is_open gate image ≡ true → IsStore image header which base (gate + length body) (records ++ lines ∷ [])
    after shown = store_more held header which base gate records ready.store ready.big image around count lines body ready.good ready.fits shown (safe.whole shown)

    pub either : (seen : List ℕ) → IsEither lines held image seen
    either seen = elim (cases_Bool (is_open gate image)) [ inl is ↦ inr (more is) | inr is ↦ inl (same is) ]

    pub one_of : HoldsOneOf header which base records lines image
    one_of = elim (cases_Bool (is_open gate image)) [
      | inl is ↦ inr (record { gate = gate + length body; store = after is })
      | inr is ↦ inl (record { gate = gate; store = before is })
    ]

  pub doubted : (image : List ℕ) → IsSafe gate body held image → HasBody gate body image → stands (slice_set image gate 0xA5) ≡ one_more lines (stands held)
  doubted image safe body_there =
      let within : gate < length image = omega (arith, room, safe.long) in
      let there : HasBody gate body (slice_set image gate 0xA5) = ap (λ (these : List ℕ). take (length body) these) (drop-set-lt (gate + 1) image gate 0xA5 (omega arith)) ∙ body_there in
      more (slice_set image gate 0xA5)
      (record {
        front = take-set-le gate image gate 0xA5 (omega arith) ∙ safe.front;
        behind = drop-set-lt (gate + 1 + length body) image gate 0xA5 (omega arith) ∙ safe.behind;
        long = length-set image gate 0xA5 ∙ safe.long;
        whole = λ shown. there;
      })
      (ap (λ (n : ℕ). n == 0xA5) (get_or-set_same image gate 0xA5 0 within))

-- the lines that were filled in around are those that were begun
pub filled_lines : (bank : Inside) (filled those : List ℕ) → take (entry_bytes bank.page * begun_count bank) (drop 10 filled) ≡ take (entry_bytes bank.page * begun_count bank) (drop 10 bank.body) → those ≡ filled
    → lines_from bank.page (begun_count bank) (bank.gate + 11) (drop 10 those) ≡ begun_lines bank
filled_lines bank filled those lines is = grind (arith, nat_tests, same_lines, filled)

pub length-lines_from : (page : PageSize) (count at : ℕ) (bytes : List ℕ) → length (lines_from page count at bytes) ≡ count
length-lines_from page zero at bytes = refl
length-lines_from page (suc count) at bytes = omega (arith, length-lines_from page count (at + entry_bytes page) (drop (entry_bytes page) bytes))

-- the lines that are begun are those of the buffer
begun_by : (begun : Option ℕ) (bank : Inside) → unwrap_or (option_map (buffered bank) begun) [] ≡ buffered bank (unwrap_or begun 0)
begun_by begun bank = grind (arith, nat_tests)

pub begun_is : (bank : Inside) (kept : BankView) → kept_of bank ≡ kept → begun_lines bank ≡ begun_of kept
begun_is bank kept is = sym (begun_by bank.begun bank) ∙ ap begun_of is

pub length-begun : (bank : Inside) (kept : BankView) → kept_of bank ≡ kept → length (begun_of kept) ≡ (begun_count bank)
length-begun bank kept is = ap length (sym (begun_is bank kept is)) ∙ length-lines_from bank.page (begun_count bank) (bank.gate + 11) (drop 10 bank.body)

-- a record that is begun is in the fields
some_by : (begun : Option ℕ) (bank : Inside) → IsSome (option_map (buffered bank) begun) → IsSome begun
some_by begun bank some = grind (arith, nat_tests)

pub is_begun : (bank : Inside) (kept : BankView) → kept_of bank ≡ kept → IsSome kept.begun → IsSome bank.begun
is_begun bank kept is some = some_by bank.begun bank (subst (λ (those : BankView). IsSome those.begun) (sym is) some)

pub unwrapped : (begun : Option ℕ) (count : ℕ) → begun ≡ Some count → unwrap_or begun 0 ≡ count
unwrapped begun count is = ap (λ (those : Option ℕ). unwrap_or those 0) is

-- what the fields say of room is what the kept bank says
pub record SaysRoom (bank : Inside) (kept : BankView) : Type 0 where
  pub end : area_end kept ≡ end_of bank.which bank.bank_bytes
  pub need : needed_end kept ≡ bank.gate + record_bytes bank.page (begun_count bank) + 1

pub says_room : (bank : Inside) (kept : BankView) → kept_of bank ≡ kept → SaysRoom bank kept
says_room bank kept is = grind (arith, nat_tests, length-begun)

-- the fields are tracked as the bank is
abbrev pub fields_tracked : {W : Type 0} (G : Ghosts W) (bank : Inside) (kept : BankView) (outside : W) → kept_of bank ≡ kept → TracksBank G kept outside → TracksBank G (kept_of bank) outside
fields_tracked G bank kept outside is tracks = record {
  sure = tracks.sure;
  header = tracks.header;
  records = tracks.records;
  store = subst (λ (those : BankView). IsStore (held_of G outside) tracks.header those.which those.base those.gate tracks.records) (sym is) tracks.store;
  page = tracks.page ∙ ap (λ (those : BankView). those.page) (sym is);
  bank_bytes = tracks.bank_bytes ∙ ap (λ (those : BankView). those.bank_bytes) (sym is);
  bound = tracks.bound ∙ ap (λ (those : BankView). length those.newest) (sym is);
  count = tracks.count ∙ ap (λ (those : BankView). those.count) (sym is);
  newest = subst (λ (those : BankView). AreNewest those.newest tracks.records) (sym is) tracks.newest;
}

-- the bank with its begun record is what the fields say then
pub with_record_is : (bank : Inside) (kept : BankView) (gate : ℕ) (newest : List (Option ℕ)) → kept_of bank ≡ kept → gate ≡ bank.gate + record_bytes bank.page (begun_count bank) → newest ≡ noted bank.newest (begun_lines bank)
    → record (kept_of bank) { count = bank.count + 1; gate = gate; newest = newest; begun = None } ≡ with_record kept
with_record_is bank kept gate newest is gate_is newest_is = grind (arith, nat_tests, begun_is, length-begun)

-- a bank that is tracked, and a body that adds its begun record
pub record IsReadied {W : Type 0} (G : Ghosts W) (bank : Inside) (outside : W) (body : List ℕ) : Type 0 where
  pub tracks : TracksBank G (kept_of bank) outside
  pub ready : Ready (held_of G outside) tracks.header bank.which bank.base bank.gate tracks.records (begun_count bank) (begun_lines bank) body
