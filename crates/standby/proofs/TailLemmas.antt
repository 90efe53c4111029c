-- What may stand behind lines that were read, a line at a time.
use Rattle.standby.proofs.Common.{◌≡◌, ◌≢◌, ◌⊎◌, inl, inr, ℕ, zero, suc, ◌+◌, ◌^◌, ◌<◌, ◌≤◌, List, [], ◌∷◌, ◌++◌, length, codes, decimal, refl, sym, ◌∙◌, ap, subst, append_assoc, append-nil, arith, All, AllByRecursion, All-from_recursion, recursion_from_All, encode_lower, AreWhole, feeds, IsTextInTwo, IsFirstBad, AreFirstLines, Tail, AreLines, ShipContent, ShipLine, closing_line, head_line, later, line_line, lines_text, next, record_line, record_text, records_text, ship_text, same_number, replicate, length-replicate, All-replicate, ◌-◌, ◌*◌, drop, length-drop, drop-append-le, take-append-le, take_all, flat_map-append, common_steps, parted, nat_tests, append_cancel_left, nil_from_length}
use Rattle.standby.proofs.PartLemmas.{IsLine, end_is_line, end_parts, feeds_append, head_is_line, head_parts, line_is_line, line_parts, one_feed, record_is_line, record_parts, same_hex}
use Rattle.standby.proofs.ShipLemmas.{records_append}

-- lines that ascend below a bound are no more than lie between
pub room_left : (bytes bound least : ℕ) (lines : List ShipLine) → AreLines bytes bound least lines → least ≤ bound → least + length lines ≤ bound
room_left bytes bound least [] are le = omega (arith, le)
room_left bytes bound least (line ∷ lines) are le = omega (arith, room_left bytes bound (line.line + 1) lines are.4 (omega (arith, are.1)), are.0)

-- The line that may come next: where none of a record is owed the last, or the first of a record; else one of the record.
abbrev pub Next : (bytes bound number owed least : ℕ) → List ℕ → Type 0
Next bytes bound number zero least line = (line ≡ closing_line number) ⊎ ((count : ℕ) × (count ≤ bound) × (line ≡ record_line (next number) count))
Next bytes bound number (suc owed) least line =
    (k : ℕ) × (held : List ℕ) × (least ≤ k) × (k + owed < bound) × (length held ≡ bytes) × All (λ byte. byte < 256) held × (line ≡ line_line k held)

pub next_is_line : (bytes bound number owed least : ℕ) (line : List ℕ) → number < 2 ^ 64 → bound < 2 ^ 32 → Next bytes bound number owed least line → IsLine line
next_is_line bytes bound number zero least line small few (inl is) = subst (λ (l : List ℕ). IsLine l) (sym is) (end_is_line number small)
next_is_line bytes bound number zero least line small few (inr (count, le, is)) = subst (λ (l : List ℕ). IsLine l) (sym is) (record_is_line (next number) count (omega arith) (omega (arith, le, few)))
next_is_line bytes bound number (suc owed) least line small few (k, held, le, lt, sized, all, is) = subst (λ (l : List ℕ). IsLine l) (sym is) (line_is_line k held (omega (arith, lt, few)) all)

-- a text with its first line in front
record First (bytes bound number owed least : ℕ) (text : List ℕ) : Type 0 where
  pub line : List ℕ
  pub behind : List ℕ
  pub next_is : Next bytes bound number owed least line
  pub text_is : text ≡ line ++ behind

-- records behind a number begin with the first line of one
pub records_are : (number : ℕ) (lines : List ShipLine) (records : List (List ShipLine)) (last : List ℕ)
    → records_text number (lines ∷ records) ++ last ≡ record_line (next number) (length lines) ++ (lines_text lines ++ (records_text (next number) records ++ last))
records_are number lines records last =
    append_assoc (record_text (next number) lines) (records_text (next number) records) last
    ∙ append_assoc (record_line (next number) (length lines)) (lines_text lines) (records_text (next number) records ++ last)

first_none : (bytes bound number least : ℕ) (text : List ℕ) (lines : List ShipLine) (records : List (List ShipLine)) → number < 2 ^ 64 → length lines ≡ 0 → AllByRecursion (λ these. AreLines bytes bound 0 these) records
    → text ≡ lines_text lines ++ (records_text number records ++ closing_line (later number (length records))) → First bytes bound number 0 least text
first_none bytes bound number least text (line ∷ lines) records small many each is = absurd (omega (arith, many))
first_none bytes bound number least text [] [] small many each is =
    let last : later number 0 ≡ number = omega (arith, small) in
    record { line = closing_line number; behind = []; next_is = inl refl; text_is = is ∙ ap closing_line last ∙ sym (append-nil (closing_line number)) }
first_none bytes bound number least text [] (first ∷ records) small many each is = record {
  line = record_line (next number) (length first);
  behind = lines_text first ++ (records_text (next number) records ++ closing_line (later number (suc (length records))));
  next_is = inr (length first, omega (arith, room_left bytes bound 0 first each.0 (omega arith)), refl);
  text_is = is ∙ records_are number first records (closing_line (later number (suc (length records))));
}

first_some : (bytes bound number owed least : ℕ) (text behind : List ℕ) (lines : List ShipLine) → length lines ≡ suc owed → AreLines bytes bound least lines → text ≡ lines_text lines ++ behind → First bytes bound number (suc owed) least text
first_some bytes bound number owed least text behind [] many are is = absurd (omega (arith, many))
first_some bytes bound number owed least text behind (one ∷ lines) many are is = record {
  line = line_line one.line one.bytes;
  behind = lines_text lines ++ behind;
  next_is = (one.line, one.bytes, are.0, omega (arith, many, room_left bytes bound (one.line + 1) lines are.4 (omega (arith, are.1))), are.2, are.3, refl);
  text_is = is ∙ append_assoc (line_line one.line one.bytes) (lines_text lines) behind;
}

first_of : (bytes bound number owed least : ℕ) (text : List ℕ) → number < 2 ^ 64 → Tail bytes bound number owed least text → First bytes bound number owed least text
first_of bytes bound number zero least text small tail = first_none bytes bound number least text tail.lines tail.records small tail.many tail.each tail.text_is
first_of bytes bound number (suc owed) least text small tail =
    first_some bytes bound number owed least text (records_text number tail.records ++ closing_line (later number (length tail.records))) tail.lines tail.many tail.are tail.text_is

-- lines that may stand there

some_lines : (bytes bound owed least : ℕ) → least + owed ≤ bound → (lines : List ShipLine) × (length lines ≡ owed) × AreLines bytes bound least lines
some_lines bytes bound zero least le = ([], refl, tt)
some_lines bytes bound (suc owed) least le =
    let rest = some_lines bytes bound owed (least + 1) (omega (arith, le)) in (
      record { line = least; bytes = replicate bytes 0 } ∷ rest.0,
      ap suc rest.1,
      (omega arith, omega (arith, le), length-replicate bytes 0, All-replicate (λ byte. byte < 256) bytes 0 (omega arith), rest.2),
    )

some_tail : (bytes bound number owed least : ℕ) → least + owed ≤ bound → (text : List ℕ) × Tail bytes bound number owed least text
some_tail bytes bound number owed least le =
    let lines = some_lines bytes bound owed least le in
    (lines_text lines.0 ++ ([] ++ closing_line (later number 0)), record { lines = lines.0; records = []; many = lines.1; are = lines.2; each = tt; text_is = refl })

-- where bytes begin with a line, so do all with the same bytes up to a line feed
share : (body first behind rest others : List ℕ) → feeds body ≡ 0 → first ++ 10 ∷ others ≡ body ++ 10 ∷ behind → (left : List ℕ) × (first ++ 10 ∷ rest ≡ body ++ 10 ∷ left)
share [] [] behind rest others plain is = (rest, refl)
share [] (b ∷ first) behind rest others plain is = let same : b ≡ 10 = cc in (first ++ 10 ∷ rest, ap (λ (c : ℕ). c ∷ (first ++ 10 ∷ rest)) same)
share (c ∷ body) [] behind rest others plain is =
    let same : c ≡ 10 = cc in
    let one : feeds (10 ∷ body) ≡ 0 = subst (λ (n : ℕ). feeds (n ∷ body) ≡ 0) same plain in
    let more : feeds (10 ∷ body) ≡ 1 + feeds body = feeds_append (10 ∷ []) body in
    absurd (omega (arith, one, more))
share (c ∷ body) (b ∷ first) behind rest others plain is =
    let same : b ≡ c = cc in
    let less : first ++ 10 ∷ others ≡ body ++ 10 ∷ behind = cc in
    let more = share body first behind rest others (omega (arith, plain, feeds_append (c ∷ []) body)) less in
    (more.0, ap (λ (n : ℕ). n ∷ (first ++ 10 ∷ rest)) same ∙ ap (λ (these : List ℕ). c ∷ these) more.1)

module _ (bytes bound : ℕ) (few : bound < 2 ^ 32) where
  -- the line that is next is none
  pub bad_here : (front : List ℕ) (read number owed least : ℕ) (text behind : List ℕ) → AreFirstLines bytes bound front read number owed least → number < 2 ^ 64 → least + owed ≤ bound → text ≡ front ++ behind
      → ((line more : List ℕ) → Next bytes bound number owed least line → behind ≢ line ++ more) → IsFirstBad text (read + 1)
  bad_here front read number owed least text behind is small le text_is refuses =
      let some = some_tail bytes bound number owed least le in
      record {
        front = front;
        behind = behind;
        text_is = text_is;
        whole = is.whole;
        place = ap (λ (n : ℕ). n + 1) is.lines;
        more = some.0;
        before = is.goes some.0 some.1;
        bad = λ first rest others at goes.
            let one = first_of bytes bound number owed least (first ++ 10 ∷ others) small (is.came (first ++ 10 ∷ others) goes) in
            let line = next_is_line bytes bound number owed least one.line small few one.next_is in
            let split : first ++ 10 ∷ others ≡ line.body ++ 10 ∷ one.behind = one.text_is ∙ ap (λ (these : List ℕ). these ++ one.behind) line.is ∙ append_assoc line.body (10 ∷ []) one.behind in
            let shared = share line.body first one.behind rest others line.plain split in
            refuses one.line shared.0 one.next_is (at ∙ shared.1 ∙ sym (append_assoc line.body (10 ∷ []) shared.0) ∙ ap (λ (these : List ℕ). these ++ shared.0) (sym line.is));
        none = λ content ranges same.
            let one = first_of bytes bound number owed least behind small (is.came behind (record { content = content; is_content = ranges; text_is = sym same ∙ text_is })) in
            refuses one.line one.behind one.next_is one.text_is;
      }

-- bytes behind a line that was read
whole_more : (front line : List ℕ) → IsLine line → AreWhole (front ++ line)
whole_more front line is = inr (front ++ is.body, ap (λ (these : List ℕ). front ++ these) is.is ∙ sym (append_assoc front is.body (10 ∷ [])))

feeds_more : (front line : List ℕ) (read : ℕ) → read ≡ feeds front → IsLine line → read + 1 ≡ feeds (front ++ line)
feeds_more front line read same is = omega (arith, same, one_feed line is, feeds_append front line)

further : (front line behind : List ℕ) → IsTextInTwo front (line ++ behind) → IsTextInTwo (front ++ line) behind
further front line behind goes = record { content = goes.content; is_content = goes.is_content; text_is = goes.text_is ∙ sym (append_assoc front line behind) }

nearer : (front line behind : List ℕ) → IsTextInTwo (front ++ line) behind → IsTextInTwo front (line ++ behind)
nearer front line behind goes = record { content = goes.content; is_content = goes.is_content; text_is = goes.text_is ∙ append_assoc front line behind }

abbrev first_byte : List ℕ → ℕ
first_byte [] = 0
first_byte (byte ∷ bytes) = byte

pub first_is : (text one two : List ℕ) → text ≡ one → text ≡ two → first_byte one ≢ first_byte two → ⊥
first_is text one two is same other = other (ap first_byte (sym is ∙ same))

-- the same record, and what stands behind its first line
pub same_record : (n count other : ℕ) (x y : List ℕ) → n < 2 ^ 64 → count < 2 ^ 64 → other < 2 ^ 64 → record_line n count ++ x ≡ record_line n other ++ y → (count ≡ other) × (x ≡ y)
same_record n count other x y small one two is =
    let all =
    append_cancel_left (codes "record ") (decimal n ++ 32 ∷ (decimal count ++ 10 ∷ x)) (decimal n ++ 32 ∷ (decimal other ++ 10 ∷ y))
    (sym (record_parts n count x) ∙ is ∙ record_parts n other y) in
    same_number 10 count other x y (omega arith) one two (same_number 32 n n (decimal count ++ 10 ∷ x) (decimal other ++ 10 ∷ y) (omega arith) small small all).1

pub same_line : (k other : ℕ) (held those x y : List ℕ) → k < 2 ^ 64 → other < 2 ^ 64 → All (λ byte. byte < 256) held → All (λ byte. byte < 256) those → line_line k held ++ x ≡ line_line other those ++ y → (k ≡ other) × (held ≡ those) × (x ≡ y)
same_line k other held those x y one two all each is =
    let parts =
    append_cancel_left (codes "line ") (decimal k ++ 32 ∷ (encode_lower held ++ 10 ∷ x)) (decimal other ++ 32 ∷ (encode_lower those ++ 10 ∷ y))
    (sym (line_parts k held x) ∙ is ∙ line_parts other those y) in
    let behind = same_number 32 k other (encode_lower held ++ 10 ∷ x) (encode_lower those ++ 10 ∷ y) (omega arith) one two parts in
    let rest = same_hex held those x y all each behind.1 in
    (behind.0, rest.0, rest.1)

pub same_head : (w l n v m k : ℕ) (x y : List ℕ) → w < 2 ^ 64 → l < 2 ^ 64 → n < 2 ^ 64 → v < 2 ^ 64 → m < 2 ^ 64 → k < 2 ^ 64 → head_line w l n ++ x ≡ head_line v m k ++ y → (w ≡ v) × (l ≡ m) × (n ≡ k) × (x ≡ y)
same_head w l n v m k x y one two three four five six is =
    let parts =
    append_cancel_left (codes "ship ") (decimal w ++ 32 ∷ (decimal l ++ 32 ∷ (decimal n ++ 10 ∷ x)))
    (decimal v ++ 32 ∷ (decimal m ++ 32 ∷ (decimal k ++ 10 ∷ y))) (sym (head_parts w l n x) ∙ is ∙ head_parts v m k y) in
    let first = same_number 32 w v (decimal l ++ 32 ∷ (decimal n ++ 10 ∷ x)) (decimal m ++ 32 ∷ (decimal k ++ 10 ∷ y)) (omega arith) one four parts in
    let second = same_number 32 l m (decimal n ++ 10 ∷ x) (decimal k ++ 10 ∷ y) (omega arith) two five first.1 in
    let third = same_number 10 n k x y (omega arith) three six second.1 in
    (first.0, second.0, third.0, third.1)

module _ (bytes bound : ℕ) (few : bound < 2 ^ 32) where
  -- a tail behind the first line of a record, and with that line
  count_out : (number count least : ℕ) (behind : List ℕ) → Tail bytes bound (next number) count 0 behind → Tail bytes bound number 0 least (record_line (next number) count ++ behind)
  count_out number count least behind tail =
      let on : later number (suc (length tail.records)) ≡ later (next number) (length tail.records) = omega arith in
      record {
        lines = [];
        records = tail.lines ∷ tail.records;
        many = refl;
        are = tt;
        each = (tail.are, tail.each);
        text_is = cc (tail.text_is, tail.many, records_are number tail.lines tail.records (closing_line (later (next number) (length tail.records))), on);
      }

  count_in_by : (number count least : ℕ) (behind : List ℕ) (lines : List ShipLine) (records : List (List ShipLine)) → count ≤ bound → length lines ≡ 0 → AllByRecursion (λ these. AreLines bytes bound 0 these) records
      → record_line (next number) count ++ behind ≡ lines_text lines ++ (records_text number records ++ closing_line (later number (length records))) → Tail bytes bound (next number) count 0 behind
  count_in_by number count least behind (line ∷ lines) records le many each is = absurd (omega (arith, many))
  count_in_by number count least behind [] [] le many each is =
      absurd (first_is (record_line (next number) count ++ behind) (codes "record " ++ (decimal (next number) ++ 32 ∷ (decimal count ++ 10 ∷ behind))) (codes "end " ++ (decimal (later number 0) ++ 10 ∷ [])) (record_parts (next number) count behind) (is ∙ sym (append-nil (closing_line (later number 0))) ∙ end_parts (later number 0) []) (omega arith))
  count_in_by number count least behind [] (first ∷ records) le many each is =
      let last = closing_line (later number (suc (length records))) in
      let on : later number (suc (length records)) ≡ later (next number) (length records) = omega arith in
      let same = same_record (next number) count (length first) behind (lines_text first ++ (records_text (next number) records ++ last)) (omega arith) (omega (arith, le, few)) (omega (arith, few, room_left bytes bound 0 first each.0 (omega arith))) (is ∙ records_are number first records last) in
      record { lines = first; records = records; many = sym same.0; are = each.0; each = each.1; text_is = same.1 ∙ ap (λ (n : ℕ). lines_text first ++ (records_text (next number) records ++ closing_line n)) on }

  count_in : (number count least : ℕ) (behind : List ℕ) → count ≤ bound → Tail bytes bound number 0 least (record_line (next number) count ++ behind) → Tail bytes bound (next number) count 0 behind
  count_in number count least behind le tail = count_in_by number count least behind tail.lines tail.records le tail.many tail.each tail.text_is

  -- the same for a line of a record
  line_out : (number owed least k : ℕ) (held behind : List ℕ) → least ≤ k → k < bound → length held ≡ bytes → All (λ byte. byte < 256) held → Tail bytes bound number owed (k + 1) behind → Tail bytes bound number (suc owed) least (line_line k held ++ behind)
  line_out number owed least k held behind le lt sized all tail = record {
    lines = record { line = k; bytes = held } ∷ tail.lines;
    records = tail.records;
    many = ap suc tail.many;
    are = (le, lt, sized, all, tail.are);
    each = tail.each;
    text_is = ap (λ (these : List ℕ). line_line k held ++ these) tail.text_is ∙ sym (append_assoc (line_line k held) (lines_text tail.lines) (records_text number tail.records ++ closing_line (later number (length tail.records))));
  }

  line_in_by : (number owed least k : ℕ) (held behind rest : List ℕ) (lines : List ShipLine) (records : List (List ShipLine)) → k < bound → All (λ byte. byte < 256) held → length lines ≡ suc owed → AreLines bytes bound least lines → AllByRecursion (λ these. AreLines bytes bound 0 these) records
      → rest ≡ records_text number records ++ closing_line (later number (length records)) → line_line k held ++ behind ≡ lines_text lines ++ rest → Tail bytes bound number owed (k + 1) behind
  line_in_by number owed least k held behind rest [] records lt all many are each last is = absurd (omega (arith, many))
  line_in_by number owed least k held behind rest (one ∷ lines) records lt all many are each last is = grind (arith, same_line k one.line held one.bytes behind (lines_text lines ++ rest) (omega (arith, lt, few)) (omega (arith, are.1, few)) all are.3 (is ∙ append_assoc (line_line one.line one.bytes) (lines_text lines) rest), are.4)

  line_in : (number owed least k : ℕ) (held behind : List ℕ) → k < bound → All (λ byte. byte < 256) held → Tail bytes bound number (suc owed) least (line_line k held ++ behind) → Tail bytes bound number owed (k + 1) behind
  line_in number owed least k held behind lt all tail = line_in_by number owed least k held behind (records_text number tail.records ++ closing_line (later number (length tail.records))) tail.lines tail.records lt all tail.many tail.are tail.each refl tail.text_is

  -- one line more was read
  pub read_count : (front : List ℕ) (read number least count : ℕ) → count ≤ bound → AreFirstLines bytes bound front read number 0 least → AreFirstLines bytes bound (front ++ record_line (next number) count) (read + 1) (next number) count 0
  read_count front read number least count le is =
      let line = record_line (next number) count in
      let is_line = record_is_line (next number) count (omega arith) (omega (arith, le, few)) in
      grind (arith, whole_more front line is_line, feeds_more front line read is.lines is_line, is.goes, is.came, further front line, nearer front line, count_out number count least, count_in number count least)

  pub read_one : (front : List ℕ) (read number owed least k : ℕ) (held : List ℕ) → least ≤ k → k < bound → length held ≡ bytes → All (λ byte. byte < 256) held → AreFirstLines bytes bound front read number (suc owed) least → AreFirstLines bytes bound (front ++ line_line k held) (read + 1) number owed (k + 1)
  read_one front read number owed least k held le lt sized all is = grind (arith, whole_more front (line_line k held) (line_is_line k held (omega (arith, lt, few)) all), feeds_more front (line_line k held) read is.lines (line_is_line k held (omega (arith, lt, few)) all), is.goes, is.came, further front (line_line k held), nearer front (line_line k held), line_out number owed least k held, line_in number owed least k held)

  -- nothing stands behind the last line
  end_in_by : (number : ℕ) (behind : List ℕ) (lines : List ShipLine) (records : List (List ShipLine)) → number < 2 ^ 64 → length lines ≡ 0
      → closing_line number ++ behind ≡ lines_text lines ++ (records_text number records ++ closing_line (later number (length records))) → behind ≡ []
  end_in_by number behind (line ∷ lines) records small many is = absurd (omega (arith, many))
  end_in_by number behind [] [] small many is =
      let all =
      append_cancel_left (codes "end ") (decimal number ++ 10 ∷ behind) (decimal (later number 0) ++ 10 ∷ [])
      (sym (end_parts number behind) ∙ is ∙ sym (append-nil (closing_line (later number 0))) ∙ end_parts (later number 0) []) in
      (same_number 10 number (later number 0) behind [] (omega arith) small (omega arith) all).1
  end_in_by number behind [] (first ∷ records) small many is =
      absurd (first_is (closing_line number ++ behind) _ _ (end_parts number behind) (is ∙ records_are number first records (closing_line (later number (suc (length records)))) ∙ record_parts (next number) (length first) _) (omega arith))

  -- more behind it is bad
  pub bad_behind : (front : List ℕ) (read number least : ℕ) (text behind : List ℕ) → AreFirstLines bytes bound front read number 0 least → number < 2 ^ 64 → behind ≢ [] → text ≡ front ++ (closing_line number ++ behind) → IsFirstBad text (read + 2)
  bad_behind front read number least text behind is small some text_is =
      let line = end_is_line number small in
      let last : number ≡ later number 0 = omega (arith, small) in
      record {
        front = front ++ closing_line number;
        behind = behind;
        text_is = text_is ∙ sym (append_assoc front (closing_line number) behind);
        whole = whole_more front (closing_line number) line;
        place = omega (arith, feeds_more front (closing_line number) read is.lines line);
        more = [];
        before = further front (closing_line number) [] (is.goes (closing_line number ++ []) (record { lines = []; records = []; many = refl; are = tt; each = tt; text_is = append-nil (closing_line number) ∙ ap closing_line last }));
        bad = λ first rest others at goes.
            let tail = is.came (closing_line number ++ (first ++ 10 ∷ others)) (nearer front (closing_line number) (first ++ 10 ∷ others) goes) in
            some_bytes first others (end_in_by number (first ++ 10 ∷ others) tail.lines tail.records small tail.many tail.text_is);
        none = λ content ranges same.
            let tail = is.came (closing_line number ++ behind) (record { content = content; is_content = ranges; text_is = sym same ∙ text_is }) in
            some (end_in_by number behind tail.lines tail.records small tail.many tail.text_is);
      }
    where
      some_bytes : (first others : List ℕ) → first ++ 10 ∷ others ≡ [] → ⊥
      some_bytes [] others is = cc
      some_bytes (c ∷ first) others is = cc

-- the first line of a text was read
pub read_head : (bytes bound start : ℕ) → 1 ≤ bytes → bytes ≤ 65535 → bound < 2 ^ 32 → start < 2 ^ 64 → AreFirstLines bytes bound (head_line bytes bound start) 1 start 0 0
read_head bytes bound start some short few small = record {
  whole = whole_more [] (head_line bytes bound start) line;
  lines = feeds_more [] (head_line bytes bound start) 0 refl line;
  goes = λ behind tail. goes_by behind tail.lines tail.records tail.many tail.each tail.text_is;
  came = λ behind goes.
      let content = goes.content in let ranges = goes.is_content in
      let rest = records_text content.start content.records ++ closing_line (later content.start (length content.records)) in
      let is : head_line content.line_bytes content.lines content.start ++ rest ≡ head_line bytes bound start ++ behind =
      sym (append_assoc (head_line content.line_bytes content.lines content.start) (records_text content.start content.records) (closing_line (later content.start (length content.records)))) ∙ goes.text_is in
      let same = same_head content.line_bytes content.lines content.start bytes bound start rest behind (omega (arith, ranges.few_bytes)) (omega (arith, ranges.few_lines)) ranges.number (omega (arith, short)) (omega (arith, few)) small is in
      record {
        lines = [];
        records = content.records;
        many = refl;
        are = tt;
        each = recursion_from_All (λ (these : List ShipLine). AreLines bytes bound 0 these) content.records
            (subst (λ (n : ℕ). All (λ (these : List ShipLine). AreLines n bound 0 these) content.records) same.0 (subst (λ (n : ℕ). All (λ (these : List ShipLine). AreLines content.line_bytes n 0 these) content.records) same.1 ranges.records));
        text_is = sym same.3 ∙ ap (λ (n : ℕ). records_text n content.records ++ closing_line (later n (length content.records))) same.2;
      };
}
  where
    line : IsLine (head_line bytes bound start)
    line = head_is_line bytes bound start (omega (arith, short)) (omega (arith, few)) small

    goes_by : (behind : List ℕ) (lines : List ShipLine) (records : List (List ShipLine)) → length lines ≡ 0 → AllByRecursion (λ these. AreLines bytes bound 0 these) records
        → behind ≡ lines_text lines ++ (records_text start records ++ closing_line (later start (length records))) → IsTextInTwo (head_line bytes bound start) behind
    goes_by behind (one ∷ lines) records many each is = absurd (omega (arith, many))
    goes_by behind [] records many each is = record {
      content = record { line_bytes = bytes; lines = bound; start = start; records = records };
      is_content = record { some_bytes = some; few_bytes = short; few_lines = few; number = small; records = All-from_recursion (λ (these : List ShipLine). AreLines bytes bound 0 these) records each };
      text_is = append_assoc (head_line bytes bound start) (records_text start records) (closing_line (later start (length records))) ∙ ap (λ (these : List ℕ). head_line bytes bound start ++ these) (sym is);
    }

-- the first line of a text is none
pub bad_head : (text : List ℕ) → ((bytes lines start : ℕ) (rest : List ℕ) → 1 ≤ bytes → bytes < 2 ^ 16 → lines < 2 ^ 32 → start < 2 ^ 64 → text ≢ head_line bytes lines start ++ rest) → IsFirstBad text 1
bad_head text refuses =
    let some : ShipContent = record { line_bytes = 1; lines = 0; start = 0; records = [] } in
    record {
      front = [];
      behind = text;
      text_is = refl;
      whole = inl refl;
      place = refl;
      more = ship_text some;
      before = record { content = some; is_content = record { some_bytes = omega arith; few_bytes = omega arith; few_lines = omega arith; number = omega arith; records = λ k d lt. absurd (omega (arith, lt)) }; text_is = refl };
      bad = λ first rest others at goes.
          let content = goes.content in let ranges = goes.is_content in
          let line = head_is_line content.line_bytes content.lines content.start (omega (arith, ranges.few_bytes)) (omega (arith, ranges.few_lines)) ranges.number in
          let behind = records_text content.start content.records ++ closing_line (later content.start (length content.records)) in
          let split : first ++ 10 ∷ others ≡ line.body ++ 10 ∷ behind = sym goes.text_is ∙ by_head content ∙ ap (λ (these : List ℕ). these ++ behind) line.is ∙ append_assoc line.body (10 ∷ []) behind in
          let shared = share line.body first behind rest others line.plain split in
          refuses content.line_bytes content.lines content.start shared.0 ranges.some_bytes (omega (arith, ranges.few_bytes)) ranges.few_lines ranges.number
          (at ∙ shared.1 ∙ sym (append_assoc line.body (10 ∷ []) shared.0) ∙ ap (λ (these : List ℕ). these ++ shared.0) (sym line.is));
      none = λ content ranges same.
          refuses content.line_bytes content.lines content.start (records_text content.start content.records ++ closing_line (later content.start (length content.records))) ranges.some_bytes (omega (arith, ranges.few_bytes)) ranges.few_lines ranges.number (same ∙ by_head content);
    }
  where
    by_head : (content : ShipContent) → ship_text content ≡ head_line content.line_bytes content.lines content.start ++ (records_text content.start content.records ++ closing_line (later content.start (length content.records)))
    by_head content = append_assoc (head_line content.line_bytes content.lines content.start) (records_text content.start content.records) (closing_line (later content.start (length content.records)))

-- a line more
pub parted_more : (bytes : ℕ) (lines all : List ℕ) (k : ℕ) (held : List ℕ) → length all ≡ bytes * length lines → length held ≡ bytes → parted bytes (lines ++ k ∷ []) (all ++ held) ≡ parted bytes lines all ++ record { line = k; bytes = held } ∷ []
parted_more bytes [] [] k held sized one = ap (λ (these : List ℕ). let it : List ShipLine = record { line = k; bytes = these } ∷ [] in it) (take_all bytes held (omega (arith, one)))
parted_more bytes [] (byte ∷ all) k held sized one = let none : bytes * 0 ≡ 0 = omega arith in absurd (omega (arith, sized, none))
parted_more bytes (line ∷ lines) all k held sized one = grind (arith, nat_tests, parted_more bytes lines (drop bytes all) k held, sized, take-append-le, drop-append-le, length-drop)

pub lines_more : (bytes bound least k : ℕ) (lines : List ShipLine) (held : List ℕ) → AreLines bytes bound least lines → least ≤ k → bound ≤ k → length held ≡ bytes → All (λ byte. byte < 256) held → AreLines bytes (k + 1) least (lines ++ record { line = k; bytes = held } ∷ [])
lines_more bytes bound least k [] held are le most sized all = (le, omega arith, sized, all, tt)
lines_more bytes bound least k (line ∷ lines) held are le most sized all = grind (arith, are.0, are.1, are.2, are.3, lines_more bytes bound (line.line + 1) k lines held are.4 (omega (arith, are.1, most)) most sized all)

pub wider : (bytes bound wide least : ℕ) (lines : List ShipLine) → AreLines bytes bound least lines → bound ≤ wide → AreLines bytes wide least lines
wider bytes bound wide least [] are le = tt
wider bytes bound wide least (line ∷ lines) are le = (are.0, omega (arith, are.1, le), are.2, are.3, wider bytes bound wide (line.line + 1) lines are.4 le)

one_text : (lines : List ShipLine) (one : ShipLine) → lines_text (lines ++ one ∷ []) ≡ lines_text lines ++ line_line one.line one.bytes
one_text lines one =
    flat_map-append (λ (line : ShipLine). line_line line.line line.bytes) lines (one ∷ []) ∙ ap (λ (these : List ℕ). lines_text lines ++ these) (append-nil (line_line one.line one.bytes))

pub text_on : (text left rest : List ℕ) (lines : List ShipLine) (k : ℕ) (held : List ℕ) → text ≡ lines_text lines ++ left → left ≡ line_line k held ++ rest → text ≡ lines_text (lines ++ record { line = k; bytes = held } ∷ []) ++ rest
text_on text left rest lines k held is next_is = grind (arith, nat_tests, next_is, append_assoc, one_text)

-- a line has bytes
pub line_long : (k : ℕ) (held rest left : List ℕ) → left ≡ line_line k held ++ rest → length rest < length left
line_long k held rest left is = let long = ap length (is ∙ line_parts k held rest) in grind (arith, common_steps)

pub record_long : (n count : ℕ) (rest left : List ℕ) → left ≡ record_line n count ++ rest → length rest < length left
record_long n count rest left is = let long = ap length (is ∙ record_parts n count rest) in grind (arith, common_steps)

-- where no line of a record is owed none has a least number
none_at : (bytes bound number least other : ℕ) (text : List ℕ) → Tail bytes bound number 0 least text → Tail bytes bound number 0 other text
none_at bytes bound number least other text tail =
    let rest = records_text number tail.records ++ closing_line (later number (length tail.records)) in
    let is = tail.text_is ∙ ap (λ (lines : List ShipLine). lines_text lines ++ rest) (nil_from_length tail.lines tail.many) in
    record { lines = []; records = tail.records; many = refl; are = tt; each = tail.each; text_is = is }

pub at_none : (bytes bound : ℕ) (front : List ℕ) (read number least : ℕ) → AreFirstLines bytes bound front read number 0 least → AreFirstLines bytes bound front read number 0 0
at_none bytes bound front read number least is = record {
  whole = is.whole;
  lines = is.lines;
  goes = λ behind tail. is.goes behind (none_at bytes bound number 0 least behind tail);
  came = λ behind goes. none_at bytes bound number least 0 behind (is.came behind goes);
}

-- a record behind others
records_one : (start number count : ℕ) (records : List (List ShipLine)) (lines : List ShipLine) → number ≡ later start (length records) → length lines ≡ count
    → records_text start records ++ (record_line (next number) count ++ lines_text lines) ≡ records_text start (records ++ lines ∷ [])
records_one start number count records lines number_is many = grind (arith, records_append start records lines)

pub text_more : (start number count : ℕ) (text left rest behind : List ℕ) (records : List (List ShipLine)) (lines : List ShipLine) → number ≡ later start (length records) → length lines ≡ count
    → text ≡ records_text start records ++ left → left ≡ record_line (next number) count ++ rest → rest ≡ lines_text lines ++ behind → text ≡ records_text start (records ++ lines ∷ []) ++ behind
text_more start number count text left rest behind records lines number_is many one two three = cc (one, two, three, append_assoc (record_line (next number) count) (lines_text lines) behind, append_assoc (records_text start records) (record_line (next number) count ++ lines_text lines) behind, records_one start number count records lines number_is many)

-- the whole text by what is left of it
pub whole_text : (head text left : List ℕ) (start : ℕ) (records : List (List ShipLine)) → text ≡ records_text start records ++ left → head ++ text ≡ (head ++ records_text start records) ++ left
whole_text head text left start records is = ap (λ (these : List ℕ). head ++ these) is ∙ sym (append_assoc head (records_text start records) left)

module _ (bytes bound : ℕ) (few : bound < 2 ^ 32) where
  pub record_step : (front : List ℕ) (read index count number least k : ℕ) (lines : List ShipLine) (held : List ℕ) → index < count → least ≤ k → k < bound → length held ≡ bytes → All (λ byte. byte < 256) held
      → AreFirstLines bytes bound (front ++ lines_text lines) (read + index) number (count - index) least
      → AreFirstLines bytes bound (front ++ lines_text (lines ++ record { line = k; bytes = held } ∷ [])) (read + (index + 1)) number (count - (index + 1)) (k + 1)
  record_step front read index count number least k lines held inside le lt sized all is =
      let owed : count - index ≡ suc (count - (index + 1)) = omega (arith, inside) in
      let now = read_one bytes bound few (front ++ lines_text lines) (read + index) number (count - (index + 1)) least k held le lt sized all (rw owed at is) in
      let text = append_assoc front (lines_text lines) (line_line k held) in
      let one = one_text lines (record { line = k; bytes = held }) in
      grind (arith, now, text, one)

  pub record_bad : (front text left : List ℕ) (read index count number least : ℕ) (lines : List ShipLine) → index < count → least + (count - index) ≤ bound → number < 2 ^ 64 → text ≡ lines_text lines ++ left
      → AreFirstLines bytes bound (front ++ lines_text lines) (read + index) number (count - index) least
      → ((one : ℕ × List ℕ × List ℕ) → ¬ ((least ≤ one.0) × (one.0 ≤ bound - (count - index)) × (length one.1 ≡ bytes) × All (λ byte. byte < 256) one.1 × (left ≡ line_line one.0 one.1 ++ one.2))) → IsFirstBad (front ++ text) (read + index + 1)
  record_bad front text left read index count number least lines inside room small text_is is none =
      let owed : count - index ≡ suc (count - (index + 1)) = omega (arith, inside) in
      let was = subst (λ (n : ℕ). AreFirstLines bytes bound (front ++ lines_text lines) (read + index) number n least) owed is in
      bad_here bytes bound few (front ++ lines_text lines) (read + index) number (suc (count - (index + 1))) least (front ++ text) left was small (omega (arith, room, owed))
      (ap (λ (these : List ℕ). front ++ these) text_is ∙ sym (append_assoc front (lines_text lines) left))
      (λ line more may same. none (may.0, may.1, more) (may.2, omega (arith, may.3, owed), may.4, may.5, same ∙ ap (λ (these : List ℕ). these ++ more) may.6))

  -- a record more
  pub records_step : (head : List ℕ) (read number start count : ℕ) (records : List (List ShipLine)) (lines : List ShipLine) → number ≡ later start (length records) → count ≤ bound → length lines ≡ count
      → AreFirstLines bytes bound (head ++ records_text start records) read number 0 0
      → (AreFirstLines bytes bound ((head ++ records_text start records) ++ record_line (next number) count) (read + 1) (next number) count 0
      → AreFirstLines bytes bound (((head ++ records_text start records) ++ record_line (next number) count) ++ lines_text lines) (read + 1 + count) (next number) 0 0)
      → AreFirstLines bytes bound (head ++ records_text start (records ++ lines ∷ [])) (read + 1 + count) (next number) 0 0
  records_step head read number start count records lines number_is le many is goes =
      let front = head ++ records_text start records in
      let now = goes (read_count bytes bound few front read number 0 count le is) in
      let text : (front ++ record_line (next number) count) ++ lines_text lines ≡ head ++ records_text start (records ++ lines ∷ []) = cc (append_assoc front (record_line (next number) count) (lines_text lines), append_assoc head (records_text start records) (record_line (next number) count ++ lines_text lines), records_one start number count records lines number_is many) in
      rw text at now
