-- Records that are read, and a walk from gate to gate of a bank.
use Rattle.store.proofs.Common.{◌≡◌, ℕ, suc, ◌+◌, ◌*◌, ◌-◌, ◌<◌, ◌≤◌, true, false, List, [], ◌∷◌, take, drop, refl, sym, subst, ◌∙◌, ap, arith, slice_index, nat_tests, drop-drop, take-take, get_or-take, get_or-drop, big_number, big_from-take, PageSize, entry_bytes, RecordLine, lines_from, wrong_line, count_of, lined_gate, gate_if, Wrong, same_number_at, fault_none, ForSome, bytes_at, noted, read_is, Option, IsSome, IfSome, unwrap_or, ◌&&◌, nat_le, nat_lt, ◌==◌, length, ◌%◌, ◌^◌, ◌++◌, length-append, fold, append-nil, append_assoc, Area, Gate, Closed, Sound, BankContent, Holds, Faulty, gate_at, holds_from, preceded, sound_is, AreRead, parsed_lines, record_bytes, head_fault, None, held_number}
use Rattle.std.proofs.lemmas.List.Sums.{fold-append}

pub is_low : (bound least line : ℕ) → line < least → nat_le least line && nat_lt line bound ≡ false
is_low bound least line low = grind (arith, nat_tests)

pub is_high : (bound least line : ℕ) → bound ≤ line → nat_le least line && nat_lt line bound ≡ false
is_high bound least line high = grind (arith, nat_tests)

-- the count and the number of a head that was read
head_read : (held head : List ℕ) (gate count number : ℕ) → head ≡ bytes_at held (gate + 1) 10 → count ≡ big_number 2 head → number ≡ big_number 8 (take 8 (drop 2 head)) → (count_of (drop gate held) ≡ count) × (held_number (drop gate held) ≡ number)
head_read held head gate count number read counted numbered =
    let bytes = drop gate held in
    let behind : drop 1 bytes ≡ drop (gate + 1) held = drop-drop 1 gate held in
    let front : head ≡ take 10 (drop 1 bytes) = read ∙ ap (λ (these : List ℕ). take 10 these) (sym behind) in (
      sym (counted ∙ ap (λ (these : List ℕ). big_number 2 these) front ∙ big_from-take 0 2 10 (drop 1 bytes) (omega arith)),
      ap (λ (these : List ℕ). big_number 8 these) (sym (drop-drop 2 1 bytes))
          ∙ sym (same_number_at 2 8 10 (take 10 (drop 1 bytes)) (drop 1 bytes) (take-take 10 10 (drop 1 bytes) (omega arith)) (omega arith))
          ∙ ap (λ (these : List ℕ). big_number 8 (drop 2 these)) (sym front)
          ∙ sym (big_from-take 0 8 8 (drop 2 head) (omega arith))
          ∙ sym numbered,
    )

-- a record with another number than is due
pub gate_misnumbered : (page : PageSize) (held head : List ℕ) (bound end due gate count number : ℕ) → head ≡ bytes_at held (gate + 1) 10 → count ≡ big_number 2 head → number ≡ big_number 8 (take 8 (drop 2 head)) → (number ≡ due → ⊥)
    → (slice_index held gate == 0xA5) ≡ true → gate + 11 + entry_bytes page * count + 1 ≤ end → gate_if page (slice_index held gate == 0xA5) bound end due gate (drop gate held) ≡ Wrong (gate + 3)
gate_misnumbered page held head bound end due gate count number read counted numbered other shown fits = grind (arith, nat_tests, head_read, counted, numbered)

-- a record whose head was read
pub gate_read : (page : PageSize) (held head : List ℕ) (bound end due gate count number : ℕ) → head ≡ bytes_at held (gate + 1) 10 → count ≡ big_number 2 head → number ≡ big_number 8 (take 8 (drop 2 head)) → number ≡ due
    → (slice_index held gate == 0xA5) ≡ true → gate + 11 + entry_bytes page * count + 1 ≤ end
    → gate_if page (slice_index held gate == 0xA5) bound end due gate (drop gate held)
    ≡ lined_gate (wrong_line bound 0 (lines_from page count (gate + 11) (drop (gate + 11) held))) (lines_from page count (gate + 11) (drop (gate + 11) held)) (gate + 11 + entry_bytes page * count)
gate_read page held head bound end due gate count number read counted numbered due_is shown fits =
    let bytes = drop gate held in
    let is = head_read held head gate count number read counted numbered in
    let count_is : count_of bytes ≡ count = is.0 in
    let number_is : held_number bytes ≡ due = is.1 ∙ due_is in
    let sized : record_bytes page (count_of bytes) ≡ 11 + entry_bytes page * count = ap (record_bytes page) count_is in
    let none : head_fault page end due gate bytes ≡ None = fault_none page end due gate bytes number_is (omega (arith, sized, fits)) in
    let lines : parsed_lines page gate bytes ≡ lines_from page count (gate + 11) (drop (gate + 11) held) =
    ap (λ (n : ℕ). lines_from page n (gate + 11) (drop 11 bytes)) count_is ∙ ap (λ (these : List ℕ). lines_from page count (gate + 11) these) (drop-drop 11 gate held) in
    let next : gate + record_bytes page (count_of bytes) ≡ gate + 11 + entry_bytes page * count = omega (arith, sized) in
    cc (shown, none, lines, next)

-- the byte at a gate that was read
pub first_read : (held first : List ℕ) (gate : ℕ) → first ≡ bytes_at held gate 1 → slice_index first 0 ≡ 0xA5 → (slice_index held gate == 0xA5) ≡ true
first_read held first gate read shown =
    let same : gate + 0 ≡ gate = omega arith in
    let byte : slice_index held gate ≡ 0xA5 = cc (same, read, shown, get_or-take 1 (drop gate held) 0 0 (omega arith), get_or-drop gate held 0 0) in
    ap (λ (n : ℕ). n == 0xA5) byte

-- a read within the bytes that are held
pub reads_within : (told : Option (List ℕ)) (n count : ℕ) → n ≤ count → ForSome told (λ bytes. count ≤ length bytes) → ForSome told (λ bytes. n ≤ length bytes)
reads_within told n count few room bytes is = omega (arith, room bytes is)

-- bytes that were read behind calls that left those held alone
pub read_on : (old mid : Option (List ℕ)) (into : List ℕ) (at count : ℕ) → mid ≡ old → IsSome old → IfSome mid (λ bytes. into ≡ bytes_at bytes at count) → into ≡ bytes_at (unwrap_or old []) at count
read_on old mid into at count same some read = read_is old into at count some (subst (λ (those : Option (List ℕ)). IfSome those (λ bytes. into ≡ bytes_at bytes at count)) same read)

abbrev pub area_to : PageSize → ℕ → ℕ → Area
area_to page bound end = record { page = page; bound = bound; end = end }

-- a bank with records in front
abbrev behind : List (List RecordLine) → BankContent → BankContent
behind records (Holds gate rest) = Holds gate (records ++ rest)
behind records (Faulty offset) = Faulty offset

behind-none : (bank : BankContent) → behind [] bank ≡ bank
behind-none bank = grind (arith, nat_tests)

behind-more : (records : List (List RecordLine)) (lines : List RecordLine) (bank : BankContent) → behind records (preceded lines bank) ≡ behind (records ++ lines ∷ []) bank
behind-more records lines bank = grind (arith, nat_tests, append_assoc)

-- the records that were read so far lead to this gate
pub record Reaches (page : PageSize) (held : List ℕ) (bound end most base from count gate : ℕ) (old new : List (Option ℕ)) : Type 0 where
  pub records : List (List RecordLine)
  pub count_is : length records ≡ count
  pub noted : new ≡ fold noted old records
  pub bank : holds_from held (area_to page bound end) most base (gate_at held (area_to page bound end) base from) ≡ behind records (holds_from held (area_to page bound end) (most - count) (base + count) (gate_at held (area_to page bound end) (base + count) gate))
  pub far : from + 11 * count ≤ gate
  pub inside : gate < end

pub starts : (page : PageSize) (held : List ℕ) (bound end most base from : ℕ) (old : List (Option ℕ)) → from < end → Reaches page held bound end most base from 0 from old old
starts page held bound end most base from old within = record {
  records = [];
  count_is = refl;
  noted = refl;
  bank =
      let fuel : most ≡ most - 0 = omega arith in
      let number : base ≡ base + 0 = omega arith in
      ap (λ (n : ℕ). holds_from held (area_to page bound end) n base (gate_at held (area_to page bound end) base from)) fuel
      ∙ ap (λ (n : ℕ). holds_from held (area_to page bound end) (most - 0) n (gate_at held (area_to page bound end) n from)) number
      ∙ sym (behind-none (holds_from held (area_to page bound end) (most - 0) (base + 0) (gate_at held (area_to page bound end) (base + 0) from)));
  far = omega arith;
  inside = within;
}

-- the gate that was read, with the number that was due
abbrev pub read_gate : PageSize → List ℕ → (bound end due gate : ℕ) → Gate
read_gate page held bound end due gate = gate_if page (slice_index held gate == 0xA5) bound end due gate (drop gate held)

module _ (page : PageSize) (held : List ℕ) (bound end most base from count gate due : ℕ) (old now : List (Option ℕ)) (reaches : Reaches page held bound end most base from count gate old now) (due_is : due ≡ (base + count + 1) % 2 ^ 64) where
  abbrev here : gate_at held (area_to page bound end) (base + count) gate ≡ read_gate page held bound end due gate
  here = ap (λ (n : ℕ). gate_if page (slice_index held gate == 0xA5) bound end n gate (drop gate held)) (sym due_is)

  abbrev whole : BankContent
  whole = holds_from held (area_to page bound end) most base (gate_at held (area_to page bound end) base from)

  abbrev left : Gate → BankContent
  left at = behind reaches.records (holds_from held (area_to page bound end) (most - count) (base + count) at)

  pub read_closed : (new : List (Option ℕ)) → read_gate page held bound end due gate ≡ Closed gate → new ≡ now → AreRead gate count old new whole
  unfolding holds_from
  read_closed new is same = record {
    records = reaches.records;
    holds = reaches.bank ∙ ap left (here ∙ is) ∙ ap (Holds gate) (append-nil reaches.records);
    count_is = reaches.count_is;
    noted = same ∙ reaches.noted;
  }

  pub read_wrong : (offset : ℕ) → read_gate page held bound end due gate ≡ Wrong offset → whole ≡ Faulty offset
  unfolding holds_from
  read_wrong offset is = reaches.bank ∙ ap left (here ∙ is)

  pub read_sound : (new : List (Option ℕ)) (lines : List RecordLine) (next : ℕ) → count < most → read_gate page held bound end due gate ≡ Sound lines next → new ≡ noted now lines → Reaches page held bound end most base from (count + 1) next old new
  unfolding holds_from
  read_sound new lines next more is noted_is =
      let sound = sound_is page (slice_index held gate == 0xA5) bound end due gate (drop gate held) lines next is in
      let fuel : most - count ≡ suc (most - (count + 1)) = omega arith in
      let number : base + count + 1 ≡ base + (count + 1) = omega arith in
      record {
        records = reaches.records ++ lines ∷ [];
        count_is = omega (arith, length-append reaches.records (lines ∷ []), reaches.count_is);
        noted = noted_is ∙ ap (λ (these : List (Option ℕ)). noted these lines) reaches.noted ∙ sym (fold-append noted old reaches.records (lines ∷ []));
        bank = grind (arith, nat_tests, behind-more);
        far = omega (arith, reaches.far, sound.is_next);
        inside = sound.fits;
      }
