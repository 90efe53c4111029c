-- The other bank, its head, and the selector.
use Rattle.store.proofs.Common.{◌≡◌, inl, inr, ◌⊎◌, ℕ, ◌+◌, ◌%◌, ◌^◌, ◌<◌, ◌≤◌, List, [], ◌∷◌, length, drop, refl, ◌∙◌, ap, arith, slice_index, ◌==◌, if◌then◌else◌, fold, Which, A, B, Header, home_at, bank_at, RecordLine, area_at, IsStore, HasHeader, laid, home_of, chosen, stands, shorter_front, same_byte, area_within, same_header, header_held, base_behind, store_behind, store_front, store_empty, store_big, stands_alike, behind_bytes, line_count, written, Torn, torn_by_written, BankView, head_bytes, other, selector_of, IsSameBut, IsHomeOffset, IsCheckpointOffset, IsHomeCovered, IsHomed, IsSame, nat_tests, false, ◌++◌, append_assoc, big_bytes, big_number, big_number-reads_back, base_of, overlaid_within, ◌-◌, bank_number}
use Rattle.store.proofs.HomeLemmas.{more_offsets, but_on, torn_but, covered_store, covered_bytes, homed_bytes, same_behind}
use Rattle.store.proofs.NoteLemmas.{drop-overlaid, byte_written}

-- a bank that begins with a head
pub record IsEmpty (header : Header) (which : Which) (number : ℕ) (image : List ℕ) : Type 0 where
  pub base : base_of image header which ≡ number
  pub closed : (slice_index image (area_at header which) == 0xA5) ≡ false

pub head_long : (number : ℕ) → length (head_bytes number) ≡ 9
head_long number = refl

pub head_empty : (header : Header) (which : Which) (number : ℕ) (old : List ℕ) → bank_at header which ≤ length old → number < 2 ^ 64 → IsEmpty header which number (written old (bank_at header which) (head_bytes number))
head_empty header which number old within fits =
    let at = bank_at header which in
    let image = written old at (head_bytes number) in
    let rest = drop (at + length (head_bytes number)) old in
    let shape : drop at image ≡ big_bytes 8 number ++ (0 ∷ rest) = drop-overlaid old at (head_bytes number) within ∙ append_assoc (big_bytes 8 number) (0 ∷ []) rest in
    let eight : at + 8 - at ≡ 8 = omega arith in
    record {
      base = ap (λ (these : List ℕ). big_number 8 these) shape ∙ big_number-reads_back 8 number (0 ∷ rest) fits;
      closed = ap (λ (n : ℕ). n == 0xA5) (overlaid_within old at (head_bytes number) (at + 8) 0 within (omega arith) (omega arith) ∙ ap (slice_index (head_bytes number)) eight);
    }

-- an image of the same store, with the same home lines
pub record Alike (header : Header) (which : Which) (base gate : ℕ) (records : List (List RecordLine)) (old new : List ℕ) : Type 0 where
  pub store : IsStore new header which base gate records
  pub home : home_of new header ≡ home_of old header

-- the head of the other bank may be anything
pub head_alike : (header : Header) (which : Which) (base gate : ℕ) (records : List (List RecordLine)) (old new : List ℕ) → 0 < header.bank_bytes → IsStore old header which base gate records → Torn (bank_at header (other which)) 9 old new
    → Alike header which base gate records old new
head_alike header A base gate records old new big is torn =
    let long : length new ≡ length old = omega (arith, torn.no_shorter, torn.no_longer, is.whole) in
    record {
      store = store_front header A base gate records old is new (bank_at header B) big torn.before (omega arith) long;
      home = behind_bytes old new (bank_at header B + 9) (home_at header 0) torn.after (omega arith);
    }
head_alike header B base gate records old new big is torn =
    let long : length new ≡ length old = omega (arith, torn.no_shorter, torn.no_longer, is.whole) in
    record {
      store =
          store_behind header B base gate records old is new
          (same_header header old new (header_held header B base gate records old is) (shorter_front 128 256 new old torn.before (omega arith)) long)
          (ap (λ (n : ℕ). if n == 1 then B else A) (same_byte 128 256 new old torn.before (omega arith)) ∙ is.chooses)
          (behind_bytes old new (bank_at header A + 9) (bank_at header B) torn.after (omega arith));
      home = behind_bytes old new (bank_at header A + 9) (home_at header 0) torn.after (omega arith);
    }

module _ (header : Header) (which : Which) (base gate : ℕ) (records : List (List RecordLine)) (old : List ℕ) (is : IsStore old header which base gate records) (number : ℕ) (empty : IsEmpty header (other which) number old) where
  behind_selector : (w : Which) → 129 ≤ bank_at header w
  behind_selector w = omega (arith, (area_within header w).1)

  module _ (image : List ℕ) (torn : Torn 128 1 old image) where
    long : length image ≡ length old
    long = omega (arith, torn.no_shorter, torn.no_longer, is.whole)

    has : HasHeader image header
    has = same_header header old image (header_held header which base gate records old is) torn.before long

    pub home : home_of image header ≡ home_of old header
    home = behind_bytes old image 129 (home_at header 0) torn.after (omega arith)

    pub stays : chosen image ≡ which → IsStore image header which base gate records
    stays chooses = store_behind header which base gate records old is image has chooses (behind_bytes old image 129 (bank_at header which) torn.after (behind_selector which))

    pub turns : chosen image ≡ other which → IsStore image header (other which) number (area_at header (other which)) []
    turns chooses =
        let from = behind_bytes old image 129 (bank_at header (other which)) torn.after (behind_selector (other which)) in
        let byte = same_behind 129 (area_at header (other which)) image old torn.after (omega (arith, behind_selector (other which))) in
        store_empty header (other which) number image has chooses (base_behind header (other which) old image from ∙ empty.base) (ap (λ (n : ℕ). n == 0xA5) byte ∙ empty.closed)

-- a selector chooses the one bank or the other
pub one_of_two : (which those : Which) → (those ≡ which) ⊎ (those ≡ other which)
one_of_two which those = grind (arith, nat_tests)

-- the byte that was written chooses its bank
pub selected : (old : List ℕ) (which : Which) → 129 ≤ length old → chosen (written old 128 (selector_of which ∷ [])) ≡ which
selected old which within = ap (λ (n : ℕ). if n == 1 then B else A) (byte_written old 128 (selector_of which) (omega (arith, within))) ∙ by which
  where
    by : (w : Which) → (if selector_of w == 1 then B else A) ≡ w
    by w = grind (arith, nat_tests)

module _ (header : Header) (bank : BankView) (records : List (List RecordLine)) (held : List ℕ) (is : IsStore held header bank.which bank.base bank.gate records) (counted : length records ≡ bank.count) where
  abbrev number : ℕ
  number = bank_number bank

  abbrev away : Which
  away = other bank.which

  big : 0 < header.bank_bytes
  big = store_big header bank.which bank.base bank.gate records held is

  abbrev written_at : ℕ → Type 0
  written_at = IsCheckpointOffset header bank.which records

  -- home lines, and the head of the other bank, are among the offsets
  covered_apart : (image : List ℕ) → IsHomeCovered header records held image → IsSameBut written_at held image
  covered_apart image covered = more_offsets (IsHomeOffset header records) written_at held image (λ at home. inl home) covered.apart

  headed_apart : (start image : List ℕ) → IsHomeCovered header records held start → Torn (bank_at header away) 9 start image → IsSameBut written_at held image
  headed_apart start image covered torn =
      but_on written_at held start image (covered_apart start covered)
      (torn_but written_at (bank_at header away) 9 start image (omega (arith, covered.apart.long, is.whole, (area_within header away).0, big)) (λ at after inside. inr (inl (after, inside))) torn)

  -- by the old bank
  same_by : (image : List ℕ) → IsStore image header bank.which bank.base bank.gate records → fold (laid header.directory.page) (home_of image header) records ≡ fold (laid header.directory.page) (home_of held header) records → IsSameBut written_at held image → IsSame header bank records held image
  same_by image store bytes apart = record {
    stood = stands_alike header image held bank.which bank.which bank.base bank.base bank.gate bank.gate records records store is refl bytes;
    one_of = inl (record { gate = bank.gate; store = store });
    apart = apart;
  }

  -- home lines were written
  pub covered_same : (image : List ℕ) → IsHomeCovered header records held image → IsSame header bank records held image
  covered_same image covered =
      same_by image (covered_store header bank.which bank.base bank.gate records held is image covered) (covered_bytes header bank.which bank.base bank.gate records held is image covered) (covered_apart image covered)

  -- and the head of the other bank
  pub headed_same : (start image : List ℕ) → IsHomeCovered header records held start → Torn (bank_at header away) 9 start image → IsSame header bank records held image
  headed_same start image covered torn =
      let alike = head_alike header bank.which bank.base bank.gate records start image big (covered_store header bank.which bank.base bank.gate records held is start covered) torn in
      same_by image alike.store (ap (λ (home : List ℕ). fold (laid header.directory.page) home records) alike.home ∙ covered_bytes header bank.which bank.base bank.gate records held is start covered) (headed_apart start image covered torn)

  -- all lines are home, and the other bank begins with its head
  pub record IsHeaded (image : List ℕ) : Type 0 where
    pub store : IsStore image header bank.which bank.base bank.gate records
    pub empty : IsEmpty header away number image
    pub same : fold (laid header.directory.page) (home_of image header) records ≡ fold (laid header.directory.page) (home_of held header) records
    pub bytes : home_of image header ≡ fold (laid header.directory.page) (home_of held header) records
    pub apart : IsSameBut written_at held image

  pub headed : (start : List ℕ) → IsHomed header records held (line_count header.directory) start → IsHeaded (written start (bank_at header away) (head_bytes number))
  headed start homed =
      let image = written start (bank_at header away) (head_bytes number) in
      let within : bank_at header away ≤ length start = omega (arith, homed.covered.apart.long, is.whole, (area_within header away).0) in
      let torn : Torn (bank_at header away) 9 start image = torn_by_written start (bank_at header away) (head_bytes number) within 9 (omega (arith, head_long number)) in
      let covered = covered_store header bank.which bank.base bank.gate records held is start homed.covered in
      let alike = head_alike header bank.which bank.base bank.gate records start image big covered torn in
      record {
        store = alike.store;
        empty = head_empty header away number start within (omega arith);
        same = ap (λ (home : List ℕ). fold (laid header.directory.page) home records) alike.home ∙ covered_bytes header bank.which bank.base bank.gate records held is start homed.covered;
        bytes = alike.home ∙ homed_bytes header bank.which bank.base bank.gate records held is start homed;
        apart = headed_apart start image homed.covered torn;
      }

  module _ (old : List ℕ) (ready : IsHeaded old) where
    -- by the other bank
    moved_stands : (image : List ℕ) → IsStore image header away number (area_at header away) [] → home_of image header ≡ home_of old header → stands image ≡ stands held
    moved_stands image store home =
        let same : (number + 0) % 2 ^ 64 ≡ (bank.base + length records) % 2 ^ 64 = omega (arith, counted) in
        stands_alike header image held away bank.which number bank.base (area_at header away) bank.gate [] records store is same (home ∙ ready.bytes)

    -- and the selector
    pub selected_same : (image : List ℕ) → Torn 128 1 old image → IsSame header bank records held image
    selected_same image torn =
        let apart =
        but_on written_at held old image ready.apart
        (torn_but written_at 128 1 old image (omega (arith, ready.store.whole, (area_within header bank.which).0, (area_within header bank.which).1)) (λ at after inside. let is_it : at ≡ 128 = omega (arith, after, inside) in inr (inr is_it)) torn) in
        elim (one_of_two bank.which (chosen image)) [
          | inl stayed ↦
              same_by image (stays header bank.which bank.base bank.gate records old ready.store number ready.empty image torn stayed)
              (ap (λ (home : List ℕ). fold (laid header.directory.page) home records) (home header bank.which bank.base bank.gate records old ready.store number ready.empty image torn) ∙ ready.same) apart
          | inr went ↦
              let store = turns header bank.which bank.base bank.gate records old ready.store number ready.empty image torn went in
              record {
                stood = moved_stands image store (home header bank.which bank.base bank.gate records old ready.store number ready.empty image torn);
                one_of = inr (record { gate = area_at header away; store = store });
                apart = apart;
              }
        ]

    pub record IsThere (image : List ℕ) : Type 0 where
      pub store : IsStore image header away number (area_at header away) []
      pub stood : stands image ≡ stands held

    pub moved : IsThere (written old 128 (selector_of away ∷ []))
    moved =
        let image = written old 128 (selector_of away ∷ []) in
        let within : 129 ≤ length old = omega (arith, ready.store.whole, (area_within header bank.which).0, (area_within header bank.which).1) in
        let torn : Torn 128 1 old image = torn_by_written old 128 (selector_of away ∷ []) (omega (arith, within)) 1 (omega arith) in
        let store = turns header bank.which bank.base bank.gate records old ready.store number ready.empty image torn (selected old away within) in
        record { store = store; stood = moved_stands image store (home header bank.which bank.base bank.gate records old ready.store number ready.empty image torn) }
