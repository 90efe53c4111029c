-- Bytes that stay, and newest bytes that are written home.
use Rattle.store.proofs.Common.{◌≡◌, inl, inr, ℕ, ◌+◌, ◌*◌, ◌-◌, ◌<◌, ◌≤◌, List, length, take, drop, refl, sym, ◌∙◌, ap, subst, arith, Option, None, Some, fold, drop-drop, take_at, length-drop, length-take-le, line_count, PageSize, Which, Header, home_at, bank_at, BankView, end_of, line_bytes_of, RecordLine, IsStore, laid, home_of, shorter_front, rest_front, area_within, store_front, behind_bytes, bytes_at, written, Torn, torn_by_written, home_line, home_place, copied, TornLine, IsHomeOffset, IsHomeCovered, IsHomed, cases_lt, cases_eq, nat_tests, get_or-drop, same_byte, IsSameBut, IsApart, slice_index, store_big, newest_place, lines-below, ◌∷◌, [], line_bytes, Wrote, copy_deeds}
use Rattle.store.proofs.Newest.{bytes_of_line, newest_bytes, store_agrees, held_records, newest_within, same_lines}
use Rattle.store.proofs.NoteLemmas.{drop-overlaid}

pub same_behind : (k i : ℕ) (xs ys : List ℕ) → drop k xs ≡ drop k ys → k ≤ i → slice_index xs i ≡ slice_index ys i
same_behind k i xs ys same after =
    let whole : k + (i - k) ≡ i = omega (arith, after) in
    cc (whole, get_or-drop k xs (i - k) 0, same, get_or-drop k ys (i - k) 0)

pub more_offsets : (P Q : ℕ → Type 0) (old image : List ℕ) → ((at : ℕ) → P at → Q at) → IsSameBut P old image → IsSameBut Q old image
more_offsets P Q old image wider is = record { long = is.long; same = λ at no. is.same at (λ one. no (wider at one)) }

module _ (P : ℕ → Type 0) where
  pub but_on : (old mid image : List ℕ) → IsSameBut P old mid → IsSameBut P mid image → IsSameBut P old image
  but_on old mid image first later = record { long = later.long ∙ first.long; same = λ at no. later.same at no ∙ first.same at no }

  -- the same but between two places
  pub but_between : (from to : ℕ) (old image : List ℕ) → ((at : ℕ) → from ≤ at → at < to → P at) → IsApart from to old image → IsSameBut P old image
  but_between from to old image here apart = record {
    long = apart.long;
    same = λ at no. elim (cases_lt at from) [
      | inl before ↦ same_byte at from image old apart.front before
      | inr after ↦ elim (cases_lt at to) [
        | inl inside ↦ absurd (no (here at after inside))
        | inr beyond ↦ same_behind to at image old apart.behind beyond
      ]
    ];
  }

  pub torn_but : (from count : ℕ) (old image : List ℕ) → from + count ≤ length old → ((at : ℕ) → from ≤ at → at < from + count → P at) → Torn from count old image → IsSameBut P old image
  torn_but from count old image within here torn = but_between from (from + count) old image here (record { front = torn.before; behind = torn.after; long = omega (arith, torn.no_shorter, torn.no_longer, within) })

-- a line of the home lines
home_is : (header : Header) (image : List ℕ) (line : ℕ) → bytes_of_line header.directory.page line (home_of image header) ≡ home_line header image line
home_is header image line = grind (arith, nat_tests, drop-drop)

-- both banks lie in front of the home lines
pub end_within : (which : Which) (bank : BankView) (lines : ℕ) → end_of which bank.bank_bytes ≤ home_place bank lines
end_within which bank lines = grind (arith, nat_tests)

-- bytes in the same front
pub front_bytes : (page : PageSize) (old new : List ℕ) (k place : ℕ) → take k new ≡ take k old → place + line_bytes page ≤ k → bytes_at new place (line_bytes page) ≡ bytes_at old place (line_bytes page)
front_bytes page old new k place same within = shorter_front (line_bytes page) (k - place) (drop place new) (drop place old) (rest_front place k new old same (omega arith)) (omega arith)

-- at first no line is written home
pub homed_start : (header : Header) (records : List (List RecordLine)) (held : List ℕ) → IsHomed header records held 0 held
homed_start header records held = record {
  covered = record { front = refl; others = λ line below none. refl; apart = record { long = refl; same = λ at no. refl } };
  homed = λ line place up below there. absurd (omega (arith, up));
}

module _ (header : Header) (which : Which) (base gate : ℕ) (records : List (List RecordLine)) (held : List ℕ) (is : IsStore held header which base gate records) where
  abbrev bound : ℕ
  bound = line_count header.directory

  -- the newest place of a line lies in front of the home lines
  placed : (line place : ℕ) → newest_place line records ≡ Some place → place + line_bytes header.directory.page ≤ home_at header 0
  placed line place there =
      let records_there = held_records header.directory.page held bound (bank_at header which) header.bank_bytes gate records (omega (arith, (area_within header which).0, is.whole)) is.holds in
      let inside = newest_within header.directory.page bound (bank_at header which + 8 + header.bank_bytes) held line place records records_there there in
      omega (arith, inside, (area_within header which).0)

  -- a copy of a line's newest bytes asks the same, whichever lines are at home already
  pub copies_same : (start : List ℕ) → IsHomeCovered header records held start → (line : ℕ) (place : Option ℕ) → newest_place line records ≡ place → (width to : ℕ) → width ≡ line_bytes header.directory.page → copy_deeds width start place to ≡ copy_deeds width held place to
  copies_same start covered line None there width to wide = refl
  copies_same start covered line (Some at) there width to wide =
      ap (λ (bytes : List ℕ). Wrote to bytes ∷ [])
      (ap (λ (n : ℕ). bytes_at start at n) wide ∙ front_bytes header.directory.page held start (home_at header 0) at covered.front (placed line at there) ∙ sym (ap (λ (n : ℕ). bytes_at held at n) wide))

  module _ (start image : List ℕ) (covered : IsHomeCovered header records held start) (line place : ℕ) (below : line < bound) (there : newest_place line records ≡ Some place) (torn : Torn (home_at header line) (line_bytes header.directory.page) start image) where
    -- another line's home is as it was
    other_home : (k : ℕ) → (k ≡ line → ⊥) → k < bound → home_line header image k ≡ home_line header start k
    other_home k different within = elim (cases_lt k line) [
      | inl before ↦ front_bytes header.directory.page start image (home_at header line) (home_at header k) torn.before (omega (arith, lines-below header.directory.page k line before))
      | inr behind ↦
          let less : line < k = omega (arith, behind, different) in
          ap (λ (these : List ℕ). take (line_bytes header.directory.page) these)
          (behind_bytes start image (home_at header line + line_bytes header.directory.page) (home_at header k) torn.after
          (omega (arith, lines-below header.directory.page line k less)))
    ]

    pub torn_covered : IsHomeCovered header records held image
    torn_covered = record {
      front = shorter_front (home_at header 0) (home_at header line) image start torn.before (omega arith) ∙ covered.front;
      others = λ k within none. other_home k (λ same. let both : None ≡ Some place = sym none ∙ ap (λ (n : ℕ). newest_place n records) same ∙ there in cc) within ∙ covered.others k within none;
      apart =
          but_on (IsHomeOffset header records) held start image covered.apart
          (torn_but (IsHomeOffset header records) (home_at header line) (line_bytes header.directory.page) start image (omega (arith, covered.apart.long, is.whole, lines-below header.directory.page line bound below))
          (λ at after inside. record { line = line; place = place; below = below; there = there; from = after; to = inside }) torn);
    }

  -- one line more at home
  pub homed_none : (upto : ℕ) (image : List ℕ) → IsHomed header records held upto image → newest_place upto records ≡ None → IsHomed header records held (upto + 1) image
  homed_none upto image homed none = record {
    covered = homed.covered;
    homed = λ line place up below there.
        let other : line ≡ upto → ⊥ = λ same. let both : None ≡ Some place = sym none ∙ ap (λ (n : ℕ). newest_place n records) (sym same) ∙ there in cc in
        homed.homed line place (omega (arith, up, other)) below there;
  }

  -- and so are lines that no record has
  pub homed_gap : (from to : ℕ) (image : List ℕ) → IsHomed header records held from image → ((line : ℕ) → from ≤ line → line < to → newest_place line records ≡ None) → IsHomed header records held to image
  homed_gap from to image homed none = record {
    covered = homed.covered;
    homed = λ line place up below there. elim (cases_lt line from) [
      | inl before ↦ homed.homed line place before below there
      | inr behind ↦ let both : None ≡ Some place = sym (none line behind up) ∙ there in absurd (let no : ⊥ = cc in no)
    ];
  }

  module _ (upto place : ℕ) (start : List ℕ) (homed : IsHomed header records held upto start) (below : upto < bound) (there : newest_place upto records ≡ Some place) where
    abbrev piece : List ℕ
    piece = bytes_at start place (line_bytes header.directory.page)

    abbrev now : List ℕ
    now = written start (home_at header upto) piece

    length-piece : length piece ≡ line_bytes header.directory.page
    length-piece = length-take-le (line_bytes header.directory.page) (drop place start) (omega (arith, length-drop place start, homed.covered.apart.long, is.whole, placed upto place there))

    torn_now : Torn (home_at header upto) (line_bytes header.directory.page) start now
    torn_now = torn_by_written start (home_at header upto) piece (omega (arith, homed.covered.apart.long, is.whole, lines-below header.directory.page upto bound below)) (line_bytes header.directory.page) (omega (arith, length-piece))

    here : home_line header now upto ≡ piece
    here =
        ap (λ (these : List ℕ). take (line_bytes header.directory.page) these) (drop-overlaid start (home_at header upto) piece (omega (arith, homed.covered.apart.long, is.whole, lines-below header.directory.page upto bound below)))
        ∙ take_at piece (drop (home_at header upto + length piece) start) (line_bytes header.directory.page) length-piece

    pub homed_more : IsHomed header records held (upto + 1) (written start (home_at header upto) (bytes_at start place (line_bytes header.directory.page)))
    homed_more = record {
      covered = torn_covered start now homed.covered upto place below there torn_now;
      homed = λ line at up within found. elim (cases_eq line upto) [
        | inl same ↦
            let both : Some at ≡ Some place = sym found ∙ ap (λ (n : ℕ). newest_place n records) same ∙ there in
            let place_is : place ≡ at = cc in
            ap (home_line header now) same ∙ here ∙ front_bytes header.directory.page held start (home_at header 0) place homed.covered.front (placed upto place there) ∙ ap (λ (n : ℕ). bytes_at held n (line_bytes header.directory.page)) place_is
        | inr other ↦ other_home start now homed.covered upto place below there torn_now line other within ∙ homed.homed line at (omega (arith, up, other)) within found
      ];
    }

  module _ (image : List ℕ) (covered : IsHomeCovered header records held image) where
    pub covered_store : IsStore image header which base gate records
    covered_store =
        store_front header which base gate records held is image (home_at header 0)
        (store_big header which base gate records held is) covered.front (area_within header which).0 covered.apart.long

    line_same : (line : ℕ) (place : Option ℕ) → line < bound → newest_place line records ≡ place → newest_bytes header.directory.page image (home_of image header) line place ≡ newest_bytes header.directory.page held (home_of held header) line place
    line_same line None below none = home_is header image line ∙ covered.others line below none ∙ sym (home_is header held line)
    line_same line (Some place) below there = front_bytes header.directory.page held image (home_at header 0) place covered.front (placed line place there)

    -- the store is the same
    pub covered_bytes : fold (laid header.directory.page) (home_of image header) records ≡ fold (laid header.directory.page) (home_of held header) records
    covered_bytes =
        let first = store_agrees image header which base gate records covered_store in
        let second = store_agrees held header which base gate records is in
        same_lines header.directory.page bound (fold (laid header.directory.page) (home_of image header) records) (fold (laid header.directory.page) (home_of held header) records) first.long second.long
        (λ line below. first.each line below ∙ line_same line (newest_place line records) below refl ∙ sym (second.each line below))

  -- with all lines at home the home lines are the store
  pub homed_bytes : (image : List ℕ) → IsHomed header records held bound image → home_of image header ≡ fold (laid header.directory.page) (home_of held header) records
  homed_bytes image homed =
      let agrees = store_agrees held header which base gate records is in
      same_lines header.directory.page bound (home_of image header) (fold (laid header.directory.page) (home_of held header) records) (omega (arith, length-drop (home_at header 0) image, homed.covered.apart.long, is.whole)) agrees.long
      (λ line below. line_home line (newest_place line records) below refl ∙ sym (agrees.each line below))
    where
      line_home : (line : ℕ) (place : Option ℕ) → line < bound → newest_place line records ≡ place → bytes_of_line header.directory.page line (home_of image header) ≡ newest_bytes header.directory.page held (home_of held header) line place
      line_home line None below none = home_is header image line ∙ homed.covered.others line below none ∙ sym (home_is header held line)
      line_home line (Some place) below there = home_is header image line ∙ homed.homed line place below below there

  -- a line after its bytes were copied, where there are any
  module _ (bank : BankView) (line : ℕ) (sized : header.directory.page ≡ bank.page) (same : header.bank_bytes ≡ bank.bank_bytes) (below : line < bound) where
    home_same : home_place bank line ≡ home_at header line
    home_same = omega (arith, same, ap (λ (page : PageSize). line_bytes page * line) sized)

    width : line_bytes_of bank ≡ line_bytes header.directory.page
    width = ap line_bytes (sym sized)

    pub step_covered : (place : Option ℕ) → newest_place line records ≡ place → (start image : List ℕ) → IsHomeCovered header records held start → TornLine (line_bytes_of bank) place (home_place bank line) start image → IsHomeCovered header records held image
    step_covered None there start image covered torn = subst (λ (those : List ℕ). IsHomeCovered header records held those) (sym torn) covered
    step_covered (Some place) there start image covered torn =
        torn_covered start image covered line place below there (subst (λ (n : ℕ). Torn n (line_bytes header.directory.page) start image) home_same (subst (λ (n : ℕ). Torn (home_place bank line) n start image) width torn))

    pub step_homed : (place : Option ℕ) → newest_place line records ≡ place → (start image : List ℕ) → IsHomed header records held line start → image ≡ copied (line_bytes_of bank) start place (home_place bank line) → IsHomed header records held (line + 1) image
    step_homed None there start image homed is_copied = homed_none line image (subst (λ (those : List ℕ). IsHomed header records held line those) (sym is_copied) homed) there
    step_homed (Some place) there start image homed is_copied =
        subst (λ (those : List ℕ). IsHomed header records held (line + 1) those) (sym (is_copied ∙ ap (λ (n : ℕ). written start (home_place bank line) (bytes_at start place n)) width ∙ ap (λ (n : ℕ). written start n (bytes_at start place (line_bytes header.directory.page))) home_same)) (homed_more line place start homed below there)
