-- What an image stands for where bytes outside its chosen bank have changed.
use Rattle.store_format.proofs.Common.{◌≡◌, ℕ, zero, suc, ◌+◌, ◌%◌, ◌^◌, ◌<◌, ◌≤◌, false, List, [], length, take, drop, refl, ◌∙◌, ap, arith, slice_index, drop-drop, get_or-drop, Which, Header, fields, first_fault, header_of, bank_at, number_at, RecordLine, Area, Gate, Closed, Wrong, Sound, gate_at, holds_from, area_at, area_of, base_of, bank_of, stands, IsStore, HasHeader, laid, home_of, chosen, ◌==◌, ◌-◌, fold}
use Rattle.store_format.proofs.Fronts.{shorter_front, same_byte}
use Rattle.store_format.proofs.Walk.{sound_is, closed_gate}
use Rattle.store_format.proofs.Sound.{sound_header}
use Rattle.store_format.proofs.Stores.{end_of, store_same, stands_is}

-- bytes behind what is the same
pub behind_bytes : (old new : List ℕ) (k place : ℕ) → drop k new ≡ drop k old → k ≤ place → drop place new ≡ drop place old
behind_bytes old new k place same behind =
    let whole : k + (place - k) ≡ place = omega arith in
    cc (whole, drop-drop (place - k) k new, same, drop-drop (place - k) k old)

pub byte_behind : (old new : List ℕ) (k i : ℕ) → drop k new ≡ drop k old → k ≤ i → slice_index new i ≡ slice_index old i
byte_behind old new k i same behind =
    let whole : k + (i - k) ≡ i = omega (arith, behind) in
    cc (whole, get_or-drop k new (i - k) 0, same, get_or-drop k old (i - k) 0)

-- with the same bytes from an offset on the gates there are the same
module _ (image new : List ℕ) (from : ℕ) (same : drop from new ≡ drop from image) where
  gate_behind : (area : Area) (number gate : ℕ) → from ≤ gate → gate_at new area number gate ≡ gate_at image area number gate
  gate_behind area number gate behind = cc (byte_behind image new from gate same behind, behind_bytes image new from gate same behind)

  holds_behind : (area : Area) (most number gate : ℕ) (at : Gate) → from ≤ gate → gate_at image area number gate ≡ at → holds_from new area most number at ≡ holds_from image area most number at
  unfolding holds_from
  holds_behind area most number gate (Closed closed) behind is = refl
  holds_behind area most number gate (Wrong offset) behind is = refl
  holds_behind area zero number gate (Sound lines next) behind is = refl
  holds_behind area (suc most) number gate (Sound lines next) behind is =
      let sound = sound_is area.page (slice_index image gate == 0xA5) area.bound area.end ((number + 1) % 2 ^ 64) gate (drop gate image) lines next is in
      let after : from ≤ next = omega (arith, sound.is_next) in
      cc (gate_behind area (number + 1) next after, holds_behind area most (number + 1) next (gate_at image area (number + 1) next) after refl)

-- with the same bytes from a bank on, the bank is the same
module _ (header : Header) (which : Which) (image new : List ℕ) (same : drop (bank_at header which) new ≡ drop (bank_at header which) image) where
  pub base_behind : base_of new header which ≡ base_of image header which
  base_behind = ap (λ (these : List ℕ). number_at these 0 8) same

  pub bank_behind : bank_of new header which ≡ bank_of image header which
  bank_behind =
      let area = area_of header which in
      let start = area_at header which in
      cc (base_behind, gate_behind image new (bank_at header which) same area (base_of image header which) start (omega arith), holds_behind image new (bank_at header which) same area header.bank_bytes (base_of image header which) start (gate_at image area (base_of image header which) start) (omega arith) refl)

-- the same header and length
pub same_header : (header : Header) (image new : List ℕ) → HasHeader image header → take 128 new ≡ take 128 image → length new ≡ length image → HasHeader new header
same_header header image new has front long = record {
  sound = ap (λ (n : ℕ). first_fault n (fields (take 128 new))) long ∙ ap (λ (these : List ℕ). first_fault (length image) (fields these)) front ∙ has.sound;
  said = ap header_of front ∙ has.said;
  whole = long ∙ has.whole;
}

pub header_held : (header : Header) (which : Which) (base gate : ℕ) (records : List (List RecordLine)) (image : List ℕ) → IsStore image header which base gate records → HasHeader image header
header_held header which base gate records image is = record { sound = is.sound; said = is.said; whole = is.whole }

module _ (header : Header) (which : Which) (base gate : ℕ) (records : List (List RecordLine)) (image : List ℕ) (is : IsStore image header which base gate records) where
  -- the bytes of the bank and behind it are the same, and the header and the choice
  pub store_behind : (new : List ℕ) → HasHeader new header → chosen new ≡ which → drop (bank_at header which) new ≡ drop (bank_at header which) image → IsStore new header which base gate records
  store_behind new has chooses same = record {
    sound = has.sound;
    said = has.said;
    whole = has.whole;
    chooses = chooses;
    from = base_behind header which image new same ∙ is.from;
    holds = bank_behind header which image new same ∙ is.holds;
  }

  -- the bytes up to the end of the bank are the same
  pub store_front : (new : List ℕ) (k : ℕ) → 0 < header.bank_bytes → take k new ≡ take k image → (area_of header which).end ≤ k → length new ≡ length image → IsStore new header which base gate records
  store_front new k big front within long =
      let ends = end_of image header which base gate records is big in
      let inside : gate < k = omega (arith, ends.fits, within) in
      store_same image header which base gate records is big new (shorter_front gate k new image front (omega (arith, inside))) long
      (ap (λ (n : ℕ). n == 0xA5) (same_byte gate k new image front inside) ∙ ends.closed)

-- the banks of a store have bytes
pub store_big : (header : Header) (which : Which) (base gate : ℕ) (records : List (List RecordLine)) (image : List ℕ) → IsStore image header which base gate records → 0 < header.bank_bytes
store_big header which base gate records image is =
    let head = sound_header (take 128 image) (length image) is.sound in
    let bytes : number_at (take 128 image) 12 4 ≡ header.bank_bytes = ap (λ (those : Header). those.bank_bytes) is.said in
    omega (arith, head.least_bank, bytes)

-- a bank that was begun anew: a base, and a closed gate
pub store_empty : (header : Header) (which : Which) (base : ℕ) (image : List ℕ) → HasHeader image header → chosen image ≡ which → base_of image header which ≡ base → (slice_index image (area_at header which) == 0xA5) ≡ false
    → IsStore image header which base (area_at header which) []
unfolding holds_from
store_empty header which base image has chooses from closed = record {
  sound = has.sound;
  said = has.said;
  whole = has.whole;
  chooses = chooses;
  from = from;
  holds = ap (holds_from image (area_of header which) header.bank_bytes (base_of image header which)) (closed_gate image (area_of header which) (base_of image header which) (area_at header which) closed);
}

-- two stores of one number and the same bytes stand for the same
pub stands_alike : (header : Header) (image other : List ℕ) (which those : Which) (base from gate at : ℕ) (records more : List (List RecordLine)) → IsStore image header which base gate records → IsStore other header those from at more
    → (base + length records) % 2 ^ 64 ≡ (from + length more) % 2 ^ 64 → fold (laid header.directory.page) (home_of image header) records ≡ fold (laid header.directory.page) (home_of other header) more → stands image ≡ stands other
stands_alike header image other which those base from gate at records more first second number bytes = cc (stands_is image header which base gate records first, number, bytes, stands_is other header those from at more second)
