-- What a store shows of bytes, and what these stand for.
use Rattle.store.proofs.Common.{◌≡◌, ℕ, ◌+◌, ◌%◌, ◌^◌, ◌≤◌, List, length, take, sym, ◌∙◌, ap, subst, arith, IsSome, Option, None, fold, line_count, Header, number_at, header_of, total, PageSize, Stands, Damaged, stands, standing_if, standing_by, HasHeader, IsStore, chosen, laid, home_of, stands_is, not_less, FewerLater, held_of, IsChosen, HoldsCommitted, ReopenFault, IsStoreOpenFault, IsStoreReopenFault, StoreView, Fits, with_begun, Shows, IsStoreWith, IsFoundAgain, TracksStore, ShownStands, nat_tests, bank_in, RecordLine, Holds, Faulty, base_of, bank_of, IsSure, HoldsRecords, store_bytes, ⊎_elim, [], ◌∷◌, ◌++◌, refl, unwrap_or, other, emptied, HoldsOneOf, AsksSo, Deed, store_number, Which, Ghosts, BankView, area_end, end_of, begun_of, bank_number as number_in, IsBankOpenFault, IsBankReopenFault}
use Rattle.store.proofs.AppendLemmas.{place_is}
use Rattle.store.specs.declared.open_fault.OpenFault.{OpenFault}
use Rattle.store.specs.declared.open_fault.ReopenFault.TheVariants as reopening
use Rattle.store.specs.declared.open_fault.OpenFault.TheVariants as opening
use Rattle.store.specs.Tracks as journal

-- the bank of a header is the one that such a bank's size says
pub bank_is : (held : List ℕ) (header : Header) (which : Which) (page : PageSize) (bytes bound : ℕ) → header.directory.page ≡ page → header.bank_bytes ≡ bytes → line_count header.directory ≡ bound → bank_of held header which ≡ bank_in held page which bytes bound
bank_is held header which page bytes bound sized same lines = cc (sized, same, lines, place_is header which bytes same)

-- what a store shows is a store with the records of its bank
pub shown_store : (held : List ℕ) (store : StoreView) (shows : Shows held store) → IsStore held store.header store.bank.which store.bank.base store.bank.gate shows.read.records
shown_store held store shows = record {
  sound = shows.header.sound;
  said = shows.header.said;
  whole = shows.header.whole;
  chooses = shows.chosen_is;
  from = ap (λ (n : ℕ). number_at held n 8) (place_is store.header store.bank.which store.bank.bank_bytes shows.fits.bank_bytes) ∙ shows.read.base;
  holds = bank_is held store.header store.bank.which store.bank.page store.bank.bank_bytes (length store.bank.newest) shows.fits.page shows.fits.bank_bytes shows.fits.lines ∙ shows.read.holds;
}

pub shown_stands : ShownStands
shown_stands held store shows = (
  record { directory = store.header.directory; bytes = fold (laid store.header.directory.page) (home_of held store.header) shows.read.records },
  stands_is held store.header store.bank.which store.bank.base store.bank.gate shows.read.records (shown_store held store shows)
      ∙ ap (λ (n : ℕ). Stands ((store.bank.base + n) % 2 ^ 64) (record { directory = store.header.directory; bytes = fold (laid store.header.directory.page) (home_of held store.header) shows.read.records })) shows.read.count,
)

-- a store that is tracked has a bank that is
abbrev pub bank_tracked : {W : Type 0} (G : Ghosts W) (store : StoreView) (outside : W) → TracksStore G store outside → journal.TracksBank G store.bank outside
bank_tracked G store outside tracks = record {
  sure = tracks.sure;
  header = store.header;
  records = tracks.shows.read.records;
  store = shown_store (held_of G outside) store tracks.shows;
  page = tracks.shows.fits.page;
  bank_bytes = tracks.shows.fits.bank_bytes;
  bound = tracks.shows.fits.lines;
  count = tracks.shows.read.count;
  newest = tracks.shows.read.newest;
}

-- a store whose bank is as the header says is as long as the bank thinks
pub total_is : (header : Header) (bank : BankView) → Fits header bank → total header ≡ store_bytes bank
total_is header bank fits = grind (arith, nat_tests)

-- a bank that is tracked under a header is the store's
pub store_tracked : {W : Type 0} (G : Ghosts W) (header : Header) (bank : BankView) (outside : W) → Fits header bank → header_of (take 128 (held_of G outside)) ≡ header → journal.TracksBank G bank outside
    → TracksStore G (record { header = header; bank = bank }) outside
store_tracked G header bank outside fits said tracks =
    let same : tracks.header ≡ header = sym tracks.store.said ∙ said in
    let held = held_of G outside in
    record {
      sure = tracks.sure;
      shows = record {
        header = record { sound = tracks.store.sound; said = said; whole = tracks.store.whole ∙ ap (λ (those : Header). total those) same };
        chosen_is = tracks.store.chooses;
        read = record {
          records = tracks.records;
          base = ap (λ (n : ℕ). number_at held n 8) (sym (place_is tracks.header bank.which bank.bank_bytes tracks.bank_bytes)) ∙ tracks.store.from;
          holds = sym (bank_is held tracks.header bank.which bank.page bank.bank_bytes (length bank.newest) tracks.page tracks.bank_bytes tracks.bound) ∙ tracks.store.holds;
          count = tracks.count;
          newest = tracks.newest;
        };
        fits = fits;
      };
    }

-- a bank with a fault makes a damaged store
pub damaged_is : (held : List ℕ) (header : Header) (which : Which) (offset : ℕ) → HasHeader held header → chosen held ≡ which → bank_of held header which ≡ Faulty offset → stands held ≡ Damaged offset
unfolding stands
damaged_is held header which offset has chooses faulty =
    ap (λ (fault : Option ℕ). standing_if held fault (header_of (take 128 held))) has.sound
    ∙ ap (λ (those : Header). standing_if held None those) has.said
    ∙ rw (not_less (length held) (total header) (omega (arith, has.whole)), not_less (total header) (length held) (omega (arith, has.whole)))
    (ap (λ (b : Which). standing_by held header (base_of held header b) (bank_of held header b)) chooses ∙ ap (standing_by held header (base_of held header which)) faulty)

-- bytes that are sure stay sure while the disk is only asked
pub sure_on : {W : Type 0} (G : Ghosts W) {D : (before after : Option (List Deed)) → Type 0} (fewer_later : FewerLater G) (old new : W) → IsSure G old → AsksSo G D old new → IsSure G new
sure_on G fewer_later old new sure asks = grind (arith, nat_tests)

-- what is wrong with the chosen bank is wrong with the store
pub opening_fault : {W : Type 0} (G : Ghosts W) {D : (before after : Option (List Deed)) → Type 0} (old mid new : W) (header : Header) (fault : OpenFault) → AsksSo G D old mid → (IsSome (G.held old) → HasHeader (held_of G old) header) → IsBankOpenFault G mid new header (chosen (held_of G mid)) fault → IsStoreOpenFault G old new fault
opening_fault G old mid new header (opening.Damaged offset) asks has is =
    λ told.
    let still : IsSome (G.held mid) = subst (λ (those : Option (List ℕ)). IsSome those) (sym asks.held) told in
    let same : held_of G mid ≡ held_of G old = ap (λ (those : Option (List ℕ)). unwrap_or those []) asks.held in
    damaged_is (held_of G old) header (chosen (held_of G old)) offset (has told) refl (ap (λ (held : List ℕ). bank_of held header (chosen held)) (sym same) ∙ is still)
opening_fault G old mid new header _ asks has is = grind (arith, nat_tests)

-- the same of a store that is reopened
pub reopening_fault : {W : Type 0} (G : Ghosts W) {D : (before after : Option (List Deed)) → Type 0} (old mid new : W) (header : Header) (bank : BankView) (fault : ReopenFault) → Fits header bank → AsksSo G D old mid → IsBankReopenFault G mid new (chosen (held_of G mid)) bank fault → IsStoreReopenFault G old new header fault
reopening_fault G old mid new header bank fault fits asks is = grind (arith, nat_tests, bank_is)

-- a store that is intact under a header has no fault in its bank
pub intact_fault : {W : Type 0} (G : Ghosts W) (old new : W) (header : Header) (fault : ReopenFault) → IsSome (G.held old) → IsStoreWith header (held_of G old) → IsStoreReopenFault G old new header fault → fault ≡ reopening.DiskFault
intact_fault G old new header (reopening.Damaged offset) told intact is =
    let held = held_of G old in
    let holds : bank_of held header (chosen held) ≡ Holds intact.gate intact.records = ap (bank_of held header) intact.store.chooses ∙ intact.store.holds in
    let both = sym holds ∙ is told in
    cc
intact_fault G old new header reopening.DiskFault told intact is = refl

-- a chosen bank of the bytes of a store makes that store
pub shows_read : (held : List ℕ) (header : Header) (bank : BankView) → HasHeader held header → Fits header bank → IsChosen held bank → Shows held (record { header = header; bank = bank })
shows_read held header bank has fits read = record { header = has; chosen_is = read.chosen_is; read = read.read; fits = fits }

-- bytes that hold records under a header are intact
pub records_intact : (header : Header) (which : Which) (base : ℕ) (records : List (List RecordLine)) (held : List ℕ) → HoldsRecords header which base records held → IsStoreWith header held
records_intact header which base records held is = record { which = which; base = base; gate = is.gate; records = records; store = is.store }

-- a bank lies in front of the home lines
pub end_inside : (header : Header) (which : Which) (bytes : ℕ) → header.bank_bytes ≡ bytes → end_of which bytes ≤ total header
end_inside header which bytes same = grind (arith, nat_tests)

pub bank_inside : (header : Header) (bank those : BankView) → those ≡ bank → Fits header bank → area_end those ≤ total header
bank_inside header bank those same fits = subst (λ (that : BankView). area_end that ≤ total header) (sym same) (end_inside header bank.which bank.bank_bytes fits.bank_bytes)

-- what a store that was reopened says of the bytes, whatever their header is
pub reopened_holds : (held : List ℕ) (header : Header) (store : StoreView) → store.header ≡ header → IsFoundAgain held store
    → (gate : ℕ) × (records : List (List RecordLine)) × (bank_of held header (chosen held) ≡ Holds gate records) × (store_number store ≡ (base_of held header (chosen held) + length records) % 2 ^ 64)
reopened_holds held header store same is =
    let bank = store.bank in
    let fits = is.fits in
    let base : base_of held store.header (chosen held) ≡ bank.base =
    ap (base_of held store.header) is.chosen_is ∙ ap (λ (n : ℕ). number_at held n 8) (place_is store.header bank.which bank.bank_bytes fits.bank_bytes) ∙ is.read.base in
    subst
    (λ (that : Header). (gate : ℕ) × (records : List (List RecordLine)) × (bank_of held that (chosen held) ≡ Holds gate records)
    × (store_number store ≡ (base_of held that (chosen held) + length records) % 2 ^ 64))
    same (
      bank.gate,
      is.read.records,
      ap (bank_of held store.header) is.chosen_is
          ∙ bank_is held store.header bank.which bank.page bank.bank_bytes (length bank.newest) fits.page fits.bank_bytes fits.lines
          ∙ is.read.holds,
      cc (is.read.count, base),
    )

-- bytes that a commit leaves are intact
one_intact : (header : Header) (which : Which) (base : ℕ) (records : List (List RecordLine)) (lines : List RecordLine) (held : List ℕ) → HoldsOneOf header which base records lines held → IsStoreWith header held
one_intact header which base records lines held one = ⊎_elim (λ before. records_intact header which base records held before) (λ after. records_intact header which base (records ++ lines ∷ []) held after) one

pub committed_intact : (header : Header) (bank : BankView) (records : List (List RecordLine)) (held : List ℕ) → HoldsCommitted header bank records held → IsStoreWith header held
committed_intact header bank records held one =
    ⊎_elim (λ here. one_intact header bank.which bank.base records (begun_of bank) held here) (λ there. one_intact header (other bank.which) (number_in bank) [] (begun_of (emptied bank)) held there) one

-- a store with a record begun shows what it did
pub shows_begun : (store : StoreView) (lines : List RecordLine) (held : List ℕ) → Shows held store → Shows held (with_begun store lines)
shows_begun store lines held shows = grind (arith, nat_tests)
