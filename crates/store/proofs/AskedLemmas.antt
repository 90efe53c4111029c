-- What is asked of a disk, by the bank that is kept and by the bytes that it shows.
use Rattle.store.proofs.Lemmas.{◌≡◌, inl, inr, ℕ, zero, suc, ◌+◌, ◌*◌, ◌%◌, ◌^◌, ◌<◌, ◌≤◌, Bool, true, false, List, [], ◌∷◌, ◌++◌, length, refl, sym, ◌∙◌, ap, subst, append_assoc, arith, nat_tests, length-replicate, Option, None, Some, nat_lt, replicate, slice_index_or, unwrap_or, PageSize, cut_behind, did_none, did_on, did_since, since_as, since_on, base_of, area_at, bank_at, bank_of, BankContent, B, body_deeds, chosen, copy_deeds, Deed, entry_bytes, gate_deeds, Header, Holds, home_at, home_deeds, IsBody, line_bytes, line_count, option_map, other, RecordLine, turn_deeds, Which, Kept, emptied, roomy, checkpoint_deeds, CommitsDeeds, homes_written, IsRecordBody, KeepsDeeds, KeepsRecord, KeptAsks, turn_written, area_end, BankView, bank_number, bank_place, begun_of, end_of, needed_end, newest_place, StoreView, Shows, bank_turned, placed, place_is, roomy_fits, roomy_full, shown_store}
use Rattle.outside.specs.Deeds.{Did, DidSome, IsCut, Since}
use Rattle.store_format.specs.Asked.{chosen_content, chosen_number, checkpoint_asks, CommitAsks, HasRoom, IsRecordAt, MakesRoom, gate_of, record_end, records_of, area_end_of}
use Rattle.store.specs.declared.keep.Kept.TheVariants.{Done, Unwritten, Doubt}

-- no bank is the other one
pub not_other : (which : Which) → which ≡ other which → ⊥
not_other which same = grind arith

-- lines that are placed anew are as many
pub length_placed : (page : PageSize) (at : ℕ) (lines : List RecordLine) → length (placed page at lines) ≡ length lines
length_placed page at [] = refl
length_placed page at (line ∷ lines) = let rest = length_placed page (at + entry_bytes page) lines in omega (arith, rest)

pub same_begun : (page : PageSize) (at : ℕ) (begun : Option (List RecordLine)) → length (unwrap_or (option_map (placed page at) begun) []) ≡ length (unwrap_or begun [])
same_begun page at begun = grind (arith, length_placed)

-- the home lines of places that agree
homes_agree : (page : PageSize) (home : ℕ) (newest newest' : ℕ → Option ℕ) (held : List ℕ) (upto : ℕ) → ((line : ℕ) → line < upto → newest line ≡ newest' line) → home_deeds page home newest held upto ≡ home_deeds page home newest' held upto
homes_agree page home newest newest' held zero agree = refl
homes_agree page home newest newest' held (suc line) agree =
    let before = homes_agree page home newest newest' held line (λ earlier below. agree earlier (omega (arith, below))) in
    let here = agree line (omega arith) in
    λ i. before i ++ copy_deeds (line_bytes page) held (here i) (home + line_bytes page * line)

-- where an area ends
pub end_is : (which : Which) (bytes : ℕ) → end_of which bytes ≡ bank_place which bytes + 8 + bytes
end_is which bytes = grind arith

module _ (held : List ℕ) (store : StoreView) (shows : Shows held store) where
  abbrev bank : BankView
  bank = store.bank

  -- what the chosen bank holds, by the bank that is kept
  content : chosen_content store.header held ≡ Holds bank.gate shows.read.records
  content = ap (bank_of held store.header) shows.chosen_is ∙ (shown_store held store shows).holds

  number : chosen_number store.header held ≡ bank_number bank
  number =
      let base : base_of held store.header (chosen held) ≡ bank.base = ap (base_of held store.header) shows.chosen_is ∙ (shown_store held store shows).from in
      let count : length (records_of (chosen_content store.header held)) ≡ bank.count = ap (λ (those : BankContent). length (records_of those)) content ∙ shows.read.count in
      λ i. (base i + count i) % 2 ^ 64

  place_of : (which : Which) → bank_place which bank.bank_bytes ≡ bank_at store.header which
  place_of which = sym (place_is store.header which bank.bank_bytes shows.fits.bank_bytes)

  -- a checkpoint
  pub checkpoint_shown : checkpoint_deeds bank held ≡ checkpoint_asks store.header held
  checkpoint_shown =
      let home : end_of B bank.bank_bytes ≡ home_at store.header 0 = omega (arith, shows.fits.bank_bytes) in
      let newest : ℕ → Option ℕ = λ (line : ℕ). newest_place line (records_of (chosen_content store.header held)) in
      let agree : (line : ℕ) → line < length bank.newest → slice_index_or bank.newest line None ≡ newest line =
      λ line below. shows.read.newest line below ∙ ap (λ (those : BankContent). newest_place line (records_of those)) (sym content) in
      let homes : homes_written bank held (length bank.newest) ≡ home_deeds store.header.directory.page (home_at store.header 0) newest held (line_count store.header.directory) =
      homes_agree bank.page (end_of B bank.bank_bytes) (λ line. slice_index_or bank.newest line None) newest held (length bank.newest) agree
      ∙ (λ i. home_deeds (sym shows.fits.page i) (home i) newest held (sym shows.fits.lines i)) in
      let turn : turn_written bank ≡ turn_deeds (other (chosen held)) (bank_at store.header (other (chosen held))) (chosen_number store.header held) =
      ap (λ (at : ℕ). turn_deeds (other bank.which) at (bank_number bank)) (place_of (other bank.which))
      ∙ (λ i. turn_deeds (other (sym shows.chosen_is i)) (bank_at store.header (other (sym shows.chosen_is i))) (sym number i)) in
      λ i. homes i ++ turn i

  -- where the chosen bank's records end, and what is behind its gate
  ends : (lines : ℕ) → record_end store.header (gate_of (chosen_content store.header held)) lines ≡ bank.gate + (11 + entry_bytes bank.page * lines) + 1
  ends lines = ap (λ (those : BankContent). record_end store.header (gate_of those) lines) content ∙ ap (λ (page : PageSize). bank.gate + (11 + entry_bytes page * lines) + 1) shows.fits.page

  area_is : area_end_of store.header (chosen held) ≡ area_end bank
  area_is =
      ap (area_end_of store.header) shows.chosen_is
      ∙ (let at = place_of bank.which in let end = end_is bank.which bank.bank_bytes in omega (arith, at, end, shows.fits.bank_bytes))

  -- the body of a record
  record_at : (gate due bound : ℕ) (lines : List RecordLine) (body : List ℕ) (page : PageSize) → page ≡ bank.page → bound ≡ length bank.newest → due ≡ bank_number bank → IsBody page bound ((due + 1) % 2 ^ 64) gate (length lines) lines body → IsRecordAt store.header held gate lines body
  record_at gate due bound lines body page paged bounded numbered is =
      let page_is : page ≡ store.header.directory.page = paged ∙ sym shows.fits.page in
      let bound_is : bound ≡ line_count store.header.directory = bounded ∙ sym shows.fits.lines in
      let due_is : due ≡ chosen_number store.header held = numbered ∙ sym number in
      subst (λ (size : PageSize). IsBody size (line_count store.header.directory) ((chosen_number store.header held + 1) % 2 ^ 64) gate (length lines) lines body) page_is
      (subst (λ (n : ℕ). IsBody page n ((chosen_number store.header held + 1) % 2 ^ 64) gate (length lines) lines body) bound_is
      (subst (λ (n : ℕ). IsBody page bound ((n + 1) % 2 ^ 64) gate (length lines) lines body) due_is is))

  -- a commit that has room asks the record alone
  asks_here : needed_end bank ≤ area_end bank → (body : List ℕ) → IsRecordBody bank body → CommitAsks store.header held (body_deeds bank.gate body) (gate_deeds bank.gate)
  asks_here fits body is =
      let gate : gate_of (chosen_content store.header held) ≡ bank.gate = ap gate_of content in
      let room : record_end store.header (gate_of (chosen_content store.header held)) (length (begun_of bank)) ≤ area_end_of store.header (chosen held) =
      omega (arith, ends (length (begun_of bank)), area_is, fits) in
      let at : IsRecordAt store.header held (gate_of (chosen_content store.header held)) (begun_of bank) body =
      subst (λ (n : ℕ). IsRecordAt store.header held n (begun_of bank) body) (sym gate) (record_at bank.gate (bank_number bank) (length bank.newest) (begun_of bank) body bank.page refl refl refl is) in
      subst (λ (n : ℕ). CommitAsks store.header held (body_deeds n body) (gate_deeds n)) gate (HasRoom room at)

  -- and one that makes room a checkpoint first
  asks_there : area_end bank < needed_end bank → (body : List ℕ) → IsRecordBody (emptied bank) body → CommitAsks store.header held (checkpoint_deeds bank held ++ body_deeds (emptied bank).gate body) (gate_deeds (emptied bank).gate)
  asks_there full body is =
      let there = emptied bank in
      let lines = begun_of there in
      let gate : area_at store.header (other (chosen held)) ≡ there.gate =
      ap (λ (which : Which). area_at store.header (other which)) shows.chosen_is ∙ (let at = place_of (other bank.which) in omega (arith, at)) in
      let many : length lines ≡ length (begun_of bank) = same_begun bank.page _ bank.begun in
      let room : area_end_of store.header (chosen held) < record_end store.header (gate_of (chosen_content store.header held)) (length lines) =
      omega (arith, ends (length lines), area_is, full, ap (λ (n : ℕ). entry_bytes bank.page * n) many) in
      let count : length there.newest ≡ length bank.newest = length-replicate (length bank.newest) None in
      let at : IsRecordAt store.header held (area_at store.header (other (chosen held))) lines body =
      subst (λ (n : ℕ). IsRecordAt store.header held n lines body) (sym gate) (record_at there.gate (bank_number there) (length there.newest) lines body there.page refl count (omega arith) is) in
      subst (λ (n : ℕ). CommitAsks store.header held (checkpoint_deeds bank held ++ body_deeds n body) (gate_deeds n)) gate
      (subst (λ (plan : List Deed). CommitAsks store.header held (plan ++ body_deeds (area_at store.header (other (chosen held))) body) (gate_deeds (area_at store.header (other (chosen held))))) (sym checkpoint_shown) (MakesRoom room at))

  -- a record that was kept behind some deeds
  record_shown : (before mid after : Option (List Deed)) (first : List Deed) (gate : ℕ) (body : List ℕ) (kept : Kept) → CommitAsks store.header held (first ++ body_deeds gate body) (gate_deeds gate) → Did before mid first → KeepsDeeds mid after gate body kept
      → Since before after (KeptAsks store.header held kept)
  record_shown before mid after first gate body Done asks did keeps =
      did_since (KeptAsks store.header held Done) before after (first ++ (body_deeds gate body ++ gate_deeds gate)) (did_on before mid after first (body_deeds gate body ++ gate_deeds gate) did keeps)
      (first ++ body_deeds gate body, gate_deeds gate, asks, sym (append_assoc first (body_deeds gate body) (gate_deeds gate)))
  record_shown before mid after first gate body Unwritten asks did keeps =
      since_on (IsCut (body_deeds gate body)) (KeptAsks store.header held Unwritten) before mid after first did keeps
      (λ done cut. inr (first ++ body_deeds gate body, gate_deeds gate, asks, cut_behind first (body_deeds gate body) done cut))
  record_shown before mid after first gate body Doubt asks did keeps =
      since_on (IsCut (gate_deeds gate)) (KeptAsks store.header held Doubt) before keeps.0 after (first ++ body_deeds gate body) (did_on before mid keeps.0 first (body_deeds gate body) did keeps.1) keeps.2
      (λ done cut. (first ++ body_deeds gate body, gate_deeds gate, done, asks, cut, refl))

  commit_by : (full : Bool) → nat_lt (area_end bank) (needed_end bank) ≡ full → (before after : Option (List Deed)) (there : BankView) (kept : Kept) → there ≡ roomy bank → CommitsDeeds before after there bank held kept → Since before after (KeptAsks store.header held kept)
  commit_by false is before after there kept by (inl (same, made)) =
      record_shown before before after [] there.gate made.0 kept
      (subst (λ (that : BankView). CommitAsks store.header held (body_deeds that.gate made.0) (gate_deeds that.gate)) (sym same) (asks_here (grind (arith, nat_tests, is)) made.0 made.1))
      (did_none before before refl)
      (subst (λ (that : BankView). KeepsDeeds before after that.gate made.0 kept) (sym same) made.2)
  commit_by true is before after there kept by (inl (same, rest)) =
      let other_bank : bank ≡ emptied bank = sym same ∙ by ∙ roomy_full bank (grind (arith, nat_tests, is)) in
      absurd (not_other bank.which (ap (λ (that : BankView). that.which) other_bank))
  commit_by false is before after there kept by (inr (turned, rest)) =
      let no : area_end bank < needed_end bank → ⊥ = λ full. grind (arith, nat_tests, is, full) in
      let other_bank : emptied bank ≡ bank = sym turned ∙ by ∙ roomy_fits bank no in
      absurd (not_other bank.which (sym (ap (λ (that : BankView). that.which) other_bank)))
  commit_by true is before after there kept by (inr (turned, inl (mid, did, made))) =
      record_shown before mid after (checkpoint_deeds bank held) (emptied bank).gate made.0 kept
      (asks_there (grind (arith, nat_tests, is)) made.0 (subst (λ (that : BankView). IsRecordBody that made.0) turned made.1)) did
      (subst (λ (that : BankView). KeepsDeeds mid after that.gate made.0 kept) turned made.2)
  commit_by true is before after there kept by (inr (turned, inr (failed, some))) =
      subst (λ (answer : Kept). Since before after (KeptAsks store.header held answer)) (sym failed)
      (since_as (IsCut (checkpoint_deeds bank held)) (KeptAsks store.header held Unwritten) before after some
      (λ done cut. inl (subst (λ (plan : List Deed). IsCut plan done) checkpoint_shown cut)))

  -- a commit, by how it ended
  pub commit_shown : (before after : Option (List Deed)) (kept : Kept) → CommitsDeeds before after (roomy bank) bank held kept → Since before after (KeptAsks store.header held kept)
  commit_shown before after kept did = commit_by (nat_lt (area_end bank) (needed_end bank)) refl before after (roomy bank) kept refl did
