-- What an authority permits is held, as entries and authorities change.
use Rattle.desk_law.proofs.Common.{◌≡◌, refl, ℕ, zero, suc, ◌==◌, ◌&&◌, not, if◌then◌else◌, Bool, true, false, List, [], ◌∷◌, length, map, slice_index_or, ap, sym, ◌∙◌, subst, inl, inr, eqb-true, eq-eqb, or_left, cases_Bool, page_count, FlatStore, has, permits, Lines, with_whole_pages, within_page, is_whole_page, page_of_line, pages_of, has-filter, ArePart, has-within_page, whole-has, whole-reached, reaches-coarse, Active, Grant, nobody, InFlight, grant_by, fine_grant_by, given_by_locks, granted, lowered, lowered_pages, to_read, IsAmong, NumbersAscend, due_to, IsCovered, IsOwned, IsHeld, nat_tests, arith}
use Rattle.desk_law.proofs.EachPage.{length-each, each-all}
use Rattle.desk_law.proofs.Entries.{among-replaced, replaced-among, new-among, replaced, one-entry}
use Rattle.desk_law.proofs.Others.{others, among-others, others-among}

-- an authority once a number has ended
abbrev pub freed : ℕ → Grant → Grant
freed number authority = if authority.owner == number then nobody else authority

pub freed-at : (number : ℕ) (authority : List Grant) (page : ℕ) → slice_index_or (map (freed number) authority) page nobody ≡ freed number (slice_index_or authority page nobody)
freed-at number [] page = sym (grind (arith, nat_tests))
freed-at number (one ∷ authority) zero = refl
freed-at number (one ∷ authority) (suc page) = freed-at number authority page

length-freed : (number : ℕ) (authority : List Grant) → length (map (freed number) authority) ≡ length authority
length-freed number [] = refl
length-freed number (one ∷ authority) = ap suc (length-freed number authority)

pub nobody-covers : (page number : ℕ) (locks : Lines) → IsCovered nobody page number locks
nobody-covers page number locks = grind (arith, nat_tests)

-- more locks cover as much
pub covered-more : (authority : Grant) (page number : ℕ) (locks more : Lines) → ArePart locks more → IsCovered authority page number locks → IsCovered authority page number more
covered-more authority page number locks more part covered = grind (arith, nat_tests)

-- what authority permits to entries of other numbers than one is held
pub record IsHeldBut (number : ℕ) (store : FlatStore) (entries : List Active) (authority : List Grant) : Type 0 where
  pub pages : length authority ≡ page_count store.directory
  pub owned : (page : ℕ) → IsOwned entries (slice_index_or authority page nobody)
  pub covered : (page : ℕ) (entry : Active) → IsAmong entries entry → (entry.number == number) ≡ false → IsCovered (slice_index_or authority page nobody) page entry.number (due_to store entry)

pub held-but : (number : ℕ) (store : FlatStore) (entries : List Active) (authority : List Grant) → IsHeld store entries authority → IsHeldBut number store entries authority
held-but number store entries authority held = record { pages = held.pages; owned = held.owned; covered = λ page entry among other. held.covered page entry among }

-- after one has ended
pub held-others :
    (store later : FlatStore) (entries : List Active) (authority : List Grant) (gone : Active) → later.directory ≡ store.directory
    → ((other : Active) → IsAmong (others gone entries) other → due_to later other ≡ due_to store other)
    → IsHeldBut gone.number store entries authority → IsHeld later (others gone entries) (map (freed gone.number) authority)
held-others store later entries authority gone one_directory same held = record {
  pages = length-freed gone.number authority ∙ held.pages ∙ sym (ap page_count one_directory);
  owned = λ page. subst (IsOwned (others gone entries)) (sym (freed-at gone.number authority page)) (owned (slice_index_or authority page nobody) _ refl (held.owned page));
  covered = λ page entry among. grind (arith, nat_tests, freed-at gone.number authority page, same entry among, among-others gone entries entry among, held.covered page entry, nobody-covers page entry.number);
}
  where
    owned : (a : Grant) (is_gone : Bool) → (a.owner == gone.number) ≡ is_gone → IsOwned entries a → IsOwned (others gone entries) (if is_gone then nobody else a)
    owned a true e old = inl refl
    owned a false e (inl none) = inl none
    owned a false e (inr some) = inr (some.0, others-among gone entries some.0 some.1 (ap (λ (n : ℕ). n == gone.number) (sym some.2) ∙ e), some.2)

-- after one entry changed
pub held-replaced :
    (store : FlatStore) (entries : List Active) (authority : List Grant) (old new : Active) → IsAmong entries old → old.number ≡ new.number
    → ((page : ℕ) → IsCovered (slice_index_or authority page nobody) page new.number (due_to store new))
    → IsHeld store entries authority → IsHeld store (replaced new entries) authority
held-replaced store entries authority old new here same covers held = record {
  pages = held.pages;
  owned = λ page. elim (held.owned page) [
    | inl none ↦ inl none
    | inr some ↦
        elim (cases_Bool (some.0.number == new.number)) [
          | inl is_new ↦ inr (new, new-among new entries old here same, some.2 ∙ eqb-true some.0.number new.number is_new)
          | inr other ↦ inr (some.0, replaced-among new entries some.0 some.1 other, some.2)
        ]
  ];
  covered = λ page entry among. grind (arith, among-replaced new entries entry among, covers page, held.covered page entry);
}

bit_on : (same bit store : Bool) → permits same false bit store ≡ true → bit ≡ true
bit_on same bit store h1 = grind (arith, nat_tests)

no_store : (same bit : Bool) → permits same false bit true ≡ true → ⊥
no_store same bit h1 = grind (arith, nat_tests)

inside : (page line : ℕ) (some : List ℕ) → has (within_page page some) line ≡ true → (page ≡ page_of_line line) × (has some line ≡ true)
inside page line some there = grind (arith, nat_tests, has-within_page page some line)

-- With the write bit off, lines that are held to read are covered.
pub off-covers : (number page : ℕ) (locks : Lines) → IsCovered (record { owner = number; write = false; lines = within_page page locks.reads }) page number locks
off-covers number page locks = grind (arith, nat_tests, inside, bit_on, no_store)

-- With it on, lines that are held to write, where all of the page are held to read.
pub on-covers : (number page : ℕ) (locks : Lines) (writes : List ℕ)
    → ((line : ℕ) → has writes line ≡ true → has (within_page page locks.writes) line ≡ true)
    → ((line : ℕ) → page_of_line line ≡ page → has locks.reads line ≡ true)
    → IsCovered (record { owner = number; write = true; lines = writes }) page number locks
on-covers number page locks writes among whole = grind (arith, nat_tests, inside)

-- By its locks, where it has written into the page only if all of it is held to read.
by-covers : (number page : ℕ) (locks : Lines) (writes : List ℕ)
    → ((line : ℕ) → has writes line ≡ true → has (within_page page locks.writes) line ≡ true)
    → ((written : ℕ) → has writes written ≡ true → (line : ℕ) → page_of_line line ≡ page → has locks.reads line ≡ true)
    → IsCovered (grant_by number (within_page page locks.reads) writes) page number locks
by-covers number page locks [] among whole = off-covers number page locks
by-covers number page locks (written ∷ more) among whole = grind (arith, nat_tests, on-covers number page locks (written ∷ more) among (whole written (or_left (written == written) (has more written) (eq-eqb written written refl))))

-- A fine page in which all lines are held to read, or into which the row doesn't write.
pub fine-covers : (number page : ℕ) (storing : Bool) (locks : Lines) → (storing ≡ true → is_whole_page (within_page page locks.reads) ≡ true)
    → IsCovered (fine_grant_by number storing (within_page page locks.reads) (within_page page locks.writes)) page number locks
fine-covers number page true locks whole = on-covers number page locks (within_page page locks.writes) (λ line there. there) (whole-has page locks.reads (whole refl))
fine-covers number page false locks whole = by_whole (is_whole_page (within_page page locks.reads)) refl
  where
    by_whole : (all : Bool) → is_whole_page (within_page page locks.reads) ≡ all
        → IsCovered (grant_by number (within_page page locks.reads) (if all then within_page page locks.writes else [])) page number locks
    by_whole true e = by-covers number page locks (within_page page locks.writes) (λ line there. there) (λ written there. whole-has page locks.reads e)
    by_whole false e = off-covers number page locks

-- what a page is granted is held, but for a fine page into which the row writes before all of it is held to read
pub grant-covers : (fine : ℕ → Bool) (attempt : InFlight) (page : ℕ) (lines : Lines)
    → (fine page ≡ true → has (pages_of attempt.lines.writes) page ≡ true → is_whole_page (within_page page (with_whole_pages fine lines).reads) ≡ true)
    → IsCovered (given_by_locks fine attempt (with_whole_pages fine lines) page) page attempt.entry.number (with_whole_pages fine lines)
grant-covers fine attempt page lines whole =
    let all = with_whole_pages fine lines in
    let coarse = λ (e : fine page ≡ false). by-covers attempt.entry.number page all (within_page page lines.writes) (λ line there. there) (λ written there line here. let (at, was) = inside page written lines.writes there in whole-reached fine lines line written was (reaches-coarse fine line written (sym at ∙ sym here) (ap fine here ∙ e))) in
    let of_fine = fine-covers attempt.entry.number page (has (pages_of attempt.lines.writes) page) all in
    grind (arith, coarse, of_fine, whole)

-- an authority of another number permits nothing
pub other-covers : (authority : Grant) (page number : ℕ) (locks : Lines) → (authority.owner == number) ≡ false → IsCovered authority page number locks
other-covers authority page number locks other = grind (arith, nat_tests)

owner-by : (number : ℕ) (reads writes : List ℕ) → (grant_by number reads writes).owner ≡ number
owner-by number reads writes = grind (arith, nat_tests)

-- a page is granted to the activation
pub given-owner : (fine : ℕ → Bool) (attempt : InFlight) (locks : Lines) (page : ℕ) → (given_by_locks fine attempt locks page).owner ≡ attempt.entry.number
given-owner fine attempt locks page = grind (arith, nat_tests, owner-by)

-- Pages granted to an entry: what is permitted to the others is held still.
pub held-granted :
    (fine : ℕ → Bool) (store : FlatStore) (entries : List Active) (new : Active) (attempt : InFlight) (locks : Lines) (pages : List ℕ) (authority : List Grant)
    → IsAmong entries new → attempt.entry.number ≡ new.number → IsHeldBut attempt.entry.number store entries authority
    → IsHeldBut attempt.entry.number store entries (granted fine attempt locks pages authority)
held-granted fine store entries new attempt locks pages authority here same held = record {
  pages = length-each (given_by_locks fine attempt locks) pages authority ∙ held.pages;
  owned = λ at. each-all (IsOwned entries) (given_by_locks fine attempt locks) pages authority at (inl refl) (λ is. inr (new, here, given-owner fine attempt locks at ∙ same)) (λ out. held.owned at);
  covered = λ at entry among other.
      each-all (λ a. IsCovered a at entry.number (due_to store entry)) (given_by_locks fine attempt locks) pages authority at (nobody-covers at entry.number (due_to store entry))
      (λ is. other-covers (given_by_locks fine attempt locks at) at entry.number (due_to store entry) (grind (arith, nat_tests, given-owner fine attempt locks at))) (λ out. held.covered at entry among other);
}

-- Once the row has taken effect: what is permitted is held, to the entry by the locks of its row too.
module _ (fine : ℕ → Bool) (store : FlatStore) (below : ℕ) (entries : List Active) (new : Active) (attempt : InFlight) (lines : Lines) (pages : List ℕ) (authority : List Grant)
    (up : NumbersAscend 0 entries below) (here : IsAmong entries new) (same : attempt.entry.number ≡ new.number) (due : with_whole_pages fine lines ≡ due_to store new)
    (held : IsHeld store entries authority) where
  abbrev locks : Lines
  locks = with_whole_pages fine lines

  abbrev after_grants : List Grant
  after_grants = granted fine attempt locks pages authority

  but : IsHeldBut attempt.entry.number store entries after_grants
  but = held-granted fine store entries new attempt locks pages authority here same (held-but attempt.entry.number store entries authority held)

  forced : (written fine whole : Bool) → (written && (fine && not whole)) ≡ false → fine ≡ true → written ≡ true → whole ≡ true
  forced written fine whole out is_fine is = grind (arith, nat_tests)

  whole : (at : ℕ) → has (lowered_pages fine attempt locks) at ≡ false → fine at ≡ true → has (pages_of attempt.lines.writes) at ≡ true → is_whole_page (within_page at locks.reads) ≡ true
  whole at out = forced (has (pages_of attempt.lines.writes) at) (fine at) (is_whole_page (within_page at locks.reads)) (sym (has-filter (λ page. fine page && not (is_whole_page (within_page page locks.reads))) (pages_of attempt.lines.writes) at) ∙ out)

  -- what is permitted to the entry
  own-covered : (at : ℕ) → IsCovered (slice_index_or (lowered fine attempt locks after_grants) at nobody) at attempt.entry.number locks
  own-covered at =
      each-all (λ a. IsCovered a at attempt.entry.number locks) (to_read attempt locks) (lowered_pages fine attempt locks) after_grants at (nobody-covers at attempt.entry.number locks)
      (λ is. off-covers attempt.entry.number at locks)
      (λ out. each-all (λ a. IsCovered a at attempt.entry.number locks) (given_by_locks fine attempt locks) pages authority at (nobody-covers at attempt.entry.number locks)
      (λ is. grant-covers fine attempt at lines (whole at out)) (λ old. grind (arith, held.covered at new here, same, due)))

  pub held-lowered : IsHeld store entries (lowered fine attempt locks after_grants)
  held-lowered = record {
    pages = length-each (to_read attempt locks) (lowered_pages fine attempt locks) after_grants ∙ but.pages;
    owned = λ at. each-all (IsOwned entries) (to_read attempt locks) (lowered_pages fine attempt locks) after_grants at (inl refl) (λ is. inr (new, here, same)) (λ out. but.owned at);
    covered = λ at entry among. elim (cases_Bool (entry.number == attempt.entry.number)) [
      | inl own ↦ grind (arith, nat_tests, own-covered at, one-entry 0 below entries new entry up here among, due)
      | inr other ↦
          each-all (λ a. IsCovered a at entry.number (due_to store entry)) (to_read attempt locks) (lowered_pages fine attempt locks) after_grants at (nobody-covers at entry.number (due_to store entry))
          (λ is. other-covers (to_read attempt locks at) at entry.number (due_to store entry) (grind (arith, nat_tests, other))) (λ out. but.covered at entry among other)
    ];
  }
