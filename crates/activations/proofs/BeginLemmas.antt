-- A program begins.
use Rattle.activations.proofs.Common.{range-long, ◌≡◌, refl, ℕ, ◌+◌, ◌-◌, ◌*◌, ◌%◌, ◌<◌, ◌≤◌, ◌==◌, ◌⊎◌, false, List, ◌++◌, length, map, replicate, slice_index, if◌then◌else◌, Option, Some, None, range_with_len, arith, ap, sym, ◌∙◌, subst, inl, inr, cases_lt, same_number_lists, length-overlaid, overlaid_before, overlaid_within, overlaid_behind, PageSize, Layout, byte_count, page_of, page_bytes, Pool, frame_at, with_bytes, private_frames, byte_in_frame, byte_over, bytes_over, private_bytes, PoolFits, frame-high, in-range, nat_tests, length-append, length-replicate, ne_eqb, or-false, ◌≢◌, zero, suc, nat_lt, Bool, true, [], ◌∷◌, All, slice_index_or, list_any, get_or-set_same, get_or-set_other, eqb-false, eq-eqb, both_ways, or_left, or_right, or_parts, length-map, length-set, map-append, get_or_read, All-from_get_or, list_any-append, FlatStore, has, no_lines, has-append, no_lines_of, Program, start, registers_of_program, Begun, Active, nobody, Fine, AreAlike, AreWrittenMarked, IsState, requested, due_to, IsCurrent, IsOrderly, current-begun, first_entry, with_first, begins-consistent, refused-consistent, told-taken, Seat, IsSeating, sitter, number_in, newcomer, next_seat, all-has, none-free, some-free, has-at, few-taken, taken-below, kept-seated, apart-taken, is_line_marked, private_segment, Live, Activity, no_program, program_at, live_in, entry_for, entry_in, entries, number_under, authority_under, authority_told, store_over, desk_over, lines_held, locks_in, request_for, request_in, state_in, shown, number_given, started, begun_in, IsBegin, IsActivitySound, IsSetUp, IsBeside, KeepsDesk, absent_segment, over_all, state_for}
use Rattle.std.proofs.lemmas.Option.{slice_get-get_or}
use Rattle.flat_machine.specs.Serial.{Activation}
use Rattle.desk.specs.declared.event.Event.TheVariants.{Begin}
use Rattle.desk.specs.Run.{begin, begins, begin_if, step, Busy, Begun as Began}
use Rattle.desk.specs.declared.answers.Begun.TheVariants as answer
use Rattle.activations.specs.Begins as begun
use Rattle.activations.proofs.PoolLemmas.{private-all}
use Rattle.activations.proofs.HoldingLemmas.{held-flat}
use Rattle.activations.proofs.GrantLemmas.{flat-alike}
use Rattle.activations.proofs.SittingLemmas.{sitter-there, sitter-other, live-other, live-there, sound-beside, state-by}
use Rattle.activations.proofs.TableLemmas.{under-page, none-of-page, none-of-pages}

-- an image and zeros after it
abbrev pub first_bytes : List ℕ → List ℕ
first_bytes image = image ++ replicate (16384 - length image) 0

long-first : (image : List ℕ) → length image ≤ 16384 → length (first_bytes image) ≡ 16384
long-first image few = length-append image (replicate (16384 - length image) 0) ∙ ap (λ (n : ℕ). length image + n) (length-replicate (16384 - length image) 0) ∙ omega (arith, few)

module _ (directory : Layout) (pool : Pool) (fits : PoolFits directory pool) (seat : ℕ) (below : seat < 16) (image : List ℕ) (few : length image ≤ 16384) where
  abbrev pub filled : Pool
  filled = with_bytes pool (seat * 16384) (first_bytes image)

  long-part : length (first_bytes image) ≡ 16384
  long-part = long-first image few

  -- the private bytes of all seats are there
  long-all : 262144 ≤ length pool.bytes
  long-all = private-all pool.page pool.frames (length pool.bytes) fits.seen.bytes

  long-filled : length filled.bytes ≡ length pool.bytes
  long-filled = length-overlaid pool.bytes (seat * 16384) (first_bytes image) (omega (arith, long-part, long-all, below))

  pub private-there : private_bytes filled seat ≡ first_bytes image
  private-there = same_number_lists (private_bytes filled seat) (first_bytes image)
      (range-long filled.bytes (seat * 16384) 16384 (omega (arith, long-filled, long-all, below)) ∙ sym long-part)
      (λ k inside.
      let short : k < 16384 = omega (arith, inside, range-long filled.bytes (seat * 16384) 16384 (omega (arith, long-filled, long-all, below))) in
      let rest : seat * 16384 + k - seat * 16384 ≡ k = omega arith in in-range filled.bytes (seat * 16384) 16384 k short
      ∙ overlaid_within pool.bytes (seat * 16384) (first_bytes image) (seat * 16384 + k) 0 (omega (arith, long-all, below)) (omega arith) (omega (arith, long-part, short))
      ∙ ap (slice_index (first_bytes image)) rest)

  pub private-other : (at : ℕ) → at < 16 → (at == seat) ≡ false → private_bytes filled at ≡ private_bytes pool at
  private-other at other differs = same_number_lists (private_bytes filled at) (private_bytes pool at)
      (range-long filled.bytes (at * 16384) 16384 (omega (arith, long-filled, long-all, other)) ∙ sym (range-long pool.bytes (at * 16384) 16384 (omega (arith, long-all, other))))
      (λ k inside.
      let short : k < 16384 = omega (arith, inside, range-long filled.bytes (at * 16384) 16384 (omega (arith, long-filled, long-all, other))) in
      in-range filled.bytes (at * 16384) 16384 k short ∙ stays k short (cases_lt at seat) ∙ sym (in-range pool.bytes (at * 16384) 16384 k short))
    where
      stays : (k : ℕ) → k < 16384 → (at < seat) ⊎ (seat ≤ at) → slice_index filled.bytes (at * 16384 + k) ≡ slice_index pool.bytes (at * 16384 + k)
      stays k short (inl before) =
          overlaid_before pool.bytes (seat * 16384) (first_bytes image) (at * 16384 + k) 0 (omega (arith, long-all, below)) (omega (arith, before, short))
      stays k short (inr after) =
          let apart : seat < at = grind (arith, nat_tests, after, differs) in
          overlaid_behind pool.bytes (seat * 16384) (first_bytes image) (at * 16384 + k) 0 (omega (arith, long-all, below)) (omega (arith, long-part, apart))

  -- a frame of a page of the store has what it had
  pub store-frame : (place frame : ℕ) → frame_at pool (page_of directory place) ≡ Some frame → byte_in_frame directory filled place frame ≡ byte_in_frame directory pool place frame
  store-frame place frame there =
      let first : private_frames directory.page ≤ frame =
      subst (λ (s : PageSize). private_frames s ≤ frame) fits.size (fits.seen.above (page_of directory place) frame (fits.seen.there (page_of directory place) frame there)) in
      let behind = frame-high directory.page frame first in
      overlaid_behind pool.bytes (seat * 16384) (first_bytes image) (frame * page_bytes directory.page + place % page_bytes directory.page) 0 (omega (arith, long-all, below)) (omega (arith, long-part, behind, below))

  -- and all see what they saw
  pub shown-same : (committed : List ℕ) → bytes_over directory filled committed ≡ bytes_over directory pool committed
  shown-same committed = λ i. map (λ place. one place i) (range_with_len 0 (byte_count directory))
    where
      one : (place : ℕ) → byte_over directory filled committed place ≡ byte_over directory pool committed place
      one place = let same = store-frame place in grind (arith, same)

pub all-of : (P : ℕ → Type 0) (xs : List ℕ) → ((x : ℕ) → has xs x ≡ true → P x) → All P xs
all-of P xs each = All-from_get_or P xs 0 (λ k within. each (slice_index_or xs k 0) (has-at xs k 0 within))

map-same : (f g : ℕ → Active) (xs : List ℕ) → ((x : ℕ) → has xs x ≡ true → f x ≡ g x) → map f xs ≡ map g xs
map-same f g [] same = refl
map-same f g (x ∷ xs) same = λ i. same x (or_left (x == x) (has xs x) (eq-eqb x x refl)) i ∷ map-same f g xs (λ y inside. same y (or_right (x == y) (has xs y) inside)) i

-- nothing that is held is no line
pub held-none : (pages : ℕ) → AreAlike (lines_held (no_lines_of pages)) no_lines
held-none pages = flat-alike (no_lines_of pages) (lines_held (no_lines_of pages)) no_lines (held-flat (no_lines_of pages) (none-of-pages pages)) (record {
  reads = λ page line few. ap (λ (held : List ℕ × List ℕ). has held.0 line) (none-of-page pages page);
  writes = λ page line few. ap (λ (held : List ℕ × List ℕ). has held.1 line) (none-of-page pages page);
})

-- a number that is given to nobody
pub sound-given : (a : Activity) → IsActivitySound a → IsActivitySound (number_given a)
sound-given a sound = sound-beside a (a.next + 1) a.reach.pool a.reach.entries a.reach.registers a.reach.runner sound
    (all-of (λ seat. number_in a.seating seat < a.next + 1) a.seating.taken (λ seat inside. let was = all-has (λ seat. number_in a.seating seat < a.next) a.seating.taken seat sound.numbers inside in omega (arith, was))) sound.entries sound.identified

pub follows-given : (a : Activity) (committed : List ℕ) → KeepsDesk a committed → KeepsDesk (number_given a) committed
follows-given a committed follows = record {
  orderly = refused-consistent (desk_over a committed []) follows.orderly;
  kept = record {
    long = follows.kept.long;
    held = follows.kept.held;
    asked = follows.kept.asked;
    stand = follows.kept.stand;
    is_current = follows.kept.is_current;
    marked = record { is = follows.kept.marked.is };
    clean = follows.kept.clean;
  };
}

-- A program takes a free seat.
module _ (a : Activity) (program : ℕ) (args : List ℕ) (seat : ℕ) (sound : IsActivitySound a) (below : seat < 16) (free : has a.seating.taken seat ≡ false) where
  abbrev new : Activity
  new = begun_in a program args seat

  abbrev who : Seat
  who = newcomer a.next program args

  abbrev runs : Activation
  runs = record { program = program_at a.programs program; args = args }

  elsewhere : (at : ℕ) → has a.seating.taken at ≡ true → (at == seat) ≡ false
  elsewhere at inside = ne_eqb at seat (λ same. both_ways (has a.seating.taken seat) free (ap (has a.seating.taken) (sym same) ∙ inside))

  sits : sitter new.seating seat ≡ who
  sits = sitter-there a.seating seat who sound.seating.sixteen below

  entry-last : entry_in new seat ≡ first_entry a.next runs
  entry-last = ap (entry_for a.programs) sits

  entry-old : (at : ℕ) → (at == seat) ≡ false → entry_in new at ≡ entry_in a at
  entry-old at differs = ap (entry_for a.programs) (sitter-other a.seating seat who at differs)

  entries-begun : entries new ≡ entries a ++ first_entry a.next runs ∷ []
  entries-begun = map-append (entry_in new) a.seating.taken (seat ∷ [])
      ∙ (λ i. map-same (entry_in new) (entry_in a) a.seating.taken (λ at inside. entry-old at (elsewhere at inside)) i ++ entry-last i ∷ [])

  -- who is there now
  seated-old : (at : ℕ) → has new.seating.taken at ≡ true → has a.seating.taken at ≡ true ⊎ (seat ≡ at)
  seated-old at inside = let more = has-append a.seating.taken (seat ∷ []) at in grind (arith, nat_tests, more, inside)

  -- no page is that seat's
  unused : (page : ℕ) → ((slice_index_or (authority_under a.reach.entries) page nobody).owner == seat + 1) ≡ false
  unused page = let at = under-page a.reach.entries page in let is = sound.identified page in grind (arith, nat_tests, at, is, elsewhere)

  under-other : (tid : ℕ) → (tid == seat + 1) ≡ false → number_under new tid ≡ number_under a tid
  under-other zero differs = refl
  under-other (suc at) differs =
      let shift : (suc at == seat + 1) ≡ (at == seat) = grind (arith, nat_tests) in
      ap (λ (s : Seat). s.number) (sitter-other a.seating seat who at (sym shift ∙ differs))

  authority-begun : authority_told new ≡ authority_told a
  authority-begun = told-taken (number_under a) refl (seat + 1) (number_under new) (authority_under a.reach.entries) under-other unused

  pub desk-begun : (committed : List ℕ) (order : List (ℕ × ℕ)) → desk_over new committed order ≡ with_first (desk_over a committed order) runs
  desk-begun committed order i = record (desk_over a committed order) { next = a.next + 1; active = entries-begun i; authority = authority-begun i }

  live-begun : live_in new seat ≡ started a program args seat
  live-begun = live-there a.live seat (started a program args seat) (omega (arith, sound.live, below))

  pub sound-begun : program < length a.programs → IsActivitySound new
  sound-begun known = record {
    seating = kept;
    seats = record { apart = λ at other inside there. apart-taken new.seating kept at other inside there };
    numbers = all-of (λ at. number_in new.seating at < a.next + 1) new.seating.taken (λ at inside. elim (seated-old at inside) [
      | inl old ↦
          let was = all-has (λ at. number_in a.seating at < a.next) a.seating.taken at sound.numbers old in
          let same : number_in new.seating at ≡ number_in a.seating at = ap (λ (s : Seat). s.number) (sitter-other a.seating seat who at (elsewhere at old)) in
          omega (arith, was, same)
      | inr last ↦ subst (λ (n : ℕ). number_in new.seating n < a.next + 1) last (let is : number_in new.seating seat ≡ a.next = ap (λ (s : Seat). s.number) sits in omega (arith, is))
    ]);
    live = length-set a.live seat (started a program args seat) ∙ sound.live;
    pages = sound.pages;
    lines = sound.lines;
    requests = λ at request inside waits. elim (seated-old at inside) [
      | inl old ↦ sound.requests at request old (sym (ap (λ (s : Seat). s.waits) (sitter-other a.seating seat who at (elsewhere at old))) ∙ waits)
      | inr last ↦ absurd (let none : (sitter new.seating at).waits ≡ None = ap (λ (n : ℕ). (sitter new.seating n).waits) (sym last) ∙ ap (λ (s : Seat). s.waits) sits in cc)
    ];
    begun = length-set a.reach.begun seat true ∙ sound.begun;
    entries = sound.entries;
    set_up = λ at inside. elim (seated-old at inside) [ inl old ↦ set-up-old at old | inr last ↦ subst (IsSetUp new) last set-up-last ];
    free = λ at gone.
        let none = or_parts (has a.seating.taken at) (has (seat ∷ []) at) (sym (has-append a.seating.taken (seat ∷ []) at) ∙ gone) in
        get_or-set_other a.reach.begun seat at true false (λ same. both_ways (has new.seating.taken at) gone (has-append a.seating.taken (seat ∷ []) at ∙ or_right (has a.seating.taken at) (has (seat ∷ []) at) (or_left (seat == at) false (eq-eqb seat at (sym same)))))
        ∙ sound.free at none.0;
    identified = λ page. elim (sound.identified page) [
      | inl none ↦ inl none
      | inr some ↦ inr (some.0, has-append a.seating.taken (seat ∷ []) some.0 ∙ or_left (has a.seating.taken some.0) (has (seat ∷ []) some.0) some.1, some.2)
    ];
  }
    where
      kept : IsSeating new.seating
      kept = kept-seated a.seating sound.seating seat a.next program args below free sound.numbers

      set-up-old : (at : ℕ) → has a.seating.taken at ≡ true → IsSetUp new at
      set-up-old at old =
          let was = sound.set_up at old in let differs = elsewhere at old in
          let sitter_is : sitter new.seating at ≡ sitter a.seating at = sitter-other a.seating seat who at differs in
          let live_is : live_in new at ≡ live_in a at = live-other a.live seat (started a program args seat) at differs in record {
            program = subst (λ (s : Seat). s.program < length a.programs) (sym sitter_is) was.program;
            begun = get_or-set_other a.reach.begun seat at true false (eqb-false at seat differs) ∙ was.begun;
            registers = ap (λ (l : Live). l.registers) live_is ∙ was.registers ∙ ap (λ (e : Active). registers_of_program e.runs.program a.reach.directory (private_segment at)) (sym (entry-old at differs));
            printed = ap (λ (l : Live). length l.out) live_is ∙ was.printed ∙ ap (λ (l : Live). l.cpu.printed) (sym live_is);
            few = subst (λ (l : Live). length l.out ≤ 4096) (sym live_is) was.few;
          }

      set-up-last : IsSetUp new seat
      set-up-last = record {
        program = subst (λ (s : Seat). s.program < length a.programs) (sym sits) known;
        begun = get_or-set_same a.reach.begun seat true false (omega (arith, sound.begun, below));
        registers = ap (λ (l : Live). l.registers) live-begun ∙ ap (λ (e : Active). registers_of_program e.runs.program a.reach.directory (private_segment seat)) (sym entry-last);
        printed = ap (λ (l : Live). length l.out) live-begun ∙ ap (λ (l : Live). l.cpu.printed) (sym live-begun);
        few = subst (λ (l : Live). length l.out ≤ 4096) (sym live-begun) (omega arith);
      }

  -- What it shows.
  module _ (committed : List ℕ) (follows : KeepsDesk a committed) (fits : PoolFits a.reach.directory a.reach.pool) (known : program < length a.programs) where
    abbrev store : FlatStore
    store = store_over a committed

    abbrev code : Program
    code = program_at a.programs program

    abbrev last : Active
    last = first_entry a.next runs

    module _ (room : length a.seating.taken < 16) (present : absent_segment a.reach.directory code.windows ≡ None) where
      orderly-begun : IsOrderly (with_first (desk_over a committed []) runs)
      orderly-begun =
          begins-consistent (desk_over a committed []) runs follows.orderly (let long : length (entries a) ≡ length a.seating.taken = length-map a.seating.taken (entry_in a) in omega (arith, room, long)) present

      state-last : IsState store (entry_in new seat) (state_in new seat)
      state-last = subst (λ (e : Active). IsState store e (state_in new seat)) (sym entry-last)
          (record {
            bytes = committed;
            at = (λ i. Some (record (start code args store) { private = sym (private-there a.reach.directory a.reach.pool fits seat below code.image code.image_fits) i }))
                ∙ ap (λ (l : Live). Some (over_all (state_for new.reach.pool seat l) committed)) (sym live-begun);
          })

      state-old : (at : ℕ) → has a.seating.taken at ≡ true → state_in a at ≡ state_in new at
      state-old at old =
          state-by a.reach.pool new.reach.pool at (live_in a at) (live_in new at) (live-other a.live seat (started a program args seat) at (elsewhere at old))
          (sym (private-other a.reach.directory a.reach.pool fits seat below code.image code.image_fits at (taken-below a.seating sound.seating at old) (elsewhere at old)))

      by_seat : {P : ℕ → Type 0} → P seat → ((at : ℕ) → has a.seating.taken at ≡ true → P at) → (at : ℕ) → has new.seating.taken at ≡ true → P at
      by_seat {P} this others at inside = elim (seated-old at inside) [ inl old ↦ others at old | inr it ↦ subst P it this ]

      kept-begun : IsBeside new committed
      kept-begun = record {
        long = follows.kept.long;
        held = by_seat {P = λ at. AreAlike (locks_in new at) (due_to store (entry_in new at))}
            (subst (λ (e : Active). AreAlike (locks_in new seat) (due_to store e)) (sym entry-last)
            (subst (λ (pages : List (List ℕ × List ℕ)). AreAlike (lines_held pages) no_lines) (sym (sound.seating.free seat below free)) (held-none a.seating.holding.pages)))
            (λ at old. subst (λ (e : Active). AreAlike (locks_in a at) (due_to store e)) (sym (entry-old at (elsewhere at old))) (follows.kept.held at old));
        asked = by_seat {P = λ at. (entry_in new at).waiting ≡ true → AreAlike (request_in new at) (requested store (entry_in new at))}
            (λ waits. absurd (both_ways (entry_in new seat).waiting (ap (λ (e : Active). e.waiting) entry-last) waits))
            (λ at old waits.
            subst (λ (e : Active). AreAlike (request_in new at) (requested store e)) (sym (entry-old at (elsewhere at old)))
            (subst (λ (s : Seat). AreAlike (request_for s) (requested store (entry_in a at))) (sym (sitter-other a.seating seat who at (elsewhere at old)))
            (follows.kept.asked at old (sym (ap (λ (e : Active). e.waiting) (entry-old at (elsewhere at old))) ∙ waits))));
        stand = by_seat {P = λ at. IsState store (entry_in new at) (state_in new at)} state-last
            (λ at old. subst (λ (e : Active). IsState store e (state_in new at)) (sym (entry-old at (elsewhere at old))) (subst (IsState store (entry_in a at)) (state-old at old) (follows.kept.stand at old)));
        is_current = subst (λ (these : List Active). IsCurrent store these (shown new committed)) (sym entries-begun)
            (subst (IsCurrent store (entries a ++ last ∷ [])) (sym (shown-same a.reach.directory a.reach.pool fits seat below code.image code.image_fits committed))
            (current-begun store a.most_lines a.next (entries a) follows.orderly.active (shown a committed) last refl orderly-begun.active follows.kept.is_current));
        marked =
            subst (λ (these : List Active). AreWrittenMarked store these (is_line_marked new.reach.pool)) (sym entries-begun)
            (record {
              is = λ line.
                  follows.kept.marked.is line
                  ∙ sym (list_any-append (λ (one : Active). has (due_to store one).writes line) (entries a) (last ∷ []) ∙ or-false (list_any (λ (one : Active). has (due_to store one).writes line) (entries a)));
            });
        clean = λ place frame within there unmarked.
            store-frame a.reach.directory a.reach.pool fits seat below code.image code.image_fits place frame there ∙ follows.kept.clean place frame within there unmarked;
      }

      pub follows-begun : KeepsDesk new committed
      follows-begun = record { orderly = subst IsOrderly (sym (desk-begun committed [])) orderly-begun; kept = kept-begun }

-- the next seat is free, and there is none where sixteen are taken
none-next : (a : Activity) → IsActivitySound a → next_seat a.seating ≡ None → 16 ≤ length a.seating.taken
unfolding next_seat
none-next a sound none = none-free (number_in a.seating) a.seating.taken sound.seating.ascending none

pub some-next : (a : Activity) (seat : ℕ) → IsActivitySound a → next_seat a.seating ≡ Some seat → (seat < 16) × (has a.seating.taken seat ≡ false) × (length a.seating.taken < 16)
unfolding next_seat
some-next a seat sound found = some-free (number_in a.seating) a.seating.taken seat sound.seating.among sound.seating.ascending found

-- whatever a begin comes to
module _ (a : Activity) (program : ℕ) (args : List ℕ) (sound : IsActivitySound a) (known : program < length a.programs) where
  abbrev this : Activation
  this = record { program = program_at a.programs program; args = args }

  pub sound-begins : IsActivitySound (begun.begin_answer a program args).1
  sound-begins = by_cases (next_seat a.seating) refl (absent_segment a.reach.directory (program_at a.programs program).windows)
    where
      by_cases : (free : Option ℕ) → next_seat a.seating ≡ free → (absent : Option ℕ) → IsActivitySound (begun.begins_by free absent a program args).1
      by_cases None e absent = sound-given a sound
      by_cases (Some seat) e (Some segment) = sound-given a sound
      by_cases (Some seat) e None = let (below, free, room) = some-next a seat sound e in sound-begun a program args seat sound below free known

  module _ (committed : List ℕ) (follows : KeepsDesk a committed) (fits : PoolFits a.reach.directory a.reach.pool) where
    begin-is : (order : List (ℕ × ℕ)) → step a.programs (Begin program args) Fine (desk_over a committed order) ≡ begin program this (desk_over a committed order)
    begin-is order = ap (λ (found : Option Program). begin_if program args found (desk_over a committed order)) (slice_get-get_or a.programs program no_program known)

    pub is-begin : IsBegin a (begun.begin_answer a program args).1 program args (begun.begin_answer a program args).0 committed
    is-begin = by_cases (next_seat a.seating) refl (absent_segment a.reach.directory (program_at a.programs program).windows) refl
      where
        with_room : (order : List (ℕ × ℕ)) (absent : Option ℕ) → length a.seating.taken < 16 → absent_segment a.reach.directory (program_at a.programs program).windows ≡ absent
            → step a.programs (Begin program args) Fine (desk_over a committed order) ≡ begins absent program this (desk_over a committed order)
        with_room order absent room e =
            let some : nat_lt (length (entries a)) 16 ≡ true = grind (arith, nat_tests, room, length-map a.seating.taken (entry_in a)) in
            begin-is order
            ∙ ap (λ (b : Bool). if b then begins (absent_segment a.reach.directory (program_at a.programs program).windows) program this (desk_over a committed order)
            else record { desk = desk_over (number_given a) committed order; happening = Busy a.next program }) some
            ∙ ap (λ (found : Option ℕ). begins found program this (desk_over a committed order)) e

        by_cases : (free : Option ℕ) → next_seat a.seating ≡ free → (absent : Option ℕ) → absent_segment a.reach.directory (program_at a.programs program).windows ≡ absent
            → IsBegin a (begun.begins_by free absent a program args).1 program args (begun.begins_by free absent a program args).0 committed
        by_cases None e absent lacks = record {
          is_step = λ order.
              let none = none-next a sound e in
              let full : nat_lt (length (entries a)) 16 ≡ false = grind (arith, nat_tests, none, length-map a.seating.taken (entry_in a)) in
              begin-is order
              ∙ ap (λ (b : Bool). if b then begins (absent_segment a.reach.directory (program_at a.programs program).windows) program this (desk_over a committed order)
              else record { desk = desk_over (number_given a) committed order; happening = Busy a.next program }) full;
          follows = follows-given a committed follows;
        }
        by_cases (Some seat) e (Some segment) lacks =
            let (below, free, room) = some-next a seat sound e in
            record { is_step = λ order. with_room order (Some segment) room lacks; follows = follows-given a committed follows }
        by_cases (Some seat) e None lacks =
            let (below, free, room) = some-next a seat sound e in record {
              is_step = λ order.
                  with_room order None room lacks
                  ∙ (λ i. record { desk = sym (desk-begun a program args seat sound below free committed order) i; happening = Began a.next program });
              follows = follows-begun a program args seat sound below free committed follows fits known room lacks;
            }

-- Which of the three it comes to.
module _ (a : Activity) (program : ℕ) (args : List ℕ) (sound : IsActivitySound a) where
  next-full : 16 ≤ length a.seating.taken → next_seat a.seating ≡ None
  next-full full = by_seat (next_seat a.seating) refl
    where
      by_seat : (free : Option ℕ) → next_seat a.seating ≡ free → free ≡ None
      by_seat None e = refl
      by_seat (Some seat) e = absurd (let room = (some-next a seat sound e).2 in omega (arith, room, full))

  pub begins-full : 16 ≤ length a.seating.taken → begun.begin_answer a program args ≡ (answer.Busy a.next, number_given a)
  begins-full full = ap (λ (free : Option ℕ). begun.begins_by free (absent_segment a.reach.directory (program_at a.programs program).windows) a program args) (next-full full)

  pub begins-refused : (segment : ℕ) → length a.seating.taken < 16 → absent_segment a.reach.directory (program_at a.programs program).windows ≡ Some segment
      → begun.begin_answer a program args ≡ (answer.NoSegment a.next segment, number_given a)
  begins-refused segment room lacks = grind (arith, none-next, sound, room, lacks)

  pub begins-started : (seat : ℕ) → next_seat a.seating ≡ Some seat → absent_segment a.reach.directory (program_at a.programs program).windows ≡ None
      → begun.begin_answer a program args ≡ (answer.Started a.next, begun_in a program args seat)
  begins-started seat free present = λ i. begun.begins_by (free i) (present i) a program args

  -- so it is the desk's
  pub begin-goes : (now : Activity) (told : Begun) → program < length a.programs → PoolFits a.reach.directory a.reach.pool
      → told ≡ (begun.begin_answer a program args).0 → now ≡ (begun.begin_answer a program args).1 → (committed : List ℕ) → KeepsDesk a committed → IsBegin a now program args told committed
  begin-goes now told known fits is_told is_new committed follows =
      subst (λ (n : Activity). IsBegin a n program args told committed) (sym is_new)
      (subst (λ (t : Begun). IsBegin a (begun.begin_answer a program args).1 program args t committed) (sym is_told) (is-begin a program args sound known committed follows fits))

-- what a begin says of what it answers and leaves
pub begun-so : (a : Activity) (program : ℕ) (args : List ℕ) (told : Begun) (now : Activity) → IsActivitySound a → program < length a.programs → PoolFits a.reach.directory a.reach.pool → begun.begin_answer a program args ≡ (told, now)
    → begun.BeginsSo a program args told now
begun-so a program args told now sound known fits is =
    let answer : told ≡ (begun.begin_answer a program args).0 = sym (ap (λ (b : Begun × Activity). b.0) is) in
    let left : now ≡ (begun.begin_answer a program args).1 = sym (ap (λ (b : Begun × Activity). b.1) is) in
    record { answer = answer; left = left; is_begin = begin-goes a program args sound now told known fits answer left }

-- the program that was read at a place
pub is-code : (programs : List Program) (place at : ℕ) (code : Program) → place < length programs → at ≡ place → code ≡ slice_index_or programs at code → code ≡ program_at programs place
is-code programs place at code known same is =
    get_or_read programs at code (subst (λ (n : ℕ). n < length programs) (sym same) known) is no_program ∙ ap (program_at programs) same

-- a seat that isn't taken isn't begun
pub is-fresh : (a : Activity) (seat : ℕ) → IsActivitySound a → next_seat a.seating ≡ Some seat → slice_index_or a.reach.begun seat true ≡ false
is-fresh a seat sound found =
    let (below, free, room) = some-next a seat sound found in
    sym (get_or_read a.reach.begun seat false (omega (arith, below, sound.begun)) (sym (sound.free seat free)) true)

-- not all sixteen are taken
pub has-room : (a : Activity) → IsActivitySound a → length a.seating.taken ≢ 16 → length a.seating.taken < 16
has-room a sound apart = let few = few-taken a.seating sound.seating in omega (arith, few, apart)
