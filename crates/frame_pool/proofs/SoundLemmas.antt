-- A pool's pages agree after a page left its frame, and after one came into a frame; and what such a step needs.
use Rattle.frame_pool.proofs.Common.{has-filter, taken_out, ◌≡◌, ℕ, zero, suc, ◌+◌, ◌*◌, ◌<◌, ◌≤◌, Bool, true, false, List, [], ◌∷◌, ◌++◌, length, refl, sym, ◌∙◌, ap, arith, Some, None, ◌==◌, remove, replicate, slice_index, slice_index_or, slice_set, Option, is_some, unwrap_or, range_with_len, cases_eq, nat_tests, length-set, length-append, get_or-set_same, get_or-set_other, length-replicate, get_or-replicate, PageSize, has-range, has, private_frames, frame_count, ArePlacesSound, IsPlaced, IsOfStore, is_apart, ◌||◌, not, and_from, or_from, not_from_false, has-append, vec_len, vec_capacity, position, if◌then◌else◌, Result, is_ok, IsOk, IsSome, option_to_list, prefix_len, get_or_read_under, frame_of_page, pool_places, find, Places, goes_out, place_page, fresh_places, place_left}
use Rattle.std.proofs.Math.ListN.{get_or-eq_default}
use Rattle.std.proofs.lemmas.List.FromFn.{length-range_with_len}
use Rattle.frame_pool.specs.declared.frame_places.FramePlaces.{FramePlaces}

-- lists in which no number stands twice, under a push and a removal
pub or_none : (x y : Bool) → (x || y) ≡ false → (x ≡ false) × (y ≡ false)
or_none x y h1 = grind (arith, nat_tests)

not_true : (x : Bool) → not x ≡ true → x ≡ false
not_true x h1 = grind (arith, nat_tests)

pub turned : (x y : ℕ) → (x == y) ≡ false → (y == x) ≡ false
turned x y differ = grind (arith, nat_tests)

-- the parts of a list in which no number stands twice
pub first-apart : (x : ℕ) (xs : List ℕ) → is_apart (x ∷ xs) ≡ true → (has xs x ≡ false) × (is_apart xs ≡ true)
first-apart x xs apart = grind (arith, nat_tests)

pub apart-cons : (x : ℕ) (xs : List ℕ) → has xs x ≡ false → is_apart xs ≡ true → is_apart (x ∷ xs) ≡ true
apart-cons x xs absent apart = and_from (not (has xs x)) (is_apart xs) (not_from_false (has xs x) absent) apart

pub has-push : (xs : List ℕ) (y z : ℕ) → has (xs ++ y ∷ []) z ≡ (has xs z || (y == z || false))
has-push xs y z = has-append xs (y ∷ []) z

pub has-push_last : (xs : List ℕ) (y : ℕ) → has (xs ++ y ∷ []) y ≡ true
has-push_last [] y = grind (arith, nat_tests)
has-push_last (x ∷ xs) y = grind (arith, nat_tests, has-push_last xs y)

pub has-push_other : (xs : List ℕ) (y z : ℕ) → (y == z) ≡ false → has (xs ++ y ∷ []) z ≡ has xs z
has-push_other [] y z differ = or_from (y == z) false differ refl
has-push_other (x ∷ xs) y z differ = ap (λ (b : Bool). (x == z) || b) (has-push_other xs y z differ)

pub apart-push : (xs : List ℕ) (y : ℕ) → is_apart xs ≡ true → has xs y ≡ false → is_apart (xs ++ y ∷ []) ≡ true
apart-push [] y apart absent = refl
apart-push (x ∷ xs) y apart absent = grind (arith, nat_tests, has-push, first-apart x xs apart, apart-push xs y)

pub apart-front : (xs : List ℕ) (y : ℕ) → is_apart (xs ++ y ∷ []) ≡ true → (is_apart xs ≡ true) × (has xs y ≡ false)
apart-front [] y apart = (refl, refl)
apart-front (x ∷ xs) y apart = grind (arith, nat_tests, has-push, first-apart x (xs ++ y ∷ []) apart, apart-front xs y)

pub has-at : (xs : List ℕ) (i : ℕ) → i < length xs → has xs (slice_index xs i) ≡ true
has-at [] i below = absurd (omega arith)
has-at (x ∷ xs) zero below = grind (arith, nat_tests)
has-at (x ∷ xs) (suc i) below = grind (arith, nat_tests, has-at xs i)

pub has-remove_other : (xs : List ℕ) (i z : ℕ) → (slice_index xs i == z) ≡ false → has (remove xs i) z ≡ has xs z
has-remove_other [] zero z differ = refl
has-remove_other [] (suc i) z differ = refl
has-remove_other (x ∷ xs) zero z differ = sym (ap (λ (b : Bool). b || has xs z) differ)
has-remove_other (x ∷ xs) (suc i) z differ = ap (λ (b : Bool). (x == z) || b) (has-remove_other xs i z differ)

-- a list that lacks a number is as before without it
pub absent-taken : (x : ℕ) (xs : List ℕ) → has xs x ≡ false → taken_out (x ∷ []) xs ≡ xs
absent-taken x [] absent = refl
absent-taken x (y ∷ ys) absent = grind (arith, nat_tests, absent-taken x ys)

-- a list in which no number stands twice, without some of them
pub without-absent : (these xs : List ℕ) (x : ℕ) → has xs x ≡ false → has (taken_out these xs) x ≡ false
without-absent these xs x absent = grind (arith, nat_tests, has-filter)

-- it is no longer
pub without-fewer : (these xs : List ℕ) → length (taken_out these xs) ≤ length xs
without-fewer these [] = omega arith
without-fewer these (x ∷ xs) = grind (arith, nat_tests, without-fewer these xs)

pub apart-without : (these xs : List ℕ) → is_apart xs ≡ true → is_apart (taken_out these xs) ≡ true
apart-without these [] apart = apart
apart-without these (x ∷ xs) apart = grind (arith, nat_tests, apart-without these xs, without-absent these xs x)

-- without one that is in it, it is one shorter
pub taken-fewer : (x : ℕ) (xs : List ℕ) → is_apart xs ≡ true → has xs x ≡ true → length (taken_out (x ∷ []) xs) + 1 ≡ length xs
taken-fewer x [] apart inside = absurd (let clash : false ≡ true = inside in cc)
taken-fewer x (y ∷ ys) apart inside = grind (arith, nat_tests, first-apart y ys apart, absent-taken x ys, taken-fewer x ys)

-- a number that isn't in a list differs from one that is
pub differs : (xs : List ℕ) (x z : ℕ) → has xs x ≡ false → has xs z ≡ true → (x == z) ≡ false
differs xs x z none some = grind (arith, nat_tests)

-- a page that is somewhere is one of the pages, and a frame one of the frames
within : (X : Type 0) → (xs : List (Option X)) (i : ℕ) (x : X) → slice_index_or xs i None ≡ Some x → i < length xs
within X xs i x there = grind (arith, nat_tests, get_or-eq_default)

pub page-within : (pages : Places) (page frame : ℕ) → frame_of_page pages page ≡ Some frame → page < length pages.frame_of
page-within pages page frame there = within ℕ pages.frame_of page frame there

differ : (x y : ℕ) → (x ≡ y → ⊥) → (x == y) ≡ false
differ x y apart = grind (arith, nat_tests)

pub resident-in_frame : (pages : Places) (page : ℕ) → ArePlacesSound pages → has pages.resident page ≡ true → frame_of_page pages page ≡ Some (unwrap_or (frame_of_page pages page) 0)
resident-in_frame pages page sound inside = grind (arith, nat_tests, sound.placed.resident page, inside)

pub frame_of_store : (pages : Places) (page frame : ℕ) → ArePlacesSound pages → frame_of_page pages page ≡ Some frame → IsOfStore pages frame
frame_of_store pages page frame sound there = sound.placed.in_use page frame (sound.placed.there page frame there)

pub page_part : (page count size : ℕ) → page < count → page * size + size ≤ count * size
page_part page count size below = grind arith

-- two lists that point at each other do so still once one pair is gone
pair-left : (to from : List (Option ℕ)) (x y : ℕ) → x < length to → slice_index_or from y None ≡ Some x
    → ((p f : ℕ) → slice_index_or to p None ≡ Some f → slice_index_or from f None ≡ Some p)
    → (p f : ℕ) → slice_index_or (slice_set to x None) p None ≡ Some f → slice_index_or (slice_set from y None) f None ≡ Some p
pair-left to from x y inside back each p f is = grind (arith, nat_tests, cases_eq, get_or-set_same, get_or-set_other)

-- and once one came
pair-came : (to from : List (Option ℕ)) (x y : ℕ) → x < length to → y < length from → slice_index_or from y None ≡ None
    → ((p f : ℕ) → slice_index_or to p None ≡ Some f → slice_index_or from f None ≡ Some p)
    → (p f : ℕ) → slice_index_or (slice_set to x (Some y)) p None ≡ Some f → slice_index_or (slice_set from y (Some x)) f None ≡ Some p
pair-came to from x y inside also free each p f is = grind (arith, nat_tests, cases_eq, get_or-set_same, get_or-set_other)

-- a page left: its frame is free
pub sound-left :
    (pages : Places) (page frame : ℕ) → ArePlacesSound pages → frame_of_page pages page ≡ Some frame → ArePlacesSound (place_left pages page frame)
sound-left pages page frame sound in_frame =
    record {
      sized = record { some = sound.sized.some; few = sound.sized.few; page_in = length-set pages.page_in frame None ∙ sound.sized.page_in };
      placed = record {
        used = omega (arith, taken-fewer page pages.resident old.pages_apart inside, length-append pages.free (frame ∷ []), old.used);
        pages_apart = apart-without (page ∷ []) pages.resident old.pages_apart;
        free_apart = apart-push pages.free frame old.free_apart not_free;
        resident = λ p.
            let was = old.resident p in
            grind (arith, nat_tests, has-filter, was, get_or-set_same pages.frame_of page None None page_inside, get_or-set_other pages.frame_of page p);
        there = λ p f is. pair-left pages.frame_of pages.page_in page frame page_inside back old.there p f is;
        back = λ p f is. pair-left pages.page_in pages.frame_of frame page frame_inside in_frame (λ f p. old.back p f) f p is;
        in_use = λ p f is.
            let was = old.in_use p f in
            grind (arith, nat_tests, get_or-set_other pages.page_in frame f, was, store, is);
        is_free = λ f free.
            let was = old.is_free f in
            grind (arith, nat_tests, get_or-set_same pages.page_in frame None None frame_inside, get_or-set_other pages.page_in frame f, has-push_other pages.free frame f, was, store, free);
      };
    }
  where
    old : IsPlaced pages
    old = sound.placed

    inside : has pages.resident page ≡ true
    inside = let was = old.resident page in grind (arith, nat_tests, was, in_frame)

    page_inside : page < length pages.frame_of
    page_inside = page-within pages page frame in_frame

    back : place_page pages frame ≡ Some page
    back = old.there page frame in_frame

    frame_inside : frame < length pages.page_in
    frame_inside = within ℕ pages.page_in frame page back

    store : IsOfStore pages frame
    store = old.in_use page frame back

    not_free : has pages.free frame ≡ false
    not_free = let free = old.is_free frame in grind (arith, nat_tests, free, back)

-- the same where the parts are told apart
pub sound-left_by :
    (pages : Places) (page frame : ℕ) (resident free : List ℕ) (frame_of page_in : List (Option ℕ))
    → ArePlacesSound pages → frame_of_page pages page ≡ Some frame
    → resident ≡ taken_out (page ∷ []) pages.resident → frame_of ≡ slice_set pages.frame_of page None → page_in ≡ slice_set pages.page_in frame None
    → free ≡ pages.free ++ frame ∷ []
    → ArePlacesSound (record pages { resident = resident; frame_of = frame_of; page_in = page_in; free = free })
sound-left_by pages page frame resident free frame_of page_in sound in_frame e1 e2 e3 e4 =
    rw (e1, e2, e3, e4) (sound-left pages page frame sound in_frame)

-- a page came into a free frame
pub sound-came :
    (pages : Places) (page frame : ℕ) (free : List ℕ) → ArePlacesSound pages → has pages.resident page ≡ false → page < length pages.frame_of
    → pages.free ≡ free ++ frame ∷ []
    → ArePlacesSound (record pages {
      resident = pages.resident ++ page ∷ [];
      frame_of = slice_set pages.frame_of page (Some frame);
      page_in = slice_set pages.page_in frame (Some page);
      free = free;
    })
sound-came pages page frame free sound absent page_inside split =
    record {
      sized = record { some = sound.sized.some; few = sound.sized.few; page_in = length-set pages.page_in frame (Some page) ∙ sound.sized.page_in };
      placed = record {
        used = omega (arith, length-append pages.resident (page ∷ []), ap length split, length-append free (frame ∷ []), old.used);
        pages_apart = apart-push pages.resident page old.pages_apart absent;
        free_apart = apart_before.0;
        resident = λ p.
            let was = old.resident p in
            grind (arith, nat_tests, has-push_last pages.resident page, has-push_other pages.resident page p, was, get_or-set_same pages.frame_of page (Some frame) None page_inside, get_or-set_other pages.frame_of page p);
        there = λ p f is. pair-came pages.frame_of pages.page_in page frame page_inside frame_inside was_free.0 old.there p f is;
        back = λ p f is. pair-came pages.page_in pages.frame_of frame page frame_inside page_inside not_there (λ f p. old.back p f) f p is;
        in_use = λ p f is.
            let was = old.in_use p f in
            grind (arith, nat_tests, get_or-set_other pages.page_in frame f, was, was_free, is);
        is_free = λ f inside.
            let was = old.is_free f in
            grind (arith, nat_tests, get_or-set_other pages.page_in frame f, has-push_other free frame f, was, split, apart_before, inside);
      };
    }
  where
    old : IsPlaced pages
    old = sound.placed

    new : Places
    new = record pages {
      resident = pages.resident ++ page ∷ [];
      frame_of = slice_set pages.frame_of page (Some frame);
      page_in = slice_set pages.page_in frame (Some page);
      free = free;
    }

    apart_before : (is_apart free ≡ true) × (has free frame ≡ false)
    apart_before = apart-front free frame (ap is_apart (sym split) ∙ old.free_apart)

    was_free : (place_page pages frame ≡ None) × IsOfStore pages frame
    was_free = old.is_free frame (ap (λ (xs : List ℕ). has xs frame) split ∙ has-push_last free frame)

    frame_inside : frame < length pages.page_in
    frame_inside = omega (arith, was_free.1.below, sound.sized.page_in)

    not_there : frame_of_page pages page ≡ None
    not_there = let was = old.resident page in grind (arith, nat_tests, was, absent)

pub sound-came_by :
    (pages : Places) (page frame : ℕ) (resident free : List ℕ) (frame_of page_in : List (Option ℕ))
    → ArePlacesSound pages → has pages.resident page ≡ false → page < length pages.frame_of → pages.free ≡ free ++ frame ∷ []
    → resident ≡ pages.resident ++ page ∷ [] → frame_of ≡ slice_set pages.frame_of page (Some frame) → page_in ≡ slice_set pages.page_in frame (Some page)
    → ArePlacesSound (record pages { resident = resident; frame_of = frame_of; page_in = page_in; free = free })
sound-came_by pages page frame resident free frame_of page_in sound absent inside split e1 e2 e3 =
    rw (e1, e2, e3) (sound-came pages page frame free sound absent inside split)

-- a list of nothings has nothing
nothing : (X : Type 0) → (count i : ℕ) → slice_index_or (replicate {A = Option X} count None) i None ≡ None
nothing X count i = grind (arith, nat_tests, get_or-replicate, get_or-eq_default, length-replicate)

not-in_range : (low count x : ℕ) → x < low → has (range_with_len low count) x ≡ false
not-in_range low zero x below = refl
not-in_range low (suc count) x below = rw (has-range low (suc count) x) (grind (arith, nat_tests))

range-apart : (low count : ℕ) → is_apart (range_with_len low count) ≡ true
range-apart low zero = refl
range-apart low (suc count) = apart-cons low (range_with_len (low + 1) count) (not-in_range (low + 1) count low (omega arith)) (range-apart (low + 1) count)

in-range : (low count x : ℕ) → has (range_with_len low count) x ≡ true → (low ≤ x) × (x < low + count)
in-range low count x inside = grind (arith, nat_tests, has-range)

pub sound-fresh : (size : PageSize) (frames pages : ℕ) → 2 ≤ frames → frames ≤ 1024 → ArePlacesSound (fresh_places size frames pages)
sound-fresh size frames pages some few =
    record {
      sized = record { some = some; few = few; page_in = length-replicate {A = Option ℕ} (frame_count size frames) None };
      placed = record {
        used = omega (arith, length-range_with_len (private_frames size) frames);
        pages_apart = refl;
        free_apart = range-apart (private_frames size) frames;
        resident = λ page. sym (ap (λ (o : Option ℕ). is_some o) (nothing ℕ pages page));
        there = λ page frame is. (let clash : None ≡ Some frame = sym (nothing ℕ pages page) ∙ is in cc);
        back = λ page frame is. (let clash : None ≡ Some page = sym (nothing ℕ (frame_count size frames) frame) ∙ is in cc);
        in_use = λ page frame is. absurd (let clash : None ≡ Some page = sym (nothing ℕ (frame_count size frames) frame) ∙ is in cc);
        is_free = λ frame free. (let facts : (private_frames size ≤ frame) × (frame < private_frames size + frames) = in-range (private_frames size) frames frame free in
            (nothing ℕ (frame_count size frames) frame, record { above = facts.0; below = facts.1 }));
      };
    }

pub sound-fresh_by :
    (size : PageSize) (frames pages first : ℕ) (resident free : List ℕ) (frame_of page_in : List (Option ℕ))
    → 2 ≤ frames → frames ≤ 1024 → first ≡ private_frames size
    → resident ≡ [] → frame_of ≡ replicate pages None → page_in ≡ replicate (first + frames) None → free ≡ range_with_len first frames
    → ArePlacesSound (record { page = size; frames = frames; resident = resident; frame_of = frame_of; page_in = page_in; free = free })
sound-fresh_by size frames pages first resident free frame_of page_in some few e0 e1 e2 e3 e4 =
    rw (e1, e2, e3, e4, e0) (sound-fresh size frames pages some few)

-- what holds of a resident page
pub record Leaves (p : FramePlaces) (page : ℕ) : Type 0 where
  pub in_frame : frame_of_page (pool_places p) page ≡ Some (unwrap_or (frame_of_page (pool_places p) page) 0)
  pub inside : page < vec_len p.frame_of
  pub frame : unwrap_or (frame_of_page (pool_places p) page) 0 < vec_len p.page_in
  pub free : vec_len p.free < vec_capacity p.free

pub leaves : (p : FramePlaces) (page : ℕ) → has p.resident.order page ≡ true → Leaves p page
leaves p page resident =
    record {
      in_frame = in_frame;
      inside = omega (arith, page-within (pool_places p) page (unwrap_or (frame_of_page (pool_places p) page) 0) in_frame, p.frame_of.ok.0);
      frame = frame;
      free = omega (arith, sound.placed.used, taken-fewer page p.resident.order sound.placed.pages_apart resident, p.free_room, p.free.ok.0);
    }
  where
    sound : ArePlacesSound (pool_places p)
    sound = p.sound

    in_frame : frame_of_page (pool_places p) page ≡ Some (unwrap_or (frame_of_page (pool_places p) page) 0)
    in_frame = resident-in_frame (pool_places p) page sound resident

    frame : unwrap_or (frame_of_page (pool_places p) page) 0 < vec_len p.page_in
    frame =
        let store = frame_of_store (pool_places p) page (unwrap_or (frame_of_page (pool_places p) page) 0) sound in_frame in
        omega (arith, store.below, sound.sized.page_in, p.page_in.ok.0)

-- the frame that was read of a page
pub read_frame :
    (p : FramePlaces) (place page frame : ℕ) (read : Option ℕ) → place ≡ page → page < vec_len p.frame_of → read ≡ slice_index_or p.frame_of.items place read
    → frame ≡ unwrap_or read 0 → frame ≡ unwrap_or (frame_of_page (pool_places p) page) 0
read_frame p place page frame read same inside is value =
    let at : read ≡ slice_index_or p.frame_of.items place None = get_or_read_under p.frame_of.items place (vec_len p.frame_of) read None is (omega arith) p.frame_of.ok.0 in
    value ∙ ap (λ (o : Option ℕ). unwrap_or o 0) (at ∙ ap (λ (i : ℕ). slice_index_or p.frame_of.items i None) same)

-- a push for which there was room
pub pushed : (X Y : Type 0) (r : Result X Y) (new old : List ℕ) (x : ℕ) → new ≡ (if is_ok r then old ++ x ∷ [] else old) → IsOk r → new ≡ old ++ x ∷ []
pushed X Y r new old x is ok = grind (arith, nat_tests)

-- a pop where there was something
pub popped : (old new : List ℕ) (o : Option ℕ) → old ≡ new ++ option_to_list o → IsSome o → old ≡ new ++ unwrap_or o 0 ∷ []
popped old new o is some = grind (arith, nat_tests)

-- a frame is free where not all are in use
pub some-free : (p : FramePlaces) → length p.resident.order < p.frames → 0 < vec_len p.free
some-free p room = omega (arith, p.sound.placed.used, p.free.ok.0)

pub free-within : (p : FramePlaces) (frame : ℕ) (free : List ℕ) → p.free.items ≡ free ++ frame ∷ [] → frame < vec_len p.page_in
free-within p frame free split = grind (arith, nat_tests, has-push_last free frame)

some-goes :
    (keep : Option ℕ) (x y : ℕ) (rest : List ℕ) → is_apart (x ∷ y ∷ rest) ≡ true
    → length (x ∷ y ∷ rest) ≤ prefix_len (λ page. not (not (has (option_to_list keep) page))) (x ∷ y ∷ rest) → ⊥
some-goes keep x y rest apart all = grind (arith, nat_tests)

pub not-all-stay : (keep : Option ℕ) (xs : List ℕ) → is_apart xs ≡ true → 2 ≤ length xs → position (λ page. not (has (option_to_list keep) page)) xs ≡ None → ⊥
not-all-stay keep [] apart two none = omega arith
not-all-stay keep (x ∷ []) apart two none = omega arith
not-all-stay keep (x ∷ y ∷ rest) apart two none = let all = some-goes keep x y rest apart in grind (arith, nat_tests, all)

one-goes : (keep : Option ℕ) (xs : List ℕ) → is_apart xs ≡ true → 2 ≤ length xs → find (λ page. not (has (option_to_list keep) page)) xs ≡ None → ⊥
one-goes keep [] apart two none = omega arith
one-goes keep (x ∷ []) apart two none = omega arith
one-goes keep (x ∷ y ∷ rest) apart two none = grind (arith, nat_tests)

-- where no page goes out a frame is free
pub none_room : (p : FramePlaces) (keep : Option ℕ) → goes_out (pool_places p) keep ≡ None → length p.resident.order < p.frames
none_room p keep none = grind (arith, nat_tests, one-goes)

-- a page that goes out is resident
pub find-in : (test : ℕ → Bool) (xs : List ℕ) (page : ℕ) → find test xs ≡ Some page → has xs page ≡ true
find-in test [] page is = absurd (let clash : None ≡ Some page = is in cc)
find-in test (x ∷ xs) page is = grind (arith, nat_tests, find-in test xs page, is)

pub out_resident : (p : FramePlaces) (keep : Option ℕ) (page : ℕ) → goes_out (pool_places p) keep ≡ Some page → has p.resident.order page ≡ true
out_resident p keep page is = grind (arith, nat_tests, find-in (λ other. not (has (option_to_list keep) other)) p.resident.order page)

-- one more number of a range
pub range_push : (first count : ℕ)
    → range_with_len first count ++ (first + count) ∷ [] ≡ range_with_len first (count + 1)
range_push first zero = let at : first + 0 ≡ first = omega arith in ap (λ (x : ℕ). x ∷ []) at
range_push first (suc count) = grind (arith, nat_tests, range_push (first + 1) count)
