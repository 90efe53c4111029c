-- What a step of the pool needs and leaves.
use Rattle.frame_pool.proofs.Common.{ap, fold, ◌≡◌, ℕ, zero, suc, ◌+◌, ◌*◌, ◌<◌, ◌≤◌, Bool, true, false, List, [], ◌∷◌, length, refl, arith, Some, None, All, vec_len, ◌==◌, not, nat_lt, position, find, remove, slice_index, slice_set, if◌then◌else◌, Option, unwrap_or, option_to_list, overlaid, nat_tests, All-from_get_or, position-Some, page_bytes, IsOfPage, has, first_out, taken_out, Inside, Pool, frame_count, Places, place_left, CameIn, pool_places, PoolHasSizes, IsSeen, IsOfStore, subst, is_apart, frame_at, page_at, marks_at, frame_bytes, paging_after, gone, page_out, with_room, Brought, pool_emptied, pool_shown}
use Rattle.lines.proofs.LineSetLemmas.{of_page-below}
use Rattle.frame_pool.proofs.SoundLemmas.{absent-taken, first-apart, has-at, has-push_last, resident-in_frame, page-within, frame_of_store, page_part, not-all-stay, out_resident}

-- the pool of places and the other parts
abbrev pub shown_with : Places → (bytes : List ℕ) → List (List ℕ) → (kept : List ℕ) → Pool
shown_with places bytes marked kept =
    record {
      page = places.page;
      frames = places.frames;
      bytes = bytes;
      resident = places.resident;
      frame_of = places.frame_of;
      page_in = places.page_in;
      marked = marked;
      kept = kept;
    }

-- what is removed of a list in which no number stands twice is taken out of it
pub removed-taken : (xs : List ℕ) (i : ℕ) → is_apart xs ≡ true → i < length xs → remove xs i ≡ taken_out (slice_index xs i ∷ []) xs
removed-taken [] i apart below = absurd (omega arith)
removed-taken (x ∷ xs) zero apart below = grind (arith, nat_tests, absent-taken, first-apart)
removed-taken (x ∷ xs) (suc i) apart below = grind (arith, nat_tests, first-apart x xs apart, has-at xs i, removed-taken xs i)

-- a page that is in a frame leaves it
pub gone-from :
    (pool : Pool) (page frame : ℕ) → frame_at pool page ≡ Some frame
    → gone pool page ≡ record pool {
      resident = taken_out (page ∷ []) pool.resident;
      frame_of = slice_set pool.frame_of page None;
      page_in = slice_set pool.page_in frame None;
      kept = paging_after pool page frame;
    }
gone-from pool page frame there = grind (arith, nat_tests)

-- the frame of a resident page
pub frame-at_resident :
    (p : Inside) (page frame : ℕ) → has p.places.resident.order page ≡ true → frame ≡ unwrap_or (frame_at (pool_shown p) page) 0
    → frame_at (pool_shown p) page ≡ Some frame
frame-at_resident p page frame resident found = grind (arith, nat_tests, resident-in_frame (pool_places p.places) page p.places.sound resident)

pub frame_stored : (p : Inside) (page frame : ℕ) → frame_at (pool_shown p) page ≡ Some frame → IsOfStore (pool_places p.places) frame
frame_stored p page frame there = frame_of_store (pool_places p.places) page frame p.places.sound there

pub page_in_frame : (p : Inside) (page frame : ℕ) → page_at (pool_shown p) frame ≡ Some page
    → page < vec_len p.places.frame_of
page_in_frame p page frame there =
    omega (arith, page-within (pool_places p.places) page frame (p.places.sound.placed.back page frame there), p.places.frame_of.ok.0)

-- what holds of every pool that is seen
pub pool-seen : (p : Inside) → PoolHasSizes p → IsSeen (pool_shown p)
pool-seen p sizes = grind (arith, nat_tests)

pub is_seen : (p : Inside) (pool : Pool) → PoolHasSizes p → pool_shown p ≡ pool → IsSeen pool
is_seen p pool sizes is = subst IsSeen is (pool-seen p sizes)

-- the bytes of a frame
pub frame-part : (pool : Pool) (frame : ℕ) → IsSeen pool → frame < frame_count pool.page pool.frames → frame * page_bytes pool.page + page_bytes pool.page ≤ length pool.bytes
frame-part pool frame seen below = omega (arith, page_part frame (frame_count pool.page pool.frames) (page_bytes pool.page) below, seen.bytes)

-- the frame of a page is one of the frames
pub frame_within : (pool : Pool) (page frame : ℕ) → IsSeen pool → frame_at pool page ≡ Some frame → frame < frame_count pool.page pool.frames
frame_within pool page frame seen there = seen.below page frame (seen.there page frame there)

-- the pool after a page left its frame
pub left-gone :
    (p : Inside) (page frame : ℕ) (after : Places) (kept : List ℕ) → frame_at (pool_shown p) page ≡ Some frame
    → after ≡ place_left (pool_places p.places) page frame → kept ≡ paging_after (pool_shown p) page frame
    → shown_with after p.bytes p.marked.items kept ≡ gone (pool_shown p) page
left-gone p page frame after kept there places keeps = grind (arith, nat_tests, gone-from (pool_shown p) page frame there)

-- a page that isn't resident has no frame, so it stays out
pub gone_none : (p : Inside) (page : ℕ) → has p.places.resident.order page ≡ false → gone (pool_shown p) page ≡ pool_shown p
gone_none p page absent = grind (arith, nat_tests)

-- the first that passes, by its index
find-first :
    (test : ℕ → Bool) (xs : List ℕ) (i : ℕ) → i < length xs → test (slice_index xs i) ≡ true → ((k : ℕ) → k < i → test (slice_index xs k) ≡ false)
    → find test xs ≡ Some (slice_index xs i)
find-first test [] i below passes before = absurd (omega arith)
find-first test (x ∷ xs) zero below passes before = grind (arith, passes)
find-first test (x ∷ xs) (suc i) below passes before =
    let others = find-first test xs i (omega arith) passes (λ k less. before (suc k) (omega arith)) in
    grind (arith, before zero (omega arith), others)

pub find-position : (test : ℕ → Bool) (xs : List ℕ) (i : ℕ) → position test xs ≡ Some i → find test xs ≡ Some (slice_index xs i)
find-position test xs i is = let told = position-Some test xs i 0 is in find-first test xs i told.0 told.1 told.2

-- a page that goes out is resident
pub out_there : (p : Inside) (keep : Option ℕ) (page : ℕ) → page_out (pool_shown p) keep ≡ Some page → has p.places.resident.order page ≡ true
out_there p keep page is = out_resident p.places keep page is

-- the first of all pages leaves, and then the others
first-page : (xs : List ℕ) (page : ℕ) → find (λ other. not (has (option_to_list None) other)) xs ≡ Some page → (rest : List ℕ) × (xs ≡ page ∷ rest)
first-page [] page is = absurd (let clash : None ≡ Some page = is in cc)
first-page (x ∷ rest) page is = (rest, grind (arith, nat_tests, is))

pub emptied_step :
    (p : Inside) (page : ℕ) → find (λ other. not (has (option_to_list None) other)) p.places.resident.order ≡ Some page
    → pool_emptied (gone (pool_shown p) page) ≡ pool_emptied (pool_shown p)
emptied_step p page is =
    let split = first-page p.places.resident.order page is in
    let there = resident-in_frame (pool_places p.places) page p.places.sound in
    grind (arith, nat_tests, split, there, absent-taken page split.0, p.places.sound.placed.pages_apart)

no-page : (xs : List ℕ) → find (λ other. not (has (option_to_list None) other)) xs ≡ None → xs ≡ []
no-page [] none = refl
no-page (x ∷ rest) none = absurd (let clash : Some x ≡ None = none in cc)

pub emptied_none : (p : Inside) → find (λ other. not (has (option_to_list None) other)) p.places.resident.order ≡ None → pool_emptied (pool_shown p) ≡ pool_shown p
emptied_none p none = ap (λ (xs : List ℕ). fold gone (pool_shown p) xs) (no-page p.places.resident.order none)

-- the lines of a set are lines of a page
pub lines-below : (set : List ℕ) → IsOfPage set → All (λ line. line < 16) set
lines-below set is = All-from_get_or (λ line. line < 16) set 0 (λ i below. of_page-below set is (slice_index set i) (has-at set i below))

-- paging space after a page left, as it was computed
pub kept-after_by :
    (p : Inside) (page frame at : ℕ) (marks part kept : List ℕ) → marks ≡ marks_at (pool_shown p) page → at ≡ page * page_bytes p.places.page
    → part ≡ frame_bytes (pool_shown p) frame → kept ≡ (if length marks == 0 then p.kept else overlaid p.kept at part) → kept ≡ paging_after (pool_shown p) page frame
kept-after_by p page frame at marks part kept marked place bytes is = grind (arith, nat_tests)

-- the resident pages when one has gone out for another
room-resident :
    (p : Inside) (keep : Option ℕ)
    → (with_room (pool_shown p) keep).resident
    ≡ (if nat_lt (length p.places.resident.order) p.places.frames then p.places.resident.order else first_out (option_to_list keep) p.places.resident.order)
room-resident p keep =
    let there = λ (page : ℕ). resident-in_frame (pool_places p.places) page p.places.sound in
    let at = has-at p.places.resident.order in
    let taken = λ (index : ℕ). removed-taken p.places.resident.order index p.places.sound.placed.pages_apart in
    let none = not-all-stay keep p.places.resident.order p.places.sound.placed.pages_apart in
    grind (arith, nat_tests, find-position (λ page. not (has (option_to_list keep) page)) p.places.resident.order, gone-from (pool_shown p), there, at, taken, none, position-Some, p.places.sound.sized.some)

-- a page came in
pub came-brought :
    (old mid : Inside) (keep : Option ℕ) (page frame : ℕ) (after : Places) → pool_shown mid ≡ with_room (pool_shown old) keep
    → CameIn (pool_places mid.places) after page frame → Brought (pool_shown old) (shown_with after mid.bytes mid.marked.items mid.kept) page keep frame
came-brought old mid keep page frame after room came = grind (arith, nat_tests, has-push_last after.free frame, room-resident old keep)
