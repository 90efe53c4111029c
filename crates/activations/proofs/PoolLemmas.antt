-- Frames, pages and lines by the size of a page, and pages that come in and go out, of which those that run see nothing.
use Rattle.activations.proofs.Common.{PageSize, page_bytes, line_bytes, frame_count, line_place, entry_bytes, record_bytes, ◌≡◌, ℕ, ◌+◌, ◌-◌, ◌*◌, ◌/◌, ◌%◌, ◌<◌, ◌≤◌, arith, refl, ◌==◌, nat_lt, not, cond, Bool, true, List, [], ◌∷◌, length, Some, None, position_or_len, ap, eq-eqb, or_left, or_right, has, ◌||◌, if◌then◌else◌, false, ◌++◌, slice_index_or, option_to_list, remove, unwrap_or, sym, ◌∙◌, subst, page_of_line, brought, Pool, IsState, IsCurrent, IsOrderly, taken-below, PoolKeeps, Activity, entry_in, entries, store_over, desk_over, state_in, IsActivitySound, IsBeside, KeepsDesk, IsPoolMoved, with_other_pool, differs, Option, is_some, get_or_past, page_count, reach_of, AreDistinct}
use Rattle.std.specs.Prelude.{IsTrue}
use Rattle.activations.specs.Follows.{HasFrames}
use Rattle.frame_pool.specs.Sound.{is_apart}
use Rattle.storage_unit.specs.declared.unit.Unit.{Unit}

-- the private frames have the first bytes
pub private-all : (size : PageSize) (frames bytes : ℕ) → bytes ≡ frame_count size frames * page_bytes size → 262144 ≤ bytes
private-all size frames bytes is = grind arith

-- a line of one of so many pages lies in them
pub line-there :
    (size : PageSize) (whole line count bytes : ℕ) → whole < count → line < 16 → bytes ≡ count * page_bytes size → line_place size whole line + line_bytes size ≤ bytes
line-there size whole line count bytes below few is = grind arith

-- where a place is in its page and in its line
pub place-in-page : (size : PageSize) (place : ℕ) → place / line_bytes size / 16 * page_bytes size + place % page_bytes size ≡ place
place-in-page size place = grind arith

pub place-in-line :
    (size : PageSize) (whole place : ℕ) → line_place size whole (place / line_bytes size % 16) + place % line_bytes size ≡ whole * page_bytes size + place % page_bytes size
place-in-line size whole place = grind arith

pub rest-of-place : (size : PageSize) (place : ℕ) → place % line_bytes size < line_bytes size
rest-of-place size place = grind arith

-- a place of a line
pub place-of-line : (size : PageSize) (line place : ℕ) → line ≡ place / line_bytes size → line * line_bytes size + place % line_bytes size ≡ place
place-of-line size line place is = grind arith

pub line-of-place : (size : PageSize) (line j place : ℕ) → j < line_bytes size → line * line_bytes size + j ≡ place → line ≡ place / line_bytes size
line-of-place size line j place below is = grind arith

-- a line of so many pages ends in them
pub line-ends : (size : PageSize) (line pages bytes : ℕ) → line < pages * 16 → bytes ≡ pages * page_bytes size → line * line_bytes size + line_bytes size ≤ bytes
line-ends size line pages bytes below is = grind arith

-- as many lines as a record may have fit a bank
pub lines-fit : (size : PageSize) (bank count : ℕ) → count + 1 ≤ (bank - 12) / entry_bytes size → record_bytes size (count + 1) + 1 ≤ bank
lines-fit size bank count few = grind arith

-- the first that passes is the same for tests that say the same of each
place-same : (p q : ℕ → Bool) (xs : List ℕ) → ((x : ℕ) → has xs x ≡ true → p x ≡ q x) → position_or_len p xs ≡ position_or_len q xs
place-same p q [] same = refl
place-same p q (x ∷ xs) same =
    λ i. cond (not (same x (or_left (x == x) (has xs x) (eq-eqb x x refl)) i)) (1 + place-same p q xs (λ y inside. same y (or_right (x == y) (has xs y) inside)) i) 0

-- what follows the desk follows it with other pages in its frames
pub moved-kept : (a : Activity) (pool : Pool) (committed : List ℕ) → IsActivitySound a → IsPoolMoved a.reach.pool pool → PoolKeeps a.reach.directory a.reach.pool pool committed
    → IsBeside a committed → IsBeside (with_other_pool a pool) committed
moved-kept a pool committed sound moved keeps kept = record {
  long = kept.long;
  held = kept.held;
  asked = kept.asked;
  stand = λ seat taken.
      subst (IsState (store_over a committed) (entry_in a seat))
      (λ i. record (state_in a seat) { private = sym (moved.private seat (taken-below a.seating sound.seating seat taken)) i })
      (kept.stand seat taken);
  is_current = subst (IsCurrent (store_over a committed) (entries a)) (sym keeps.same) kept.is_current;
  marked = record { is = λ line. ap (λ (marked : List (List ℕ)). has (slice_index_or marked (page_of_line line) []) (line % 16)) moved.marked ∙ kept.marked.is line };
  clean = keeps.clean;
}

pub moved-desk : (a : Activity) (pool : Pool) (committed : List ℕ) (order : List (ℕ × ℕ)) → IsPoolMoved a.reach.pool pool
    → desk_over (with_other_pool a pool) committed order ≡ record (desk_over a committed order) { resident = pool.resident }
moved-desk a pool committed order moved i = record (desk_over a committed order) { frames = moved.frames i; resident = pool.resident }

pub moved-follows : (a : Activity) (pool : Pool) (committed : List ℕ) → IsActivitySound a → IsPoolMoved a.reach.pool pool → PoolKeeps a.reach.directory a.reach.pool pool committed
    → KeepsDesk a committed → KeepsDesk (with_other_pool a pool) committed
moved-follows a pool committed sound moved keeps follows = record {
  orderly = subst IsOrderly (sym (moved-desk a pool committed [] moved))
      (record { whole = follows.orderly.whole; few = follows.orderly.few; active = follows.orderly.active; held = follows.orderly.held; no_cycle = follows.orderly.no_cycle });
  kept = moved-kept a pool committed sound moved keeps follows.kept;
}

-- which other pages stay makes no difference, where they are the same of those that are resident
brought-same : (most : ℕ) (kept other resident : List ℕ) (page : ℕ) → ((x : ℕ) → has resident x ≡ true → has kept x ≡ has other x) → brought most kept resident page ≡ brought most other resident page
brought-same most kept other resident page same =
    ap (λ (n : ℕ). (if nat_lt (length resident) most then resident else remove resident (unwrap_or (cond (nat_lt n (length resident)) (Some n) None) 0)) ++ page ∷ [])
    (place-same (λ x. not (has kept x)) (λ x. not (has other x)) resident (λ x inside. ap not (same x inside)))

-- One page alone comes in; the first of two, while the second stays; and the second, while the first stays.
pub brought-one : (most page : ℕ) (resident : List ℕ) → has resident page ≡ false → brought most (option_to_list None) resident page ≡ brought most (page ∷ []) resident page
brought-one most page resident out = brought-same most [] (page ∷ []) resident page (λ x inside. sym (ap (λ (b : Bool). b || false) (differs resident page x out inside)))

pub brought-first : (most page other : ℕ) (resident : List ℕ) → has resident page ≡ false → brought most (option_to_list (Some other)) resident page ≡ brought most (page ∷ other ∷ []) resident page
brought-first most page other resident out = brought-same most (other ∷ []) (page ∷ other ∷ []) resident page (λ x inside. sym (ap (λ (b : Bool). b || (other == x || false)) (differs resident page x out inside)))

pub brought-second : (most page other : ℕ) (resident : List ℕ) → has resident page ≡ false → brought most (option_to_list (Some other)) resident page ≡ brought most (other ∷ page ∷ []) resident page
brought-second most page other resident out =
    brought-same most (other ∷ []) (other ∷ page ∷ []) resident page (λ x inside. sym (ap (λ (b : Bool). other == x || (b || false)) (differs resident page x out inside)))

-- each stands once where none stands twice
distinct : (xs : List ℕ) → is_apart xs ≡ true → AreDistinct xs
distinct [] is = tt
distinct (x ∷ xs) is = grind (arith, distinct xs)

-- what has a place is within the places
within-places : (places : List (Option ℕ)) (page : ℕ) → is_some (slice_index_or places page None) ≡ true → page < length places
within-places places page is = let past = get_or_past places page None in grind (arith, past)

-- the pages in the frames of a unit fit
pub frames-fit : (unit : Unit) → HasFrames (reach_of unit)
frames-fit unit =
    let seen = unit.fits.seen in
    let within : (page : ℕ) → IsTrue (has unit.pool.resident page) → page < page_count unit.directory = λ page is.
    grind (arith, within-places unit.pool.frame_of page, seen.resident page, unit.fits.pages, is) in record {
      some = seen.some;
      resident = record { few = seen.few; once = distinct unit.pool.resident seen.apart; within = within };
    }
