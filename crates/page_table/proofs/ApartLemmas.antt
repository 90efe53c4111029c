-- Lists in which no number stands twice, and walks along a chain, frame by frame.
use Rattle.page_table.proofs.Common.{range_with_len, ◌⊎◌, arith, refl, ap, sym, ◌∙◌, inl, inr, has, distinct, size, has-filter, in_range, before_in, nat_tests, cases_Bool, ◌≡◌, ◌≢◌, ℕ, ◌<◌, ◌≤◌, ◌==◌, not, Bool, true, false, List, [], ◌∷◌, length, filter, Some, None, Option, zero, suc, ◌+◌, ◌-◌, nat_eq, slice_set, option_eq, get_or-set_same, get_or-set_other, eqb-true, following, chain_from, chain_end, subst}
use Rattle.lines.proofs.SizeLemmas.{size-part, size-range}

pub equal : (n : ℕ) → (n == n) ≡ true
equal n = grind arith

length-distinct : (xs : List ℕ) → length (distinct xs) ≤ length xs
length-distinct [] = omega arith
length-distinct (x ∷ xs) = grind (arith, length-distinct xs)

-- the first isn't among the others, and these have none twice
pub apart-parts : (x : ℕ) (xs : List ℕ) → distinct (x ∷ xs) ≡ x ∷ xs → (has xs x ≡ false) × (distinct xs ≡ xs)
apart-parts x xs apart = grind (arith, nat_tests, length-distinct xs)

pub apart-cons : (x : ℕ) (xs : List ℕ) → has xs x ≡ false → distinct xs ≡ xs → distinct (x ∷ xs) ≡ x ∷ xs
apart-cons x xs new apart = grind arith

-- what is left of such a list
pub apart-filter : (p : ℕ → Bool) (xs : List ℕ) → distinct xs ≡ xs → distinct (filter p xs) ≡ filter p xs
apart-filter p [] apart = refl
apart-filter p (x ∷ xs) apart = grind (arith, nat_tests, apart-parts, has-filter, apart-filter p xs)

-- there are fewer than a bound of them, if a number below the bound is missing
pub few-apart :
    (xs : List ℕ) (bound missing : ℕ) → distinct xs ≡ xs → ((x : ℕ) → has xs x ≡ true → x < bound) → has xs missing ≡ false → missing < bound
    → length xs < bound
few-apart xs bound missing apart below absent inside =
    let all : size (missing ∷ xs) ≤ size (range_with_len 0 bound) = size-part (missing ∷ xs) (range_with_len 0 bound) (record { among = among }) in
    omega (arith, all, size-range 0 bound, ap length (apart-cons missing xs absent apart))
  where
    among : (x : ℕ) → has (missing ∷ xs) x ≡ true → has (range_with_len 0 bound) x ≡ true
    among x here = in_range 0 bound x (omega arith) (grind (arith, nat_tests, below))

-- whether a number is another than one
abbrev pub is_other : ℕ → ℕ → Bool
is_other frame x = not (x == frame)

-- a list that lacks a number is as before without it
pub filter-absent : (frame : ℕ) (xs : List ℕ) → has xs frame ≡ false → filter (is_other frame) xs ≡ xs
filter-absent frame [] absent = refl
filter-absent frame (x ∷ xs) absent = grind (arith, nat_tests, filter-absent frame xs)

-- the first stays where it is another
pub filter-other : (frame x : ℕ) (xs : List ℕ) → x ≢ frame → filter (is_other frame) (x ∷ xs) ≡ x ∷ filter (is_other frame) xs
filter-other frame x xs other = grind (arith, nat_tests)

pub filter-same : (frame : ℕ) (xs : List ℕ) → filter (is_other frame) (frame ∷ xs) ≡ filter (is_other frame) xs
filter-same frame xs = grind (arith, nat_tests)

-- what isn't in a list is none of its numbers
pub other-than : (xs : List ℕ) (x y : ℕ) → has xs x ≡ true → has xs y ≡ false → x ≢ y
other-than xs x y inside absent same = absurd (let clash : true ≡ false = sym inside ∙ ap (has xs) same ∙ absent in cc)

-- the number in front of another: the first, if the other is next, or one behind it
pub before-cases :
    (x frame other : ℕ) (rest : List ℕ) → before_in (x ∷ rest) frame ≡ Some other
    → ((tail : List ℕ) × (rest ≡ frame ∷ tail) × (x ≡ other)) ⊎ (before_in rest frame ≡ Some other)
before-cases x frame other rest before = grind (arith, nat_tests, cases_Bool)

-- both are in the list
pub before-in : (xs : List ℕ) (frame other : ℕ) → before_in xs frame ≡ Some other → (has xs frame ≡ true) × (has xs other ≡ true)
before-in [] frame other before = absurd (cc)
before-in (x ∷ []) frame other before = absurd (cc)
before-in (x ∷ y ∷ rest) frame other before = grind (arith, nat_tests, before-in (y ∷ rest) frame other)

-- where a list has a number and none in front of it, it begins with it
pub before-none : (x frame : ℕ) (rest : List ℕ) → has (x ∷ rest) frame ≡ true → before_in (x ∷ rest) frame ≡ None → x ≡ frame
before-none x frame [] inside none = grind (arith, nat_tests)
before-none x frame (y ∷ rest) inside none = grind (arith, nat_tests, before-none y frame rest)

has-own : (x : ℕ) (tail : List ℕ) → has (x ∷ tail) x ≡ true
has-own x tail = grind (arith, nat_tests)

-- a list that has no number twice has none in front of its first
pub before-first : (frame : ℕ) (rest : List ℕ) → distinct (frame ∷ rest) ≡ frame ∷ rest → before_in (frame ∷ rest) frame ≡ None
before-first frame rest apart = by_answer (before_in (frame ∷ rest) frame) refl
  where
    absent : has rest frame ≡ false
    absent = (apart-parts frame rest apart).0

    by_answer : (o : Option ℕ) → before_in (frame ∷ rest) frame ≡ o → o ≡ None
    by_answer None is = refl
    by_answer (Some other) is = elim (before-cases frame frame other rest is) [
      | inl next ↦ absurd (let clash : true ≡ false = sym (ap (λ (list : List ℕ). has list frame) next.1 ∙ has-own frame next.0) ∙ absent in cc)
      | inr behind ↦ absurd (let clash : true ≡ false = sym (before-in rest frame other behind).0 ∙ absent in cc)
    ]

-- nothing follows on nothing
pub chain-none : (next : List (Option ℕ)) (count : ℕ) → chain_from next count None ≡ []
chain-none next zero = refl
chain-none next (suc count) = refl

pub end-none : (next : List (Option ℕ)) (count : ℕ) → chain_end next count None ≡ None
end-none next zero = refl
end-none next (suc count) = refl

-- a walk that has come to an end
pub walked-none : (next : List (Option ℕ)) (count : ℕ) (place : Option ℕ) → place ≡ None → chain_from next count place ≡ []
walked-none next count place at = ap (chain_from next count) at ∙ chain-none next count

-- a walk that is at a frame, and goes on behind it
pub walked-one :
    (next : List (Option ℕ)) (end counter frame : ℕ) (place after : Option ℕ) → place ≡ Some frame → counter < end → after ≡ following next frame
    → chain_from next (end - counter) place ≡ frame ∷ chain_from next (end - (counter + 1)) after
walked-one next end counter frame place after at more is = grind (arith, nat_tests)

pub ends-one :
    (next : List (Option ℕ)) (end counter frame : ℕ) (place after : Option ℕ) → place ≡ Some frame → counter < end → after ≡ following next frame
    → chain_end next (end - counter) place ≡ chain_end next (end - (counter + 1)) after
ends-one next end counter frame place after at more is = grind (arith, nat_tests)

-- nothing is in front of the frame that leads a chain
pub before-lead :
    (next : List (Option ℕ)) (count frame : ℕ) (first : Option ℕ) → first ≡ Some frame → distinct (chain_from next count first) ≡ chain_from next count first
    → before_in (chain_from next count first) frame ≡ None
before-lead next zero frame first is apart = refl
before-lead next (suc count) frame first is apart = rw is (before-first frame (chain_from next count (following next frame)) (rw is at apart))

-- what follows on a frame along a chain that ends is behind it
pub before-here :
    (next : List (Option ℕ)) (count at frame : ℕ) (after : Option ℕ) → after ≡ Some frame → chain_end next count after ≡ None
    → before_in (at ∷ chain_from next count after) frame ≡ Some at
before-here next zero at frame after is ends = absurd (let clash : Some frame ≡ None = sym is ∙ ends in cc)
before-here next (suc count) at frame after is ends = grind (arith, nat_tests, equal)

pub before-later :
    (next : List (Option ℕ)) (count at frame : ℕ) (after : Option ℕ) → after ≢ Some frame
    → before_in (at ∷ chain_from next count after) frame ≡ before_in (chain_from next count after) frame
before-later next zero at frame after other = refl
before-later next (suc count) at frame None other = refl
before-later next (suc count) at frame (Some y) other = grind (arith, nat_tests)

-- what a comparison with a frame tells
pub same-option : (place : Option ℕ) (frame : ℕ) → option_eq nat_eq place (Some frame) ≡ true → place ≡ Some frame
same-option place frame same = grind (arith, nat_tests, eqb-true)

pub other-option : (place : Option ℕ) (frame : ℕ) → option_eq nat_eq place (Some frame) ≡ false → place ≢ Some frame
other-option place frame other is = grind (arith, nat_tests, equal frame)

-- a walk that ends goes on as long as there are frames: one with fewer steps is the same, if it has enough
pub chain-shorter :
    (next : List (Option ℕ)) (few many : ℕ) (at : Option ℕ) → few ≤ many → length (chain_from next many at) ≤ few → chain_end next many at ≡ None
    → (chain_from next few at ≡ chain_from next many at) × (chain_end next few at ≡ None)
chain-shorter next zero zero at less enough ends = (refl, ends)
chain-shorter next zero (suc many) None less enough ends = (refl, refl)
chain-shorter next zero (suc many) (Some frame) less enough ends = absurd (omega arith)
chain-shorter next (suc few) zero at less enough ends = absurd (omega arith)
chain-shorter next (suc few) (suc many) None less enough ends = (refl, refl)
chain-shorter next (suc few) (suc many) (Some frame) less enough ends =
    let inner = chain-shorter next few many (following next frame) (omega arith) (omega arith) ends in
    (ap (λ (rest : List ℕ). frame ∷ rest) inner.0, inner.1)

-- and one with more steps is the same
pub chain-longer :
    (next : List (Option ℕ)) (few many : ℕ) (at : Option ℕ) → few ≤ many → chain_end next few at ≡ None
    → (chain_from next many at ≡ chain_from next few at) × (chain_end next many at ≡ None)
chain-longer next zero many at less ends = (walked-none next many at ends, ap (chain_end next many) ends ∙ end-none next many)
chain-longer next (suc few) zero at less ends = absurd (omega arith)
chain-longer next (suc few) (suc many) None less ends = (refl, refl)
chain-longer next (suc few) (suc many) (Some frame) less ends =
    let inner = chain-longer next few many (following next frame) (omega arith) ends in
    (ap (λ (rest : List ℕ). frame ∷ rest) inner.0, inner.1)

-- a chain without a frame doesn't see what follows on that frame
pub chain-untouched :
    (next : List (Option ℕ)) (count frame : ℕ) (at value : Option ℕ) → has (chain_from next count at) frame ≡ false
    → (chain_from (slice_set next frame value) count at ≡ chain_from next count at) × (chain_end (slice_set next frame value) count at ≡ chain_end next count at)
chain-untouched next zero frame at value absent = (refl, refl)
chain-untouched next (suc count) frame None value absent = (refl, refl)
chain-untouched next (suc count) frame (Some x) value absent =
    grind (arith, nat_tests, get_or-set_other, chain-untouched next count frame (following next x) value)

-- the first frame of a chain, and where the rest comes from
pub chain-first :
    (next : List (Option ℕ)) (count frame : ℕ) (at : Option ℕ) (tail : List ℕ) → chain_from next count at ≡ frame ∷ tail
    → (less : ℕ) × (count ≡ suc less) × (at ≡ Some frame) × (tail ≡ chain_from next less (following next frame))
chain-first next zero frame at tail is = absurd (cc)
chain-first next (suc count) frame None tail is = absurd (cc)
chain-first next (suc count) frame (Some x) tail is = grind (arith, nat_tests)

-- a frame that comes in front of a chain that ends, and doesn't have it
pub chain-in_front :
    (next : List (Option ℕ)) (frame : ℕ) (at : Option ℕ) → frame < length next → chain_end next (length next) at ≡ None
    → has (chain_from next (length next) at) frame ≡ false → length (chain_from next (length next) at) < length next
    → (chain_from (slice_set next frame at) (length next) (Some frame) ≡ frame ∷ chain_from next (length next) at)
    × (chain_end (slice_set next frame at) (length next) (Some frame) ≡ None)
chain-in_front next frame at inside ends absent few = by_less (length next - 1) (omega arith)
  where
    by_less :
        (less : ℕ) → suc less ≡ length next
        → (chain_from (slice_set next frame at) (length next) (Some frame) ≡ frame ∷ chain_from next (length next) at)
        × (chain_end (slice_set next frame at) (length next) (Some frame) ≡ None)
    by_less less is =
        let after = get_or-set_same next frame at None inside in
        let short = chain-shorter next less (length next) at (omega arith) (omega arith) ends in
        let still = chain-untouched next less frame at at (ap (λ (xs : List ℕ). has xs frame) short.0 ∙ absent) in
        grind (arith, after, short, still, is)

-- a frame that leads its chain leaves it
pub chain-headless :
    (next : List (Option ℕ)) (count frame : ℕ) → chain_end next count (Some frame) ≡ None
    → distinct (chain_from next count (Some frame)) ≡ chain_from next count (Some frame)
    → (chain_from next count (following next frame) ≡ filter (is_other frame) (chain_from next count (Some frame)))
    × (chain_end next count (following next frame) ≡ None)
chain-headless next zero frame ends apart = absurd (cc)
chain-headless next (suc count) frame ends apart =
    let parts = apart-parts frame (chain_from next count (following next frame)) apart in
    let long = chain-longer next count (suc count) (following next frame) (omega arith) ends in (
      long.0 ∙ sym (filter-absent frame (chain_from next count (following next frame)) parts.0)
          ∙ sym (filter-same frame (chain_from next count (following next frame))),
      long.1,
    )

-- the frame that follows on the first leaves its chain
chain-cut :
    (next : List (Option ℕ)) (count frame x : ℕ) → following next x ≡ Some frame → chain_end next count (following next x) ≡ None
    → has (chain_from next count (following next x)) frame ≡ true → has (chain_from next count (following next x)) x ≡ false
    → distinct (chain_from next count (following next x)) ≡ chain_from next count (following next x) → x < length next
    → (x ∷ chain_from (slice_set next x (following next frame)) count (following (slice_set next x (following next frame)) x)
    ≡ filter (is_other frame) (x ∷ chain_from next count (following next x)))
    × (chain_end (slice_set next x (following next frame)) count (following (slice_set next x (following next frame)) x) ≡ None)
chain-cut next count frame x is ends there new apart inside =
    let value = following next frame in
    let after : following (slice_set next x value) x ≡ value = get_or-set_same next x value None inside in
    let head = chain-headless next count frame (rw is at ends) (rw is at apart) in
    let rest : chain_from next count value ≡ filter (is_other frame) (chain_from next count (following next x)) =
    rw is head.0 in
    let absent : has (chain_from next count value) x ≡ false =
    rw (rest, has-filter (is_other frame) (chain_from next count (following next x)) x, new) refl in
    let still = chain-untouched next count x value value absent in
    let other : x ≢ frame = λ e. other-than (chain_from next count (following next x)) frame x there new (sym e) in
    rw (after, still.0, still.1, rest, filter-other frame x (chain_from next count (following next x)) other)
    (refl, head.1)

-- a frame that follows on another leaves its chain
pub chain-unlinked :
    (next : List (Option ℕ)) (count frame other : ℕ) (at : Option ℕ) → chain_end next count at ≡ None
    → distinct (chain_from next count at) ≡ chain_from next count at → before_in (chain_from next count at) frame ≡ Some other → other < length next
    → (chain_from (slice_set next other (following next frame)) count at ≡ filter (is_other frame) (chain_from next count at))
    × (chain_end (slice_set next other (following next frame)) count at ≡ None)
chain-unlinked next zero frame other at ends apart before inside = absurd (cc)
chain-unlinked next (suc count) frame other None ends apart before inside = absurd (cc)
chain-unlinked next (suc count) frame other (Some x) ends apart before inside =
    let parts = apart-parts x (chain_from next count (following next x)) apart in
    elim (before-cases x frame other (chain_from next count (following next x)) before) [
      | inl now ↦
          let first = chain-first next count frame (following next x) now.0 now.1 in
          let there : has (chain_from next count (following next x)) frame ≡ true = rw (now.1, equal) refl in
          subst (λ (o : ℕ). (chain_from (slice_set next o (following next frame)) (suc count) (Some x)
          ≡ filter (is_other frame) (chain_from next (suc count) (Some x)))
          × (chain_end (slice_set next o (following next frame)) (suc count) (Some x) ≡ None)) now.2
          (chain-cut next count frame x first.2 ends there parts.0 parts.1 (rw now.2 inside))
      | inr later ↦
          let inner = chain-unlinked next count frame other (following next x) ends parts.1 later inside in
          let members = before-in (chain_from next count (following next x)) frame other later in
          let not_other : x ≢ other =
          λ e. other-than (chain_from next count (following next x)) other x members.1 parts.0 (sym e) in
          let not_frame : x ≢ frame =
          λ e. other-than (chain_from next count (following next x)) frame x members.0 parts.0 (sym e) in
          let after : following (slice_set next other (following next frame)) x ≡ following next x =
          get_or-set_other next other x (following next frame) None not_other in
          rw (after, inner.0, filter-other frame x (chain_from next count (following next x)) not_frame) (refl, inner.1)
    ]
