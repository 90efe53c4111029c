-- A ring of pages after one came or left.
use Rattle.frame_pool.proofs.Common.{◌≡◌, ℕ, zero, suc, ◌+◌, ◌-◌, ◌<◌, Bool, true, false, List, [], ◌∷◌, ◌++◌, length, refl, sym, ◌∙◌, ap, arith, slice_index, slice_set, nat_tests, has, is_apart, taken_out, has-filter, length-append, vec_len, find, not, option_to_list, Option, Some, None}
use Rattle.frame_pool.specs.Arrivals.{IsChain, led}
use Rattle.frame_pool.specs.ArrivalsView.{IsRing, order_of}
use Rattle.frame_pool.specs.declared.arrivals.Arrivals.TheInside.{Inside}
use Rattle.frame_pool.proofs.SoundLemmas.{apart-cons, apart-push, apart-without, has-push, taken-fewer}
use Rattle.frame_pool.proofs.ArrivalLemmas.{before-in, chain-led, chain-out, chain-push, last-in, led-long, next-in}

-- the place of no page isn't one of the pages
end-out : (a : Inside) → IsRing a → has (order_of a) a.pages ≡ false
end-out a ring = grind (arith, nat_tests, ring.below a.pages)

ends-apart : (a : Inside) → IsRing a → is_apart (a.pages ∷ order_of a) ≡ true
ends-apart a ring = apart-cons a.pages (order_of a) (end-out a ring) ring.apart

-- each place of the ring has a next and one before
pub place-within : (a : Inside) (place : ℕ) → IsRing a → has (a.pages ∷ order_of a) place ≡ true → (place < vec_len a.next) × (place < vec_len a.before)
place-within a place ring inside =
    let low : place < a.pages + 1 = grind (arith, nat_tests, ring.below place, inside) in
    (omega (arith, low, ring.next_long), omega (arith, low, ring.before_long))

pub counted : (a : Inside) → length (order_of a) ≡ a.count
counted a = led-long a.next.items a.count (slice_index a.next.items a.pages)

-- where a chain goes over a list, that is the order
ring-of :
    (new : Inside) (list : List ℕ) → IsChain new.next.items new.before.items new.pages list new.pages → length list ≡ new.count
    → is_apart list ≡ true → ((page : ℕ) → has list page ≡ true → page < new.pages) → vec_len new.next ≡ new.pages + 1 → vec_len new.before ≡ new.pages + 1
    → IsRing new × (order_of new ≡ list)
ring-of new list chain long apart below next_long before_long =
    let order : order_of new ≡ list =
    ap (λ (count : ℕ). led new.next.items count (slice_index new.next.items new.pages)) (sym long) ∙ chain-led new.next.items new.before.items new.pages list new.pages chain in (
      record {
        ring = rw order chain;
        apart = ap is_apart order ∙ apart;
        below = λ page inside. below page (ap (λ (xs : List ℕ). has xs page) (sym order) ∙ inside);
        next_long = next_long;
        before_long = before_long;
      },
      order,
    )

-- what a page's neighbours are, are places of the ring
pub before-within : (a : Inside) (page : ℕ) → IsRing a → has (order_of a) page ≡ true → slice_index a.before.items page < vec_len a.next
before-within a page ring inside = (place-within a (slice_index a.before.items page) ring (before-in a.next.items a.before.items a.pages (order_of a) a.pages page ring.ring inside)).0

pub next-within : (a : Inside) (page : ℕ) → IsRing a → has (order_of a) page ≡ true → slice_index a.next.items page < vec_len a.before
next-within a page ring inside = (place-within a (slice_index a.next.items page) ring (next-in a.next.items a.before.items a.pages (order_of a) a.pages page ring.ring inside)).1

pub last-within : (a : Inside) → IsRing a → slice_index a.before.items a.pages < vec_len a.next
last-within a ring = (place-within a (slice_index a.before.items a.pages) ring (last-in a.next.items a.before.items a.pages (order_of a) a.pages ring.ring)).0

-- a page left
pub ring-left :
    (a new : Inside) (page before next : ℕ) → IsRing a → has (order_of a) page ≡ true
    → before ≡ slice_index a.before.items page → next ≡ slice_index a.next.items page
    → new.next.items ≡ slice_set a.next.items before next → new.before.items ≡ slice_set a.before.items next before
    → new.count + 1 ≡ a.count → new.pages ≡ a.pages → vec_len new.next ≡ vec_len a.next → vec_len new.before ≡ vec_len a.before
    → IsRing new × (order_of new ≡ taken_out (page ∷ []) (order_of a))
ring-left a new page before next ring inside was is nexts befores fewer pages long back =
    ring-of new (taken_out (page ∷ []) (order_of a)) chain
    (omega (arith, fewer, taken-fewer page (order_of a) ring.apart inside, counted a))
    (apart-without (page ∷ []) (order_of a) ring.apart)
    (λ other there. rw pages (ring.below other (grind (arith, nat_tests, has-filter, there))))
    (omega (arith, long, pages, ring.next_long)) (omega (arith, back, pages, ring.before_long))
  where
    low : before < length a.next.items
    low = omega (arith, was, before-within a page ring inside, a.next.ok.0)

    high : next < length a.before.items
    high = omega (arith, is, next-within a page ring inside, a.before.ok.0)

    chain : IsChain new.next.items new.before.items new.pages (taken_out (page ∷ []) (order_of a)) new.pages
    chain =
        rw (nexts, befores, pages)
        (chain-out a.next.items a.before.items a.pages (order_of a) a.pages page before next ring.ring was is (ends-apart a ring) (end-out a ring) low high inside)

-- a page came
pub ring-came :
    (a new : Inside) (page last : ℕ) → IsRing a → has (order_of a) page ≡ false → page < a.pages → last ≡ slice_index a.before.items a.pages
    → new.next.items ≡ slice_set (slice_set a.next.items last page) page a.pages → new.before.items ≡ slice_set (slice_set a.before.items page last) a.pages page
    → new.count ≡ a.count + 1 → new.pages ≡ a.pages → vec_len new.next ≡ vec_len a.next → vec_len new.before ≡ vec_len a.before
    → IsRing new × (order_of new ≡ order_of a ++ page ∷ [])
ring-came a new page last ring absent inside is nexts befores more pages long back =
    ring-of new (order_of a ++ page ∷ []) chain
    (omega (arith, more, length-append (order_of a) (page ∷ []), counted a))
    (apart-push (order_of a) page ring.apart absent)
    (λ other there. rw pages (grind (arith, nat_tests, has-push (order_of a) page other, there, ring.below other, inside)))
    (omega (arith, long, pages, ring.next_long)) (omega (arith, back, pages, ring.before_long))
  where
    low : last < length a.next.items
    low = omega (arith, is, last-within a ring, a.next.ok.0)

    there : page < length a.next.items
    there = omega (arith, inside, ring.next_long, a.next.ok.0)

    also : page < length a.before.items
    also = omega (arith, inside, ring.before_long, a.before.ok.0)

    high : a.pages < length a.before.items
    high = omega (arith, ring.before_long, a.before.ok.0)

    chain : IsChain new.next.items new.before.items new.pages (order_of a ++ page ∷ []) new.pages
    chain =
        rw (nexts, befores, pages)
        (chain-push a.next.items a.before.items a.pages (order_of a) a.pages page last ring.ring is (ends-apart a ring) (end-out a ring)
        (grind (arith, nat_tests, absent, inside)) (grind (arith, nat_tests, inside)) low there also high)

-- a page that stands among them is a place of the ring
pub page-within : (a : Inside) (page : ℕ) → IsRing a → has (order_of a) page ≡ true → (page < vec_len a.next) × (page < vec_len a.before)
page-within a page ring inside = place-within a page ring (grind (arith, nat_tests, inside))

-- the first of some pages is among them
pub first-in : (n : List ℕ) (count at : ℕ) → (count ≡ 0 → ⊥) → has (led n count at) at ≡ true
first-in n zero at some = absurd (some refl)
first-in n (suc count) at some = grind (arith, nat_tests)

-- and so are the others
pub rest-in : (n : List ℕ) (count at page : ℕ) → (count ≡ 0 → ⊥) → has (led n (count - 1) (slice_index n at)) page ≡ true → has (led n count at) page ≡ true
rest-in n zero at page some there = absurd (some refl)
rest-in n (suc count) at page some there = grind (arith, nat_tests, there)

-- none goes where all stay, else the first or the second
pub find-none : (test : ℕ → Bool) (n : List ℕ) (count at : ℕ) → count ≡ 0 → find test (led n count at) ≡ None
find-none test n count at none = rw none refl

pub find-first_led : (keep : Option ℕ) (n : List ℕ) (count at : ℕ) → (count ≡ 0 → ⊥) → has (option_to_list keep) at ≡ false
    → find (λ page. not (has (option_to_list keep) page)) (led n count at) ≡ Some at
find-first_led keep n zero at some goes = absurd (some refl)
find-first_led keep n (suc count) at some goes = grind (arith, nat_tests, goes)

pub find-second_led : (keep : Option ℕ) (n : List ℕ) (count at : ℕ) → is_apart (led n count at) ≡ true → (count ≡ 0 → ⊥) → (count ≡ 1 → ⊥)
    → has (option_to_list keep) at ≡ true → find (λ page. not (has (option_to_list keep) page)) (led n count at) ≡ Some (slice_index n at)
find-second_led keep n zero at apart some two stays = absurd (some refl)
find-second_led keep n (suc zero) at apart some two stays = absurd (two refl)
find-second_led keep n (suc (suc count)) at apart some two stays = grind (arith, nat_tests, apart, stays)

pub find-only_led : (keep : Option ℕ) (n : List ℕ) (count at : ℕ) → count ≡ 1 → has (option_to_list keep) at ≡ true
    → find (λ page. not (has (option_to_list keep) page)) (led n count at) ≡ None
find-only_led keep n count at one stays = rw one (grind (arith, nat_tests, stays))
