-- The pages of segments and the flat pages of a store, by each other.
use Rattle.storage_unit.proofs.Common.{not, cond, nat_lt, if◌then◌else◌, find, take_while, sum_by, option_map, slice_index, nat_tests, PageSize, page_bytes, bytes_of, is_named, Layout, length_of, start_of, page_count, AreSegmentsLegal, Key, key_to, named-low, key_among, key_of_page, ◌≡◌, ℕ, ◌+◌, ◌-◌, ◌*◌, ◌/◌, ◌%◌, ◌<◌, ◌≤◌, Bool, true, false, List, [], ◌∷◌, map, refl, ◌∙◌, ap, arith, add-one, Option, Some}
use Rattle.std.specs.List.Sorted.{IsStrictlyIncreasing}
use Rattle.std.proofs.lemmas.List.Sums.{sum_by-cons}
use Rattle.storage_unit.proofs.SizeLemmas.{pages-past, pages-left}

-- the bytes of segments, by the size of a page, and where they begin
abbrev long_of : PageSize → List (ℕ × ℕ) → ℕ → Option ℕ
long_of size segments identifier = option_map (bytes_of (page_bytes size)) (find (is_named identifier) segments)

abbrev begin_of : PageSize → List (ℕ × ℕ) → ℕ → ℕ
begin_of size segments identifier = sum_by (bytes_of (page_bytes size)) (take_while (λ segment. not (is_named identifier segment)) segments)

-- a page of a segment lies in it, where the flat page does
record Stands (size : PageSize) (segments : List (ℕ × ℕ)) (key : Key) (page : ℕ) : Type 0 where
  bytes : ℕ
  found : long_of size segments key.segment ≡ Some bytes
  within : key.page * page_bytes size + page_bytes size ≤ bytes
  start : begin_of size segments key.segment + key.page * page_bytes size ≡ page * page_bytes size

module _ (size : PageSize) where
  -- the same with one more in front
  begin-cons : (identifier : ℕ) (x : ℕ × ℕ) (xs : List (ℕ × ℕ)) → begin_of size (x ∷ xs) identifier ≡ (if is_named identifier x then 0 else bytes_of (page_bytes size) x + begin_of size xs identifier)
  begin-cons identifier x xs = grind (arith, nat_tests, sum_by-cons (bytes_of (page_bytes size)) x)

  -- the key of the page of a place is the page of its segment
  key-of-offset :
      (segments : List (ℕ × ℕ)) (identifier bytes offset : ℕ) → long_of size segments identifier ≡ Some bytes → offset < bytes
      → key_among segments ((begin_of size segments identifier + offset) / page_bytes size) ≡ key_to identifier (offset / page_bytes size)
  key-of-offset [] identifier bytes offset found below = absurd (cc)
  key-of-offset (x ∷ xs) identifier bytes offset found below =
      cc (begin-cons identifier x xs, by_name (is_named identifier x) refl found (λ later. key-of-offset xs identifier bytes offset later below))
    where
      by_name :
          (named : Bool) → is_named identifier x ≡ named → option_map (bytes_of (page_bytes size)) (cond named (Some x) (find (is_named identifier) xs)) ≡ Some bytes
          → (long_of size xs identifier ≡ Some bytes → key_among xs ((begin_of size xs identifier + offset) / page_bytes size) ≡ key_to identifier (offset / page_bytes size))
          → key_among (x ∷ xs) (((if named then 0 else bytes_of (page_bytes size) x + begin_of size xs identifier) + offset) / page_bytes size) ≡ key_to identifier (offset / page_bytes size)
      by_name true is found rest =
          let long : bytes_of (page_bytes size) x ≡ bytes = cc in
          let same : x.0 ≡ identifier = grind (arith, nat_tests, is) in
          let here : (0 + offset) / page_bytes size ≡ offset / page_bytes size = ap (λ n. n / page_bytes size) (omega arith) in
          let inside : nat_lt (offset / page_bytes size) x.1 ≡ true = let less : offset / page_bytes size < x.1 = grind (arith, nat_tests) in grind (arith, nat_tests, less) in
          cc
      by_name false is found rest =
          let later : (bytes_of (page_bytes size) x + begin_of size xs identifier + offset) / page_bytes size ≡ x.1 + (begin_of size xs identifier + offset) / page_bytes size =
          ap (λ n. n / page_bytes size) (omega arith) ∙ pages-past size x.1 (begin_of size xs identifier + offset) in
          let past : nat_lt (x.1 + (begin_of size xs identifier + offset) / page_bytes size) x.1 ≡ false = grind (arith, nat_tests) in
          let back : x.1 + (begin_of size xs identifier + offset) / page_bytes size - x.1 ≡ (begin_of size xs identifier + offset) / page_bytes size = omega arith in
          cc (rest found)

  -- identifiers ascend behind the first
  behind : (x : ℕ) (xs : List ℕ) (k : ℕ) → slice_index (x ∷ xs) (k + 1) ≡ slice_index xs k
  behind x xs k = ap (slice_index (x ∷ xs)) (add-one k)

  head : (x y : ℕ) (ys : List ℕ) → IsStrictlyIncreasing (x ∷ y ∷ ys) → x < y
  head x y ys all = all 0 (omega arith)

  tail : (x : ℕ) (ys : List ℕ) → IsStrictlyIncreasing (x ∷ ys) → IsStrictlyIncreasing ys
  tail x ys all k inside = omega (arith, all (k + 1) (omega arith), behind x ys k, behind x ys (k + 1))

  above :
      (low : ℕ) (segments : List (ℕ × ℕ)) (identifier bytes : ℕ) → IsStrictlyIncreasing (low ∷ map (λ segment. segment.0) segments)
      → long_of size segments identifier ≡ Some bytes → low < identifier
  above low [] identifier bytes ascends found = absurd (cc)
  above low (x ∷ xs) identifier bytes ascends found =
      let rest = above x.0 xs identifier bytes (tail low (x.0 ∷ map (λ segment. segment.0) xs) ascends) in
      grind (arith, nat_tests, rest, head low x.0 (map (λ segment. segment.0) xs) ascends)

  stands : (segments : List (ℕ × ℕ)) (page : ℕ) → IsStrictlyIncreasing (map (λ segment. segment.0) segments) → page < sum_by (λ segment. segment.1) segments → Stands size segments (key_among segments page) page
  stands [] page ascends below = absurd (omega (arith, below))
  stands (x ∷ xs) page ascends below = by_test (nat_lt page x.1) refl (λ less. stands xs (page - x.1) (tail x.0 (map (λ segment. segment.0) xs) ascends) less)
    where
      count : sum_by (λ segment. segment.1) (x ∷ xs) ≡ x.1 + sum_by (λ segment. segment.1) xs
      count = sum_by-cons (λ (segment : ℕ × ℕ). segment.1) x xs

      equal : (n : ℕ) → is_named n (n, x.1) ≡ true
      equal n = grind (arith, nat_tests)

      by_test : (inside : Bool) → nat_lt page x.1 ≡ inside → (page - x.1 < sum_by (λ segment. segment.1) xs → Stands size xs (key_among xs (page - x.1)) (page - x.1))
          → Stands size (x ∷ xs) (if inside then key_to x.0 page else key_among xs (page - x.1)) page
      by_test true is rest =
          let less : page < x.1 = grind (arith, nat_tests, is) in
          record {
            bytes = bytes_of (page_bytes size) x;
            found = ap (λ (b : Bool). option_map (bytes_of (page_bytes size)) (cond b (Some x) (find (is_named x.0) xs))) (equal x.0);
            within = grind (arith, nat_tests);
            start = omega (arith, begin-cons x.0 x xs ∙ ap (λ (b : Bool). if b then 0 else bytes_of (page_bytes size) x + begin_of size xs x.0) (equal x.0));
          }
      by_test false is rest =
          let more : x.1 ≤ page = grind (arith, nat_tests, is) in
          let later = rest (omega (arith, below, count, more)) in
          let key = key_among xs (page - x.1) in
          let low : x.0 < key.segment = above x.0 xs key.segment later.bytes ascends later.found in
          let other : is_named key.segment x ≡ false = grind (arith, nat_tests, low) in
          record {
            bytes = later.bytes;
            found = ap (λ (b : Bool). option_map (bytes_of (page_bytes size)) (cond b (Some x) (find (is_named key.segment) xs))) other ∙ later.found;
            within = later.within;
            start = omega (arith, begin-cons key.segment x xs ∙ ap (λ (b : Bool). if b then 0 else bytes_of (page_bytes size) x + begin_of size xs key.segment) other, later.start, pages-left size x.1 page more);
          }

module _ (d : Layout) (legal : AreSegmentsLegal d.segments) where
  -- the page of a place of the store
  pub key-of-place :
      (segment bytes offset : ℕ) → length_of d segment ≡ Some bytes → offset < bytes → key_of_page d ((start_of d segment + offset) / page_bytes d.page) ≡ key_to segment (offset / page_bytes d.page)
  key-of-place segment bytes offset found below = key-of-offset d.page d.segments segment bytes offset found below

  -- two pages have two keys, and each is of a segment of the store
  pub same-page : (page other : ℕ) → page < page_count d → other < page_count d → key_of_page d page ≡ key_of_page d other → page ≡ other
  same-page page other below also same = grind (arith, nat_tests, stands d.page d.segments page legal.ascending below, stands d.page d.segments other legal.ascending also)

  pub key-low : (page : ℕ) → page < page_count d → (key_of_page d page).segment < 3840
  key-low page below =
      let one = stands d.page d.segments page legal.ascending below in
      named-low d.segments (key_of_page d page).segment one.bytes d.page legal one.found

  -- where a segment begins is where a page does
  pub start-whole : (segment : ℕ) → start_of d segment % page_bytes d.page ≡ 0
  start-whole segment = whole d.segments
    where
      none : (size : PageSize) → 0 % page_bytes size ≡ 0
      none size = grind (arith, nat_tests)

      whole : (segments : List (ℕ × ℕ)) → begin_of d.page segments segment % page_bytes d.page ≡ 0
      whole [] = none d.page
      whole (x ∷ xs) = grind (arith, nat_tests, begin-cons d.page segment x xs, whole xs)
