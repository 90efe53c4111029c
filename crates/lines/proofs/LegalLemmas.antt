-- Segments have no fault exactly where they are a directory's.
use Rattle.lines.proofs.Common.{arith, refl, ap, add-one, sum_by-cons, nat_tests, Order, Range, TooMany, PageSize, Two, Four, page_bytes, Layout, byte_count, fault_of, fault_after, is_strange, IsInRange, AreSegmentsLegal, ◌≡◌, ℕ, zero, suc, ◌+◌, ◌*◌, ◌<◌, ◌≤◌, ◌==◌, nat_lt, nat_le, Bool, true, false, List, [], ◌∷◌, length, map, sum_by, slice_index, All, Option, Some, None, cond}
use Rattle.std.specs.List.Sorted.{IsStrictlyIncreasing}
use Rattle.std.proofs.lemmas.List.Elements.{All-cons, All-head, All-tail}
use Rattle.lines.specs.declared.line_geometry.DirectoryFault.{DirectoryFault}
use Rattle.lines.proofs.WithinLemmas.{byte_count_pages}

-- the identifiers of segments
abbrev identifiers : List (ℕ × ℕ) → List ℕ
identifiers segments = map (λ segment. segment.0) segments

-- what segments are behind others with a last identifier and so many pages
record IsLegalAfter (last pages : ℕ) (segments : List (ℕ × ℕ)) : Type 0 where
  pub in_range : All IsInRange segments
  pub ascending : IsStrictlyIncreasing (last ∷ identifiers segments)
  pub few_pages : pages + sum_by (λ segment. segment.1) segments ≤ 1024

-- the elements behind the first
behind : (x : ℕ) (xs : List ℕ) (k : ℕ) → slice_index (x ∷ xs) (k + 1) ≡ slice_index xs k
behind x xs k = ap (slice_index (x ∷ xs)) (add-one k)

increasing-cons : (x y : ℕ) (ys : List ℕ) → x < y → IsStrictlyIncreasing (y ∷ ys) → IsStrictlyIncreasing (x ∷ y ∷ ys)
increasing-cons x y ys low rest zero inside = low
increasing-cons x y ys low rest (suc k) inside = grind (arith, nat_tests, behind x (y ∷ ys) (suc k), behind y ys k, behind x (y ∷ ys) k)

increasing-head : (x y : ℕ) (ys : List ℕ) → IsStrictlyIncreasing (x ∷ y ∷ ys) → x < y
increasing-head x y ys all = all 0 (omega arith)

increasing-tail : (x : ℕ) (ys : List ℕ) → IsStrictlyIncreasing (x ∷ ys) → IsStrictlyIncreasing ys
increasing-tail x ys all k inside = omega (arith, all (k + 1) (omega arith), behind x ys k, behind x ys (k + 1))

-- the first fault, by three tests of the first segment
abbrev pub fault_by : Bool → Bool → Bool → Option DirectoryFault → Option DirectoryFault
fault_by strange low many later = cond strange (Some Range) (cond low (Some Order) (cond many (Some TooMany) later))

-- without a fault the first is in range, above the last identifier and not too long, and those behind it have none
pub first-fine :
    (last pages : ℕ) (segment : ℕ × ℕ) (rest : List (ℕ × ℕ)) → fault_after last pages (segment ∷ rest) ≡ None
    → IsInRange segment × (last < segment.0) × (pages + segment.1 ≤ 1024) × (fault_after segment.0 (pages + segment.1) rest ≡ None)
first-fine last pages segment rest fine = grind (arith, nat_tests)

-- without a fault they are legal
legal-after :
    (last pages : ℕ) (segments : List (ℕ × ℕ)) → pages ≤ 1024 → fault_after last pages segments ≡ None → IsLegalAfter last pages segments
legal-after last pages [] few fine = grind (arith, nat_tests)
legal-after last pages (segment ∷ rest) few fine =
    let (here, above, fits, inner) = first-fine last pages segment rest fine in
    let later = legal-after segment.0 (pages + segment.1) rest fits inner in
    record {
      in_range = All-cons IsInRange segment rest here later.in_range;
      ascending = increasing-cons last segment.0 (identifiers rest) above later.ascending;
      few_pages = omega (arith, later.few_pages, sum_by-cons (λ segment. segment.1) segment rest);
    }

-- legal segments have no fault
fine-after :
    (last pages : ℕ) (segments : List (ℕ × ℕ)) → IsLegalAfter last pages segments → fault_after last pages segments ≡ None
fine-after last pages [] legal = refl
fine-after last pages (segment ∷ rest) legal =
    by_tests
    (is_strange segment)
    (nat_le segment.0 last)
    (nat_lt 1024 (pages + segment.1))
    strange
    low
    many
    (fine-after segment.0 (pages + segment.1) rest later)
  where
    own : IsInRange segment
    own = All-head IsInRange segment rest legal.in_range

    strange : is_strange segment ≡ false
    strange = grind (arith, nat_tests, own.0, own.1, own.2, own.3)

    low : nat_le segment.0 last ≡ false
    low = grind (arith, nat_tests, increasing-head last segment.0 (identifiers rest) legal.ascending)

    sums : pages + (segment.1 + sum_by (λ segment. segment.1) rest) ≤ 1024
    sums = omega (arith, legal.few_pages, sum_by-cons (λ segment. segment.1) segment rest)

    many : nat_lt 1024 (pages + segment.1) ≡ false
    many = grind (arith, nat_tests, sums)

    later : IsLegalAfter segment.0 (pages + segment.1) rest
    later =
        record {
          in_range = All-tail IsInRange segment rest legal.in_range;
          ascending = increasing-tail last (segment.0 ∷ identifiers rest) legal.ascending;
          few_pages = omega (arith, sums);
        }

    by_tests :
        (strange low many : Bool) → strange ≡ false → low ≡ false → many ≡ false
        → fault_after segment.0 (pages + segment.1) rest ≡ None
        → fault_by strange low many (fault_after segment.0 (pages + segment.1) rest) ≡ None
    by_tests false false false is is' is'' fine = fine
    by_tests _ _ _ is is' is'' fine = absurd (cc)

-- a list without a fault is legal
pub legal-none : (segments : List (ℕ × ℕ)) → fault_of segments ≡ None → AreSegmentsLegal segments
legal-none segments fine = by_tests (nat_lt 15 (length segments)) (length segments == 0) refl refl fine
  where
    by_tests :
        (many none : Bool) → nat_lt 15 (length segments) ≡ many → (length segments == 0) ≡ none
        → cond many (Some TooMany) (cond none (Some Range) (fault_after 0 0 segments)) ≡ None
        → AreSegmentsLegal segments
    by_tests true none is is' fine = absurd (cc)
    by_tests false true is is' fine = absurd (cc)
    by_tests false false is is' fine =
        let legal : IsLegalAfter 0 0 segments = legal-after 0 0 segments (omega arith) fine in
        record {
          some = grind (arith, nat_tests);
          few = grind (arith, nat_tests);
          in_range = legal.in_range;
          ascending = increasing-tail 0 (identifiers segments) legal.ascending;
          pages = omega (arith, legal.few_pages);
        }

-- a legal list has no fault
pub none_legal : (segments : List (ℕ × ℕ)) → AreSegmentsLegal segments → fault_of segments ≡ None
none_legal [] legal = absurd (omega (arith, legal.some))
none_legal (segment ∷ rest) legal =
    by_tests (nat_lt 15 (length (segment ∷ rest))) (length (segment ∷ rest) == 0) few some (fine-after 0 0 (segment ∷ rest) after)
  where
    above : 0 < segment.0
    above = omega (arith, (All-head IsInRange segment rest legal.in_range).0)

    after : IsLegalAfter 0 0 (segment ∷ rest)
    after =
        record {
          in_range = legal.in_range;
          ascending = increasing-cons 0 segment.0 (identifiers rest) above legal.ascending;
          few_pages = omega (arith, legal.pages);
        }

    few : nat_lt 15 (length (segment ∷ rest)) ≡ false
    few = grind (arith, nat_tests, legal.few)

    some : (length (segment ∷ rest) == 0) ≡ false
    some = grind (arith, nat_tests, legal.some)

    by_tests :
        (many none : Bool) → many ≡ false → none ≡ false → fault_after 0 0 (segment ∷ rest) ≡ None
        → cond many (Some TooMany) (cond none (Some Range) (fault_after 0 0 (segment ∷ rest))) ≡ None
    by_tests true none is is' fine = absurd (cc)
    by_tests false true is is' fine = absurd (cc)
    by_tests false false is is' fine = fine

-- a list with a fault isn't
pub fault-not_legal : (segments : List (ℕ × ℕ)) (fault : DirectoryFault) → fault_of segments ≡ Some fault → AreSegmentsLegal segments → ⊥
fault-not_legal segments fault found legal = grind (arith, nat_tests, none_legal segments legal)

page-bound : (page : PageSize) (n : ℕ) → n ≤ 1024 → n * page_bytes page ≤ 4194304
page-bound Two n few = omega (arith, few)
page-bound Four n few = omega (arith, few)

-- a legal store has at most 4 MiB
pub legal_bytes : (directory : Layout) → AreSegmentsLegal directory.segments → byte_count directory ≤ 4194304
legal_bytes directory legal = grind (arith, nat_tests, page-bound, byte_count_pages)
