-- The fields of segments are right exactly where the segments are a directory's.
use Rattle.store_format.proofs.Common.{◌≡◌, ℕ, ◌+◌, ◌-◌, ◌≤◌, false, List, [], ◌∷◌, length, refl, subst, arith, None, All, nat_le, not, ◌&&◌, min, nat_tests, All-nil, All-cons, All-head, All-tail, fault_of, fault_after, is_strange, AreSegmentsLegal, Field, within, segment_fields, first_fault, le-ltb, lt-leb, ne_eqb}
use Rattle.lines.proofs.LegalLemmas.{first-fine, legal-none, none_legal}
use Rattle.store_format.proofs.Checks.{none-append}

abbrev pub Stays : Field → Type 0
Stays field = field.wrong ≡ false

pub within_right : (number least most : ℕ) → least ≤ number → number ≤ most → not (nat_le least number && nat_le number most) ≡ false
within_right number least most low high = grind (arith, nat_tests)

pub right_within : (number least most : ℕ) → not (nat_le least number && nat_le number most) ≡ false → (least ≤ number) × (number ≤ most)
right_within number least most right = (grind (arith, nat_tests), grind (arith, nat_tests))

not_strange : (segment : ℕ × ℕ) → 1 ≤ segment.0 → segment.0 ≤ 3839 → 1 ≤ segment.1 → segment.1 ≤ 128 → is_strange segment ≡ false
not_strange segment a b c d = grind (arith, nat_tests)

-- right fields have no fault
fine_after : (segments : List (ℕ × ℕ)) (at last pages : ℕ) → pages ≤ 1024 → All Stays (segment_fields at (last + 1) (1024 - pages) segments) → fault_after last pages segments ≡ None
fine_after [] at last pages few right = refl
fine_after (segment ∷ segments) at last pages few right =
    let later = segment_fields (at + 4) (segment.0 + 1) (1024 - pages - segment.1) segments in
    let first = within at 2 segment.0 (last + 1) 3839 in
    let second = within (at + 2) 2 segment.1 1 (min (1024 - pages) 128) in
    let tail = All-tail Stays first (second ∷ later) right in
    let identifier = right_within segment.0 (last + 1) 3839 (All-head Stays first (second ∷ later) right) in
    let many = right_within segment.1 1 (min (1024 - pages) 128) (All-head Stays second later tail) in
    let room : 1024 - pages - segment.1 ≡ 1024 - (pages + segment.1) = omega arith in
    let rest : All Stays (segment_fields (at + 4) (segment.0 + 1) (1024 - (pages + segment.1)) segments) =
    subst (λ (n : ℕ). All Stays (segment_fields (at + 4) (segment.0 + 1) n segments)) room (All-tail Stays second later tail) in
    rw (not_strange segment (omega (arith, identifier.0)) identifier.1 many.0 (omega (arith, many.1)), lt-leb segment.0 last (omega (arith, identifier.0)), le-ltb 1024 (pages + segment.1) (omega (arith, many.1, few)))
    (fine_after segments (at + 4) segment.0 (pages + segment.1) (omega (arith, many.1, few)) rest)

-- segments without a fault have right fields
right_after : (segments : List (ℕ × ℕ)) (at last pages : ℕ) → pages ≤ 1024 → fault_after last pages segments ≡ None → All Stays (segment_fields at (last + 1) (1024 - pages) segments)
right_after [] at last pages few fine = All-nil Stays
right_after (segment ∷ segments) at last pages few fine =
    let (here, above, fits, inner) = first-fine last pages segment segments fine in
    let room : 1024 - (pages + segment.1) ≡ 1024 - pages - segment.1 = omega arith in
    let later = segment_fields (at + 4) (segment.0 + 1) (1024 - pages - segment.1) segments in
    let first = within at 2 segment.0 (last + 1) 3839 in
    let second = within (at + 2) 2 segment.1 1 (min (1024 - pages) 128) in
    All-cons Stays first (second ∷ later) (within_right segment.0 (last + 1) 3839 (omega (arith, above)) here.1)
    (All-cons Stays second later (within_right segment.1 1 (min (1024 - pages) 128) here.2 (omega (arith, fits, here.3)))
    (subst (λ (n : ℕ). All Stays (segment_fields (at + 4) (segment.0 + 1) n segments)) room (right_after segments (at + 4) segment.0 (pages + segment.1) fits inner)))

pub segments_legal : (segments : List (ℕ × ℕ)) → 1 ≤ length segments → length segments ≤ 15 → All Stays (segment_fields 16 1 1024 segments) → AreSegmentsLegal segments
segments_legal segments some few right =
    let fine : fault_of segments ≡ None = rw (le-ltb 15 (length segments) few, ne_eqb (length segments) 0 (omega (arith, some))) (fine_after segments 16 0 0 (omega arith) right) in
    legal-none segments fine

pub legal_segments : (segments : List (ℕ × ℕ)) → AreSegmentsLegal segments → All Stays (segment_fields 16 1 1024 segments)
legal_segments segments legal =
    let fine : fault_after 0 0 segments ≡ None = (rw (le-ltb 15 (length segments) legal.few, ne_eqb (length segments) 0 (omega (arith, legal.some))) at (none_legal segments legal)) in
    right_after segments 16 0 0 (omega arith) fine

-- fields without a fault are right
pub stays_all : (length : ℕ) (fields : List Field) → first_fault length fields ≡ None → All Stays fields
stays_all length [] none = All-nil Stays
stays_all length (field ∷ fields) none = grind (arith, nat_tests, stays_all length fields, none-append, All-cons)
