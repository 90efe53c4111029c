-- Who waits for whom as entries change.
use Rattle.desk_law.proofs.Common.{◌≡◌, refl, ℕ, ◌==◌, ◌&&◌, not, Bool, true, false, List, [], ◌∷◌, filter, map, Some, list_any, sym, ◌∙◌, inl, inr, eqb-true, and_parts, and_from, or_cases, is_fine_page, IsWholeStore, has, conflicts, with_whole_pages, Plain, after, Desk, Active, with_active, rolled_back, conflicts_with, waits_for, committed_at, committed_by, IsAmong, AreConsistent, except, arith, nat_tests, meets}
use Rattle.desk_law.proofs.Entries.{among-filter, among-replaced}
use Rattle.desk_law.proofs.Walks.{Leaves}
use Rattle.desk_law.proofs.Others.{another-stays, StaysSame, among-others}

-- an entry that passes a test settles it
pub any-among : (test : Active → Bool) (entries : List Active) → list_any test entries ≡ true → (entry : Active) × IsAmong entries entry × (test entry ≡ true)
any-among test [] some = absurd (cc)
any-among test (one ∷ entries) some = elim (or_cases (test one) (list_any test entries) some) [
  | inl here ↦ (one, inl refl, here)
  | inr later ↦ let (entry, among, passes) = any-among test entries later in (entry, inr among, passes)
]

pub among-any : (test : Active → Bool) (entries : List Active) (entry : Active) → IsAmong entries entry → test entry ≡ true → list_any test entries ≡ true
among-any test [] entry among passes = absurd among
among-any test (one ∷ entries) entry among passes = grind (arith, nat_tests, among-any test entries entry)

-- the numbers are those of entries
pub number-of : (entries : List Active) (number : ℕ) → has (map (λ (entry : Active). entry.number) entries) number ≡ true → (entry : Active) × IsAmong entries entry × (entry.number ≡ number)
number-of [] number inside = absurd (cc)
number-of (one ∷ entries) number inside = elim (or_cases (one.number == number) (has (map (λ (entry : Active). entry.number) entries) number) inside) [
  | inl here ↦ (one, inl refl, eqb-true one.number number here)
  | inr later ↦ let (entry, among, same) = number-of entries number later in (entry, inr among, same)
]

pub has-number : (entries : List Active) (entry : Active) → IsAmong entries entry → has (map (λ (entry : Active). entry.number) entries) entry.number ≡ true
has-number [] entry among = absurd among
has-number (one ∷ entries) entry among = grind (arith, nat_tests, has-number entries entry)

-- one entry waits for another
pub record WaitsFor (desk : Desk) (from to : ℕ) : Type 0 where
  pub entry : Active
  pub other : Active
  pub entry_among : IsAmong desk.active entry
  pub other_among : IsAmong desk.active other
  pub is_from : (entry.number == from) ≡ true
  pub waiting : entry.waiting ≡ true
  pub is_to : (other.number == to) ≡ true
  pub conflict : conflicts_with desk entry other ≡ true

pub waits-by : (desk : Desk) (from to : ℕ) → waits_for desk from to ≡ true → WaitsFor desk from to
waits-by desk from to waits =
    let (entry, among, passes) = any-among (λ entry. entry.number == from && entry.waiting && list_any (λ other. other.number == to && conflicts_with desk entry other) desk.active) desk.active waits in
    let parts = and_parts (entry.number == from && entry.waiting) (list_any (λ other. other.number == to && conflicts_with desk entry other) desk.active) passes in
    let (other, there, meets) = any-among (λ other. other.number == to && conflicts_with desk entry other) desk.active parts.1 in
    let (is_from, waiting) = and_parts (entry.number == from) entry.waiting parts.0 in
    let (is_to, conflict) = and_parts (other.number == to) (conflicts_with desk entry other) meets in
    record { entry = entry; other = other; entry_among = among; other_among = there; is_from = is_from; waiting = waiting; is_to = is_to; conflict = conflict }

pub waits-from : (desk : Desk) (from to : ℕ) → WaitsFor desk from to → waits_for desk from to ≡ true
waits-from desk from to by = grind (arith, nat_tests, among-any, and_from)

-- a wait at another desk with the same two in it
waits-still : (old desk : Desk) (from to : ℕ) (by : WaitsFor old from to) → IsAmong desk.active by.entry → IsAmong desk.active by.other → conflicts_with desk by.entry by.other ≡ true → waits_for desk from to ≡ true
waits-still old desk from to by one other conflict =
    waits-from desk from to (record { entry = by.entry; other = by.other; entry_among = one; other_among = other; is_from = by.is_from; waiting = by.waiting; is_to = by.is_to; conflict = conflict })

-- fewer entries have fewer numbers
pub fewer-numbers : (test : Active → Bool) (entries : List Active) (x : ℕ)
    → has (map (λ (entry : Active). entry.number) (filter test entries)) x ≡ true → has (map (λ (entry : Active). entry.number) entries) x ≡ true
fewer-numbers test entries x inside = grind (arith, nat_tests, number-of, has-number, among-filter)

-- after a rollback, whoever waits did so before
pub rollback-waits : (desk : Desk) (gone : Active) (from to : ℕ) → waits_for (rolled_back desk gone) from to ≡ true → waits_for desk from to ≡ true
rollback-waits desk gone from to waits =
    let by = waits-by (rolled_back desk gone) from to waits in
    waits-still (rolled_back desk gone) desk from to by (among-others gone desk.active by.entry by.entry_among).0 (among-others gone desk.active by.other by.other_among).0 by.conflict

-- and after a commit
pub commit-waits : (desk : Desk) (entry : Active) (now : Plain) (from to : ℕ) → IsWholeStore desk.committed
    → AreConsistent desk.committed desk.most_lines desk.next desk.active → IsAmong desk.active entry
    → after entry.runs.program entry.runs.args desk.committed entry.rows ≡ Some now
    → waits_for (committed_at desk entry now) from to ≡ true → waits_for desk from to ≡ true
commit-waits desk entry now from to whole are here is waits =
    let by = waits-by (committed_at desk entry now) from to waits in
    let (there1, differ1) = among-others entry desk.active by.entry by.entry_among in
    let (there2, differ2) = among-others entry desk.active by.other by.other_among in
    let same1 : StaysSame desk.committed (committed_by desk.committed now) by.entry = another-stays desk.committed desk.most_lines desk.next desk.active entry by.entry now whole are here there1 differ1 is in
    let same2 : StaysSame desk.committed (committed_by desk.committed now) by.other = another-stays desk.committed desk.most_lines desk.next desk.active entry by.other now whole are here there2 differ2 is in
    waits-still (committed_at desk entry now) desk from to by there1 there2
    (sym (λ i. not (by.other.number == by.entry.number) && conflicts (with_whole_pages (is_fine_page desk.committed.directory) (same1.wants i)) (same2.due i)) ∙ by.conflict)

-- one that is marked waiting adds waits of its own alone
pub marked-waits : (desk : Desk) (entry : Active) (mark : Bool) (from to : ℕ) → IsAmong desk.active entry
    → except entry.number (waits_for (with_active desk (record entry { waiting = mark }))) from to ≡ true → except entry.number (waits_for desk) from to ≡ true
marked-waits desk entry mark from to here waits =
    let parts = and_parts (not (from == entry.number)) (waits_for (with_active desk (record entry { waiting = mark })) from to) waits in
    let by = waits-by (with_active desk (record entry { waiting = mark })) from to parts.1 in
    let first = among-replaced (record entry { waiting = mark }) desk.active by.entry by.entry_among in
    let second = among-replaced (record entry { waiting = mark }) desk.active by.other by.other_among in
    let from-other = λ (other : Active) (there : IsAmong desk.active other) (is_to : (other.number == to) ≡ true) (conflict : conflicts_with desk by.entry other ≡ true) (old : IsAmong desk.active by.entry).
    waits-from desk from to (record { entry = by.entry; other = other; entry_among = old; other_among = there; is_from = by.is_from; waiting = by.waiting; is_to = is_to; conflict = conflict }) in
    grind (arith, nat_tests, first, second, from-other entry here, from-other by.other)

-- one whose row goes on waits for nobody
pub gone-on : (desk : Desk) (entry new : Active) → new.number ≡ entry.number → new.waiting ≡ false
    → Leaves entry.number (waits_for (with_active desk new)) (waits_for desk)
gone-on desk entry new same not_waiting =
    let waits_still = waits-still (with_active desk new) desk in
    grind (arith, nat_tests, waits-by (with_active desk new), among-replaced new desk.active, waits_still)
