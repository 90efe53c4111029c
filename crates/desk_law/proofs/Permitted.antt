-- What is permitted is held, and what is held conflicts with nobody.
use Rattle.desk_law.proofs.Common.{◌≡◌, refl, ℕ, Bool, true, false, List, [], ◌∷◌, ◌++◌, map, filter, list_any, inr, eqb-true, is_fine_page, has, size, Lines, conflicts, page_of_line, has-append, has_left, any-some, size-alike, ArePart, reaches, any-or, whole-reached, has-whole_pages, Desk, Active, wanted, requested, due_to, conflicts_with, conflicts_of, IsAmong, AreLinesApart, ArePermitted, PermittedIsFree, FineRowsAskForTheirLines, WriteBitsHoldPages, IsOrderly, touched_of, nat_tests, arith, on, part}
use Rattle.desk_law.proofs.Entries.{orderly}

-- where none passes
pub any-none : (test : ℕ → Bool) (xs : List ℕ) → ((x : ℕ) → has xs x ≡ true → test x ≡ false) → list_any test xs ≡ false
any-none test xs none = grind (arith, nat_tests, any-some)

-- what is permitted is held: the request of a row whose lines are there is among the locks due already
pub permitted-held : (desk : Desk) (entry : Active) → IsOrderly desk → IsAmong desk.active entry → ArePermitted desk.authority entry.number (wanted desk entry)
    → ArePart (requested desk.committed entry) (due_to desk.committed entry)
permitted-held desk entry is here are =
    let writes : (line : ℕ) → has (wanted desk entry).writes line ≡ true → has (due_to desk.committed entry).writes line ≡ true =
    λ line inside. (is.held.covered (page_of_line line) entry here).stores line refl (are.writes line inside) in
    let reads : (line : ℕ) → has (requested desk.committed entry).reads line ≡ true → has (due_to desk.committed entry).reads line ≡ true =
    λ line inside. let loads = λ (read : has (wanted desk entry).reads line ≡ true). (is.held.covered (page_of_line line) entry here).loads line refl (are.reads line read) in
    let reached = any-some (reaches (is_fine_page desk.committed.directory) line) (wanted desk entry).writes in
    let whole = λ (x : ℕ) (written : has (wanted desk entry).writes x ≡ true). whole-reached (is_fine_page desk.committed.directory) (touched_of desk.committed entry) line x (writes x written) in
    grind (arith, nat_tests, has-whole_pages (is_fine_page desk.committed.directory) (wanted desk entry) line, loads, reached, whole) in
    record { reads = record { among = reads }; writes = record { among = writes } }

-- what is among the locks of one conflicts with nobody who is apart
pub part-free : (asked mine theirs : Lines) → ArePart asked mine → AreLinesApart mine theirs → conflicts asked theirs ≡ false
part-free asked mine theirs part apart = grind (arith, nat_tests, any-none, has_left)

pub nobody-else : (test : Active → Bool) (entries : List Active) → ((other : Active) → IsAmong entries other → test other ≡ false)
    → map (λ (other : Active). other.number) (filter test entries) ≡ []
nobody-else test [] none = refl
nobody-else test (one ∷ entries) none = grind (arith, nat_tests, nobody-else test entries (λ other among. none other (inr among)))

-- a request that is held already conflicts with nobody
pub held-free : (desk : Desk) (entry : Active) → IsOrderly desk → IsAmong desk.active entry → ArePart (requested desk.committed entry) (due_to desk.committed entry)
    → conflicts_of desk entry ≡ []
held-free desk entry is here part =
    nobody-else (conflicts_with desk entry) desk.active
    (λ other among. grind (arith, nat_tests, part-free (requested desk.committed entry) (due_to desk.committed entry) (due_to desk.committed other) part, is.active.apart other entry among here))

-- the lines written stay so many
pub held-written : (desk : Desk) (entry : Active) → ArePart (requested desk.committed entry) (due_to desk.committed entry)
    → size ((touched_of desk.committed entry).writes ++ (wanted desk entry).writes) ≡ size (due_to desk.committed entry).writes
held-written desk entry part =
    size-alike ((touched_of desk.committed entry).writes ++ (wanted desk entry).writes) (touched_of desk.committed entry).writes
    (record { among = λ x inside. grind (arith, nat_tests, has-append (touched_of desk.committed entry).writes (wanted desk entry).writes x, part.writes.among x) })
    (record { among = λ x inside. has_left (touched_of desk.committed entry).writes (wanted desk entry).writes x inside })

pub permitted_is_free : PermittedIsFree
permitted_is_free desk entry is here are = held-free desk entry (orderly desk is) here (permitted-held desk entry (orderly desk is) here are)

-- A row that writes into fine pages alone asks for what it touches.
pub fine_rows : FineRowsAskForTheirLines
fine_rows desk entry fine line = grind (arith, nat_tests, has-whole_pages, any-or, any-some, eqb-true)

-- Between two instructions the lines of a page whose write bit is on are held.
pub write_bits : WriteBitsHoldPages
write_bits desk entry page line is here owner on at = (is.held.covered page entry here).loads line at (grind (arith, nat_tests, owner, on))
