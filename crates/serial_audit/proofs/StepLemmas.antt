-- A program that comes to the commit call, or doesn't, and the touches of steps, one step more.
use Rattle.serial_audit.proofs.Common.{◌≡◌, ℕ, zero, suc, ◌+◌, ◌-◌, ◌<◌, ◌≤◌, Bool, List, [], ◌∷◌, ◌++◌, map, Some, sym, ◌∙◌, ap, append_assoc, append-nil, arith, flat_map, range_with_len, FlatStore, Plain, after, touched_next, Activation, Touch, touch_at, touches, touches_of_step, nat_tests, flat_map-append, ◌≢◌, None, option_and_then, refl, zero-add, Program, row, outcome_by, next_state, before_commit, if_commit}
use Rattle.std.proofs.lemmas.List.FromFn.{map-range_with_len_more}
use Rattle.flat_machine.specs.Touched.{touched}
use Rattle.flat_machine.specs.declared.machine.Went.{Went}
use Rattle.flat_machine.specs.declared.machine.Went.TheVariants as went

-- a row that doesn't go on has no state behind it
pub stopped : (result : Went) (new : Plain) → result ≢ went.On → next_state (outcome_by result new) ≡ None
stopped result new ends = grind (arith, nat_tests)

-- a row that isn't the commit call commits nothing
pub no_commit : (result : Went) (old new : Plain) → result ≢ went.Commit → if_commit (outcome_by result new) old ≡ None
no_commit result old new ends = grind (arith, nat_tests)

-- where there is no state, there is none later
none_stays : (program : Program) (args : List ℕ) (store : FlatStore) (n more : ℕ) → after program args store n ≡ None → after program args store (more + n) ≡ None
none_stays program args store n zero none = rw zero-add none
none_stays program args store n (suc more) none =
    let e : suc more + n ≡ suc (more + n) = omega arith in
    rw (e, none_stays program args store n more none) refl

-- a commit by the state before its row
pub commit_at : (program : Program) (args : List ℕ) (store : FlatStore) (steps : ℕ) → 0 < steps
    → before_commit (record { program = program; args = args }) steps store
    ≡ option_and_then (λ state. if_commit (row program store.directory state) state) (after program args store (steps - 1))
commit_at program args store zero some = absurd (omega arith)
commit_at program args store (suc n) some = let e : suc n - 1 ≡ n = omega arith in rw e refl

-- a program that stops early doesn't come to the commit call
pub stops_early : (program : Program) (args : List ℕ) (store : FlatStore) (steps n : ℕ) (state : Plain) → n + 1 < steps
    → after program args store n ≡ Some state → next_state (row program store.directory state) ≡ None
    → before_commit (record { program = program; args = args }) steps store ≡ None
stops_early program args store steps n state early is ends =
    let next : after program args store (suc n) ≡ None = rw is ends in
    let last = none_stays program args store (suc n) (steps - 1 - suc n) next in
    let e : (steps - 1 - suc n) + suc n ≡ steps - 1 = omega arith in
    let gone : after program args store (steps - 1) ≡ None = rw e at last in
    commit_at program args store steps (omega arith) ∙ rw gone refl

-- one line more
pub told_more : (step : ℕ) (store : Bool) (first line : ℕ) (old now : List Touch) → first ≤ line
    → now ≡ old ++ map (touch_at step store) (range_with_len first (line - first))
    → now ++ touch_at step store line ∷ [] ≡ old ++ map (touch_at step store) (range_with_len first (line + 1 - first))
told_more step store first line old now above is =
    let e : (line - first) + 1 ≡ line + 1 - first = omega arith in
    rw (is, append_assoc)
    (ap (λ (xs : List Touch). old ++ xs)
    (sym (map-range_with_len_more (touch_at step store) first (line - first) line (omega arith))
    ∙ ap (λ (n : ℕ). map (touch_at step store) (range_with_len first n)) e))

range_more : (a n : ℕ) → range_with_len a (suc n) ≡ range_with_len a n ++ (a + n) ∷ []
range_more a zero = let e : a ≡ a + 0 = omega arith in ap (λ (x : ℕ). x ∷ []) e
range_more a (suc n) = grind (arith, nat_tests, range_more (a + 1) n)

-- one step more
pub touches_more : (activation : Activation) (store : FlatStore) (n : ℕ)
    → touches activation store (suc n)
    ≡ touches activation store n ++ touches_of_step (n + 1) (touched_next activation.program activation.args store n)
touches_more activation store n =
    let Step : ℕ → List Touch = λ step. touches_of_step step (touched_next activation.program activation.args store (step - 1)) in
    let first : 1 + n ≡ n + 1 = omega arith in
    let rows : n + 1 - 1 ≡ n = omega arith in
    ap (flat_map Step) (range_more 1 n)
    ∙ flat_map-append Step (range_with_len 1 n) ((1 + n) ∷ [])
    ∙ ap (λ (more : List Touch). touches activation store n ++ more)
    (append-nil (Step (1 + n)) ∙ ap Step first
    ∙ ap (λ (done : ℕ). touches_of_step (n + 1) (touched_next activation.program activation.args store done)) rows)

-- the step whose row is next in a state
pub touches_next : (activation : Activation) (store : FlatStore) (step : ℕ) (state : Plain) (list : List Touch) → 0 < step
    → after activation.program activation.args store (step - 1) ≡ Some state → list ≡ touches activation store (step - 1)
    → list ++ touches_of_step step (touched activation.program store.directory state) ≡ touches activation store step
touches_next activation store step state list some reached is = grind (arith, nat_tests, touches_more)
