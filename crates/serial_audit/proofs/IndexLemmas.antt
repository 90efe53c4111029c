-- What a job says of its activations: the begins first, then the turns, then the marks of commits.
use Rattle.serial_audit.proofs.Common.{◌≡◌, ◌≢◌, ℕ, zero, suc, ◌+◌, ◌-◌, ◌^◌, ◌<◌, ◌==◌, ◌||◌, ◌↔◌, Bool, IsTrue, List, [], ◌∷◌, ◌++◌, length, map, min, set, sum, take, get_or, slice_get, Option, Some, None, option_map, MatchOption, inl, inr, refl, sym, ◌∙◌, ap, add-zero, zero-add, eq-eqb, ne_eqb, eqb-true, arith, Contains, get_or-set_same, length-set, map-append, take_more, slice_get-get_or, slice_get_within, Activation, numbered, Event, Turn, Job, Allowance, ToldLine, activations_of, limit_of, IsEntry, IsIndex, activation_in, marked_if, with_turns, nat_tests, Contains-append_cases, Contains-append_left, Contains-append_right, drop, add-one, drop-cons, Program, Begin, begun, cases_eq, or_cases}
use Rattle.std.proofs.lemmas.List.Sums.{sum_by-append}

-- a begin of a program that is there
pub begun_here : (programs : List Program) (events : List Event) (i place : ℕ) (args : List ℕ) (program : Program) (d : Event)
    → i < length events → get_or events i d ≡ Begin place args → slice_get programs place ≡ Some program
    → begun programs (drop i events) ≡ record { program = program; args = args } ∷ begun programs (drop (i + 1) events)
begun_here programs events i place args program d here is found =
    rw (drop-cons events i d here, is, found, add-one) refl

-- a begin of none
pub begun_none : (programs : List Program) (events : List Event) (i place : ℕ) (args : List ℕ) (d : Event)
    → i < length events → get_or events i d ≡ Begin place args → slice_get programs place ≡ None
    → begun programs (drop i events) ≡ begun programs (drop (i + 1) events)
begun_none programs events i place args d here is found = rw (drop-cons events i d here, is, found, add-one) refl

not_begun : (programs : List Program) (event : Event) (events : List Event) → ((place : ℕ) (args : List ℕ) → event ≢ Begin place args)
    → begun programs (event ∷ events) ≡ begun programs events
not_begun programs event events other = grind (arith, nat_tests)

-- an event that is no begin
pub begun_later : (programs : List Program) (events : List Event) (i : ℕ) (d : Event) → i < length events
    → ((place : ℕ) (args : List ℕ) → get_or events i d ≢ Begin place args)
    → begun programs (drop i events) ≡ begun programs (drop (i + 1) events)
begun_later programs events i d here other =
    rw (drop-cons events i d here, add-one) (not_begun programs (get_or events i d) (drop (suc i) events) other)

-- the element written, and another one
set_here : {X : Type 0} → (xs : List X) (i : ℕ) (y : X) → i < length xs → slice_get (set xs i y) i ≡ Some y
set_here xs i y within =
    slice_get-get_or (set xs i y) i y (rw (length-set xs i y) within) ∙ ap Some (get_or-set_same xs i y y within)

set_other : {X : Type 0} → (xs : List X) (i j : ℕ) (y : X) → j ≢ i → slice_get (set xs i y) j ≡ slice_get xs j
set_other (x ∷ xs) zero zero y other = absurd (other refl)
set_other (x ∷ xs) (suc i) (suc j) y other = set_other xs i j y (λ same. other (ap suc same))
set_other _ _ _ y other = refl

-- a turn of this activation, and of another one
limit_its : (number other limit : ℕ) → number ≡ other → limit_of number (Turn other limit) ≡ limit
limit_its number other limit same = rw (eq-eqb number other same) refl

limit_none : (number other limit : ℕ) → number ≢ other → limit_of number (Turn other limit) ≡ 0
limit_none number other limit differ = rw (ne_eqb number other differ) refl

not_turn : (number : ℕ) (event : Event) → ((activation limit : ℕ) → event ≢ Turn activation limit) → limit_of number event ≡ 0
not_turn number event other = grind (arith, nat_tests)

-- the limits of one event more
limits_more : (number : ℕ) (events : List Event) (i : ℕ) (d : Event) → i < length events
    → sum (map (limit_of number) (take (i + 1) events)) ≡ sum (map (limit_of number) (take i events)) + limit_of number (get_or events i d)
limits_more number events i d within =
    rw (take_more events i d within, map-append (limit_of number) (take i events) (get_or events i d ∷ []))
    (sum_by-append (λ (n : ℕ). n) (map (limit_of number) (take i events)) (limit_of number (get_or events i d) ∷ [])
    ∙ ap (λ (n : ℕ). sum (map (limit_of number) (take i events)) + n) (zero-add (limit_of number (get_or events i d))))

-- a sum held at a most, twice
held_twice : (s k most : ℕ) → min (min s most + k) most ≡ min (s + k) most
held_twice s k most = omega arith

-- entries have the steps of these events' turns
abbrev pub HasTurns : List Event → List Allowance → List Allowance → Type 0
HasTurns events old now = (place : ℕ) → slice_get now place ≡ option_map (with_turns events place) (slice_get old place)

-- an event that is no turn of an entry leaves it
past_at : (events : List Event) (i : ℕ) (d : Event) → i < length events
    → (place : ℕ) (old found : Option Allowance) → found ≡ option_map (with_turns (take i events) place) old
    → ((entry : Allowance) → found ≡ Some entry → limit_of (place + 1) (get_or events i d) ≡ 0)
    → found ≡ option_map (with_turns (take (i + 1) events) place) old
past_at events i d within place old found now none = grind (arith, nat_tests, limits_more, take, sum, add-zero, min)

-- an event that is no turn of any of them
past : (events : List Event) (i : ℕ) (d : Event) (old now : List Allowance) → i < length events
    → ((place : ℕ) → place < length now → limit_of (place + 1) (get_or events i d) ≡ 0)
    → HasTurns (take i events) old now → HasTurns (take (i + 1) events) old now
past events i d old now within none has = λ place.
    past_at events i d within place (slice_get old place) (slice_get now place) (has place)
    (λ entry found. none place (slice_get_within now place entry found))

-- an event that is no turn, and a turn of no entry
pub past_other : (events : List Event) (i : ℕ) (d : Event) (old now : List Allowance) → i < length events
    → ((activation limit : ℕ) → get_or events i d ≢ Turn activation limit)
    → HasTurns (take i events) old now → HasTurns (take (i + 1) events) old now
past_other events i d old now within other has =
    past events i d old now within (λ place inside. not_turn (place + 1) (get_or events i d) other) has

pub past_turn : (events : List Event) (i activation limit : ℕ) (d : Event) (old now : List Allowance) → i < length events
    → get_or events i d ≡ Turn activation limit → ((place : ℕ) → place < length now → place + 1 ≢ activation)
    → HasTurns (take i events) old now → HasTurns (take (i + 1) events) old now
past_turn events i activation limit d old now within turn none has =
    past events i d old now within (λ place inside. rw turn (limit_none (place + 1) activation limit (none place inside))) has

-- the entry of a turn has as many steps more
turned_at : (events : List Event) (i : ℕ) (d : Event) → i < length events
    → (place limit : ℕ) (old : Option Allowance) (entry : Allowance) → Some entry ≡ option_map (with_turns (take i events) place) old
    → limit_of (place + 1) (get_or events i d) ≡ limit
    → Some (record entry { steps = min (entry.steps + limit) (2 ^ 64 - 1) }) ≡ option_map (with_turns (take (i + 1) events) place) old
turned_at events i d within place limit old entry now its = grind (arith, nat_tests, take, sum, held_twice, min, limits_more)

-- a turn of one of them
pub turned : (events : List Event) (i activation limit place : ℕ) (d : Event) (old now : List Allowance) (entry : Allowance)
    → i < length events → get_or events i d ≡ Turn activation limit
    → place < length now → place + 1 ≡ activation → slice_get now place ≡ Some entry
    → HasTurns (take i events) old now
    → HasTurns (take (i + 1) events) old (set now place (record entry { steps = min (entry.steps + limit) (2 ^ 64 - 1) }))
turned events i activation limit place d old now entry within turn inside its found has = λ other.
    elim (cases_eq other place) [
      | inl here ↦
          rw here
          (set_here now place (record entry { steps = min (entry.steps + limit) (2 ^ 64 - 1) }) inside
          ∙ turned_at events i d within place limit (slice_get old place) entry (sym found ∙ has place)
          (rw turn (limit_its (place + 1) activation limit its)))
      | inr there ↦
          set_other now place other (record entry { steps = min (entry.steps + limit) (2 ^ 64 - 1) }) there
          ∙ past_at events i d within other (slice_get old other) (slice_get now other) (has other)
          (λ first same. rw turn (limit_none (other + 1) activation limit (λ one. there (omega (arith, one, its)))))
    ]

-- an entry marked as that of the last line
pub last_has : (x number : ℕ) → Contains (x ∷ []) number → x ≡ number
last_has x number has = grind (arith, nat_tests)

committed_more : (before : List ToldLine) (told : ToldLine) (committed : Bool) (number : ℕ)
    → (IsTrue committed ↔ Contains (map (λ (earlier : ToldLine). earlier.activation) before) number)
    → (IsTrue (committed || (number == told.activation)) ↔ Contains (map (λ (earlier : ToldLine). earlier.activation) (before ++ told ∷ [])) number)
committed_more before told committed number was =
    let lines = map (λ (earlier : ToldLine). earlier.activation) before in
    rw (map-append (λ (earlier : ToldLine). earlier.activation) before (told ∷ [])) (
      λ is.
          elim (or_cases committed (number == told.activation) is) [
            | inl earlier ↦ Contains-append_left lines (told.activation ∷ []) number (was.0 earlier)
            | inr last ↦ Contains-append_right lines (told.activation ∷ []) number (zero, omega arith, sym (eqb-true number told.activation last))
          ],
      λ has.
          elim (Contains-append_cases lines (told.activation ∷ []) number has) [
            | inl earlier ↦ rw (was.1 earlier) refl
            | inr last ↦ rw (eq-eqb number told.activation (sym (last_has told.activation number last))) (grind (arith, nat_tests))
          ],
    )

entry_more : (job : Job) (before : List ToldLine) (told : ToldLine) (place : ℕ) (found : Option Allowance)
    → MatchOption found (slice_get (activations_of job) place ≡ None) (IsEntry job before place)
    → MatchOption (option_map (marked_if told.activation place) found) (slice_get (activations_of job) place ≡ None) (IsEntry job (before ++ told ∷ []) place)
entry_more job before told place None is = is
entry_more job before told place (Some entry) is = grind (arith, nat_tests, committed_more before told entry.committed (place + 1) is.committed)

-- an index behind one commit line more
pub index_more : (job : Job) (before : List ToldLine) (told : ToldLine) (old now : List Allowance) → IsIndex job before old
    → ((place : ℕ) → slice_get now place ≡ option_map (marked_if told.activation place) (slice_get old place))
    → IsIndex job (before ++ told ∷ []) now
index_more job before told old now index mark = λ place.
    rw (mark place) (entry_more job before told place (slice_get old place) (index place))

-- marking none
marked_none : (activation place : ℕ) (found : Option Allowance) → ((entry : Allowance) → found ≡ Some entry → place + 1 ≢ activation)
    → found ≡ option_map (marked_if activation place) found
marked_none activation place found other = grind (arith, nat_tests)

pub none_marked : (entries : List Allowance) (activation : ℕ) → ((place : ℕ) → place < length entries → place + 1 ≢ activation)
    → (place : ℕ) → slice_get entries place ≡ option_map (marked_if activation place) (slice_get entries place)
none_marked entries activation none place =
    marked_none activation place (slice_get entries place) (λ entry is. none place (slice_get_within entries place entry is))

-- the activation of a number is that of its entry
numbered_at : (activations : List Activation) (place number : ℕ) → place + 1 ≡ number → numbered activations number ≡ slice_get activations place
numbered_at activations place number its = grind (arith, nat_tests)

pub none_begun : (job : Job) (before : List ToldLine) (entries : List Allowance) (number : ℕ) (activation : Activation) → IsIndex job before entries
    → ((place : ℕ) → place < length entries → place + 1 ≢ number) → numbered (activations_of job) number ≡ Some activation → ⊥
none_begun job before entries zero activation index none is = cc is
none_begun job before entries (suc place) activation index none is =
    at (slice_get entries place) refl (index place)
  where
    at : (found : Option Allowance) → slice_get entries place ≡ found
        → MatchOption found (slice_get (activations_of job) place ≡ None) (IsEntry job before place) → ⊥
    at None same gone = cc (gone, is)
    at (Some entry) same begun = none place (slice_get_within entries place entry same) (omega arith)

pub entry_at : (job : Job) (before : List ToldLine) (entries : List Allowance) (place : ℕ) (entry : Allowance) → IsIndex job before entries
    → slice_get entries place ≡ Some entry → IsEntry job before place entry
entry_at job before entries place entry index found = rw found at (index place)

pub begun_at : (job : Job) (before : List ToldLine) (place number : ℕ) (entry : Allowance) → IsEntry job before place entry → place + 1 ≡ number
    → numbered (activations_of job) number ≡ Some (activation_in entry)
begun_at job before place number entry is its = numbered_at (activations_of job) place number its ∙ is.begun
