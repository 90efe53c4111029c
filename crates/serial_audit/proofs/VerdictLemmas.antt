-- Commit lines one after another, and whether they are sound.
use Rattle.serial_audit.proofs.Common.{◌≡◌, ℕ, ◌+◌, ◌%◌, ◌^◌, ◌<◌, ◌≤◌, true, false, List, [], ◌∷◌, ◌++◌, length, map, take, drop, get_or, slice_get, Option, Some, None, option_and_then, ◌⊎◌, inl, inr, refl, sym, ◌∙◌, ap, length-append, add-one, drop-cons, arith, map-append, take-append-drop, take_more, option_and_then_some, Layout, FlatStore, Plain, Activation, before_commit, committing, numbered, serial, Job, Allowance, AreSound, IsLineSound, ToldLine, activations_of, flat_of, pair_of, report_told, steps_allowed, IsIndex, activation_in, IsTaken, MayFollow, ReplaysLine, Stands, nat_tests, line_claim, KeptStore, Progress, ◌==◌, ◌&&◌, Decides, ◌≢◌, append_assoc, Contains, IsFirstUnsound, Touch, AreTouches, touches, Contains-append_cases, false_from_ne_true}
use Rattle.report_text.specs.declared.report_line.CommitLine.{CommitLine}
use Rattle.serial_audit.proofs.IndexLemmas.{begun_at, entry_at, last_has}

-- pairs are the same where their parts are
pub pair_decides : (a b : ℕ × ℕ) → Decides ((a.0 == b.0) && (a.1 == b.1)) (a ≡ b)
pair_decides (a, b) (c, d) = grind (arith, nat_tests)

-- directories are the same where their pages and segments are
pub layout_same : (a b : Layout) → a.page ≡ b.page → a.segments ≡ b.segments → a.fine ≡ b.fine → a ≡ b
layout_same a b page segments fine =
    let e : record { page = a.page; segments = a.segments; fine = a.fine } ≡ record { page = b.page; segments = b.segments; fine = b.fine } = cc in e

-- one commit more leaves its state's store
pub serial_more : (activations : List Activation) (commits : List (ℕ × ℕ)) (commit : ℕ × ℕ) (store left : FlatStore)
    → serial activations commits store ≡ Some left
    → serial activations (commits ++ commit ∷ []) store
    ≡ option_and_then (λ (state : Plain). Some (record left { bytes = state.store })) (committing activations commit left)
serial_more activations [] commit store left is = grind (arith, nat_tests)
serial_more activations (first ∷ commits) commit store left is =
    by_state (λ begin same. serial_more activations commits commit begin left same) (committing activations first store) is
  where
    by_state :
        ((begin : FlatStore) → serial activations commits begin ≡ Some left → serial activations (commits ++ commit ∷ []) begin
        ≡ option_and_then (λ (state : Plain). Some (record left { bytes = state.store })) (committing activations commit left))
        → (found : Option Plain)
        → option_and_then (λ (state : Plain). serial activations commits (record store { bytes = state.store })) found ≡ Some left
        → option_and_then (λ (state : Plain). serial activations (commits ++ commit ∷ []) (record store { bytes = state.store })) found
        ≡ option_and_then (λ (state : Plain). Some (record left { bytes = state.store })) (committing activations commit left)
    by_state later None same = absurd (cc same)
    by_state later (Some state) same = later (record store { bytes = state.store }) same

-- a commit line that may follow, and whose activation commits as it tells on what the others leave, is sound
pub sound_here : (job : Job) (opening : KeptStore) (before : List ToldLine) (told : ToldLine) (activation : Activation) (progress : Progress) (directory : Layout) (state : Plain)
    → opening.directory ≡ directory → Stands job opening before progress → MayFollow job opening before told activation
    → before_commit activation told.steps (record { directory = directory; bytes = progress.store }) ≡ Some state → told.out ≡ state.out
    → IsLineSound job opening before told
sound_here job opening before told activation progress directory state same stands follows commits prints = grind (arith, nat_tests)

-- behind it the check stands at its number, one line more, the index with its activation marked, and what it leaves
pub taken : (job : Job) (opening : KeptStore) (before : List ToldLine) (told : ToldLine) (activation : Activation) (progress next : Progress) (directory : Layout)
    → opening.directory ≡ directory → Stands job opening before progress → MayFollow job opening before told activation
    → ReplaysLine activation (record { directory = directory; bytes = progress.store }) told next.store
    → next.number ≡ told.number → next.commits ≡ progress.commits + 1 → IsIndex job (before ++ told ∷ []) next.entries.items
    → IsTaken job opening before told (Some next)
taken job opening before told activation progress next directory same stands follows again number commits index =
    let sound = sound_here job opening before told activation progress directory again.state same stands follows again.commits again.prints in
    let at_left : committing (activations_of job) (pair_of told) (record { directory = opening.directory; bytes = progress.store }) ≡ Some again.state =
    rw (same, follows.begun) again.commits in (
      sound,
      record {
        number_is = number ∙ follows.number ∙ simp length-append refl;
        commits_are = commits ∙ ap (λ (n : ℕ). n + 1) stands.commits_are ∙ sym (length-append before (told ∷ []));
        index = index;
        leaves =
            rw (map-append pair_of before (told ∷ []))
            (serial_more (activations_of job) (map pair_of before) (pair_of told) (flat_of opening) (record { directory = opening.directory; bytes = progress.store }) stands.leaves
            ∙ rw (at_left, again.leaves) refl);
      },
    )

-- a sound line may follow, and its activation runs again on what the others leave
pub refused : (job : Job) (opening : KeptStore) (before : List ToldLine) (told : ToldLine) (progress : Progress) (directory : Layout)
    → opening.directory ≡ directory → Stands job opening before progress → IsLineSound job opening before told
    → (activation : Activation) × MayFollow job opening before told activation
    × ((left : List ℕ) × ReplaysLine activation (record { directory = directory; bytes = progress.store }) told left)
refused job opening before told progress directory same stands sound =
    let here : sound.left ≡ record { directory = opening.directory; bytes = progress.store } = cc (sound.leaves, stands.leaves) in
    let runs = rw (here, same) at sound.commits in
    option_and_then_some (λ (activation : Activation). before_commit activation told.steps (record { directory = directory; bytes = progress.store }))
    (numbered (activations_of job) told.activation) sound.state runs
    (λ activation begun commits. (
      activation,
      record { number = sound.number; first = sound.first; allowed = sound.allowed; begun = begun },
      (
        sound.state.store,
        record { state = sound.state; commits = commits; prints = sound.prints; leaves = refl },
      ),
    ))

-- an activation has one number
pub same_activation : (job : Job) (opening : KeptStore) (before : List ToldLine) (told : ToldLine) (one other : Activation)
    → MayFollow job opening before told one → MayFollow job opening before told other → one ≡ other
same_activation job opening before told one other first second = cc (first.begun, second.begun)

-- a line with the next number, of an entry that hasn't committed and allows its steps, may follow
pub may_follow : (job : Job) (opening : KeptStore) (before : List ToldLine) (told : ToldLine) (progress : Progress) (place : ℕ) (entry : Allowance)
    → Stands job opening before progress → slice_get progress.entries.items place ≡ Some entry → place + 1 ≡ told.activation
    → told.number ≡ (progress.number + 1) % 2 ^ 64 → entry.committed ≡ false → told.steps ≤ entry.steps
    → MayFollow job opening before told (activation_in entry)
may_follow job opening before told progress place entry stands found its next open_yet few =
    let is = entry_at job before progress.entries.items place entry stands.index found in
    record {
      number = let number = stands.number_is in omega arith;
      first = λ has. let no : false ≡ true = sym open_yet ∙ is.committed.1 (rw its has) in cc;
      allowed =
          let within : told.steps ≤ steps_allowed job (place + 1) = omega (arith, few, is.steps) in
          rw its at within;
      begun = begun_at job before place told.activation entry is its;
    }

-- and no other line of that activation may
pub follows_so : (job : Job) (opening : KeptStore) (before : List ToldLine) (told : ToldLine) (progress : Progress) (place : ℕ) (entry : Allowance) (activation : Activation)
    → Stands job opening before progress → slice_get progress.entries.items place ≡ Some entry → place + 1 ≡ told.activation
    → MayFollow job opening before told activation
    → (told.number ≡ (progress.number + 1) % 2 ^ 64) × (entry.committed ≡ false) × (told.steps < 2 ^ 64 → told.steps ≤ entry.steps)
follows_so job opening before told progress place entry activation stands found its follows =
    let is = entry_at job before progress.entries.items place entry stands.index found in (
      (let number = stands.number_is in let told_is = follows.number in omega arith),
      false_from_ne_true entry.committed (λ committed. follows.first (rw its at (is.committed.0 committed))),
      (λ small. let steps = rw its at is.steps in let allowed = follows.allowed in omega arith),
    )

-- a list with one element more, cut at an element: the cut is at its last, or within the others
last_or_within : (before : List ToldLine) (last : ToldLine) (first : List ToldLine) (told : ToldLine) (behind : List ToldLine)
    → before ++ last ∷ [] ≡ first ++ told ∷ behind
    → ((before ≡ first) × (last ≡ told)) ⊎ ((rest : List ToldLine) × (before ≡ first ++ told ∷ rest))
last_or_within [] last [] told behind is = inl (refl, cc is)
last_or_within [] last (other ∷ first) told behind is = absurd (longer first told behind (cc is))
  where
    longer : (first : List ToldLine) (told : ToldLine) (behind : List ToldLine) → [] ≡ first ++ told ∷ behind → ⊥
    longer [] told behind none = cc none
    longer (other ∷ first) told behind none = cc none
last_or_within (head ∷ before) last [] told behind is = grind (arith, nat_tests)
last_or_within (head ∷ before) last (other ∷ first) told behind is =
    let same : head ≡ other = cc is in
    let rest : before ++ last ∷ [] ≡ first ++ told ∷ behind = cc is in
    elim (last_or_within before last first told behind rest) [
      | inl both ↦ inl (rw (same, both.0) refl, both.1)
      | inr within ↦ inr (within.0, rw (same, within.1) refl)
    ]

-- one sound line more
pub sound_more : (job : Job) (opening : KeptStore) (before : List ToldLine) (told : ToldLine)
    → AreSound job opening before → IsLineSound job opening before told → AreSound job opening (before ++ told ∷ [])
sound_more job opening before told are sound first other behind is =
    elim (last_or_within before told first other behind is) [
      | inl both ↦ rw (← both.0, ← both.1) sound
      | inr within ↦ are first other within.0 within.1
    ]

pub none_sound : (job : Job) (opening : KeptStore) → AreSound job opening []
none_sound job opening [] told behind is = absurd (cc is)
none_sound job opening (other ∷ first) told behind is = absurd (cc is)

-- what the first lines tell, one more
pub told_more : (report : List CommitLine) (i : ℕ) (line : CommitLine) → i < length report → line ≡ get_or report i line
    → report_told (take (i + 1) report) ≡ report_told (take i report) ++ line_claim line ∷ []
told_more report i line within is =
    ap report_told (take_more report i line within ∙ ap (λ (last : CommitLine). take i report ++ last ∷ []) (sym is)) ∙ map-append line_claim (take i report) (line ∷ [])

-- what all lines tell, by the first, the next and the others
pub told_all : (report : List CommitLine) (i : ℕ) (line : CommitLine) → i < length report → line ≡ get_or report i line
    → report_told report ≡ report_told (take i report) ++ line_claim line ∷ report_told (drop (i + 1) report)
told_all report i line within is =
    let whole : take i report ++ line ∷ drop (i + 1) report ≡ report =
    rw (add-one) (ap (λ rest. take i report ++ rest) (sym (drop-cons report i line within ∙ rw (← is) refl)) ∙ take-append-drop i report) in
    ap report_told (sym whole) ∙ map-append line_claim (take i report) (line ∷ drop (i + 1) report)

-- a line of another activation more
pub none_more : (lines : List ToldLine) (told : ToldLine) (activation : ℕ) → ¬ (Contains (map (λ (line : ToldLine). line.activation) lines) activation)
    → told.activation ≢ activation → ¬ (Contains (map (λ (line : ToldLine). line.activation) (lines ++ told ∷ [])) activation)
none_more lines told activation none other has =
    elim (Contains-append_cases (map (λ (line : ToldLine). line.activation) lines) (told.activation ∷ []) activation (rw map-append at has)) [
      | inl earlier ↦ none earlier
      | inr last ↦ other (last_has told.activation activation last)
    ]

-- the first unsound line is so with others behind
pub unsound_among : (job : Job) (opening : KeptStore) (lines behind : List ToldLine) (place : ℕ)
    → IsFirstUnsound job opening lines place → IsFirstUnsound job opening (lines ++ behind) place
unsound_among job opening lines behind place unsound = grind (arith, nat_tests, append_assoc unsound.before (unsound.told ∷ unsound.behind) behind)

-- a line whose activation commits as it tells is sound, and has these touches
pub traced_sound : (job : Job) (opening : KeptStore) (before : List ToldLine) (told : ToldLine) (activation : Activation) (progress : Progress) (directory : Layout)
    → (state : Plain) (list : List Touch) → opening.directory ≡ directory → Stands job opening before progress
    → MayFollow job opening before told activation
    → (before_commit activation told.steps (record { directory = directory; bytes = progress.store }) ≡ Some state)
    × (list ≡ touches activation (record { directory = directory; bytes = progress.store }) told.steps)
    → told.out ≡ state.out → IsLineSound job opening before told × AreTouches job opening before told list
traced_sound job opening before told activation progress directory state list same stands follows traced prints = (
  sound_here job opening before told activation progress directory state same stands follows traced.0 prints,
  record {
    activation = activation;
    begun = follows.begun;
    left = record { directory = opening.directory; bytes = progress.store };
    leaves = stands.leaves;
    list_is = rw same traced.1;
  },
)
