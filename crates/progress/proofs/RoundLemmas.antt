-- What a turn and a round leave of who is active, and how many rows they have yet.
use Rattle.desk_law.proofs.Common.{◌≡◌, ◌≢◌, refl, ℕ, zero, suc, ◌+◌, ◌-◌, ◌<◌, ◌≤◌, ◌==◌, ◌⊎◌, if◌then◌else◌, Bool, true, false, List, [], ◌∷◌, map, filter, find, Option, Some, None, option_and_then, arith, inl, inr, ap, sym, ◌∙◌, subst, eqb-true, eq-eqb, both_ways, cases_Bool, cases_lt, none-some, after, next_state, row, Plain, FlatStore, Activation, Desk, Active, with_active, conflicts_of, conflicts_with, DiskWord, Counts, Turning, Going, Over, Idle, Limit, Waits, CommitUnwritten, CommitDoubted, no_counts, instruction, turns, turn, turn_of, turn_desk, IsAmong, IsConsistent, nat_tests, next_attempt}
use Rattle.desk_law.proofs.Entries.{among-found, none-found, found-among, one-entry, among-replaced, replaced-among, new-among}
use Rattle.desk_law.proofs.ConsistentLaw.{instruction-consistent}
use Rattle.progress.proofs.Sums.{sum-fewer, sum-less, one_less}
use Rattle.progress.proofs.Instructed.{Came, Comes, HasLeft, IsHere, LostOne, came}
use Rattle.progress.specs.Oldest.{waiting_now}
use Rattle.progress.specs.Rounds.{EndsWithin, IsOneOf, KeepsCommits, OneTurn, after_round, rows_left, sum_over}

-- the entry was there before, with no more rows
pub record Was (old : List Active) (entry : Active) : Type 0 where
  pub before : Active
  pub there : IsAmong old before
  pub number : before.number ≡ entry.number
  pub runs : before.runs ≡ entry.runs
  pub rows : before.rows ≤ entry.rows

abbrev pub AllWere : List Active → List Active → Type 0
AllWere old new = (entry : Active) → IsAmong new entry → Was old entry

same-were : (old : List Active) → AllWere old old
same-were old entry there = record { before = entry; there = there; number = refl; runs = refl; rows = omega arith }

were-again : (first second third : List Active) → AllWere first second → AllWere second third → AllWere first third
were-again first second third one two entry there =
    let it = two entry there in let first_it = one it.before it.there in
    record { before = first_it.before; there = first_it.there; number = first_it.number ∙ it.number; runs = first_it.runs ∙ it.runs; rows = omega (arith, first_it.rows, it.rows) }

-- each one ends within its rows
abbrev pub AllEnd : (most : ℕ → ℕ) → List Active → Type 0
AllEnd most entries = (entry : Active) → IsAmong entries entry → EndsWithin (most entry.number) entry.runs

pub all-end : (most : ℕ → ℕ) (old new : List Active) → AllWere old new → AllEnd most old → AllEnd most new
all-end most old new were ends entry there =
    let it = were entry there in
    subst (λ (runs : Activation). EndsWithin (most entry.number) runs) it.runs (subst (λ (n : ℕ). EndsWithin (most n) it.before.runs) it.number (ends it.before it.there))

-- what has ended has ended
still-ended : (runs : Activation) (store : FlatStore) (few more : ℕ) → after runs.program runs.args store few ≡ None → after runs.program runs.args store (few + more) ≡ None
still-ended runs store few zero none = ap (after runs.program runs.args store) (let same : few + 0 ≡ few = omega arith in same) ∙ none
still-ended runs store few (suc more) none =
    ap (after runs.program runs.args store) (let same : few + suc more ≡ suc (few + more) = omega arith in same)
    ∙ ap (λ (state : Option Plain). option_and_then (λ (state : Plain). next_state (row runs.program store.directory state)) state) (still-ended runs store few more none)

-- who is active has a row yet
pub has-rows : (most : ℕ → ℕ) (desk : Desk) (entry : Active) → IsConsistent desk → AllEnd most desk.active → IsAmong desk.active entry → entry.rows < most entry.number
has-rows most desk entry is ends there = by_order (cases_lt entry.rows (most entry.number))
  where
    by_order : (entry.rows < most entry.number) ⊎ (most entry.number ≤ entry.rows) → entry.rows < most entry.number
    by_order (inl less) = less
    by_order (inr enough) =
        let live = is.active.live entry there in
        let more = entry.rows - most entry.number in
        let same : most entry.number + more ≡ entry.rows = omega (arith, enough) in
        let none = still-ended entry.runs desk.committed (most entry.number) more (ends entry there desk.committed) in
        absurd (none-some live.state (sym none ∙ ap (after entry.runs.program entry.runs.args desk.committed) same ∙ live.is))

-- what is left of a desk: no more rows than there were
abbrev pub left_of : (most : ℕ → ℕ) → Desk → ℕ
left_of most desk = sum_over (rows_left most) desk.active

no-more : (most : ℕ → ℕ) (desk later : Desk) → IsConsistent desk → IsConsistent later → AllWere desk.active later.active → left_of most later ≤ left_of most desk
no-more most desk later is later_is were =
    sum-fewer (rows_left most) (rows_left most) 0 desk.next 0 later.next desk.active later.active is.active.ascend later_is.active.ascend
    (λ entry there. let it = were entry there in
    let same : most it.before.number ≡ most entry.number = ap most it.number in
    (it.before, it.there, it.number, omega (arith, same, it.rows)))

-- fewer, where one of them has gone on or has left
fewer-rows : (most : ℕ → ℕ) (desk later : Desk) (own : Active) → IsConsistent desk → IsConsistent later → IsAmong desk.active own → own.rows < most own.number
    → ((entry : Active) → IsAmong later.active entry → (before : Active) × IsAmong desk.active before × (before.number ≡ entry.number) × (rows_left most entry ≤ one_less (rows_left most) own.number before))
    → left_of most later < left_of most desk
fewer-rows most desk later own is later_is there some each =
    let all = sum-fewer (rows_left most) (one_less (rows_left most) own.number) 0 desk.next 0 later.next desk.active later.active is.active.ascend later_is.active.ascend each in
    let less = sum-less (rows_left most) desk.active own there (omega (arith, some)) in
    omega (arith, all, less)

less-same : (f : Active → ℕ) (number : ℕ) (entry : Active) → (entry.number == number) ≡ true → one_less f number entry ≡ f entry - 1
less-same f number entry same = grind (arith, nat_tests, same)

less-other : (f : Active → ℕ) (number : ℕ) (entry : Active) → (entry.number == number) ≡ false → one_less f number entry ≡ f entry
less-other f number entry other = grind (arith, nat_tests, other)

-- the entry waits, and nothing else is new
pub record IsBlocked (desk later : Desk) (entry : Active) : Type 0 where
  pub committed : later.committed ≡ desk.committed
  pub active : later.active ≡ (with_active desk (waiting_now entry)).active
  pub some : conflicts_of later entry ≢ []

-- what a turn of a row or more, or an instruction, leaves
pub record Goes (most : ℕ → ℕ) (desk later : Desk) (entry : Active) : Type 0 where
  pub is : IsConsistent later
  pub were : AllWere desk.active later.active
  pub how : (left_of most later < left_of most desk) ⊎ IsBlocked desk later entry

module _ (most : ℕ → ℕ) (word : DiskWord) (desk : Desk) (entry : Active) (is : IsConsistent desk) (there : IsAmong desk.active entry) (ends : AllEnd most desk.active) (keeps : KeepsCommits word) where
  some-rows : entry.rows < most entry.number
  some-rows = has-rows most desk entry is ends there

  module _ (now : Plain) (later : Desk) (later_is : IsConsistent later) where
    abbrev these : List Active
    these = later.active

    were-here : (rows : ℕ) → entry.rows ≤ rows → IsHere word (next_attempt desk entry now) desk rows these → AllWere desk.active these
    were-here rows more here other among = elim (cases_Bool (other.number == entry.number)) [
      | inl same ↦
          let (runs, at) = here.own other among same in
          record { before = entry; there = there; number = sym (eqb-true other.number entry.number same); runs = sym runs; rows = omega (arith, more, at) }
      | inr differ ↦ record { before = other; there = here.others other among differ; number = refl; runs = refl; rows = omega arith }
    ]

    were-left : HasLeft word (next_attempt desk entry now) desk these → AllWere desk.active these
    were-left left other among = record { before = other; there = left.others other among (left.gone other among); number = refl; runs = refl; rows = omega arith }

    less-here : IsHere word (next_attempt desk entry now) desk (entry.rows + 1) these → left_of most later < left_of most desk
    less-here here =
        fewer-rows most desk later entry is later_is there some-rows
        (λ other among. elim (cases_Bool (other.number == entry.number)) [
          | inl same ↦
              let number : entry.number ≡ other.number = sym (eqb-true other.number entry.number same) in
              let at = (here.own other among same).1 in
              (entry, there, number, omega (arith, at, ap most number, less-same (rows_left most) entry.number entry (eq-eqb entry.number entry.number refl)))
          | inr differ ↦ (other, here.others other among differ, refl, omega (arith, less-other (rows_left most) entry.number other differ))
        ])

    less-left : HasLeft word (next_attempt desk entry now) desk these → left_of most later < left_of most desk
    less-left left =
        fewer-rows most desk later entry is later_is there some-rows
        (λ other among. (other, left.others other among (left.gone other among), refl, omega (arith, less-other (rows_left most) entry.number other (left.gone other among))))

    less-lost : IsHere word (next_attempt desk entry now) desk entry.rows these → LostOne word (next_attempt desk entry now) desk later → left_of most later < left_of most desk
    less-lost here lost =
        fewer-rows most desk later lost.victim is later_is lost.was (has-rows most desk lost.victim is ends lost.was)
        (λ other among. elim (cases_Bool (other.number == entry.number)) [
          | inl same ↦
              let number : entry.number ≡ other.number = sym (eqb-true other.number entry.number same) in
              let at = (here.own other among same).1 in
              let differ : (entry.number == lost.victim.number) ≡ false = subst (λ (n : ℕ). (n == lost.victim.number) ≡ false) (sym number) (lost.gone other among) in
              (entry, there, number, omega (arith, at, ap most number, less-other (rows_left most) lost.victim.number entry differ))
          | inr differ ↦ (other, here.others other among differ, refl, omega (arith, less-other (rows_left most) lost.victim.number other (lost.gone other among)))
        ])

  goes-by : (now : Plain) (turning : Turning) → IsConsistent (turn_desk turning) → Comes word (next_attempt desk entry now) desk turning → Goes most desk (turn_desk turning) entry
  goes-by now (Going later counts) later_is comes = record { is = later_is; were = were-here now later later_is (entry.rows + 1) (omega arith) comes; how = inl (less-here now later later_is comes) }
  goes-by now (Over later counts Idle) later_is comes = absurd comes
  goes-by now (Over later counts Limit) later_is comes = absurd comes
  goes-by now (Over later counts CommitUnwritten) later_is comes = absurd (subst KeepsCommits comes keeps)
  goes-by now (Over later counts CommitDoubted) later_is comes = absurd (subst KeepsCommits comes keeps)
  goes-by now (Over later counts (Waits holders)) later_is (met, is_holders, some) = record {
    is = later_is;
    were = were-here now later later_is entry.rows (omega arith) met.0;
    how = elim met.1 [
      | inl marked ↦ inr (record { committed = marked.0; active = marked.1; some = λ none. some (sym is_holders ∙ none) })
      | inr lost ↦ inl (less-lost now later later_is met.0 lost)
    ];
  }
  goes-by now (Over later counts _) later_is comes = record { is = later_is; were = were-left now later later_is comes; how = inl (less-left now later later_is comes) }

  pub instruction-goes : (counts : Counts) → Goes most desk (turn_desk (instruction word (Some entry) desk counts)) entry
  instruction-goes counts =
      let it = came word desk counts entry is there in
      goes-by it.now (instruction word (Some entry) desk counts) (instruction-consistent word desk counts entry is there) it.comes

  -- an instruction that didn't end the turn did a row
  goes-less : (now : Plain) (later : Desk) (counts : Counts) → IsConsistent later → Comes word (next_attempt desk entry now) desk (Going later counts) → left_of most later < left_of most desk
  goes-less now later counts later_is comes = less-here now later later_is comes

-- what is left after instructions more of a turn under way
record IsKept (most : ℕ → ℕ) (desk later : Desk) : Type 0 where
  is : IsConsistent later
  were : AllWere desk.active later.active

kept-here : (most : ℕ → ℕ) (desk : Desk) → IsConsistent desk → IsKept most desk desk
kept-here most desk is = record { is = is; were = same-were desk.active }

kept-turns : (most : ℕ → ℕ) (word : DiskWord) (number left : ℕ) (turning : Turning) → IsConsistent (turn_desk turning) → AllEnd most (turn_desk turning).active → KeepsCommits word
    → IsKept most (turn_desk turning) (turn_desk (turns word number left turning))
unfolding turns instruction
kept-turns most word number zero (Going desk counts) is ends keeps = kept-here most desk is
kept-turns most word number (suc left) (Going desk counts) is ends keeps =
    by_entry (find (λ (entry : Active). entry.number == number) desk.active) refl (λ turning later_is later_ends. kept-turns most word number left turning later_is later_ends keeps)
  where
    by_entry : (one : Option Active) → find (λ (entry : Active). entry.number == number) desk.active ≡ one
        → ((turning : Turning) → IsConsistent (turn_desk turning) → AllEnd most (turn_desk turning).active → IsKept most (turn_desk turning) (turn_desk (turns word number left turning)))
        → IsKept most desk (turn_desk (turns word number left (instruction word one desk counts)))
    by_entry None found later = later (Over desk counts Idle) is ends
    by_entry (Some entry) found later =
        let there = (among-found (λ (entry : Active). entry.number == number) desk.active entry found).0 in
        let goes = instruction-goes most word desk entry is there ends keeps counts in
        let next = instruction word (Some entry) desk counts in
        let rest = later next goes.is (all-end most desk.active (turn_desk next).active goes.were ends) in
        record { is = rest.is; were = were-again desk.active (turn_desk next).active (turn_desk (turns word number left next)).active goes.were rest.were }
kept-turns most word number _ (Over desk counts ending) is ends keeps = kept-here most desk is

-- a turn of a row or more, of one who is active
turn-goes : (most : ℕ → ℕ) (word : DiskWord) (left : ℕ) (desk : Desk) (entry : Active) → IsConsistent desk → IsAmong desk.active entry → AllEnd most desk.active → KeepsCommits word
    → Goes most desk (turn_desk (turns word entry.number (suc left) (Going desk no_counts))) entry
unfolding turns
turn-goes most word left desk entry is there ends keeps =
    subst (λ (one : Option Active). Goes most desk (turn_desk (turns word entry.number left (instruction word one desk no_counts))) entry)
    (sym (found-among desk.next desk.active entry is.active.ascend there))
    (by_turning it.now (instruction word (Some entry) desk no_counts) (instruction-consistent word desk no_counts entry is there) it.comes (instruction-goes most word desk entry is there ends keeps no_counts))
  where
    it : Came word desk entry (instruction word (Some entry) desk no_counts)
    it = came word desk no_counts entry is there

    by_turning : (now : Plain) (turning : Turning) → IsConsistent (turn_desk turning) → Comes word (next_attempt desk entry now) desk turning → Goes most desk (turn_desk turning) entry
        → Goes most desk (turn_desk (turns word entry.number left turning)) entry
    by_turning now (Going later counts) later_is comes goes =
        let rest = kept-turns most word entry.number left (Going later counts) later_is (all-end most desk.active later.active goes.were ends) keeps in
        let last = turn_desk (turns word entry.number left (Going later counts)) in
        let less = goes-less most word desk entry is there ends keeps now later counts later_is comes in
        let no_more = no-more most later last later_is rest.is rest.were in
        record { is = rest.is; were = were-again desk.active later.active last.active goes.were rest.were; how = inl (omega (arith, less, no_more)) }
    by_turning now (Over later counts ending) later_is comes goes = over left
      where
        over : (left : ℕ) → Goes most desk (turn_desk (turns word entry.number left (Over later counts ending))) entry
        over zero = goes
        over (suc left) = goes

-- one who waits for somebody
pub record WaitsSome (desk : Desk) (entry : Active) : Type 0 where
  pub waiting : entry.waiting ≡ true
  pub other : Active
  pub there : IsAmong desk.active other
  pub conflict : conflicts_with desk entry other ≡ true

-- The desk within a round: rows are fewer, or whoever has had one of these turns waits.
pub record State (most : ℕ → ℕ) (start desk : Desk) (Done : OneTurn → Type 0) : Type 0 where
  pub is : IsConsistent desk
  pub were : AllWere start.active desk.active
  pub no_more : left_of most desk ≤ left_of most start
  pub how : (left_of most desk < left_of most start) ⊎ ((one : OneTurn) → Done one → 1 ≤ one.limit → (entry : Active) → IsAmong desk.active entry → entry.number ≡ one.number → WaitsSome desk entry)

-- somebody of those with whom one conflicts
first-of : (desk : Desk) (entry : Active) (entries : List Active) → map (λ (other : Active). other.number) (filter (conflicts_with desk entry) entries) ≢ [] → (other : Active) × IsAmong entries other × (conflicts_with desk entry other ≡ true)
first-of desk entry [] some = absurd (some refl)
first-of desk entry (other ∷ entries) some = elim (cases_Bool (conflicts_with desk entry other)) [
  | inl meets ↦ (other, inl refl, meets)
  | inr free ↦
      let rest = first-of desk entry entries (λ none. some (ap (λ (b : Bool). map (λ (other : Active). other.number) (if b then other ∷ filter (conflicts_with desk entry) entries else filter (conflicts_with desk entry) entries)) free ∙ none)) in
      (rest.0, inr rest.1, rest.2)
]

-- who waits does so with another marked besides
still-waits : (desk later : Desk) (entry own : Active) → IsConsistent desk → IsAmong desk.active own → IsBlocked desk later own → WaitsSome desk entry → WaitsSome later entry
still-waits desk later entry own is there blocked waits = elim (cases_Bool (waits.other.number == own.number)) [
  | inl same ↦
      let one : waits.other ≡ own = one-entry 0 desk.next desk.active waits.other own is.active.ascend waits.there there (eqb-true waits.other.number own.number same) in
      let conflict : conflicts_with desk entry own ≡ true = subst (λ (other : Active). conflicts_with desk entry other ≡ true) one waits.conflict in
      record {
        waiting = waits.waiting;
        other = waiting_now own;
        there = subst (λ (entries : List Active). IsAmong entries (waiting_now own)) (sym blocked.active) (new-among (waiting_now own) desk.active own there refl);
        conflict = subst (λ (store : FlatStore). conflicts_with (record desk { committed = store }) entry own ≡ true) (sym blocked.committed) conflict;
      }
  | inr differ ↦ record {
    waiting = waits.waiting;
    other = waits.other;
    there = subst (λ (entries : List Active). IsAmong entries waits.other) (sym blocked.active) (replaced-among (waiting_now own) desk.active waits.other waits.there differ);
    conflict = subst (λ (store : FlatStore). conflicts_with (record desk { committed = store }) entry waits.other ≡ true) (sym blocked.committed) waits.conflict;
  }
]

-- who was marked waits
marked-waits : (desk later : Desk) (own : Active) → IsBlocked desk later own → WaitsSome later (waiting_now own)
marked-waits desk later own blocked =
    let (other, among, meets) = first-of later own later.active blocked.some in
    record { waiting = refl; other = other; there = among; conflict = meets }

-- at its begin
pub start-state : (most : ℕ → ℕ) (start : Desk) → IsConsistent start → State most start start (λ one. ⊥)
start-state most start is = record { is = is; were = same-were start.active; no_more = omega arith; how = inr (λ one none. absurd none) }

-- the same of fewer turns
widened : (most : ℕ → ℕ) (start desk : Desk) (Done Fewer : OneTurn → Type 0) → ((one : OneTurn) → Fewer one → Done one) → State most start desk Done → State most start desk Fewer
widened most start desk Done Fewer are state = record {
  is = state.is;
  were = state.were;
  no_more = state.no_more;
  how = elim state.how [ inl less ↦ inl less | inr waits ↦ inr (λ one fewer. waits one (are one fewer)) ];
}

module _ (most : ℕ → ℕ) (start : Desk) (ends : AllEnd most start.active) where
  -- one turn more
  one-more : (desk : Desk) (one : OneTurn) (Done : OneTurn → Type 0) → KeepsCommits one.word → State most start desk Done
      → State most start (turn_desk (turn one.word one.number one.limit desk)) (λ other. Done other ⊎ (one ≡ other))
  unfolding turns
  one-more desk one Done keeps state = by_entry (find (λ (entry : Active). entry.number == one.number) desk.active) refl one.limit refl
    where
      -- nothing was done
      nothing : ((entry : Active) → 1 ≤ one.limit → IsAmong desk.active entry → entry.number ≡ one.number → ⊥) → State most start desk (λ other. Done other ⊎ (one ≡ other))
      nothing none = record {
        is = state.is;
        were = state.were;
        no_more = state.no_more;
        how = elim state.how [
          | inl less ↦ inl less
          | inr waits ↦ inr (λ other done some entry there named. elim done [
            | inl before ↦ waits other before some entry there named
            | inr now ↦ absurd (none entry (subst (λ (turn : OneTurn). 1 ≤ turn.limit) (sym now) some) there (named ∙ sym (ap (λ (turn : OneTurn). turn.number) now)))
          ])
        ];
      }

      some-turn : (own : Active) → IsAmong desk.active own → own.number ≡ one.number → (later : Desk) → Goes most desk later own → State most start later (λ other. Done other ⊎ (one ≡ other))
      some-turn own there named later goes =
          let no_more = no-more most desk later state.is goes.is goes.were in
          let before = state.no_more in
          record {
            is = goes.is;
            were = were-again start.active desk.active later.active state.were goes.were;
            no_more = omega (arith, no_more, before);
            how = elim goes.how [
              | inl less ↦ inl (omega (arith, less, before))
              | inr blocked ↦ elim state.how [
                | inl less ↦ inl (omega (arith, less, no_more))
                | inr waits ↦ inr (λ other done some entry among same. by_own own there named later blocked waits other done some entry
                    (among-replaced (waiting_now own) desk.active entry (subst (λ (entries : List Active). IsAmong entries entry) blocked.active among)) same)
              ]
            ];
          }
        where
          by_own : (own : Active) → IsAmong desk.active own → own.number ≡ one.number → (later : Desk) → IsBlocked desk later own
              → ((other : OneTurn) → Done other → 1 ≤ other.limit → (entry : Active) → IsAmong desk.active entry → entry.number ≡ other.number → WaitsSome desk entry)
              → (other : OneTurn) → Done other ⊎ (one ≡ other) → 1 ≤ other.limit → (entry : Active) → (waiting_now own ≡ entry) ⊎ (IsAmong desk.active entry × ((entry.number == own.number) ≡ false)) → entry.number ≡ other.number → WaitsSome later entry
          by_own own there named later blocked waits other done some entry (inl is) same = subst (WaitsSome later) is (marked-waits desk later own blocked)
          by_own own there named later blocked waits other (inl before) some entry (inr was) same = still-waits desk later entry own state.is there blocked (waits other before some entry was.0 same)
          by_own own there named later blocked waits other (inr now) some entry (inr was) same =
              absurd (both_ways (entry.number == own.number) was.1 (eq-eqb entry.number own.number (same ∙ sym (ap (λ (turn : OneTurn). turn.number) now) ∙ sym named)))

      by_entry : (found : Option Active) → find (λ (entry : Active). entry.number == one.number) desk.active ≡ found → (limit : ℕ) → one.limit ≡ limit
          → State most start (turn_desk (turn_of found one.word one.number limit desk)) (λ other. Done other ⊎ (one ≡ other))
      by_entry None found limit is = nothing (λ entry some there named. both_ways (entry.number == one.number) (none-found (λ (entry : Active). entry.number == one.number) desk.active found entry there) (eq-eqb entry.number one.number named))
      by_entry (Some own) found zero is = nothing (λ entry some there named. omega (arith, some, is))
      by_entry (Some own) found (suc limit) is =
          let (there, passes) = among-found (λ (entry : Active). entry.number == one.number) desk.active own found in
          let named : own.number ≡ one.number = eqb-true own.number one.number passes in
          some-turn own there named (turn_desk (turns one.word one.number (suc limit) (Going desk no_counts)))
          (subst (λ (n : ℕ). Goes most desk (turn_desk (turns one.word n (suc limit) (Going desk no_counts))) own) named
          (turn-goes most one.word limit desk own state.is there (all-end most start.active desk.active state.were ends) keeps))

  -- a round
  pub round-state : (turns : List OneTurn) (desk : Desk) (Done : OneTurn → Type 0) → ((one : OneTurn) → IsOneOf turns one → KeepsCommits one.word) → State most start desk Done
      → State most start (after_round turns desk) (λ other. Done other ⊎ IsOneOf turns other)
  round-state [] desk Done keeps state = widened most start desk Done (λ other. Done other ⊎ IsOneOf [] other) (λ other done. elim done [ inl before ↦ before | inr none ↦ absurd none ]) state
  round-state (one ∷ turns) desk Done keeps state =
      widened most start (after_round (one ∷ turns) desk) (λ other. (Done other ⊎ (one ≡ other)) ⊎ IsOneOf turns other) (λ other. Done other ⊎ IsOneOf (one ∷ turns) other)
      (λ other done. elim done [ inl before ↦ inl (inl before) | inr now ↦ elim now [ inl first ↦ inl (inr first) | inr later ↦ inr later ] ])
      (round-state turns (turn_desk (turn one.word one.number one.limit desk)) (λ other. Done other ⊎ (one ≡ other)) (λ other among. keeps other (inr among))
      (one-more desk one Done (keeps one (inl refl)) state))
