-- A contest, round by round: each cycle that a waiting seat closes is broken.
use Rattle.activations.proofs.Common.{◌≡◌, refl, ℕ, ◌==◌, ◌&&◌, not, Bool, true, List, filter, map, Option, Some, None, is_some, option_map_or, ap, sym, ◌∙◌, has, Lines, no_lines, conflicts, shown_cycle, Request, Want, lines_wanted, of_seat, Active, AreAlike, by_number, kept_conflict, kept_waits, alike-same, conflicts-alike, filter-alike, conflicts-seats, waits-seats, sitter, number_in, numbers_seated, holders, seat_waits, cycle_of, AreOfPage, holders-flat, waits-flat, waits-none, cycle-numbers, Activity, entry_in, entries, locks_in, request_in, IsActivitySound, map-map, false, [], ◌∷◌, find, option_map, subst, victim_of, Plain, Pool, DiskWord, Counts, InFlight, Turning, Over, Victim, Waits, contest_ends, IsOrderly, KeepsPages, contest, IsUnderWay, marked_waiting, with_cycle, told-found, at-number, IsContesting, contesting-victim, contesting-turn, contesting-loses, contesting-consistent, contesting-ready, contesting-waits, contesting-gets, seat_of, desk_over, state_in, shown, KeepsDesk, IsContested, ComesToEnd, IsFree, WereRefused, rolled, RollsBack, Grant, Desk, nil_from_length, map-append, ne_eqb, ◌<◌, ◌++◌, length, IsSome, arith, eqb-true, eq-eqb, both_ways, has-filter, seat-found, Contests, Cycle, nat_tests, FromContest, IsRolledBack}
use Rattle.activations.proofs.HoldingLemmas.{held-flat}
use Rattle.activations.proofs.CommitLemmas.{told-kept}
use Rattle.activations.proofs.KeptLemmas.{no-more, some-holders}

-- the numbers of the entries are those of the seats
pub numbers-told : (a : Activity) → map (λ (entry : Active). entry.number) (entries a) ≡ numbers_seated a.seating
numbers-told a = map-map (λ (entry : Active). entry.number) (entry_in a) a.seating.taken

module _ (a : Activity) (sound : IsActivitySound a) where
  -- the holders that a request of a seat conflicts with are those that the tables tell
  pub holders-told : (seat : ℕ) (wants : List Want) (asked : Lines) → has a.seating.taken seat ≡ true → AreOfPage wants → AreAlike asked (lines_wanted wants)
      → holders a.seating seat wants
      ≡ map (λ (other : Active). other.number) (filter (kept_conflict asked (by_number a.seating.taken (entry_in a) (locks_in a) no_lines) (number_in a.seating seat)) (entries a))
  holders-told seat wants asked taken sets alike =
      holders-flat a.seating sound.seating (locks_in a) (λ at inside. held-flat (of_seat a.seating.holding at) (sound.lines at)) seat wants sets
      ∙ sym (conflicts-seats a.seating.taken (entry_in a) sound.seats (locks_in a) (request_in a) (lines_wanted wants) seat taken)
      ∙ ap (map (λ (other : Active). other.number))
      (filter-alike
      (kept_conflict (lines_wanted wants) (by_number a.seating.taken (entry_in a) (locks_in a) no_lines) (number_in a.seating seat))
      (kept_conflict asked (by_number a.seating.taken (entry_in a) (locks_in a) no_lines) (number_in a.seating seat)) (entries a)
      (λ other among. ap (λ (meets : Bool). not (other.number == number_in a.seating seat) && meets)
      (sym (conflicts-alike asked (lines_wanted wants) (by_number a.seating.taken (entry_in a) (locks_in a) no_lines other.number) (by_number a.seating.taken (entry_in a) (locks_in a) no_lines other.number) alike (alike-same _)))))

  -- who waits for whom
  waits-told : (from to : ℕ) → has a.seating.taken from ≡ true → has a.seating.taken to ≡ true
      → kept_waits (by_number a.seating.taken (entry_in a) (locks_in a) no_lines) (by_number a.seating.taken (entry_in a) (request_in a) no_lines) (entries a) (number_in a.seating from) (number_in a.seating to)
      ≡ seat_waits a.seating from to
  waits-told from to here there =
      waits-seats a.seating.taken (entry_in a) sound.seats (locks_in a) (request_in a) from to here there
      ∙ by_waits (sitter a.seating from).waits refl
    where
      by_waits : (waits : Option Request) → (sitter a.seating from).waits ≡ waits
          → ((entry_in a from).waiting && (not (to == from) && conflicts (request_in a from) (locks_in a to))) ≡ seat_waits a.seating from to
      by_waits None is = ap (λ (w : Option Request). is_some w && (not (to == from) && conflicts (request_in a from) (locks_in a to))) is ∙ sym (waits-none a.seating sound.seating from to is)
      by_waits (Some request) is =
          (λ i. is_some (is i) && (not (to == from) && conflicts (option_map_or (λ request. lines_wanted request.wants.items) (is i) no_lines) (locks_in a to)))
          ∙ sym (waits-flat a.seating sound.seating (locks_in a) (λ at inside. held-flat (of_seat a.seating.holding at) (sound.lines at)) from to request is (sound.requests from request here is) there)

  -- and the shown cycle
  pub cycle-told : (seat : ℕ) → has a.seating.taken seat ≡ true → cycle_of a.seating seat
      ≡ shown_cycle (kept_waits (by_number a.seating.taken (entry_in a) (locks_in a) no_lines) (by_number a.seating.taken (entry_in a) (request_in a) no_lines) (entries a))
      (map (λ (entry : Active). entry.number) (entries a)) (number_in a.seating seat)
  cycle-told seat taken = cycle-numbers a.seating sound.seating
      (kept_waits (by_number a.seating.taken (entry_in a) (locks_in a) no_lines) (by_number a.seating.taken (entry_in a) (request_in a) no_lines) (entries a)) seat
      (λ from to here there. waits-told from to here there) taken
      ∙ ap (λ (all : List ℕ). shown_cycle (kept_waits (by_number a.seating.taken (entry_in a) (locks_in a) no_lines) (by_number a.seating.taken (entry_in a) (request_in a) no_lines) (entries a)) all (number_in a.seating seat))
      (sym (numbers-told a))

-- a consistent desk is so whatever its order
pub orderly-other : (a : Activity) (committed : List ℕ) (order : List (ℕ × ℕ)) → IsOrderly (desk_over a committed order) → IsOrderly (desk_over a committed [])
orderly-other a committed order is = record { whole = is.whole; few = is.few; active = is.active; held = is.held; no_cycle = is.no_cycle }

-- what was refused once was so also where the attempt's own pages are still its own
pub refused-since : (attempt : InFlight) (refused : List ℕ) (first now : Desk) → WereRefused attempt refused first → KeepsPages attempt.entry.number first.authority now.authority → WereRefused attempt refused now
refused-since attempt refused first now were keeps = record {
  once = were.once;
  are = were.are;
  keeps = λ page own. keeps page (ap (λ (one : Grant). one.owner == attempt.entry.number) (were.keeps page own) ∙ own) ∙ were.keeps page own;
}

-- what is held, what is asked for and the states, by the numbers of those that sit
abbrev pub locks_told : Activity → ℕ → Lines
locks_told a = by_number a.seating.taken (entry_in a) (locks_in a) no_lines

abbrev pub requests_told : Activity → ℕ → Lines
requests_told a = by_number a.seating.taken (entry_in a) (request_in a) no_lines

abbrev pub states_told : Activity → ℕ → Plain
states_told a = by_number a.seating.taken (entry_in a) (state_in a) (state_in a 16)

module _ (begins : DiskWord → Turning) (attempt : InFlight) (refused : List ℕ) (first : Desk) (a : Activity) (seat : ℕ) (committed : List ℕ) (order : List (ℕ × ℕ)) (counts : Counts)
    (sound : IsActivitySound a) (taken : has a.seating.taken seat ≡ true) (number : attempt.entry.number ≡ number_in a.seating seat)
    (is : IsContested begins attempt refused first a committed order counts) where
  abbrev desk : Desk
  desk = desk_over a committed order

  told : IsContesting begins attempt refused first desk counts (locks_told a) (requests_told a) (states_told a) (shown a committed)
  told = record { comes = is.comes; ready = is.ready; under_way = is.under_way; told = told-kept a committed sound is.kept }

  cycle-is : (cycle : Option (List ℕ)) → cycle_of a.seating seat ≡ cycle
      → shown_cycle (kept_waits (locks_told a) (requests_told a) (entries a)) (map (λ (entry : Active). entry.number) (entries a)) attempt.entry.number ≡ cycle
  cycle-is cycle found =
      ap (shown_cycle (kept_waits (locks_told a) (requests_told a) (entries a)) (map (λ (entry : Active). entry.number) (entries a))) number
      ∙ sym (cycle-told a sound seat taken) ∙ found

  -- the victim of a cycle sits somewhere
  pub cycle-sits : (cycle : List ℕ) → cycle_of a.seating seat ≡ Some cycle → seat_of a.seating (victim_of cycle) ≡ None → ⊥
  cycle-sits cycle found none =
      let (victim, there) = contesting-victim begins attempt refused first desk counts (locks_told a) (requests_told a) (states_told a) (shown a committed) told cycle (cycle-is (Some cycle) found) in
      some-none (sym there ∙ told-found a.seating.taken (entry_in a) (victim_of cycle) ∙ ap (option_map (entry_in a)) none)
    where
      some-none : {e : Active} → Some e ≡ None → ⊥
      some-none is = absurd (cc)

  module _ (cycle : List ℕ) (found : cycle_of a.seating seat ≡ Some cycle) (victim : ℕ) (sits : seat_of a.seating (victim_of cycle) ≡ Some victim) where
    victim-is : find (λ (other : Active). other.number == victim_of cycle) (entries a) ≡ Some (entry_in a victim)
    victim-is = told-found a.seating.taken (entry_in a) (victim_of cycle) ∙ ap (option_map (entry_in a)) sits

    module _ (pool : Pool) (rolls : RollsBack a victim pool committed) where
      -- another is the victim: it is rolled back, and the contest goes on
      pub round-goes : (victim_of cycle == attempt.entry.number) ≡ false → IsContested begins attempt refused first (rolled a victim pool) committed order (with_cycle counts cycle)
      round-goes other =
          let turn = contesting-turn begins attempt refused first desk counts (locks_told a) (requests_told a) (states_told a) (shown a committed) told cycle (entry_in a victim) (cycle-is (Some cycle) found) victim-is (shown (rolled a victim pool) committed) rolls.laid other in
          record {
            comes = λ word reads. turn.comes word reads ∙ ap (λ (d : Desk). contest_ends word attempt refused (contest attempt.entry.number d (with_cycle counts cycle))) (sym (rolls.desk order));
            ready = is.ready;
            were = is.were;
            under_way = subst (λ (d : Desk). IsUnderWay first d (marked_waiting attempt)) (sym (rolls.desk order)) turn.under_way;
            kept = rolls.kept;
          }

      -- it is the victim itself
      pub round-loses : (victim_of cycle == attempt.entry.number) ≡ true → ComesToEnd begins (rolled a victim pool) committed order (with_cycle counts cycle) Victim
      round-loses it =
          let lost = contesting-loses begins attempt refused first desk counts (locks_told a) (requests_told a) (states_told a) (shown a committed) told cycle (entry_in a victim) (cycle-is (Some cycle) found) victim-is (shown (rolled a victim pool) committed) rolls.laid it in
          record {
            comes = λ word reads. lost.0 word reads ∙ ap (λ (d : Desk). Over d (with_cycle counts cycle) Victim) (sym (rolls.desk order));
            follows = record {
              orderly = orderly-other (rolled a victim pool) committed order (subst IsOrderly (sym (rolls.desk order)) lost.1);
              kept = rolls.kept;
            };
          }

  module _ (found : cycle_of a.seating seat ≡ None) where
    settled : IsOrderly desk
    settled = contesting-consistent begins attempt refused first desk counts (locks_told a) (requests_told a) (states_told a) (shown a committed) told (cycle-is None found)

    follows-here : KeepsDesk a committed
    follows-here = record { orderly = orderly-other a committed order settled; kept = is.kept }

    module _ (request : Request) (waits : (sitter a.seating seat).waits ≡ Some request) where
      holders-are : holders a.seating seat request.wants.items ≡ map (λ (other : Active). other.number) (filter (kept_conflict (requests_told a attempt.entry.number) (locks_told a) attempt.entry.number) (entries a))
      holders-are =
          holders-told a sound seat request.wants.items (requests_told a attempt.entry.number) taken (sound.requests seat request taken waits) alike
          ∙ ap (λ (n : ℕ). map (λ (other : Active). other.number) (filter (kept_conflict (requests_told a attempt.entry.number) (locks_told a) n) (entries a))) (sym number)
        where
          asked-is : requests_told a attempt.entry.number ≡ lines_wanted request.wants.items
          asked-is =
              ap (requests_told a) number ∙ at-number a.seating.taken (entry_in a) (request_in a) no_lines seat sound.seats taken
              ∙ ap (λ (w : Option Request). option_map_or (λ request. lines_wanted request.wants.items) w no_lines) waits

          alike : AreAlike (requests_told a attempt.entry.number) (lines_wanted request.wants.items)
          alike = subst (λ (l : Lines). AreAlike l (lines_wanted request.wants.items)) (sym asked-is) (alike-same (lines_wanted request.wants.items))

      pub contest-waits : (holder : ℕ) (others : List ℕ) → holders a.seating seat request.wants.items ≡ holder ∷ others → ComesToEnd begins a committed order counts (Waits (holder ∷ others))
      contest-waits holder others some = record {
        comes = contesting-waits begins attempt refused first desk counts (locks_told a) (requests_told a) (states_told a) (shown a committed) told (cycle-is None found) holder others (sym holders-are ∙ some);
        follows = follows-here;
      }

      pub contest-frees : holders a.seating seat request.wants.items ≡ [] → IsFree begins attempt refused a committed order counts
      contest-frees none =
          let gets = contesting-gets begins attempt refused first desk counts (locks_told a) (requests_told a) (states_told a) (shown a committed) told (cycle-is None found) (sym holders-are ∙ none) in
          record {
            comes = gets.0;
            free = gets.1;
            ready = contesting-ready begins attempt refused first desk counts (locks_told a) (requests_told a) (states_told a) (shown a committed) told (cycle-is None found);
            were = refused-since attempt refused first desk is.were is.under_way.keeps;
            follows = follows-here;
          }

-- fewer are taken where one that was is left
pub fewer : (taken : List ℕ) (seat : ℕ) → has taken seat ≡ true → length (filter (λ other. not (other == seat)) taken) < length taken
fewer [] seat inside = absurd (cc)
fewer (one ∷ taken) seat inside = grind (arith, nat_tests, no-more taken seat, fewer taken seat)

module _ (seat : ℕ) (first now : Activity) (before after : Counts) (cycle : List ℕ) (loser : ℕ) (pool : Pool)
    (sound : IsActivitySound now) (taken : has now.seating.taken seat ≡ true) (number : number_in now.seating seat ≡ number_in first.seating seat)
    (contests : Contests seat first before now after)
    (found : cycle_of now.seating seat ≡ Some cycle) (sits : seat_of now.seating (victim_of cycle) ≡ Some loser)
    (rolls : IsRolledBack now loser pool) where
  -- another is rolled back: the contest goes on
  pub contests-on : (victim_of cycle == number_in now.seating seat) ≡ false → Contests seat first before (rolled now loser pool) (with_cycle after cycle)
  contests-on other begins attempt refused desk committed order is contested =
      let here = contests begins attempt refused desk committed order is contested in
      round-goes begins attempt refused desk now seat committed order after sound taken (is ∙ sym number) here cycle found loser sits pool
      (rolls committed here.under_way.contending.active here.kept)
      (ap (λ (n : ℕ). victim_of cycle == n) (is ∙ sym number) ∙ other)

  -- it is rolled back itself
  pub contests-lost : (victim_of cycle == number_in now.seating seat) ≡ true
      → FromContest seat first before (λ begins attempt refused desk committed order. ComesToEnd begins (rolled now loser pool) committed order (with_cycle after cycle) Victim)
  contests-lost it begins attempt refused desk committed order is contested =
      let here = contests begins attempt refused desk committed order is contested in
      round-loses begins attempt refused desk now seat committed order after sound taken (is ∙ sym number) here cycle found loser sits pool
      (rolls committed here.under_way.contending.active here.kept)
      (ap (λ (n : ℕ). victim_of cycle == n) (is ∙ sym number) ∙ it)

  -- and who isn't stays
  pub stays-taken : (victim_of cycle == number_in now.seating seat) ≡ false → has (rolled now loser pool).seating.taken seat ≡ true
  stays-taken other = has-filter (λ other. not (other == loser)) now.seating.taken seat
      ∙ (λ i. taken i && not (apart i))
    where
      apart : (seat == loser) ≡ false
      apart = ne_eqb seat loser
          (λ same. both_ways (victim_of cycle == number_in now.seating seat) other
          (eq-eqb (victim_of cycle) (number_in now.seating seat) (sym ((seat-found now.seating sound.seating (victim_of cycle) loser sits).1) ∙ ap (number_in now.seating) (sym same))))

-- a cycle more is recorded
pub recorded : (before : List Cycle) (members : List ℕ) (after : List Cycle) (cycle : Cycle) → cycle.members.items ≡ members → after ≡ before ++ cycle ∷ []
    → map (λ (c : Cycle). c.members.items) after ≡ map (λ (c : Cycle). c.members.items) before ++ members ∷ []
recorded before members after cycle is same = ap (map (λ (c : Cycle). c.members.items)) same ∙ map-append (λ (c : Cycle). c.members.items) before (cycle ∷ []) ∙ ap (λ (m : List ℕ). map (λ (c : Cycle). c.members.items) before ++ m ∷ []) is

some_waits : (waits : Option Request) → IsSome waits → (request : Request) × (waits ≡ Some request)
some_waits (Some request) some = (request, refl)
some_waits None some = absurd (cc (some))

-- at the end: nobody sits in the victim's place only where there is no cycle
module _ (seat : ℕ) (first now : Activity) (before after : Counts)
    (sound : IsActivitySound now) (taken : has now.seating.taken seat ≡ true) (number : number_in now.seating seat ≡ number_in first.seating seat)
    (contests : Contests seat first before now after) where
  -- the victim of a contested cycle sits somewhere
  pub victim-sits : (cycle : List ℕ) → cycle_of now.seating seat ≡ Some cycle → seat_of now.seating (victim_of cycle) ≡ None
      → FromContest seat first before (λ begins attempt refused desk committed order. ⊥)
  victim-sits cycle found none begins attempt refused desk committed order is contested =
      let here = contests begins attempt refused desk committed order is contested in
      cycle-sits begins attempt refused desk now seat committed order after sound taken (is ∙ sym number) here cycle found none

  module _ (waiting : IsSome (sitter now.seating seat).waits) (found : cycle_of now.seating seat ≡ None) (these : List ℕ)
      (told : (request : Request) → (sitter now.seating seat).waits ≡ Some request → these ≡ holders now.seating seat request.wants.items) where
    pub told-settles : (length these == 0) ≡ true → FromContest seat first before (λ begins attempt refused desk committed order. IsFree begins attempt refused now committed order after)
    told-settles none begins attempt refused desk committed order is contested =
        let (request, waits) = some_waits (sitter now.seating seat).waits waiting in
        contest-frees begins attempt refused desk now seat committed order after sound taken (is ∙ sym number) (contests begins attempt refused desk committed order is contested) found request waits
        (sym (told request waits) ∙ nil_from_length these (eqb-true (length these) 0 none))

    pub told-stays : (length these == 0) ≡ false → FromContest seat first before (λ begins attempt refused desk committed order. ComesToEnd begins now committed order after (Waits these))
    told-stays some begins attempt refused desk committed order is contested =
        let (request, waits) = some_waits (sitter now.seating seat).waits waiting in
        let (holder, others, all) = some-holders these some in
        subst (λ (those : List ℕ). ComesToEnd begins now committed order after (Waits those)) (sym all)
        (contest-waits begins attempt refused desk now seat committed order after sound taken (is ∙ sym number) (contests begins attempt refused desk committed order is contested) found request waits holder others
        (sym (told request waits) ∙ all))
