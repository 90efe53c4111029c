-- What stays while those that run are served: of a rollback of another, and one after another.
use Rattle.activations.proofs.Common.{◌≡◌, refl, ℕ, ◌+◌, ◌≤◌, ◌==◌, not, if◌then◌else◌, Bool, true, false, List, [], ◌∷◌, filter, length, None, replicate, Result, Ok, Err, OnOk, arith, ap, sym, ◌∙◌, subst, has, has-filter, ArrayVec, Cycle, Pool, Tally, Activity, IsSeatSelected, TookEffect, HasUndone, KeepsParts, StandsStill, StaysSeated, Want, Authority, cleared_entry, unowned, map, slice_index_or, slice_range, zero, suc, ◌*◌, locked, rolled, with_other_pool, Ghosts, FewerLater, asks_on, nat_tests, KeepsAll, IfErr, IsErrAnd, Rose, TurnEnd, EndsRows, EndsByDisk, ComesOut, Instructs, StoreView, DiskWord, Turning, Counts, CanFetch, Layout, OnlyAsks, asks_only, total}

-- none more are left of those but one
pub no-more : (taken : List ℕ) (seat : ℕ) → length (filter (λ other. not (other == seat)) taken) ≤ length taken
no-more [] seat = omega arith
no-more (one ∷ taken) seat = grind (arith, no-more taken seat)

-- whatever its frames hold
pub keeps-pool : (a : Activity) (pool : Pool) → KeepsParts a (with_other_pool a pool) 0
keeps-pool a pool = record { programs = refl; most_lines = refl; next = refl; directory = refl; fewer = omega arith; rows = λ rows within seat below. let here = within seat below in omega (arith, here) }

pub keeps-itself : (a : Activity) → KeepsParts a a 0
keeps-itself a = keeps-pool a a.reach.pool

pub keeps-on : (a b c : Activity) (more other : ℕ) → KeepsParts a b more → KeepsParts b c other → KeepsParts a c (more + other)
keeps-on a b c more other first second = record {
  programs = second.programs ∙ first.programs;
  most_lines = second.most_lines ∙ first.most_lines;
  next = second.next ∙ first.next;
  directory = second.directory ∙ first.directory;
  fewer = let less = first.fewer in let then_less = second.fewer in omega (arith, less, then_less);
  rows = λ rows within seat below. let here = second.rows (rows + more) (first.rows rows within) seat below in omega (arith, here);
}

pub keeps-rolled : (first a : Activity) (seat more : ℕ) (pool : Pool) → KeepsParts first a more → KeepsParts first (rolled a seat pool) more
keeps-rolled first a seat more pool keeps = record { programs = keeps.programs; most_lines = keeps.most_lines; next = keeps.next; directory = keeps.directory; fewer = let less = keeps.fewer in let few = no-more a.seating.taken seat in omega (arith, less, few); rows = keeps.rows }

pub stays-itself : (a : Activity) (seat : ℕ) → has a.seating.taken seat ≡ true → StaysSeated a a seat
stays-itself a seat taken = record { taken = taken; number = refl; selected = λ is. is }

pub stays-on : (a b c : Activity) (seat : ℕ) → StaysSeated a b seat → StaysSeated b c seat → StaysSeated a c seat
stays-on a b c seat first second = record { taken = second.taken; number = second.number ∙ first.number; selected = λ is. second.selected (first.selected is) }

-- another is rolled back
stays-rolled : (first a : Activity) (seat loser : ℕ) (pool : Pool) → StaysSeated first a seat → has (rolled a loser pool).seating.taken seat ≡ true → StaysSeated first (rolled a loser pool) seat
stays-rolled first a seat loser pool stays inside = record {
  taken = inside;
  number = stays.number;
  selected = λ is.
      let was : IsSeatSelected a seat = stays.selected is in
      let other : (a.reach.runner == loser + 1) ≡ false = apart was.runner in record {
        runner = ap (λ (b : Bool). if b then 0 else a.reach.runner) other ∙ was.runner;
        registers = ap (λ (b : Bool). if b then record { page = a.reach.directory.page; list = replicate 16 None } else a.reach.registers) other ∙ was.registers;
      };
}
  where
    apart : a.reach.runner ≡ seat + 1 → (a.reach.runner == loser + 1) ≡ false
    apart runner = let left = has-filter (λ other. not (other == loser)) a.seating.taken seat in grind (arith, nat_tests, left, inside, runner)

-- who stands still
pub still-itself : (a : Activity) (seat : ℕ) → has a.seating.taken seat ≡ true → StandsStill a a seat
still-itself a seat taken = record { seated = stays-itself a seat taken; program = refl; live = refl; private = refl; own = λ page its. refl }

pub still-on : (a b c : Activity) (seat : ℕ) → StandsStill a b seat → StandsStill b c seat → StandsStill a c seat
still-on a b c seat first second = record {
  seated = stays-on a b c seat first.seated second.seated;
  program = second.program ∙ first.program;
  live = second.live ∙ first.live;
  private = second.private ∙ first.private;
  own = λ page its. second.own page (ap (λ (one : Authority). one.tid) (first.own page its) ∙ its) ∙ first.own page its;
}

-- an entry that is cleared
cleared-at : (tid : ℕ) (owned : List Authority) (page : ℕ) → slice_index_or (map (cleared_entry tid) owned) page unowned ≡ cleared_entry tid (slice_index_or owned page unowned)
cleared-at tid [] page = grind arith
cleared-at tid (one ∷ owned) zero = refl
cleared-at tid (one ∷ owned) (suc page) = cleared-at tid owned page

pub still-rolled : (first a : Activity) (seat loser : ℕ) (pool : Pool) → HasUndone a.seating.holding loser a.reach (record a.reach { pool = pool }) → StandsStill first a seat → has (rolled a loser pool).seating.taken seat ≡ true → StandsStill first (rolled a loser pool) seat
still-rolled first a seat loser pool undone still inside = record {
  seated = stays-rolled first a seat loser pool still.seated inside;
  program = still.program;
  live = still.live;
  private = ap (λ (bytes : List ℕ). slice_range bytes (seat * 16384) (seat * 16384 + 16384)) undone.were.bytes ∙ still.private;
  own = λ page its.
      let same = still.own page its in let left = has-filter (λ other. not (other == loser)) a.seating.taken seat in
      let other : ((slice_index_or a.reach.entries page unowned).tid == loser + 1) ≡ false =
      ap (λ (one : Authority). one.tid == loser + 1) same ∙ ap (λ (tid : ℕ). tid == loser + 1) its ∙ grind (arith, nat_tests, left, inside) in
      cleared-at (loser + 1) a.reach.entries page
      ∙ ap (λ (gone : Bool). if gone then unowned else slice_index_or a.reach.entries page unowned) other ∙ same;
}

-- and of a tally only its cycles are others
pub tally-on : (first before : Tally) (cycles : ArrayVec Cycle) → before ≡ record first { cycles = before.cycles } → record before { cycles = cycles } ≡ record first { cycles = cycles }
tally-on first before cycles same = ap (λ (t : Tally). let that : Tally = record t { cycles = cycles } in that) same

-- what follows where an answer is Ok
pub ok-then : {T E P Q : Type 0} (result : Result T E) → (P → Q) → OnOk result P → OnOk result Q
ok-then (Ok it) follows is = follows is
ok-then (Err fault) follows is = is

pub ok-both : {T E P Q R : Type 0} (result : Result T E) → (P → Q → R) → OnOk result P → OnOk result Q → OnOk result R
ok-both (Ok it) follows one other = follows one other
ok-both (Err fault) follows one other = one

-- a row that took effect
pub keeps-took : (a after : Activity) (seat : ℕ) → TookEffect a seat after → KeepsParts a after 0
keeps-took a after seat took =
    let same = keeps-itself a in
    subst (λ (x : Activity). KeepsParts a x 0) (sym took.shape) (record { programs = refl; most_lines = refl; next = refl; directory = refl; fewer = same.fewer; rows = same.rows })

-- one was rolled back, perhaps after other pages came into the frames
pub keeps-left : (a after : Activity) (seat : ℕ) (pool : Pool) → after ≡ rolled a seat pool → KeepsParts a after 0
keeps-left a after seat pool shape = subst (λ (x : Activity). KeepsParts a x 0) (sym shape) (keeps-rolled a a seat 0 pool (keeps-itself a))

pub keeps-broke : (a after : Activity) (seat : ℕ) (between pool : Pool) → after ≡ rolled (with_other_pool a between) seat pool → KeepsParts a after 0
keeps-broke a after seat between pool shape =
    let keeps = keeps-left (with_other_pool a between) after seat pool shape in
    record { programs = keeps.programs; most_lines = keeps.most_lines; next = keeps.next; directory = keeps.directory; fewer = keeps.fewer; rows = keeps.rows }

-- or by a check, where nothing else had changed
pub keeps-checked : (a same after : Activity) (seat : ℕ) (pool : Pool) → same ≡ a → after ≡ rolled same seat pool → KeepsParts a after 0
keeps-checked a same after seat pool is shape = keeps-left a after seat pool (shape ∙ ap (λ (x : Activity). rolled x seat pool) is)

-- locks were taken and entries granted, and other pages came in
pub keeps-locked : (a : Activity) (seat : ℕ) (wants : List Want) (entries : List Authority) (pool : Pool) → KeepsParts a (with_other_pool (locked a seat wants entries) pool) 0
keeps-locked a seat wants entries pool = let same = keeps-itself a in record { programs = refl; most_lines = refl; next = refl; directory = refl; fewer = same.fewer; rows = same.rows }

-- and then nothing more
pub keeps-two : (a b c : Activity) → KeepsParts a b 0 → KeepsParts b c 0 → KeepsParts a c 0
keeps-two a b c first second = subst (KeepsParts a c) (omega arith) (keeps-on a b c 0 0 first second)

-- fewer rows than so many more
pub keeps-less : (a b : Activity) (few more : ℕ) → few ≤ more → KeepsParts a b few → KeepsParts a b more
keeps-less a b few more less keeps = record {
  programs = keeps.programs;
  most_lines = keeps.most_lines;
  next = keeps.next;
  directory = keeps.directory;
  fewer = keeps.fewer;
  rows = λ rows within seat below. let here = keeps.rows rows within seat below in omega (arith, here, less);
}

-- one stage after another, which may call the disk or not
pub keeps-all-on : {W : Type 0} (G : Ghosts W) (fewer_later : FewerLater G) (a b c : Activity) (u v w : W) → KeepsAll G a b 0 u v → KeepsAll G b c 0 v w → KeepsAll G a c 0 u w
keeps-all-on G fewer_later a b c u v w first second =
    record { asks = asks_on G fewer_later u v w first.asks second.asks; parts = keeps-two a b c first.parts second.parts }

pub keeps-all-then : {W : Type 0} (G : Ghosts W) (a b c : Activity) (u v : W) → KeepsAll G a b 0 u v → KeepsParts b c 0 → KeepsAll G a c 0 u v
keeps-all-then G a b c u v first second = record { asks = first.asks; parts = keeps-two a b c first.parts second }

-- pages may be fetched still, after calls that only ask
pub fetch-on : {W : Type 0} {G : Ghosts W} {layout other : Layout} {store : StoreView} {outside later : W} → CanFetch G layout store outside → other ≡ layout → OnlyAsks G outside later → CanFetch G other store later
fetch-on {G = G} {store = store} {outside = outside} {later = later} can same asks =
    record { directory = can.directory ∙ sym same; usable = can.usable; room = (asks_only G outside later asks).longer (total store.header) can.room }

-- what is to be said of an end that is handed on
pub handed : {T : Type 0} (P : Result T TurnEnd → Type 0) (result : Result T TurnEnd) (end : TurnEnd) → IsErrAnd result (λ told. told ≡ end) → P (Err end) → P result
handed P (Ok it) end is said = absurd is
handed P (Err told) end is said = subst (λ (how : TurnEnd). P (Err how)) (sym is) said

-- a stage that ended the turn ends the whole instruction so
pub ended-so : {T V W : Type 0} {G : Ghosts W} {store : StoreView} {seat : ℕ} {old new : Activity} {outside later : W} {before after : Tally}
    {how : TurnEnd} {one : Result T TurnEnd → (DiskWord → Turning) → Activity → ℕ → List ℕ → List (ℕ × ℕ) → Counts → Type 0}
    → (other : Result V TurnEnd → (DiskWord → Turning) → Activity → ℕ → List ℕ → List (ℕ × ℕ) → Counts → Type 0) (result : Result V TurnEnd)
    → IsErrAnd result (λ told. told ≡ how) → ComesOut G store seat old new outside later before after (Err how) one
    → (Instructs G store outside seat old new before after (one (Err how)) → Instructs G store outside seat old new before after (other (Err how)))
    → ComesOut G store seat old new outside later before after result other
ended-so {V = V} {G = G} {store = store} {seat = seat} {old = old} {new = new} {outside = outside} {later = later} {before = before} {after = after} {how = how} other result told came same =
    handed (λ (r : Result V TurnEnd). ComesOut G store seat old new outside later before after r other) result how told
    (record { keeps = came.keeps; on = tt; over = came.over; no_limit = came.no_limit; step = same came.step })

-- a page couldn't be read, where the disk's count had stayed before and no page was counted that isn't now
pub ended-by-disk : {U W : Type 0} (G : Ghosts W) (number : ℕ) (a : Activity) (before mid after : W) (old between new : Tally) (result : Result U TurnEnd) (how : TurnEnd) → IsErrAnd result (λ told. told ≡ how)
    → G.disk_faults mid ≡ G.disk_faults before → old.pages ≤ between.pages → EndsByDisk G mid after between new how → IfErr result (EndsRows G number a before after old new)
ended-by-disk {U} G number a before mid after old between new result how told calm more off =
    let less = off.counted in
    handed (λ (r : Result U TurnEnd). IfErr r (EndsRows G number a before after old new)) result how told
    (subst (EndsRows G number a before after old new) (sym off.is)
    (record { disk = (subst (λ (n : ℕ). Rose n (G.disk_faults after)) calm off.rose, omega (arith, more, less)); waits = tt; checked = tt; journal = tt; victim = tt }))

-- where some are, there is a first
pub some-holders : (numbers : List ℕ) → (length numbers == 0) ≡ false → (holder : ℕ) × (others : List ℕ) × (numbers ≡ holder ∷ others)
some-holders [] none = absurd (cc (none))
some-holders (holder ∷ others) some = (holder, others, refl)
