-- An attempt over the unit is the row of the plain machine on the bytes that it shows over the committed ones.
use Rattle.storage_unit.proofs.Common.{◌≡◌, ℕ, ◌+◌, ◌*◌, ◌<◌, ◌≤◌, Bool, true, false, List, [], ◌∷◌, ◌++◌, length, refl, sym, ◌∙◌, ap, subst, arith, Option, Some, None, Result, Ok, Err, ◌⊎◌, inl, inr, ◌==◌, ◌||◌, slice_index, slice_range, slice_set, option_map_or, ne_eqb, nat_tests, length-append, get_or-map-range_with_len, length-map-range_with_len, same_number_lists, has, Lines, no_lines, Virtual, located_by, Located, Private, Shared, Refused, Program, lines_at, touched, Access, Fault, Probe, bytes_from, halfword_of, access_to, answered, answer_in, Seen, Tried, seen_in, refused_by, unless_refused, tried, Reach, private_segment, place_at, on, seat_selected, byte_of, byte_at, is_there, is_in_frame, refuses_byte, put_at, stored, bytes_over, private_bytes, is_line_marked, IsReachSound, Lies, AreThere, plain_over, HasWindows, IsOpen, IsShutOut, IsRow, GoesOpen, MarksWritten, ChangesBytes, StaysClean, LeavesSeats}
use Rattle.page_table.specs.declared.segment_regs.Check.{Check as Wrong}
use Rattle.flat_machine.specs.declared.machine.Act.{Act}
use Rattle.flat_machine.specs.declared.machine.Cs.{Cs}
use Rattle.flat_machine.specs.declared.machine.Plain.{Plain}
use Rattle.flat_machine.specs.Plans.{Plan, Does, Fails}
use Rattle.flat_machine.specs.Row.{Outcome, On, Commit, Check, plan, plan_at, located, loads, stores, stored_bytes, moved, with_link, row_by, row}
use Rattle.romp_cpu.specs.declared.cpu.Attempt.{Attempt}
use Rattle.romp_cpu.specs.declared.cpu.Cpu.{Cpu}
use Rattle.romp_cpu.specs.Attempts.{access_of_plan, access_place, bytes_in, ChecksAlike, Agrees, GivesRow, GivesAll, GivesBy, GivesOver, GivesPlan, GivesEveryRow, IsCpuOf, StoresAll, stored_by, state_after, lines_of_access}
use Rattle.romp_cpu.proofs.AttemptLemmas.{plan-same}
use Rattle.romp_cpu.proofs.SegmentLemmas.{checks-alike}
use Rattle.storage_unit.specs.Places as places
use Rattle.storage_unit.proofs.ByteLemmas.{in-range, byte-of-all, all-long, over-some}
use Rattle.storage_unit.proofs.PlaceLemmas.{under, lies, byte-on, first-byte, never-refused, selected}
use Rattle.storage_unit.proofs.AnswerLemmas.{permitted-located, permitted-bytes}
use Rattle.storage_unit.proofs.StoreLemmas.{all-private}
use Rattle.storage_unit.proofs.AfterLemmas.{there-frame, own-located}
use Rattle.storage_unit.proofs.LocatedLemmas.{private-at, lies-where}
use Rattle.storage_unit.proofs.OpenLemmas.{permitted-open, open-permitted}
use Rattle.storage_unit.proofs.LeftLemmas.{Put, range-long, shared-within, private-fits, private-own, private-after, store-stays, store-after, marks-written, put-clean, put-seats}

-- what is seen of a storage of flat bytes
abbrev pub seen_of : Reach → Seen Reach
seen_of f = seen_in byte_at (answer_in (λ (g : Reach). g.registers) is_in_frame refuses_byte) stored f

-- a row that fails goes nowhere
link-checks : (link : Option (ℕ × ℕ)) (code : ℕ) (n : Plain) → with_link link (Check code) ≡ On n → ⊥
link-checks link code n is = grind (arith, nat_tests)

-- a row that goes on leaves the bytes that its one store leaves, and at most 4,096 printed ones
record Leaves (s n : Plain) (private store : List ℕ) : Type 0 where
  private_is : n.private ≡ private
  store_is : n.store ≡ store
  few : length s.out ≤ 4096 → length n.out ≤ 4096

kept : (link : Option (ℕ × ℕ)) (s t n : Plain) → s.out ≡ t.out → with_link link (On s) ≡ On n → Leaves t n s.private s.store
kept link s t n out is = grind (arith, nat_tests)

-- what is left of the bytes
retold : {s n : Plain} {a b c d : List ℕ} → Leaves s n a b → a ≡ c → b ≡ d → Leaves s n c d
retold leaves one two = record { private_is = leaves.private_is ∙ one; store_is = leaves.store_is ∙ two; few = leaves.few }

-- a store that is permitted puts its bytes where they lie
record StorePut (f : Reach) (address count : ℕ) (bytes : List ℕ) : Type 0 where
  at : Virtual
  found : located_by f.registers address count true ≡ Ok at
  lies : Lies f at (length bytes)
  there : AreThere f at (length bytes)
  is : stored f address bytes ≡ put_at f (places.byte_place f.directory at) bytes

store-put : (f : Reach) → IsReachSound f → (address count : ℕ) (bytes : List ℕ) → 0 < count → length bytes ≡ count
    → answered f.registers (is_in_frame f) (refuses_byte f) (access_to address count true) ≡ Probe.Permitted → StorePut f address count bytes
store-put f sound address count bytes some long permitted =
    let none : (length bytes == 0) ≡ false = ne_eqb (length bytes) 0 (λ same. absurd (omega (arith, some, long, same))) in
    let (at, found) = permitted-located f.registers (is_in_frame f) (refuses_byte f) (access_to address count true) permitted in
    let u = under f.registers address count true at found in
    record {
      at = at;
      found = found;
      lies = subst (Lies f at) (sym long) (lies f sound address count at u);
      there =
          subst (AreThere f at) (sym long)
          (permitted-bytes f sound (access_to address count true) at permitted found);
      is = grind (arith, nat_tests, first-byte f sound address count true at found);
    }

-- an attempt leaves the state as it was, or with some bytes put
module _ (f : Reach) (sound : IsReachSound f) (cpu : Cpu) where
  abbrev Tries : Reach → Type 0
  Tries state = (state ≡ f) ⊎ Put f state

  store-tries : (address count : ℕ) (bytes : List ℕ) (after : Cpu) → 0 < count → length bytes ≡ count
      → Tries
      (unless_refused (seen_of f) cpu (refused_by (access_to address count true) ((seen_of f).answer (access_to address count true)))
      (record { attempt = Attempt.Went; cpu = after; state = stored f address bytes })).state
  store-tries address count bytes after some long = by_answer ((seen_of f).answer (access_to address count true)) refl
    where
      by_answer : (answer : Probe) → (seen_of f).answer (access_to address count true) ≡ answer
          → Tries (unless_refused (seen_of f) cpu (refused_by (access_to address count true) answer) (record { attempt = Attempt.Went; cpu = after; state = stored f address bytes })).state
      by_answer Probe.Permitted is = let put = store-put f sound address count bytes some long is in inr (record { at = put.at; bytes = bytes; lies = put.lies; is = put.is })
      by_answer (Probe.Check code) is = inl refl
      by_answer (Probe.Fault fault) is = inl refl

  plan-tries : (plan : Plan) → StoresAll plan → Tries (tried (seen_of f) cpu plan).state
  plan-tries (Fails code) whole = inl refl
  plan-tries (Does regs cs Act.Nothing next link) whole = inl refl
  plan-tries (Does regs cs (Act.Load address bytes to sign) next link) whole = grind (arith, nat_tests)
  plan-tries (Does regs cs (Act.Store address bytes from) next link) whole = store-tries address bytes (stored_bytes regs bytes from) _ whole.0 whole.1
  plan-tries (Does regs cs (Act.Print byte) next link) whole = grind (arith, nat_tests)
  plan-tries (Does regs cs Act.Commit next link) whole = inl refl
  plan-tries (Does regs cs (Act.Check code) next link) whole = inl refl

  -- so it changes bytes and marks alone, what was clean stays so, and so do the private bytes of other seats
  module _ (plan : Plan) (whole : StoresAll plan) (state : Reach) (is : state ≡ (tried (seen_of f) cpu plan).state) where
    tries : Tries state
    tries = subst Tries (sym is) (plan-tries plan whole)

    pub attempt-changes : ChangesBytes f state
    attempt-changes = grind (arith, nat_tests, tries)

    pub attempt-clean : StaysClean f state
    attempt-clean = grind (arith, nat_tests, tries, put-clean)

    pub attempt-seats : LeavesSeats f state
    attempt-seats = elim tries [
      | inl same ↦ subst (LeavesSeats f) (sym same) (λ seat few other. refl)
      | inr put ↦ subst (LeavesSeats f) (sym put.is) (put-seats f sound put.at put.bytes put.lies)
    ]

module _ (f : Reach) (sound : IsReachSound f) (p : Program) (windows : HasWindows f p) (cpu : Cpu) (committed out : List ℕ) (printed : length out ≡ cpu.printed) where
  abbrev plain : Plain
  plain = plain_over committed cpu f out

  abbrev seen : Seen Reach
  seen = seen_of f

  -- the plain state after it has the bytes of a state of the unit
  abbrev After : Plain → Reach → Type 0
  After n state = Leaves plain n (private_bytes state.pool (seat_selected state)) (bytes_over state.directory state.pool committed)

  -- the access of a plan is permitted
  abbrev IsPermitted : Plan → Type 0
  IsPermitted plan = (access : Access) → access_of_plan plan ≡ Some access → seen.answer access ≡ Probe.Permitted

  seat-few : seat_selected f < 16
  seat-few = let one = selected f sound windows.selected in omega (arith, one.runner, one.few)

  stores-leave : (link : Option (ℕ × ℕ)) (regs : List ℕ) (cs : Cs) (next : ℕ) (at : Virtual) (place : Located) (bytes : List ℕ) (n : Plain)
      → places.byte_place f.directory at ≡ place → Lies f at (length bytes) → AreThere f at (length bytes)
      → with_link link (stores (moved plain regs cs next) place bytes) ≡ On n → After n (put_at f place bytes)
  stores-leave link regs cs next at (Private a) bytes n lies-at inside there is =
      let (few, runner, fits) = private-fits f at (length bytes) a inside lies-at in
      retold (kept link _ plain n refl is) (sym (private-own f sound a bytes (seat_selected f) few fits)) (sym (store-stays f sound a bytes (seat_selected f) few fits committed))
  stores-leave link regs cs next at (Shared a) bytes n lies-at inside there is =
      retold (kept link _ plain n refl is) (sym (private-after f sound a bytes (seat_selected f) seat-few))
      (sym (store-after f sound a bytes (shared-within f at (length bytes) a inside lies-at) committed (λ k below. ap (λ place. is_there f (on place k)) (sym lies-at) ∙ there k below)))
  stores-leave link regs cs next at (Refused code) bytes n lies-at inside there is = absurd (never-refused f.directory at code lies-at)

  store-leaves : (link : Option (ℕ × ℕ)) (regs : List ℕ) (cs : Cs) (next address count : ℕ) (bytes : List ℕ) (n : Plain) → StorePut f address count bytes
      → with_link link (stores (moved plain regs cs next) (located p f.directory address count true) bytes) ≡ On n
      → After n (stored f address bytes)
  store-leaves link regs cs next address count bytes n put is =
      let lies-at : places.byte_place f.directory put.at ≡ located p f.directory address count true =
      sym (ap (place_at f.directory) put.found) ∙ lies-where f p sound.legal windows address count true in
      subst (After n) (sym put.is)
      (stores-leave link regs cs next put.at (places.byte_place f.directory put.at) bytes n refl put.lies put.there
      (ap (λ place. with_link link (stores (moved plain regs cs next) place bytes)) lies-at ∙ is))

  plan-leaves : (plan : Plan) (n : Plain) → StoresAll plan → IsPermitted plan → row_by p f.directory plain plan ≡ On n → After n (stored_by seen plan)
  plan-leaves (Fails code) n whole permitted is = absurd (cc)
  plan-leaves (Does regs cs Act.Nothing next link) n whole permitted is = kept link (moved plain regs cs next) plain n refl is
  plan-leaves (Does regs cs (Act.Load address bytes to sign) next link) n whole permitted is = grind (arith, nat_tests)
  plan-leaves (Does regs cs (Act.Store address bytes from) next link) n whole permitted is =
      store-leaves link regs cs next address bytes (stored_bytes regs bytes from) n
      (store-put f sound address bytes (stored_bytes regs bytes from) whole.0 whole.1 (permitted (access_to address bytes true) refl)) is
  plan-leaves (Does regs cs (Act.Print byte) next link) n whole permitted is = grind (arith, nat_tests, length-append, link-checks)
  plan-leaves (Does regs cs Act.Commit next link) n whole permitted is = absurd (grind (arith, nat_tests))
  plan-leaves (Does regs cs (Act.Check code) next link) n whole permitted is = absurd (link-checks link code n is)

  -- the lines of its store are marked
  or-none : (b : Bool) → b ≡ (b || false)
  or-none b = grind (arith, nat_tests)

  place-marks : (at : Virtual) (place : Located) (bytes : List ℕ) (count : ℕ) → length bytes ≡ count → places.byte_place f.directory at ≡ place → Lies f at (length bytes) → (line : ℕ)
      → is_line_marked (put_at f place bytes).pool line ≡ (is_line_marked f.pool line || has (lines_at f.directory place count) line)
  place-marks at (Private a) bytes count long lies-at inside line = or-none (is_line_marked f.pool line)
  place-marks at (Shared a) bytes count long lies-at inside line = grind (arith, nat_tests, marks-written f sound a bytes (shared-within f at (length bytes) a inside lies-at) line, shared-within f)
  place-marks at (Refused code) bytes count long lies-at inside line = absurd (never-refused f.directory at code lies-at)

  store-marks : (address count : ℕ) (bytes : List ℕ) → length bytes ≡ count → StorePut f address count bytes → (line : ℕ)
      → is_line_marked (stored f address bytes).pool line ≡ (is_line_marked f.pool line || has (lines_at f.directory (located p f.directory address count true) count) line)
  store-marks address count bytes long put line = grind (arith, nat_tests, lies-where, place-marks)

  plan-marks : (plan : Plan) → StoresAll plan → IsPermitted plan → MarksWritten f.pool (stored_by seen plan).pool (option_map_or (lines_of_access p f.directory) (access_of_plan plan) no_lines)
  plan-marks (Fails code) whole permitted line = or-none (is_line_marked f.pool line)
  plan-marks (Does regs cs Act.Nothing next link) whole permitted line = or-none (is_line_marked f.pool line)
  plan-marks (Does regs cs (Act.Load address bytes to sign) next link) whole permitted line = or-none (is_line_marked f.pool line)
  plan-marks (Does regs cs (Act.Store address bytes from) next link) whole permitted line =
      store-marks address bytes (stored_bytes regs bytes from) whole.1
      (store-put f sound address bytes (stored_bytes regs bytes from) whole.0 whole.1 (permitted (access_to address bytes true) refl)) line
  plan-marks (Does regs cs (Act.Print byte) next link) whole permitted line = or-none (is_line_marked f.pool line)
  plan-marks (Does regs cs Act.Commit next link) whole permitted line = or-none (is_line_marked f.pool line)
  plan-marks (Does regs cs (Act.Check code) next link) whole permitted line = or-none (is_line_marked f.pool line)

  -- an access that isn't refused goes on
  link-goes : (link : Option (ℕ × ℕ)) (s : Plain) → (n : Plain) × (with_link link (On s) ≡ On n)
  link-goes None s = (s, refl)
  link-goes (Some link) s = (record s { regs = slice_set s.regs link.0 link.1 }, refl)

  loads-go : (link : Option (ℕ × ℕ)) (s : Plain) (at : Located) (bytes to : ℕ) (sign : Bool) → ((code : ℕ) → at ≡ Refused code → ⊥) → (n : Plain) × (with_link link (loads s at bytes to sign) ≡ On n)
  loads-go link s (Private at) bytes to sign there = link-goes link _
  loads-go link s (Shared at) bytes to sign there = link-goes link _
  loads-go link s (Refused code) bytes to sign there = absurd (there code refl)

  stores-go : (link : Option (ℕ × ℕ)) (s : Plain) (at : Located) (bytes : List ℕ) → ((code : ℕ) → at ≡ Refused code → ⊥) → (n : Plain) × (with_link link (stores s at bytes) ≡ On n)
  stores-go link s (Private at) bytes there = link-goes link _
  stores-go link s (Shared at) bytes there = link-goes link _
  stores-go link s (Refused code) bytes there = absurd (there code refl)

  plan-goes : (plan : Plan) (access : Access) → access_of_plan plan ≡ Some access → ((code : ℕ) → access_place p f.directory access ≡ Refused code → ⊥)
      → (n : Plain) × (row_by p f.directory plain plan ≡ On n)
  plan-goes (Fails code) access is there = absurd (cc)
  plan-goes (Does regs cs Act.Nothing next link) access is there = absurd (cc)
  plan-goes (Does regs cs (Act.Load address bytes to sign) next link) access is there =
      let same : record { address = address; bytes = bytes; store = false } ≡ access = cc in
      loads-go link (moved plain regs cs next) (located p f.directory address bytes false) bytes to sign (λ code refused. there code (ap (access_place p f.directory) (sym same) ∙ refused))
  plan-goes (Does regs cs (Act.Store address bytes from) next link) access is there =
      let same : record { address = address; bytes = bytes; store = true } ≡ access = cc in
      stores-go link (moved plain regs cs next) (located p f.directory address bytes true) (stored_bytes regs bytes from) (λ code refused. there code (ap (access_place p f.directory) (sym same) ∙ refused))
  plan-goes (Does regs cs (Act.Print byte) next link) access is there = absurd (cc)
  plan-goes (Does regs cs Act.Commit next link) access is there = absurd (cc)
  plan-goes (Does regs cs (Act.Check code) next link) access is there = absurd (cc)

  -- the plain state agrees with processor and unit
  private-long : length (private_bytes f.pool (seat_selected f)) ≡ 16384
  private-long = range-long f.pool.bytes (seat_selected f * 16384) 16384 (omega (arith, seat-few, all-private f sound))

  private-all : private_bytes f.pool (seat_selected f) ≡ bytes_from (byte_at f) 0 16384
  private-all =
      same_number_lists (private_bytes f.pool (seat_selected f)) (bytes_from (byte_at f) 0 16384) (private-long ∙ sym (length-map-range_with_len (byte_at f) 0 16384))
      (λ k below.
      let short : k < 16384 = omega (arith, below, private-long) in
      grind (arith, nat_tests, selected, in-range, private-at, own-located) ∙ sym (get_or-map-range_with_len (byte_at f) 0 16384 k k 0 short (omega arith)))

  -- a part that is shown from an address on
  same-shown : (xs : List ℕ) (address a n : ℕ) → a + n ≤ length xs → ((k : ℕ) → k < n → byte_at f (address + k) ≡ slice_index xs (a + k))
      → slice_range xs a (a + n) ≡ bytes_from (byte_at f) address n
  same-shown xs address a n fits same = grind (arith, nat_tests, same_number_lists, range-long, length-map-range_with_len, in-range, get_or-map-range_with_len)

  shown-place : (access : Access) (place : Located) → access_place p f.directory access ≡ place → seen.answer access ≡ Probe.Permitted
      → bytes_in plain place access.bytes ≡ bytes_from (byte_at f) access.address access.bytes
  shown-place access place is permitted = by_place place at (sym (ap (place_at f.directory) found) ∙ lies-where f p sound.legal windows access.address access.bytes access.store ∙ is) found
    where
      at : Virtual
      at = (permitted-located f.registers (is_in_frame f) (refuses_byte f) access permitted).0

      found : located_by f.registers access.address access.bytes access.store ≡ Ok at
      found = (permitted-located f.registers (is_in_frame f) (refuses_byte f) access permitted).1

      by_place : (place : Located) (at : Virtual) → places.byte_place f.directory at ≡ place → located_by f.registers access.address access.bytes access.store ≡ Ok at
          → bytes_in plain place access.bytes ≡ bytes_from (byte_at f) access.address access.bytes
      by_place (Private a) at lies-at found =
          let u = under f.registers access.address access.bytes access.store at found in
          let (few, runner, fits) = private-fits f at access.bytes a (lies f sound access.address access.bytes at u) lies-at in
          grind (
            arith,
            nat_tests,
            same-shown (private_bytes f.pool (seat_selected f)) access.address a access.bytes (omega (arith, fits, private-long)) (λ k below. byte-on f sound access.address access.bytes at u k below ∙ ap (λ place. byte_of f (on place k)) lies-at ∙ sym (in-range f.pool.bytes (seat_selected f * 16384) 16384 (a + k) (omega (arith, below, fits)))),
          )
      by_place (Shared a) at lies-at found =
          let u = under f.registers access.address access.bytes access.store at found in
          let fits = shared-within f at access.bytes a (lies f sound access.address access.bytes at u) lies-at in
          let there = permitted-bytes f sound access at permitted found in
          same-shown (bytes_over f.directory f.pool committed) access.address a access.bytes (omega (arith, fits, all-long f.directory f.pool committed))
          (λ k below.
          let (frame, has_it) = there-frame f sound (a + k) (sym (ap (λ place. is_there f (on place k)) lies-at) ∙ there k below) in
          grind (arith, nat_tests, byte-on f sound access.address access.bytes at u k below, over-some f.directory f.pool committed (a + k) frame has_it, byte-of-all f.directory f.pool committed (a + k) (omega (arith, below, fits))))
      by_place (Refused code) at lies-at found = absurd (never-refused f.directory at code lies-at)

  checks : (access : Access) → ChecksAlike (seen.answer access) (access_place p f.directory access)
  checks access = grind (arith, nat_tests, checks-alike (is_in_frame f) (refuses_byte f) access p f.directory (private_segment (seat_selected f)))

  agrees : Agrees p f.directory plain cpu seen
  agrees = record {
    same_cpu = record { regs = refl; cs = refl; iar = refl; printed = printed };
    private_shown = private-all;
    same_checks = checks;
    same_bytes = λ access is permitted. shown-place access (access_place p f.directory access) refl permitted;
  }

  -- the next state is that of processor and unit
  next-is : (n : Plain) (cpu' : Cpu) (state : Reach) (out' : List ℕ) (plan : Plan) → IsCpuOf n cpu' → After n (stored_by seen plan)
      → state ≡ stored_by seen plan → n.out ≡ out' → n ≡ plain_over committed cpu' state out'
  next-is n cpu' state out' plan same leaves is printed' = grind (arith, nat_tests)

  -- what is known where the row goes on
  record Goes : Type 0 where
    touches : touched p f.directory plain ≡ option_map_or (lines_of_access p f.directory) (access_of_plan (plan_at plain)) no_lines
    open_lines : IsOpen f (touched p f.directory plain)
    permitted : IsPermitted (plan_at plain)

  goes-open : (n : Plain) (cpu' : Cpu) (state : Reach) (out' : List ℕ) → StoresAll (plan_at plain) → length out ≤ 4096 → row p f.directory plain ≡ On n → Goes
      → IsCpuOf n cpu' → n.out ≡ out' → state ≡ stored_by seen (plan_at plain) → GoesOpen p f state plain (plain_over committed cpu' state out') cpu'
  goes-open n cpu' state out' whole few is goes same printed' left =
      let leaves : After n (stored_by seen (plan_at plain)) = plan-leaves (plan_at plain) n whole goes.permitted is in
      let next = next-is n cpu' state out' (plan_at plain) same leaves left printed' in
      record {
        goes = is ∙ ap On next;
        printed = sym (ap (λ (x : Plain). length x.out) next) ∙ same.printed;
        few = omega (arith, leaves.few few, ap (λ (x : Plain). length x.out) next);
        open_lines = goes.open_lines;
        marks = λ line. cc (plan-marks (plan_at plain) whole goes.permitted line, goes.touches);
      }

  -- an attempt that gives the row of its plan
  gives : (outcome : Outcome) (attempt : Attempt) (cpu' : Cpu) (state : Reach) → StoresAll (plan_at plain) → length out ≤ 4096
      → row p f.directory plain ≡ outcome
      → ((n : Plain) → outcome ≡ On n → Goes)
      → GivesRow outcome plain attempt cpu cpu' → state ≡ state_after seen (plan_at plain) outcome
      → IsRow p committed out attempt cpu cpu' f state
  gives (On n) Attempt.Went cpu' state whole few is goes (same, printed') left = goes-open n cpu' state out whole few is (goes n refl) same printed' left
  gives (On n) (Attempt.Print byte) cpu' state whole few is goes (same, printed') left = goes-open n cpu' state (out ++ byte ∷ []) whole few is (goes n refl) same printed' left
  gives Commit Attempt.Commit cpu' state whole few is goes same left = (is, (same, left))
  gives (Check code) (Attempt.Check other) cpu' state whole few is goes (code-is, same) left = (is ∙ ap Check (sym code-is), (same, left))
  gives _ _ cpu' state whole few is goes given left = absurd given

  nothing-open : (lines : Lines) → lines ≡ no_lines → IsOpen f lines
  nothing-open lines none = subst (IsOpen f) (sym none) (record { reads = λ line inside. absurd (cc); writes = λ line inside. absurd (cc) })

  -- what an attempt came to is the row
  module _ (result : Tried Reach) (told : StoresAll (plan (halfword_of (byte_at f)) cpu.regs cpu.cs cpu.iar)) (every : GivesEveryRow cpu seen result) where
    whole : StoresAll (plan_at plain)
    whole = subst StoresAll (plan-same (byte_at f) plain cpu agrees.same_cpu agrees.private_shown) told

    given : GivesPlan p f.directory plain (plan_at plain) cpu seen result
    given = every p f.directory plain agrees

    pub attempt-is : length out ≤ 4096 → IsRow p committed out result.attempt cpu result.cpu f result.state
    attempt-is few = by_access (access_of_plan (plan_at plain)) refl given.gives
      where
        Is : Type 0
        Is = IsRow p committed out result.attempt cpu result.cpu f result.state

        of_all : ((n : Plain) → row p f.directory plain ≡ On n → Goes)
            → GivesAll (row p f.directory plain) (plan_at plain) plain cpu seen result → Is
        of_all goes all = gives (row p f.directory plain) result.attempt result.cpu result.state whole few refl goes all.0 all.1

        touches : (access : Option Access) → access_of_plan (plan_at plain) ≡ access → (n : Plain) → row p f.directory plain ≡ On n
            → touched p f.directory plain ≡ option_map_or (lines_of_access p f.directory) access no_lines
        touches access is n goes = given.touches n goes ∙ ap (λ (a : Option Access). option_map_or (lines_of_access p f.directory) a no_lines) is

        one-access : (a b : Access) → Some a ≡ Some b → a ≡ b
        one-access a b same = cc

        not-on : (code : ℕ) (n : Plain) → row p f.directory plain ≡ Check code → row p f.directory plain ≡ On n → Goes
        not-on code n checks goes = absurd (apart (sym checks ∙ goes))
          where
            apart : Check code ≡ On n → ⊥
            apart same = cc

        somewhere : (access : Access) (fault : Fault) → seen.answer access ≡ Probe.Fault fault → (code : ℕ) → access_place p f.directory access ≡ Refused code → ⊥
        somewhere access fault answer code refused =
            subst (λ (place : Located). ChecksAlike (Probe.Fault fault) place) refused (subst (λ (a : Probe). ChecksAlike a (access_place p f.directory access)) answer (checks access))

        shut-out : (access : Access) (fault : Fault) → access_of_plan (plan_at plain) ≡ Some access → seen.answer access ≡ Probe.Fault fault → IsShutOut p f plain access
        shut-out access fault is answer =
            let (n, goes) = plan-goes (plan_at plain) access is (somewhere access fault answer) in
            let lines = touches (Some access) is n goes in
            record {
              next = n;
              goes = goes;
              touches = lines;
              shut = λ opens. denied (located_by f.registers access.address access.bytes access.store) refl (subst (IsOpen f) lines opens);
            }
          where
            denied : (found : Result Virtual Wrong) → located_by f.registers access.address access.bytes access.store ≡ found → IsOpen f (lines_of_access p f.directory access) → ⊥
            denied (Ok at) found opens = differ (sym (open-permitted f sound p windows access at found opens) ∙ answer)
              where
                differ : Probe.Permitted ≡ Probe.Fault fault → ⊥
                differ same = cc
            denied (Err check) found opens =
                somewhere access fault answer check.0
                (sym (lies-where f p sound.legal windows access.address access.bytes access.store) ∙ ap (place_at f.directory) found)

        by_answer : (answer : Probe) (access : Access) → access_of_plan (plan_at plain) ≡ Some access → seen.answer access ≡ answer
            → GivesBy answer access (row p f.directory plain) (plan_at plain) plain cpu seen result → Is
        by_answer Probe.Permitted access is answer all =
            of_all
            (λ n goes. record {
              touches = given.touches n goes;
              open_lines = subst (IsOpen f) (sym (touches (Some access) is n goes)) (permitted-open f sound p windows access answer);
              permitted = λ other same. let one : other ≡ access = one-access other access (sym same ∙ is) in ap seen.answer one ∙ answer;
            }) all
        by_answer (Probe.Check code) access is answer (checks, all) = of_all (λ n goes. not-on code n checks goes) all
        by_answer (Probe.Fault fault) access is answer (attempt, same, left) =
            subst (λ (a : Attempt). IsRow p committed out a cpu result.cpu f result.state) (sym attempt) (shut-out access fault is answer, (same, left))

        by_access : (access : Option Access) → access_of_plan (plan_at plain) ≡ access → GivesOver access (row p f.directory plain) (plan_at plain) plain cpu seen result → Is
        by_access None is all = of_all
            (λ n goes. record {
              touches = given.touches n goes;
              open_lines = nothing-open (touched p f.directory plain) (touches None is n goes);
              permitted = λ other same. absurd (let clash : None ≡ Some other = sym is ∙ same in cc);
            }) all
        by_access (Some access) is all = by_answer (seen.answer access) access is refl all
