-- An attempt gives the row of every plain state that agrees, by the kinds of act.
use Rattle.romp_cpu.proofs.Common.{option_map_or, arith, ap, sym, ◌∙◌, subst, leb-true, get_or-drop, length-append, get_or-map-range_with_len, length-map-range_with_len, big_number, overlaid, Layout, Act, Cs, Private, Shared, Refused, Plan, Does, Fails, Program, Attempt, Cpu, Access, Probe, bytes_from, halfword_of, access_to, Seen, seen_in, link_set, undone, refused_by, unless_refused, tried, access_of, access_of_plan, access_place, bytes_in, ChecksAlike, ShowsSame, IsCpuOf, stored_by, GivesAll, GivesBy, GivesOver, lines_of_access, TouchesAccess, GivesPlan, GivesEveryRow, nat_tests, ◌≡◌, refl, ℕ, ◌+◌, nat_le, nat_lt, cond, Bool, true, false, List, [], ◌∷◌, ◌++◌, length, slice_range, Option, Some, None}
use mathlib.Core.Path.{fun_ext}
use Rattle.lines.specs.Conflicts.{no_lines}
use Rattle.flat_machine.specs.declared.machine.Located.{Located}
use Rattle.flat_machine.specs.declared.machine.Plain.{Plain}
use Rattle.flat_machine.specs.Effect.{filled}
use Rattle.flat_machine.specs.Row.{Outcome, On, Check, halfword, plan, plan_at, located, loads, stores, stored_bytes, moved, acts, with_link, row_by}
use Rattle.flat_machine.specs.Touched.{lines_of_act, touched_by}

-- a halfword of the private bytes that are shown is the halfword shown
halfword-shown :
    (f : ℕ → ℕ) (n a : ℕ) → halfword (bytes_from f 0 n) a ≡ cond (nat_le (a + 2) n) (Some (big_number 2 (bytes_from f a 2))) None
halfword-shown f n a = grind (arith, nat_tests, length-map-range_with_len, leb-true, get_or-drop, get_or-map-range_with_len)

-- so the plan is the same
pub plan-same :
    (f : ℕ → ℕ) (plain : Plain) (cpu : Cpu) → IsCpuOf plain cpu → plain.private ≡ bytes_from f 0 16384
    → plan (halfword_of f) cpu.regs cpu.cs cpu.iar ≡ plan_at plain
plan-same f plain cpu same shown =
    let halves : halfword plain.private ≡ halfword_of f = fun_ext (λ a. ap (λ bytes. halfword bytes a) shown ∙ halfword-shown f 16384 a) in
    ap (λ h. plan h cpu.regs cpu.cs cpu.iar) (sym halves)
    ∙ ap (λ r. plan (halfword plain.private) r cpu.cs cpu.iar) (sym same.regs)
    ∙ ap (λ cs. plan (halfword plain.private) plain.regs cs cpu.iar) (sym same.cs)
    ∙ ap (plan (halfword plain.private) plain.regs plain.cs) (sym same.iar)

-- a row that goes on touches the lines of its access
lines-act : (p : Program) (d : Layout) (act : Act) → lines_of_act p d act ≡ option_map_or (lines_of_access p d) (access_of act) no_lines
lines-act p d (Act.Load address bytes to sign) = refl
lines-act p d (Act.Store address bytes from) = refl
lines-act p d Act.Nothing = refl
lines-act p d (Act.Print byte) = refl
lines-act p d Act.Commit = refl
lines-act p d (Act.Check code) = refl

lines-plan :
    (p : Program) (d : Layout) (next : Plain) (plan : Plan)
    → touched_by p d (On next) plan ≡ option_map_or (lines_of_access p d) (access_of_plan plan) no_lines
lines-plan p d next (Does regs cs act address link) = lines-act p d act
lines-plan p d next (Fails code) = refl

touches-plan : (p : Program) (d : Layout) (outcome : Outcome) (plan : Plan) → TouchesAccess p d outcome plan
touches-plan p d outcome plan next went = ap (λ (o : Outcome). touched_by p d o plan) went ∙ lines-plan p d next plan

module _ {S : Type 0} (plain : Plain) (cpu : Cpu) (seen : Seen S) (same : IsCpuOf plain cpu) where
  -- a state that is gone on to
  on-gives :
      (link : Option (ℕ × ℕ)) (s : Plain) (plan : Plan) (state : S) → s.out ≡ plain.out → state ≡ stored_by seen plan
      → GivesAll (with_link link (On s)) plan plain cpu seen (record {
        attempt = Attempt.Went;
        cpu = record { regs = link_set link s.regs; cs = s.cs; iar = s.iar; printed = cpu.printed };
        state = state;
      })
  on-gives None s plan state out left =
      ((record { regs = refl; cs = refl; iar = refl; printed = ap length out ∙ same.printed }, out), left)
  on-gives (Some link) s plan state out left = ((record { regs = refl; cs = refl; iar = refl; printed = ap length out ∙ same.printed }, out), left)

  -- a check, also of a row with a link
  check-linked : (link : Option (ℕ × ℕ)) (code : ℕ) → with_link link (Check code) ≡ Check code
  check-linked None code = refl
  check-linked (Some link) code = refl

  check-gives :
      (outcome : Outcome) (plan : Plan) (code : ℕ) → outcome ≡ Check code
      → GivesAll outcome plan plain cpu seen (undone seen cpu (Attempt.Check code))
  check-gives outcome plan code is =
      subst (λ (o : Outcome). GivesAll o plan plain cpu seen (undone seen cpu (Attempt.Check code))) (sym is) ((refl, refl), refl)

  -- a load of bytes that are shown
  loaded-gives :
      (link : Option (ℕ × ℕ)) (regs : List ℕ) (cs : Cs) (next address bytes to : ℕ) (sign : Bool) (part : List ℕ)
      → part ≡ seen.shown address bytes
      → GivesAll (with_link link (On (record (moved plain regs cs next) { regs = filled to sign part regs })))
      (Does regs cs (Act.Load address bytes to sign) next link) plain cpu seen (record {
        attempt = Attempt.Went;
        cpu = record { regs = link_set link (filled to sign (seen.shown address bytes) regs); cs = cs; iar = next; printed = cpu.printed };
        state = seen.state;
      })
  loaded-gives link regs cs next address bytes to sign part shown = grind (arith, nat_tests)

  -- a load by the answer of its access
  load-gives :
      (link : Option (ℕ × ℕ)) (regs : List ℕ) (cs : Cs) (next address bytes to : ℕ) (sign : Bool) (probe : Probe) (at : Located)
      → ChecksAlike probe at → (probe ≡ Probe.Permitted → bytes_in plain at bytes ≡ seen.shown address bytes)
      → GivesBy probe (access_to address bytes false) (with_link link (loads (moved plain regs cs next) at bytes to sign))
      (Does regs cs (Act.Load address bytes to sign) next link) plain cpu seen
      (unless_refused seen cpu (refused_by (access_to address bytes false) probe) (record {
        attempt = Attempt.Went;
        cpu = record { regs = link_set link (filled to sign (seen.shown address bytes) regs); cs = cs; iar = next; printed = cpu.printed };
        state = seen.state;
      }))
  load-gives link regs cs next address bytes to sign Probe.Permitted (Private at) alike shown =
      loaded-gives link regs cs next address bytes to sign (slice_range plain.private at (at + bytes)) (shown refl)
  load-gives link regs cs next address bytes to sign Probe.Permitted (Shared at) alike shown =
      loaded-gives link regs cs next address bytes to sign (slice_range plain.store at (at + bytes)) (shown refl)
  load-gives link regs cs next address bytes to sign Probe.Permitted (Refused code) alike shown = absurd alike
  load-gives link regs cs next address bytes to sign (Probe.Check code) (Refused other) alike shown = grind (arith, nat_tests, check-linked link other)
  load-gives link regs cs next address bytes to sign (Probe.Check code) (Private at) alike shown = absurd alike
  load-gives link regs cs next address bytes to sign (Probe.Check code) (Shared at) alike shown = absurd alike
  load-gives link regs cs next address bytes to sign (Probe.Fault fault) at alike shown = (refl, refl, refl)

  -- a store by the answer of its access
  store-gives :
      (link : Option (ℕ × ℕ)) (regs : List ℕ) (cs : Cs) (next address bytes from : ℕ) (probe : Probe) (at : Located)
      → ChecksAlike probe at
      → GivesBy probe (access_to address bytes true) (with_link link (stores (moved plain regs cs next) at (stored_bytes regs bytes from)))
      (Does regs cs (Act.Store address bytes from) next link) plain cpu seen
      (unless_refused seen cpu (refused_by (access_to address bytes true) probe) (record {
        attempt = Attempt.Went;
        cpu = record { regs = link_set link regs; cs = cs; iar = next; printed = cpu.printed };
        state = seen.stored address (stored_bytes regs bytes from);
      }))
  store-gives link regs cs next address bytes from Probe.Permitted (Private at) alike =
      on-gives link (record (moved plain regs cs next) { private = overlaid plain.private at (stored_bytes regs bytes from) })
      (Does regs cs (Act.Store address bytes from) next link) (seen.stored address (stored_bytes regs bytes from)) refl refl
  store-gives link regs cs next address bytes from Probe.Permitted (Shared at) alike =
      on-gives link (record (moved plain regs cs next) { store = overlaid plain.store at (stored_bytes regs bytes from) })
      (Does regs cs (Act.Store address bytes from) next link) (seen.stored address (stored_bytes regs bytes from)) refl refl
  store-gives link regs cs next address bytes from Probe.Permitted (Refused code) alike = absurd alike
  store-gives link regs cs next address bytes from (Probe.Check code) (Refused other) alike = grind (arith, nat_tests, check-linked link other)
  store-gives link regs cs next address bytes from (Probe.Check code) (Private at) alike = absurd alike
  store-gives link regs cs next address bytes from (Probe.Check code) (Shared at) alike = absurd alike
  store-gives link regs cs next address bytes from (Probe.Fault fault) at alike = (refl, refl, refl)

  -- a print, by whether there is room
  print-gives :
      (link : Option (ℕ × ℕ)) (regs : List ℕ) (cs : Cs) (next byte : ℕ) (room : Bool)
      → GivesAll (with_link link (cond room (On (record (moved plain regs cs next) { out = plain.out ++ byte ∷ [] })) (Check 5)))
      (Does regs cs (Act.Print byte) next link) plain cpu seen
      (cond room (record {
        attempt = Attempt.Print byte;
        cpu = record { regs = link_set link regs; cs = cs; iar = next; printed = cpu.printed + 1 };
        state = seen.state;
      }) (undone seen cpu (Attempt.Check 5)))
  print-gives link regs cs next byte false = check-gives (with_link link (Check 5)) (Does regs cs (Act.Print byte) next link) 5 (check-linked link 5)
  print-gives None regs cs next byte true =
      ((record { regs = refl; cs = refl; iar = refl; printed = length-append plain.out (byte ∷ []) ∙ ap (λ n. n + 1) same.printed }, refl), refl)
  print-gives (Some link) regs cs next byte true =
      ((record { regs = refl; cs = refl; iar = refl; printed = length-append plain.out (byte ∷ []) ∙ ap (λ n. n + 1) same.printed }, refl), refl)

  module _ (p : Program) (d : Layout) (alike : (access : Access) → ChecksAlike (seen.answer access) (access_place p d access)) where
    -- each kind of act
    act-gives :
        (act : Act) (regs : List ℕ) (cs : Cs) (next : ℕ) (link : Option (ℕ × ℕ))
        → ((access : Access) → access_of act ≡ Some access → ShowsSame p d plain seen access)
        → GivesOver (access_of act) (with_link link (acts p d (moved plain regs cs next) act)) (Does regs cs act next link) plain cpu seen
        (tried seen cpu (Does regs cs act next link))
    act-gives Act.Nothing regs cs next link shown = on-gives link (moved plain regs cs next) (Does regs cs Act.Nothing next link) seen.state refl refl
    act-gives (Act.Load address bytes to sign) regs cs next link shown =
        load-gives link regs cs next address bytes to sign (seen.answer (access_to address bytes false)) (located p d address bytes false)
        (alike (access_to address bytes false)) (shown (access_to address bytes false) refl)
    act-gives (Act.Store address bytes from) regs cs next link shown = grind (arith, nat_tests, store-gives)
    act-gives (Act.Print byte) regs cs next link shown = grind (arith, nat_tests, print-gives link regs cs next byte (nat_lt cpu.printed 4096))
    act-gives Act.Commit regs cs next None shown = (refl, refl)
    act-gives Act.Commit regs cs next (Some link) shown = (refl, refl)
    act-gives (Act.Check code) regs cs next link shown = check-gives (with_link link (Check code)) (Does regs cs (Act.Check code) next link) code (check-linked link code)

    plan-gives :
        (plan : Plan) → ((access : Access) → access_of_plan plan ≡ Some access → ShowsSame p d plain seen access)
        → GivesPlan p d plain plan cpu seen (tried seen cpu plan)
    plan-gives (Does regs cs act next link) shown =
        record { gives = act-gives act regs cs next link shown; touches = touches-plan p d (row_by p d plain (Does regs cs act next link)) (Does regs cs act next link) }
    plan-gives (Fails code) shown = record { gives = ((refl, refl), refl); touches = touches-plan p d (Check code) (Fails code) }

-- an attempt gives the row of every plain state that agrees
pub attempt-row :
    {S : Type 0} (byte_at : S → ℕ → ℕ) (answer : S → Access → Probe) (stored : S → ℕ → List ℕ → S) (state : S) (cpu : Cpu)
    → GivesEveryRow cpu (seen_in byte_at answer stored state)
    (tried (seen_in byte_at answer stored state) cpu (plan (halfword_of (byte_at state)) cpu.regs cpu.cs cpu.iar))
attempt-row byte_at answer stored state cpu p d plain agrees =
    let seen = seen_in byte_at answer stored state in
    subst
    (λ (plan : Plan). GivesPlan p d plain (plan_at plain) cpu seen (tried seen cpu plan))
    (sym (plan-same (byte_at state) plain cpu agrees.same_cpu agrees.private_shown))
    (plan-gives plain cpu seen agrees.same_cpu p d agrees.same_checks (plan_at plain) agrees.same_bytes)
