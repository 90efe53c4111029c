use Rattle.storage_unit.proofs.Lemmas.{◌≡◌, ℕ, Bool, sym, ◌∙◌, ap, Option, Some, None, range_with_len, Virtual, bytes_on, Access, Fault, Probe, unless_refused_at, unless_absent_at, answered_at, Reach, byte_place, on, is_there, is_kept_from, is_in_frame, refuses_byte, reach_of, nat_tests, arith, find, not, option_map, Ok, answered-by, none-of}
use Rattle.storage_unit.proofs.unit.Unit.answer.Goals as goal

module _ (state : Reach) (first : Virtual) (bytes : ℕ) (store : Bool) where
  abbrev absent : Option ℕ
  absent = find (λ past. not (is_there state (on (byte_place state.directory first) past))) (range_with_len 0 bytes)

  abbrev refused : Option ℕ
  refused = find (λ past. is_kept_from state (on (byte_place state.directory first) past) store) (range_with_len 0 bytes)

  by : (access : Access) → access.bytes ≡ bytes → access.store ≡ store
      → unless_absent_at (option_map (bytes_on state.directory.page first) absent) (option_map (bytes_on state.directory.page first) refused) ≡ answered_at state.directory.page (is_in_frame state) (refuses_byte state) access (Ok first)
  by access same stores =
      ap (λ b. unless_absent_at (option_map (bytes_on state.directory.page first) absent) (option_map (bytes_on state.directory.page first) (find (λ past. is_kept_from state (on (byte_place state.directory first) past) b) (range_with_len 0 bytes)))) (sym stores)
      ∙ sym (answered-by state first bytes access same)

  page : (past : ℕ) (at : Virtual) → absent ≡ Some past → at ≡ bytes_on state.directory.page first past → (access : Access) → access.bytes ≡ bytes → access.store ≡ store
      → Probe.Fault (Fault.Page at) ≡ answered_at state.directory.page (is_in_frame state) (refuses_byte state) access (Ok first)
  page past at is named access same stores = grind (arith, nat_tests, by)

  rest : (o : Option ℕ) → absent ≡ None → refused ≡ o → (access : Access) → access.bytes ≡ bytes → access.store ≡ store
      → unless_refused_at (option_map (bytes_on state.directory.page first) o) ≡ answered_at state.directory.page (is_in_frame state) (refuses_byte state) access (Ok first)
  rest o none is access same stores = grind (arith, nat_tests, by)

pub returns-in-Some-clause-answer : goal.returns-in-Some-clause-answer
returns-in-Some-clause-answer c = λ access same stores.
    page (reach_of c.args.self.now) c.args.first c.args.bytes c.args.store c.in-Some.past c.past.result (sym c.first_absent.ensures.value ∙ c.in-Some.is)
    (c.past.ensures ∙ ap (λ (s : Reach). bytes_on s.directory.page c.args.first c.in-Some.past) c.first_absent.ensures.state) access same stores

refused-is : (state now : Reach) (first : Virtual) (bytes : ℕ) (store : Bool) (o result : Option ℕ) → now ≡ state
    → result ≡ find (λ past. is_kept_from now (on (byte_place now.directory first) past) store) (range_with_len 0 bytes) → result ≡ o
    → find (λ past. is_kept_from state (on (byte_place state.directory first) past) store) (range_with_len 0 bytes) ≡ o
refused-is state now first bytes store o result same is was =
    ap (λ (s : Reach). find (λ past. is_kept_from s (on (byte_place s.directory first) past) store) (range_with_len 0 bytes)) (sym same) ∙ sym is ∙ was

pub returns-in-Some-first_refused-clause-answer : goal.returns-in-Some-first_refused-clause-answer
returns-in-Some-first_refused-clause-answer c = λ access same stores.
    let state = reach_of c.args.self.now in
    ap (λ (v : Virtual). Probe.Fault (Fault.Lock v)) (c.past-in-Some-first_refused.ensures ∙ ap (λ (s : Reach). bytes_on s.directory.page c.args.first c.in-Some-first_refused.past) c.first_absent.ensures.state)
    ∙ rest state c.args.first c.args.bytes c.args.store (Some c.in-Some-first_refused.past) (sym c.first_absent.ensures.value ∙ none-of c.first_absent.result c.in_default.not-Some)
    (refused-is state (reach_of c.first_absent.new.self) c.args.first c.args.bytes c.args.store (Some c.in-Some-first_refused.past) c.first_refused.result c.first_absent.ensures.state c.first_refused.ensures c.in-Some-first_refused.is)
    access same stores

pub returns-in-None-clause-answer : goal.returns-in-None-clause-answer
returns-in-None-clause-answer c = λ access same stores.
    let state = reach_of c.args.self.now in
    rest state c.args.first c.args.bytes c.args.store None (sym c.first_absent.ensures.value ∙ none-of c.first_absent.result c.in_default.not-Some)
    (refused-is state (reach_of c.first_absent.new.self) c.args.first c.args.bytes c.args.store None c.first_refused.result c.first_absent.ensures.state c.first_refused.ensures c.in-None.is)
    access same stores

pub first_refused-requires : goal.first_refused-requires
first_refused-requires c = grind (arith, nat_tests)
