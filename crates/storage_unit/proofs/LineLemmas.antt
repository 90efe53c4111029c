-- The answer to an access whose bytes lie in one page and two lines at most, by the first byte of each.
use Rattle.storage_unit.proofs.Common.{◌≡◌, ℕ, ◌+◌, ◌%◌, ◌<◌, ◌≤◌, Bool, true, false, sym, ◌∙◌, ap, arith, Option, Some, None, Ok, inl, inr, not, find, option_map, is_some, cases_lt, range_with_len, page_bytes, line_bytes, start_of, page_of, line_of, Virtual, bytes_on, key_of, look_up, page_at, Access, Fault, Probe, unless_absent_at, answered_at, Reach, is_private, offset_of, byte_place, on, table_of, is_there, is_kept_from, is_refused, is_in_frame, refuses_byte, IsReachSound, Lies, nat_tests}
use Rattle.storage_unit.proofs.SizeLemmas.{same-line-on, next-line, line-rest}
use Rattle.storage_unit.proofs.FindLemmas.{none-found, first-found}
use Rattle.storage_unit.proofs.PlaceLemmas.{shared-is, place-byte, finds-shared, private-is}
use Rattle.storage_unit.proofs.ProbeLemmas.{absent-first, none-absent}
use Rattle.storage_unit.proofs.AnswerLemmas.{answered-by}

-- a byte of a page is none further on
pub here-is : (state : Reach) (at : Virtual) → at.byte < page_bytes state.directory.page → bytes_on state.directory.page at 0 ≡ at
here-is state at within = grind (arith, nat_tests)

-- some bytes that lie there begin with one that does
pub lies-one : (state : Reach) (at : Virtual) (n : ℕ) → 0 < n → Lies state at n → Lies state at 1
lies-one state at n some lies = grind (arith, nat_tests)

module _ (state : Reach) (sound : IsReachSound state) (first : Virtual) (n : ℕ) (some : 0 < n) (few : n ≤ 255) (lies : Lies state first n) where
  module _ (store : Bool) (access : Access) (bytes : access.bytes ≡ n) (same : access.store ≡ store) where
    abbrev there : Option ℕ → Option ℕ → Probe
    there absent refused = unless_absent_at (option_map (bytes_on state.directory.page first) absent) (option_map (bytes_on state.directory.page first) refused)

    abbrev absent : Option ℕ
    absent = find (λ past. not (is_there state (on (byte_place state.directory first) past))) (range_with_len 0 n)

    abbrev refused : Option ℕ
    refused = find (λ past. is_kept_from state (on (byte_place state.directory first) past) store) (range_with_len 0 n)

    answered : there absent refused ≡ answered_at state.directory.page (is_in_frame state) (refuses_byte state) access (Ok first)
    answered =
        ap (λ b. there absent (find (λ past. is_kept_from state (on (byte_place state.directory first) past) b) (range_with_len 0 n))) (sym same)
        ∙ sym (answered-by state first n access bytes)

    -- its page is in no frame
    pub page-fault : look_up (table_of state).keys (key_of first) ≡ None → Probe.Fault (Fault.Page first) ≡ answered_at state.directory.page (is_in_frame state) (refuses_byte state) access (Ok first)
    page-fault none = grind (arith, nat_tests, here-is, absent-first, answered)

    abbrev kept : ℕ → Bool
    kept k = is_kept_from state (on (byte_place state.directory first) k) store

    abbrev place : ℕ
    place = start_of state.directory first.segment + offset_of state.directory.page first

    own-kept : is_private first.segment ≡ true → (k : ℕ) → kept k ≡ false
    own-kept own k = ap (λ p. is_kept_from state (on p k) store) (private-is state.directory first own)

    shared-kept : is_private first.segment ≡ false → (k : ℕ) → kept k ≡ is_refused state (line_of state.directory (place + k)) store
    shared-kept own k = ap (λ p. is_kept_from state (on p k) store) (shared-is state.directory first own)

    in-line : place % line_bytes state.directory.page ≡ first.byte % line_bytes state.directory.page
    in-line = line-rest state.directory.page place first.byte (place-byte state sound first n some lies)

    -- bytes of the first line are refused alike, and those of the second
    near : (k : ℕ) → first.byte % line_bytes state.directory.page + k < line_bytes state.directory.page → kept k ≡ kept 0
    near k inside =
        grind (arith, nat_tests, own-kept, shared-kept, same-line-on state.directory.page place k (omega (arith, in-line, inside)), same-line-on state.directory.page place 0 (omega (arith, in-line, inside)))

    far : (rest k : ℕ) → rest + first.byte % line_bytes state.directory.page ≡ line_bytes state.directory.page → rest ≤ k → k < 64 → kept k ≡ kept rest
    far rest k are past short = grind (arith, nat_tests, own-kept, shared-kept, next-line state.directory.page place rest k (omega (arith, in-line, are)) past short)

    module _ (frame : ℕ) (is : look_up (table_of state).keys (key_of first) ≡ Some frame) (within : first.byte + n ≤ page_bytes state.directory.page) where
      -- a byte is refused, and none before it
      kept-fault : (k : ℕ) → k < n → kept k ≡ true → ((j : ℕ) → j < k → kept j ≡ false) → Probe.Fault (Fault.Lock (bytes_on state.directory.page first k)) ≡ answered_at state.directory.page (is_in_frame state) (refuses_byte state) access (Ok first)
      kept-fault k below refused-here free =
          ap (λ (o : Option ℕ). there None o) (sym (first-found kept 0 n k (omega arith) (omega (arith, below)) (λ j above less. free j less) refused-here))
          ∙ ap (λ (o : Option ℕ). there o refused) (none-absent state sound first n some few lies (ap (λ (o : Option ℕ). not (is_some o)) is) within)
          ∙ answered

      pub lock-fault : kept 0 ≡ true → Probe.Fault (Fault.Lock first) ≡ answered_at state.directory.page (is_in_frame state) (refuses_byte state) access (Ok first)
      lock-fault one = cc (here-is state first lies.within, kept-fault 0 some one (λ j less. absurd (omega (arith, less))))

      -- no byte is
      pub permitted : ((k : ℕ) → k < n → kept k ≡ false) → Probe.Permitted ≡ answered_at state.directory.page (is_in_frame state) (refuses_byte state) access (Ok first)
      permitted free = grind (arith, nat_tests, none-found, none-absent, answered)

      pub line-permitted : first.byte % line_bytes state.directory.page + n ≤ line_bytes state.directory.page → kept 0 ≡ false → Probe.Permitted ≡ answered_at state.directory.page (is_in_frame state) (refuses_byte state) access (Ok first)
      line-permitted line one = permitted (λ k below. near k (omega (arith, line, below)) ∙ one)

      module _ (rest : ℕ) (are : rest + first.byte % line_bytes state.directory.page ≡ line_bytes state.directory.page) (short : n ≤ 64) (one : kept 0 ≡ false) where
        pub second-fault : rest < n → kept rest ≡ true → Probe.Fault (Fault.Lock (bytes_on state.directory.page first rest)) ≡ answered_at state.directory.page (is_in_frame state) (refuses_byte state) access (Ok first)
        second-fault below two = kept-fault rest below two (λ j less. near j (omega (arith, are, less)) ∙ one)

        pub lines-permitted : kept rest ≡ false → Probe.Permitted ≡ answered_at state.directory.page (is_in_frame state) (refuses_byte state) access (Ok first)
        lines-permitted two = permitted (λ k below. elim (cases_lt k rest) [
          | inl before ↦ near k (omega (arith, are, before)) ∙ one
          | inr past ↦ far rest k are past (omega (arith, below, short)) ∙ two
        ])

-- the page of the frame that the table found for a byte of the store
pub page-found : (state : Reach) (sound : IsReachSound state) (at : Virtual) (frame : ℕ) → Lies state at 1 → is_private at.segment ≡ false → look_up (table_of state).keys (key_of at) ≡ Some frame
    → page_at state.pool frame ≡ Some (page_of state.directory (start_of state.directory at.segment + offset_of state.directory.page at))
page-found state sound at frame lies other is = grind (arith, nat_tests, finds-shared)
