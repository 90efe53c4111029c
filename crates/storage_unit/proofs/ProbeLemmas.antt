-- The answers of the pages and lines of a range, each asked for once.
use Rattle.storage_unit.proofs.Common.{◌≡◌, ℕ, ◌+◌, ◌-◌, ◌*◌, ◌%◌, ◌<◌, ◌≤◌, Bool, true, false, sym, ◌∙◌, ap, arith, Some, None, not, find, range_with_len, page_bytes, line_bytes, line_of, Virtual, bytes_on, Reach, is_private, byte_place, on, is_there, is_kept_from, is_refused, IsReachSound, Lies, is_absent, nat_tests}
use Rattle.storage_unit.proofs.SizeLemmas.{byte-at, page-some}
use Rattle.storage_unit.proofs.FindLemmas.{none-found, first-found}
use Rattle.storage_unit.proofs.PlaceLemmas.{place-on, on-on, lies-on, private-is, there-found}

module _ (state : Reach) (sound : IsReachSound state) (first : Virtual) (n : ℕ) (some : 0 < n) (few : n ≤ 255) (lies : Lies state first n) where
  abbrev test : ℕ → Bool
  test past = not (is_there state (on (byte_place state.directory first) past))

  here : (k : ℕ) → first.byte + k < page_bytes state.directory.page → not (is_there state (on (byte_place state.directory first) k)) ≡ is_absent state first
  here k within = ap not (there-found state sound first n some lies k within)

  -- the page of the first byte is in no frame
  pub absent-first : is_absent state first ≡ true → Some 0 ≡ find (λ past. not (is_there state (on (byte_place state.directory first) past))) (range_with_len 0 n)
  absent-first is = sym (first-found test 0 n 0 (omega arith) (omega (arith, some)) (λ k above below. absurd (omega (arith, below))) (here 0 (omega (arith, lies.within)) ∙ is))

  -- it is in one, and the others are in the same
  pub none-absent : is_absent state first ≡ false → first.byte + n ≤ page_bytes state.directory.page → None ≡ find (λ past. not (is_there state (on (byte_place state.directory first) past))) (range_with_len 0 n)
  none-absent is within = sym (none-found test 0 n (λ k above below. here k (omega (arith, below, within)) ∙ is))

  module _ (rest : ℕ) (are : first.byte + rest ≡ page_bytes state.directory.page) (more : rest < n) where
    abbrev next : Virtual
    next = bytes_on state.directory.page first rest

    page-end : first.page * page_bytes state.directory.page + first.byte + rest ≡ (first.page + 1) * page_bytes state.directory.page + 0
    page-end = omega (arith, are)

    there : (k : ℕ) → rest ≤ k → k < n → not (is_there state (on (byte_place state.directory first) k)) ≡ is_absent state (bytes_on state.directory.page first rest)
    there k above below =
        let start : next.byte ≡ 0 = ap (λ n. n % page_bytes state.directory.page) page-end ∙ byte-at state.directory.page (first.page + 1) 0 (omega (arith, page-some state.directory.page)) in
        let split : rest + (k - rest) ≡ k = omega (arith, above) in
        cc (
          on-on (byte_place state.directory first) rest (k - rest),
          place-on state.directory first rest,
          there-found state sound next (n - rest) (omega (arith, more)) (lies-on state first rest (n - rest) n (omega (arith, more)) lies) (k - rest) (omega (arith, start, above, below, few, page-some state.directory.page)),
        )

    -- the next page is in none
    pub absent-next : is_absent state first ≡ false → is_absent state (bytes_on state.directory.page first rest) ≡ true
        → Some rest ≡ find (λ past. not (is_there state (on (byte_place state.directory first) past))) (range_with_len 0 n)
    absent-next is gone =
        sym (first-found test 0 n rest (omega arith) (omega (arith, more)) (λ k above below. here k (omega (arith, below, are)) ∙ is) (there rest (omega arith) more ∙ gone))

    -- both are in one
    pub none-next : is_absent state first ≡ false → is_absent state (bytes_on state.directory.page first rest) ≡ false
        → None ≡ find (λ past. not (is_there state (on (byte_place state.directory first) past))) (range_with_len 0 n)
    none-next is also = grind (arith, nat_tests, none-found, here, there)

-- bytes of the same line are refused alike
pub same-line : (state : Reach) (place past rest k : ℕ) (store : Bool) → rest + (place + past) % line_bytes state.directory.page ≡ line_bytes state.directory.page → past ≤ k → k < past + rest
    → is_refused state (line_of state.directory (place + k)) store ≡ is_refused state (line_of state.directory (place + past)) store
same-line state place past rest k store are above below = grind (arith, nat_tests)

-- of private storage none is refused
pub private-kept : (state : Reach) (first : Virtual) (n : ℕ) (store : Bool) → is_private first.segment ≡ true
    → None ≡ find (λ past. is_kept_from state (on (byte_place state.directory first) past) store) (range_with_len 0 n)
private-kept state first n store own =
    sym (none-found (λ past. is_kept_from state (on (byte_place state.directory first) past) store) 0 n (λ k above below. ap (λ place. is_kept_from state (on place k) store) (private-is state.directory first own)))
