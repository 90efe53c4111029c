-- An access is permitted exactly where the lines that it touches are open.
use Rattle.storage_unit.proofs.Common.{◌≡◌, ℕ, zero, suc, ◌+◌, ◌-◌, ◌*◌, ◌/◌, ◌<◌, ◌≤◌, Bool, true, false, List, [], refl, sym, ◌∙◌, ap, subst, arith, Ok, inl, inr, if◌then◌else◌, range_with_len, cases_lt, nat_tests, PageSize, Two, Four, line_bytes, Layout, line_of, has, page_of_line, has-range, in_range, Located, Private, Shared, Refused, Program, located, lines_at, Virtual, located_by, Access, Probe, answered_at, answered, lines_of_access, Reach, byte_place, place_at, is_resident, is_refused, is_in_frame, refuses_byte, IsReachSound, HasWindows, IsOpenLine, IsOpen}
use Rattle.storage_unit.proofs.PlaceLemmas.{never-refused, registers-page}
use Rattle.storage_unit.proofs.AnswerLemmas.{permitted-located, permitted-lines, lines-permitted, answered-private}
use Rattle.storage_unit.proofs.LocatedLemmas.{lies-where}

-- each line from the first to the last of some bytes has one of them
pub byte-of-line : (page : PageSize) (at more line : ℕ) → at / line_bytes page ≤ line → line ≤ (at + more) / line_bytes page
    → (k : ℕ) × (k ≤ more) × ((at + k) / line_bytes page ≡ line)
byte-of-line Two at more line above below =
    elim (cases_lt at (line * 128)) [
      | inl later ↦ (line * 128 - at, omega (arith, below), omega (arith, later))
      | inr here ↦ (0, omega arith, omega (arith, above, here))
    ]
byte-of-line Four at more line above below =
    elim (cases_lt at (line * 256)) [
      | inl later ↦ (line * 256 - at, omega (arith, below), omega (arith, later))
      | inr here ↦ (0, omega arith, omega (arith, above, here))
    ]

-- and each byte lies in one of them
line-of-byte : (page : PageSize) (at more k : ℕ) → k ≤ more
    → (at / line_bytes page ≤ (at + k) / line_bytes page) × ((at + k) / line_bytes page ≤ (at + more) / line_bytes page)
line-of-byte page at more k below = grind (arith, nat_tests)

-- a line of a range lies between its ends
between : (low high line : ℕ) → has (range_with_len low (high + 1 - low)) line ≡ true → (low ≤ line) × (line ≤ high)
between low high line inside = grind (arith, nat_tests, has-range)

-- the lines of some bytes of the store, one by one
pub each-line : (d : Layout) (at n : ℕ) (P : ℕ → Type 0) → ((k : ℕ) → k < n → P (line_of d (at + k))) → (line : ℕ) → has (lines_at d (Shared at) n) line ≡ true → P line
each-line d at zero P all line inside = absurd (cc)
each-line d at (suc more) P all line inside =
    let (above, below) = between (line_of d at) (line_of d (at + more)) line inside in
    let (k, few, is) = byte-of-line d.page at more line above below in
    subst P is (all k (omega (arith, few)))

-- and the bytes by their lines
pub each-byte : (d : Layout) (at n k : ℕ) → k < n → has (lines_at d (Shared at) n) (line_of d (at + k)) ≡ true
each-byte d at zero k below = absurd (omega (arith, below))
each-byte d at (suc more) k below =
    let (above, under) = line-of-byte d.page at more k (omega (arith, below)) in
    in_range (line_of d at) (line_of d (at + more) + 1 - line_of d at) (line_of d (at + k)) above (omega (arith, above, under))

module _ (f : Reach) (sound : IsReachSound f) (p : Program) (windows : HasWindows f p) (access : Access) where
  abbrev place : Located
  place = located p f.directory access.address access.bytes access.store

  lies-at : (at : Virtual) → located_by f.registers access.address access.bytes access.store ≡ Ok at → byte_place f.directory at ≡ place
  lies-at at is = ap (place_at f.directory) (sym is) ∙ lies-where f p sound.legal windows access.address access.bytes access.store

  open-line : (line : ℕ) (store : Bool) → is_resident f line ≡ true → is_refused f line store ≡ false → IsOpenLine f line store
  open-line line store resident permits = record { resident = sound.fits.seen.resident (page_of_line line) ∙ resident; permits = permits }

  -- a permitted access touches open lines
  pub permitted-open : answered f.registers (is_in_frame f) (refuses_byte f) access ≡ Probe.Permitted → IsOpen f (lines_of_access p f.directory access)
  permitted-open permitted =
      let (at, is) = permitted-located f.registers (is_in_frame f) (refuses_byte f) access permitted in
      let here : answered_at f.directory.page (is_in_frame f) (refuses_byte f) access (Ok at) ≡ Probe.Permitted =
      ap (λ page. answered_at page (is_in_frame f) (refuses_byte f) access (Ok at)) (sym (registers-page f sound))
      ∙ ap (answered_at f.registers.page (is_in_frame f) (refuses_byte f) access) (sym is) ∙ permitted in
      by_store access.store (lines_at f.directory place access.bytes) (each place at (lies-at at is) here)
    where
      each : (place : Located) (at : Virtual) → byte_place f.directory at ≡ place → answered_at f.directory.page (is_in_frame f) (refuses_byte f) access (Ok at) ≡ Probe.Permitted
          → (line : ℕ) → has (lines_at f.directory place access.bytes) line ≡ true → IsOpenLine f line access.store
      each (Private a) at lies here line inside = absurd (cc)
      each (Refused code) at lies here line inside = absurd (cc)
      each (Shared a) at lies here line inside =
          each-line f.directory a access.bytes (λ line. IsOpenLine f line access.store)
          (λ k below. let one = permitted-lines f at access.bytes access a refl lies here k below in open-line (line_of f.directory (a + k)) access.store one.0 one.1) line inside

      by_store : (store : Bool) (lines : List ℕ) → ((line : ℕ) → has lines line ≡ true → IsOpenLine f line store)
          → IsOpen f (if store then record { reads = []; writes = lines } else record { reads = lines; writes = [] })
      by_store true lines all = record { reads = λ line inside. absurd (cc); writes = all }
      by_store false lines all = record { reads = all; writes = λ line inside. absurd (cc) }

  -- and an access of open lines, which lies somewhere, is permitted
  pub open-permitted : (at : Virtual) → located_by f.registers access.address access.bytes access.store ≡ Ok at → IsOpen f (lines_of_access p f.directory access)
      → answered f.registers (is_in_frame f) (refuses_byte f) access ≡ Probe.Permitted
  open-permitted at is opens =
      cc (registers-page f sound, by_place place (lies-at at is) (by_store access.store (lines_at f.directory place access.bytes) opens))
    where
      by_store : (store : Bool) (lines : List ℕ) → IsOpen f (if store then record { reads = []; writes = lines } else record { reads = lines; writes = [] })
          → (line : ℕ) → has lines line ≡ true → IsOpenLine f line store
      by_store true lines opens = opens.writes
      by_store false lines opens = opens.reads

      by_place : (place : Located) → byte_place f.directory at ≡ place
          → ((line : ℕ) → has (lines_at f.directory place access.bytes) line ≡ true → IsOpenLine f line access.store)
          → answered_at f.directory.page (is_in_frame f) (refuses_byte f) access (Ok at) ≡ Probe.Permitted
      by_place (Private a) lies all = answered-private f at access.bytes access a refl lies
      by_place (Refused code) lies all = absurd (never-refused f.directory at code lies)
      by_place (Shared a) lies all = lines-permitted f at access.bytes access a refl lies (λ k below. let one = all (line_of f.directory (a + k)) (each-byte f.directory a access.bytes k below) in (sym (sound.fits.seen.resident (page_of_line (line_of f.directory (a + k)))) ∙ one.resident, one.permits))
