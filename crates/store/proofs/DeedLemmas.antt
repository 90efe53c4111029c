-- The deeds of home lines.
use Rattle.std.proofs.Common.{◌≡◌, inl, inr, ℕ, zero, suc, ◌≤◌, List, [], ◌++◌, sym, ◌∙◌, ap, subst, append_assoc, append-nil, arith}
use Rattle.std.proofs.lemmas.Bool.{cases_lt}
use Rattle.std.specs.Prelude.{Option, None, Result, Ok, Err, slice_index_or}
use Rattle.store.specs.Below.{copy_deeds, Deed, Failed}
use Rattle.store.specs.Committed.{home_place}
use Rattle.store.specs.Exact.{homes_written}
use Rattle.store.specs.Kept.{BankView, line_bytes_of}
use Rattle.store.specs.Places.{HaveNone}

-- all went well, and something failed
abbrev pub whole : Result (Unit {0}) Failed
whole = Ok tt

abbrev pub cut : Result (Unit {0}) Failed
cut = Err (record {})

-- the home deeds of the first lines come first
pub home_part : (bank : BankView) (held : List ℕ) (k n : ℕ) → k ≤ n → (rest : List Deed) × (homes_written bank held n ≡ homes_written bank held k ++ rest)
home_part bank held k zero few =
    let none : k ≡ 0 = omega (arith, few) in
    ([], subst (λ (j : ℕ). homes_written bank held 0 ≡ homes_written bank held j ++ []) (sym none) (sym (append-nil (homes_written bank held 0))))
home_part bank held k (suc n) few =
    elim (cases_lt n k) [
      | inl past ↦
          let all : k ≡ suc n = omega (arith, past, few) in
          ([], subst (λ (j : ℕ). homes_written bank held (suc n) ≡ homes_written bank held j ++ []) (sym all) (sym (append-nil (homes_written bank held (suc n)))))
      | inr within ↦
          let part = home_part bank held k n (omega (arith, within)) in
          let one = copy_deeds (line_bytes_of bank) held (slice_index_or bank.newest n None) (home_place bank n) in
          (part.0 ++ one, ap (λ (these : List Deed). these ++ one) part.1 ∙ append_assoc (homes_written bank held k) part.0 one)
    ]

-- lines without a newest place ask nothing
pub home_gap : (bank : BankView) (held : List ℕ) (k n : ℕ) → k ≤ n → HaveNone bank.newest k n → homes_written bank held n ≡ homes_written bank held k
home_gap bank held k zero few none = let same : 0 ≡ k = omega (arith, few) in ap (homes_written bank held) same
home_gap bank held k (suc n) few none =
    elim (cases_lt n k) [
      | inl past ↦ let same : suc n ≡ k = omega (arith, past, few) in ap (homes_written bank held) same
      | inr within ↦
          ap (λ (place : Option ℕ). homes_written bank held n ++ copy_deeds (line_bytes_of bank) held place (home_place bank n)) (none n within (omega arith))
          ∙ append-nil (homes_written bank held n)
          ∙ home_gap bank held k n within (λ line low high. none line low (omega (arith, high)))
    ]
