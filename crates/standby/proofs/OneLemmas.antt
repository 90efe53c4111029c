-- A text holds one content.
use Rattle.standby.proofs.Common.{AllByRecursion, recursion_from_All, AreLines, HoldsOne, ShipLine, closing_line, head_line, later, line_line, lines_text, next, records_text, All, ◌≡◌, ℕ, ◌+◌, ◌^◌, ◌<◌, List, [], ◌∷◌, ◌++◌, length, refl, sym, ◌∙◌, ap, subst, append_assoc, append-nil, arith, nat_tests}
use Rattle.standby.proofs.PartLemmas.{end_parts}
use Rattle.standby.proofs.TailLemmas.{first_is, records_are, room_left, same_head, same_line, same_record}

module _ (bytes bound : ℕ) (few : bound < 2 ^ 32) where
  -- as many lines, with anything behind them
  same_lines : (least : ℕ) (one two : List ShipLine) (x y : List ℕ) → AreLines bytes bound least one → AreLines bytes bound least two → length one ≡ length two → lines_text one ++ x ≡ lines_text two ++ y → (one ≡ two) × (x ≡ y)
  same_lines least [] [] x y are those many is = (refl, is)
  same_lines least (a ∷ one) (b ∷ two) x y are those many is =
      let both : line_line a.line a.bytes ++ (lines_text one ++ x) ≡ line_line b.line b.bytes ++ (lines_text two ++ y) =
      sym (append_assoc (line_line a.line a.bytes) (lines_text one) x) ∙ is ∙ append_assoc (line_line b.line b.bytes) (lines_text two) y in
      let first = same_line a.line b.line a.bytes b.bytes (lines_text one ++ x) (lines_text two ++ y) (omega (arith, are.1, few)) (omega (arith, those.1, few)) are.3 those.3 both in
      let rest = same_lines (a.line + 1) one two x y are.4 (subst (λ (n : ℕ). AreLines bytes bound (n + 1) two) (sym first.0) those.4) (omega (arith, many)) first.2 in
      let head : a ≡ b =
      ap (λ (n : ℕ). let it : ShipLine = record { line = n; bytes = a.bytes } in it) first.0
      ∙ ap (λ (these : List ℕ). let it : ShipLine = record { line = b.line; bytes = these } in it) first.1 in
      (ap (λ (line : ShipLine). line ∷ one) head ∙ ap (λ (lines : List ShipLine). b ∷ lines) rest.0, rest.1)
  same_lines least _ _ x y are those many is = absurd (omega (arith, many))

  differ : (number : ℕ) (lines : List ShipLine) (records : List (List ShipLine)) (n m : ℕ) → closing_line n ≡ records_text number (lines ∷ records) ++ closing_line m → ⊥
  differ number lines records n m is = grind (arith, nat_tests, first_is, append-nil, end_parts)

  same_records : (number n m : ℕ) (one two : List (List ShipLine)) → AllByRecursion (λ these. AreLines bytes bound 0 these) one → AllByRecursion (λ these. AreLines bytes bound 0 these) two
      → records_text number one ++ closing_line n ≡ records_text number two ++ closing_line m → one ≡ two
  same_records number n m [] [] are those is = refl
  same_records number n m [] (b ∷ two) are those is = absurd (differ number b two n m is)
  same_records number n m (a ∷ one) [] are those is = absurd (differ number a one m n (sym is))
  same_records number n m (a ∷ one) (b ∷ two) are those is =
      let x = records_text (next number) one ++ closing_line n in let y = records_text (next number) two ++ closing_line m in
      let both = sym (records_are number a one (closing_line n)) ∙ is ∙ records_are number b two (closing_line m) in
      let first = same_record (next number) (length a) (length b) (lines_text a ++ x) (lines_text b ++ y) (omega arith) (omega (arith, few, room_left bytes bound 0 a are.0 (omega arith))) (omega (arith, few, room_left bytes bound 0 b those.0 (omega arith))) both in
      let lines = same_lines 0 a b x y are.0 those.0 first.0 first.1 in
      let rest = same_records (next number) n m one two are.1 those.1 lines.1 in
      ap (λ (these : List ShipLine). these ∷ one) lines.0 ∙ ap (λ (records : List (List ShipLine)). b ∷ records) rest

pub holds_one : HoldsOne
holds_one one two is that same =
    let x = records_text one.start one.records ++ closing_line (later one.start (length one.records)) in
    let y = records_text two.start two.records ++ closing_line (later two.start (length two.records)) in
    let both = sym (append_assoc (head_line one.line_bytes one.lines one.start) (records_text one.start one.records) (closing_line (later one.start (length one.records))))
    ∙ same
    ∙ append_assoc (head_line two.line_bytes two.lines two.start) (records_text two.start two.records) (closing_line (later two.start (length two.records))) in
    let head = same_head one.line_bytes one.lines one.start two.line_bytes two.lines two.start x y (omega (arith, is.few_bytes)) (omega (arith, is.few_lines)) is.number (omega (arith, that.few_bytes)) (omega (arith, that.few_lines)) that.number both in
    let were : All (λ (these : List ShipLine). AreLines one.line_bytes one.lines 0 these) two.records = grind (arith, head.0, head.1) in
    let behind : x ≡ records_text one.start two.records ++ closing_line (later two.start (length two.records)) = head.3 ∙ ap (λ (n : ℕ). records_text n two.records ++ closing_line (later two.start (length two.records))) (sym head.2) in
    let records = same_records one.line_bytes one.lines is.few_lines one.start (later one.start (length one.records)) (later two.start (length two.records)) one.records two.records
    (recursion_from_All (λ (these : List ShipLine). AreLines one.line_bytes one.lines 0 these) one.records is.records) (recursion_from_All (λ (these : List ShipLine). AreLines one.line_bytes one.lines 0 these) two.records were) behind in
    grind (arith, head.0, head.1, head.2)
