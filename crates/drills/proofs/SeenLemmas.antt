-- The commit lines in printed bytes, counted a byte at a time.
use Rattle.drills.proofs.Common.{◌≡◌, ◌≢◌, ℕ, ◌+◌, ◌-◌, ◌<◌, ◌≤◌, Bool, true, false, List, [], ◌∷◌, ◌++◌, length, get_or, take, drop, refl, sym, ap, ◌∙◌, cond, arith, add-one, ◌==◌, if◌then◌else◌, codes, count_by, nat_eq, starts_with, take_more, get_or-drop, length-drop, sum_by-append, commits_seen, whole_lines, nat_tests}
use Rattle.std.proofs.Math.Nat.{zero-add}
use Rattle.std.proofs.Math.Seq.{drop-cons}

-- whether a line is that of a commit
abbrev pub is_commits : List ℕ → Bool
is_commits line = starts_with nat_eq line (codes "commit ")

-- the commit lines in these bytes, whose first begins with what was read of it already
abbrev pub commits_behind : List ℕ → List ℕ → ℕ
commits_behind line bytes = count_by is_commits (whole_lines line bytes)

same_byte : (byte : ℕ) → byte ≢ 10 → (byte == 10) ≡ false
same_byte byte other = grind (arith, nat_tests)

first_counted : (line : List ℕ) (lines : List (List ℕ)) → count_by is_commits (line ∷ lines) ≡ cond (is_commits line) 1 0 + count_by is_commits lines
first_counted line lines =
    let whole : count_by is_commits (line ∷ lines) ≡ count_by is_commits (line ∷ []) + count_by is_commits lines = sum_by-append (λ (line : List ℕ). cond (is_commits line) 1 0) (line ∷ []) lines in
    let head : 0 + cond (is_commits line) 1 0 ≡ cond (is_commits line) 1 0 = zero-add (cond (is_commits line) 1 0) in
    whole ∙ ap (λ (n : ℕ). n + count_by is_commits lines) head

-- the bytes from a place on, and the line so far with one byte more
split_at : (printed : List ℕ) (index : ℕ) → index < length printed → drop index printed ≡ get_or printed index 0 ∷ drop (index + 1) printed
split_at printed index within = drop-cons printed index 0 within ∙ ap (λ (n : ℕ). get_or printed index 0 ∷ drop n printed) (let same : index + 1 ≡ index + 1 = refl in sym (add-one index) ∙ same)

longer : (printed : List ℕ) (start index : ℕ) → start ≤ index → index < length printed → take (index + 1 - start) (drop start printed) ≡ take (index - start) (drop start printed) ++ get_or printed index 0 ∷ []
longer printed start index before within =
    let at : index + 1 - start ≡ (index - start) + 1 = omega arith in
    let here : start + (index - start) ≡ index = omega arith in
    ap (λ (n : ℕ). take n (drop start printed)) at
    ∙ take_more (drop start printed) (index - start) 0 (omega (arith, length-drop start printed))
    ∙ ap (λ (byte : ℕ). take (index - start) (drop start printed) ++ byte ∷ []) (get_or-drop start printed (index - start) 0 ∙ ap (λ (n : ℕ). get_or printed n 0) here)

-- a byte that ends a line, and another
pub at_feed : (printed : List ℕ) (line : List ℕ) (index : ℕ) → index < length printed → get_or printed index 0 ≡ 10
    → commits_behind line (drop index printed) ≡ cond (is_commits line) 1 0 + commits_behind (take (index + 1 - (index + 1)) (drop (index + 1) printed)) (drop (index + 1) printed)
at_feed printed line index within is =
    let none : index + 1 - (index + 1) ≡ 0 = omega arith in
    ap (commits_behind line) (split_at printed index within ∙ ap (λ (byte : ℕ). byte ∷ drop (index + 1) printed) is)
    ∙ first_counted line (whole_lines [] (drop (index + 1) printed))
    ∙ ap (λ (n : ℕ). cond (is_commits line) 1 0 + commits_behind (take n (drop (index + 1) printed)) (drop (index + 1) printed)) (sym none)

pub at_other : (printed : List ℕ) (start index : ℕ) → start ≤ index → index < length printed → get_or printed index 0 ≢ 10
    → commits_behind (take (index - start) (drop start printed)) (drop index printed) ≡ commits_behind (take (index + 1 - start) (drop start printed)) (drop (index + 1) printed)
at_other printed start index before within other =
    let line = take (index - start) (drop start printed) in let byte = get_or printed index 0 in
    let rest = drop (index + 1) printed in
    ap (commits_behind line) (split_at printed index within)
    ∙ ap (λ (feed : Bool). count_by is_commits (if feed then line ∷ whole_lines [] rest else whole_lines (line ++ byte ∷ []) rest)) (same_byte byte other)
    ∙ ap (λ (these : List ℕ). commits_behind these rest) (sym (longer printed start index before within))

-- so many lines were counted up to a place, and a line begins at another
pub record IsCounted (printed : List ℕ) (start index count : ℕ) : Type 0 where
  pub within : start ≤ index
  pub few : count ≤ index
  pub counted : commits_seen printed ≡ count + commits_behind (take (index - start) (drop start printed)) (drop index printed)

pub counted_feed : (printed : List ℕ) (start index count next_start next : ℕ) (is : Bool) → IsCounted printed start index count → index < length printed → get_or printed index 0 ≡ 10
    → is ≡ is_commits (take (index - start) (drop start printed)) → next ≡ count + cond is 1 0 → next_start ≡ index + 1 → IsCounted printed next_start (index + 1) next
counted_feed printed start index count next_start next is so within feed tells more begins =
    let line = take (index - start) (drop start printed) in let step = at_feed printed line index within feed in
    let told : cond {A = ℕ} is 1 0 ≡ cond {A = ℕ} (is_commits line) 1 0 = ap (λ (b : Bool). cond {A = ℕ} b 1 0) tells in
    let small : cond {A = ℕ} is 1 0 ≤ 1 = one_at_most is in
    let place : commits_behind (take (index + 1 - (index + 1)) (drop (index + 1) printed)) (drop (index + 1) printed) ≡ commits_behind (take (index + 1 - next_start) (drop next_start printed)) (drop (index + 1) printed) =
    ap (λ (n : ℕ). commits_behind (take (index + 1 - n) (drop n printed)) (drop (index + 1) printed)) (sym begins) in
    record { within = omega (arith, begins); few = omega (arith, more, small, so.few); counted = omega (arith, so.counted, step, told, more, place) }
  where
    one_at_most : (is : Bool) → cond {A = ℕ} is 1 0 ≤ 1
    one_at_most true = omega arith
    one_at_most false = omega arith

pub counted_other : (printed : List ℕ) (start index count next_start next : ℕ) → IsCounted printed start index count → index < length printed → get_or printed index 0 ≢ 10
    → next ≡ count → next_start ≡ start → IsCounted printed next_start (index + 1) next
counted_other printed start index count next_start next so within other more begins =
    let step = at_other printed start index so.within within other in
    let place : commits_behind (take (index + 1 - start) (drop start printed)) (drop (index + 1) printed) ≡ commits_behind (take (index + 1 - next_start) (drop next_start printed)) (drop (index + 1) printed) =
    ap (λ (n : ℕ). commits_behind (take (index + 1 - n) (drop n printed)) (drop (index + 1) printed)) (sym begins) in
    record { within = omega (arith, begins, so.within); few = omega (arith, more, so.few); counted = omega (arith, so.counted, step, more, place) }
