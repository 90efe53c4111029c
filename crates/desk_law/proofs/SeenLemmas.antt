-- The commits that the bytes of a report tell of, also where it is cut.
use Rattle.desk_law.proofs.Common.{◌==◌, if◌then◌else◌, count_by, nat_eq, flat_map, starts_with, take-append-drop, sum_by-append, ReportLine, line_text, is_commit, whole_lines, commits_seen, IsUnbroken, nat_tests, ◌≡◌, ℕ, ◌+◌, ◌≤◌, Bool, true, false, List, [], ◌∷◌, ◌++◌, take, drop, refl, sym, ap, ◌∙◌, append_assoc, append-nil, cond, codes, arith}
use Rattle.desk_law.proofs.Unbroken.{unbroken_first, unbroken_rest, body_of, text_is, IsPlain, body-unbroken}

-- whether a line without its line feed is a commit's
abbrev tells : List ℕ → Bool
tells line = starts_with nat_eq line (codes "commit ")

counted_on : (xs ys : List (List ℕ)) → count_by tells (xs ++ ys) ≡ count_by tells xs + count_by tells ys
counted_on xs ys = sum_by-append (λ (line : List ℕ). cond (tells line) 1 0) xs ys

-- the whole lines of bytes, and more with more bytes
more_lines : (line xs ys : List ℕ) → (more : List (List ℕ)) × (whole_lines line (xs ++ ys) ≡ whole_lines line xs ++ more)
more_lines line [] ys = (whole_lines line ys, refl)
more_lines line (x ∷ xs) ys = by_feed (x == 10) (more_lines [] xs ys) (more_lines (line ++ x ∷ []) xs ys)
  where
    by_feed : (feed : Bool) → (more : List (List ℕ)) × (whole_lines [] (xs ++ ys) ≡ whole_lines [] xs ++ more) → (more : List (List ℕ)) × (whole_lines (line ++ x ∷ []) (xs ++ ys) ≡ whole_lines (line ++ x ∷ []) xs ++ more)
        → (more : List (List ℕ)) × ((if feed then line ∷ whole_lines [] (xs ++ ys) else whole_lines (line ++ x ∷ []) (xs ++ ys)) ≡ (if feed then line ∷ whole_lines [] xs else whole_lines (line ++ x ∷ []) xs) ++ more)
    by_feed true one two = (one.0, ap (λ (rest : List (List ℕ)). line ∷ rest) one.1)
    by_feed false one two = two

-- no more commits are seen in fewer bytes
pub seen_cut : (count : ℕ) (bytes : List ℕ) → commits_seen (take count bytes) ≤ commits_seen bytes
seen_cut count bytes =
    grind (arith, nat_tests, more_lines [] (take count bytes) (drop count bytes), take-append-drop count bytes, counted_on)

-- a line and its line feed are a whole line
whole_first : (line body rest : List ℕ) → IsUnbroken body → whole_lines line (body ++ 10 ∷ rest) ≡ (line ++ body) ∷ whole_lines [] rest
whole_first line [] rest is = ap (λ (first : List ℕ). first ∷ whole_lines [] rest) (sym (append-nil line))
whole_first line (x ∷ body) rest is = grind (arith, nat_tests, whole_first (line ++ x ∷ []) body rest (unbroken_rest x body is), unbroken_first, unbroken_rest, append_assoc)

-- lines whose names have no line feed
abbrev pub ArePlain : List ReportLine → Type 0
ArePlain [] = Unit {0}
ArePlain (line ∷ lines) = IsPlain line × ArePlain lines

-- how many of these lines are commits'
abbrev pub commits_in : List ReportLine → ℕ
commits_in lines = count_by is_commit lines

pub commits_on : (xs ys : List ReportLine) → commits_in (xs ++ ys) ≡ commits_in xs + commits_in ys
commits_on xs ys = sum_by-append (λ (line : ReportLine). cond (is_commit line) 1 0) xs ys

pub plain_on : (xs ys : List ReportLine) → ArePlain xs → ArePlain ys → ArePlain (xs ++ ys)
plain_on [] ys one two = two
plain_on (x ∷ xs) ys one two = (one.0, plain_on xs ys one.1 two)

-- the commits seen in lines, and in bytes behind them
pub seen_lines : (lines : List ReportLine) (rest : List ℕ) → ArePlain lines → commits_seen (flat_map line_text lines ++ rest) ≡ commits_in lines + commits_seen rest
seen_lines [] rest are = omega arith
seen_lines (first ∷ lines) rest are =
    let tail : List ℕ = flat_map line_text lines ++ rest in
    let bytes : line_text first ++ flat_map line_text lines ++ rest ≡ body_of first ++ 10 ∷ tail =
    append_assoc (line_text first) (flat_map line_text lines) rest ∙ ap (λ (front : List ℕ). front ++ tail) (text_is first) ∙ append_assoc (body_of first) (10 ∷ []) tail in
    let whole : commits_seen (line_text first ++ flat_map line_text lines ++ rest) ≡ count_by tells (body_of first ∷ []) + commits_seen tail =
    ap commits_seen bytes ∙ ap (count_by tells) (whole_first [] (body_of first) tail (body-unbroken first are.0)) ∙ counted_on (body_of first ∷ []) (whole_lines [] tail) in
    let head : count_by tells (body_of first ∷ []) ≡ commits_in (first ∷ []) = ap (λ (is : Bool). 0 + cond is 1 0) (grind (arith, nat_tests)) in
    let split : commits_in (first ∷ lines) ≡ commits_in (first ∷ []) + commits_in lines = commits_on (first ∷ []) lines in
    omega (arith, whole, head, seen_lines lines rest are.1, split)

pub seen_all : (lines : List ReportLine) → ArePlain lines → commits_seen (flat_map line_text lines) ≡ commits_in lines
seen_all lines are = grind (arith, nat_tests, seen_lines lines [] are, append-nil (flat_map line_text lines))
