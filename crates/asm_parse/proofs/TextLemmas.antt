-- The statements of a text, as its lines are read one after the other.
use Rattle.asm_parse.proofs.Common.{◌≡◌, ℕ, suc, ◌+◌, ◌≤◌, Bool, true, false, nat_lt, List, [], ◌∷◌, ◌++◌, length, Option, Some, None, Result, Ok, Err, refl, sym, ap, ◌∙◌, arith, append_assoc, append-nil, length-append, length-drop, slice_split, position_or_len, before_first, lt-ltb, nat_tests, Statement, line_meaning, Gains, is_feed, text_lines, statements_from, then_statements, behind_first}

-- the parts of what stands behind a cut, if there was one
abbrev pub parts_behind : {X : Type 0} → (X → Bool) → Option (List X) → List (List X)
parts_behind test (Some xs) = slice_split test xs
parts_behind test None = []

less : (m n : ℕ) → nat_lt (suc m) (suc n) ≡ nat_lt m n
less m n = grind (arith, nat_tests)

-- the first part, and the parts behind it
pub cut : {X : Type 0} (test : X → Bool) (xs : List X) → slice_split test xs ≡ before_first test xs ∷ parts_behind test (behind_first test xs)
cut test [] = refl
cut test (x ∷ xs) = cut_by (test x) refl (cut test xs)
  where
    cut_by : (passes : Bool) → test x ≡ passes → slice_split test xs ≡ before_first test xs ∷ parts_behind test (behind_first test xs) → slice_split test (x ∷ xs) ≡ before_first test (x ∷ xs) ∷ parts_behind test (behind_first test (x ∷ xs))
    cut_by true e others = rw (e, lt-ltb 0 (suc (length xs)) (omega arith)) refl
    cut_by false e others =
        let n = position_or_len test xs in
        let one_more : 1 + n ≡ suc n = omega arith in
        let behind : suc n + 1 ≡ suc (n + 1) = omega arith in
        rw (e, one_more, behind, less n (length xs), others) refl

-- how many elements stand behind a cut, counting the one that is cut at
abbrev pub left_of : {X : Type 0} → Option (List X) → ℕ
left_of (Some text) = length text + 1
left_of None = 0

-- statements behind those that were read
abbrev pub statements_behind : List Statement → Result (List Statement) (ℕ × ℕ) → Result (List Statement) (ℕ × ℕ)
statements_behind read (Ok others) = Ok (read ++ others)
statements_behind read (Err fault) = Err fault

-- what a line's answer adds to what was read
gained : (read more : List Statement) (number : ℕ) (answer : Result (Option Statement) ℕ) (others : Result (List Statement) (ℕ × ℕ)) → Gains read more answer → statements_behind more others ≡ statements_behind read (then_statements number answer others)
gained read more number answer others new = grind (arith, nat_tests, append_assoc)

-- the statements of a text by its first line
by_first : (number : ℕ) (text : List ℕ) → statements_from number (text_lines text) ≡ then_statements number (line_meaning number (before_first is_feed text)) (statements_from (number + 1) (parts_behind is_feed (behind_first is_feed text)))
unfolding statements_from
by_first number text = rw (cut is_feed text) refl

-- one line more was read
pub line_read : (read more : List Statement) (number : ℕ) (text line : List ℕ) (behind : Option (List ℕ)) (whole : Result (List Statement) (ℕ × ℕ)) → line ≡ before_first is_feed text → behind ≡ behind_first is_feed text → Gains read more (line_meaning number line) → statements_behind read (statements_from number (text_lines text)) ≡ whole → statements_behind more (statements_from (number + 1) (parts_behind is_feed behind)) ≡ whole
line_read read more number text line behind whole first rest new so_far =
    rw (rest, gained read more number (line_meaning number line) _ new, first, ← by_first number text) so_far

faulty : (read : List Statement) (number kind : ℕ) (answer : Result (Option Statement) ℕ) (others : Result (List Statement) (ℕ × ℕ)) → answer ≡ Err kind → statements_behind read (then_statements number answer others) ≡ Err (number, kind)
faulty read number kind answer others is = rw is refl

-- a line has a fault
pub line_faulty : (read : List Statement) (number kind : ℕ) (text line : List ℕ) (whole : Result (List Statement) (ℕ × ℕ)) → line ≡ before_first is_feed text → line_meaning number line ≡ Err kind → statements_behind read (statements_from number (text_lines text)) ≡ whole → whole ≡ Err (number, kind)
line_faulty read number kind text line whole first told so_far =
    sym (rw (by_first number text) at so_far) ∙ faulty read number kind (line_meaning number (before_first is_feed text)) _ (rw first at told)

-- all lines were read
pub all_read : (read : List Statement) (number : ℕ) (behind : Option (List ℕ)) (whole : Result (List Statement) (ℕ × ℕ)) → behind ≡ None → statements_behind read (statements_from number (parts_behind is_feed behind)) ≡ whole → whole ≡ Ok read
unfolding statements_from
all_read read number behind whole none so_far = sym (rw none at so_far) ∙ ap Ok (append-nil read)

-- behind a line feed stands less than the whole
pub behind_shorter : (text : List ℕ) (behind : Option (List ℕ)) → behind ≡ behind_first is_feed text → left_of behind ≤ length text
behind_shorter text behind is = grind (arith, nat_tests, length-drop)

-- a line gives one statement at the most
pub gained_one : (old new : List Statement) (answer : Result (Option Statement) ℕ) → Gains old new answer → length new ≤ length old + 1
gained_one old new answer e = grind (arith, nat_tests, length-append)
