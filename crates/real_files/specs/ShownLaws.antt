-- What holds of what a list of puts printed.
use Rattle.std.proofs.Common.{◌≡◌, ℕ, zero, suc, ◌+◌, ◌≤◌, List, [], ◌∷◌, ◌++◌, length, sym, ◌∙◌, ap, arith, length-append, append_assoc, append-nil}
use Rattle.std.specs.Prelude.{Some}
use Rattle.outside.specs.Clock.{AreInOrder, shown_of, put_start}
use Rattle.outside.specs.declared.screen.PutMark.{PutMark}
use Rattle.real_files.specs.Deeds.{Deed}
use Rattle.real_files.specs.Shown.{bytes_put, deed_number, printed_of, marks_of}

-- one put more
pub printed_of-more : (puts : List Deed) (put : Deed) → printed_of (puts ++ put ∷ []) ≡ printed_of puts ++ bytes_put put
printed_of-more [] put = append-nil (bytes_put put)
printed_of-more (first ∷ puts) put = ap (λ (rest : List ℕ). bytes_put first ++ rest) (printed_of-more puts put) ∙ sym (append_assoc (bytes_put first) (printed_of puts) (bytes_put put))

pub marks_of-more : (before : ℕ) (puts : List Deed) (put : Deed) → marks_of before (puts ++ put ∷ []) ≡ marks_of before puts ++ record { at = deed_number put; before = before + length (printed_of puts) } ∷ []
marks_of-more before [] put =
    let same : before ≡ before + length (printed_of []) = omega arith in
    ap (λ (n : ℕ). record { at = deed_number put; before = n } ∷ []) same
marks_of-more before (first ∷ puts) put =
    let same : before + length (bytes_put first) + length (printed_of puts) ≡ before + length (printed_of (first ∷ puts)) = omega (arith, length-append (bytes_put first) (printed_of puts)) in
    ap (λ (rest : List PutMark). record { at = deed_number first; before = before } ∷ rest) (marks_of-more (before + length (bytes_put first)) puts put)
    ∙ ap (λ (n : ℕ). record { at = deed_number first; before = before } ∷ (marks_of (before + length (bytes_put first)) puts ++ record { at = deed_number put; before = n } ∷ [])) same

-- each began where the one before it did or later
in_order_of : (total before : ℕ) (puts : List Deed) (i : ℕ) → before + length (printed_of puts) ≤ total → put_start (marks_of before puts) total i ≤ put_start (marks_of before puts) total (suc i)
in_order_of total before [] i few = omega arith
in_order_of total before (first ∷ []) zero few = omega (arith, few)
in_order_of total before (first ∷ (second ∷ puts)) zero few = omega arith
in_order_of total before (first ∷ puts) (suc i) few =
    in_order_of total (before + length (bytes_put first)) puts i (omega (arith, few, length-append (bytes_put first) (printed_of puts)))

pub marks_in_order : (puts : List Deed) → AreInOrder (shown_of (Some (printed_of puts))) (marks_of 0 puts)
marks_in_order puts i = in_order_of (length (printed_of puts)) 0 puts i (omega arith)
