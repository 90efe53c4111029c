-- Each text has one job or one first fault, which ends its reading.
use Rattle.job_text.proofs.Common.{◌≡◌, ◌⊎◌, inl, inr, ℕ, ◌+◌, List, [], ◌∷◌, ◌++◌, length, Result, Ok, Err, refl, ap, ◌∙◌, arith, Stage, Content, job_of, last_part, read_from, Reading, FaultsEndTheReading, IsJobText, nat_tests}
use Rattle.job_text.proofs.FormLemmas.{has_form, form_read, read_some, some_behind}

pub job_or_fault : (text : List ℕ) → ((content : Content) × IsJobText text content) ⊎ ((fault : ℕ × ℕ) × (job_of text ≡ Err fault))
job_or_fault text = by_answer (job_of text) refl
  where
    by_answer : (answer : Result Content (ℕ × ℕ)) → job_of text ≡ answer → ((content : Content) × IsJobText text content) ⊎ ((fault : ℕ × ℕ) × (job_of text ≡ Err fault))
    by_answer (Ok content) is = inl (content, has_form text content is)
    by_answer (Err fault) is = inr (fault, is)

pub one_job : (text : List ℕ) (one other : Content) → IsJobText text one → IsJobText text other → one ≡ other
one_job text one other first second = cc (form_read text one first, form_read text other second)

pub no_fault : (text : List ℕ) (content : Content) (fault : ℕ × ℕ) → IsJobText text content → ¬ (job_of text ≡ Err fault)
no_fault text content fault form is = cc (form_read text content form, is)

-- what stands behind the last line feed has kind 10, if it has a fault
last_fault : (stage : Stage) (reading : Reading) (number : ℕ) (last : List ℕ) (fault : ℕ × ℕ) → reading.stage ≡ stage → last_part reading number last ≡ Err fault → fault ≡ (number, 10)
last_fault stage reading number last fault at is = grind (arith, nat_tests)

faults_end : (reading : Reading) (number : ℕ) (lines more : List (List ℕ)) (last next : List ℕ) (fault : ℕ × ℕ) → read_from reading number (lines ++ (last ∷ [])) ≡ Err fault → (fault ≡ (number + length lines, 10)) ⊎ (read_from reading number (lines ++ (next ∷ more)) ≡ Err fault)
unfolding read_from
faults_end reading number [] more last next fault is = inl (last_fault reading.stage reading number last fault refl is ∙ ap (λ n. (n, 10)) (omega arith))
faults_end reading number (line ∷ lines) more last next fault is =
    let front = read_some reading number line (lines ++ (last ∷ [])) (some_behind lines (last ∷ []) (last, [], refl)) in
    let other = read_some reading number line (lines ++ (next ∷ more)) (some_behind lines (next ∷ more) (next, more, refl)) in
    grind (arith, nat_tests, front, other, is, λ (read : Reading). faults_end read (number + 1) lines more last next fault)

-- a fault ends the reading
pub first_fault : FaultsEndTheReading
first_fault text other lines more last next fault split split_other is = grind (arith, nat_tests, faults_end)
