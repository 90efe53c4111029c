-- The windows of a program that was assembled.
use Rattle.romp_asm.proofs.Common.{AllByRecursion, fold, nat_tests, Statement, Body, encoding_of, Parts, assembled, entry_of, fitted, has_label_of, image_behind, is_entry, piece_before, piece_of, takes_window, windows_of, with_window, total_size, addresses_of, ◌≡◌, ℕ, zero, suc, ◌&&◌, ◌||◌, if◌then◌else◌, Bool, true, false, is_some, List, [], ◌∷◌, ◌++◌, length, replicate, slice_set, Option, None, Result, Ok, Err, refl, arith, append_assoc, append-nil, length-set}
use Rattle.flat_machine.specs.declared.machine.Window.{Window as Sight}
use Rattle.romp_asm.proofs.MadeLemmas.{IsLegalPlace, windows_push}

set_legal : (windows : List (Option Sight)) (place : ℕ) (window : Option Sight) → AllByRecursion IsLegalPlace windows → IsLegalPlace window → AllByRecursion IsLegalPlace (slice_set windows place window)
set_legal [] place window legal is = tt
set_legal (old ∷ windows) zero window legal is = (is, legal.1)
set_legal (old ∷ windows) (suc place) window legal is = (legal.0, set_legal windows place window legal.1 is)

-- a statement that may stand behind legal windows leaves legal ones
legal_with : (windows : List (Option Sight)) (body : Body) → takes_window windows body ≡ true → AllByRecursion IsLegalPlace windows → AllByRecursion IsLegalPlace (with_window windows body)
legal_with windows body takes legal = grind (arith, nat_tests, set_legal, takes)

-- a fault of kind 5, or what is read
abbrev refused_by : Bool → Result (List ℕ) ℕ → Result (List ℕ) ℕ
refused_by refused reading = if refused then Err 5 else reading

takes_by : (at : ℕ) (windows : List (Option Sight)) (body : Body) (encoding : Result (List ℕ) ℕ) (bytes : List ℕ) → fitted at windows body encoding ≡ Ok bytes → takes_window windows body ≡ true
takes_by at windows body case_4 bytes e = grind (arith, nat_tests)

takes_told : (refused : Bool) (at : ℕ) (windows : List (Option Sight)) (body : Body) (encoding : Result (List ℕ) ℕ) (bytes : List ℕ) → refused_by refused (fitted at windows body encoding) ≡ Ok bytes → takes_window windows body ≡ true
takes_told true at windows body encoding bytes e = absurd (cc e)
takes_told false at windows body encoding bytes e = takes_by at windows body encoding bytes e

-- both the piece and what follows it were made
split : (line : ℕ) (piece : Result (List ℕ) ℕ) (others : Result (List ℕ) (ℕ × ℕ)) (image : List ℕ) → piece_before line piece others ≡ Ok image → ((bytes : List ℕ) × (piece ≡ Ok bytes)) × ((more : List ℕ) × (others ≡ Ok more))
split line piece others image e = grind (arith, nat_tests)

legal_behind : (all before rest : List Statement) (image : List ℕ) → AllByRecursion IsLegalPlace (windows_of before) → image_behind all before rest ≡ Ok image → AllByRecursion IsLegalPlace (windows_of (before ++ rest))
unfolding image_behind
legal_behind all before [] image legal e = rw (append-nil before) legal
legal_behind all before (s ∷ rest) image legal e =
    let parts = split s.line (piece_of (addresses_of all) (has_label_of before s) (total_size before) (entry_of (addresses_of all) before) (windows_of before) s.body) (image_behind all (before ++ s ∷ []) rest) image e in
    let takes = takes_told (has_label_of before s || (is_entry s.body && is_some (entry_of (addresses_of all) before))) (total_size before) (windows_of before) s.body (encoding_of (addresses_of all) (total_size before) s.body) parts.0.0 parts.0.1 in
    let one : AllByRecursion IsLegalPlace (windows_of (before ++ s ∷ [])) = rw (windows_push before s) (legal_with (windows_of before) s.body takes legal) in
    rw append_assoc at (legal_behind all (before ++ s ∷ []) rest parts.1.0 one parts.1.1)

windows_long : (windows : List (Option Sight)) (statements : List Statement) → length (fold (λ windows (statement : Statement). with_window windows statement.body) windows statements) ≡ length windows
windows_long windows [] = refl
windows_long windows (s ∷ statements) = grind (arith, nat_tests, windows_long (with_window windows s.body) statements, length-set)

none_legal : (n : ℕ) → AllByRecursion IsLegalPlace (replicate n None)
none_legal zero = tt
none_legal (suc n) = (tt, none_legal n)

-- a program that was assembled has 15 places for windows, and legal ones
pub assembled_windows : (all : List Statement) (parts : Parts) → assembled all ≡ Ok parts → AllByRecursion IsLegalPlace parts.windows × (length parts.windows ≡ 15)
assembled_windows all parts e = grind (arith, nat_tests, legal_behind, none_legal, windows_long)
