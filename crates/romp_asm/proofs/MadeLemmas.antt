-- The program that an entry address, windows and data make.
use Rattle.romp_asm.proofs.Common.{AllByRecursion, fold, eq-eqb, le-leb, le-ltb, set_at, fold_push, sum_by_push, Statement, Body, Data, Window, Entry, encoding_of, even_at_most, Parts, assembled, entry_of, image_behind, is_entry, is_free, takes_window, windows_of, entry_after, with_window, size_of, total_size, addresses_of, ◌≡◌, ℕ, ℤ, pos, zero, suc, ◌+◌, ◌-◌, ◌%◌, ◌<◌, ◌≤◌, ◌&&◌, true, false, is_some, List, [], ◌∷◌, ◌++◌, length, map, get_or, replicate, slice_get, Option, Some, None, Ok, refl, sym, ap, ◌∙◌, arith, append_assoc, length-append, nat_tests}
use Rattle.std.specs.Int.{from_be_bytes, w32}
use Rattle.std.proofs.lemmas.Nat.{be_bytes_4}
use Rattle.flat_machine.specs.declared.machine.Window.{Window as Sight}
use Rattle.asm_parse.specs.declared.statement.Expr.TheVariants.{Number}

-- a statement without a label
abbrev pub plain_at : ℕ → Body → Statement
plain_at number body = record { line = number; label = None; body = body }

-- statements without labels on lines that follow one another
abbrev pub made : ℕ → List Body → List Statement
made number [] = []
made number (body ∷ bodies) = plain_at number body ∷ made (number + 1) bodies

-- one byte
abbrev pub byte_body : ℕ → Body
byte_body byte = Data 1 (Number (pos byte))

-- four bytes each, and one byte for each that is left
abbrev pub image_bodies : List ℕ → List Body
image_bodies (a ∷ b ∷ c ∷ d ∷ bytes) = Data 4 (Number (pos (from_be_bytes w32 (a ∷ b ∷ c ∷ d ∷ [])))) ∷ image_bodies bytes
image_bodies bytes = map byte_body bytes

-- a window for each place that has one, the first of which is that of this register
abbrev pub window_bodies : ℕ → List (Option Sight) → List Body
window_bodies register [] = []
window_bodies register (None ∷ windows) = window_bodies (register + 1) windows
window_bodies register (Some window ∷ windows) = Window register window.segment window.write ∷ window_bodies (register + 1) windows

-- the entry address, the windows and the image
abbrev pub source_bodies : Parts → List Body
source_bodies parts = Entry (Number (pos parts.entry)) ∷ (window_bodies 1 parts.windows ++ image_bodies parts.image)

abbrev pub IsByte : ℕ → Type 0
IsByte byte = byte < 256

-- a window's segment is 1 to 3839
abbrev pub IsLegalPlace : Option Sight → Type 0
IsLegalPlace None = Unit {0}
IsLegalPlace (Some window) = (1 ≤ window.segment) × (window.segment ≤ 3839)

-- the bytes of one statement more
total_push : (before : List Statement) (s : Statement) → total_size (before ++ s ∷ []) ≡ total_size before + size_of s.body
total_push before s = sum_by_push (λ (statement : Statement). size_of statement.body) before s

-- the windows after one statement more
pub windows_push : (before : List Statement) (s : Statement) → windows_of (before ++ s ∷ []) ≡ with_window (windows_of before) s.body
windows_push before s = fold_push (λ windows (statement : Statement). with_window windows statement.body) (replicate 15 None) before s

-- a statement that may stand where it does
one_more : (all before rest : List Statement) (number : ℕ) (body : Body) (bytes others : List ℕ)
    → encoding_of (addresses_of all) (total_size before) body ≡ Ok bytes
    → (is_entry body && is_some (entry_of (addresses_of all) before)) ≡ false
    → total_size before + size_of body ≤ 16384
    → takes_window (windows_of before) body ≡ true
    → image_behind all (before ++ plain_at number body ∷ []) rest ≡ Ok others
    → image_behind all before (plain_at number body ∷ rest) ≡ Ok (bytes ++ others)
unfolding image_behind
one_more all before rest number body bytes others encoded first fits takes behind =
    rw (first, encoded, le-ltb 16384 (total_size before + size_of body) fits, takes, behind) refl

byte_at : (bytes : List ℕ) → AllByRecursion IsByte bytes → (i : ℕ) → get_or bytes i 0 < 256
byte_at [] are i = omega arith
byte_at (byte ∷ bytes) are zero = are.0
byte_at (byte ∷ bytes) are (suc i) = byte_at bytes are.1 i

pub word_small : (a b c d : ℕ) → a < 256 → b < 256 → c < 256 → d < 256 → from_be_bytes w32 (a ∷ b ∷ c ∷ d ∷ []) ≤ 4294967295
word_small a b c d small_a small_b small_c small_d = omega arith

-- a word is its four bytes
word_encoded : (addresses : List ℕ → Option ℤ) (at a b c d : ℕ) → AllByRecursion IsByte (a ∷ b ∷ c ∷ d ∷ []) → encoding_of addresses at (Data 4 (Number (pos (from_be_bytes w32 (a ∷ b ∷ c ∷ d ∷ []))))) ≡ Ok (a ∷ b ∷ c ∷ d ∷ [])
word_encoded addresses at a b c d are = grind (arith, nat_tests, le-leb, word_small, be_bytes_4, byte_at)

-- bytes one by one
bytes_made : (all before : List Statement) (number : ℕ) (bytes : List ℕ) → AllByRecursion IsByte bytes → total_size before + length bytes ≤ 16384 → image_behind all before (made number (map byte_body bytes)) ≡ Ok bytes
unfolding image_behind
bytes_made all before number [] are fits = refl
bytes_made all before number (byte ∷ bytes) are fits = grind (arith, nat_tests, le-leb, total_push, bytes_made all (before ++ plain_at number (byte_body byte) ∷ []) (number + 1) bytes are.1 (omega (arith, total_push before (plain_at number (byte_body byte)))))

-- an image
image_made : (all before : List Statement) (number : ℕ) (bytes : List ℕ) → AllByRecursion IsByte bytes → total_size before + length bytes ≤ 16384 → image_behind all before (made number (image_bodies bytes)) ≡ Ok bytes
image_made all before number (a ∷ b ∷ c ∷ d ∷ bytes) are fits =
    let body = Data 4 (Number (pos (from_be_bytes w32 (a ∷ b ∷ c ∷ d ∷ [])))) in
    one_more all before (made (number + 1) (image_bodies bytes)) number body (a ∷ b ∷ c ∷ d ∷ []) bytes (word_encoded (addresses_of all) (total_size before) a b c d (are.0, (are.1.0, (are.1.1.0, (are.1.1.1.0, tt))))) refl (omega arith) refl
    (image_made all (before ++ plain_at number body ∷ []) (number + 1) bytes are.1.1.1.1 (omega (arith, total_push before (plain_at number body))))
image_made all before number bytes are fits = bytes_made all before number bytes are fits

free_at : (done windows : List (Option Sight)) (place : ℕ) → length done ≡ place → is_free (slice_get (done ++ None ∷ windows) place) ≡ true
free_at [] windows zero is = refl
free_at [] windows (suc place) is = absurd (omega arith)
free_at (window ∷ done) windows zero is = absurd (omega arith)
free_at (window ∷ done) windows (suc place) is = free_at done windows place (omega arith)

takes : (done windows : List (Option Sight)) (register : ℕ) (window : Sight) → length done + 1 ≡ register → IsLegalPlace (Some window) → takes_window (done ++ None ∷ windows) (Window register window.segment window.write) ≡ true
takes done windows register window is legal = grind (arith, nat_tests, le-leb, free_at, legal)

-- windows, and an image behind them
windows_made : (all before : List Statement) (number register : ℕ) (done windows : List (Option Sight)) (image : List ℕ) → AllByRecursion IsLegalPlace windows → length done + 1 ≡ register → windows_of before ≡ done ++ replicate (length windows) None → AllByRecursion IsByte image → total_size before + length image ≤ 16384
    → image_behind all before (made number (window_bodies register windows ++ image_bodies image)) ≡ Ok image
windows_made all before number register done [] image legal is noted are fits = image_made all before number image are fits
windows_made all before number register done (None ∷ windows) image legal is noted are fits =
    windows_made all before number (register + 1) (done ++ None ∷ []) windows image legal.1 (omega (arith, length-append done (None ∷ []))) (noted ∙ sym (append_assoc done (None ∷ []) (replicate (length windows) None))) are fits
windows_made all before number register done (Some window ∷ windows) image legal is noted are fits =
    let body = Window register window.segment window.write in
    let after : windows_of (before ++ plain_at number body ∷ []) ≡ (done ++ Some window ∷ []) ++ replicate (length windows) None =
    windows_push before (plain_at number body) ∙ rw (noted, set_at done None (replicate (length windows) None) (Some window) (register - 1) (omega arith)) (sym (append_assoc done (Some window ∷ []) (replicate (length windows) None))) in
    one_more all before (made (number + 1) (window_bodies (register + 1) windows ++ image_bodies image)) number body [] image refl refl (omega arith) (rw noted (takes done (replicate (length windows) None) register window is legal.0))
    (windows_made all (before ++ plain_at number body ∷ []) (number + 1) (register + 1) (done ++ Some window ∷ []) windows image legal.1 (omega (arith, length-append done (Some window ∷ []))) after are (omega (arith, total_push before (plain_at number body))))

-- data
abbrev IsData : Body → Type 0
IsData (Data count value) = Unit {0}
IsData _ = ⊥

bytes_data : (bytes : List ℕ) → AllByRecursion IsData (map byte_body bytes)
bytes_data [] = tt
bytes_data (byte ∷ bytes) = (tt, bytes_data bytes)

image_data : (bytes : List ℕ) → AllByRecursion IsData (image_bodies bytes)
image_data (a ∷ b ∷ c ∷ d ∷ bytes) = (tt, image_data bytes)
image_data bytes = bytes_data bytes

-- data keeps the windows and the entry address
windows_kept : (windows : List (Option Sight)) (number : ℕ) (bodies : List Body) → AllByRecursion IsData bodies → fold (λ windows (statement : Statement). with_window windows statement.body) windows (made number bodies) ≡ windows
windows_kept windows number [] are = refl
windows_kept windows number (Data count value ∷ bodies) are = windows_kept windows (number + 1) bodies are.1
windows_kept windows number (_ ∷ bodies) are = absurd are.0

entry_kept : (addresses : List ℕ → Option ℤ) (entry : Option ℕ) (number : ℕ) (bodies : List Body) → AllByRecursion IsData bodies → fold (λ entry (statement : Statement). entry_after addresses entry statement.body) entry (made number bodies) ≡ entry
entry_kept addresses entry number [] are = refl
entry_kept addresses entry number (Data count value ∷ bodies) are = entry_kept addresses entry (number + 1) bodies are.1
entry_kept addresses entry number (_ ∷ bodies) are = absurd are.0

-- the windows are noted at their places
windows_noted : (number register : ℕ) (done windows : List (Option Sight)) (bodies : List Body) → length done + 1 ≡ register → AllByRecursion IsData bodies
    → fold (λ windows (statement : Statement). with_window windows statement.body) (done ++ replicate (length windows) None) (made number (window_bodies register windows ++ bodies)) ≡ done ++ windows
windows_noted number register done [] bodies is are = windows_kept (done ++ []) number bodies are
windows_noted number register done (None ∷ windows) bodies is are =
    rw (sym (append_assoc done (None ∷ []) (replicate (length windows) None)), sym (append_assoc done (None ∷ []) windows))
    (windows_noted number (register + 1) (done ++ None ∷ []) windows bodies (omega (arith, length-append done (None ∷ []))) are)
windows_noted number register done (Some window ∷ windows) bodies is are =
    ap behind (set_at done None (replicate (length windows) None) (Some window) (register - 1) (omega arith))
    ∙ ap behind (sym (append_assoc done (Some window ∷ []) (replicate (length windows) None)))
    ∙ windows_noted (number + 1) (register + 1) (done ++ Some window ∷ []) windows bodies (omega (arith, length-append done (Some window ∷ []))) are
    ∙ append_assoc done (Some window ∷ []) windows
  where
    behind : List (Option Sight) → List (Option Sight)
    behind before = fold (λ windows (statement : Statement). with_window windows statement.body) before (made (number + 1) (window_bodies (register + 1) windows ++ bodies))

-- windows keep the entry address
entry_stays : (addresses : List ℕ → Option ℤ) (entry : Option ℕ) (number register : ℕ) (windows : List (Option Sight)) (bodies : List Body) → AllByRecursion IsData bodies
    → fold (λ entry (statement : Statement). entry_after addresses entry statement.body) entry (made number (window_bodies register windows ++ bodies)) ≡ entry
entry_stays addresses entry number register [] bodies are = entry_kept addresses entry number bodies are
entry_stays addresses entry number register (None ∷ windows) bodies are = entry_stays addresses entry number (register + 1) windows bodies are
entry_stays addresses entry number register (Some window ∷ windows) bodies are = entry_stays addresses entry (number + 1) (register + 1) windows bodies are

-- the parts of a program are assembled from its entry address, its windows and its image
pub source_made : (number : ℕ) (parts : Parts) → AllByRecursion IsByte parts.image → length parts.image ≤ 16384 → parts.entry ≤ 16382 → parts.entry % 2 ≡ 0 → AllByRecursion IsLegalPlace parts.windows → length parts.windows ≡ 15 → assembled (made number (source_bodies parts)) ≡ Ok parts
source_made number parts are few small even legal long = rw (image, entry, windows) refl
  where
    all : List Statement
    all = made number (source_bodies parts)

    even_told : even_at_most 16382 (pos parts.entry) ≡ Some parts.entry
    even_told = rw (eq-eqb (parts.entry % 2) 0 even, le-leb parts.entry 16382 small) refl

    encoded : encoding_of (addresses_of all) 0 (Entry (Number (pos parts.entry))) ≡ Ok []
    encoded = rw even_told refl

    first : Statement
    first = plain_at number (Entry (Number (pos parts.entry)))

    image : image_behind all [] all ≡ Ok parts.image
    image =
        one_more all [] (made (number + 1) (window_bodies 1 parts.windows ++ image_bodies parts.image)) number (Entry (Number (pos parts.entry))) [] parts.image encoded refl (omega arith) refl
        (windows_made all (first ∷ []) (number + 1) 1 [] parts.windows parts.image legal (omega arith) (rw long refl) are (omega arith))

    entry : entry_of (addresses_of all) all ≡ Some parts.entry
    entry =
        ap (λ entry. fold (λ entry (statement : Statement). entry_after (addresses_of all) entry statement.body) entry (made (number + 1) (window_bodies 1 parts.windows ++ image_bodies parts.image))) even_told
        ∙ (entry_stays (addresses_of all) (Some parts.entry) (number + 1) 1 parts.windows (image_bodies parts.image) (image_data parts.image))

    windows : windows_of all ≡ parts.windows
    windows =
        ap (λ (count : ℕ). fold (λ windows (statement : Statement). with_window windows statement.body) (replicate count None) (made (number + 1) (window_bodies 1 parts.windows ++ image_bodies parts.image))) (sym long)
        ∙ (windows_noted (number + 1) 1 [] parts.windows (image_bodies parts.image) (omega arith) (image_data parts.image))
