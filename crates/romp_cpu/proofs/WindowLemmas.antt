-- What stands under a program's segment registers, and which segments a legal directory has.
use Rattle.romp_cpu.proofs.Common.{◌≡◌, refl, ℕ, suc, ◌+◌, ◌<◌, ◌≤◌, ◌^◌, cond, Bool, true, false, List, [], ◌∷◌, All, find, slice_index_or, Option, Some, None, option_map, arith, sym, ◌∙◌, get_or-map, nat_tests, PageSize, Layout, length_of, start_of, byte_count, SegmentRegister, Program, Window, register_of_window, registers_of_program}
use Rattle.std.proofs.lemmas.List.Elements.{All-head, All-tail}
use Rattle.lines.specs.Legal.{IsInRange, AreSegmentsLegal}
use Rattle.lines.specs.Segments.{page_bytes, bytes_of, is_named}
use Rattle.lines.proofs.LegalLemmas.{legal_bytes}
use Rattle.lines.proofs.WithinLemmas.{segment-within}

-- what stands under the register of a window is a segment of the store with its bytes
window-segment :
    (directory : Layout) (window : Option Window) (r : SegmentRegister)
    → register_of_window directory window ≡ Some r → length_of directory r.segment ≡ Some r.bytes
window-segment directory None r stands = absurd (cc)
window-segment directory (Some window) r stands = grind (arith, nat_tests)

-- so is what stands under each register of a program from 1 on
pub register-window :
    (program : Program) (directory : Layout) (private i : ℕ) (r : SegmentRegister)
    → slice_index_or (registers_of_program program directory private).list (suc i) None ≡ Some r
    → length_of directory r.segment ≡ Some r.bytes
register-window program directory private i r stands = grind (arith, nat_tests, window-segment directory (slice_index_or program.windows i None) r (sym (get_or-map (register_of_window directory) program.windows i None) ∙ stands), get_or-map (register_of_window directory) program.windows i None)

-- what is found by its identifier has it, and is in range where all are
found-low :
    (identifier bytes page : ℕ) (segments : List (ℕ × ℕ)) → All IsInRange segments
    → option_map (bytes_of page) (find (is_named identifier) segments) ≡ Some bytes → identifier < 3840
found-low identifier bytes page [] all found = absurd (cc)
found-low identifier bytes page (segment ∷ rest) all found =
    by_name (is_named identifier segment) refl (found-low identifier bytes page rest (All-tail IsInRange segment rest all)) found
  where
    low : segment.0 ≤ 3839
    low = (All-head IsInRange segment rest all).1

    by_name :
        (named : Bool) → is_named identifier segment ≡ named
        → (option_map (bytes_of page) (find (is_named identifier) rest) ≡ Some bytes → identifier < 3840)
        → option_map (bytes_of page) (cond named (Some segment) (find (is_named identifier) rest)) ≡ Some bytes
        → identifier < 3840
    by_name true is inner found = grind (arith, nat_tests, low)
    by_name false is inner found = inner found

-- a segment that a legal directory has is below 3,840
pub named-low :
    (segments : List (ℕ × ℕ)) (identifier bytes : ℕ) (page : PageSize) → AreSegmentsLegal segments
    → length_of (record { page = page; segments = segments; fine = 0 }) identifier ≡ Some bytes → identifier < 3840
named-low segments identifier bytes page legal found = found-low identifier bytes (page_bytes page) segments legal.in_range found

-- and has at most 4 MiB
pub bytes-low :
    (segments : List (ℕ × ℕ)) (identifier bytes : ℕ) (page : PageSize) → AreSegmentsLegal segments
    → length_of (record { page = page; segments = segments; fine = 0 }) identifier ≡ Some bytes → bytes ≤ 2 ^ 22
bytes-low segments identifier bytes page legal found =
    let directory : Layout = record { page = page; segments = segments; fine = 0 } in
    let within : start_of directory identifier + bytes ≤ byte_count directory = segment-within directory identifier bytes found in
    omega (arith, within, legal_bytes directory legal)
