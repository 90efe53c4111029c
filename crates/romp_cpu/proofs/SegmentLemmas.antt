-- A storage with a program's segment registers checks accesses as the plain machine does.
use Rattle.romp_cpu.proofs.Common.{refl, ℕ, zero, suc, ◌+◌, ◌/◌, ◌%◌, ◌^◌, nat_le, ◌&&◌, not, cond, Bool, true, false, slice_index_or, Option, Some, None, option_map, Result, Ok, Err, get_or-map, PageSize, Layout, length_of, start_of, Check, Virtual, virtual_at, located_under, Private, Shared, Refused, Program, Window, in_segment, in_window, in_register, Access, unless_absent_at, answered_at, answered, ChecksAlike, access_place, register_of_window, registers_of_program, nat_tests, arith}

-- an access that lies somewhere gets no check
no-check : (absent refused : Option Virtual) (at : ℕ) → ChecksAlike (unless_absent_at absent refused) (Private at) × ChecksAlike (unless_absent_at absent refused) (Shared at)
no-check None None at = (tt, tt)
no-check None (Some v) at = (tt, tt)
no-check (Some v) refused at = (tt, tt)

module _ (page : PageSize) (is_in_frame : Virtual → Bool) (refuses : Virtual → Bool → Bool) (access : Access) where
  -- under register 0
  private-alike :
      (private offset : ℕ) (inside store : Bool)
      → ChecksAlike
      (answered_at page is_in_frame refuses access
      (cond {A = Result Virtual Check} inside (cond {A = Result Virtual Check} (store && false) (Err (record { 0 = 7 })) (Ok (virtual_at page private offset))) (Err (record { 0 = 2 }))))
      (cond inside (Private offset) (Refused 2))
  private-alike private offset true true = (no-check _ _ offset).0
  private-alike private offset true false = (no-check _ _ offset).0
  private-alike private offset false store = refl

  -- under a window
  segment-alike :
      (segment offset place : ℕ) (inside refused : Bool)
      → ChecksAlike
      (answered_at page is_in_frame refuses access
      (cond {A = Result Virtual Check} inside (cond {A = Result Virtual Check} refused (Err (record { 0 = 7 })) (Ok (virtual_at page segment offset))) (Err (record { 0 = 2 }))))
      (cond inside (cond refused (Refused 7) (Shared place)) (Refused 2))
  segment-alike segment offset place true true = refl
  segment-alike segment offset place true false = (no-check _ _ place).1
  segment-alike segment offset place false refused = refl

  length-alike :
      (d : Layout) (w : Window) (length : Option ℕ) (offset bytes : ℕ) (store : Bool)
      → ChecksAlike
      (answered_at page is_in_frame refuses access
      (located_under page (option_map (λ length. record { segment = w.segment; bytes = length; write = w.write }) length) offset bytes store))
      (in_segment d w length offset bytes store)
  length-alike d w None offset bytes store = refl
  length-alike d w (Some length) offset bytes store =
      segment-alike w.segment offset (start_of d w.segment + offset) (nat_le (offset + bytes) length) (store && not w.write)

  window-alike :
      (d : Layout) (w : Option Window) (offset bytes : ℕ) (store : Bool)
      → ChecksAlike
      (answered_at page is_in_frame refuses access (located_under page (register_of_window d w) offset bytes store))
      (in_window d w offset bytes store)
  window-alike d None offset bytes store = refl
  window-alike d (Some w) offset bytes store = length-alike d w (length_of d w.segment) offset bytes store

  register-alike :
      (p : Program) (d : Layout) (private i offset bytes : ℕ) (store : Bool)
      → ChecksAlike
      (answered_at page is_in_frame refuses access (located_under page (slice_index_or (registers_of_program p d private).list i None) offset bytes store))
      (in_register p d i offset bytes store)
  register-alike p d private zero offset bytes store = private-alike private offset (nat_le (offset + bytes) 16384) store
  register-alike p d private (suc i) offset bytes store = grind (arith, nat_tests, get_or-map (register_of_window d) p.windows i None, window-alike d (slice_index_or p.windows i None) offset bytes store)

-- whatever its frames and entries are
pub checks-alike :
    (is_in_frame : Virtual → Bool) (refuses : Virtual → Bool → Bool) (access : Access) (p : Program) (d : Layout) (private : ℕ)
    → ChecksAlike (answered (registers_of_program p d private) is_in_frame refuses access) (access_place p d access)
checks-alike is_in_frame refuses access p d private =
    register-alike d.page is_in_frame refuses access p d private (access.address / 2 ^ 28) (access.address % 2 ^ 28) access.bytes access.store
