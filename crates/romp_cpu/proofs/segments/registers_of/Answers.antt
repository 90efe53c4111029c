use Rattle.romp_cpu.proofs.Common.{◌==◌, cond, option_or, length-map, nat_tests, fill_by_all, get_or-map, PageSize, SegmentRegister, register_at, register_of, register_with, registers_with, Layout, Program, register_of_window, registers_of_program, arith, ap, refl, sym, ◌∙◌, ◌≡◌, ◌≢◌, ℕ, zero, suc, ◌<◌, Bool, false, List, [], ◌∷◌, ◌++◌, Option, Some, None, length, length-append, get_or}
use Rattle.std.proofs.lemmas.List.Folds.{find-append}
use Rattle.romp_cpu.proofs.segments.registers_of.Goals as goal
use Rattle.romp_cpu.proofs.segments.registers_of.Goals.{in-Some, in_default}

-- the windows with one more: the first with a number is among those before, if one of them has it
pushed :
    (windows : List (ℕ × ℕ × ℕ × Bool)) (window : ℕ × ℕ × ℕ × Bool) (k : ℕ)
    → register_at (windows ++ window ∷ []) k ≡ option_or (register_at windows k) (cond (window.0 == k) (Some (register_of window)) None)
pushed windows window k = grind (arith, nat_tests, find-append)

-- under its own number it is found, where none before it has that
pushed-same :
    (windows : List (ℕ × ℕ × ℕ × Bool)) (window : ℕ × ℕ × ℕ × Bool) (k : ℕ)
    → window.0 ≡ k → register_at windows k ≡ None → register_at (windows ++ window ∷ []) k ≡ Some (register_of window)
pushed-same windows window k same none = grind (arith, nat_tests, pushed)

-- under another number the same as before
pushed-other :
    (windows : List (ℕ × ℕ × ℕ × Bool)) (window : ℕ × ℕ × ℕ × Bool) (k : ℕ)
    → window.0 ≢ k → register_at (windows ++ window ∷ []) k ≡ register_at windows k
pushed-other windows window k other = grind (arith, nat_tests, pushed)

-- fifteen windows and the private segment are all sixteen registers
listed :
    (program : Program) (directory : Layout) (private : ℕ) (windows : List (ℕ × ℕ × ℕ × Bool)) → length program.windows ≡ 15
    → ((k : ℕ) → k < 15 → register_at windows (suc k) ≡ register_of_window directory (get_or program.windows k None))
    → registers_of_program program directory private ≡ registers_with directory.page private windows
listed program directory private windows size each =
    ap (λ (list : List (Option SegmentRegister)). record { page = directory.page; list = list })
    (fill_by_all (register_with private windows) (registers_of_program program directory private).list 16 None
    (omega (arith, length-map program.windows (register_of_window directory)))
    at)
  where
    at : (k : ℕ) → k < 16 → get_or (registers_of_program program directory private).list k None ≡ register_with private windows k
    at zero below = refl
    at (suc k) below =
        let other : (suc k == 0) ≡ false = grind (arith, nat_tests) in
        rw other (get_or-map (register_of_window directory) program.windows k None ∙ sym (each k (omega arith)))

pub loop-place-preserved : goal.loop-place-preserved
loop-place-preserved c = grind (arith, nat_tests, in-Some, length-append, pushed-other, pushed-same, in_default)

pub returns : goal.returns
returns c =
    c.new.ensures
    ∙ ap (λ (page : PageSize). registers_with page c.args.private c.deref.result.now) c.page.ensures
    ∙ ap (registers_with c.args.directory.now.page c.args.private) c.deref.ensures.0
    ∙ sym
    (listed c.args.program.now c.args.directory.now c.args.private c.loop-place.present.items (omega arith)
    (λ k below. c.loop-place.invariant.each k (omega (arith, c.loop-place-test.false))))
