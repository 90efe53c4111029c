use Rattle.page_table.proofs.Common.{register_with, ◌≡◌, ℕ, List, Option, None, ap, arith, drop, get_or, subst}
use Rattle.std.proofs.lemmas.List.FromFn.{fill_by_all}
use Rattle.page_table.specs.declared.segment_regs.SegmentRegister.{SegmentRegister}
use Rattle.page_table.proofs.segment_regs.SegmentRegs.new.Goals as goal

pub returns : goal.returns
returns c =
    let none : c.loop-left.left ≡ 0 = omega (arith, c.loop-left-test.false) in
    ap (λ (list : List (Option SegmentRegister)). record { page = c.args.page; list = list })
    (fill_by_all (register_with c.args.private c.args.windows.now) c.loop-left.registers 16 None c.loop-left.invariant.long
    (λ k below. subst (λ (left : ℕ). get_or c.loop-left.registers k None ≡ register_with c.args.private (drop left c.args.windows.now) k) none (c.loop-left.invariant.each k below)))
