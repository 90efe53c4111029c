use Rattle.storage_unit.proofs.Lemmas.{fits-lent}
use Rattle.storage_unit.proofs.Common.{subst, refl, sym, ◌∙◌, ap, inl, inr, arith, nat_tests, lines_of_bits, all-lines}
use Rattle.storage_unit.proofs.IncomingLemmas.{is-filled, is-kept, all-marked, has-gone-out, still-ready, still-clear, lent-long}
use Rattle.storage_unit.proofs.unit.Unit.bring_in.Goals as goal

pub returns-then-bits : goal.returns-then-bits
returns-then-bits g c = record {
  rest = grind (arith, nat_tests);
  kept = λ all. (refl, refl);
  unread = tt;
  out = tt;
  came = inr (
    refl,
    is-kept c.args.self.now c.bring-slot.new.self c.args.page c.args.keep c.bring-slot.result.frame _ c.bring-slot.ensures.brought c.bring-slot.ensures.rest refl c.lay_kept.new.self c.lay_kept.ensures
        (sym all-lines ∙ ap lines_of_bits (sym c.if-bits.true) ∙ c.bits.ensures ∙ c.written.ensures) c.requires.page,
  );
}

pub returns-in-Ok : goal.returns-in-Ok
returns-in-Ok g c = record {
  rest = grind (arith, nat_tests);
  unread = tt;
  out = tt;
  kept = λ all. absurd (c.if-bits.false (all-marked c.args.self.now c.bring-slot.new.self c.args.page c.args.keep c.bring-slot.result.frame c.bring-slot.ensures.brought c.bits.result c.bits.type_inv (c.bits.ensures ∙ c.written.ensures) all));
  came = inl (
    c.read_page-read.new.into,
    c.in-Ok.ensures.read,
    is-filled c.args.self.now c.bring-slot.new.self c.args.page c.args.keep c.bring-slot.result.frame c.page_mut.result.now c.bring-slot.ensures.brought c.bring-slot.ensures.rest c.page_mut.ensures.value c.read_page-read.new.into c.lay_kept-2.new.self c.read_page-read.auto.into c.lay_kept-2.ensures,
  );
}

pub returns-in-Err : goal.returns-in-Err
returns-in-Err g c = record {
  rest = grind (arith, nat_tests);
  came = tt;
  unread = c.in-Err.ensures.unread;
  kept = λ all. absurd (c.if-bits.false (all-marked c.args.self.now c.bring-slot.new.self c.args.page c.args.keep c.bring-slot.result.frame c.bring-slot.ensures.brought c.bits.result c.bits.type_inv (c.bits.ensures ∙ c.written.ensures) all));
  out = has-gone-out c.args.self.now c.bring-slot.new.self c.args.page c.args.keep c.bring-slot.result.frame c.page_mut.result.now c.bring-slot.ensures.brought c.bring-slot.ensures.rest c.page_mut.ensures.value
      c.read_page-read.new.into c.lay_kept-2.new.self c.read_page-read.auto.into c.lay_kept-2.ensures c.empty.new.self c.empty.ensures;
}

pub page_mut-requires : goal.page_mut-requires
page_mut-requires g c = grind (arith, nat_tests)

pub lay_kept-requires-2 : goal.lay_kept-requires-2
lay_kept-requires-2 g c = grind (arith, nat_tests)

pub invariant_of-self-clause-fits : goal.invariant_of-self-clause-fits
invariant_of-self-clause-fits g c = let unit = c.bring-slot.new.self in fits-lent unit.directory unit.pool unit.fits _ c.read_page-read.new.into

pub invariant_of-self-clause-ready : goal.invariant_of-self-clause-ready
invariant_of-self-clause-ready g c = still-ready c.args.self.now c.bring-slot.new.self c.args.page c.args.keep c.bring-slot.result.frame c.page_mut.result.now c.bring-slot.ensures.brought c.bring-slot.ensures.rest c.page_mut.ensures.value c.read_page-read.new.into c.read_page-read.auto.into

pub invariant_of-self-clause-clear : goal.invariant_of-self-clause-clear
invariant_of-self-clause-clear g c = still-clear c.args.self.now c.bring-slot.new.self c.args.page c.args.keep c.bring-slot.result.frame c.page_mut.result.now c.bring-slot.ensures.brought c.bring-slot.ensures.rest c.page_mut.ensures.value c.read_page-read.new.into c.read_page-read.auto.into

pub read_page-read-requires : goal.read_page-read-requires
read_page-read-requires g c =
    subst (g.P.Pages.can_read c.args.pages.now c.args.outside.now c.args.page)
    (sym (lent-long c.args.self.now c.bring-slot.new.self c.args.page c.args.keep c.bring-slot.result.frame c.page_mut.result.now c.bring-slot.ensures.brought c.bring-slot.ensures.rest c.page_mut.ensures.value)) c.requires.can_read
