use Rattle.frame_pool.proofs.Lemmas.{ℕ, sym, ◌∙◌, ap, Pool, pool_emptied, gone, emptied_none, emptied_step, has, not, option_to_list, None, find-in}
use Rattle.frame_pool.proofs.pool.FramePool.empty.Goals as goal

pub leave-requires : goal.leave-requires
leave-requires c =
    rw (← c.self.view_is)
    (find-in (λ (page : ℕ). not (has (option_to_list None) page)) c.self.inside.places.resident.order c.in-Some.page (sym c.first_but.ensures ∙ c.in-Some.is))

pub loop-page-preserved : goal.loop-page-preserved
loop-page-preserved c =
    ap pool_emptied c.leave.ensures.value
    ∙ ap (λ (pool : Pool). pool_emptied (gone pool c.in-Some.page)) (sym c.self.view_is)
    ∙ emptied_step c.self.inside c.in-Some.page (sym c.first_but.ensures ∙ c.in-Some.is)
    ∙ ap pool_emptied c.self.view_is
    ∙ c.loop-page.invariant

pub returns : goal.returns
returns c =
    sym c.self.view_is
    ∙ sym (emptied_none c.self.inside (sym c.first_but.ensures ∙ c.in_default.is))
    ∙ ap pool_emptied c.self.view_is
    ∙ c.loop-page.invariant
