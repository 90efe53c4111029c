use Rattle.frame_pool.proofs.Lemmas.{ap, ◌∙◌, sym, pool_places, came-brought}
use Rattle.frame_pool.specs.Pool.{with_room}
use Rattle.frame_pool.proofs.pool.FramePool.bring.Goals as goal

pub returns-clause-brought : goal.returns-clause-brought
returns-clause-brought c =
    rw (← c.self.view_is)
    (came-brought c.self.inside c.self-2.inside c.args.keep c.args.page c.come.result (pool_places c.come.new.self)
    (c.self-2.view_is ∙ c.make_room-out.ensures.value ∙ ap (λ pool. with_room pool c.args.keep) (sym c.self.view_is)) c.come.ensures)
