use Rattle.store_calls.proofs.Common.{◌≡◌, subst, vec_len, IfOk, Header, fresh, total}
use Rattle.store_calls.proofs.tried_store.try_store.Goals as goal

pub returns-clause-bytes : goal.returns-clause-bytes
returns-clause-bytes c =
    subst (λ (header : Header). IfOk c.fresh.result (λ store. store.items ≡ fresh header)) c.try_header.ensures c.fresh.ensures.bytes

pub returns-clause-len : goal.returns-clause-len
returns-clause-len c =
    subst (λ (header : Header). IfOk c.fresh.result (λ store. vec_len store ≡ total header)) c.try_header.ensures c.fresh.ensures.len
