use Rattle.activations.proofs.Lemmas.{page_count, line_bytes, LinesOf, Header, record_bytes, begun_of, with_line, StoreView, ◌+◌, ◌*◌, ◌≤◌, ℕ, List, length, sym, ◌∙◌, ap, subst, arith, Adds, adds-all, adds-none, adds-next, adds-one, next-line, next-above, next-room, shown-long}
use Rattle.activations.proofs.PoolLemmas.{lines-fit}
use Rattle.activations.proofs.commit_record.record_lines.Goals as goal

pub loop-line-init : goal.loop-line-init
loop-line-init c =
    adds-all c.args.pool.now c.args.page c.args.lines c.into_iter-line-iterator.result.left c.args.store.now
    (ap (λ (lines : LinesOf). lines.left) c.into_iter-line-iterator.ensures.into_iter_gives ∙ c.lines-line-items.ensures.value)
    c.lines-line-items.ensures.of_page c.requires.begun c.requires.before c.requires.room

pub written_line-requires-clause-line : goal.written_line-requires-clause-line
written_line-requires-clause-line c = next-line (adds-next c.in-Some.ensures.steps c.loop-line.invariant)

pub record_line-requires-clause-whole : goal.record_line-requires-clause-whole
record_line-requires-clause-whole c = ap (λ (bytes : List ℕ). length bytes) c.written_line.ensures.value
    ∙ shown-long c.args.pool.now c.written_line.ensures.seen c.args.page c.in-Some.line c.requires.page (next-line (adds-next c.in-Some.ensures.steps c.loop-line.invariant))
    ∙ ap line_bytes (c.requires.size ∙ sym (ap (λ (store : StoreView). store.header.directory.page) c.loop-line.invariant.shape))

pub record_line-requires-clause-below : goal.record_line-requires-clause-below
record_line-requires-clause-below c =
    let same = ap (λ (store : StoreView). page_count store.header.directory) c.loop-line.invariant.shape in
    omega (arith, same, c.requires.below, next-line (adds-next c.in-Some.ensures.steps c.loop-line.invariant), c.from.ensures, c.from-in-loop-line.ensures)

pub record_line-requires-clause-ascending : goal.record_line-requires-clause-ascending
record_line-requires-clause-ascending c = λ k d within.
    let above = next-above (adds-next c.in-Some.ensures.steps c.loop-line.invariant) k d within in
    omega (arith, above, c.from.ensures, c.from-in-loop-line.ensures)

pub record_line-requires-clause-room : goal.record_line-requires-clause-room
record_line-requires-clause-room c =
    let room = next-room (adds-next c.in-Some.ensures.steps c.loop-line.invariant) in
    subst (λ (header : Header). record_bytes header.directory.page (length (begun_of c.loop-line.store.bank) + 1) + 1 ≤ header.bank_bytes)
    (sym (ap (λ (store : StoreView). store.header) c.loop-line.invariant.shape))
    (lines-fit c.args.store.now.header.directory.page c.args.store.now.header.bank_bytes (length (begun_of c.loop-line.store.bank)) room)

pub loop-line-preserved : goal.loop-line-preserved
loop-line-preserved c = adds-one (adds-next c.in-Some.ensures.steps c.loop-line.invariant) c.record_line.new.self
    (c.record_line.ensures
    ∙ (λ i. record c.loop-line.store { bank = with_line c.loop-line.store.bank (c.from.ensures i * 16 + c.from-in-loop-line.ensures i) (c.written_line.ensures.value i) }))

pub returns : goal.returns
returns c = adds-none c.args.pool.now c.args.page c.args.lines c.args.store.now c.loop-line.store
    (subst (λ (left : List ℕ). Adds c.args.pool.now c.args.page c.args.lines c.args.store.now left c.loop-line.store) c.in-None.ensures.steps.0 c.loop-line.invariant)
